-- The piece of a node at the start.
use Rattle.std.specs.Prelude.{◌≡◌, ℕ, ◌+◌, ◌<◌, ◌^◌, ◌-◌, Bool, true, false, if◌then◌else◌, List, [], ◌∷◌, ◌++◌, length, map, filter}
use Rattle.std.specs.List.{range_with_len}
use Rattle.std.proofs.Common.{refl, sym, ap, subst, ◌∙◌, inl, inr, arith, get_or}
use Rattle.std.proofs.lemmas.List.{get_or_default, ext_get_or, length-append, length-map, get_or-append_right}
use Rattle.std.proofs.lemmas.List.FromFn.{filter_of_map_range_with_len_more, get_or-map-range_with_len, length-map-range_with_len}
use Rattle.std.proofs.lemmas.List.Sums.{length-filter, count_by-le-length}
use Rattle.gain_graphs.specs.Arcs.{HasOneEnd}
use Rattle.gain_graphs.specs.QuasiTrees.{LiesIn, IsQuasiTree}
use Rattle.np_frac.specs.Ratio.{Ratio, zero_ratio, one_ratio, negated, is_below}
use Rattle.np_model.specs.declared.arc.Ends.{Ends}
use Rattle.np_model.specs.declared.arc.Ends.TheVariants.{Link, Drain, Feed}
use Rattle.np_model.specs.declared.arc.NetArc.{NetArc}
use Rattle.np_model.specs.declared.log.Mark.{Mark}
use Rattle.np_model.specs.declared.log.Mark.TheVariants.{Lower}
use Rattle.np_model.specs.declared.network.FullNet.{FullNet}
use Rattle.np_model.specs.Network.Flows.{Network}
use Rattle.np_model.specs.Basis.Artificial.{IsOneEndAt}
use Rattle.np_model.specs.Basis.Graphs.{no_arc, ends_at, ratios, graph_ends}
use Rattle.np_model.specs.Basis.Phases.{network_of}
use Rattle.np_model.specs.Basis.Pieces.{PieceLists, HasShape}
use Rattle.np_model.specs.Basis.Starts.{residual, artificial_end, artificial_flow, artificial_ends, start_potential, nodes_from_0, start_piece, touches}
use Rattle.np_basis.proofs.Reading.{map_map}
use Rattle.np_basis.proofs.StartPieces.{start_piece_has_shape}
use Rattle.quasi_tree.specs.Start.{artificial_at, end_potential, end_flow, artificial_flow_at, flows_at_start, piece_at_start}
use Rattle.quasi_tree.specs.Laws.{FlowsByResiduals, PotentialsByResiduals, PiecesByResiduals}
use Rattle.quasi_tree.specs.Store.{IsHeld}

-- the marks of the arcs so far, and that of the next one
pub one_more_mark : (arcs : List NetArc) (v i : ℕ) (d : NetArc) (old new : List (ℕ × Mark)) → i < length arcs
    → old ≡ filter (λ m. touches (ends_at arcs m.0) v) (map (λ a. (a, Lower)) (range_with_len 0 i))
    → new ≡ old ++ (if touches (get_or arcs i d).ends v then (i, Lower) ∷ [] else [])
    → new ≡ filter (λ m. touches (ends_at arcs m.0) v) (map (λ a. (a, Lower)) (range_with_len 0 (i + 1)))
one_more_mark arcs v i d old new below before after =
    let ends : (get_or arcs i d).ends ≡ ends_at arcs i = ap (λ (a : NetArc). a.ends) (get_or_default arcs i d no_arc below) in
    after
    ∙ ap (λ (t : List (ℕ × Mark)). t ++ (if touches (get_or arcs i d).ends v then (i, Lower) ∷ [] else [])) before
    ∙ ap (λ (e : Ends). filter (λ m. touches (ends_at arcs m.0) v) (map (λ a. (a, Lower)) (range_with_len 0 i)) ++ (if touches e v then (i, Lower) ∷ [] else [])) ends
    ∙ sym (filter_of_map_range_with_len_more (λ (m : ℕ × Mark). touches (ends_at arcs m.0) v) (λ a. (a, Lower)) 0 i i (omega arith))

-- ---- the piece of a node

-- one node and an arc with one end there are a quasi-tree
one_node_tree : (v : ℕ) (ends : Ends) → IsOneEndAt v ends → IsQuasiTree ratios (v ∷ []) (graph_ends ends ∷ [])
one_node_tree v ends one = record {
  nodes_once = ((λ i. i), record {});
  some_node = (v, inl refl);
  ends_inside = λ e. elim [ inl p ↦ subst (LiesIn ratios (v ∷ [])) (sym p) (inside ends one) | inr i ↦ absurd i ];
  joined = λ u w i j. elim i [ inl p ↦ elim j [ inl r ↦ ([], p ∙ sym r) | inr k ↦ absurd k ] | inr k ↦ absurd k ];
  as_many = refl;
  extra = inl (graph_ends ends, inl refl, one_ended ends one);
}
  where
    inside : (e : Ends) → IsOneEndAt v e → LiesIn ratios (v ∷ []) (graph_ends e)
    inside (Link from to gain) h = absurd h
    inside (Drain at) h = inl h
    inside (Feed at) h = inl h

    one_ended : (e : Ends) → IsOneEndAt v e → HasOneEnd (graph_ends e)
    one_ended (Link from to gain) h = absurd h
    one_ended (Drain at) h = record {}
    one_ended (Feed at) h = record {}

-- the piece of a node at the start has the shape of one, since that of its residual has, and so it can be held
pub held_start : (full : FullNet) (v : ℕ) → v < length full.net.supply → length full.net.arcs < 2 ^ 32 → IsHeld (piece_at_start full v)
held_start full v below few = record {
  stored = inr (record {
    nodes_ascend = shape.nodes_ascend;
    basics_ascend = shape.basics_ascend;
    marks_ascend = shape.marks_ascend;
    quasi_tree = one_node_tree v (artificial_at full v) (full.valid.at_nodes v (Drain v) below);
    others = shape.others;
    at_bounds = shape.at_bounds;
  });
  few_nodes = omega arith;
  few_basics = omega arith;
  few_marks =
      let p : ℕ × Mark → Bool = λ m. touches (ends_at full.net.arcs m.0) v in
      let all : List (ℕ × Mark) = map (λ a. (a, Lower)) (range_with_len 0 (length full.net.arcs)) in
      omega (arith, few, length-filter p all, count_by-le-length p all, length-map-range_with_len {X = ℕ × Mark} (λ (a : ℕ). (a, Lower)) 0 (length full.net.arcs));
}
  where
    shape : HasShape (start_piece (network_of full.net) v)
    shape = start_piece_has_shape (network_of full.net) v

-- there is a flow for each arc
pub flows_long : (full : FullNet) (flows : List Ratio) → flows ≡ flows_at_start full → length flows ≡ length full.net.arcs + length full.net.supply
flows_long full flows flows_are =
    let real : List Ratio = map (λ (a : NetArc). a.lower) full.net.arcs in
    let artificial : List Ratio = map (artificial_flow_at full) (nodes_from_0 (network_of full.net)) in
    omega (
      arith,
      ap (λ (t : List Ratio). length t) flows_are,
      length-append real artificial,
      length-map full.net.arcs (λ (a : NetArc). a.lower),
      length-map-range_with_len (artificial_flow_at full) 0 (length full.net.supply),
    )

-- and its lists are what is read in those of the start
pub single_is : (full : FullNet) (v : ℕ) (flows : List Ratio) (potential : Ratio) (d e : Ends) (x : Ratio) (piece : PieceLists) → v < length full.net.supply
    → flows ≡ flows_at_start full → potential ≡ end_potential (get_or full.artificial v d)
    → piece.nodes ≡ (v, potential) ∷ [] → piece.basics ≡ (length full.net.arcs + v, get_or full.artificial v e, get_or flows (length full.net.arcs + v) x) ∷ []
    → piece.marks ≡ (start_piece (network_of full.net) v).marks → piece ≡ piece_at_start full v
single_is full v flows potential d e x piece below flows_are potential_is nodes basics marks =
    let m : ℕ = length full.net.arcs in
    let within : v < length full.artificial = omega (arith, below, full.valid.one_each) in
    let ends : (o : Ends) → get_or full.artificial v o ≡ artificial_at full v = λ o. get_or_default full.artificial v o (Drain v) within in
    let flow : get_or flows (m + v) x ≡ artificial_flow_at full v = ap (λ (t : List Ratio). get_or t (m + v) x) flows_are
    ∙ get_or-append_right (map (λ (a : NetArc). a.lower) full.net.arcs) (map (artificial_flow_at full) (nodes_from_0 (network_of full.net))) m (m + v) x (length-map full.net.arcs (λ (a : NetArc). a.lower)) (omega arith)
    ∙ get_or-map-range_with_len (artificial_flow_at full) 0 (length full.net.supply) (m + v - m) v x (omega arith) (omega arith) in
    let price : potential ≡ end_potential (artificial_at full v) = potential_is ∙ ap end_potential (ends d) in
    rw (nodes, basics, marks, price, ends e, flow) refl

-- ---- by the residuals

potential_by_end : (net : Network) (v : ℕ) → end_potential (artificial_end net v) ≡ start_potential net v
potential_by_end net v = either (is_below (residual net v) zero_ratio)
  where
    either : (b : Bool) → end_potential (if b then Feed v else Drain v) ≡ (if b then negated one_ratio else one_ratio)
    either true = refl
    either false = refl

flow_by_end : (net : Network) (v : ℕ) → end_flow (artificial_end net v) (residual net v) ≡ artificial_flow net v
flow_by_end net v = either (is_below (residual net v) zero_ratio) (residual net v)
  where
    either : (b : Bool) (left : Ratio) → end_flow (if b then Feed v else Drain v) left ≡ (if b then negated left else left)
    either true left = refl
    either false left = refl

module _ (full : FullNet) (by_residuals : full.artificial ≡ artificial_ends (network_of full.net)) where
  abbrev net : Network
  net = network_of full.net

  end_is : (v : ℕ) → v < length full.net.supply → artificial_at full v ≡ artificial_end net v
  end_is v below = ap (λ (t : List Ends). get_or t v (Drain v)) by_residuals ∙ get_or-map-range_with_len (artificial_end net) 0 (length full.net.supply) v v (Drain v) below (omega arith)

  flow_is : (v : ℕ) → v < length full.net.supply → artificial_flow_at full v ≡ artificial_flow net v
  flow_is v below = ap (λ (e : Ends). end_flow e (residual net v)) (end_is v below) ∙ flow_by_end net v

  flows_are : map (artificial_flow_at full) (nodes_from_0 net) ≡ map (artificial_flow net) (nodes_from_0 net)
  flows_are =
      let n : ℕ = length full.net.supply in
      let long : length (map (artificial_flow_at full) (nodes_from_0 net)) ≡ n = length-map-range_with_len (artificial_flow_at full) 0 n in
      ext_get_or zero_ratio (map (artificial_flow_at full) (nodes_from_0 net)) (map (artificial_flow net) (nodes_from_0 net))
      (long ∙ sym (length-map-range_with_len (artificial_flow net) 0 n))
      (λ i below.
      let node : i < n = omega (arith, below, long) in
      get_or-map-range_with_len (artificial_flow_at full) 0 n i i zero_ratio node (omega arith) ∙ flow_is i node
      ∙ sym (get_or-map-range_with_len (artificial_flow net) 0 n i i zero_ratio node (omega arith)))

pub flows_by_residuals : FlowsByResiduals
flows_by_residuals full by_residuals =
    ap (λ (t : List Ratio). map (λ (a : NetArc). a.lower) full.net.arcs ++ t) (flows_are full by_residuals)

potentials_at : (n : Network) (xs : List ℕ) → map (λ v. end_potential (artificial_end n v)) xs ≡ map (start_potential n) xs
potentials_at n [] = refl
potentials_at n (x ∷ xs) = ap (λ t. end_potential (artificial_end n x) ∷ t) (potentials_at n xs) ∙ ap (λ p. p ∷ map (start_potential n) xs) (potential_by_end n x)

pub potentials_by_residuals : PotentialsByResiduals
potentials_by_residuals full by_residuals =
    let net : Network = network_of full.net in
    ap (λ (t : List Ends). map end_potential t) by_residuals ∙ map_map (artificial_end net) end_potential (nodes_from_0 net) ∙ potentials_at net (nodes_from_0 net)

pub pieces_by_residuals : PiecesByResiduals
pieces_by_residuals full v by_residuals below =
    rw (end_is full by_residuals v below, potential_by_end (network_of full.net) v, flow_by_end (network_of full.net) v) refl
