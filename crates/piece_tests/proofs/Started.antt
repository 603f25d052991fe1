-- Pieces of the tests: the start, one or two pieces that an arc needs, and pieces of stage one that are pieces of stage two.
use Rattle.std.specs.Prelude.{◌≡◌, ◌⊎◌, ⊤, ℕ, zero, suc, ◌<◌, ◌≤◌, ◌-◌, slice_index_or, List, [], ◌∷◌, ◌++◌, map, length, pos}
use Rattle.std.specs.List.{All}
use Rattle.std.proofs.Common.{refl, sym, ap, subst, ◌∙◌, inl, inr, arith}
use Rattle.std.proofs.lemmas.Int.{ints}
use Rattle.gain_graphs.specs.Arcs.{IsIn, AreDistinct, Touches}
use Rattle.gain_graphs.specs.QuasiTrees.{IsQuasiTree, LiesIn}
use Rattle.gain_graphs.proofs.Lists.{in_front, in_map, in_map_of}
use Rattle.np_frac.specs.Ratio.{Ratio, zero_ratio, whole, ◌≤ᵣ◌}
use Rattle.np_frac.specs.Fits.{Fits}
use Rattle.np_model.specs.declared.arc.Ends.{Ends}
use Rattle.np_model.specs.declared.arc.Ends.TheVariants.{Link, Drain, Feed}
use Rattle.np_model.specs.declared.log.Mark.{Mark}
use Rattle.np_model.specs.declared.log.Mark.TheVariants.{Lower, Upper, Basic}
use Rattle.np_model.specs.declared.arc.NetArc.{NetArc}
use Rattle.np_model.specs.declared.network.FullNet.{FullNet}
use Rattle.np_model.specs.declared.phase.Phase.{Phase}
use Rattle.np_model.specs.declared.phase.Phase.TheVariants.{One, Two}
use Rattle.np_model.specs.Network.Arcs.{tail_of, head_of, IsWithin}
use Rattle.np_model.specs.Network.Flows.{Network, at}
use Rattle.np_model.specs.Basis.Graphs.{ratios, graph_ends, arc_at, ends_at}
use Rattle.np_model.specs.Basis.Needed.{LinksBoth, AreNeededFor}
use Rattle.np_model.specs.Basis.Phases.{phase_arcs, network_of, with_artificial, phase_net, real_arc, artificial_arc, real_arcs, all_arcs}
use Rattle.np_model.specs.Basis.Pieces.{PieceLists, nodes_in, basics_in, ends_in, marked_in, nodes_of}
use Rattle.np_model.specs.Basis.Sound.{bound_at, IsInNet, IsSound, AreSound}
use Rattle.np_model.specs.Basis.States.{StandsAt, values_of, IsPieceOf}
use Rattle.gain_graphs.specs.Forests.{IsValid}
use Rattle.np_model.specs.Basis.Starts.{artificial_ends, start_piece, start_net, start_state, ResidualsFit}
use Rattle.np_basis.specs.Laws.{HasSoundArcs}
use Rattle.std.specs.List.Sorted.{IsStrictlyIncreasing}
use Rattle.np_frac.proofs.RatioLaws.{≤ᵣ_refl}
use Rattle.np_model.proofs.FullNets.{real_at, artificial_at}
use Rattle.np_model.specs.Rows.Arcs.{residual_of}
use Rattle.np_model.specs.declared.network.StartBasis.{StartBasis}
use Rattle.basis_start.specs.Start.{ResidualFits, IsStart}
use Rattle.basis_start.proofs.Residuals.{residual_exact, residual_fits}
use Rattle.np_frac.proofs.Results.{ok_is}
use Rattle.np_basis.proofs.Ascending.{ascends, ascends_once}
use Rattle.np_basis.proofs.Directions as directions
use Rattle.np_basis.proofs.Fulls.{length_full, ends_same}
use Rattle.np_basis.proofs.Sound.{one_entry, alone_apart}
use Rattle.np_model.specs.declared.piece.Hands.{Hands}
use Rattle.np_model.specs.declared.piece.Prepared.{Prepared}
use Rattle.np_model.specs.declared.piece.Prepared.TheVariants as prepared
use Rattle.np_model.specs.Basis.Attempts.{IsPrepared, OnReady}
use Rattle.quasi_tree.specs.Store.{Store}
use Rattle.piece_lists.specs.Parts.{lists_in}
use Rattle.pivot_step.specs.After.{HasRightPotentials}
use Rattle.pivot_step.specs.Named.{BecomeBySomePivot}
use Rattle.pivot_step.specs.Steps.{IsSettled}
use Rattle.pivot_step.proofs.Beside.{swapped_sound, with_others}
use Rattle.np_basis.proofs.Reading.{pieces_are_sound}
use Rattle.np_basis.proofs.Starting.{start_is_state}
use Rattle.np_basis.proofs.StartPieces.{start_piece_is_piece}
use Rattle.quasi_tree.specs.Start.{piece_at_start}
use Rattle.quasi_tree.specs.Laws.{PiecesByResiduals}

-- ---- the start

nodes_alone : (net : Network) (vs : List ℕ) → nodes_of (map (start_piece net) vs) ≡ vs
nodes_alone net [] = refl
nodes_alone net (v ∷ vs) = ap (λ t. v ∷ t) (nodes_alone net vs)

start_alone : (net : Network) (vs : List ℕ) → HasSoundArcs net → ResidualsFit net → AreDistinct vs → ((v : ℕ) → IsIn v vs → v < length net.supply) → AreSound (start_net One net) (map (start_piece net) vs)
start_alone net vs sound fit once below =
    pieces_are_sound (start_net One net) (start_state net) (map (start_piece net) vs) (start_is_state net sound fit)
    (λ p i. let r = in_map_of (start_piece net) p vs i in subst (λ (x : PieceLists). IsPieceOf (start_net One net) (values_of (start_state net)) x) (sym r.2) (start_piece_is_piece net r.0 (below r.0 r.1)))
    (subst AreDistinct (sym (nodes_alone net vs)) once)

pub start_is_sound : (full : FullNet) (vs : List ℕ) → full.artificial ≡ artificial_ends (network_of full.net) → ResidualsFit (network_of full.net) → AreDistinct vs
    → ((v : ℕ) → IsIn v vs → v < length full.net.supply) → AreSound (phase_net One full) (map (start_piece (network_of full.net)) vs)
start_is_sound full vs artificial fit once below =
    subst (λ (es : List Ends). AreSound (with_artificial One (network_of full.net) es) (map (start_piece (network_of full.net)) vs)) (sym artificial)
    (start_alone (network_of full.net) vs full.net.valid.sound fit once below)

residuals_fit : (net : Network) → length net.supply ≡ 2 → ((v : ℕ) → v < length net.supply → ResidualFits net v) → Fits (at net.supply 0) → Fits (at net.supply 1) → ResidualsFit net
residuals_fit net two fit left right v below =
    let r = ok_is (residual_of net.arcs v (at net.supply v)) (fit v below) in
    subst Fits (residual_exact net v r.0 r.1) (residual_fits net v r.0 (supplies v below) r.1)
  where
    supplies : (v : ℕ) → v < length net.supply → Fits (at net.supply v)
    supplies zero l = left
    supplies (suc zero) l = right
    supplies (suc (suc v)) l = absurd (omega (arith, two))

pub start_of_two : PiecesByResiduals → (net : Network) (basis : StartBasis) (p q : PieceLists) → length net.supply ≡ 2 → IsStart net basis → Fits (at net.supply 0) → Fits (at net.supply 1)
    → p ≡ piece_at_start basis.full 0 → q ≡ piece_at_start basis.full 1 → AreSound (phase_net One basis.full) (p ∷ q ∷ [])
start_of_two law net basis p q two is left right e f =
    let first : p ≡ start_piece (network_of basis.full.net) 0 = e ∙ law basis.full 0 by_residuals (omega (arith, long)) in
    let second : q ≡ start_piece (network_of basis.full.net) 1 = f ∙ law basis.full 1 by_residuals (omega (arith, long)) in
    subst (λ x. AreSound (phase_net One basis.full) (x ∷ q ∷ [])) (sym first) (subst (λ x. AreSound (phase_net One basis.full) (start_piece (network_of basis.full.net) 0 ∷ x ∷ [])) (sym second)
    (start_is_sound basis.full (0 ∷ 1 ∷ []) by_residuals (subst ResidualsFit (sym is.same) (residuals_fit net two is.start.residuals_fit left right))
    ((λ i. elim i [ inl z ↦ absurd (omega (arith, z)) | inr z ↦ z ]), ((λ i. i), record {})) below))
  where
    by_residuals : basis.full.artificial ≡ artificial_ends (network_of basis.full.net)
    by_residuals = is.start.artificial_are ∙ ap artificial_ends (sym is.same)

    long : length basis.full.net.supply ≡ 2
    long = ap (λ (n : Network). length n.supply) is.same ∙ two

    below : (v : ℕ) → IsIn v (0 ∷ 1 ∷ []) → v < length basis.full.net.supply
    below v (inl e) = omega (arith, e, long)
    below v (inr (inl e)) = omega (arith, e, long)
    below v (inr (inr z)) = absurd z

-- ---- the pieces that an arc needs

abbrev pub IsLink : Ends → Type 0
IsLink (Link i j g) = ⊤
IsLink (Drain i) = ⊥
IsLink (Feed i) = ⊥

lies_in : (ns : List ℕ) (e : Ends) (n : ℕ) → IsValid ratios n (graph_ends e) → IsIn (tail_of e) ns → IsIn (head_of e) ns → LiesIn ratios ns (graph_ends e)
lies_in ns (Link i j g) n v l m = (l, m, v.2)
lies_in ns (Drain i) n v l m = l
lies_in ns (Feed i) n v l m = l

split : (a n : ℕ) → (a < n) ⊎ (n ≤ a)
split a n = grind arith

pub arc_inside : (phase : Phase) (full : FullNet) (a : ℕ) → a < all_arcs full → a < length (phase_net phase full).arcs
arc_inside phase full a l = subst (λ n. a < n) (sym (length_full phase full.net.arcs full.artificial)) l

pub one_holds : (net : Network) (p : PieceLists) (a : ℕ) → HasSoundArcs net → a < length net.arcs → IsIn (tail_of (ends_at net.arcs a)) (nodes_in p) → IsIn (head_of (ends_at net.arcs a)) (nodes_in p)
    → AreNeededFor (p ∷ []) (ends_at net.arcs a)
one_holds net p a sound below l m =
    lies_in (nodes_in p ++ []) (ends_at net.arcs a) (length net.supply) (directions.ends_valid net sound a below) (in_front _ (nodes_in p) [] l) (in_front _ (nodes_in p) [] m)

links_in : (ns ms : List ℕ) (e : Ends) → (IsIn (tail_of e) ns × IsIn (head_of e) ms) ⊎ (IsIn (tail_of e) ms × IsIn (head_of e) ns) → IsLink e → LinksBoth ns ms e
links_in ns ms (Link i j g) h l = h
links_in ns ms (Drain i) h l = absurd l
links_in ns ms (Feed i) h l = absurd l

pub two_link : (net : Network) (p q : PieceLists) (a : ℕ) → IsLink (ends_at net.arcs a)
    → (IsIn (tail_of (ends_at net.arcs a)) (nodes_in p) × IsIn (head_of (ends_at net.arcs a)) (nodes_in q)) ⊎ (IsIn (tail_of (ends_at net.arcs a)) (nodes_in q) × IsIn (head_of (ends_at net.arcs a)) (nodes_in p))
    → AreNeededFor (p ∷ q ∷ []) (ends_at net.arcs a)
two_link net p q a l h = links_in (nodes_in p) (nodes_in q) (ends_at net.arcs a) h l

-- ---- from stage one to stage two

in_both : (a : NetArc) (f : Ratio) → IsWithin (real_arc One a) f → IsWithin a f
in_both a f h = h

stands_both : (a : NetArc) (m : Mark) → StandsAt (real_arc One a) m (bound_at (real_arc One a) m) → StandsAt a m (bound_at a m)
stands_both a Lower h = h
stands_both a Upper h = h
stands_both a Basic h = h

stands_artificial : (e : Ends) (m : Mark) → StandsAt (artificial_arc Two e) m (bound_at (artificial_arc Two e) m)
stands_artificial e Lower = refl
stands_artificial e Upper = refl
stands_artificial e Basic = record {}

module _ (full : FullNet) where
  abbrev first : Network
  first = phase_net One full

  abbrev second : Network
  second = phase_net Two full

  as_long : length first.arcs ≡ length second.arcs
  as_long = length_full One full.net.arcs full.artificial ∙ sym (length_full Two full.net.arcs full.artificial)

  is_all : (a : ℕ) → a < length first.arcs → a < all_arcs full
  is_all a l = subst (λ n. a < n) (length_full One full.net.arcs full.artificial) l

  artificial_of : ℕ → Ends
  artificial_of a = slice_index_or full.artificial (a - length full.net.arcs) (Drain 0)

  within : (a : ℕ) (f : Ratio) → a < length first.arcs → (real_arcs full ≤ a → f ≡ zero_ratio) → IsWithin (arc_at first.arcs a) f → IsWithin (arc_at second.arcs a) f
  within a f l idle h = elim (split a (real_arcs full)) [
    | inl r ↦ subst (λ z. IsWithin z f) (sym (real_at Two full.net.arcs full.artificial a r)) (in_both (arc_at full.net.arcs a) f (subst (λ z. IsWithin z f) (real_at One full.net.arcs full.artificial a r) h))
    | inr r ↦ subst (λ z. IsWithin z f) (sym (artificial_at Two full.net.arcs full.artificial a r (is_all a l))) (subst (λ t. IsWithin (artificial_arc Two (artificial_of a)) t) (sym (idle r)) (≤ᵣ_refl zero_ratio, ≤ᵣ_refl zero_ratio))
  ]

  stands : (a : ℕ) (m : Mark) → a < length first.arcs → StandsAt (arc_at first.arcs a) m (bound_at (arc_at first.arcs a) m) → StandsAt (arc_at second.arcs a) m (bound_at (arc_at second.arcs a) m)
  stands a m l h = elim (split a (real_arcs full)) [
    | inl r ↦ subst (λ z. StandsAt z m (bound_at z m)) (sym (real_at Two full.net.arcs full.artificial a r)) (stands_both (arc_at full.net.arcs a) m (subst (λ z. StandsAt z m (bound_at z m)) (real_at One full.net.arcs full.artificial a r) h))
    | inr r ↦ subst (λ z. StandsAt z m (bound_at z m)) (sym (artificial_at Two full.net.arcs full.artificial a r (is_all a l))) (stands_artificial (artificial_of a) m)
  ]

  -- a piece of stage one is in the network of stage two
  module _ (p q : PieceLists) (own : IsInNet first p) (nodes : nodes_in q ≡ nodes_in p) (basics : q.basics ≡ p.basics) (marks : q.marks ≡ p.marks) where
    basics_same : basics_in q ≡ basics_in p
    basics_same = ap (map (λ (b : ℕ × Ends × Ratio). b.0)) basics

    marked_same : marked_in q ≡ marked_in p
    marked_same = ap (map (λ (m : ℕ × Mark). m.0)) marks

    pub in_second : IsInNet second q
    in_second = record {
      shape = record {
        nodes_ascend = subst IsStrictlyIncreasing (sym nodes) own.shape.nodes_ascend;
        basics_ascend = subst IsStrictlyIncreasing (sym basics_same) own.shape.basics_ascend;
        marks_ascend = subst IsStrictlyIncreasing (sym marked_same) own.shape.marks_ascend;
        quasi_tree = subst (λ bs. IsQuasiTree ratios (nodes_in q) (map graph_ends (map (λ (b : ℕ × Ends × Ratio). b.1) bs))) (sym basics)
            (subst (λ ns. IsQuasiTree ratios ns (map graph_ends (ends_in p))) (sym nodes) own.shape.quasi_tree);
        others = λ a i j. own.shape.others a (subst (IsIn a) marked_same i) (subst (IsIn a) basics_same j);
        at_bounds = λ m i. own.shape.at_bounds m (subst (IsIn m) marks i);
      };
      nodes = λ v i. own.nodes v (subst (IsIn v) nodes i);
      basic = λ b i. let r = own.basic b (subst (IsIn b) basics i) in (subst (λ n. b.0 < n) as_long r.0, r.1 ∙ ends_same Two full b.0);
      marked = λ a. (
        (λ i. let r = (own.marked a).0 (subst (IsIn a) marked_same i) in (
          subst (λ n. a < n) as_long r.0,
          (λ j. r.1 (subst (IsIn a) basics_same j)),
          subst (λ e. Touches (nodes_in q) (graph_ends e)) (ends_same Two full a) (subst (λ ns. Touches ns (graph_ends (ends_at first.arcs a))) (sym nodes) r.2),
        )),
        (λ r. subst (IsIn a) (sym marked_same) ((own.marked a).1 (
          subst (λ n. a < n) (sym as_long) r.0,
          (λ j. r.1 (subst (IsIn a) (sym basics_same) j)),
          subst (λ e. Touches (nodes_in p) (graph_ends e)) (sym (ends_same Two full a)) (subst (λ ns. Touches ns (graph_ends (ends_at second.arcs a))) nodes r.2),
        ))),
      );
    }

  -- where it carries nothing on artificial arcs, it is a sound one with its potentials there
  pub turned : (p q : PieceLists) → IsSound first p → ((b : ℕ × Ends × Ratio) → IsIn b p.basics → real_arcs full ≤ b.0 → b.2 ≡ zero_ratio) → nodes_in q ≡ nodes_in p → q.basics ≡ p.basics → q.marks ≡ p.marks
      → HasRightPotentials second q → IsSound second q
  turned p q sound idle nodes basics marks right = record {
    in_net = in_second p q sound.in_net nodes basics marks;
    within = λ b i. let j = subst (IsIn b) basics i in within b.0 b.2 (sound.in_net.basic b j).0 (idle b j) (sound.within b j);
    allowed = λ m i. let j = subst (IsIn m) marks i in stands m.0 m.1 ((sound.in_net.marked m.0).0 (in_map (λ (x : ℕ × Mark). x.0) m p.marks j)).0 (sound.allowed m j);
    priced = right.priced;
    flows_fit = λ b i. sound.flows_fit b (subst (IsIn b) basics i);
    potentials_fit = right.fit;
    rows_fit = right.rows_fit;
  }

-- a piece alone is apart
pub alone_sound : (net : Network) (p : PieceLists) → IsSound net p → AreSound net (p ∷ [])
alone_sound net p h = record {
  each = λ x i. elim i [ inl e ↦ subst (IsSound net) (sym e) h | inr z ↦ absurd z ];
  apart = alone_apart (nodes_in p) (ascends_once (nodes_in p) (ascends (nodes_in p) h.in_net.shape.nodes_ascend));
  one_mark = λ x y m k i j u v e. elim i [
    | inl f ↦ elim j [
      | inl g ↦ ap (λ (z : ℕ × Mark). z.1) (one_entry (λ (z : ℕ × Mark). z.0) p.marks (ascends (marked_in p) h.in_net.shape.marks_ascend) m k (subst (λ t. IsIn m t.marks) f u) (subst (λ t. IsIn k t.marks) g v) e)
      | inr z ↦ absurd z
    ]
    | inr z ↦ absurd z
  ];
}

pub three_at_least : zero_ratio ≤ᵣ whole (pos 3)
unfolding whole
three_at_least = record { cross = omega (arith, ints) }

of_all : {A : Type 0} (P : A → Type 0) (l : List A) → All P l → (z : A) → IsIn z l → P z
of_all P [] h z i = absurd i
of_all P (y ∷ l) h z (inl e) = subst P (sym e) (h zero y (omega arith))
of_all P (y ∷ l) h z (inr i) = of_all P l (λ j d m. h (suc j) d (omega arith)) z i

pub in_second_alone : (full : FullNet) (p : PieceLists) → AreSound (phase_net One full) (p ∷ []) → IsInNet (phase_net Two full) p
in_second_alone full p sound = in_second full p p (sound.each p (inl refl)).in_net refl refl refl

pub turned_alone : (full : FullNet) (p q : PieceLists) → AreSound (phase_net One full) (p ∷ []) → All (λ (b : ℕ × Ends × Ratio). real_arcs full ≤ b.0 → b.2 ≡ zero_ratio) p.basics → IsSettled (phase_net Two full) p q
    → AreSound (phase_net Two full) (q ∷ [])
turned_alone full p q sound idle s =
    alone_sound (phase_net Two full) q (turned full p q (sound.each p (inl refl)) (of_all (λ (b : ℕ × Ends × Ratio). real_arcs full ≤ b.0 → b.2 ≡ zero_ratio) p.basics idle) s.nodes s.basics s.marks s.potentials)

pub first_alone : (net : Network) (p q : PieceLists) → AreSound net (p ∷ q ∷ []) → AreSound net (p ∷ [])
first_alone net p q h = alone_sound net p (h.each p (inl refl))

pub second_alone : (net : Network) (p q : PieceLists) → AreSound net (p ∷ q ∷ []) → AreSound net (q ∷ [])
second_alone net p q h = alone_sound net q (h.each q (inr (inl refl)))

-- the piece after a pivot of the second one, beside the first one
pub second_after : (net : Network) (real : ℕ) (p q r : PieceLists) → AreSound net (p ∷ q ∷ []) → BecomeBySomePivot net real (q ∷ []) (r ∷ []) → AreSound net (r ∷ p ∷ [])
second_after net real p q r h b = with_others net real (q ∷ []) (p ∷ []) (swapped_sound net p q h) b.entry (r ∷ []) b.pivoted.is_after

-- a pivot that can be made is one of the pieces that it was prepared on
pub named : (net : Network) (real : ℕ) (pieces : List PieceLists) (arc : ℕ) (answer : Prepared (Hands Store)) → IsPrepared net real pieces arc lists_in answer
    → OnReady (λ (change : Hands Store). BecomeBySomePivot net real pieces (lists_in change)) answer
named net real pieces arc (prepared.Ready entry change) h = record { arc = arc; entry = entry; pivoted = h }
named net real pieces arc prepared.NotEligible h = tt
named net real pieces arc (prepared.Ray direction) h = tt
named net real pieces arc (prepared.Past overflow) h = tt
named net real pieces arc prepared.Memory h = tt
