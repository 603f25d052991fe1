-- The state that a pivot of pieces makes of the state whose pieces they are.
use Rattle.std.specs.Prelude.{◌≡◌, ◌≢◌, ◌⊎◌, ◌↔◌, ℕ, ◌<◌, ◌≤◌, List, ◌∷◌, map, length}
use Rattle.std.proofs.Common.{refl, sym, ap, subst, ◌∙◌, inl, inr, arith}
use Rattle.std.proofs.lemmas.List.FromFn.{get_or-map-range_with_len, length-map-range_with_len}
use Rattle.std.proofs.lemmas.Slice.Zip.{length-zip}
use native.Mathlib.Decide.{ℕ_discrete}
use Rattle.gain_graphs.specs.Arcs as graph
use Rattle.gain_graphs.specs.Arcs.{IsIn, Touches}
use Rattle.gain_graphs.specs.QuasiTrees.{LiesIn}
use Rattle.gain_graphs.proofs.Lists.{decide_in}
use Rattle.gain_graphs.proofs.Pieces as graph_pieces
use Rattle.gain_graphs.proofs.Sums as graph_sums
use Rattle.np_frac.specs.Ratio.{Ratio, zero_ratio, ◌+ᵣ◌, ◌*ᵣ◌}
use Rattle.np_model.specs.declared.arc.NetArc.{NetArc}
use Rattle.np_model.specs.declared.log.Mark.{Mark}
use Rattle.np_model.specs.declared.log.Mark.TheVariants as marked
use Rattle.np_model.specs.declared.log.Entry.{Entry}
use Rattle.np_model.specs.Network.Arcs.{IsWithin}
use Rattle.np_model.specs.Network.Flows.{Network, at, balance, Feasible}
use Rattle.np_model.specs.Basis.Graphs.{ratios, graph_of, arc_at, ends_at}
use Rattle.np_model.specs.Basis.Moves.{sign, KeepsBounds, IsTowards, Stops, IsMove, IsEligible, mark_after}
use Rattle.np_model.specs.Basis.Pieces.{PieceLists, nodes_of, basics_of}
use Rattle.np_model.specs.Basis.Pivots.{node_numbers, arc_numbers}
use Rattle.np_model.specs.Basis.Sound.{values_in, IsAfter}
use Rattle.np_model.specs.Basis.States.{State, values_of, StandsAt, basics, IsForest, IsState}
use Rattle.np_basis.specs.PivotLaws.{HasRealArcs, ArePiecesOf}
use Rattle.np_basis.proofs.Balanced.{balance_of, balance_moved}
use Rattle.np_basis.proofs.Basics.{basics_hold, basics_once, zipped}
use Rattle.np_basis.proofs.Directions as directions
use Rattle.np_basis.proofs.Directions.{only_on, only_on_in, only_on_out}
use Rattle.np_basis.proofs.Held as held
use Rattle.np_basis.proofs.Held.{arc_number, arc_below, node_number, node_below}
use Rattle.np_basis.proofs.Leaving as leaving
use Rattle.np_basis.proofs.Pivoting as pivoting
use Rattle.np_basis.proofs.Pivoting.{mark_leave, mark_enter, mark_other, mark_after_same, not_towards, unmoved, Given}
use Rattle.np_basis.proofs.Reading as reading
use Rattle.np_basis.proofs.Reading.{within_at}
use Rattle.np_basis.proofs.Sound.{lies_touch}
use Rattle.np_basis.proofs.ToPieces.{move_same, eligible_same}
use Rattle.np_basis.specs.Laws.{AgreeWith}

pub given : (net : Network) (real : ℕ) (s : State) (ps : List PieceLists) (entry : Entry) (others : List PieceLists) → HasRealArcs net real → IsState net s → ArePiecesOf net (values_of s) ps
    → IsAfter net real ps entry others → Given net real s ps entry
given net real s ps entry others ground st pieces h = record { ground = ground; state = st; pieces = pieces; into = h.ends; eligible = eligible }
  where
    here : AgreeWith net (values_of s) ps
    here = reading.agrees net (values_of s) st.at_bounds ps pieces.each

    eligible : IsEligible net real (values_of s) entry.enter
    eligible = eligible_same net real (values_in net ps) (values_of s) (nodes_of ps) entry.enter h.ends
        (here.marks entry.enter (omega (arith, h.eligible.is_open.0, ground.few)) (lies_touch (nodes_of ps) (graph_of (ends_at net.arcs) entry.enter) h.ends)) here.potentials h.eligible

module _ (net : Network) (real : ℕ) (s : State) (ps : List PieceLists) (entry : Entry) (g : Given net real s ps entry) (others : List PieceLists) (h : IsAfter net real ps entry others) where
  pub here : AgreeWith net (values_of s) ps
  here = reading.agrees net (values_of s) g.state.at_bounds ps g.pieces.each

  pub leave_in : IsIn entry.leave (entry.enter ∷ basics_of ps)
  leave_in = h.move.leaves

  pub at_bound : entry.leave_at ≢ marked.Basic
  at_bound = not_towards (h.direction entry.leave) entry.leave_at h.move.stops.towards

  below : (a : ℕ) → IsIn a (entry.enter ∷ basics_of ps) → a < length net.arcs
  below = pivoting.hand_below net real s ps entry g

  touches : (a : ℕ) → IsIn a (entry.enter ∷ basics_of ps) → Touches (nodes_of ps) (graph_of (ends_at net.arcs) a)
  touches = pivoting.hand_touches net real s ps entry g

  -- ---- the move, over all nodes and arcs

  move_here : IsMove net (values_of s) (nodes_of ps) (entry.enter ∷ basics_of ps) (basics_of ps) entry h.direction h.step
  move_here = move_same net (values_in net ps) (values_of s) (nodes_of ps) (entry.enter ∷ basics_of ps) (basics_of ps) entry h.direction h.step
      (here.marks entry.enter (below entry.enter (inl refl)) (touches entry.enter (inl refl))) (λ a i. here.flows a (below a i) (touches a i)) h.move

  -- the direction of the pieces, and 0 elsewhere
  pub whole : ℕ → Ratio
  whole = only_on (entry.enter ∷ basics_of ps) h.direction

  pub whole_in : (a : ℕ) → IsIn a (entry.enter ∷ basics_of ps) → whole a ≡ h.direction a
  unfolding whole
  whole_in a i = only_on_in (entry.enter ∷ basics_of ps) h.direction a i

  pub whole_out : (a : ℕ) → (¬ IsIn a (entry.enter ∷ basics_of ps)) → whole a ≡ zero_ratio
  unfolding whole
  whole_out a k = only_on_out (entry.enter ∷ basics_of ps) h.direction a k

  stops_here : (t : Ratio) (a : ℕ) (m : Mark) (d e : ℕ → Ratio) → d a ≡ e a → Stops net (values_of s) d t a m → Stops net (values_of s) e t a m
  stops_here t a m d e same k = record {
    moves = subst (λ x. x ≢ zero_ratio) same k.moves;
    towards = subst (λ x. IsTowards x m) same k.towards;
    rests = subst (λ x. StandsAt (arc_at net.arcs a) m (at s.flows a +ᵣ t *ᵣ x)) same k.rests;
  }

  pub move : IsMove net (values_of s) (node_numbers net) (arc_numbers net) (basics net.arcs (values_of s).mark) entry whole h.step
  unfolding whole
  move = record {
    direction = held.extends net g.ground.sound s g.state ps g.pieces entry.enter (pivoting.may net real s ps entry g) (sign ((values_of s).mark entry.enter)) h.direction move_here.direction;
    within = within;
    greatest = λ z k. move_here.greatest z (λ a i. subst (λ x. IsWithin (arc_at net.arcs a) (at s.flows a +ᵣ z *ᵣ x)) (whole_in a i) (k a (arc_number net a (below a i))));
    leaves = arc_number net entry.leave (below entry.leave leave_in);
    stops = stops_here h.step entry.leave entry.leave_at h.direction whole (sym (whole_in entry.leave leave_in)) move_here.stops;
    first = first;
  }
    where
      within : KeepsBounds net (values_of s) (arc_numbers net) whole h.step
      within a i = elim (decide_in a (entry.enter ∷ basics_of ps)) [
        | yes j ↦ subst (λ x. IsWithin (arc_at net.arcs a) (at s.flows a +ᵣ h.step *ᵣ x)) (sym (whole_in a j)) (move_here.within a j)
        | no k ↦ subst (IsWithin (arc_at net.arcs a)) (sym (unmoved (at s.flows a) h.step (whole a) (whole_out a k))) (within_at net s g.state a (arc_below net a i))
      ]

      first : (a : ℕ) (m : Mark) → IsIn a (arc_numbers net) → Stops net (values_of s) whole h.step a m → (entry.leave ≡ entry.enter) ⊎ ((a ≢ entry.enter) × (entry.leave ≤ a))
      first a m i k = elim (decide_in a (entry.enter ∷ basics_of ps)) [
        | yes j ↦ move_here.first a m j (stops_here h.step a m whole h.direction (whole_in a j) k)
        | no n ↦ absurd (k.moves (whole_out a n))
      ]

  -- ---- the state

  new_potential : ℕ → Ratio
  new_potential v = elim (decide_in v (nodes_of ps)) [ yes i ↦ (values_in net others).potential v | no k ↦ at s.potentials v ]

  pub made : State
  made = record {
    marks = map (mark_after entry (values_of s).mark) (arc_numbers net);
    flows = map (λ a. at s.flows a +ᵣ h.step *ᵣ whole a) (arc_numbers net);
    potentials = map new_potential (node_numbers net);
  }

  pub length_marks : length made.marks ≡ length net.arcs
  unfolding made
  length_marks = length-map-range_with_len (mark_after entry (values_of s).mark) 0 (length net.arcs)

  pub length_flows : length made.flows ≡ length net.arcs
  unfolding made
  length_flows = length-map-range_with_len (λ a. at s.flows a +ᵣ h.step *ᵣ whole a) 0 (length net.arcs)

  pub length_potentials : length made.potentials ≡ length net.supply
  unfolding made
  length_potentials = length-map-range_with_len new_potential 0 (length net.supply)

  pub made_mark : (a : ℕ) → a < length net.arcs → (values_of made).mark a ≡ mark_after entry (values_of s).mark a
  unfolding made
  made_mark a l = get_or-map-range_with_len (mark_after entry (values_of s).mark) 0 (length net.arcs) a a marked.Lower l (omega arith)

  pub made_flow : (a : ℕ) → a < length net.arcs → at made.flows a ≡ at s.flows a +ᵣ h.step *ᵣ whole a
  unfolding made
  made_flow a l = get_or-map-range_with_len (λ b. at s.flows b +ᵣ h.step *ᵣ whole b) 0 (length net.arcs) a a zero_ratio l (omega arith)

  pub potential_in : (v : ℕ) → v < length net.supply → IsIn v (nodes_of ps) → at made.potentials v ≡ (values_in net others).potential v
  unfolding made new_potential
  potential_in v l i = get_or-map-range_with_len new_potential 0 (length net.supply) v v zero_ratio l (omega arith) ∙ go (decide_in v (nodes_of ps))
    where
      go : (d : Dec (IsIn v (nodes_of ps))) → (elim d as (λ _. Ratio) [ yes j ↦ (values_in net others).potential v | no k ↦ at s.potentials v ]) ≡ (values_in net others).potential v
      go (yes j) = refl
      go (no k) = absurd (k i)

  pub potential_out : (v : ℕ) → v < length net.supply → (¬ IsIn v (nodes_of ps)) → at made.potentials v ≡ at s.potentials v
  unfolding made new_potential
  potential_out v l i = get_or-map-range_with_len new_potential 0 (length net.supply) v v zero_ratio l (omega arith) ∙ go (decide_in v (nodes_of ps))
    where
      go : (d : Dec (IsIn v (nodes_of ps))) → (elim d as (λ _. Ratio) [ yes j ↦ (values_in net others).potential v | no k ↦ at s.potentials v ]) ≡ at s.potentials v
      go (yes j) = absurd (i j)
      go (no k) = refl

  -- ---- what it says of an arc

  pub mark_out : (a : ℕ) → a < length net.arcs → (¬ IsIn a (entry.enter ∷ basics_of ps)) → (values_of made).mark a ≡ (values_of s).mark a
  mark_out a l k = made_mark a l ∙ pivoting.kept_mark net real s ps entry g leave_in at_bound a k

  pub flow_out : (a : ℕ) → a < length net.arcs → (¬ IsIn a (entry.enter ∷ basics_of ps)) → at made.flows a ≡ at s.flows a
  flow_out a l k = made_flow a l ∙ unmoved (at s.flows a) h.step (whole a) (whole_out a k)

  -- the marks of the pieces after
  pub mark_there : (a : ℕ) → a < length net.arcs → Touches (nodes_of ps) (graph_of (ends_at net.arcs) a) → (values_of made).mark a ≡ (values_in net others).mark a
  mark_there a l t = made_mark a l ∙ mark_after_same entry (values_of s).mark (values_in net ps).mark a (sym (here.marks a l t)) ∙ sym (h.marks a l t)

  pub was_hand : (a : ℕ) → a < length net.arcs → Touches (nodes_of ps) (graph_of (ends_at net.arcs) a) → (values_of made).mark a ≡ marked.Basic
      → IsIn a (entry.enter ∷ basics_of ps) × (a ≢ entry.leave)
  was_hand a l t e = pivoting.was net real s ps entry g leave_in at_bound a l t (sym (made_mark a l) ∙ e)

  -- ---- its flows

  pub is_feasible : Feasible net made.flows
  is_feasible = record {
    one_each = length_flows;
    balanced = balanced;
    within = λ k z l. let l' : k < length net.arcs = omega (arith, length-zip net.arcs made.flows, length_flows) in
        subst (λ (y : NetArc × Ratio). IsWithin y.0 y.1) (sym (zipped net.arcs made.flows length_flows k l' z))
        (subst (IsWithin (arc_at net.arcs k)) (sym (made_flow k l')) (move.within k (arc_number net k l')));
  }
    where
      nothing : (v : ℕ) → v < length net.supply → graph.balance ratios (graph_of (ends_at net.arcs)) whole (arc_numbers net) v ≡ zero_ratio
      nothing v l = sym (directions.balance_is net g.ground.sound (arc_numbers net) whole v (arc_below net)) ∙ move.direction.balanced v (node_number net v l)

      balanced : (v : ℕ) → v < length net.supply → balance net.arcs made.flows v ≡ at net.supply v
      balanced v l =
          balance_of net g.ground.sound made.flows length_flows v
          ∙ graph_sums.total_same ratios (λ a. graph.coefficient ratios (graph_of (ends_at net.arcs) a) v *ᵣ at made.flows a)
          (λ a. graph.coefficient ratios (graph_of (ends_at net.arcs) a) v *ᵣ (at s.flows a +ᵣ h.step *ᵣ whole a)) (arc_numbers net)
          (λ a i. ap (λ t. graph.coefficient ratios (graph_of (ends_at net.arcs) a) v *ᵣ t) (made_flow a (arc_below net a i)))
          ∙ balance_moved (graph_of (ends_at net.arcs)) (at s.flows) whole h.step (arc_numbers net) v
          ∙ unmoved (graph.balance ratios (graph_of (ends_at net.arcs)) (at s.flows) (arc_numbers net) v) h.step (graph.balance ratios (graph_of (ends_at net.arcs)) whole (arc_numbers net) v) (nothing v l)
          ∙ sym (balance_of net g.ground.sound s.flows g.state.feasible.one_each v) ∙ g.state.feasible.balanced v l

  pub stands : (a : ℕ) → a < length net.arcs → StandsAt (arc_at net.arcs a) ((values_of made).mark a) (at made.flows a)
  stands a l = subst (λ m. StandsAt (arc_at net.arcs a) m (at made.flows a)) (sym (made_mark a l))
      (subst (StandsAt (arc_at net.arcs a) (mark_after entry (values_of s).mark a)) (sym (made_flow a l)) (go (ℕ_discrete a entry.leave) (ℕ_discrete a entry.enter)))
    where
      go : Dec (a ≡ entry.leave) → Dec (a ≡ entry.enter) → StandsAt (arc_at net.arcs a) (mark_after entry (values_of s).mark a) (at s.flows a +ᵣ h.step *ᵣ whole a)
      go (yes e) _ = subst (λ b. StandsAt (arc_at net.arcs b) (mark_after entry (values_of s).mark b) (at s.flows b +ᵣ h.step *ᵣ whole b)) (sym e)
          (subst (λ m. StandsAt (arc_at net.arcs entry.leave) m (at s.flows entry.leave +ᵣ h.step *ᵣ whole entry.leave)) (sym (mark_leave entry (values_of s).mark)) move.stops.rests)
      go (no n) (yes e) = subst (λ m. StandsAt (arc_at net.arcs a) m (at s.flows a +ᵣ h.step *ᵣ whole a))
          (sym (ap (mark_after entry (values_of s).mark) e ∙ mark_enter entry (values_of s).mark (λ f. n (e ∙ f)))) (record {})
      go (no n) (no k) = subst (λ m. StandsAt (arc_at net.arcs a) m (at s.flows a +ᵣ h.step *ᵣ whole a)) (sym (mark_other entry (values_of s).mark a k n)) (other ((values_of s).mark a) refl)
        where
          -- an arc outside the basis is none of those in hand
          out : (values_of s).mark a ≢ marked.Basic → ¬ IsIn a (entry.enter ∷ basics_of ps)
          out m = elim [ inl e ↦ k e | inr i ↦ m (held.of_pieces net g.ground.sound (values_of s) ps g.pieces a i).1 ]

          same : (values_of s).mark a ≢ marked.Basic → at s.flows a ≡ at s.flows a +ᵣ h.step *ᵣ whole a
          same m = sym (unmoved (at s.flows a) h.step (whole a) (whole_out a (out m)))

          other : (m : Mark) → (values_of s).mark a ≡ m → StandsAt (arc_at net.arcs a) m (at s.flows a +ᵣ h.step *ᵣ whole a)
          other marked.Basic e = record {}
          other marked.Lower e = subst (StandsAt (arc_at net.arcs a) marked.Lower) (same (λ f. absurd (let p : (values_of s).mark a ≡ marked.Lower = e in let q : (values_of s).mark a ≡ marked.Basic = f in cc)))
              (subst (λ m. StandsAt (arc_at net.arcs a) m (at s.flows a)) e (g.state.at_bounds a l))
          other marked.Upper e = subst (StandsAt (arc_at net.arcs a) marked.Upper) (same (λ f. absurd (let p : (values_of s).mark a ≡ marked.Upper = e in let q : (values_of s).mark a ≡ marked.Basic = f in cc)))
              (subst (λ m. StandsAt (arc_at net.arcs a) m (at s.flows a)) e (g.state.at_bounds a l))

  -- ---- its forest

  entering : directions.Enters net g.ground.sound (node_numbers net) (arc_numbers net) (basics net.arcs (values_of s).mark) entry.enter
  entering = directions.of_whole net g.ground.sound (values_of s) entry.enter g.state.forest (below entry.enter (inl refl))
      (held.not_basic net g.ground.sound s g.state ps g.pieces entry.enter (pivoting.may net real s ps entry g))

  -- the entering arc and the basic ones, less the leaving one
  are : (a : ℕ) → IsIn a (basics net.arcs (values_of made).mark) ↔ (IsIn a (entry.enter ∷ basics net.arcs (values_of s).mark) × (a ≢ entry.leave))
  are a = (to, from)
    where
      to : IsIn a (basics net.arcs (values_of made).mark) → IsIn a (entry.enter ∷ basics net.arcs (values_of s).mark) × (a ≢ entry.leave)
      to i = go (ℕ_discrete a entry.leave) (ℕ_discrete a entry.enter)
        where
          k : (a < length net.arcs) × ((values_of made).mark a ≡ marked.Basic)
          k = (basics_hold net.arcs (values_of made).mark a).0 i

          m : mark_after entry (values_of s).mark a ≡ marked.Basic
          m = sym (made_mark a k.0) ∙ k.1

          go : Dec (a ≡ entry.leave) → Dec (a ≡ entry.enter) → IsIn a (entry.enter ∷ basics net.arcs (values_of s).mark) × (a ≢ entry.leave)
          go (yes f) _ = absurd (at_bound (sym (mark_leave entry (values_of s).mark) ∙ ap (mark_after entry (values_of s).mark) (sym f) ∙ m))
          go (no n) (yes f) = (inl f, n)
          go (no n) (no e) = (inr ((basics_hold net.arcs (values_of s).mark a).1 (k.0, sym (mark_other entry (values_of s).mark a e n) ∙ m)), n)

      from : IsIn a (entry.enter ∷ basics net.arcs (values_of s).mark) × (a ≢ entry.leave) → IsIn a (basics net.arcs (values_of made).mark)
      from r = (basics_hold net.arcs (values_of made).mark a).1 (l, made_mark a l ∙ go (ℕ_discrete a entry.enter) r.0)
        where
          l : a < length net.arcs
          l = entering.inside a (entering.holds a r.0)

          go : Dec (a ≡ entry.enter) → IsIn a (entry.enter ∷ basics net.arcs (values_of s).mark) → mark_after entry (values_of s).mark a ≡ marked.Basic
          go (yes e) _ = ap (mark_after entry (values_of s).mark) e ∙ mark_enter entry (values_of s).mark (λ f. r.1 (e ∙ f))
          go (no n) i = mark_other entry (values_of s).mark a n r.1 ∙ elim i [ inl e ↦ absurd (n e) | inr j ↦ ((basics_hold net.arcs (values_of s).mark a).0 j).1 ]

  basis : directions.IsBasisOf net g.ground.sound (node_numbers net) (basics net.arcs (values_of made).mark)
  basis = leaving.exchanged net g.ground.sound (node_numbers net) (arc_numbers net) (basics net.arcs (values_of s).mark) entry.enter entering enter_lies
      (sign ((values_of s).mark entry.enter)) whole move.direction entry.leave leave_among move.stops.moves (basics net.arcs (values_of made).mark) (basics_once net.arcs (values_of made).mark) are
    where
      enter_lies : LiesIn ratios (node_numbers net) (graph_of (ends_at net.arcs) entry.enter)
      enter_lies = graph_pieces.wider ratios (length net.supply) (graph_of (ends_at net.arcs)) (nodes_of ps) (node_numbers net)
          (λ v i. node_number net v (held.node_in_net net g.ground.sound (values_of s) ps g.pieces v i)) (graph_of (ends_at net.arcs) entry.enter) g.into

      leave_among : IsIn entry.leave (entry.enter ∷ basics net.arcs (values_of s).mark)
      leave_among = elim leave_in [ inl e ↦ inl e | inr i ↦ (let r = held.of_pieces net g.ground.sound (values_of s) ps g.pieces entry.leave i in inr ((basics_hold net.arcs (values_of s).mark entry.leave).1 (r.0, r.1))) ]

  pub is_forest : IsForest net (values_of made).mark
  is_forest least nodes arcs p = leaving.tree_of_part net g.ground.sound (node_numbers net) (basics net.arcs (values_of made).mark) basis least nodes arcs p (node_number net least ((p.joined least).0 p.has_least).0)
