-- A pivot of a state is a pivot of its pieces that hold the ends of the entering arc, and puts the new ones in their place.
use Rattle.std.specs.Prelude.{◌≡◌, ℕ, List, ◌∷◌}
use Rattle.std.proofs.Common.{refl, sym, ap, subst, ◌∙◌, inl}
use Rattle.gain_graphs.specs.Arcs as graph
use Rattle.gain_graphs.specs.Arcs.{IsIn, Touches}
use Rattle.gain_graphs.specs.QuasiTrees.{LiesIn}
use Rattle.gain_graphs.proofs.Lists.{decide_in}
use Rattle.np_frac.specs.Ratio.{Ratio, ◌+ᵣ◌, ◌*ᵣ◌}
use Rattle.np_model.specs.declared.log.Mark.{Mark}
use Rattle.np_model.specs.declared.log.Entry.{Entry}
use Rattle.np_model.specs.Network.Arcs.{IsWithin}
use Rattle.np_model.specs.Network.Flows.{Network, at}
use Rattle.np_model.specs.Basis.Graphs.{ratios, graph_of, arc_at, ends_at}
use Rattle.np_model.specs.Basis.Moves.{sign, Gains, KeepsBounds, Stops, IsMove, IsEligible}
use Rattle.np_model.specs.Basis.Pieces.{PieceLists, basics_in, nodes_of, basics_of}
use Rattle.np_model.specs.Basis.Pivots.{arc_numbers, IsPivot}
use Rattle.np_model.specs.Basis.Sound.{values_in, AreOneOrTwo, AreInOrder, IsAfter}
use Rattle.np_model.specs.Basis.States.{State, Values, values_of, price, StandsAt}
use Rattle.np_basis.specs.PivotLaws.{ArePiecesAfter, IsReplaced, PivotReplaces}
use Rattle.np_basis.proofs.Basics.{basics_hold}
use Rattle.np_basis.proofs.Held.{arc_number, arc_below}
use Rattle.np_basis.proofs.Pivoting as pivoting
use Rattle.np_basis.proofs.Pivoting.{mark_after_same, unmoved, Given}
use Rattle.np_basis.proofs.Reading as reading
use Rattle.np_basis.proofs.Reading.{in_flat_of, price_same, within_at, pieces_are_sound}
use Rattle.np_basis.proofs.Sound.{touch_wider, touch_more}
use Rattle.np_basis.specs.Laws.{AgreeWith}

-- ---- moves and eligible arcs depend on the values at hand alone

pub stops_same : (net : Network) (s r : Values) (d : ℕ → Ratio) (t : Ratio) (a : ℕ) (m : Mark) → s.flow a ≡ r.flow a → Stops net s d t a m → Stops net r d t a m
stops_same net s r d t a m e h = record { moves = h.moves; towards = h.towards; rests = subst (λ x. StandsAt (arc_at net.arcs a) m (x +ᵣ t *ᵣ d a)) e h.rests }

pub move_same : (net : Network) (s r : Values) (nodes numbers basic : List ℕ) (entry : Entry) (d : ℕ → Ratio) (t : Ratio) → s.mark entry.enter ≡ r.mark entry.enter
    → ((a : ℕ) → IsIn a numbers → s.flow a ≡ r.flow a) → IsMove net s nodes numbers basic entry d t → IsMove net r nodes numbers basic entry d t
move_same net s r nodes numbers basic entry d t e f h = record {
  direction = record { enters = h.direction.enters ∙ ap sign e; only = h.direction.only; balanced = h.direction.balanced };
  within = λ a i. subst (λ x. IsWithin (arc_at net.arcs a) (x +ᵣ t *ᵣ d a)) (f a i) (h.within a i);
  greatest = λ z g. h.greatest z (λ a i. subst (λ x. IsWithin (arc_at net.arcs a) (x +ᵣ z *ᵣ d a)) (sym (f a i)) (g a i));
  leaves = h.leaves;
  stops = stops_same net s r d t entry.leave entry.leave_at (f entry.leave h.leaves) h.stops;
  first = λ a m i k. h.first a m i (stops_same net r s d t a m (sym (f a i)) k);
}

pub eligible_same : (net : Network) (real : ℕ) (s r : Values) (ns : List ℕ) (a : ℕ) → LiesIn ratios ns (graph_of (ends_at net.arcs) a) → s.mark a ≡ r.mark a
    → ((v : ℕ) → IsIn v ns → s.potential v ≡ r.potential v) → IsEligible net real s a → IsEligible net real r a
eligible_same net real s r ns a l e f h = record {
  is_open = h.is_open;
  gains = subst (λ m. Gains m (price r.potential (arc_at net.arcs a))) e (subst (Gains (s.mark a)) (price_same s.potential r.potential ns (arc_at net.arcs a) l f) h.gains);
}

-- ---- a pivot

module _ (net : Network) (real : ℕ) (s : State) (ps : List PieceLists) (entry : Entry) (g : Given net real s ps entry) (after : State) (v : IsPivot net real s entry after)
    (others : List PieceLists) (done : ArePiecesAfter net ps after others) where
  here : AgreeWith net (values_of s) ps
  here = reading.agrees net (values_of s) g.state.at_bounds ps g.pieces.each

  there : AgreeWith net (values_of after) others
  there = reading.agrees net (values_of after) v.is_state.at_bounds others done.pieces_of.each

  mark_here : (a : ℕ) → IsIn a (entry.enter ∷ basics_of ps) → (values_in net ps).mark a ≡ (values_of s).mark a
  mark_here a i = here.marks a (pivoting.hand_below net real s ps entry g a i) (pivoting.hand_touches net real s ps entry g a i)

  flow_here : (a : ℕ) → IsIn a (entry.enter ∷ basics_of ps) → (values_in net ps).flow a ≡ at s.flows a
  flow_here a i = here.flows a (pivoting.hand_below net real s ps entry g a i) (pivoting.hand_touches net real s ps entry g a i)

  -- the move, over the pieces alone
  move_here : IsMove net (values_of s) (nodes_of ps) (entry.enter ∷ basics_of ps) (basics_of ps) entry v.direction v.step
  move_here = record {
    direction = (pivoting.is_local net real s ps entry g after v).there;
    within = λ a i. v.move.within a (number a i);
    greatest = λ z k. v.move.greatest z (λ a i. keeps z k a i);
    leaves = pivoting.leave_in net real s ps entry g after v;
    stops = v.move.stops;
    first = λ a m i k. v.move.first a m (number a i) k;
  }
    where
      number : (a : ℕ) → IsIn a (entry.enter ∷ basics_of ps) → IsIn a (arc_numbers net)
      number a i = arc_number net a (pivoting.hand_below net real s ps entry g a i)

      keeps : (z : Ratio) → KeepsBounds net (values_of s) (entry.enter ∷ basics_of ps) v.direction z → (a : ℕ) → IsIn a (arc_numbers net) → IsWithin (arc_at net.arcs a) (at s.flows a +ᵣ z *ᵣ v.direction a)
      keeps z k a i = elim (decide_in a (entry.enter ∷ basics_of ps)) [
        | yes j ↦ k a j
        | no h ↦ (let l = arc_below net a i in
            subst (IsWithin (arc_at net.arcs a)) (sym (unmoved (at s.flows a) z (v.direction a) ((pivoting.is_local net real s ps entry g after v).off a l h))) (within_at net s g.state a l))
      ]

  back : (e : graph.Ends Ratio) → Touches (nodes_of others) e → Touches (nodes_of ps) e
  back e t = touch_wider (nodes_of others) (nodes_of ps) e (λ u. (done.same_nodes u).1) t

  forth : (e : graph.Ends Ratio) → Touches (nodes_of ps) e → Touches (nodes_of others) e
  forth e t = touch_wider (nodes_of ps) (nodes_of others) e (λ u. (done.same_nodes u).0) t

  pub is_after : AreOneOrTwo ps → AreInOrder others → IsAfter net real ps entry others
  is_after few in_order = record {
    sound = pieces_are_sound net s ps g.state g.pieces.each g.pieces.apart;
    sound_after = pieces_are_sound net after others v.is_state done.pieces_of.each done.pieces_of.apart;
    few = few;
    in_order = in_order;
    same_nodes = done.same_nodes;
    ends = g.into;
    eligible = eligible_same net real (values_of s) (values_in net ps) (nodes_of ps) entry.enter g.into (sym (mark_here entry.enter (inl refl))) (λ u i. sym (here.potentials u i)) v.eligible;
    direction = v.direction;
    step = v.step;
    move = move_same net (values_of s) (values_in net ps) (nodes_of ps) (entry.enter ∷ basics_of ps) (basics_of ps) entry v.direction v.step
        (sym (mark_here entry.enter (inl refl))) (λ a i. sym (flow_here a i)) move_here;
    flows = λ a i.
        let r = in_flat_of basics_in others a i in
        let k = ((done.pieces_of.each r.0 r.1).part.is_piece.touched a).0 r.2 in
        let l = ((basics_hold net.arcs (values_of after).mark a).0 k.0).0 in
        let t = touch_more others r.0 (graph_of (ends_at net.arcs) a) r.1 k.1 in
        there.flows a l t ∙ v.flows a l ∙ ap (λ x. x +ᵣ v.step *ᵣ v.direction a) (sym (here.flows a l (back (graph_of (ends_at net.arcs) a) t)));
    marks = λ a l t. there.marks a l (forth (graph_of (ends_at net.arcs) a) t) ∙ v.marks a l ∙ mark_after_same entry (values_of s).mark (values_in net ps).mark a (sym (here.marks a l t));
  }

  pub is_replaced : IsReplaced net s others after
  is_replaced = record {
    marks_in = λ a l t. sym (there.marks a l t);
    marks_off = λ a l h. pivoting.off_mark net real s ps entry g after v a l (outside a h);
    flows_in = λ a l t. sym (there.flows a l t);
    flows_off = λ a l h. pivoting.off_flow net real s ps entry g after v a l (outside a h);
    potentials_in = λ u i. sym (there.potentials u i);
    potentials_off = λ u l h. pivoting.potential_off net real s ps entry g after v u l (λ i. h ((done.same_nodes u).0 i));
  }
    where
      outside : (a : ℕ) → (¬ Touches (nodes_of others) (graph_of (ends_at net.arcs) a)) → ¬ IsIn a (entry.enter ∷ basics_of ps)
      outside a h i = h (forth (graph_of (ends_at net.arcs) a) (pivoting.hand_touches net real s ps entry g a i))

pub pivot_replaces : PivotReplaces
pivot_replaces net real s entry after ps others ground st pieces into v done =
    is_replaced net real s ps entry (pivoting.given net real s ps entry after ground st pieces into v) after v others done
