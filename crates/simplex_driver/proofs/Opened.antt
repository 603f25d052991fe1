-- The forest of the start: its lists of marks and its pieces one after the other, and that the pieces and tables are those of the start state.
use Rattle.std.specs.Prelude.{◌≡◌, ℕ, ◌+◌, ◌<◌, if◌then◌else◌, List, [], ◌∷◌, ◌++◌, length, map, Option, Some, None}
use Rattle.std.specs.List.{range_with_len}
use Rattle.std.proofs.Common.{refl, sym, ap, subst, ◌∙◌, inl, inr, arith, get_or, append_assoc}
use Rattle.std.proofs.lemmas.Bool.{cases_eq}
use Rattle.std.proofs.lemmas.List.{length_push, get_or_push, get_or_append_left}
use Rattle.std.proofs.lemmas.List.FromFn.{map-range_with_len_more}
use Rattle.gain_graphs.specs.Arcs.{IsIn}
use Rattle.np_model.specs.declared.arc.Ends.{Ends}
use Rattle.np_model.specs.declared.arc.NetArc.{NetArc}
use Rattle.np_model.specs.declared.log.Mark.{Mark}
use Rattle.np_model.specs.declared.log.Mark.TheVariants as marked
use Rattle.np_model.specs.declared.phase.Phase.TheVariants.{One}
use Rattle.np_model.specs.Network.Flows.{Network}
use Rattle.np_model.specs.Basis.Pieces.{nodes_in, least_node}
use Rattle.np_model.specs.Basis.States.{State, values_of, IsPieceOf}
use Rattle.np_model.specs.Basis.Starts.{touches, start_potential, nodes_from_0, start_flows, start_state, start_net, start_piece}
use Rattle.np_basis.proofs.StartPieces.{start_piece_is_piece}
use Rattle.quasi_tree.specs.Start.{end_potential}
use Rattle.quasi_tree.specs.Store.{Store}
use Rattle.quasi_tree.specs.declared.lists.MarkList.{MarkList}
use Rattle.quasi_tree.proofs.Starts.{one_more_mark}
use Rattle.simplex_driver.specs.declared.forest.Forest.{Forest}
use Rattle.simplex_driver.specs.Store.{state_of, slot_at, IsKept}
use Rattle.simplex_driver.specs.Opening.{HaveMarks, AreSingles}
use Rattle.simplex_driver.proofs.Attempts.{same_state}
use Rattle.simplex_driver.proofs.Stepped.{some_one, slot_below}

-- ---- one more

-- the marks of the next arc
pub one_more_arc : (arcs : List NetArc) (nodes i : ℕ) (d : NetArc) (old new : List MarkList) → i < length arcs → HaveMarks arcs nodes i old → length new ≡ length old
    → ((v : ℕ) (e : MarkList) → v < length old
    → (get_or new v e).items.items ≡ (get_or old v e).items.items ++ (if touches (get_or arcs i d).ends v then (i, marked.Lower) ∷ [] else []))
    → HaveMarks arcs nodes (i + 1) new
one_more_arc arcs nodes i d old new below before same each = record {
  list_each = same ∙ before.list_each;
  marks = λ v e l. one_more_mark arcs v i d (get_or old v e).items.items (get_or new v e).items.items below (before.marks v e l) (each v e (omega (arith, l, before.list_each)));
}

-- the piece of the next node
pub one_more_piece : (net : Network) (i : ℕ) (old new : List (Option Store)) (p : Store) → AreSingles net i old → p.lists ≡ start_piece net i → new ≡ old ++ Some p ∷ []
    → AreSingles net (i + 1) new
one_more_piece net i old new p before is after = record {
  slot_each = let n = length_push old (Some p) in ap length after ∙ omega (arith, n, before.slot_each);
  single = λ v l. elim (cases_eq v i) [
    | inl e ↦ (p, ap (λ xs. slot_at xs v) after ∙ get_or_push old (Some p) None v (omega (arith, e, before.slot_each)), is ∙ ap (start_piece net) (sym e))
    | inr d ↦
        let r = before.single v (omega (arith, l, d)) in
        (r.0, ap (λ xs. slot_at xs v) after ∙ get_or_append_left old (Some p ∷ []) None v (omega (arith, l, d, before.slot_each)) ∙ r.1, r.2)
  ];
}

-- the same mark once more
pub one_more_time : (mark : Mark) (i : ℕ) (start old new : List Mark) → old ≡ start ++ map (λ (v : ℕ). mark) (range_with_len 0 i) → new ≡ old ++ mark ∷ []
    → new ≡ start ++ map (λ (v : ℕ). mark) (range_with_len 0 (i + 1))
one_more_time mark i start old new before after =
    after ∙ ap (λ t. t ++ mark ∷ []) before ∙ append_assoc start (map (λ (v : ℕ). mark) (range_with_len 0 i)) (mark ∷ [])
    ∙ ap (λ t. start ++ t) (sym (map-range_with_len_more (λ (v : ℕ). mark) 0 i i (omega arith)))

-- ---- the state

-- the same mark for each entry
for_each : {A : Type 0} (mark : Mark) (a : ℕ) (xs : List A) → map (λ (v : ℕ). mark) (range_with_len a (length xs)) ≡ map (λ (x : A). mark) xs
for_each mark a [] = refl
for_each mark a (x ∷ xs) = ap (λ t. mark ∷ t) (for_each mark (a + 1) xs)

pub is_start_state : (net : Network) (artificial : List Ends) (s : State) → map end_potential artificial ≡ map (start_potential net) (nodes_from_0 net)
    → s.marks ≡ map (λ (v : ℕ). marked.Lower) (range_with_len 0 (length net.arcs)) ++ map (λ (v : ℕ). marked.Basic) (range_with_len 0 (length net.supply))
    → s.flows ≡ start_flows net → s.potentials ≡ map end_potential artificial → s ≡ start_state net
is_start_state net artificial s at_start marks flows potentials =
    same_state s (start_state net)
    (marks ∙ ap (λ t. t ++ map (λ (v : ℕ). marked.Basic) (range_with_len 0 (length net.supply))) (for_each marked.Lower 0 net.arcs))
    flows
    (potentials ∙ at_start)

-- ---- its pieces

pub is_kept : (net : Network) (f : Forest) → state_of f ≡ start_state net → AreSingles net (length net.supply) f.slots.items
    → IsKept (start_net One net) f
is_kept net f same singles = record {
  slot_each = singles.slot_each;
  pieces = λ v p there.
      let r = singles.single v (omega (arith, slot_below f.slots.items v p there, singles.slot_each)) in
      let one : p.lists ≡ start_piece net v = ap (λ (q : Store). q.lists) (some_one p r.0 (sym there ∙ r.1)) ∙ r.2 in (
        subst (λ s. IsPieceOf (start_net One net) (values_of s) p.lists) (sym same)
            (subst (λ q. IsPieceOf (start_net One net) (values_of (start_state net)) q) (sym one) (start_piece_is_piece net v (omega (arith, slot_below f.slots.items v p there, singles.slot_each)))),
        ap least_node one,
      );
  whole = λ v l. let r = singles.single v l in (v, (r.0, r.1, subst (λ q. IsIn v (nodes_in q)) (sym r.2) (inl refl)));
}
