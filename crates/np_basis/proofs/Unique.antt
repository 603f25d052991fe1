-- The state before a pivot and its entry determine the state after, and so do pieces of it the pieces after.
use Rattle.std.specs.Prelude.{◌≡◌, ℕ, ◌<◌, List, [], ◌∷◌, length}
use Rattle.std.proofs.Common.{refl, inl, inr, sym, ap, ap₂, subst, ◌∙◌, arith}
use Rattle.std.proofs.lemmas.List.{ext_get_or}
use Rattle.gain_graphs.specs.Arcs.{IsIn}
use Rattle.np_frac.specs.Ratio.{zero_ratio, ◌+ᵣ◌, ◌*ᵣ◌}
use Rattle.np_frac.proofs.RatioLaws.{≤ᵣ_antisym}
use Rattle.np_model.specs.declared.log.Mark.TheVariants as marked
use Rattle.np_model.specs.declared.log.Entry.{Entry}
use Rattle.np_model.specs.Network.Arcs.{IsWithin}
use Rattle.np_model.specs.Network.Flows.{Network, at}
use Rattle.np_model.specs.Basis.Graphs.{arc_at, cost_at}
use Rattle.np_model.specs.Basis.Moves.{sign, KeepsBounds}
use Rattle.np_model.specs.Basis.Pieces.{PieceLists, nodes_in, least_node}
use Rattle.np_model.specs.Basis.Pivots.{arc_numbers, IsPivot}
use Rattle.np_model.specs.Basis.Sound.{AreInOrder}
use Rattle.np_model.specs.Basis.States.{State, values_of, IsState}
use Rattle.np_basis.specs.PivotLaws.{HasRealArcs, ArePiecesAfter, PivotIsUnique, AfterIsUnique}
use Rattle.np_basis.proofs.Basics.{basics_hold}
use Rattle.np_basis.proofs.Cutting.{piece_exists, piece_is_unique}
use Rattle.np_basis.proofs.Directions.{whole_direction_is_unique}
use Rattle.np_basis.proofs.FromPieces.{pivot}
use Rattle.np_basis.proofs.Held.{arc_below}
use Rattle.np_basis.proofs.Made.{given}
use Rattle.np_basis.proofs.Pivoting.{not_gaining}
use Rattle.np_basis.proofs.Reading.{in_flat, in_flat_of, piece_is_sound}
use Rattle.np_basis.proofs.Trees.{potentials_are_unique}

same_state : (p q : State) → p.marks ≡ q.marks → p.flows ≡ q.flows → p.potentials ≡ q.potentials → p ≡ q
same_state p q e f g =
    ap (λ n. let z : State = record { marks = n; flows = p.flows; potentials = p.potentials } in z) e
    ∙ ap (λ n. let z : State = record { marks = q.marks; flows = n; potentials = p.potentials } in z) f
    ∙ ap (λ n. let z : State = record { marks = q.marks; flows = q.flows; potentials = n } in z) g

module _ (net : Network) (real : ℕ) (ground : HasRealArcs net real) (s : State) (st : IsState net s) (entry : Entry) (x y : State) (v : IsPivot net real s entry x) (w : IsPivot net real s entry y) where
  same_direction : (a : ℕ) → a < length net.arcs → v.direction a ≡ w.direction a
  same_direction = whole_direction_is_unique net (values_of s) entry.enter (sign ((values_of s).mark entry.enter)) v.direction w.direction ground.sound st.forest
      (omega (arith, v.eligible.is_open.0, ground.few)) (not_gaining ((values_of s).mark entry.enter) _ v.eligible.gains) v.move.direction w.move.direction

  same_step : v.step ≡ w.step
  same_step = ≤ᵣ_antisym (w.move.greatest v.step keeps) (v.move.greatest w.step back)
    where
      keeps : KeepsBounds net (values_of s) (arc_numbers net) w.direction v.step
      keeps a i = subst (λ d. IsWithin (arc_at net.arcs a) (at s.flows a +ᵣ v.step *ᵣ d)) (same_direction a (arc_below net a i)) (v.move.within a i)

      back : KeepsBounds net (values_of s) (arc_numbers net) v.direction w.step
      back a i = subst (λ d. IsWithin (arc_at net.arcs a) (at s.flows a +ᵣ w.step *ᵣ d)) (sym (same_direction a (arc_below net a i))) (w.move.within a i)

  same_flow : (a : ℕ) → a < length net.arcs → at x.flows a ≡ at y.flows a
  same_flow a l = v.flows a l ∙ ap₂ (λ t d. at s.flows a +ᵣ t *ᵣ d) same_step (same_direction a l) ∙ sym (w.flows a l)

  same_mark : (a : ℕ) → a < length net.arcs → (values_of x).mark a ≡ (values_of y).mark a
  same_mark a l = v.marks a l ∙ sym (w.marks a l)

  same_potential : (u : ℕ) → u < length net.supply → at x.potentials u ≡ at y.potentials u
  same_potential u l =
      let r = piece_exists net (values_of x) u ground.sound l in
      potentials_are_unique net r.0 (cost_at net.arcs) (at x.potentials) (at y.potentials) (piece_is_sound net x r.0 v.is_state r.1).in_net
      (λ a i. v.is_state.priced a ((r.1.part.is_piece.touched a).0 i).0)
      (λ a i. let k = (basics_hold net.arcs (values_of x).mark a).0 ((r.1.part.is_piece.touched a).0 i).0 in
      w.is_state.priced a ((basics_hold net.arcs (values_of y).mark a).1 (k.0, sym (same_mark a k.0) ∙ k.1)))
      u r.2

  same : x ≡ y
  same = same_state x y
      (ext_get_or marked.Lower x.marks y.marks (v.is_state.one_mark_each ∙ sym w.is_state.one_mark_each) (λ a l. same_mark a (omega (arith, v.is_state.one_mark_each))))
      (ext_get_or zero_ratio x.flows y.flows (v.is_state.feasible.one_each ∙ sym w.is_state.feasible.one_each) (λ a l. same_flow a (omega (arith, v.is_state.feasible.one_each))))
      (ext_get_or zero_ratio x.potentials y.potentials (v.is_state.one_potential_each ∙ sym w.is_state.one_potential_each) (λ u l. same_potential u (omega (arith, v.is_state.one_potential_each))))

pub pivot_is_unique : PivotIsUnique
pivot_is_unique net real s entry x y ground st v w = same net real ground s st entry x y v w

-- ---- the pieces after

-- two lists of pieces of a state on the same nodes, both in order
module _ (net : Network) (x : State) (ps : List PieceLists) where
  member : (others more : List PieceLists) → ArePiecesAfter net ps x others → ArePiecesAfter net ps x more → (o : PieceLists) → IsIn o others → IsIn o more
  member others more h k o i =
      let p = h.pieces_of.each o i in
      let r = in_flat_of nodes_in more p.part.least ((k.same_nodes p.part.least).0 ((h.same_nodes p.part.least).1 (in_flat nodes_in others o p.part.least i p.part.is_piece.has_least))) in
      subst (λ t. IsIn t more) (sym (piece_is_unique net (values_of x) o r.0 p.part.least p (k.pieces_of.each r.0 r.1) p.part.is_piece.has_least r.2)) r.1

  one_of : {A : Type 0} (o r : A) → IsIn o (r ∷ []) → o ≡ r
  one_of o r = elim [ inl e ↦ e | inr i ↦ absurd i ]

  clash : (o q : PieceLists) → least_node o < least_node q → o ≡ q → ⊥
  clash o q l e = let f : least_node o ≡ least_node q = ap least_node e in omega arith

  same_lists : (others more : List PieceLists) → AreInOrder others → AreInOrder more → ((o : PieceLists) → IsIn o others → IsIn o more) → ((o : PieceLists) → IsIn o more → IsIn o others) → others ≡ more
  same_lists [] more a b f g = absurd a
  same_lists (o ∷ q ∷ z ∷ others) more a b f g = absurd a
  same_lists (o ∷ []) [] a b f g = absurd b
  same_lists (o ∷ []) (r ∷ []) a b f g = ap (λ t. t ∷ []) (one_of o r (f o (inl refl)))
  same_lists (o ∷ []) (r ∷ t ∷ []) a b f g = absurd (clash r t b (one_of r o (g r (inl refl)) ∙ sym (one_of t o (g t (inr (inl refl))))))
  same_lists (o ∷ []) (r ∷ t ∷ z ∷ more) a b f g = absurd b
  same_lists (o ∷ q ∷ []) [] a b f g = absurd b
  same_lists (o ∷ q ∷ []) (r ∷ []) a b f g = absurd (clash o q a (one_of o r (f o (inl refl)) ∙ sym (one_of q r (f q (inr (inl refl))))))
  same_lists (o ∷ q ∷ []) (r ∷ t ∷ []) a b f g = elim (f o (inl refl)) [
    | inl e ↦ elim (f q (inr (inl refl))) [
      | inl d ↦ absurd (clash o q a (e ∙ sym d))
      | inr i ↦ ap₂ (λ y z. y ∷ z ∷ []) e (one_of q t i)
    ]
    | inr i ↦ elim (f q (inr (inl refl))) [
      | inl d ↦ absurd (let m : least_node o ≡ least_node t = ap least_node (one_of o t i) in let n : least_node q ≡ least_node r = ap least_node d in omega (arith, a, b))
      | inr j ↦ absurd (clash o q a (one_of o t i ∙ sym (one_of q t j)))
    ]
  ]
  same_lists (o ∷ q ∷ []) (r ∷ t ∷ z ∷ more) a b f g = absurd b

pub after_is_unique : AfterIsUnique
after_is_unique net real s entry ps others more ground st pieces h k =
    let x = pivot net real s ps entry (given net real s ps entry others ground st pieces h) others h in
    let y = pivot net real s ps entry (given net real s ps entry more ground st pieces k) more k in
    let theirs : ArePiecesAfter net ps x.0 more = subst (λ z. ArePiecesAfter net ps z more) (pivot_is_unique net real s entry y.0 x.0 ground st y.1 x.1) y.2 in
    same_lists net x.0 ps others more h.in_order k.in_order (member net x.0 ps others more x.2 theirs) (member net x.0 ps more others theirs x.2)
