-- The lists of two pieces in one, and the marks after a pivot.
use Rattle.std.specs.Prelude.{◌≡◌, ◌≢◌, ◌⊎◌, ◌↔◌, ◌==◌, ℕ, Bool, true, false, cond, not, List, [], ◌∷◌, ◌++◌, map, filter}
use Rattle.std.specs.List.Sorted.{IsStrictlyIncreasing}
use Rattle.std.proofs.Common.{sym, ap, ap₂, subst, ◌∙◌, inl, inr, arith, eqb}
use Rattle.gain_graphs.specs.Arcs.{IsIn}
use Rattle.gain_graphs.proofs.Lists.{in_map, in_map_of, in_append, in_front, in_back, filter_holds}
use Rattle.np_basis.proofs.Ascending.{Ascends, ascends, rises}
use Rattle.np_frac.specs.Ratio.{Ratio}
use Rattle.np_model.specs.declared.arc.Ends.{Ends}
use Rattle.np_model.specs.declared.log.Mark.{Mark}
use Rattle.np_model.specs.Basis.Pieces.{PieceLists}
use Rattle.piece_lists.specs.Merged.{IsMerged}
use Rattle.piece_lists.specs.Joining.{AreInOne, AreMarksAfter}

-- ---- filters

filter_ascends : {T : Type 0} (key : T → ℕ) (p : T → Bool) (xs : List T) → Ascends (map key xs) → Ascends (map key (filter p xs))
filter_ascends key p [] a = record {}
filter_ascends {T} key p (y ∷ xs) a = go (p y) (filter_ascends key p xs a.1)
  where
    go : (b : Bool) → Ascends (map key (filter p xs)) → Ascends (map key (cond b (y ∷ filter p xs) (filter p xs)))
    go true ih = ((λ u i. let r = in_map_of key u (filter p xs) i in a.0 u (subst (λ t. IsIn t (map key xs)) (sym r.2) (in_map key r.0 xs ((filter_holds p xs r.0).0 r.1).0))), ih)
    go false ih = ih

pub filter_rises : {T : Type 0} (key : T → ℕ) (p : T → Bool) (xs : List T) → IsStrictlyIncreasing (map key xs) → IsStrictlyIncreasing (map key (filter p xs))
filter_rises key p xs h = rises (map key (filter p xs)) (filter_ascends key p xs (ascends (map key xs) h))

-- ---- two pieces

abbrev marked : List (ℕ × Mark) → List ℕ
marked marks = map (λ m. m.0) marks

of_both : {T : Type 0} (xs ys zs : List T) (x : T) → (IsIn x zs ↔ (IsIn x xs ⊎ IsIn x ys)) → IsIn x zs ↔ IsIn x (xs ++ (ys ++ []))
of_both xs ys zs x h = (
  (λ i. elim (h.0 i) [ inl k ↦ in_front x xs (ys ++ []) k | inr k ↦ in_back x xs (ys ++ []) (in_front x ys [] k) ]),
  (λ i. h.1 (elim (in_append x xs (ys ++ []) i) [ inl k ↦ inl k | inr k ↦ elim (in_append x ys [] k) [ inl l ↦ inr l | inr z ↦ absurd z ] ])),
)

pub both_in_one : (p r : PieceLists) (nodes : List (ℕ × Ratio)) (basics : List (ℕ × Ends × Ratio)) (marks : List (ℕ × Mark)) → IsMerged (λ (n : ℕ × Ratio). n.0) p.nodes r.nodes nodes → IsMerged (λ (b : ℕ × Ends × Ratio). b.0) p.basics r.basics basics
    → IsMerged (λ (m : ℕ × Mark). m.0) p.marks r.marks marks → AreInOne (p ∷ r ∷ []) (record { nodes = nodes; basics = basics; marks = marks })
both_in_one p r nodes basics marks n b m = record {
  nodes_ascend = n.ascend;
  basics_ascend = b.ascend;
  marks_ascend = m.ascend;
  nodes = λ x. of_both p.nodes r.nodes nodes x (n.are x);
  basics = λ x. of_both p.basics r.basics basics x (b.are x);
  marks = λ x. of_both p.marks r.marks marks x (m.are x);
}

not_same : (a b : ℕ) → not (eqb a b) ≡ true → a ≢ b
not_same a b h = grind arith

same_not : (a b : ℕ) → a ≢ b → not (eqb a b) ≡ true
same_not a b h = grind arith

pub marked_is : (marks rest list : List (ℕ × Mark)) (enter leave : ℕ) (leave_at : Mark) → ((m : ℕ × Mark) → IsIn m marks → m.0 ≢ enter → m.0 ≢ leave) → rest ≡ filter (λ x. not (x.0 == enter)) marks
    → IsMerged (λ (m : ℕ × Mark). m.0) rest ((leave, leave_at) ∷ []) list → AreMarksAfter marks enter leave leave_at list
marked_is marks rest list enter leave leave_at fresh e g = record {
  ascend = g.ascend;
  are = λ m. (
    (λ i. elim ((g.are m).0 i) [
      | inl k ↦ (let r = (filter_holds (λ x. not (x.0 == enter)) marks m).0 (subst (λ x. IsIn m x) e k) in inr (r.0, not_same m.0 enter r.1, fresh m r.0 (not_same m.0 enter r.1)))
      | inr k ↦ elim k [ inl f ↦ inl (ap (λ (x : ℕ × Mark). x.0) f, ap (λ (x : ℕ × Mark). x.1) f) | inr z ↦ absurd z ]
    ]),
    (λ i. (g.are m).1 (elim i [
      | inl r ↦ inr (inl (ap₂ (λ (a : ℕ) (k : Mark). pair a k) r.0 r.1))
      | inr r ↦ inl (subst (λ x. IsIn m x) (sym e) ((filter_holds (λ x. not (x.0 == enter)) marks m).1 (r.0, same_not m.0 enter r.1)))
    ])),
  );
}
  where
    pair : ℕ → Mark → ℕ × Mark
    pair a m = (a, m)

pub new_mark_same : (marks rest : List (ℕ × Mark)) (enter leave : ℕ) (leave_at : Mark) → ((m : ℕ × Mark) → IsIn m marks → m.0 ≢ enter → m.0 ≢ leave) → rest ≡ filter (λ x. not (x.0 == enter)) marks
    → (x y : ℕ × Mark) → IsIn x rest → IsIn y ((leave, leave_at) ∷ []) → x.0 ≡ y.0 → x ≡ y
new_mark_same marks rest enter leave leave_at fresh e x y i j h = elim j [
  | inl f ↦ (let r = (filter_holds (λ x. not (x.0 == enter)) marks x).0 (subst (λ t. IsIn x t) e i) in absurd (fresh x r.0 (not_same x.0 enter r.1) (h ∙ ap (λ (t : ℕ × Mark). t.0) f)))
  | inr z ↦ absurd z
]

pub rest_rises : (marks rest : List (ℕ × Mark)) (enter : ℕ) → IsStrictlyIncreasing (marked marks) → rest ≡ filter (λ x. not (x.0 == enter)) marks → IsStrictlyIncreasing (marked rest)
rest_rises marks rest enter a e = subst (λ x. IsStrictlyIncreasing (marked x)) (sym e) (filter_rises (λ (m : ℕ × Mark). m.0) (λ x. not (x.0 == enter)) marks a)
