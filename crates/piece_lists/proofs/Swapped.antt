-- The basic arcs after a pivot: with the one that enters, moved, and without the one that leaves.
use Rattle.std.specs.Prelude.{◌≡◌, ◌≢◌, ◌↔◌, ◌==◌, ℕ, true, not, List, [], ◌∷◌, filter}
use Rattle.std.specs.List.{AllZip}
use Rattle.std.specs.List.Sorted.{IsStrictlyIncreasing}
use Rattle.std.proofs.Common.{refl, sym, ap, subst, ◌∙◌, inl, inr, arith, eqb}
use Rattle.gain_graphs.specs.Arcs.{IsIn}
use Rattle.gain_graphs.proofs.Lists.{in_map, in_map_of}
use Rattle.np_frac.specs.Ratio.{Ratio}
use Rattle.np_model.specs.declared.arc.Ends.{Ends}
use Rattle.tree_search.specs.Places.{numbers_of_arcs}
use Rattle.piece_lists.specs.declared.refusal.MoveRefusal.{MoveRefusal}
use Rattle.piece_lists.specs.declared.refusal.MoveRefusal.TheVariants as refusal
use Rattle.piece_lists.specs.Merged.{IsMerged}
use Rattle.piece_lists.specs.Flowing.{IsMoved, AreFlowsOf, AreFlowsAfter, IsFirstPast}
use Rattle.piece_lists.specs.Steps.{AreMoved}
use Rattle.gain_graphs.proofs.Lists.{filter_holds}
use Rattle.piece_lists.proofs.Joined.{filter_rises}

abbrev number : ℕ × Ends × Ratio → ℕ
number b = b.0

zip_left : {A B : Type 0} (R : A → B → Type 0) (xs : List A) (ys : List B) → AllZip R xs ys → (x : A) → IsIn x xs → (y : B) × IsIn y ys × R x y
zip_left R [] [] z x i = absurd i
zip_left R [] (y ∷ ys) z x i = absurd z
zip_left R (u ∷ xs) [] z x i = absurd z
zip_left {A} R (u ∷ xs) (y ∷ ys) z x (inl e) = (y, inl refl, subst (λ (t : A). R t y) (sym e) z.0)
zip_left R (u ∷ xs) (y ∷ ys) z x (inr i) = let r = zip_left R xs ys z.1 x i in (r.0, inr r.1, r.2)

zip_right : {A B : Type 0} (R : A → B → Type 0) (xs : List A) (ys : List B) → AllZip R xs ys → (y : B) → IsIn y ys → (x : A) × IsIn x xs × R x y
zip_right R [] [] z y i = absurd i
zip_right R [] (v ∷ ys) z y i = absurd z
zip_right R (u ∷ xs) [] z y i = absurd z
zip_right {A} {B} R (u ∷ xs) (v ∷ ys) z y (inl e) = (u, inl refl, subst (λ (t : B). R u t) (sym e) z.0)
zip_right R (u ∷ xs) (v ∷ ys) z y (inr i) = let r = zip_right R xs ys z.1 y i in (r.0, inr r.1, r.2)

zip_numbers : (steps : List (ℕ × Ratio)) (t : Ratio) (xs ys : List (ℕ × Ends × Ratio)) → AllZip (IsMoved steps t) xs ys → numbers_of_arcs ys ≡ numbers_of_arcs xs
zip_numbers steps t [] [] z = refl
zip_numbers steps t [] (v ∷ ys) z = absurd z
zip_numbers steps t (u ∷ xs) [] z = absurd z
zip_numbers steps t (u ∷ xs) (v ∷ ys) z = ap (λ a. a ∷ numbers_of_arcs ys) z.0.number ∙ ap (λ r. u.0 ∷ r) (zip_numbers steps t xs ys z.1)

not_same : (a b : ℕ) → not (eqb a b) ≡ true → a ≢ b
not_same a b h = grind arith

same_not : (a b : ℕ) → a ≢ b → not (eqb a b) ≡ true
same_not a b h = grind arith

module _ (basics all : List (ℕ × Ends × Ratio)) (entering : ℕ × Ends × Ratio) (m : IsMerged number basics (entering ∷ []) all) where
  with_entering : (b : ℕ × Ends × Ratio) → IsIn b all ↔ IsIn b (entering ∷ basics)
  with_entering b = (
    (λ i. elim ((m.are b).0 i) [ inl k ↦ inr k | inr k ↦ elim k [ inl e ↦ inl e | inr z ↦ absurd z ] ]),
    (λ i. (m.are b).1 (elim i [ inl e ↦ inr (inl e) | inr k ↦ inl k ])),
  )

  pub numbers_in : (a : ℕ) → IsIn a (entering.0 ∷ numbers_of_arcs basics) → IsIn a (numbers_of_arcs all)
  numbers_in a i = let r = in_map_of number a (entering ∷ basics) i in subst (λ x. IsIn x (numbers_of_arcs all)) (sym r.2) (in_map number r.0 all ((with_entering r.0).1 r.1))

  flows_of_all : (flow : ℕ → Ratio) → AreFlowsOf flow (entering ∷ basics) → AreFlowsOf flow all
  flows_of_all flow h b i = h b ((with_entering b).0 i)

  pub first_past : (enter : ℕ) (steps : List (ℕ × Ratio)) (t : Ratio) (r : MoveRefusal) → IsFirstPast all enter steps t r → IsFirstPast (entering ∷ basics) enter steps t r
  first_past enter steps t (refusal.Past overflow) h = (h.0, h.1, (λ flow f. h.2 flow (flows_of_all flow f)))
  first_past enter steps t refusal.Memory h = record {}

  pub after_is : (leave : ℕ) (steps : List (ℕ × Ratio)) (t : Ratio) (moved rest : List (ℕ × Ends × Ratio)) → AreMoved all steps t moved → rest ≡ filter (λ x. not (x.0 == leave)) moved → AreFlowsAfter basics entering leave steps t rest
  after_is leave steps t moved rest w e = record {
    ascend = subst (λ x. IsStrictlyIncreasing (numbers_of_arcs x)) (sym e) (filter_rises number (λ x. not (x.0 == leave)) moved (subst IsStrictlyIncreasing (sym (zip_numbers steps t all moved w.each)) m.ascend));
    numbers = λ a. (
      (λ i.
          let r = in_map_of number a rest i in
          let k = kept r.0 r.1 in
          let b = zip_right (IsMoved steps t) all moved w.each r.0 k.0 in (
            subst (λ x. IsIn x (entering.0 ∷ numbers_of_arcs basics)) (sym b.2.number ∙ sym r.2) (in_map number b.0 (entering ∷ basics) ((with_entering b.0).0 b.1)),
            (λ f. not_same r.0.0 leave k.1 (sym r.2 ∙ f)),
          )),
      (λ s.
          let b = in_map_of number a (entering ∷ basics) s.0 in
          let c = zip_left (IsMoved steps t) all moved w.each b.0 ((with_entering b.0).1 b.1) in
          let is : c.0.0 ≡ a = c.2.number ∙ sym b.2 in
          subst (λ x. IsIn x (numbers_of_arcs rest)) is (in_map number c.0 rest (subst (λ x. IsIn c.0 x) (sym e) ((filter_holds (λ x. not (x.0 == leave)) moved c.0).1 (c.1, same_not c.0.0 leave (λ f. s.1 (sym is ∙ f))))))),
    );
    moved = λ c i. let b = zip_right (IsMoved steps t) all moved w.each c (kept c i).0 in (b.0, (with_entering b.0).0 b.1, b.2);
    fit = λ flow f. w.fit flow (flows_of_all flow f);
  }
    where
      kept : (c : ℕ × Ends × Ratio) → IsIn c rest → IsIn c moved × (not (eqb c.0 leave) ≡ true)
      kept c i = (filter_holds (λ x. not (x.0 == leave)) moved c).0 (subst (λ x. IsIn c x) e i)

pub only_new : (basics : List (ℕ × Ends × Ratio)) (entering : ℕ × Ends × Ratio) → (¬ IsIn entering.0 (numbers_of_arcs basics)) → (x y : ℕ × Ends × Ratio) → IsIn x basics → IsIn y (entering ∷ []) → x.0 ≡ y.0 → x ≡ y
only_new basics entering n x y i j e = elim j [
  | inl f ↦ absurd (n (subst (λ t. IsIn t (numbers_of_arcs basics)) (e ∙ ap number f) (in_map number x basics i)))
  | inr z ↦ absurd z
]
