-- Quasi-trees of both kinds over any field, so that the definitions are met.
use Rattle.std.proofs.Common.{◌≡◌, ◌≢◌, inl, inr, sym, ap, refl, ◌∙◌, subst, ℕ, [], ◌∷◌, arith}
use Rattle.gain_graphs.specs.Field.{Field}
use Rattle.gain_graphs.specs.Arcs.{Drain, Along, Against}
use Rattle.gain_graphs.specs.QuasiTrees.{LiesIn}
use Rattle.gain_graphs.specs.Laws as Laws

module _ {Scalar : Type 0} (F : Field Scalar) where
  infixl 70 ◌⊗◌
  open F use {one, ◌⊗◌, inverse, times_comm, times_one, times_inverse, one_is_not_zero}

  pub rooted : Laws.RootedExample F
  rooted v = record {
    nodes_once = ((λ i. i), record {});
    some_node = (v, inl refl);
    ends_inside = λ a. elim [ inl e ↦ subst (λ t. LiesIn F (v ∷ []) t) (sym e) (inl refl) | inr i ↦ absurd i ];
    joined = λ x y. λ i j. elim i [ inl e ↦ elim j [ inl f ↦ ([], e ∙ sym f) | inr k ↦ absurd k ] | inr k ↦ absurd k ];
    as_many = refl;
    extra = inl (Drain v, inl refl, record {});
  }

  pub cycle : Laws.CycleExample F
  cycle g not_zero not_one = record {
    nodes_once = ((elim [ inl e ↦ absurd (apart e) | inr i ↦ i ]), ((λ i. i), record {}));
    some_node = (0, inl refl);
    ends_inside = λ a. elim [
      | inl e ↦ subst (λ t. LiesIn F (0 ∷ 1 ∷ []) t) (sym e) (inl refl, inr (inl refl), one_is_not_zero)
      | inr i ↦ elim i [ inl e ↦ subst (λ t. LiesIn F (0 ∷ 1 ∷ []) t) (sym e) (inl refl, inr (inl refl), not_zero) | inr j ↦ absurd j ]
    ];
    joined = λ u v. λ i j. elim i [
      | inl e ↦ elim j [ inl f ↦ ([], e ∙ sym f) | inr k ↦ elim k [ inl f ↦ (Along 0 1 one ∷ [], (e, inl refl, sym f)) | inr l ↦ absurd l ] ]
      | inr h ↦ elim h [
        | inl e ↦ elim j [ inl f ↦ (Against 0 1 one ∷ [], (e, inl refl, sym f)) | inr k ↦ elim k [ inl f ↦ ([], e ∙ sym f) | inr l ↦ absurd l ] ]
        | inr l ↦ absurd l
      ]
    ];
    as_many = refl;
    extra = inr (0, Along 0 1 one ∷ Against 0 1 g ∷ [], inl refl, (refl, inl refl, (refl, inr (inl refl), refl)), λ e. not_one (same e));
  }
    where
      apart : ◌≢◌ {A = ℕ} 0 1
      apart e = absurd (omega (arith, e))

      same : one ⊗ (inverse g ⊗ one) ≡ one → g ≡ one
      same e =
          let i : inverse g ≡ one = sym (times_one (inverse g)) ∙ sym (times_one (inverse g ⊗ one)) ∙ times_comm (inverse g ⊗ one) one ∙ e in
          sym (times_one g) ∙ ap (λ t. g ⊗ t) (sym i) ∙ times_inverse g not_zero
