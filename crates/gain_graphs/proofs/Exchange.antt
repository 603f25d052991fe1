-- A basis stays one when an arc enters whose direction is not 0 on the arc that leaves.
use Rattle.std.proofs.Common.{◌≡◌, ◌≢◌, inl, inr, sym, ap, ◌∙◌, subst, ap₂, ℕ, ◌<◌, List, [], ◌∷◌, ◌++◌, length, arith}
use Rattle.gain_graphs.specs.Field.{Field, total}
use Rattle.gain_graphs.specs.Arcs.{IsIn, AreDistinct, Ends, coefficient, balance}
use Rattle.gain_graphs.specs.Bases.{IsBasis, IsExchanged, IsDirection}
use Rattle.gain_graphs.proofs.Lists.{others_once, in_others, in_with, length_marked, split_at, at_most}
use Rattle.gain_graphs.proofs.Algebra
use Rattle.gain_graphs.proofs.Sums
use Rattle.gain_graphs.proofs.Pieces

module _ {Scalar : Type 0} (F : Field Scalar) (n : ℕ) (ends : ℕ → Ends Scalar) where
  infixl 60 ◌⊕◌
  infixl 70 ◌⊗◌
  open F use {zero, one, ◌⊕◌, ◌⊗◌, negated, plus_zero, plus_negated, times_assoc, times_comm}

  -- a sum over a list with one entry whose term is 0
  total_others : (f : ℕ → Scalar) (before : List ℕ) (a : ℕ) (after : List ℕ) → f a ≡ zero → total F f (before ++ a ∷ after) ≡ total F f (before ++ after)
  total_others f [] a after z = ap (λ t. t ⊕ total F f after) z ∙ Algebra.zero_plus F (total F f after)
  total_others f (b ∷ before) a after z = ap (λ t. f b ⊕ t) (total_others f before a after z)

  -- the sum of one flow, times a number, and of another, times a number and negated
  pub balance_of_difference : (x y : ℕ → Scalar) (p q : Scalar) (arcs : List ℕ) (v : ℕ)
      → balance F ends (λ a. p ⊗ x a ⊕ negated (q ⊗ y a)) arcs v ≡ p ⊗ balance F ends x arcs v ⊕ negated (q ⊗ balance F ends y arcs v)
  balance_of_difference x y p q arcs v =
      Sums.total_same F (λ a. k a ⊗ (p ⊗ x a ⊕ negated (q ⊗ y a))) (λ a. p ⊗ (k a ⊗ x a) ⊕ negated q ⊗ (k a ⊗ y a)) arcs
      (λ a _. F.times_plus (k a) (p ⊗ x a) (negated (q ⊗ y a))
      ∙ ap₂ (λ s t. s ⊕ t) (Algebra.times_left F (k a) p (x a)) (ap (λ t. k a ⊗ t) (sym (Algebra.negated_times F q (y a))) ∙ Algebra.times_left F (k a) (negated q) (y a)))
      ∙ Sums.total_plus F (λ a. p ⊗ (k a ⊗ x a)) (λ a. negated q ⊗ (k a ⊗ y a)) arcs
      ∙ ap₂ (λ s t. s ⊕ t) (Sums.total_times F p (λ a. k a ⊗ x a) arcs)
      (Sums.total_times F (negated q) (λ a. k a ⊗ y a) arcs ∙ Algebra.negated_times F q (balance F ends y arcs v))
    where
      k : ℕ → Scalar
      k a = coefficient F (ends a) v

  module _ (basic : List ℕ) (b : IsBasis F n ends basic) (enter leave : ℕ) (new : ¬ IsIn enter basic) (i : IsIn leave basic)
      (d : ℕ → Scalar) (direction : IsDirection F n ends basic enter d) (moves : d leave ≢ zero) (other : List ℕ) (e : IsExchanged basic other enter leave) where
    s : (before : List ℕ) × (after : List ℕ) × (before ++ leave ∷ after ≡ basic)
    s = split_at leave basic i

    rest : List ℕ
    rest = s.0 ++ s.1

    parts : AreDistinct rest × (¬ IsIn leave rest)
    unfolding rest
    parts = others_once s.0 leave s.1 (subst AreDistinct (sym s.2) b.once)

    in_basic : (a : ℕ) → IsIn a rest → IsIn a basic
    unfolding rest
    in_basic a j = subst (λ t. IsIn a t) s.2 (in_with a s.0 leave s.1 j)

    in_rest : (a : ℕ) → IsIn a basic → a ≢ leave → IsIn a rest
    unfolding rest
    in_rest a j h = elim (in_others a s.0 leave s.1 (subst (λ t. IsIn a t) (sym s.2) j)) [ inl p ↦ absurd (h p) | inr k ↦ k ]

    kept_once : AreDistinct (enter ∷ rest)
    kept_once = ((λ j. new (in_basic enter j)), parts.0)

    to_kept : (a : ℕ) → IsIn a other → IsIn a (enter ∷ rest)
    to_kept a j = elim ((e.are a).0 j) [ inl p ↦ inl p | inr r ↦ inr (in_rest a r.0 r.1) ]

    from_kept : (a : ℕ) → IsIn a (enter ∷ rest) → IsIn a other
    from_kept a j = (e.are a).1 (elim j [ inl p ↦ inl p | inr k ↦ inr (in_basic a k, λ p. parts.1 (subst (λ t. IsIn t rest) p k)) ])

    as_many : length other ≡ n
    unfolding rest
    as_many = omega (arith, b.as_many, ap length s.2, length_marked s.0 leave s.1, at_most other (enter ∷ rest) e.once to_kept, at_most (enter ∷ rest) other kept_once from_kept)

    module _ (x : ℕ → Scalar) (none : (v : ℕ) → v < n → balance F ends x other v ≡ zero) where
      -- the flow, with 0 on the arc that has left
      old : ℕ → Scalar
      old = Sums.put F leave zero x

      old_leave : old leave ≡ zero
      unfolding old
      old_leave = Sums.put_same F leave zero x

      old_other : (a : ℕ) → a ≢ leave → old a ≡ x a
      unfolding old
      old_other a h = Sums.put_other F leave zero x a h

      -- what the entering arc takes, the others give
      split : (v : ℕ) → v < n → coefficient F (ends enter) v ⊗ x enter ⊕ balance F ends old basic v ≡ zero
      unfolding rest
      split v l =
          ap (λ t. coefficient F (ends enter) v ⊗ x enter ⊕ t)
          (ap (λ t. balance F ends old t v) (sym s.2)
          ∙ total_others (λ a. coefficient F (ends a) v ⊗ old a) s.0 leave s.1 (ap (λ t. coefficient F (ends leave) v ⊗ t) old_leave ∙ Algebra.times_zero F (coefficient F (ends leave) v))
          ∙ Sums.total_same F (λ a. coefficient F (ends a) v ⊗ old a) (λ a. coefficient F (ends a) v ⊗ x a) rest
          (λ a j. ap (λ t. coefficient F (ends a) v ⊗ t) (old_other a (λ p. parts.1 (subst (λ t. IsIn t rest) p j)))))
          ∙ sym (Pieces.total_only F n ends (λ a. coefficient F (ends a) v ⊗ x a) (enter ∷ rest) other kept_once e.once from_kept (λ a j h. absurd (h (to_kept a j))))
          ∙ none v l

      mixed : ℕ → Scalar
      mixed a = d enter ⊗ old a ⊕ negated (x enter ⊗ d a)

      mixed_balanced : (v : ℕ) → v < n → balance F ends mixed basic v ≡ zero
      unfolding mixed
      mixed_balanced v l =
          balance_of_difference old d (d enter) (x enter) basic v
          ∙ ap₂ (λ p q. d enter ⊗ p ⊕ negated (x enter ⊗ q)) (Algebra.negated_of F (k ⊗ x enter) (balance F ends old basic v) (split v l)) (Algebra.negated_of F (k ⊗ d enter) (balance F ends d basic v) (direction v l))
          ∙ ap₂ (λ p q. p ⊕ negated q) (Algebra.times_negated F (d enter) (k ⊗ x enter)) (Algebra.times_negated F (x enter) (k ⊗ d enter))
          ∙ ap (λ t. negated (d enter ⊗ (k ⊗ x enter)) ⊕ negated (negated t)) (times_comm (x enter) (k ⊗ d enter) ∙ ap (λ t. t ⊗ x enter) (times_comm k (d enter)) ∙ times_assoc (d enter) k (x enter))
          ∙ plus_negated (negated (d enter ⊗ (k ⊗ x enter)))
        where
          k : Scalar
          k = coefficient F (ends enter) v

      enters_not : x enter ≡ zero
      unfolding mixed
      enters_not =
          Algebra.zero_of_times F (d leave) (x enter) moves (times_comm (d leave) (x enter)
          ∙ Algebra.same_of F (x enter ⊗ d leave) zero (ap (λ t. x enter ⊗ d leave ⊕ t) (Algebra.negated_zero F) ∙ plus_zero (x enter ⊗ d leave) ∙ sym (Algebra.negated_twice F (x enter ⊗ d leave))
          ∙ ap negated (sym (Algebra.zero_plus F (negated (x enter ⊗ d leave)))
          ∙ ap (λ t. t ⊕ negated (x enter ⊗ d leave)) (sym (ap (λ t. d enter ⊗ t) old_leave ∙ Algebra.times_zero F (d enter)))
          ∙ b.independent mixed mixed_balanced leave i)
          ∙ Algebra.negated_zero F))

      old_none : (a : ℕ) → IsIn a basic → old a ≡ zero
      old_none = b.independent old (λ v l. sym (Algebra.zero_plus F (balance F ends old basic v))
          ∙ ap (λ t. t ⊕ balance F ends old basic v) (sym (ap (λ t. coefficient F (ends enter) v ⊗ t) enters_not ∙ Algebra.times_zero F (coefficient F (ends enter) v))) ∙ split v l)

      is_none : (a : ℕ) → IsIn a other → x a ≡ zero
      is_none a j = elim ((e.are a).0 j) [ inl p ↦ ap x p ∙ enters_not | inr r ↦ sym (old_other a r.1) ∙ old_none a r.0 ]

    pub exchanged : IsBasis F n ends other
    exchanged = record { once = e.once; as_many = as_many; independent = is_none }
