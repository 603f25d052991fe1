-- The direction of an arc outside of a basis, and the exchange along it.
use Rattle.std.proofs.Common.{◌≡◌, sym, ap, ◌∙◌, subst, ap₂, ℕ, ◌<◌}
use Rattle.gain_graphs.specs.Field.{Field}
use Rattle.gain_graphs.specs.Arcs.{IsIn, coefficient, balance}
use Rattle.gain_graphs.specs.Bases.{IsDirection}
use Rattle.gain_graphs.specs.Laws as Laws
use Rattle.gain_graphs.proofs.Selected.{upto, upto_holds, upto_once, length_upto}
use Rattle.gain_graphs.proofs.Algebra
use Rattle.gain_graphs.proofs.Sums
use Rattle.gain_graphs.proofs.Flows
use Rattle.gain_graphs.proofs.Bases
use Rattle.gain_graphs.proofs.Exchange

module _ {Scalar : Type 0} (F : Field Scalar) where
  infixl 60 ◌⊕◌
  infixl 70 ◌⊗◌
  open F use {zero, one, ◌⊕◌, ◌⊗◌, negated, plus_negated}

  pub direction_exists : Laws.DirectionExists F
  direction_exists n ends basic valid b enter new amount = (d, Sums.put_same F enter amount r.0, balanced)
    where
      need : ℕ → Scalar
      need v = negated (coefficient F (ends enter) v ⊗ amount)

      r : (x : ℕ → Scalar) × ((v : ℕ) → IsIn v (upto n) → balance F ends x basic v ≡ need v)
      r = Flows.flow_exists F ends (upto n) basic (upto_once n) (λ a i. Bases.lies_in_all F n ends (ends a) (valid a i)) (b.as_many ∙ sym (length_upto n)) (Bases.basis_rigid F n ends basic valid b) b.once need

      d : ℕ → Scalar
      d = Sums.put F enter amount r.0

      balanced : IsDirection F n ends basic enter d
      balanced v l =
          ap₂ (λ p q. coefficient F (ends enter) v ⊗ p ⊕ q) (Sums.put_same F enter amount r.0)
          (Sums.total_same F (λ a. coefficient F (ends a) v ⊗ d a) (λ a. coefficient F (ends a) v ⊗ r.0 a) basic
          (λ a i. ap (λ t. coefficient F (ends a) v ⊗ t) (Sums.put_other F enter amount r.0 a (λ p. new (subst (λ t. IsIn t basic) p i))))
          ∙ r.1 v (upto_holds n v l))
          ∙ plus_negated (coefficient F (ends enter) v ⊗ amount)

  pub direction_is_unique : Laws.DirectionIsUnique F
  direction_is_unique n ends basic b enter x y dx dy e a i =
      Algebra.same_of F (x a) (y a) (ap₂ (λ p q. p ⊕ negated q) (sym (Algebra.one_times F (x a))) (sym (Algebra.one_times F (y a))) ∙ b.independent z none a i)
    where
      z : ℕ → Scalar
      z c = one ⊗ x c ⊕ negated (one ⊗ y c)

      same : (v : ℕ) → v < n → balance F ends x basic v ≡ balance F ends y basic v
      same v l =
          Algebra.negated_of F (coefficient F (ends enter) v ⊗ x enter) (balance F ends x basic v) (dx v l)
          ∙ ap (λ t. negated (coefficient F (ends enter) v ⊗ t)) e
          ∙ sym (Algebra.negated_of F (coefficient F (ends enter) v ⊗ y enter) (balance F ends y basic v) (dy v l))

      none : (v : ℕ) → v < n → balance F ends z basic v ≡ zero
      none v l =
          Exchange.balance_of_difference F n ends x y one one basic v
          ∙ ap (λ t. one ⊗ balance F ends x basic v ⊕ negated (one ⊗ t)) (sym (same v l)) ∙ plus_negated (one ⊗ balance F ends x basic v)

  pub exchange_keeps_basis : Laws.ExchangeKeepsBasis F
  exchange_keeps_basis n ends basic b enter leave new i flow direction moves other e = Exchange.exchanged F n ends basic b enter leave new i flow direction moves other e
