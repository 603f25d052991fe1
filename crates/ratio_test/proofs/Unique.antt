-- A direction has one answer.
use Rattle.std.specs.Prelude.{◌≡◌, ◌≢◌, ℕ, ◌≤◌, List, ◌∷◌}
use Rattle.std.proofs.Common.{refl, ap, subst, inl, inr, arith}
use Rattle.np_frac.specs.Ratio.{Ratio, zero_ratio}
use Rattle.np_frac.proofs.RatioLaws.{≤ᵣ_antisym}
use Rattle.np_model.specs.declared.log.Mark.{Mark}
use Rattle.np_model.specs.declared.log.Mark.TheVariants.{Lower, Upper, Basic}
use Rattle.np_model.specs.declared.piece.Direction.{Direction}
use Rattle.np_model.specs.Network.Flows.{Network}
use Rattle.np_model.specs.Basis.Moves.{IsTowards, Stops}
use Rattle.np_model.specs.Basis.Pieces.{PieceLists, basics_of, beside}
use Rattle.np_model.specs.Basis.Sound.{values_in}
use Rattle.np_model.specs.Basis.States.{Values}
use Rattle.ratio_test.specs.declared.answer.RatioAnswer.{RatioAnswer}
use Rattle.ratio_test.specs.declared.answer.RatioAnswer.TheVariants.{Flip, Leave, Ray}
use Rattle.ratio_test.specs.Answers.{IsGreatest, IsRatio}
use Rattle.ratio_test.specs.Asked.{far_bound}

-- a flow that changes goes towards one bound
one_bound : (d : Ratio) (a b : Mark) → d ≢ zero_ratio → IsTowards d a → IsTowards d b → a ≡ b
one_bound d Lower Lower n p q = refl
one_bound d Lower Upper n p q = absurd (n (≤ᵣ_antisym p q))
one_bound d Upper Lower n p q = absurd (n (≤ᵣ_antisym q p))
one_bound d Upper Upper n p q = refl
one_bound d Basic b n p q = absurd p
one_bound d Lower Basic n p q = absurd q
one_bound d Upper Basic n p q = absurd q

module _ (net : Network) (s : Values) (all : List ℕ) (enter : ℕ) (d : ℕ → Ratio) where
  one_step : (t z : Ratio) (a b : ℕ) (k m : Mark) → IsGreatest net s all enter d t a k → IsGreatest net s all enter d z b m → t ≡ z
  one_step t z a b k m p q = ≤ᵣ_antisym (q.greatest t p.within) (p.greatest z q.within)

  one_arc : (t : Ratio) (a b : ℕ) (k m : Mark) → a ≢ enter → b ≢ enter → IsGreatest net s all enter d t a k → IsGreatest net s all enter d t b m → a ≡ b
  one_arc t a b k m na nb p q =
      let one : a ≤ b = elim (p.first b m q.leaves q.stops) [ inl e ↦ absurd (na e) | inr h ↦ h.1 ] in
      let two : b ≤ a = elim (q.first a k p.leaves p.stops) [ inl e ↦ absurd (nb e) | inr h ↦ h.1 ] in
      omega arith

  one_mark : (t : Ratio) (a : ℕ) (k m : Mark) → IsGreatest net s all enter d t a k → IsGreatest net s all enter d t a m → k ≡ m
  one_mark t a k m p q = one_bound (d a) k m p.stops.moves p.stops.towards q.stops.towards

  -- where the entering arc stops the flows, no other arc leaves
  no_other : (t z : Ratio) (a : ℕ) (k m : Mark) → a ≢ enter → IsGreatest net s all enter d t enter k → ¬ IsGreatest net s all enter d z a m
  no_other t z a k m n p q =
      let same = one_step t z enter a k m p q in
      elim (q.first enter k p.leaves (subst (λ (r : Ratio). Stops net s d r enter k) same p.stops)) [ inl e ↦ n e | inr h ↦ h.0 refl ]

  same_leave : (t z : Ratio) (a b : ℕ) (k m : Mark) → a ≢ enter → b ≢ enter → IsGreatest net s all enter d t a k → IsGreatest net s all enter d z b m → Leave a k t ≡ Leave b m z
  same_leave t z a b k m na nb p q =
      let step : t ≡ z = one_step t z a b k m p q in
      let p' : IsGreatest net s all enter d z a k = subst (λ (r : Ratio). IsGreatest net s all enter d r a k) step p in
      let arc : a ≡ b = one_arc z a b k m na nb p' q in
      let mark : k ≡ m = one_mark z b k m (subst (λ (n : ℕ). IsGreatest net s all enter d z n k) arc p') q in
      cc (step, arc, mark)

pub one_answer : (net : Network) (pieces : List PieceLists) (direction : Direction) (a b : RatioAnswer) → IsRatio net pieces direction a → IsRatio net pieces direction b → a ≡ b
one_answer net pieces direction (Flip t) (Flip z) p q =
    ap Flip (one_step net (values_in net pieces) (direction.enter ∷ basics_of pieces) direction.enter (beside zero_ratio direction.steps) t z direction.enter direction.enter (far_bound direction.up) (far_bound direction.up) p q)
one_answer net pieces direction (Flip t) (Leave a k z) p q =
    absurd (no_other net (values_in net pieces) (direction.enter ∷ basics_of pieces) direction.enter (beside zero_ratio direction.steps) t z a (far_bound direction.up) k q.0 p q.1)
one_answer net pieces direction (Leave a k t) (Flip z) p q =
    absurd (no_other net (values_in net pieces) (direction.enter ∷ basics_of pieces) direction.enter (beside zero_ratio direction.steps) z t a (far_bound direction.up) k p.0 q p.1)
one_answer net pieces direction (Leave a k t) (Leave b m z) p q =
    same_leave net (values_in net pieces) (direction.enter ∷ basics_of pieces) direction.enter (beside zero_ratio direction.steps) t z a b k m p.0 q.0 p.1 q.1
one_answer net pieces direction (Flip t) Ray p q = absurd (q.none_stops t direction.enter (far_bound direction.up) p.leaves p.stops)
one_answer net pieces direction (Leave a k t) Ray p q = absurd (q.none_stops t a k p.1.leaves p.1.stops)
one_answer net pieces direction Ray (Flip t) p q = absurd (p.none_stops t direction.enter (far_bound direction.up) q.leaves q.stops)
one_answer net pieces direction Ray (Leave a k t) p q = absurd (p.none_stops t a k q.1.leaves q.1.stops)
one_answer net pieces direction Ray Ray p q = refl
