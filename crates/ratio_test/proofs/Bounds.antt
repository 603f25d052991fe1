-- How far one flow can go until it is at a bound.
use Rattle.std.specs.Prelude.{◌≡◌, ◌≢◌, pos, Bool, true, false, Option, Some, None, Ok, if◌then◌else◌}
use Rattle.std.proofs.Common.{refl, sym, ap, ◌∙◌, subst, arith, inl, inr}
use Rattle.np_frac.specs.Ratio.{Ratio, zero_ratio, whole, negated, inverse, is_below, ◌≤ᵣ◌, ◌<ᵣ◌, ◌+ᵣ◌, ◌-ᵣ◌, ◌*ᵣ◌}
use Rattle.np_frac.specs.Exact.{minus_of, over_of, ◌▷◌}
use Rattle.np_frac.proofs.Parts.{by2, by3, operations, same, same_parts}
use Rattle.np_frac.proofs.RatioLaws.{+ᵣ-zero, *ᵣ_assoc, *ᵣ_comm, *ᵣ-zero, zero-*ᵣ, add_back, ≤ᵣ_same, ≤ᵣ_refl, ≤ᵣ_trans, below_or, <ᵣ_is_≤ᵣ, clash, +ᵣ_at_most, +ᵣ_at_most_left, *ᵣ_at_most, minus_at_most, is_below_true, is_below_false, same_by_tests}
use Rattle.np_frac.proofs.Field.{+ᵣ-negated, *ᵣ-inverse, *ᵣ-one, quotient_at_most}
use Rattle.np_frac.proofs.Facts.{quotient_times}
use Rattle.np_frac.proofs.Exactness.{minus_exact, over_exact, found_by}
use Rattle.np_model.specs.declared.arc.NetArc.{NetArc}
use Rattle.np_model.specs.declared.arc.Upper.{Upper as UpperBound}
use Rattle.np_model.specs.declared.arc.Upper.TheVariants.{Finite, Infinite}
use Rattle.np_model.specs.declared.log.Mark.{Mark}
use Rattle.np_model.specs.declared.log.Mark.TheVariants.{Lower, Upper, Basic}
use Rattle.np_model.specs.Network.Arcs.{IsWithin, IsAtMost, IsFull}
use Rattle.np_model.specs.Basis.Moves.{IsTowards}
use Rattle.np_model.specs.Basis.States.{StandsAt}
use Rattle.np_model.specs.Rows.Arcs.{limit_up, limit_of}
use Rattle.ratio_test.specs.Limits.{bound_ahead, IsFree, IsLimited, IsLimit}

-- ---- ratios

back : (x w : Ratio) → (x +ᵣ w) -ᵣ x ≡ w
back = by2 (λ x w. (x +ᵣ w) -ᵣ x ≡ w) (λ x y. simp operations (same _ _ (omega arith)))

-- a quotient of a product is the factor
quotient_is : (z d r : Ratio) → d ≢ zero_ratio → z *ᵣ d ≡ r → z ≡ r *ᵣ inverse d
quotient_is z d r h e = sym (ap (λ (t : Ratio). t *ᵣ inverse d) (sym e) ∙ *ᵣ_assoc z d (inverse d) ∙ ap (λ (t : Ratio). z *ᵣ t) (*ᵣ-inverse d h) ∙ *ᵣ-one z)

pub apart : {d : Ratio} → zero_ratio <ᵣ d → d ≢ zero_ratio
apart h e = clash h (≤ᵣ_same e)

grown : {y z d : Ratio} → zero_ratio <ᵣ d → y ≤ᵣ z → y *ᵣ d ≤ᵣ z *ᵣ d
grown {y} {z} {d} h k = rw (*ᵣ_comm y d, *ᵣ_comm z d) (*ᵣ_at_most (<ᵣ_is_≤ᵣ h) k)

pub opposite_above : {d : Ratio} → d <ᵣ zero_ratio → zero_ratio <ᵣ negated d
opposite_above {d} h = elim (below_or zero_ratio (negated d)) [
  | inl k ↦ k
  | inr k ↦ absurd (clash h (rw (+ᵣ-negated d, +ᵣ-zero d) at (+ᵣ_at_most (≤ᵣ_refl d) k)))
]

-- ---- upwards: the room is u - x

module _ (x d u : Ratio) (above : zero_ratio <ᵣ d) where
  most : Ratio
  most = (u -ᵣ x) *ᵣ inverse d

  up_product : most *ᵣ d ≡ u -ᵣ x
  unfolding most
  up_product = quotient_times (u -ᵣ x) d (apart above)

  up_rests : x +ᵣ most *ᵣ d ≡ u
  up_rests = rw up_product (add_back x u)

  up_no_further : (z : Ratio) → x +ᵣ z *ᵣ d ≤ᵣ u → z ≤ᵣ most
  unfolding most
  up_no_further z h = quotient_at_most z d (u -ᵣ x) above (rw (back x (z *ᵣ d)) at (minus_at_most x h))

  up_only : (z : Ratio) → x +ᵣ z *ᵣ d ≡ u → z ≡ most
  unfolding most
  up_only z e = quotient_is z d (u -ᵣ x) (apart above) (sym (back x (z *ᵣ d)) ∙ ap (λ (t : Ratio). t -ᵣ x) e)

  up_to : (z : Ratio) → z ≤ᵣ most → x +ᵣ z *ᵣ d ≤ᵣ u
  up_to z h = subst (λ (t : Ratio). x +ᵣ z *ᵣ d ≤ᵣ t) up_rests (+ᵣ_at_most (≤ᵣ_refl x) (grown above h))

  up_not_negative : x ≤ᵣ u → zero_ratio ≤ᵣ most
  up_not_negative h = up_no_further zero_ratio (rw (zero-*ᵣ d, +ᵣ-zero x) h)

up_from : {x z d : Ratio} → zero_ratio <ᵣ d → zero_ratio ≤ᵣ z → x ≤ᵣ x +ᵣ z *ᵣ d
up_from {x} {z} {d} h k =
    let more : zero_ratio ≤ᵣ z *ᵣ d = subst (λ (t : Ratio). t ≤ᵣ z *ᵣ d) (zero-*ᵣ d) (grown h k) in
    subst (λ (t : Ratio). t ≤ᵣ x +ᵣ z *ᵣ d) (+ᵣ-zero x) (+ᵣ_at_most (≤ᵣ_refl x) more)

-- ---- downwards: the room is x - l

turned : (z d : Ratio) → z *ᵣ d ≡ negated (z *ᵣ negated d)
turned = by2 (λ z d. z *ᵣ d ≡ negated (z *ᵣ negated d)) (λ x y. simp operations (same _ _ (omega arith)))

exchanged : (x l w : Ratio) → (x -ᵣ w) +ᵣ (w -ᵣ l) ≡ x -ᵣ l
exchanged = by3 (λ x l w. (x -ᵣ w) +ᵣ (w -ᵣ l) ≡ x -ᵣ l) (λ x y z. simp operations (same _ _ (omega arith)))

twice : (x l : Ratio) → x -ᵣ (x -ᵣ l) ≡ l
twice = by2 (λ x l. x -ᵣ (x -ᵣ l) ≡ l) (λ x y. simp operations (same _ _ (omega arith)))

exchange : (x l w : Ratio) → l ≤ᵣ x -ᵣ w → w ≤ᵣ x -ᵣ l
exchange x l w h = rw (add_back l w, exchanged x l w) at (+ᵣ_at_most_left (w -ᵣ l) h)

module _ (x d l : Ratio) (below : d <ᵣ zero_ratio) where
  least : Ratio
  least = (x -ᵣ l) *ᵣ inverse (negated d)

  down_is : (z : Ratio) → x +ᵣ z *ᵣ d ≡ x -ᵣ z *ᵣ negated d
  down_is z = ap (λ (t : Ratio). x +ᵣ t) (turned z d)

  down_product : least *ᵣ negated d ≡ x -ᵣ l
  unfolding least
  down_product = quotient_times (x -ᵣ l) (negated d) (apart (opposite_above below))

  down_rests : x +ᵣ least *ᵣ d ≡ l
  down_rests = down_is least ∙ rw down_product (twice x l)

  down_no_further : (z : Ratio) → l ≤ᵣ x +ᵣ z *ᵣ d → z ≤ᵣ least
  unfolding least
  down_no_further z h = quotient_at_most z (negated d) (x -ᵣ l) (opposite_above below) (exchange x l (z *ᵣ negated d) (subst (λ (t : Ratio). l ≤ᵣ t) (down_is z) h))

  down_only : (z : Ratio) → x +ᵣ z *ᵣ d ≡ l → z ≡ least
  unfolding least
  down_only z e =
      quotient_is z (negated d) (x -ᵣ l) (apart (opposite_above below)) (sym (twice x (z *ᵣ negated d)) ∙ ap (λ (t : Ratio). x -ᵣ t) (sym (down_is z) ∙ e))

  down_to : (z : Ratio) → z ≤ᵣ least → l ≤ᵣ x +ᵣ z *ᵣ d
  down_to z h =
      let room : z *ᵣ negated d ≤ᵣ x -ᵣ l = subst (λ (t : Ratio). z *ᵣ negated d ≤ᵣ t) down_product (grown (opposite_above below) h) in
      subst (λ (t : Ratio). l ≤ᵣ t) (sym (down_is z)) (exchange x (z *ᵣ negated d) l room)

  down_not_negative : l ≤ᵣ x → zero_ratio ≤ᵣ least
  down_not_negative h = down_no_further zero_ratio (rw (zero-*ᵣ d, +ᵣ-zero x) h)

down_from : {x z d : Ratio} → d <ᵣ zero_ratio → zero_ratio ≤ᵣ z → x +ᵣ z *ᵣ d ≤ᵣ x
down_from {x} {z} {d} h k =
    let less : z *ᵣ d ≤ᵣ zero_ratio = subst (λ (t : Ratio). z *ᵣ d ≤ᵣ t) (*ᵣ-zero z) (*ᵣ_at_most k (<ᵣ_is_≤ᵣ h)) in
    subst (λ (t : Ratio). x +ᵣ z *ᵣ d ≤ᵣ t) (+ᵣ-zero x) (+ᵣ_at_most (≤ᵣ_refl x) less)

at_most_too : (y x : Ratio) (u : UpperBound) → y ≤ᵣ x → IsAtMost x u → IsAtMost y u
at_most_too y x (Finite u) h k = ≤ᵣ_trans h k
at_most_too y x Infinite h k = k

-- ---- row A5 of one arc

ahead_up : (d : Ratio) (b : Bool) → is_below zero_ratio d ≡ b → zero_ratio <ᵣ d → bound_ahead d ≡ Upper
ahead_up d true e h = rw e refl
ahead_up d false e h = absurd (clash h (is_below_false zero_ratio d e))

ahead_down : (d : Ratio) (b : Bool) → is_below zero_ratio d ≡ b → d <ᵣ zero_ratio → bound_ahead d ≡ Lower
ahead_down d true e h = absurd (clash h (<ᵣ_is_≤ᵣ (is_below_true zero_ratio d e)))
ahead_down d false e h = rw e refl

up_rests_once : (arc : NetArc) (x d u : Ratio) (above : zero_ratio <ᵣ d) (z : Ratio) (bound : Mark) → arc.upper ≡ Finite u → IsTowards d bound
    → StandsAt arc bound (x +ᵣ z *ᵣ d) → z ≡ most x d u above
up_rests_once arc x d u above z Lower is towards at = absurd (clash above towards)
up_rests_once arc x d u above z Upper is towards at = up_only x d u above z (subst (λ (b : UpperBound). IsFull (x +ᵣ z *ᵣ d) b) is at)
up_rests_once arc x d u above z Basic is towards at = absurd towards

up_limited : (arc : NetArc) (x d u : Ratio) → arc.upper ≡ Finite u → (above : zero_ratio <ᵣ d) → IsWithin arc x → IsLimited arc x d (most x d u above)
up_limited arc x d u is above within =
    let ahead = ahead_up d (is_below zero_ratio d) refl above in
    let under : (y : Ratio) → IsAtMost y arc.upper → y ≤ᵣ u = λ y h. subst (λ (b : UpperBound). IsAtMost y b) is h in
    record {
      not_negative = up_not_negative x d u above (under x within.1);
      up_to = λ z h k. (≤ᵣ_trans within.0 (up_from above h), subst (λ (b : UpperBound). IsAtMost (x +ᵣ z *ᵣ d) b) (sym is) (up_to x d u above z k));
      no_further = λ z h. up_no_further x d u above z (under (x +ᵣ z *ᵣ d) h.1);
      towards = subst (λ (b : Mark). IsTowards d b) (sym ahead) (<ᵣ_is_≤ᵣ above);
      rests = subst (λ (b : Mark). StandsAt arc b (x +ᵣ most x d u above *ᵣ d)) (sym ahead)
          (subst (λ (b : UpperBound). IsFull (x +ᵣ most x d u above *ᵣ d) b) (sym is) (up_rests x d u above));
      only = λ z bound towards at. up_rests_once arc x d u above z bound is towards at;
    }

down_rests_once : (arc : NetArc) (x d : Ratio) (below : d <ᵣ zero_ratio) (z : Ratio) (bound : Mark) → IsTowards d bound → StandsAt arc bound (x +ᵣ z *ᵣ d)
    → z ≡ least x d arc.lower below
down_rests_once arc x d below z Lower towards at = down_only x d arc.lower below z at
down_rests_once arc x d below z Upper towards at = absurd (clash below towards)
down_rests_once arc x d below z Basic towards at = absurd towards

down_limited : (arc : NetArc) (x d : Ratio) (below : d <ᵣ zero_ratio) → IsWithin arc x → IsLimited arc x d (least x d arc.lower below)
down_limited arc x d below within =
    let ahead = ahead_down d (is_below zero_ratio d) refl below in
    record {
      not_negative = down_not_negative x d arc.lower below within.0;
      up_to = λ z h k. (down_to x d arc.lower below z k, at_most_too (x +ᵣ z *ᵣ d) x arc.upper (down_from below h) within.1);
      no_further = λ z h. down_no_further x d arc.lower below z h.0;
      towards = subst (λ (b : Mark). IsTowards d b) (sym ahead) (<ᵣ_is_≤ᵣ below);
      rests = subst (λ (b : Mark). StandsAt arc b (x +ᵣ least x d arc.lower below *ᵣ d)) (sym ahead) (down_rests x d arc.lower below);
      only = λ z bound towards at. down_rests_once arc x d below z bound towards at;
    }

no_upper : (arc : NetArc) (d y : Ratio) (bound : Mark) → arc.upper ≡ Infinite → zero_ratio <ᵣ d → IsTowards d bound → ¬ StandsAt arc bound y
no_upper arc d y Lower is above towards at = clash above towards
no_upper arc d y Upper is above towards at = subst (λ (b : UpperBound). IsFull y b) is at
no_upper arc d y Basic is above towards at = towards

up_free : (arc : NetArc) (x d : Ratio) → arc.upper ≡ Infinite → zero_ratio <ᵣ d → IsWithin arc x → IsFree arc x d
up_free arc x d is above within = record {
  keeps = λ z h. (≤ᵣ_trans within.0 (up_from above h), subst (λ (b : UpperBound). IsAtMost (x +ᵣ z *ᵣ d) b) (sym is) tt);
  none_rests = λ z bound towards. no_upper arc d (x +ᵣ z *ᵣ d) bound is above towards;
}

-- what row A5 finds for an arc that moves
module _ (arc : NetArc) (x d : Ratio) (within : IsWithin arc x) where
  limit_up_found : (above : zero_ratio <ᵣ d) (u : UpperBound) (m : Option Ratio) → arc.upper ≡ u → limit_up u x d ≡ Ok m → IsLimit arc x d m
  unfolding most
  limit_up_found above (Finite u) m is e =
      let room = found_by (minus_of u x) (λ room. over_of room d ▷ λ step. Ok (Some step)) m e in
      let step = found_by (over_of room.0 d) (λ step. Ok (Some step)) m room.2 in
      let value : step.0 ≡ most x d u above = over_exact room.0 d step.0 step.1 ∙ ap (λ (r : Ratio). r *ᵣ inverse d) (minus_exact u x room.0 room.1) in
      let found : m ≡ Some (most x d u above) = cc (step.2, value) in
      subst (λ (n : Option Ratio). IsLimit arc x d n) (sym found) (up_limited arc x d u is above within)
  limit_up_found above Infinite m is e =
      let found : m ≡ None = cc e in
      subst (λ (n : Option Ratio). IsLimit arc x d n) (sym found) (up_free arc x d is above within)

  limit_down_found : (below : d <ᵣ zero_ratio) (m : Option Ratio) → (minus_of x arc.lower ▷ λ room. over_of room (negated d) ▷ λ step. Ok (Some step)) ≡ Ok m → IsLimit arc x d m
  unfolding least
  limit_down_found below m e =
      let room = found_by (minus_of x arc.lower) (λ room. over_of room (negated d) ▷ λ step. Ok (Some step)) m e in
      let step = found_by (over_of room.0 (negated d)) (λ step. Ok (Some step)) m room.2 in
      let value : step.0 ≡ least x d arc.lower below = over_exact room.0 (negated d) step.0 step.1 ∙ ap (λ (r : Ratio). r *ᵣ inverse (negated d)) (minus_exact x arc.lower room.0 room.1) in
      let found : m ≡ Some (least x d arc.lower below) = cc (step.2, value) in
      subst (λ (n : Option Ratio). IsLimit arc x d n) (sym found) (down_limited arc x d below within)

  by_tests : (b c : Bool) → is_below zero_ratio d ≡ b → is_below d zero_ratio ≡ c → (m : Option Ratio) → d ≢ zero_ratio
      → (if b then limit_up arc.upper x d else (if c then (minus_of x arc.lower ▷ λ room. over_of room (negated d) ▷ λ step. Ok (Some step)) else Ok None)) ≡ Ok m
      → IsLimit arc x d m
  by_tests true c p q m moves e = limit_up_found (is_below_true zero_ratio d p) arc.upper m refl e
  by_tests false true p q m moves e = limit_down_found (is_below_true d zero_ratio q) m e
  by_tests false false p q m moves e = absurd (moves (same_by_tests d zero_ratio q p))

  pub limit_found : (m : Option Ratio) → d ≢ zero_ratio → limit_of arc x d ≡ Ok m → IsLimit arc x d m
  limit_found m moves e = by_tests (is_below zero_ratio d) (is_below d zero_ratio) refl refl m moves e
