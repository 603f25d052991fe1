-- Laws of a field that follow from those of the record.
use Rattle.std.proofs.Common.{◌≡◌, ◌≢◌, sym, ap, ◌∙◌}
use Rattle.gain_graphs.specs.Field.{Field}

module _ {Scalar : Type 0} (F : Field Scalar) where
  infixl 60 ◌⊕◌
  infixl 70 ◌⊗◌
  open F use {zero, one, ◌⊕◌, ◌⊗◌, negated, inverse, plus_assoc, plus_comm, plus_zero, plus_negated, times_assoc, times_comm, times_one, times_plus, times_inverse}

  pub zero_plus : (a : Scalar) → zero ⊕ a ≡ a
  zero_plus a = rw (plus_comm zero a) (plus_zero a)

  pub negated_plus : (a : Scalar) → negated a ⊕ a ≡ zero
  negated_plus a = rw (plus_comm (negated a) a) (plus_negated a)

  pub plus_left : (a b c : Scalar) → a ⊕ (b ⊕ c) ≡ b ⊕ (a ⊕ c)
  plus_left a b c = rw (← plus_assoc a b c, plus_comm a b, plus_assoc b a c)

  pub times_left : (a b c : Scalar) → a ⊗ (b ⊗ c) ≡ b ⊗ (a ⊗ c)
  times_left a b c = rw (← times_assoc a b c, times_comm a b, times_assoc b a c)

  pub one_times : (a : Scalar) → one ⊗ a ≡ a
  one_times a = rw (times_comm one a) (times_one a)

  pub plus_times : (a b c : Scalar) → (a ⊕ b) ⊗ c ≡ a ⊗ c ⊕ b ⊗ c
  plus_times a b c = rw (times_comm (a ⊕ b) c, times_plus c a b, times_comm c a, times_comm c b)

  pub cancel_negated : (a b : Scalar) → negated a ⊕ (a ⊕ b) ≡ b
  cancel_negated a b = rw (← plus_assoc (negated a) a b, negated_plus a) (zero_plus b)

  pub plus_left_cancel : (a b c : Scalar) → a ⊕ b ≡ a ⊕ c → b ≡ c
  plus_left_cancel a b c e = sym (cancel_negated a b) ∙ ap (λ x. negated a ⊕ x) e ∙ cancel_negated a c

  pub times_zero : (a : Scalar) → a ⊗ zero ≡ zero
  times_zero a = plus_left_cancel (a ⊗ zero) (a ⊗ zero) zero (rw (← times_plus a zero zero, plus_zero zero, plus_zero (a ⊗ zero)))

  pub zero_times : (a : Scalar) → zero ⊗ a ≡ zero
  zero_times a = rw (times_comm zero a) (times_zero a)

  pub negated_of : (a b : Scalar) → a ⊕ b ≡ zero → b ≡ negated a
  negated_of a b e = plus_left_cancel a b (negated a) (e ∙ sym (plus_negated a))

  pub negated_zero : negated zero ≡ zero
  negated_zero = sym (negated_of zero zero (plus_zero zero))

  pub negated_twice : (a : Scalar) → negated (negated a) ≡ a
  negated_twice a = sym (negated_of (negated a) a (negated_plus a))

  pub negated_times : (a b : Scalar) → negated a ⊗ b ≡ negated (a ⊗ b)
  negated_times a b = negated_of (a ⊗ b) (negated a ⊗ b) (rw (← plus_times a (negated a) b, plus_negated a) (zero_times b))

  pub times_negated : (a b : Scalar) → a ⊗ negated b ≡ negated (a ⊗ b)
  times_negated a b = rw (times_comm a (negated b), negated_times b a, times_comm b a)

  pub negated_of_sum : (a b : Scalar) → negated (a ⊕ b) ≡ negated a ⊕ negated b
  negated_of_sum a b = sym (negated_of (a ⊕ b) (negated a ⊕ negated b) (rw (plus_assoc a b (negated a ⊕ negated b), plus_left b (negated a) (negated b), plus_negated b, plus_zero (negated a)) (plus_negated a)))

  -- two values whose difference is 0
  pub same_of : (a b : Scalar) → a ⊕ negated b ≡ zero → a ≡ b
  same_of a b e = sym (negated_twice a) ∙ ap negated (sym (negated_of a (negated b) e)) ∙ negated_twice b

  pub inverse_times : (a : Scalar) → a ≢ zero → inverse a ⊗ a ≡ one
  inverse_times a h = times_comm (inverse a) a ∙ times_inverse a h

  -- a value that is not 0 is cancelled
  pub times_left_cancel : (a b c : Scalar) → a ≢ zero → a ⊗ b ≡ a ⊗ c → b ≡ c
  times_left_cancel a b c h e =
      sym (one_times b) ∙ ap (λ x. x ⊗ b) (sym (inverse_times a h)) ∙ times_assoc (inverse a) a b
      ∙ ap (λ x. inverse a ⊗ x) e
      ∙ sym (times_assoc (inverse a) a c) ∙ ap (λ x. x ⊗ c) (inverse_times a h) ∙ one_times c

  pub zero_of_times : (a b : Scalar) → a ≢ zero → a ⊗ b ≡ zero → b ≡ zero
  zero_of_times a b h e = times_left_cancel a b zero h (e ∙ sym (times_zero a))

  pub times_not_zero : (a b : Scalar) → a ≢ zero → b ≢ zero → a ⊗ b ≢ zero
  times_not_zero a b h k e = k (zero_of_times a b h e)

  pub inverse_not_zero : (a : Scalar) → a ≢ zero → inverse a ≢ zero
  inverse_not_zero a h e = F.one_is_not_zero (sym (times_inverse a h) ∙ ap (λ x. a ⊗ x) e ∙ times_zero a)

  pub plus_pairs : (a b c d : Scalar) → (a ⊕ b) ⊕ (c ⊕ d) ≡ (a ⊕ c) ⊕ (b ⊕ d)
  plus_pairs a b c d = rw (plus_assoc a b (c ⊕ d), plus_left b c d, ← plus_assoc a c (b ⊕ d))
