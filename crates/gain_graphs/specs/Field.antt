-- Fields: what the laws ask of the numbers that are gains, costs, flows and potentials. They ask for no order.
use Rattle.std.specs.Prelude.{◌≡◌, ◌≢◌, List, [], ◌∷◌}

-- a field with these elements, in which equality can be decided
pub record Field (Scalar : Type 0) : Type 0 where
  infixl 60 ◌⊕◌
  infixl 70 ◌⊗◌
  pub zero : Scalar
  pub one : Scalar
  pub ◌⊕◌ : Scalar → Scalar → Scalar
  pub ◌⊗◌ : Scalar → Scalar → Scalar
  pub negated : Scalar → Scalar
  pub inverse : Scalar → Scalar
  pub plus_assoc : (a b c : Scalar) → (a ⊕ b) ⊕ c ≡ a ⊕ (b ⊕ c)
  pub plus_comm : (a b : Scalar) → a ⊕ b ≡ b ⊕ a
  pub plus_zero : (a : Scalar) → a ⊕ zero ≡ a
  pub plus_negated : (a : Scalar) → a ⊕ negated a ≡ zero
  pub times_assoc : (a b c : Scalar) → (a ⊗ b) ⊗ c ≡ a ⊗ (b ⊗ c)
  pub times_comm : (a b : Scalar) → a ⊗ b ≡ b ⊗ a
  pub times_one : (a : Scalar) → a ⊗ one ≡ a
  pub times_plus : (a b c : Scalar) → a ⊗ (b ⊕ c) ≡ a ⊗ b ⊕ a ⊗ c
  pub times_inverse : (a : Scalar) → a ≢ zero → a ⊗ inverse a ≡ one
  pub one_is_not_zero : one ≢ zero
  pub decide : (a b : Scalar) → Dec (a ≡ b)

module _ {Scalar : Type 0} (field : Field Scalar) where
  infixl 60 ◌⊕◌
  open field use {zero, ◌⊕◌}

  -- the sum of a list
  abbrev pub total : {A : Type 0} → (A → Scalar) → List A → Scalar
  total f [] = zero
  total f (x ∷ xs) = f x ⊕ total f xs
