-- The field of three elements: the remainders by 3.
use Rattle.std.proofs.Common.{◌≡◌, sym, refl}
use Rattle.gain_graphs.specs.Field.{Field}
use Rattle.gain_graphs.specs.Laws as Laws
use Rattle.gain_graphs.specs.Laws.{Three, Zero, One, Two}

abbrev next : Three → Three
next Zero = One
next One = Two
next Two = Zero

abbrev plus : Three → Three → Three
plus Zero b = b
plus One b = next b
plus Two b = next (next b)

abbrev opposite : Three → Three
opposite Zero = Zero
opposite One = Two
opposite Two = One

abbrev times : Three → Three → Three
times Zero b = Zero
times One b = b
times Two b = opposite b

thrice : (a : Three) → next (next (next a)) ≡ a
thrice Zero = refl
thrice One = refl
thrice Two = refl

twice : (a : Three) → opposite (opposite a) ≡ a
twice Zero = refl
twice One = refl
twice Two = refl

same : (a b : Three) → Dec (a ≡ b)
same Zero Zero = yes refl
same Zero One = no (λ e. cc)
same Zero Two = no (λ e. cc)
same One Zero = no (λ e. cc)
same One One = yes refl
same One Two = no (λ e. cc)
same Two Zero = no (λ e. cc)
same Two One = no (λ e. cc)
same Two Two = yes refl

plus_assoc : (a b c : Three) → plus (plus a b) c ≡ plus a (plus b c)
plus_assoc Zero b c = refl
plus_assoc One Zero c = refl
plus_assoc One One c = refl
plus_assoc One Two c = sym (thrice c)
plus_assoc Two Zero c = refl
plus_assoc Two One c = sym (thrice c)
plus_assoc Two Two c = sym (thrice (next c))

plus_comm : (a b : Three) → plus a b ≡ plus b a
plus_comm Zero Zero = refl
plus_comm Zero One = refl
plus_comm Zero Two = refl
plus_comm One Zero = refl
plus_comm One One = refl
plus_comm One Two = refl
plus_comm Two Zero = refl
plus_comm Two One = refl
plus_comm Two Two = refl

times_assoc : (a b c : Three) → times (times a b) c ≡ times a (times b c)
times_assoc Zero b c = refl
times_assoc One b c = refl
times_assoc Two Zero c = refl
times_assoc Two One c = refl
times_assoc Two Two c = sym (twice c)

times_comm : (a b : Three) → times a b ≡ times b a
times_comm Zero Zero = refl
times_comm Zero One = refl
times_comm Zero Two = refl
times_comm One Zero = refl
times_comm One One = refl
times_comm One Two = refl
times_comm Two Zero = refl
times_comm Two One = refl
times_comm Two Two = refl

opposite_of_sum : (b c : Three) → opposite (plus b c) ≡ plus (opposite b) (opposite c)
opposite_of_sum Zero c = refl
opposite_of_sum One Zero = refl
opposite_of_sum One One = refl
opposite_of_sum One Two = refl
opposite_of_sum Two Zero = refl
opposite_of_sum Two One = refl
opposite_of_sum Two Two = refl

times_plus : (a b c : Three) → times a (plus b c) ≡ plus (times a b) (times a c)
times_plus Zero b c = refl
times_plus One b c = refl
times_plus Two b c = opposite_of_sum b c

remainders : Field Three
remainders = record {
  zero = Zero;
  one = One;
  ◌⊕◌ = plus;
  ◌⊗◌ = times;
  negated = opposite;
  inverse = λ a. a;
  plus_assoc = plus_assoc;
  plus_comm = plus_comm;
  plus_zero = elim [ Zero ↦ refl | One ↦ refl | Two ↦ refl ];
  plus_negated = elim [ Zero ↦ refl | One ↦ refl | Two ↦ refl ];
  times_assoc = times_assoc;
  times_comm = times_comm;
  times_one = elim [ Zero ↦ refl | One ↦ refl | Two ↦ refl ];
  times_plus = times_plus;
  times_inverse = elim [ Zero ↦ λ h. absurd (h refl) | One ↦ λ h. refl | Two ↦ λ h. refl ];
  one_is_not_zero = λ e. cc;
  decide = same;
}

pub field_example : Laws.FieldExample
unfolding remainders
field_example = (remainders, Two, λ e. cc, λ e. cc)
