-- What is known of tests that found no fault.
use Rattle.std.specs.Prelude.{◌≡◌, Bool, true, false, Option, Some, None}
use Rattle.std.specs.Option.{option_or}
use Rattle.std.proofs.Common.{refl}
use Rattle.np_records.specs.Faults.{unless}

pub or-first : {C : Type 0} (a b : Option C) → option_or a b ≡ None → a ≡ None
or-first None b h = refl
or-first (Some c) b h = absurd (cc h)

pub or-rest : {C : Type 0} (a b : Option C) → option_or a b ≡ None → b ≡ None
or-rest None b h = h
or-rest (Some c) b h = absurd (cc h)

pub unless-none : {C : Type 0} (b : Bool) (c : C) → unless b c ≡ None → b ≡ true
unless-none true c h = refl
unless-none false c h = absurd (cc h)
