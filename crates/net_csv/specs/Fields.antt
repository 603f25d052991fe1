-- The fields of network texts: what each one stands for, and what is wrong with it.
use Rattle.std.specs.Prelude.{ℕ, ◌||◌, not, Bool, Option, Some, None, List, codes, if◌then◌else◌}
use Rattle.std.specs.Option.{option_or}
use Rattle.std.specs.Str.{bytes_eq}
use Rattle.np_frac.specs.Ratio.{zero_ratio, is_below}
use Rattle.np_frac.specs.Text.{number}
use Rattle.np_frac.specs.Amount.{amount_of, is_amount_text}
use Rattle.np_records.specs.Names.{is_defined}
use Rattle.np_records.specs.Rows.{has_fields, is_period}
use Rattle.np_model.specs.declared.arc.Upper.{Upper}
use Rattle.np_model.specs.declared.arc.Upper.TheVariants.{Finite, Infinite}
use Rattle.np_model.specs.Scheme.Names.{is_name}
use Rattle.np_records.specs.Faults.{unless}
use Rattle.net_csv.specs.declared.refused.Code.{Code}
use Rattle.net_csv.specs.declared.refused.Code.TheVariants as code

-- ---- numbers

abbrev pub amount_fault : List ℕ → Option Code
amount_fault bs = unless (is_amount_text bs) code.BadNumber

-- an upper bound or a width: `inf` or an amount
abbrev pub is_infinite : List ℕ → Bool
is_infinite bs = bytes_eq bs (codes "inf")

abbrev pub upper_of : List ℕ → Upper
upper_of bs = if is_infinite bs then Infinite else Finite (amount_of bs)

abbrev pub upper_fault : List ℕ → Option Code
upper_fault bs = unless (is_infinite bs || is_amount_text bs) code.BadNumber

-- a gain is an amount above 0
abbrev pub gain_fault : List ℕ → Option Code
gain_fault bs = option_or (amount_fault bs) (unless (is_below zero_ratio (amount_of bs)) code.BadGain)

-- a period of a supply: `*`, or one of those of the text
abbrev pub is_all : List ℕ → Bool
is_all bs = bytes_eq bs (codes "*")

abbrev pub period_fault : ℕ → List ℕ → Option Code
period_fault periods bs = unless (is_all bs || is_period periods bs) code.BadPeriod

-- None where it stands for all periods
abbrev pub period_of : List ℕ → Option ℕ
period_of bs = if is_all bs then None else Some (number bs)

-- ---- names

-- a name that is defined, where these are those that were defined before
abbrev pub new_fault : List (List ℕ) → List ℕ → Option Code
new_fault names name = option_or (unless (is_name name) code.BadName) (unless (not (is_defined names name)) code.Repeated)

-- a name that is used
abbrev pub used_fault : List (List ℕ) → List ℕ → Option Code
used_fault names name = unless (is_defined names name) code.NoSuchName

-- ---- the number of fields

abbrev pub fields_fault : ℕ → List (List ℕ) → Option Code
fields_fault count r = unless (has_fields count r) code.FieldCount
