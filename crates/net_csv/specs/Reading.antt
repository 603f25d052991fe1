-- What reading a network text answers.
use Rattle.std.specs.Prelude.{◌≡◌, ℕ, ⊤, Result, Ok, Err, List}
use Rattle.np_model.specs.declared.scheme.Scheme.{Scheme}
use Rattle.net_csv.specs.declared.refused.Code.{Code}
use Rattle.net_csv.specs.declared.refused.Refused.{Refused}
use Rattle.net_csv.specs.declared.refused.Refused.TheVariants as refused
use Rattle.net_csv.specs.declared.refused.Tail.{Tail}
use Rattle.net_csv.specs.Grammar.{IsSchemeOf, read_records}

-- what the grammar tells is this fault, or memory ran out
abbrev pub IsRefusal : Refused → Result ℕ (ℕ × Code) → Type 0
IsRefusal (refused.Fault place c) told = told ≡ Err (place, c)
IsRefusal refused.Memory told = ⊤

-- the answer is what the grammar tells, unless memory ran out: the scheme of the text and its number of records, or its first fault
abbrev pub ReadsScheme : Tail → List (List (List ℕ)) → Result (Scheme × ℕ) Refused → Type 0
ReadsScheme tail rows (Ok (scheme, count)) = (read_records tail rows ≡ Ok count) × IsSchemeOf rows scheme
ReadsScheme tail rows (Err why) = IsRefusal why (read_records tail rows)
