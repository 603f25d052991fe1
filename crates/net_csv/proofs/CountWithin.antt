-- The records that were read are there.
use Rattle.std.specs.Prelude.{◌≡◌, ℕ, ◌+◌, ◌≤◌, nat_lt, true, false, None, Ok, List, [], ◌∷◌, length, take, drop}
use Rattle.std.specs.List.{list_any, before_first}
use Rattle.std.proofs.Common.{arith}
use Rattle.std.proofs.lemmas.Bool.Decides.{nat_tests}
use Rattle.std.proofs.Math.Seq.{take-length}
use Rattle.np_records.proofs.FaultFacts.{unless-none}
use Rattle.net_csv.specs.declared.refused.Code.TheVariants as code
use Rattle.net_csv.specs.declared.refused.Tail.{Tail}
use Rattle.net_csv.specs.Grammar.{read_records, fault_at, is_end}
use Rattle.net_csv.proofs.BeforeFirst.{before_first-shorter}
use Rattle.net_csv.proofs.FirstPlaces.{right-at}

-- behind the last record there is no fault where an `end` was read
ended : (tail : Tail) (rows : List (List (List ℕ))) → fault_at tail rows (length rows) ≡ None → list_any is_end (drop 2 rows) ≡ true
ended tail rows h =
    let out : nat_lt (length rows) (length rows) ≡ false = grind (arith, nat_tests) in
    let all : take (length rows) rows ≡ rows = take-length rows in
    unless-none _ code.NoEnd (rw (out, all) at h)

two-and : (rows : List (List (List ℕ))) → list_any is_end (drop 2 rows) ≡ true → length (before_first is_end (drop 2 rows)) + 3 ≤ length rows
two-and [] h = absurd (cc h)
two-and (a ∷ []) h = absurd (cc h)
two-and (a ∷ b ∷ rest) h = let less = before_first-shorter is_end rest h in omega arith

-- the number of records that were read is at most that of all
pub count-within : (tail : Tail) (rows : List (List (List ℕ))) (count : ℕ) → read_records tail rows ≡ Ok count → count ≤ length rows
count-within tail rows count told =
    let last = right-at tail rows count (length rows) told (omega arith) in
    rw last.1 (two-and rows (ended tail rows last.0))
