-- What a read of a record takes from the records that are left.
use Rattle.std.specs.Prelude.{◌+◌, IsSome, MatchBool, None, Some, Option, length}
use Rattle.std.specs.Option.{option_map_or}
use Rattle.std.specs.Borrow.{Bor}
use Rattle.std.proofs.Common.{◌≡◌, ◌∙◌, ◌∷◌, [], ℕ, List, Bool, refl}
use Rattle.csv.specs.Machine.{Read, next_record}
use Rattle.csv.specs.Reading.{NextIs, ReadRecord, ReadsNext, default_config, pending_of, records_from, source_of}
use Rattle.csv.specs.declared.parser.State.{State}
use Rattle.csv.specs.declared.reader.Reader.{Reader}
use Rattle.np_records.specs.Records.{IsReading, left_in}
use Rattle.np_records.proofs.Scan.{left_of, left-next, records_from-left}

left-go : (o : Option Read) (s s2 : State) (xs ys : List ℕ) (found : Bool) (fields : List (List ℕ)) → next_record default_config s [] [] xs ≡ o
    → NextIs o found fields s2 ys → MatchBool found (left_of s xs ≡ fields ∷ left_of s2 ys) (left_of s xs ≡ [])
left-go None s s2 xs ys found fields e n = rw n (left-next s xs ∙ rw e refl)
left-go (Some p) s s2 xs ys found fields e n = rw (n.0, n.1, n.2, n.3) (left-next s xs ∙ rw e refl)

left-step : (s s2 : State) (src after : Option (List ℕ)) (found : Bool) (fields : List (List ℕ)) → IsSome src
    → ReadsNext default_config s src after found fields s2
    → MatchBool found (option_map_or (left_of s) src [] ≡ fields ∷ option_map_or (left_of s2) after []) (option_map_or (left_of s) src [] ≡ [])
left-step s s2 None after found fields k r = cc k
left-step s s2 (Some xs) None found fields k r = absurd r
left-step s s2 (Some xs) (Some ys) found fields k r = left-go (next_record default_config s [] [] xs) s s2 xs ys found fields refl r

-- the records that are left, in one pass over the bytes that are left
left_in-scan : (state : State) (source : Option (List ℕ)) → option_map_or (λ bytes. records_from default_config (length bytes + 1) state bytes) source [] ≡ option_map_or (left_of state) source []
left_in-scan state None = refl
left_in-scan state (Some bytes) = records_from-left state bytes

-- a read of a record takes the first record that is left
pub left-read : (a b : Reader (Bor (List ℕ))) (found : Bool) (fields : List (List ℕ)) → IsReading a → ReadRecord (λ s. Some s.now) a b found fields
    → MatchBool found (left_in a ≡ fields ∷ left_in b) (left_in a ≡ [])
left-read a b found fields i r =
    let step = left-step a.state b.state (source_of (λ s. Some s.now) a) (pending_of (Some b.rdr.now) b) found fields i.known (rw i.config at r.0) in
    rw (r.1, left_in-scan a.state _, left_in-scan b.state _) step
