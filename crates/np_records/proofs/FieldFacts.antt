-- The fields of a record.
use Rattle.std.specs.Prelude.{ℕ, zero, suc, true, List, [], ◌∷◌, slice_get}
use Rattle.std.proofs.Common.{◌≡◌, refl}
use Rattle.std.proofs.lemmas.Slice.Eq.{bytes_eq-Decides}
use Rattle.csv.specs.Records.{field_at}
use Rattle.np_records.specs.Records.{field_of}
use Rattle.np_records.specs.Rows.{is_kind}

pub field_at-slice_get : (fields : List (List ℕ)) (place : ℕ) → field_at fields place ≡ slice_get fields place
unfolding field_at
field_at-slice_get [] place = refl
field_at-slice_get (f ∷ fs) zero = refl
field_at-slice_get (f ∷ fs) (suc place) = field_at-slice_get fs place

-- the first field of a record of a kind is the word of that kind
pub kind-is : (r : List (List ℕ)) (word : List ℕ) → is_kind r word ≡ true → field_of r 0 ≡ word
kind-is r word t = (bytes_eq-Decides (field_of r 0) word).0 t
