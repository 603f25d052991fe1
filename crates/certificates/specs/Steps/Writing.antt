-- What the steps of writing a plan text add to it.
use Rattle.std.specs.Prelude.{◌≡◌, ◌++◌, [], ℕ, List}
use Rattle.np_records.specs.Texts.{Written}

-- the text is longer by these bytes, and no record of it is open
pub record GrowsBy (old new : Written) (added : List ℕ) : Type 0 where
  pub bytes : new.bytes ≡ old.bytes ++ added
  pub closed : new.fields ≡ []
