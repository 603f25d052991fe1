-- The calls of a form in memory, some of which fail.
use Rattle.std.specs.Prelude.{ℕ, List, Contains}
use Rattle.np_io.specs.Faults.{next_count}

-- which calls fail, by their numbers from 1, how many calls were made, and how many faults there were
pub record CallState : Type 0 where
  pub fails : List ℕ
  pub made : ℕ
  pub faults : ℕ

-- the number of the next call is listed
abbrev pub NextFails : CallState → Type 0
NextFails calls = Contains calls.fails (next_count calls.made)

-- one more call was made
abbrev pub with_call : CallState → CallState
with_call calls = record calls { made = next_count calls.made }

-- one more call was made, and it failed
abbrev pub with_fault : CallState → CallState
with_fault calls = record calls { made = next_count calls.made; faults = next_count calls.faults }
