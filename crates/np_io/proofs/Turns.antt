-- What holds between two turns of a loop over a source or a sink.
use Rattle.std.proofs.Common.{◌≡◌, ℕ, ◌+◌, ◌≤◌, List, Option, length, take}
use Rattle.std.specs.Io.KnownBytes.{prepend_known, append_known}

-- the sink has the first `given` bytes of the text
pub record HasGiven (text : List ℕ) (given : ℕ) (written_first written : Option (List ℕ))
    (faults_first faults sure_first sure : ℕ) : Type 0 where
  pub within : given ≤ length text
  pub appended : written ≡ append_known written_first (take given text)
  pub never_falls : faults_first ≤ faults
  pub sure_of_the_rest : sure_first ≤ sure + given

-- the bytes read are the first of those that the source had left
pub record HasRead (all : List ℕ) (most : ℕ) (left_first left : Option (List ℕ)) (faults_first faults : ℕ) : Type 0 where
  pub within : length all ≤ most
  pub moved : left_first ≡ prepend_known all left
  pub never_falls : faults_first ≤ faults
