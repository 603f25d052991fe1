-- The options of `solve` that are left where some were taken.
use Rattle.std.specs.Prelude.{◌≡◌, ℕ, Bool, true, false, Option, Some, None, List, [], ◌∷◌}
use Rattle.std.specs.List.{flat_map}
use Rattle.netplan_top.specs.declared.words.Job.{Job}
use Rattle.netplan_top.specs.declared.words.Given.{Given}
use Rattle.netplan_top.specs.Words.{Choice, choice_words, workers_in, budgets_in, logs_in, IsGiven, IsAsked}

-- what was taken stays, and is given no second time
abbrev pub IsStillGiven : Option ℕ → ℕ → ℕ → List (List ℕ) → ℕ → Type 0
IsStillGiven None most otherwise texts n = IsGiven most otherwise texts n
IsStillGiven (Some m) most otherwise [] n = n ≡ m
IsStillGiven (Some m) most otherwise (digits ∷ rest) n = ⊥

abbrev pub IsStillAsked : Bool → List Choice → Bool → Type 0
IsStillAsked false logs asked = IsAsked logs asked
IsStillAsked true [] asked = asked ≡ true
IsStillAsked true (one ∷ rest) asked = ⊥

-- with what was taken and the options that these words are
pub record AreTheRestOf (words : List (List ℕ)) (given : Given) (job : Job) : Type 0 where
  pub choices : List Choice
  pub words_are : words ≡ flat_map choice_words choices
  pub workers : IsStillGiven given.workers 16 4 (workers_in choices) job.workers
  pub budget : IsStillGiven given.budget 1000000 200000 (budgets_in choices) job.budget
  pub log : IsStillAsked given.log (logs_in choices) job.log
