-- The words behind the program's name.
use Rattle.std.specs.Prelude.{◌≡◌, ℕ, ◌≤◌, ◌⊎◌, Bool, true, false, List, [], ◌∷◌, map, codes}
use Rattle.std.specs.List.{flat_map}
use Rattle.std.specs.String.{string_bytes}
use Rattle.std.specs.declared.string.String.{String}
use Rattle.std.specs.declared.alloc.Global.{Global}
use Rattle.np_frac.specs.Text.{IsNumber, number}
use Rattle.netplan_top.specs.declared.words.Job.{Job}
use Rattle.netplan_top.specs.declared.words.Command.{Command}
use Rattle.netplan_top.specs.declared.words.Command.TheVariants.{Check, Expand, Solve}
use Rattle.netplan_top.specs.declared.texts.TheConstants.{USAGE}

-- ---- the options of `solve`

-- an option, with the digits behind its word
pub data Choice : Type 0 where
  workers : List ℕ → Choice
  budget : List ℕ → Choice
  log : Choice

-- the words of an option
abbrev pub choice_words : Choice → List (List ℕ)
choice_words (Choice.workers digits) = codes "--workers" ∷ digits ∷ []
choice_words (Choice.budget digits) = codes "--budget" ∷ digits ∷ []
choice_words Choice.log = codes "--log" ∷ []

-- the digits of each option for workers, of each for the budget, and how often the log is asked for
abbrev pub workers_in : List Choice → List (List ℕ)
workers_in [] = []
workers_in (Choice.workers digits ∷ rest) = digits ∷ workers_in rest
workers_in (Choice.budget digits ∷ rest) = workers_in rest
workers_in (Choice.log ∷ rest) = workers_in rest

abbrev pub budgets_in : List Choice → List (List ℕ)
budgets_in [] = []
budgets_in (Choice.workers digits ∷ rest) = budgets_in rest
budgets_in (Choice.budget digits ∷ rest) = digits ∷ budgets_in rest
budgets_in (Choice.log ∷ rest) = budgets_in rest

abbrev pub logs_in : List Choice → List Choice
logs_in [] = []
logs_in (Choice.workers digits ∷ rest) = logs_in rest
logs_in (Choice.budget digits ∷ rest) = logs_in rest
logs_in (Choice.log ∷ rest) = Choice.log ∷ logs_in rest

-- 1 to 7 digits, which write a number from 1 to this one
pub record IsCountTo (most : ℕ) (digits : List ℕ) : Type 0 where
  pub digits_are : IsNumber 7 digits
  pub from_one : 1 ≤ number digits
  pub to_most : number digits ≤ most

-- given once the number is what the digits write, given nowhere it is this one, and it is given no second time
abbrev pub IsGiven : ℕ → ℕ → List (List ℕ) → ℕ → Type 0
IsGiven most otherwise [] n = n ≡ otherwise
IsGiven most otherwise (digits ∷ []) n = IsCountTo most digits × (n ≡ number digits)
IsGiven most otherwise (digits ∷ more ∷ rest) n = ⊥

-- asked for once or nowhere
abbrev pub IsAsked : List Choice → Bool → Type 0
IsAsked [] asked = asked ≡ false
IsAsked (one ∷ []) asked = asked ≡ true
IsAsked (one ∷ more ∷ rest) asked = ⊥

-- these options, each at most once and in any order, make this job: 4 workers and a budget of 200,000 pivots where nothing else is said
pub record AreChoicesOf (choices : List Choice) (job : Job) : Type 0 where
  pub workers : IsGiven 16 4 (workers_in choices) job.workers
  pub budget : IsGiven 1000000 200000 (budgets_in choices) job.budget
  pub log : IsAsked (logs_in choices) job.log

-- the words are `solve` and the options of the job
pub record AskToSolve (words : List (List ℕ)) (job : Job) : Type 0 where
  pub choices : List Choice
  pub words_are : words ≡ codes "solve" ∷ flat_map choice_words choices
  pub job_is : AreChoicesOf choices job

-- ---- commands

-- the words ask for this command, which reads an input: its word stands there, and no other but for the options of `solve`
abbrev pub AskFor : List (String Global) → Command → Type 0
AskFor words (Solve job) = AskToSolve (map string_bytes words) job
AskFor words Check = map string_bytes words ≡ codes "check" ∷ []
AskFor words Expand = map string_bytes words ≡ codes "expand" ∷ []

-- the words ask for a command that reads an input
abbrev pub ReadsInput : List (String Global) → Type 0
ReadsInput words = (command : Command) × AskFor words command

-- the words ask for the demo of this number: `demo` and 1 to 7 digits, which write a number from 1 to 1,000
pub record AskForDemo (words : List (String Global)) (n : ℕ) : Type 0 where
  pub digits : List ℕ
  pub words_are : map string_bytes words ≡ codes "demo" ∷ digits ∷ []
  pub is_count : IsCountTo 1000 digits
  pub number_is : n ≡ number digits

-- the words ask for a command
abbrev pub IsCommand : List (String Global) → Type 0
IsCommand words = ReadsInput words ⊎ ((n : ℕ) × AskForDemo words n)

-- the usage text: the commands that there are
abbrev pub usage_text : List ℕ
usage_text = USAGE.now
