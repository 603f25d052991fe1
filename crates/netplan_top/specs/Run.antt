-- How a run ends: the status, what was read, and what was written.
use Rattle.std.specs.Prelude.{◌≡◌, ℕ, ◌+◌, ◌<◌, ◌≤◌, ◌⊎◌, Option, Some, List, length, codes, take}
use Rattle.std.specs.Io.KnownBytes.{prepend_known, append_known, IsAtEnd}
use Rattle.std.specs.declared.string.String.{String}
use Rattle.std.specs.declared.alloc.Global.{Global}
use Rattle.np_io.specs.Faults.{Rose}
use Rattle.np_io.specs.Input.{TookExactly}
use Rattle.np_model.specs.declared.plan.Plan.{Plan}
use Rattle.np_model.specs.declared.scheme.Scheme.{Scheme}
use Rattle.net_csv.specs.declared.refused.Tail.TheVariants as tail
use Rattle.netplan_top.specs.declared.words.Job.{Job}
use Rattle.netplan_top.specs.declared.words.Command.{Command}
use Rattle.netplan_top.specs.declared.words.Command.TheVariants.{Check, Expand, Solve}
use Rattle.netplan_top.specs.Words.{AskFor, AskForDemo, IsCommand, usage_text}
use Rattle.netplan_top.specs.Texts.Frame.{refused_text}
use Rattle.netplan_top.specs.Commands.Faults.{IsFaulty}
use Rattle.netplan_top.specs.Commands.Check.{Says, Accepts, Rejects, Overflows, IsPlanFaulty}
use Rattle.netplan_top.specs.Commands.Expand.{Expands, IsNetwork}
use Rattle.netplan_top.specs.Commands.Solve.{Solves, IsOptimal, IsInfeasible, IsUnbounded, IsOutOfBudget, IsOverflow}
use Rattle.netplan_top.specs.Commands.Demo.{SumsUp, TellsPlan, IsDemoAnswer}
use Rattle.netplan_top.specs.Commands.Answers.{longest, AnswerOf}

-- what the source and the sink had before a run (with no prime) and after it: the bytes that are left to read and those that were
-- written, where they tell them, the counts of faults, and how many bytes the sink was sure to take
pub record Streams : Type 0 where
  pub left : Option (List ℕ)
  pub left' : Option (List ℕ)
  pub source_faults : ℕ
  pub source_faults' : ℕ
  pub written : Option (List ℕ)
  pub written' : Option (List ℕ)
  pub sink_faults : ℕ
  pub sink_faults' : ℕ
  pub sure : ℕ

-- ---- what was read, and what was written

-- these bytes are the whole input, read to its end
pub record IsWholeInput (before after : Option (List ℕ)) (input : List ℕ) : Type 0 where
  pub taken : before ≡ prepend_known input after
  pub ended : IsAtEnd after
  pub short : length input ≤ longest

-- more bytes came than an input may have, and reading stopped there
pub record IsTooLong (before after : Option (List ℕ)) (text : List ℕ) : Type 0 where
  pub taken : TookExactly (longest + 1) before after
  pub text_is : text ≡ refused_text 0 (codes "TooLong")

-- all of the text was written
abbrev pub Wrote : Option (List ℕ) → Option (List ℕ) → List ℕ → Type 0
Wrote before after text = after ≡ append_known before text

-- a first part of the text was written
abbrev pub WrotePart : Option (List ℕ) → Option (List ℕ) → List ℕ → Type 0
WrotePart before after text = (count : ℕ) × (count ≤ length text) × (after ≡ append_known before (take count text))

-- the whole input was read, this is said of it, and all of the text that says it was written
pub record Gives (claim : List ℕ → List ℕ → Type 0) (io : Streams) : Type 0 where
  pub input : List ℕ
  pub text : List ℕ
  pub whole : IsWholeInput io.left io.left' input
  pub says : claim input text
  pub wrote : Wrote io.written io.written' text

-- reading stopped past the limit, and all of the text that says so was written
pub record GivesTooLong (io : Streams) : Type 0 where
  pub text : List ℕ
  pub too_long : IsTooLong io.left io.left' text
  pub wrote : Wrote io.written io.written' text

-- a run of `solve` over the whole input ended so, and all of the text that says it was written
abbrev pub GivesPlan : (Job → Scheme → Plan → Type 0) → List (String Global) → Streams → Type 0
GivesPlan claim words io = (job : Job) × AskFor words (Solve job) × Gives (Solves claim job) io

-- all of a text of which this is so was written
pub record Writes (claim : List ℕ → Type 0) (io : Streams) : Type 0 where
  pub text : List ℕ
  pub says : claim text
  pub wrote : Wrote io.written io.written' text

-- the words ask for the demo of a number, and all of the text that says this of it was written
abbrev pub GivesDemo : (ℕ → List ℕ → Type 0) → List (String Global) → Streams → Type 0
GivesDemo claim words io = (n : ℕ) × AskForDemo words n × Writes (claim n) io

-- the source told its bytes, which are the network text of a scheme and not too long, and no stream failed
pub record MeetsNoFault (io : Streams) : Type 0 where
  pub input : List ℕ
  pub scheme : Scheme
  pub told : io.left ≡ Some input
  pub short : length input ≤ longest
  pub network : IsNetwork input scheme
  pub source_held : ¬ (Rose io.source_faults io.source_faults')
  pub sink_held : ¬ (Rose io.sink_faults io.sink_faults')

-- a text that some status of the command allows
abbrev pub IsSomeText : Command → Streams → List ℕ → Type 0
IsSomeText command io text =
    ((input : List ℕ) × (status : ℕ) × IsWholeInput io.left io.left' input × AnswerOf command input status text) ⊎ IsTooLong io.left io.left' text

-- the sink failed: its count rose, and a first part of a text was written of which it was not sure
pub record IsCut (allowed : List ℕ → Type 0) (io : Streams) : Type 0 where
  pub text : List ℕ
  pub is_allowed : allowed text
  pub rose : Rose io.sink_faults io.sink_faults'
  pub part : WrotePart io.written io.written' text
  pub unsure : io.sure < length text

-- a text that the words allow, and for a command what was read: the usage text, or one that some status of the command or of the demo allows
abbrev pub IsAllowed : List (String Global) → Streams → List ℕ → Type 0
IsAllowed words io text =
    ((¬ (IsCommand words)) × (text ≡ usage_text)) ⊎ ((command : Command) × AskFor words command × IsSomeText command io text)
    ⊎ ((n : ℕ) × AskForDemo words n × ((status : ℕ) × IsDemoAnswer n status text))

-- ---- the statuses

-- a run of these words over these streams ended with this status
pub record IsRun (words : List (String Global)) (io : Streams) (status : ℕ) : Type 0 where
  -- the words are no command
  pub no_command : ¬ (IsCommand words) → (status ≡ 6) ⊎ (status ≡ 8)
  pub usage : status ≡ 6 → (¬ (IsCommand words)) × Wrote io.written io.written' usage_text
  -- `solve` read the whole input, a run over its expanded network has ended so, and the text is that of its plan
  pub optimal : (job : Job) → AskFor words (Solve job) → status ≡ 0 → Gives (Solves IsOptimal job) io
  pub infeasible : status ≡ 1 → GivesPlan IsInfeasible words io
  pub unbounded : status ≡ 2 → GivesPlan IsUnbounded words io
  pub out_of_budget : status ≡ 3 → GivesPlan IsOutOfBudget words io ⊎ GivesDemo (TellsPlan IsOutOfBudget) words io
  -- or the text names its first fault
  pub not_solved : (job : Job) → AskFor words (Solve job) → status ≡ 5 → Gives (IsFaulty tail.Nothing) io ⊎ GivesTooLong io
  -- of a network that it can read `solve` says one of the five, unless memory runs out
  pub completes : (job : Job) → AskFor words (Solve job) → MeetsNoFault io → (status ≤ 4) ⊎ (status ≡ 9)
  -- `check` read the whole input, and the text says this of it
  pub accepted : AskFor words Check → status ≡ 0 → Gives (Says Accepts) io
  pub rejected : status ≡ 10 → AskFor words Check × Gives (Says Rejects) io
  pub refused : AskFor words Check → status ≡ 5 → Gives (IsFaulty tail.Plan) io ⊎ Gives IsPlanFaulty io ⊎ GivesTooLong io
  -- an operation overflows, of the walk of `check`, or of the run or the plan of `solve` or `demo`
  pub overflowed : status ≡ 4 → (AskFor words Check × Gives (Says Overflows) io) ⊎ GivesPlan IsOverflow words io ⊎ GivesDemo (TellsPlan IsOverflow) words io
  -- `expand` read the whole input, and the text is that of its expanded network, or names its first fault
  pub expanded : AskFor words Expand → status ≡ 0 → Gives Expands io
  pub not_expanded : AskFor words Expand → status ≡ 5 → Gives (IsFaulty tail.Nothing) io ⊎ GivesTooLong io
  -- `demo` wrote the summary of its network with the least cost
  pub summed_up : (n : ℕ) → AskForDemo words n → status ≡ 0 → Writes (SumsUp n) io
  -- it ends with one of these, and never says that there is no plan, or that none is least
  pub demo_ends : (n : ℕ) → AskForDemo words n → (status ≡ 0) ⊎ (status ≡ 3) ⊎ (status ≡ 4) ⊎ (status ≡ 8) ⊎ (status ≡ 9)
  -- the source or the sink failed, or memory ran out
  pub unread_rest : status ≡ 7 → Rose io.source_faults io.source_faults' × (io.written' ≡ io.written)
  pub cut : status ≡ 8 → IsCut (IsAllowed words io) io
  pub no_memory : status ≡ 9 → IsCommand words × (io.written' ≡ io.written)
  pub known : status ≤ 10
