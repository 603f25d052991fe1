-- What a command says of an input.
use Rattle.std.specs.Prelude.{ℕ, ⊤, List}
use Rattle.netplan_top.specs.declared.words.Command.{Command}
use Rattle.netplan_top.specs.declared.words.Command.TheVariants.{Check, Expand, Solve}
use Rattle.netplan_top.specs.Commands.Check.{IsCheckAnswer}
use Rattle.netplan_top.specs.Commands.Expand.{IsExpandAnswer}
use Rattle.netplan_top.specs.Commands.Solve.{IsSolveAnswer}

-- the most bytes of an input
abbrev pub longest : ℕ
longest = 16777216

-- the text is what the command says of the input with this status
abbrev pub AnswerOf : Command → List ℕ → ℕ → List ℕ → Type 0
AnswerOf (Solve job) = IsSolveAnswer job
AnswerOf Check = IsCheckAnswer
AnswerOf Expand = IsExpandAnswer

-- the command says something of the input
abbrev pub HasAnswer : Command → List ℕ → Type 0
HasAnswer command input = (status : ℕ) × (text : List ℕ) × AnswerOf command input status text

-- the command makes no run of pivots, and says one thing of an input
abbrev pub MakesNoRun : Command → Type 0
MakesNoRun (Solve job) = ⊥
MakesNoRun Check = ⊤
MakesNoRun Expand = ⊤
