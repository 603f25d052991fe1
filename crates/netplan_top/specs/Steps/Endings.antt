-- How a run of a command ends.
use Rattle.std.specs.Prelude.{◌≡◌, ℕ, ◌<◌, ◌⊎◌, Option, List, length}
use Rattle.np_io.specs.Faults.{Rose}
use Rattle.netplan_top.specs.declared.words.Command.{Command}
use Rattle.netplan_top.specs.Commands.Answers.{AnswerOf}
use Rattle.netplan_top.specs.Commands.Demo.{IsDemoAnswer}
use Rattle.netplan_top.specs.Run.{Streams, IsWholeInput, IsTooLong, IsSomeText, IsCut, Wrote, WrotePart}

-- all of the text was written and the status is its own, or the sink failed and the status is 8
abbrev pub IsPrinted : List ℕ → ℕ → ℕ → ℕ → ℕ → ℕ → Option (List ℕ) → Option (List ℕ) → Type 0
IsPrinted text own status faults faults' sure written written' =
    ((status ≡ own) × Wrote written written' text) ⊎ ((status ≡ 8) × Rose faults faults' × WrotePart written written' text × (sure < length text))

-- a text that the demo of a number allows was printed, or memory ran out and nothing was written
abbrev pub IsDemoEnd : ℕ → ℕ → ℕ → ℕ → ℕ → Option (List ℕ) → Option (List ℕ) → Type 0
IsDemoEnd n status faults faults' sure written written' =
    ((text : List ℕ) × (own : ℕ) × IsDemoAnswer n own text × IsPrinted text own status faults faults' sure written written') ⊎ ((status ≡ 9) × (written' ≡ written))

-- the ways in which a command ends
pub data Ending (command : Command) (io : Streams) (status : ℕ) : Type 0 where
  answered : (input text : List ℕ) → IsWholeInput io.left io.left' input → AnswerOf command input status text → Wrote io.written io.written' text → Ending command io status
  too_long : (text : List ℕ) → status ≡ 5 → IsTooLong io.left io.left' text → Wrote io.written io.written' text → Ending command io status
  cut : status ≡ 8 → IsCut (IsSomeText command io) io → Ending command io status
  unread : status ≡ 7 → Rose io.source_faults io.source_faults' → io.written' ≡ io.written → Ending command io status
  no_memory : status ≡ 9 → io.written' ≡ io.written → Ending command io status
