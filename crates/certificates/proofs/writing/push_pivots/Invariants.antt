use Rattle.std.proofs.Common.{map, take}
use Rattle.std.specs.List.{enumerate_from}
use Rattle.np_records.specs.Texts.{records_text}
use Rattle.certificates.specs.Steps.Writing.{GrowsBy}
use Rattle.certificates.specs.Writing.{pivot_row}
use Rattle.certificates.proofs.writing.push_pivots.Given as goal

abbrev pub invariant-loop-before : goal.invariant-loop-before
invariant-loop-before l = GrowsBy l.initial.text l.text (records_text (map pivot_row (take l.before (enumerate_from 1 l.entries))))
