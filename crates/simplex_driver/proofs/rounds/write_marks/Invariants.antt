use Rattle.std.proofs.Common.{◌≡◌, map, take}
use Rattle.simplex_driver.specs.Store.{written}
use Rattle.simplex_driver.proofs.rounds.write_marks.Given as goal

abbrev pub invariant-loop-arc : goal.invariant-loop-arc
invariant-loop-arc l = l.marks ≡ written (map (λ m. (m.0, m.1)) (take l.arc-index l.arc-items)) l.initial.marks
