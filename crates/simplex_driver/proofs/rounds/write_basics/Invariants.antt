use Rattle.std.proofs.Common.{◌≡◌, map, take}
use Rattle.np_model.specs.declared.log.Mark.TheVariants.{Basic}
use Rattle.simplex_driver.specs.Store.{written}
use Rattle.simplex_driver.proofs.rounds.write_basics.Given as goal

abbrev pub invariant-loop-arc : goal.invariant-loop-arc
invariant-loop-arc l = l.marks ≡ written (map (λ b. (b.0, Basic)) (take l.arc-index l.arc-items)) l.initial.marks
