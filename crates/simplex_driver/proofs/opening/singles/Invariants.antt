use Rattle.std.proofs.Common.{length}
use Rattle.np_model.specs.Basis.Phases.{network_of}
use Rattle.simplex_driver.specs.Opening.{AreSingles}
use Rattle.simplex_driver.proofs.opening.singles.Given as goal

abbrev pub invariant-loop-marks : goal.invariant-loop-marks
invariant-loop-marks l = AreSingles (network_of l.start.full.net) (length l.yielded) l.slots.items
