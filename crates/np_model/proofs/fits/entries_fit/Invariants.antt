use Rattle.std.proofs.Common.{take}
use Rattle.std.specs.List.{All}
use Rattle.np_model.specs.Steps.Tests.{EntryFits}
use Rattle.np_model.proofs.fits.entries_fit.Given as goal

abbrev pub invariant-loop-i : goal.invariant-loop-i
invariant-loop-i l = All EntryFits (take l.i l.entries)
