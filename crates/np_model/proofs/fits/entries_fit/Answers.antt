use Rattle.std.proofs.Common.{arith, refl}
use Rattle.std.proofs.lemmas.List.Elements.{All-more}
use Rattle.np_model.specs.Steps.Tests.{EntryFits}
use Rattle.np_model.proofs.Logs.{all-end}
use Rattle.np_model.proofs.fits.entries_fit.Goals as goal

pub loop-i-preserved : goal.loop-i-preserved
loop-i-preserved c = All-more EntryFits c.args.entries.now c.loop-i.i _ (omega arith) c.loop-i.invariant (c.entry_fits.ensures.0 c.if-not-entry_fits.false)

pub returns : goal.returns
returns c = (λ h. all-end EntryFits c.args.entries.now c.loop-i.i (omega arith) c.loop-i.invariant, λ h. refl)
