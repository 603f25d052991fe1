use Rattle.period_expand.proofs.Grows.{periods_more}
use Rattle.std.proofs.Common.{rules}
use Rattle.certificates.specs.Steps.Amounts.{period_amounts}
use Rattle.certificates.proofs.PeriodAmounts.{staged-by-period}
use Rattle.certificates.proofs.amounts.staged_amounts.Goals as goal

pub loop-before-preserved : goal.loop-before-preserved
loop-before-preserved c =
    periods_more (period_amounts c.args.given.now c.args.scheme.now) c.loop-before.before c.loop-before.items.items c.push_period.new.items.items c.loop-before.invariant c.in_ok-push_period.ensures

pub returns : goal.returns
returns c = staged-by-period c.args.scheme.now c.args.given.now c.loop-before.before c.loop-before.items.items (search rules) c.loop-before.invariant
