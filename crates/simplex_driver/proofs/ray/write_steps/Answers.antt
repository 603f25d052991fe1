use Rattle.std.proofs.Common.{◌∙◌, ℕ, sym}
use Rattle.np_frac.specs.Ratio.{Ratio}
use Rattle.simplex_driver.proofs.Amounts.{set_beyond}
use Rattle.simplex_driver.proofs.Tables.{written_more}
use Rattle.simplex_driver.proofs.ray.write_steps.Goals as goal

pub loop-arc-preserved-then-place-amounts : goal.loop-arc-preserved-then-place-amounts
loop-arc-preserved-then-place-amounts c =
    sym (set_beyond c.loop-arc.amounts c.loop-arc-item.result.0 c.loop-arc-item.result.1 c.if-place-amounts.true)
    ∙ written_more (λ (s : ℕ × Ratio). (s.0, s.1)) c.args.steps.now c.loop-arc.arc-index c.loop-arc-item.result c.args.amounts.now c.loop-arc.amounts c.loop-arc-test.true c.loop-arc-item.is c.loop-arc.invariant

pub loop-arc-preserved : goal.loop-arc-preserved
loop-arc-preserved c =
    written_more (λ (s : ℕ × Ratio). (s.0, s.1)) c.args.steps.now c.loop-arc.arc-index c.loop-arc-item.result c.args.amounts.now c.loop-arc.amounts c.loop-arc-test.true c.loop-arc-item.is c.loop-arc.invariant
