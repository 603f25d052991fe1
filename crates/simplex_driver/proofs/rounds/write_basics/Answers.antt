use Rattle.std.proofs.Common.{ℕ, arith}
use Rattle.np_frac.specs.Ratio.{Ratio}
use Rattle.np_model.specs.declared.arc.Ends.{Ends}
use Rattle.np_model.specs.declared.log.Mark.TheVariants.{Basic}
use Rattle.simplex_driver.proofs.Tables.{written_more}
use Rattle.simplex_driver.proofs.rounds.write_basics.Goals as goal

pub loop-arc-preserved : goal.loop-arc-preserved
loop-arc-preserved c =
    written_more (λ (b : ℕ × Ends × Ratio). (b.0, Basic)) c.deref-arc-items.result.now c.loop-arc.arc-index c.loop-arc-item.result c.args.marks.now c.loop-arc.marks
    (omega arith) c.loop-arc-item.is c.loop-arc.invariant
