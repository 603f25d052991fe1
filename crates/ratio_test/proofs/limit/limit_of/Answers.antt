use Rattle.std.proofs.Common.{◌∙◌, sym}
use Rattle.np_frac.specs.Ratio.{zero_ratio, negated, ◌<ᵣ◌}
use Rattle.np_frac.proofs.RatioLaws.{is_below_true}
use Rattle.np_frac.proofs.Parts.{num_apart}
use Rattle.ratio_test.proofs.Bounds.{apart, opposite_above}
use Rattle.ratio_test.proofs.limit.limit_of.Goals as goal

pub limit_up-requires : goal.limit_up-requires
limit_up-requires c =
    let above : zero_ratio <ᵣ c.args.amount = is_below_true zero_ratio c.args.amount (rw (← c.whole-zero.ensures) (sym c.is_below.ensures ∙ c.if-is_below.true)) in
    num_apart c.args.amount (apart above)

pub limit_down-requires : goal.limit_down-requires
limit_down-requires c =
    let below : c.args.amount <ᵣ zero_ratio = is_below_true c.args.amount zero_ratio (rw (← c.whole-zero.ensures) (sym c.is_below-2.ensures ∙ c.if-is_below-2.true)) in
    rw c.negated.ensures (num_apart (negated c.args.amount) (apart (opposite_above below)))
