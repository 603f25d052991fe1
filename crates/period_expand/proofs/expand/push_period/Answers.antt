use Rattle.std.proofs.Common.{rules, refl, ◌≡◌, ◌++◌, [], length}
use Rattle.std.specs.List.{cons_option}
use Rattle.np_model.specs.Scheme.Plans.{stage_of}
use Rattle.period_expand.proofs.Grows.{flows_more, pushed, not_pushed}
use Rattle.period_expand.proofs.expand.push_period.Goals as goal
use Rattle.period_expand.proofs.expand.push_period.Goals.{in-Some+in_ok-push-in-Some, in-None}

pub loop-number-preserved : goal.loop-number-preserved
loop-number-preserved c =
    let stage = stage_of c.args.scheme.now.periods (length c.args.scheme.now.nodes) c.args.period (c.loop-number.number, c.flow-item.result) in
    let more : c.match-branch-2.staged.items ≡ c.loop-number.staged.items ++ cons_option stage [] =
    elim c.match-branch-2.branch [
      | in-Some+in_ok-push-in-Some w ↦ pushed _ _ c.in_ok-stage.field-0 stage w.in-Some.stage w.in-Some.is c.in_ok-stage.ensures (rw w.staged-is w.in_ok-push-in-Some.ensures.items)
      | in-None w ↦ not_pushed _ _ c.in_ok-stage.field-0 stage w.in-None.is c.in_ok-stage.ensures (rw w.staged-is refl)
    ] in
    flows_more (stage_of c.args.scheme.now.periods (length c.args.scheme.now.nodes) c.args.period) c.args.scheme.now.flows c.loop-number.number c.flow-item.result (search rules) (search rules) c.args.staged.now.items c.loop-number.staged.items c.match-branch-2.staged.items c.loop-number.invariant more
