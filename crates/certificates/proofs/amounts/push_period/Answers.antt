use Rattle.std.proofs.Common.{rules, refl, ◌≡◌, ◌++◌, []}
use Rattle.std.specs.List.{cons_option}
use Rattle.certificates.specs.Steps.Amounts.{amount_in}
use Rattle.period_expand.proofs.Grows.{flows_more, pushed, not_pushed}
use Rattle.certificates.proofs.amounts.push_period.Goals as goal
use Rattle.certificates.proofs.amounts.push_period.Goals.{in-Some+in_ok-push-in-Some, in-None}

pub loop-number-preserved : goal.loop-number-preserved
loop-number-preserved c =
    let amount = amount_in c.args.given.now c.args.scheme.now c.args.period c.loop-number.number c.flow-item.result.kind in
    let more : c.match-amount_in.items.items ≡ c.loop-number.items.items ++ cons_option amount [] =
    elim c.match-amount_in.branch [
      | in-Some+in_ok-push-in-Some w ↦ pushed _ _ c.amount_in.result amount w.in-Some.amount w.in-Some.is c.amount_in.ensures (rw w.items-is w.in_ok-push-in-Some.ensures.items)
      | in-None w ↦ not_pushed _ _ c.amount_in.result amount w.in-None.is c.amount_in.ensures (rw w.items-is refl)
    ] in
    flows_more (λ (number, flow). amount_in c.args.given.now c.args.scheme.now c.args.period number flow.kind) c.args.scheme.now.flows c.loop-number.number c.flow-item.result (search rules) (search rules) c.args.items.now.items c.loop-number.items.items c.match-amount_in.items.items c.loop-number.invariant more
