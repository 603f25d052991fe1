use Rattle.std.proofs.Common.{rules, ◌≡◌, length, Some}
use Rattle.np_model.specs.Scheme.Plans.{staged}
use Rattle.convex_arcs.specs.Segments.{flat_arcs}
use Rattle.netplan_top.specs.Commands.Demo.{demo_job}
use Rattle.netplan_top.specs.Steps.Solved.{IsTold}
use Rattle.netplan_top.specs.Texts.Demo.{summary_text}
use Rattle.netplan_top.proofs.DemoFacts.{tells_plan, sums_up}
use Rattle.netplan_top.proofs.commands.demo.summed_up.Goals as goal

pub returns-then-told-ne0 : goal.returns-then-told-ne0
returns-then-told-ne0 c =
    let told : IsTold demo_job c.args.scheme.now c.args.plan.now c.in_ok-told.told.status c.in_ok-told.told.text.items = rw c.demo_job.ensures at c.in_ok-told.ensures in
    tells_plan c.demo_has_plans.ensures.not_forbidden c.demo_has_plans.ensures.falls_nowhere c.args.number c.args.scheme.now c.args.plan.now c.requires.demo c.requires.fits c.requires.found
    c.in_ok-told.told.status c.in_ok-told.told.text.items told c.if-told-ne0.true

pub returns : goal.returns
returns c =
    let told : IsTold demo_job c.args.scheme.now c.args.plan.now c.in_ok-told.told.status c.in_ok-told.told.text.items = rw c.demo_job.ensures at c.in_ok-told.ensures in
    let amount : c.args.plan.now.amount ≡ Some c.in-Some.cost = search rules in
    let is : c.in_ok-text.text.items ≡ summary_text c.args.number (length c.args.scheme.now.supply) (length (flat_arcs (staged c.args.scheme.now))) c.in-Some.cost =
    rw (c.as_slice-nodes.ensures, c.in_ok-arcs.ensures) at c.in_ok-text.ensures in
    sums_up c.demo_has_plans.ensures.not_forbidden c.demo_has_plans.ensures.falls_nowhere c.args.number c.args.scheme.now c.args.plan.now c.requires.demo c.requires.fits c.requires.found
    c.in_ok-told.told.status c.in_ok-told.told.text.items c.in-Some.cost c.in_ok-text.text.items told c.if-told-ne0.false amount is
