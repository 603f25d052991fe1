use Rattle.std.proofs.Common.{◌<◌, ◌∙◌, length, rules, arith, ap, get_or}
use Rattle.np_frac.specs.Exact.{◌▷◌}
use Rattle.cert_checker.specs.Walk.{add_flow}
use Rattle.np_model.specs.declared.arc.Ends.{Ends}
use Rattle.np_model.specs.Network.Arcs.{AreNodes}
use Rattle.cert_checker.specs.Steps.Arcs.{as_stage}
use Rattle.cert_checker.proofs.Pairs.{arc_here}
use Rattle.cert_checker.proofs.Balances.{balance_more, balance_end}
use Rattle.cert_checker.proofs.balance.add_flows.Goals as goal

pub add_flow-requires : goal.add_flow-requires
add_flow-requires c =
    rw (c.loop-i.auto.sums, c.ends.ensures)
    (arc_here c.args.arcs.now c.loop-i.i c.index-arcs-i.result c.loop-i-test.true c.index-arcs-i.is (λ arc. AreNodes (length c.args.sums.now) (as_stage arc).ends) c.requires.joined)

pub loop-i-preserved : goal.loop-i-preserved
loop-i-preserved c = λ v d below.
    let there : v < length c.loop-i.sums = search rules in
    balance_more c.args.arcs.now c.args.amounts.now c.loop-i.i c.index-arcs-i.result c.index-amounts-i.result v _ _ c.requires.long c.loop-i-test.true
    c.index-arcs-i.is c.index-amounts-i.is (c.loop-i.invariant v d there)
    (c.add_flow.ensures v d there ∙ ap (λ (ends : Ends). get_or c.loop-i.sums v d ▷ add_flow v ends c.index-amounts-i.result) c.ends.ensures)

pub returns : goal.returns
returns c = λ v d below.
    let there : v < length c.loop-i.sums = omega (arith, c.loop-i.auto.sums) in
    c.loop-i.invariant v d there ∙ balance_end c.args.arcs.now c.args.amounts.now c.loop-i.i v c.requires.long (omega arith)
