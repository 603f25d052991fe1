use Rattle.std.proofs.Common.{◌++◌, ◌∙◌, List, length, map, ap, arith}
use Rattle.np_model.specs.Scheme.Segments.{Stage}
use Rattle.cert_checker.specs.Steps.Arcs.{as_stage}
use Rattle.cert_checker.proofs.Arcs.{skips, adds, period_ends}
use Rattle.cert_checker.proofs.staged.add_period.Goals as goal

pub loop-i-preserved-then-is_left_out : goal.loop-i-preserved-then-is_left_out
loop-i-preserved-then-is_left_out c =
    skips c.args.scheme.now c.as_slice-flows.result.now c.args.period c.loop-i.i c.index-flows-i.result c.is_left_out.result (map as_stage c.loop-i.arcs.items) (map as_stage c.args.arcs.now.items)
    c.as_slice-flows.ensures c.loop-i-test.true c.index-flows-i.is c.is_left_out.ensures c.if-is_left_out.true c.loop-i.invariant

pub loop-i-preserved : goal.loop-i-preserved
loop-i-preserved c =
    adds c.args.scheme.now c.as_slice-flows.result.now (length c.as_slice.result.now) c.args.period c.loop-i.i c.index-flows-i.result c.is_left_out.result c.stage_in.result c.loop-i.arcs.items c.push.new.self.items (map as_stage c.args.arcs.now.items)
    c.as_slice-flows.ensures (ap length c.as_slice.ensures) c.loop-i-test.true c.index-flows-i.is c.is_left_out.ensures c.if-is_left_out.false c.stage_in.ensures c.loop-i.invariant c.in_ok-push.ensures.items

pub returns : goal.returns
returns c =
    c.loop-i.invariant
    ∙ ap (λ (z : List Stage). map as_stage c.args.arcs.now.items ++ z) (period_ends c.args.scheme.now c.args.period c.loop-i.i (rw (← c.as_slice-flows.ensures) (omega arith)))
