use Rattle.std.proofs.Common.{arith, refl, ◌<◌, length}
use Rattle.np_model.specs.Scheme.Names.{flow_names}
use Rattle.np_model.specs.declared.scheme.Flow.{Flow}
use Rattle.std.proofs.lemmas.List.{length-map}
use Rattle.np_model.proofs.Distinct.{name-here, new-none, new-more, not-new}
use Rattle.np_model.proofs.valid.have_distinct_names.Goals as goal

pub loop-i-init : goal.loop-i-init
loop-i-init c = new-none c.new-seen.result (λ name. let e = c.new-seen.ensures.empty in rw e refl)

pub returns-then-not-branch : goal.returns-then-not-branch
returns-then-not-branch c =
    let sees = rw (c.in_ok-see.was) at c.see.ensures in
    let below : c.loop-i.i < length (flow_names c.args.flows.now) = omega (arith, length-map c.args.flows.now (λ (f : Flow). f.name)) in
    let here = name-here c.args.flows.now c.loop-i.i c.index-flows-i.result c.as_slice.result.now below c.as_slice.ensures in
    (λ h. absurd (cc h), λ d. absurd (not-new c.loop-i.seen c.see.new.seen (flow_names c.args.flows.now) c.loop-i.i c.as_slice.result c.in_ok-see.field-0 below here sees c.if-not-branch.true c.loop-i.invariant d))

pub loop-i-preserved : goal.loop-i-preserved
loop-i-preserved c =
    let sees = rw (c.in_ok-see.was) at c.see.ensures in
    let below : c.loop-i.i < length (flow_names c.args.flows.now) = omega (arith, length-map c.args.flows.now (λ (f : Flow). f.name)) in
    let here = name-here c.args.flows.now c.loop-i.i c.index-flows-i.result c.as_slice.result.now below c.as_slice.ensures in
    new-more c.loop-i.seen c.see.new.seen (flow_names c.args.flows.now) c.loop-i.i c.as_slice.result c.in_ok-see.field-0 below here sees c.if-not-branch.false c.loop-i.invariant
