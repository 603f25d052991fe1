use Rattle.std.proofs.Common.{◌≡◌, arith, refl, get_or}
use Rattle.np_model.proofs.Distinct.{new-none, new-more, not-new}
use Rattle.np_model.proofs.valid.are_distinct.Goals as goal

pub loop-i-init : goal.loop-i-init
loop-i-init c = new-none c.new-seen.result (λ name. let e = c.new-seen.ensures.empty in rw e refl)

pub returns-then-not-branch : goal.returns-then-not-branch
returns-then-not-branch c =
    let sees = rw (c.in_ok-see.was) at c.see.ensures in
    let here : c.as_slice.result.now ≡ get_or c.args.names.now c.loop-i.i c.as_slice.result.now = let e = c.as_slice.ensures in rw e c.index-names-i.is in
    (λ h. absurd (cc h), λ d. absurd (not-new c.loop-i.seen c.see.new.seen c.args.names.now c.loop-i.i c.as_slice.result c.in_ok-see.field-0 (omega arith) here sees c.if-not-branch.true c.loop-i.invariant d))

pub loop-i-preserved : goal.loop-i-preserved
loop-i-preserved c =
    let sees = rw (c.in_ok-see.was) at c.see.ensures in
    let here : c.as_slice.result.now ≡ get_or c.args.names.now c.loop-i.i c.as_slice.result.now = let e = c.as_slice.ensures in rw e c.index-names-i.is in
    new-more c.loop-i.seen c.see.new.seen c.args.names.now c.loop-i.i c.as_slice.result c.in_ok-see.field-0 (omega arith) here sees c.if-not-branch.false c.loop-i.invariant
