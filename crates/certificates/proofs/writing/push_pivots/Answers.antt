use Rattle.std.proofs.Common.{◌∙◌, ◌+◌, ◌≤◌, arith, length, get_or}
use Rattle.std.specs.List.{enumerate_from}
use Rattle.std.proofs.lemmas.List.{get_or_default}
use Rattle.std.proofs.lemmas.List.FromFn.{length-enumerate_from}
use Rattle.np_model.specs.declared.log.Entry.{Entry}
use Rattle.np_model.specs.declared.log.Mark.TheVariants as mark
use Rattle.certificates.specs.Writing.{pivot_row}
use Rattle.certificates.proofs.WrittenRecords.{numbered-more, text-all}
use Rattle.certificates.proofs.writing.push_pivots.Goals as goal

pub loop-before-preserved : goal.loop-before-preserved
loop-before-preserved c =
    let entries = c.args.entries.now in
    let before = c.loop-before.before in
    let within = c.loop-before-test.true in
    -- the pivot there, as the walk names it
    let none : Entry = record { enter = 0; leave = 0; leave_at = mark.Lower } in
    let pivot = get_or entries before none in
    let more = numbered-more pivot_row c.args.text.now.bytes 1 entries before (before + 1) pivot (omega arith) within (get_or_default entries before none pivot within) in
    record { bytes = c.in_ok-push_pivot.ensures.bytes ∙ rw c.loop-before.invariant.bytes more; closed = c.in_ok-push_pivot.ensures.closed }

pub returns : goal.returns
returns c =
    let all = enumerate_from 1 c.args.entries.now in
    let whole : length all ≤ c.loop-before.before = omega (arith, length-enumerate_from 1 c.args.entries.now, c.loop-before-test.false) in
    record { bytes = c.loop-before.invariant.bytes ∙ text-all pivot_row c.args.text.now.bytes all c.loop-before.before whole; closed = c.loop-before.invariant.closed }
