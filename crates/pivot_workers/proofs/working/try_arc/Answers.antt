use Rattle.pivot_workers.specs.declared.attempting.Attempted.TheVariants as attempted
use Rattle.pivot_workers.proofs.Named.{tried_at}
use Rattle.pivot_workers.proofs.working.try_arc.Goals as goal

pub returns-in-Pivoted : goal.returns-in-Pivoted
returns-in-Pivoted g c =
    tried_at c.args.full.now c.args.phase c.args.openings.now c.args.arc c.requires.arc c.requires.slots c.see-seen.result (c.see-seen.ensures.seen c.args.phase) c.args.pass.now c.attempt.new.pass
    c.requires.ready c.attempt.ensures.same c.attempt.ensures.told (attempted.Pivoted c.in-Pivoted.ticket) c.in-Pivoted.ensures.answer

pub returns-in-Memory : goal.returns-in-Memory
returns-in-Memory g c =
    tried_at c.args.full.now c.args.phase c.args.openings.now c.args.arc c.requires.arc c.requires.slots c.see-seen.result (c.see-seen.ensures.seen c.args.phase) c.args.pass.now c.attempt.new.pass
    c.requires.ready c.attempt.ensures.same c.attempt.ensures.told attempted.Memory c.in-Memory.ensures.answer

pub returns-in-Busy : goal.returns-in-Busy
returns-in-Busy g c =
    tried_at c.args.full.now c.args.phase c.args.openings.now c.args.arc c.requires.arc c.requires.slots c.see-seen.result (c.see-seen.ensures.seen c.args.phase) c.args.pass.now c.attempt.new.pass
    c.requires.ready c.attempt.ensures.same c.attempt.ensures.told (attempted.Busy c.in-Busy.slot c.in-Busy.word) c.in-Busy.ensures.answer

pub returns-in-Stale : goal.returns-in-Stale
returns-in-Stale g c =
    tried_at c.args.full.now c.args.phase c.args.openings.now c.args.arc c.requires.arc c.requires.slots c.see-seen.result (c.see-seen.ensures.seen c.args.phase) c.args.pass.now c.attempt.new.pass
    c.requires.ready c.attempt.ensures.same c.attempt.ensures.told (attempted.Stale c.in-Stale.node c.in-Stale.slot) c.in-Stale.ensures.answer

pub returns-in-NotEligible : goal.returns-in-NotEligible
returns-in-NotEligible g c =
    tried_at c.args.full.now c.args.phase c.args.openings.now c.args.arc c.requires.arc c.requires.slots c.see-seen.result (c.see-seen.ensures.seen c.args.phase) c.args.pass.now c.attempt.new.pass
    c.requires.ready c.attempt.ensures.same c.attempt.ensures.told attempted.NotEligible c.in-NotEligible.ensures.answer

pub returns-in-Ray : goal.returns-in-Ray
returns-in-Ray g c =
    tried_at c.args.full.now c.args.phase c.args.openings.now c.args.arc c.requires.arc c.requires.slots c.see-seen.result (c.see-seen.ensures.seen c.args.phase) c.args.pass.now c.attempt.new.pass
    c.requires.ready c.attempt.ensures.same c.attempt.ensures.told attempted.Ray c.in-Ray.ensures.answer

pub returns-in-Past : goal.returns-in-Past
returns-in-Past g c =
    tried_at c.args.full.now c.args.phase c.args.openings.now c.args.arc c.requires.arc c.requires.slots c.see-seen.result (c.see-seen.ensures.seen c.args.phase) c.args.pass.now c.attempt.new.pass
    c.requires.ready c.attempt.ensures.same c.attempt.ensures.told (attempted.Past c.in-Past.field-0) c.in-Past.ensures.answer
