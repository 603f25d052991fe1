use Rattle.std.proofs.Common.{rules, arith, ap, ◌+◌, ◌-◌, ◌/◌}
use Rattle.tree_table.specs.Passes.{View}
use Rattle.pivot_workers.proofs.Crews.{crewed_one, fits, both, one_half}
use Rattle.pivot_workers.proofs.halves.+crew.Goals as goal

pub returns-then-count-eq1-clause-crew : goal.returns-then-count-eq1-clause-crew
returns-then-count-eq1-clause-crew g t c =
    crewed_one c.args.openings.now c.args.pass c.work-report.new.pass (c.args.workers - 1) (c.args.first - 1) c.args.count c.args.quota c.args.list.now c.work-report.result c.if-count-eq1.true c.work-report.ensures.worked

pub fold-requires-clause-room : goal.fold-requires-clause-room
fold-requires-clause-room g t c κs within =
    let f = c.in-Ok.ensures in
    fits c.args.pass c.fork.new.pass c.join-pass.result.0.0 c.in-Ok.other c.join-pass.result.1.0
    (c.args.workers - 1) (c.args.first - 1) (c.args.first + (c.args.count - c.args.count / 2) - 1) c.args.count (c.args.count - c.args.count / 2) (c.args.count / 2) c.args.quota c.join-pass.result.0.1 c.join-pass.result.1.1 c.args.list.now (omega arith) (let a = c.requires.workers.0 in omega arith)
    c.join-pass.ensures.first c.join-pass.ensures.second f.same.1 c.requires.can.2 (ap (λ (v : View). v.entries) f.other.2)

pub returns-in-Err-clause-crew : goal.returns-in-Err-clause-crew
returns-in-Err-clause-crew g t c =
    let f = c.in-Err.ensures in
    one_half c.args.pass c.fork.new.pass c.crew-pass.result.0 (c.args.workers - 1) (c.args.first - 1) c.args.count (c.args.count - c.args.count / 2) (c.args.count / 2) c.args.quota c.args.list.now c.crew-pass.result.1 _ (omega arith)
    c.crew-pass.ensures.crew f.same.0 f.memory f.same.1 (search rules) (λ e. absurd (search (rules, e)))

pub returns-in-Ok-clause-crew : goal.returns-in-Ok-clause-crew
returns-in-Ok-clause-crew g t c =
    let f = c.in-Ok.ensures in let b = c.fold.ensures in
    both c.args.pass c.fork.new.pass c.join-pass.result.0.0 c.in-Ok.other c.join-pass.result.1.0
    (c.args.workers - 1) (c.args.first - 1) (c.args.first + (c.args.count - c.args.count / 2) - 1) c.args.count (c.args.count - c.args.count / 2) (c.args.count / 2) c.args.quota c.join-pass.result.0.1 c.join-pass.result.1.1 c.args.list.now (omega arith) (let a = c.requires.workers.0 in omega arith)
    c.join-pass.ensures.first c.join-pass.ensures.second f.same.1 c.requires.can.2 (ap (λ (v : View). v.entries) f.other.2)
    c.fold.new.pass f.pass.0 b.both.0 f.same.0 f.pass.1 f.other.2 b.same.0 b.both.1 b.spare
    c.with.result c.with.ensures.pivots c.with.ensures.memory
