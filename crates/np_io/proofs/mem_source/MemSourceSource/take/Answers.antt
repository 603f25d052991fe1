use Rattle.std.proofs.Common.{arith, append_assoc, ◌≤◌}
use Rattle.std.proofs.lemmas.List.{length-take}
use Rattle.np_io.proofs.ListFacts.{drop-cut}
use Rattle.np_io.proofs.mem_source.MemSourceSource.take.Goals as goal

pub returns-clause-bytes : goal.returns-clause-bytes
returns-clause-bytes c =
    let into = c.args.into.now in
    let most = c.min-most.result in
    let count = c.move_into.result in
    let count_within : count ≤ most =
    omega (arith, length-take most into, c.move_into.ensures.count) in
    rw (c.move_into.ensures.bytes, append_assoc, drop-cut count most into count_within (omega arith), ← c.self.view_is)
