use Rattle.std.proofs.Common.{arith}
use Rattle.bench_all.proofs.Alones.{have_slots, are_apart}
use Rattle.bench_all.proofs.table.forest.table_of.Goals as goal

pub set_up-requires-clause-lie : goal.set_up-requires-clause-lie
set_up-requires-clause-lie c κs = rw (c.in_ok-full.ensures, c.in_ok-pieces.ensures) (have_slots 0 16 16 (omega arith))

pub set_up-requires-clause-apart : goal.set_up-requires-clause-apart
set_up-requires-clause-apart c κs = rw c.in_ok-pieces.ensures (are_apart 0 16)
