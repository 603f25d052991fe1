use Rattle.bench_all.proofs.Nets.{in_net}
use Rattle.bench_all.proofs.pieces.timed.Goals as goal

pub clocked-requires : goal.clocked-requires
clocked-requires c = rw (c.in_ok-full.ensures, c.in_ok-piece.ensures) (in_net c.args.shape c.args.nodes c.requires.some)
