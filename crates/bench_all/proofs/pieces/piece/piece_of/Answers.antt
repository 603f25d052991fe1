use Rattle.bench_all.proofs.Nets.{held}
use Rattle.bench_all.proofs.pieces.piece.piece_of.Goals as goal

pub of_lists-requires : goal.of_lists-requires
of_lists-requires c = rw (c.in_ok-node_items.ensures, c.in_ok-basic_items.ensures, c.in_ok-mark_items.ensures) (held c.args.shape c.args.nodes c.requires.some c.requires.few)
