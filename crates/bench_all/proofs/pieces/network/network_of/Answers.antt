use Rattle.bench_all.proofs.Nets.{valid, artificial}
use Rattle.bench_all.proofs.pieces.network.network_of.Goals as goal

pub invariant_of-result : goal.invariant_of-result
invariant_of-result c = record { valid = rw (c.in_ok-supply.ensures.zeros, c.in_ok-arcs.ensures) (valid c.args.shape c.args.nodes c.requires.some c.requires.few) }

pub invariant_of-result-2 : goal.invariant_of-result-2
invariant_of-result-2 c = record { valid = rw (c.in_ok-supply.ensures.zeros, c.in_ok-artificial.ensures.drains) (artificial c.args.shape c.args.nodes c.requires.some) }
