use Rattle.demo_network.proofs.Valid.{demo_valid}
use Rattle.demo_network.proofs.scheme.demo_scheme.Goals as goal

pub invariant_of-result : goal.invariant_of-result
invariant_of-result c =
    rw (c.in_ok-nodes.ensures, c.in_ok-supply.ensures, c.in_ok-flows.ensures) (record { valid = demo_valid c.args.number c.requires.some c.requires.few })
