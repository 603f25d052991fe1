use Rattle.std.proofs.Common.{◌≡◌, ap}
use Rattle.np_model.specs.Network.Flows.{Network}
use Rattle.np_model.specs.Basis.Phases.{network_of}
use Rattle.basis_start.proofs.Artificial.{artificial_valid}
use Rattle.basis_start.proofs.basis.start.Goals as goal

pub invariant_of-result : goal.invariant_of-result
invariant_of-result c =
    let same : c.in_ok-net.net.supply ≡ c.args.net.now.supply = ap (λ (n : Network). n.supply) c.in_ok-net.ensures in
    record { valid = rw (same, c.in_ok-made.ensures.artificial_are) (artificial_valid (network_of c.args.net.now)) }
