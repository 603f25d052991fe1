use Rattle.std.proofs.Common.{◌≡◌, Ok, sym, ◌∙◌}
use Rattle.np_model.specs.Basis.Graphs.{ends_at, cost_at}
use Rattle.np_model.specs.Basis.Phases.{phase_net}
use Rattle.np_model.specs.Network.Arcs.{reduced_cost_of}
use Rattle.np_model.proofs.Pull.{reduced_exactly}
use Rattle.arc_pricing.proofs.prices.price.Goals as goal

pub returns-in-Ok-clause-exact : goal.returns-in-Ok-clause-exact
returns-in-Ok-clause-exact c =
    let net = phase_net c.args.phase c.args.full.now in
    let found : reduced_cost_of (ends_at net.arcs c.args.arc) (cost_at net.arcs c.args.arc) c.args.first c.args.second ≡ Ok c.in-Ok.reduced = rw (← c.ends.ensures c.args.phase, ← c.cost.ensures) (sym c.reduced_cost.ensures ∙ c.in-Ok.is) in
    reduced_exactly _ _ c.args.first c.args.second c.in-Ok.reduced found
