use Rattle.np_model.specs.Basis.Phases.{phase_net, real_arcs}
use Rattle.arc_pricing.proofs.Eligibility.{may}
use Rattle.arc_pricing.proofs.prices.eligible.Goals as goal

pub returns-then-is_open : goal.returns-then-is_open
returns-then-is_open c = λ phase.
    may (phase_net phase c.args.full.now) (real_arcs c.args.full.now) c.args.arc c.args.mark c.args.reduced c.is_open.result c.gains.result (c.is_open.ensures phase) c.gains.ensures c.if-is_open.true
