use Rattle.std.proofs.Common.{rules, subst}
use Rattle.gain_graphs.specs.Arcs.{IsIn}
use Rattle.np_model.specs.Basis.Phases.{phase_net, real_arcs}
use Rattle.np_model.specs.Basis.States.{values_of}
use Rattle.simplex_driver.specs.Store.{state_of}
use Rattle.simplex_driver.proofs.Pricing.{each_overflows, first_in}
use Rattle.simplex_driver.proofs.forest.Forest.find.Goals as goal

pub returns-then-spent : goal.returns-then-spent
returns-then-spent g c = (c.if-spent.true, c.in-Ok.ensures.0, (c.in-Ok.ensures.1 c.index.result.now).0 (first_in c.in-Ok.list c.list.inside.items.items c.index.result.now c.index.ensures (search rules) (search rules)))

pub pick-requires-clause-listed : goal.pick-requires-clause-listed
pick-requires-clause-listed g c a i = (c.in-Ok.ensures.1 a).0 (subst (IsIn a) (search rules) i)

pub returns-in-Past : goal.returns-in-Past
returns-in-Past g c = (
  c.if-spent.false,
  c.in-Ok.ensures.0,
  each_overflows (phase_net c.args.phase c.args.full.now) (real_arcs c.args.full.now) (values_of (state_of c.args.self.now)) c.in-Ok.list c.as_slice.result.now c.in-Past.overflow (search rules) c.in-Ok.ensures c.in-Past.ensures,
)
