use Rattle.std.proofs.Common.{ℕ, Vec, Global, refl}
use Rattle.np_frac.specs.declared.frac.Frac.{Frac}
use Rattle.std.specs.Option.{option_copied}
use Rattle.np_model.specs.Basis.Phases.{phase_net}
use Rattle.np_basis.proofs.Fulls.{full_net_is_sound}
use Rattle.np_model.specs.Basis.Needed.{lists_of}
use Rattle.tree_flows.proofs.Answering.{answer, cause, never}
use Rattle.quasi_tree.specs.Store.{Store}
use Rattle.tree_flows.proofs.answer.direction.Goals as goal

pub steps_on-requires : goal.steps_on-requires
steps_on-requires c = record { in_net = (phase_net c.requires.enters.0 c.args.full.now, full_net_is_sound c.requires.enters.0 c.args.full.now, c.requires.enters.1.in_net) }

pub returns-in-Ok-clause-answer : goal.returns-in-Ok-clause-answer
returns-in-Ok-clause-answer c = λ phase can.
    answer (λ steps. steps.items) (phase_net phase c.args.full.now) (full_net_is_sound phase c.args.full.now) (lists_of (λ (s : Store). s.lists) c.args.first.now.lists (option_copied c.args.second)) c.args.enter c.args.up can
    (record { arc = c.args.enter; ends = c.ends.result; amount = c.unit.result }) refl (c.ends.ensures phase) c.unit.ensures c.in-Ok.found c.in_order.result.items c.in-Ok.ensures c.in_order.ensures.same c.in_order.ensures.ascend _ refl refl refl

pub returns-in-Ok-clause-exact : goal.returns-in-Ok-clause-exact
returns-in-Ok-clause-exact c = λ phase row past can given.
    never (λ steps. steps.items) (phase_net phase c.args.full.now) (full_net_is_sound phase c.args.full.now) (lists_of (λ (s : Store). s.lists) c.args.first.now.lists (option_copied c.args.second)) c.args.enter c.args.up can
    (record { arc = c.args.enter; ends = c.ends.result; amount = c.unit.result }) refl (c.ends.ensures phase) c.unit.ensures c.in-Ok.found row past c.in-Ok.ensures given

pub returns-in-Err-clause-answer : goal.returns-in-Err-clause-answer
returns-in-Err-clause-answer c = λ phase can.
    cause (λ (steps : Vec (ℕ × Frac) Global). steps.items) (phase_net phase c.args.full.now) (full_net_is_sound phase c.args.full.now) (lists_of (λ (s : Store). s.lists) c.args.first.now.lists (option_copied c.args.second)) c.args.enter c.args.up can
    (record { arc = c.args.enter; ends = c.ends.result; amount = c.unit.result }) refl (c.ends.ensures phase) c.unit.ensures c.in-Err.refusal c.in-Err.ensures
