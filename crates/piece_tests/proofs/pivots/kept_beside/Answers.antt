use Rattle.std.proofs.Common.{rules, [], ◌∷◌}
use Rattle.np_model.specs.declared.phase.Phase.TheVariants.{One}
use Rattle.np_model.specs.Basis.Phases.{phase_net, real_arcs}
use Rattle.pivot_step.specs.Named.{BecomeBySomePivot}
use Rattle.piece_tests.proofs.Started.{second_alone, second_after}
use Rattle.piece_tests.proofs.pivots.kept_beside.Goals as goal

pub alone-requires : goal.alone-requires
alone-requires c = second_alone (phase_net One c.args.full.now) c.args.beside.now.lists c.args.piece.now.lists c.requires

pub returns-in-One : goal.returns-in-One
returns-in-One c =
    let after : BecomeBySomePivot (phase_net One c.args.full.now) (real_arcs c.args.full.now) (c.args.piece.now.lists ∷ []) (c.in-One.after.lists ∷ []) = search (rules, c.alone.ensures.after) in
    second_after (phase_net One c.args.full.now) (real_arcs c.args.full.now) c.args.beside.now.lists c.args.piece.now.lists c.in-One.after.lists c.requires after
