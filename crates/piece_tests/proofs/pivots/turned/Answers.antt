use Rattle.std.proofs.Common.{rules, ◌≡◌, ◌≤◌}
use Rattle.std.specs.Prelude.{ℕ}
use Rattle.std.specs.List.{All}
use Rattle.np_frac.specs.Ratio.{Ratio, zero_ratio}
use Rattle.np_model.specs.declared.arc.Ends.{Ends}
use Rattle.np_model.specs.declared.phase.Phase.TheVariants.{Two}
use Rattle.np_model.specs.Basis.Phases.{phase_net, real_arcs}
use Rattle.pivot_step.specs.Steps.{IsSettled}
use Rattle.piece_tests.proofs.Started.{turned_alone, in_second_alone}
use Rattle.piece_tests.proofs.pivots.turned.Goals as goal

pub potentials-requires : goal.potentials-requires
potentials-requires c = record { in_net = in_second_alone c.args.full.now c.args.piece.lists c.requires }

pub returns-in-Ok : goal.returns-in-Ok
returns-in-Ok c =
    let idle : All (λ (b : ℕ × Ends × Ratio). real_arcs c.args.full.now ≤ b.0 → b.2 ≡ zero_ratio) c.args.piece.lists.basics = search (rules, c.are_idle.ensures c.if-not-are_idle.false) in
    let settled : IsSettled (phase_net Two c.args.full.now) c.args.piece.lists c.potentials.new.piece.lists = search rules in
    turned_alone c.args.full.now c.args.piece.lists c.potentials.new.piece.lists c.requires idle settled
