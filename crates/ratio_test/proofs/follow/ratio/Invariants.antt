use Rattle.std.proofs.Common.{ℕ, take}
use Rattle.std.specs.Result.{IsOk}
use Rattle.gain_graphs.specs.Arcs.{IsIn}
use Rattle.np_frac.specs.Ratio.{zero_ratio}
use Rattle.np_model.specs.Basis.Graphs.{arc_at}
use Rattle.np_model.specs.Basis.Phases.{phase_net}
use Rattle.np_model.specs.Basis.Pieces.{beside}
use Rattle.np_model.specs.Basis.Sound.{values_in}
use Rattle.np_model.specs.Rows.Arcs.{limit_of}
use Rattle.np_model.specs.Basis.Needed.{lists_of}
use Rattle.np_model.specs.Rows.Moving.{numbers_of_steps}
use Rattle.ratio_test.specs.Steps.Soonest.{IsSoonestOf}
use Rattle.ratio_test.proofs.follow.ratio.Given as goal

abbrev pub invariant-loop-step : goal.invariant-loop-step
invariant-loop-step g l = record {
  soonest : IsSoonestOf
      (λ a. limit_of (arc_at (phase_net l.phase l.full).arcs a) ((values_in (phase_net l.phase l.full) (lists_of (λ p. g.T.Piece.lists p.now) (g.T.Piece.lists l.first) l.second)).flow a) (beside zero_ratio l.steps a))
      (beside zero_ratio l.steps) l.enter (numbers_of_steps (take l.step-index l.steps)) l.stop;
  fit : (a : ℕ) → IsIn a (numbers_of_steps (take l.step-index l.steps))
      → IsOk (limit_of (arc_at (phase_net l.phase l.full).arcs a) ((values_in (phase_net l.phase l.full) (lists_of (λ p. g.T.Piece.lists p.now) (g.T.Piece.lists l.first) l.second)).flow a) (beside zero_ratio l.steps a));
}
