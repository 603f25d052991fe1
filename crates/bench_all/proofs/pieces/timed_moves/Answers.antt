use Rattle.std.proofs.Common.{◌+◌, ◌-◌, ◌∷◌, []}
use Rattle.np_model.specs.declared.phase.Phase.TheVariants.{Two}
use Rattle.np_model.specs.Basis.Phases.{phase_net}
use Rattle.bench_all.proofs.Nets.{can_enter, are_within, is_outside, is_along}
use Rattle.bench_all.proofs.pieces.timed_moves.Goals as goal

pub clocked_directions-requires : goal.clocked_directions-requires
clocked_directions-requires c = rw (c.in_ok-full.ensures, c.in_ok-piece.ensures) (can_enter c.args.shape c.args.nodes c.requires.some)

pub clocked_ratios-requires-clause-within : goal.clocked_ratios-requires-clause-within
clocked_ratios-requires-clause-within c = rw (c.in_ok-full.ensures, c.in_ok-piece.ensures) (are_within c.args.shape c.args.nodes c.requires.some)

pub clocked_ratios-requires-clause-outside : goal.clocked_ratios-requires-clause-outside
clocked_ratios-requires-clause-outside c =
    rw (c.in_ok-full.ensures, c.in_ok-piece.ensures) (is_outside c.args.shape c.args.nodes c.requires.some c.in_ok-nanos.found.enter c.in_ok-nanos.ensures.enters)

pub clocked_ratios-requires-clause-along : goal.clocked_ratios-requires-clause-along
clocked_ratios-requires-clause-along c = is_along (phase_net Two c.in_ok-full.full) (c.in_ok-piece.piece.lists ∷ []) (c.args.nodes + (c.args.nodes - 1)) c.in_ok-nanos.found c.in_ok-nanos.ensures
