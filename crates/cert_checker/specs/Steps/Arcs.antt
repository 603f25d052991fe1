-- The staged arcs as the checker keeps them.
use Rattle.std.specs.Prelude.{ℕ}
use Rattle.np_model.specs.declared.arc.Ends.{Ends}
use Rattle.np_model.specs.declared.arc.Ends.TheVariants as ends
use Rattle.np_model.specs.declared.scheme.FlowKind.{FlowKind}
use Rattle.np_model.specs.declared.scheme.FlowKind.TheVariants.{Link, Hold, Drain, Feed}
use Rattle.np_model.specs.Scheme.Segments.{Stage}
use Rattle.cert_checker.specs.declared.staged.StagedArc.{StagedArc}

-- the ends of a flow of this kind between two expanded nodes; one with one end is at the first
abbrev pub ends_at : ℕ → ℕ → FlowKind → Ends
ends_at tail head (Link i j gain) = ends.Link tail head gain
ends_at tail head (Hold i gain) = ends.Link tail head gain
ends_at tail head (Drain i) = ends.Drain tail
ends_at tail head (Feed i) = ends.Feed tail

-- the staged arc that this stands for
abbrev pub as_stage : StagedArc → Stage
as_stage arc =
    let flow = arc.flow.now in
    record { flow = arc.number; period = arc.period; ends = ends_at arc.tail arc.head flow.kind; lower = flow.lower; upper = flow.upper; cost = flow.cost; bands = flow.bands }
