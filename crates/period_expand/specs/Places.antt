-- Where the arc of a flow in a period stands among the staged arcs. (This project's own.)
use Rattle.std.specs.Prelude.{◌≡◌, ℕ, ◌+◌, ◌-◌, ◌*◌, ◌==◌, ◌≤◌, ◌&&◌, not, false, Some, List, length, take, if◌then◌else◌}
use Rattle.std.specs.List.{slice_get, filter}
use Rattle.np_model.specs.declared.scheme.Flow.{Flow}
use Rattle.np_model.specs.declared.scheme.Scheme.{Scheme}
use Rattle.np_model.specs.Scheme.Kinds.{is_hold}
use Rattle.np_model.specs.Scheme.Plans.{stage_in, staged}

-- how many of the flows have an arc in a period: all, but the holds in the last one
abbrev pub arcs_in : Scheme → ℕ → List Flow → ℕ
arcs_in scheme period flows = if period == scheme.periods then length (filter (λ flow. not (is_hold flow.kind)) flows) else length flows

-- before the arc of a flow in a period there is one of each flow for each earlier period, and those of the earlier flows in this one
abbrev pub place : Scheme → ℕ → ℕ → ℕ
place scheme period number = (period - 1) * length scheme.flows + arcs_in scheme period (take number scheme.flows)

-- each flow has an arc in each period, but a hold in the last one, and it stands at its place
abbrev pub StandsAtItsPlace : Type 0
StandsAtItsPlace =
    (scheme : Scheme) (period number : ℕ) (flow : Flow) → 1 ≤ period → period ≤ scheme.periods → slice_get scheme.flows number ≡ Some flow →
    (is_hold flow.kind && (period == scheme.periods)) ≡ false →
    slice_get (staged scheme) (place scheme period number) ≡ Some (stage_in (length scheme.nodes) period (number, flow))

-- and there are no others
abbrev pub HasNoOthers : Type 0
HasNoOthers = (scheme : Scheme) → length (staged scheme) ≡ place scheme scheme.periods (length scheme.flows)
