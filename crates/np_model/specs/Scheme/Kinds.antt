-- What a flow joins, and where it is in each period. (This project's own.)
use Rattle.std.specs.Prelude.{◌≢◌, ℕ, ◌+◌, ◌-◌, ◌*◌, ◌<◌, Bool, true, false, ⊤}
use Rattle.std.proofs.Props.{props}
use Rattle.np_frac.specs.Ratio.{zero_ratio, ◌<ᵣ◌, <ᵣ-prop}
use Rattle.np_model.specs.declared.arc.Ends.{Ends}
use Rattle.np_model.specs.declared.arc.Ends.TheVariants as ends
use Rattle.np_model.specs.declared.scheme.FlowKind.{FlowKind}
use Rattle.np_model.specs.declared.scheme.FlowKind.TheVariants.{Link, Hold, Drain, Feed}

-- with k nodes, node i in a period is the expanded node (period - 1) * k + i
abbrev pub node_in : ℕ → ℕ → ℕ → ℕ
node_in k period i = (period - 1) * k + i

-- the ends of a flow in a period; a hold leads into the next one
abbrev pub ends_in : ℕ → ℕ → FlowKind → Ends
ends_in k period (Link from to gain) = ends.Link (node_in k period from) (node_in k period to) gain
ends_in k period (Hold node gain) = ends.Link (node_in k period node) (node_in k (period + 1) node) gain
ends_in k period (Drain node) = ends.Drain (node_in k period node)
ends_in k period (Feed node) = ends.Feed (node_in k period node)

-- the flow leads into the next period
abbrev pub is_hold : FlowKind → Bool
is_hold (Link from to gain) = false
is_hold (Hold node gain) = true
is_hold (Drain node) = false
is_hold (Feed node) = false

-- in how many of so many periods a flow has an arc
abbrev pub periods_of : ℕ → FlowKind → ℕ
periods_of periods (Link from to gain) = periods
periods_of periods (Hold node gain) = periods - 1
periods_of periods (Drain node) = periods
periods_of periods (Feed node) = periods

-- the flow joins nodes below n, and a link two of them
abbrev pub JoinsNodes : ℕ → FlowKind → Type 0
JoinsNodes n (Link from to gain) = (from < n) × (to < n) × (from ≢ to)
JoinsNodes n (Hold node gain) = node < n
JoinsNodes n (Drain node) = node < n
JoinsNodes n (Feed node) = node < n

-- its gain, where it has one, is above 0
abbrev pub HasGain : FlowKind → Type 0
HasGain (Link from to gain) = zero_ratio <ᵣ gain
HasGain (Hold node gain) = zero_ratio <ᵣ gain
HasGain (Drain node) = ⊤
HasGain (Feed node) = ⊤

-- ---- each of these facts has one proof at most

pub JoinsNodes-prop : (n : ℕ) (kind : FlowKind) → IsProp (JoinsNodes n kind)
JoinsNodes-prop n (Link from to gain) = hlevel props
JoinsNodes-prop n (Hold node gain) = hlevel props
JoinsNodes-prop n (Drain node) = hlevel props
JoinsNodes-prop n (Feed node) = hlevel props

pub HasGain-prop : (kind : FlowKind) → IsProp (HasGain kind)
HasGain-prop (Link from to gain) = <ᵣ-prop zero_ratio gain
HasGain-prop (Hold node gain) = <ᵣ-prop zero_ratio gain
HasGain-prop (Drain node) = hlevel props
HasGain-prop (Feed node) = hlevel props
