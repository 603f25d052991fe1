-- Arcs of a network with gains: their ends, bounds and costs. The incidence coefficient and the reduced cost of an arc with two
-- ends are those of Ahuja, Magnanti and Orlin, Network Flows, chapter 15; arcs with one end are this project's own.
use Rattle.std.specs.Prelude.{◌≡◌, ◌≢◌, ℕ, ◌<◌, ◌==◌, not, if◌then◌else◌, Bool, true, false, ⊤, Result, Ok}
use Rattle.std.proofs.Props.{props}
use Rattle.np_frac.specs.Ratio.{Ratio, zero_ratio, one_ratio, negated, ◌≤ᵣ◌, ◌<ᵣ◌, ≤ᵣ-prop, <ᵣ-prop, ◌-ᵣ◌, ◌+ᵣ◌, ◌*ᵣ◌, is_below}
use Rattle.np_frac.specs.Exact.{plus_of, minus_of, times_of, ◌▷◌}
use Rattle.np_frac.specs.declared.frac.Past.{Past}
use Rattle.np_model.specs.declared.arc.Ends.{Ends}
use Rattle.np_model.specs.declared.arc.Ends.TheVariants.{Link, Drain, Feed}
use Rattle.np_model.specs.declared.arc.Upper.{Upper}
use Rattle.np_model.specs.declared.arc.Upper.TheVariants.{Finite, Infinite}
use Rattle.np_model.specs.declared.arc.NetArc.{NetArc}

-- ---- ends

-- the incidence coefficient: what leaves the node for each unit that enters the arc
abbrev pub coefficient : Ends → ℕ → Ratio
coefficient (Link from to gain) v = if v == from then one_ratio else (if v == to then negated gain else zero_ratio)
coefficient (Drain at) v = if v == at then one_ratio else zero_ratio
coefficient (Feed at) v = if v == at then negated one_ratio else zero_ratio

-- the node where the arc begins, and the one where it ends; an arc with one end has but one
abbrev pub tail_of : Ends → ℕ
tail_of (Link from to gain) = from
tail_of (Drain at) = at
tail_of (Feed at) = at

abbrev pub head_of : Ends → ℕ
head_of (Link from to gain) = to
head_of (Drain at) = at
head_of (Feed at) = at

-- the ends are nodes below n, and those of a link two of them
abbrev pub AreNodes : ℕ → Ends → Type 0
AreNodes n (Link from to gain) = (from < n) × (to < n) × (from ≢ to)
AreNodes n (Drain at) = at < n
AreNodes n (Feed at) = at < n

-- the gain of a link is above 0
abbrev pub IsGaining : Ends → Type 0
IsGaining (Link from to gain) = zero_ratio <ᵣ gain
IsGaining (Drain at) = ⊤
IsGaining (Feed at) = ⊤

-- ---- reduced costs

-- the reduced cost of an arc with this cost, by the potentials at its tail and at its head; an arc with one end has the first alone
abbrev pub reduced_cost : Ends → Ratio → Ratio → Ratio → Ratio
reduced_cost (Link from to gain) cost first second = (cost -ᵣ first) +ᵣ gain *ᵣ second
reduced_cost (Drain at) cost first second = cost -ᵣ first
reduced_cost (Feed at) cost first second = cost +ᵣ first

-- its operations in order: of a link the product, the difference, the sum
abbrev pub reduced_cost_of : Ends → Ratio → Ratio → Ratio → Result Ratio Past
reduced_cost_of (Link from to gain) cost first second =
    times_of gain second ▷ λ product. minus_of cost first ▷ λ difference. plus_of difference product
reduced_cost_of (Drain at) cost first second = minus_of cost first
reduced_cost_of (Feed at) cost first second = plus_of cost first

-- what the operations find is the reduced cost
abbrev pub ReducedExactly : Type 0
ReducedExactly = (ends : Ends) (cost first second r : Ratio) → reduced_cost_of ends cost first second ≡ Ok r → r ≡ reduced_cost ends cost first second

-- ---- bounds

-- there is a bound
abbrev pub IsFinite : Upper → Type 0
IsFinite (Finite u) = ⊤
IsFinite Infinite = ⊥

abbrev pub is_finite : Upper → Bool
is_finite (Finite u) = true
is_finite Infinite = false

-- the bound, where there is one
abbrev pub bound_of : Upper → Ratio
bound_of (Finite u) = u
bound_of Infinite = zero_ratio

-- the amount is no more than the bound
abbrev pub IsAtMost : Ratio → Upper → Type 0
IsAtMost amount (Finite u) = amount ≤ᵣ u
IsAtMost amount Infinite = ⊤

abbrev pub is_at_most : Ratio → Upper → Bool
is_at_most amount (Finite u) = not (is_below u amount)
is_at_most amount Infinite = true

-- the amount is less than the bound
abbrev pub IsUnder : Ratio → Upper → Type 0
IsUnder x (Finite u) = x <ᵣ u
IsUnder x Infinite = ⊤

abbrev pub is_under : Ratio → Upper → Bool
is_under x (Finite u) = is_below x u
is_under x Infinite = true

-- the amount is the bound
abbrev pub IsFull : Ratio → Upper → Type 0
IsFull amount (Finite u) = amount ≡ u
IsFull amount Infinite = ⊥

-- the lesser of an amount and a bound
abbrev pub lesser : Ratio → Upper → Ratio
lesser x Infinite = x
lesser x (Finite u) = if is_below u x then u else x

-- the amount keeps the arc's bounds
abbrev pub IsWithin : NetArc → Ratio → Type 0
IsWithin a amount = (a.lower ≤ᵣ amount) × IsAtMost amount a.upper

-- ---- each of these facts has one proof at most

pub AreNodes-prop : (n : ℕ) (ends : Ends) → IsProp (AreNodes n ends)
AreNodes-prop n (Link from to gain) = hlevel props
AreNodes-prop n (Drain at) = hlevel props
AreNodes-prop n (Feed at) = hlevel props

pub IsGaining-prop : (ends : Ends) → IsProp (IsGaining ends)
IsGaining-prop (Link from to gain) = <ᵣ-prop zero_ratio gain
IsGaining-prop (Drain at) = hlevel props
IsGaining-prop (Feed at) = hlevel props

pub IsAtMost-prop : (x : Ratio) (u : Upper) → IsProp (IsAtMost x u)
IsAtMost-prop x (Finite u) = ≤ᵣ-prop x u
IsAtMost-prop x Infinite = hlevel props

pub IsUnder-prop : (x : Ratio) (u : Upper) → IsProp (IsUnder x u)
IsUnder-prop x (Finite u) = <ᵣ-prop x u
IsUnder-prop x Infinite = hlevel props
