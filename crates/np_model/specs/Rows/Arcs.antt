-- Rows that go over arcs in ascending number: the residual of a node (A1), how far a direction can be followed (A5), and the new flows (A6).
-- (This project's own.)
use Rattle.std.specs.Prelude.{ℕ, ◌==◌, if◌then◌else◌, List, [], ◌∷◌, Option, Some, None, Result, Ok}
use Rattle.std.specs.List.{fold}
use Rattle.np_frac.specs.Ratio.{Ratio, zero_ratio, negated, is_below}
use Rattle.np_frac.specs.Exact.{plus_of, minus_of, times_of, over_of, ◌▷◌}
use Rattle.np_frac.specs.declared.frac.Past.{Past}
use Rattle.np_model.specs.declared.arc.Ends.{Ends}
use Rattle.np_model.specs.declared.arc.Ends.TheVariants.{Link, Drain, Feed}
use Rattle.np_model.specs.declared.arc.Upper.{Upper}
use Rattle.np_model.specs.declared.arc.Upper.TheVariants.{Finite, Infinite}
use Rattle.np_model.specs.declared.arc.NetArc.{NetArc}

-- ---- A1

-- a running residual, less what an amount on an arc with these ends takes from the node
abbrev pub less_amount : Ends → Ratio → ℕ → Ratio → Result Ratio Past
less_amount (Link from to gain) amount v running =
    if v == from then minus_of running amount else (if v == to then (times_of gain amount ▷ plus_of running) else Ok running)
less_amount (Drain at) amount v running = if v == at then minus_of running amount else Ok running
less_amount (Feed at) amount v running = if v == at then plus_of running amount else Ok running

-- the residual of a node, from its supply and the arcs in order, each at its lower bound
abbrev pub residual_of : List NetArc → ℕ → Ratio → Result Ratio Past
residual_of arcs v supply = fold (λ running a. running ▷ less_amount a.ends a.lower v) (Ok supply) arcs

-- ---- A5 and A6

-- what is found for each number in order, or the first operation that overflows
abbrev pub all_of : {A : Type 0} → (ℕ → Result A Past) → List ℕ → Result (List A) Past
all_of f [] = Ok []
all_of f (a ∷ numbers) = f a ▷ λ x. all_of f numbers ▷ λ xs. Ok (x ∷ xs)

-- how far a flow can go up at the rate d until it is at the bound, where there is one
abbrev pub limit_up : Upper → Ratio → Ratio → Result (Option Ratio) Past
limit_up (Finite bound) flow d = minus_of bound flow ▷ λ room. over_of room d ▷ λ step. Ok (Some step)
limit_up Infinite flow d = Ok None

-- how far the flow of an arc can go along its direction
abbrev pub limit_of : NetArc → Ratio → Ratio → Result (Option Ratio) Past
limit_of a flow d =
    if is_below zero_ratio d then limit_up a.upper flow d else (
    if is_below d zero_ratio then (minus_of flow a.lower ▷ λ room. over_of room (negated d) ▷ λ step. Ok (Some step)) else Ok None)

-- the flow after a step along the direction
abbrev pub flow_after : Ratio → Ratio → Ratio → Result Ratio Past
flow_after step flow d = times_of step d ▷ plus_of flow
