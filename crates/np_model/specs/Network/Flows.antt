-- Flows of a network with gains: balance, cost, feasible and least flows. Flow balance is that of Ahuja, Magnanti and Orlin, Network
-- Flows, chapter 15.
use Rattle.std.specs.Prelude.{◌≡◌, ℕ, ◌<◌, length, slice_index_or, map, List}
use Rattle.std.specs.List.{All, zip}
use Rattle.np_frac.specs.Ratio.{Ratio, zero_ratio, ◌≤ᵣ◌, ◌+ᵣ◌, ◌*ᵣ◌, total}
use Rattle.np_model.specs.declared.arc.Ends.{Ends}
use Rattle.np_model.specs.declared.arc.NetArc.{NetArc}
use Rattle.np_model.specs.Network.Arcs.{coefficient, IsWithin}

-- the supply of each node, and the arcs; a list of amounts has one for each arc, a list of potentials one for each node
pub record Network : Type 0 where
  pub supply : List Ratio
  pub arcs : List NetArc

-- the entry of a list at a node
abbrev pub at : List Ratio → ℕ → Ratio
at xs v = slice_index_or xs v zero_ratio

-- what these amounts take out of a node, less what they bring there: each enters an arc with these ends
abbrev pub outflow : List (Ends × Ratio) → ℕ → Ratio
outflow pairs v = total (λ (ends, amount). coefficient ends v *ᵣ amount) pairs

-- the ends of each arc beside its amount
abbrev pub with_ends : List NetArc → List Ratio → List (Ends × Ratio)
with_ends arcs x = zip (map (λ a. a.ends) arcs) x

-- the balance of a node: outflow less gained inflow
abbrev pub balance : List NetArc → List Ratio → ℕ → Ratio
balance arcs x v = outflow (with_ends arcs x) v

-- the cost of the amounts
abbrev pub plan_cost : List NetArc → List Ratio → Ratio
plan_cost arcs x = total (λ (a, amount). a.cost *ᵣ amount) (zip arcs x)

-- a feasible plan: balanced at every node, and within bounds on every arc
pub record Feasible (net : Network) (x : List Ratio) : Type 0 where
  pub one_each : length x ≡ length net.arcs
  pub balanced : (v : ℕ) → v < length net.supply → balance net.arcs x v ≡ at net.supply v
  pub within : All (λ (a, amount). IsWithin a amount) (zip net.arcs x)

-- a least-cost plan: no feasible list of ratios, of whatever size, costs less
pub record Least (net : Network) (x : List Ratio) : Type 0 where
  pub feasible : Feasible net x
  pub least : (y : List Ratio) → Feasible net y → plan_cost net.arcs x ≤ᵣ plan_cost net.arcs y

-- an amount, moved by t along a direction
abbrev pub moved : Ratio → Ratio → Ratio → Ratio
moved x t d = x +ᵣ t *ᵣ d
