-- Rows A5 and A6 over the arcs of a direction: how far their flows can go, and the flows after a step. (The order of the operations is this
-- project's own.)
use Rattle.std.specs.Prelude.{ℕ, List, map, Option, Result}
use Rattle.np_frac.specs.Ratio.{Ratio, zero_ratio}
use Rattle.np_frac.specs.declared.frac.Past.{Past}
use Rattle.np_model.specs.Network.Flows.{Network}
use Rattle.np_model.specs.Basis.Graphs.{arc_at}
use Rattle.np_model.specs.Basis.Pieces.{beside}
use Rattle.np_model.specs.Rows.Arcs.{all_of, limit_of, flow_after}

-- the numbers of the arcs that have a step, in their order
abbrev pub numbers_of_steps : List (ℕ × Ratio) → List ℕ
numbers_of_steps steps = map (λ s. s.0) steps

-- row A5: how far the flow of each of these arcs can go, in their order, or the first operation that overflows
abbrev pub limits_of : Network → (ℕ → Ratio) → List (ℕ × Ratio) → Result (List (Option Ratio)) Past
limits_of net flow steps = all_of (λ a. limit_of (arc_at net.arcs a) (flow a) (beside zero_ratio steps a)) (numbers_of_steps steps)

-- row A6: the new flows of the arcs that move, in ascending number, or the first operation that overflows
abbrev pub new_flows : List (ℕ × Ratio) → Ratio → (ℕ → Ratio) → Result (List Ratio) Past
new_flows steps t flow = all_of (λ a. flow_after t (flow a) (beside zero_ratio steps a)) (numbers_of_steps steps)
