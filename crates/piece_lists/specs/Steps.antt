-- Steps of the code: arcs one by one.
use Rattle.std.specs.Prelude.{◌≡◌, ◌≢◌, ◌<◌, ℕ, List, Option, Some, None, length, slice_index_or}
use Rattle.std.specs.Result.{IsOk}
use Rattle.std.specs.List.{AllZip}
use Rattle.np_frac.specs.Ratio.{Ratio}
use Rattle.np_model.specs.declared.arc.Ends.{Ends}
use Rattle.piece_lists.specs.Flowing.{IsMoved, AreFlowsOf}
use Rattle.np_model.specs.Rows.Moving.{new_flows}

-- each of the arcs after the step, in order, with no operation that overflows
pub record AreMoved (arcs : List (ℕ × Ends × Ratio)) (steps : List (ℕ × Ratio)) (t : Ratio) (after : List (ℕ × Ends × Ratio)) : Type 0 where
  pub each : AllZip (IsMoved steps t) arcs after
  pub fit : (flow : ℕ → Ratio) → AreFlowsOf flow arcs → IsOk (new_flows steps t flow)

-- the step at this place is an amount on the arc, or is on another one, or there is none
abbrev pub IsAmountAt : List (ℕ × Ratio) → ℕ → ℕ → Option Ratio → Type 0
IsAmountAt steps place arc (Some amount) = (place < length steps) × ((arc, amount) ≡ slice_index_or steps place (arc, amount))
IsAmountAt steps place arc None = (s : ℕ × Ratio) → place < length steps → s ≡ slice_index_or steps place s → s.0 ≢ arc
