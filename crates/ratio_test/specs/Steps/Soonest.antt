-- The arc that stops first, among those that have been looked at.
use Rattle.std.specs.Prelude.{◌≡◌, ◌≢◌, ◌⊎◌, ℕ, ◌≤◌, ◌==◌, ◌&&◌, ◌||◌, not, Bool, if◌then◌else◌, List, Option, Some, None, Result, Ok}
use Rattle.gain_graphs.specs.Arcs.{IsIn}
use Rattle.np_frac.specs.Ratio.{Ratio, is_below, ◌≤ᵣ◌}
use Rattle.np_frac.specs.declared.frac.Past.{Past}
use Rattle.ratio_test.specs.declared.answer.RatioAnswer.{RatioAnswer}
use Rattle.ratio_test.specs.declared.answer.RatioAnswer.TheVariants.{Flip, Leave, Ray}
use Rattle.ratio_test.specs.declared.stop.Stop.{Stop}
use Rattle.ratio_test.specs.Limits.{bound_ahead}

-- an arc stops before one that follows it: at a lesser step, or at the same one where the other is not the entering arc
abbrev pub is_sooner : ℕ → Stop → Stop → Bool
is_sooner enter best other = is_below best.step other.step || (not (is_below other.step best.step) && not (other.arc == enter))

-- the one that stops first, when another arc has been looked at
abbrev pub soonest : ℕ → Option Stop → Stop → Stop
soonest enter None other = other
soonest enter (Some best) other = if is_sooner enter best other then best else other

-- where the limit of an arc with this amount is known
abbrev pub with_limit : ℕ → Option Stop → ℕ × Ratio → Option Ratio → Option Stop
with_limit enter best step None = best
with_limit enter best step (Some t) = Some (soonest enter best (record { arc = step.0; bound = bound_ahead step.1; step = t }))

-- the arc among these that stops first, by the limit of each and its amount of the direction
pub record IsSoonest (limit : ℕ → Result (Option Ratio) Past) (d : ℕ → Ratio) (enter : ℕ) (numbers : List ℕ) (stop : Stop) : Type 0 where
  pub stands : IsIn stop.arc numbers
  pub limited : limit stop.arc ≡ Ok (Some stop.step)
  pub bound : stop.bound ≡ bound_ahead (d stop.arc)
  pub none_sooner : (a : ℕ) (t : Ratio) → IsIn a numbers → limit a ≡ Ok (Some t) → stop.step ≤ᵣ t
  pub first : (a : ℕ) → IsIn a numbers → limit a ≡ Ok (Some stop.step) → (stop.arc ≡ enter) ⊎ ((a ≢ enter) × (stop.arc ≤ a))

abbrev pub IsSoonestOf : (ℕ → Result (Option Ratio) Past) → (ℕ → Ratio) → ℕ → List ℕ → Option Stop → Type 0
IsSoonestOf limit d enter numbers None = (a : ℕ) → IsIn a numbers → limit a ≡ Ok None
IsSoonestOf limit d enter numbers (Some stop) = IsSoonest limit d enter numbers stop

-- what the arc that stops first makes the answer
abbrev pub answer_of : ℕ → Option Stop → RatioAnswer
answer_of enter None = Ray
answer_of enter (Some stop) = if stop.arc == enter then Flip stop.step else Leave stop.arc stop.bound stop.step
