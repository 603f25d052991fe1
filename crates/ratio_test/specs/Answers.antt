-- What the ratio test answers. The ratio test is that of Ahuja, Magnanti and Orlin, Network Flows, chapters 11 and 15; the least number
-- among the arcs that stop the flows is this project's own.
use Rattle.std.specs.Prelude.{◌≡◌, ◌≢◌, ◌⊎◌, ℕ, ◌≤◌, List, ◌∷◌}
use Rattle.std.specs.Result.{IsOk}
use Rattle.gain_graphs.specs.Arcs.{IsIn}
use Rattle.np_frac.specs.Ratio.{Ratio, zero_ratio, ◌≤ᵣ◌}
use Rattle.np_model.specs.declared.log.Mark.{Mark}
use Rattle.np_model.specs.declared.piece.Direction.{Direction}
use Rattle.np_model.specs.Network.Flows.{Network}
use Rattle.np_model.specs.Basis.Moves.{KeepsBounds, Stops}
use Rattle.np_model.specs.Basis.Pieces.{PieceLists, basics_of, beside}
use Rattle.np_model.specs.Basis.Sound.{values_in}
use Rattle.np_model.specs.Basis.States.{Values}
use Rattle.ratio_test.specs.declared.answer.RatioAnswer.{RatioAnswer}
use Rattle.ratio_test.specs.declared.answer.RatioAnswer.TheVariants.{Flip, Leave, Ray}
use Rattle.ratio_test.specs.Asked.{far_bound}
use Rattle.np_model.specs.Rows.Moving.{limits_of}
use Rattle.np_model.specs.Basis.Attempts.{IsUnbounded}

-- the greatest step along d at which the flows of these arcs keep their bounds, and the arc that stops them there: the entering one where it
-- does, else the one with the least number among those that do
pub record IsGreatest (net : Network) (s : Values) (numbers : List ℕ) (enter : ℕ) (d : ℕ → Ratio) (t : Ratio) (leave : ℕ) (leave_at : Mark) : Type 0 where
  pub within : KeepsBounds net s numbers d t
  pub greatest : (z : Ratio) → KeepsBounds net s numbers d z → z ≤ᵣ t
  pub leaves : IsIn leave numbers
  pub stops : Stops net s d t leave leave_at
  pub first : (a : ℕ) (bound : Mark) → IsIn a numbers → Stops net s d t a bound → (leave ≡ enter) ⊎ ((a ≢ enter) × (leave ≤ a))

-- the ratio test over the entering arc and the basic arcs of the pieces
abbrev pub IsRatio : Network → List PieceLists → Direction → RatioAnswer → Type 0
IsRatio net pieces direction (Flip step) =
    IsGreatest net (values_in net pieces) (direction.enter ∷ basics_of pieces) direction.enter (beside zero_ratio direction.steps) step direction.enter (far_bound direction.up)
IsRatio net pieces direction (Leave arc leave_at step) = (arc ≢ direction.enter)
    × IsGreatest net (values_in net pieces) (direction.enter ∷ basics_of pieces) direction.enter (beside zero_ratio direction.steps) step arc leave_at
IsRatio net pieces direction Ray = IsUnbounded net (values_in net pieces) (direction.enter ∷ basics_of pieces) (beside zero_ratio direction.steps)

-- no operation of row A5 overflows, and this is the answer
pub record IsAnswer (net : Network) (pieces : List PieceLists) (direction : Direction) (answer : RatioAnswer) : Type 0 where
  pub ratio : IsRatio net pieces direction answer
  pub fits : IsOk (limits_of net (values_in net pieces).flow direction.steps)
