-- Row A5: how far the flows of the arcs can go along a direction.
use Rattle.std.specs.Prelude.{◌≡◌, if◌then◌else◌, Option, Some, None}
use Rattle.np_frac.specs.Ratio.{Ratio, zero_ratio, is_below, ◌≤ᵣ◌, ◌+ᵣ◌, ◌*ᵣ◌}
use Rattle.np_model.specs.declared.arc.NetArc.{NetArc}
use Rattle.np_model.specs.declared.log.Mark.{Mark}
use Rattle.np_model.specs.declared.log.Mark.TheVariants.{Lower, Upper}
use Rattle.np_model.specs.Network.Arcs.{IsWithin}
use Rattle.np_model.specs.Basis.Moves.{IsTowards}
use Rattle.np_model.specs.Basis.States.{StandsAt}

-- the bound towards which a flow goes
abbrev pub bound_ahead : Ratio → Mark
bound_ahead d = if is_below zero_ratio d then Upper else Lower

-- ---- of one arc

-- no step along d leads the flow of the arc out of its bounds, or to rest at one
pub record IsFree (arc : NetArc) (flow d : Ratio) : Type 0 where
  pub keeps : (z : Ratio) → zero_ratio ≤ᵣ z → IsWithin arc (flow +ᵣ z *ᵣ d)
  pub none_rests : (z : Ratio) (bound : Mark) → IsTowards d bound → ¬ StandsAt arc bound (flow +ᵣ z *ᵣ d)

-- the flow of the arc keeps its bounds up to the step t along d, and with that comes to rest at the bound ahead
pub record IsLimited (arc : NetArc) (flow d t : Ratio) : Type 0 where
  pub not_negative : zero_ratio ≤ᵣ t
  pub up_to : (z : Ratio) → zero_ratio ≤ᵣ z → z ≤ᵣ t → IsWithin arc (flow +ᵣ z *ᵣ d)
  pub no_further : (z : Ratio) → IsWithin arc (flow +ᵣ z *ᵣ d) → z ≤ᵣ t
  pub towards : IsTowards d (bound_ahead d)
  pub rests : StandsAt arc (bound_ahead d) (flow +ᵣ t *ᵣ d)
  pub only : (z : Ratio) (bound : Mark) → IsTowards d bound → StandsAt arc bound (flow +ᵣ z *ᵣ d) → z ≡ t

abbrev pub IsLimit : NetArc → Ratio → Ratio → Option Ratio → Type 0
IsLimit arc flow d None = IsFree arc flow d
IsLimit arc flow d (Some t) = IsLimited arc flow d t
