-- Staged arcs, whose cost is convex: linear on each of their segments, with slopes that do not fall. (This project's own;
-- a convex cost as parallel arcs is chapter 14 of Ahuja, Magnanti and Orlin, Network Flows.)
use Rattle.std.specs.Prelude.{ℕ, if◌then◌else◌, ⊤, List, [], ◌∷◌}
use Rattle.std.proofs.Props.{props}
use Rattle.np_frac.specs.Ratio.{Ratio, zero_ratio, ◌≤ᵣ◌, ≤ᵣ-prop, ◌-ᵣ◌, ◌+ᵣ◌, ◌*ᵣ◌, total, is_below}
use Rattle.np_model.specs.declared.arc.Ends.{Ends}
use Rattle.np_model.specs.declared.arc.Upper.{Upper}
use Rattle.np_model.specs.declared.arc.Upper.TheVariants.{Finite, Infinite}
use Rattle.np_model.specs.declared.arc.NetArc.{NetArc}
use Rattle.np_model.specs.declared.scheme.Band.{Band}
use Rattle.np_model.specs.Network.Arcs.{IsAtMost, IsUnder, IsUnder-prop, lesser}

-- a flow in one period: their numbers, the ends there, the bounds and the cost of the first segment, and the bands beyond it
pub record Stage : Type 0 where
  pub flow : ℕ
  pub period : ℕ
  pub ends : Ends
  pub lower : Ratio
  pub upper : Upper
  pub cost : Ratio
  pub bands : List Band

-- the amounts from start to end, where a unit costs the slope
pub record Segment : Type 0 where
  pub start : Ratio
  pub end : Upper
  pub slope : Ratio

-- the end of an amount of this width that begins here
abbrev pub end_after : Ratio → Upper → Upper
end_after start (Finite width) = Finite (start +ᵣ width)
end_after start Infinite = Infinite

-- the segments that bands add beyond an end
abbrev pub segments_beyond : Upper → List Band → List Segment
segments_beyond end [] = []
segments_beyond Infinite (b ∷ bs) = []
segments_beyond (Finite end) (b ∷ bs) =
    record { start = end; end = end_after end b.width; slope = b.slope } ∷ segments_beyond (end_after end b.width) bs

-- the first segment from the lower to the upper bound, and one for each band
abbrev pub segments : Stage → List Segment
segments s = record { start = s.lower; end = s.upper; slope = s.cost } ∷ segments_beyond s.upper s.bands

-- the end of the last segment
abbrev pub last_end : Upper → List Band → Upper
last_end end [] = end
last_end Infinite (b ∷ bs) = Infinite
last_end (Finite end) (b ∷ bs) = last_end (end_after end b.width) bs

-- the slope of the last segment
abbrev pub last_slope : Ratio → List Band → Ratio
last_slope slope [] = slope
last_slope slope (b ∷ bs) = last_slope b.slope bs

-- what of the amount lies in a segment beyond the first
abbrev pub amount_in : Segment → Ratio → Ratio
amount_in g x = if is_below g.start x then lesser x g.end -ᵣ g.start else zero_ratio

-- what an amount costs: the cost up to the upper bound, and in each segment beyond it the slope
abbrev pub cost_at : Stage → Ratio → Ratio
cost_at s x = s.cost *ᵣ lesser x s.upper +ᵣ total (λ g. g.slope *ᵣ amount_in g x) (segments_beyond s.upper s.bands)

-- the stage as one arc, from its lower bound to its last end, with the slope of its last segment as cost
abbrev pub hull : Stage → NetArc
hull s = record { ends = s.ends; lower = s.lower; upper = last_end s.upper s.bands; cost = last_slope s.cost s.bands }

-- ---- valid stages

-- a band begins at a finite end alone
abbrev pub AreReached : Upper → List Band → Type 0
AreReached end [] = ⊤
AreReached Infinite (band ∷ bands) = ⊥
AreReached (Finite end) (band ∷ bands) = AreReached band.width bands

-- each band is wide, and its slope is no less than the one before it
abbrev pub IsConvexFrom : Ratio → List Band → Type 0
IsConvexFrom slope [] = ⊤
IsConvexFrom slope (b ∷ bs) = (slope ≤ᵣ b.slope) × IsUnder zero_ratio b.width × IsConvexFrom b.slope bs

-- its bounds are in order and its cost is convex
abbrev pub IsValid : Stage → Type 0
IsValid s = IsAtMost s.lower s.upper × IsConvexFrom s.cost s.bands

-- ---- each of these facts has one proof at most

pub AreReached-prop : (end : Upper) (bands : List Band) → IsProp (AreReached end bands)
AreReached-prop end [] = hlevel props
AreReached-prop Infinite (band ∷ bands) = hlevel props
AreReached-prop (Finite end) (band ∷ bands) = AreReached-prop band.width bands

pub IsConvexFrom-prop : (slope : Ratio) (bands : List Band) → IsProp (IsConvexFrom slope bands)
IsConvexFrom-prop slope [] = hlevel props
IsConvexFrom-prop slope (b ∷ bs) = hlevel (props, ≤ᵣ-prop, IsUnder-prop, IsConvexFrom-prop b.slope bs)
