-- A convex cost as parallel arcs, one for each segment. (This project's own; the idea is that of chapter 14 of Ahuja, Magnanti and
-- Orlin, Network Flows.)
use Rattle.std.specs.Prelude.{◌≡◌, ℕ, ◌+◌, Some, List, ◌∷◌, length, take, map, sum_by}
use Rattle.std.specs.List.{slice_get, flat_map}
use Rattle.np_frac.specs.Ratio.{zero_ratio}
use Rattle.np_model.specs.declared.arc.Ends.{Ends}
use Rattle.np_model.specs.declared.arc.NetArc.{NetArc}
use Rattle.np_model.specs.declared.scheme.Band.{Band}
use Rattle.np_model.specs.Scheme.Segments.{Stage}
use Rattle.period_expand.specs.Expansion.{segment_count}

-- the first segment has the bounds and the cost of its stage
abbrev pub first_arc : Stage → NetArc
first_arc s = record { ends = s.ends; lower = s.lower; upper = s.upper; cost = s.cost }

-- that of a band goes from 0 to its width, at its slope
abbrev pub band_arc : Ends → Band → NetArc
band_arc ends band = record { ends = ends; lower = zero_ratio; upper = band.width; cost = band.slope }

-- the segments of a stage
abbrev pub segment_arcs : Stage → List NetArc
segment_arcs s = first_arc s ∷ map (band_arc s.ends) s.bands

-- those of all stages in order
abbrev pub flat_arcs : List Stage → List NetArc
flat_arcs stages = flat_map segment_arcs stages

-- ---- where each stands

-- before the segments of a stage stand those of the stages before it
abbrev pub segments_before : List Stage → ℕ → ℕ
segments_before stages number = sum_by segment_count (take number stages)

abbrev pub SegmentsStandInOrder : Type 0
SegmentsStandInOrder =
    (stages : List Stage) (number segment : ℕ) (s : Stage) (a : NetArc) → slice_get stages number ≡ Some s → slice_get (segment_arcs s) segment ≡ Some a →
    slice_get (flat_arcs stages) (segments_before stages number + segment) ≡ Some a

-- and there are no others
abbrev pub HasNoOtherSegments : Type 0
HasNoOtherSegments = (stages : List Stage) → length (flat_arcs stages) ≡ segments_before stages (length stages)
