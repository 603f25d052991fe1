-- Parts of the walk as the code's functions compute them: clauses of values that are known, and segments one by one.
use Rattle.std.specs.Prelude.{ℕ, not, ◌&&◌, Bool, if◌then◌else◌, Option, Some, None, Result, Ok, IsOk, List}
use Rattle.np_frac.specs.Ratio.{Ratio, zero_ratio, is_below}
use Rattle.np_frac.specs.Order.{ratio_eq}
use Rattle.np_frac.specs.Exact.{plus_of, minus_of, times_of, ◌▷◌}
use Rattle.np_frac.specs.declared.frac.Past.{Past}
use Rattle.np_model.specs.declared.arc.Upper.{Upper}
use Rattle.np_model.specs.declared.arc.Upper.TheVariants.{Finite, Infinite}
use Rattle.np_model.specs.declared.rows.CheckRow.{CheckRow}
use Rattle.np_model.specs.declared.scheme.Band.{Band}
use Rattle.np_model.specs.Scheme.Segments.{Stage, Segment as TheSegment, end_after}
use Rattle.np_model.specs.Network.Arcs.{lesser, is_at_most, is_under}
use Rattle.cert_checker.specs.Walk.{tested, refused_if, reject_node, band_end, end_of, left_test, right_test}
use Rattle.cert_checker.specs.declared.answer.Clause.{Clause}
use Rattle.cert_checker.specs.declared.answer.CheckRefusal.{CheckRefusal}
use Rattle.cert_checker.specs.declared.segment.Segment.{Segment}
use Rattle.cert_checker.specs.declared.reduced.Side.{Side}
use Rattle.cert_checker.specs.declared.reduced.Side.TheVariants.{Left, Right}

-- the clause of balance at a node whose sum is known
abbrev pub sum_clause : CheckRow → Clause → ℕ → ℕ × (Ratio × Result Ratio Past) → Option CheckRefusal
sum_clause row clause k (v, (wanted, sum)) = tested row sum (λ found. refused_if (not (ratio_eq found wanted)) (reject_node clause k v))

-- the end of a band of this width beyond an end
abbrev pub end_beyond : Upper → Upper → Result Upper Past
end_beyond Infinite width = Ok Infinite
end_beyond (Finite end) width = band_end end width

-- the segment that a band adds beyond an end
abbrev pub segment_beyond : Upper → Band → Option TheSegment
segment_beyond Infinite band = None
segment_beyond (Finite end) band = Some (record { start = end; end = end_after end band.width; slope = band.slope })

abbrev pub as_segment : Segment → TheSegment
as_segment g = record { start = g.start; end = g.end; slope = g.slope }

-- the segment is the one on this side of the amount
abbrev pub is_beside : Side → Ratio → TheSegment → Bool
is_beside Left x g = is_below g.start x && is_at_most x g.end
is_beside Right x g = not (is_below x g.start) && is_under x g.end

-- the sign that a reduced cost may not have on this side
abbrev pub has_wrong_sign : Side → Ratio → Bool
has_wrong_sign Left r = is_below zero_ratio r
has_wrong_sign Right r = is_below r zero_ratio

abbrev pub side_test : Side → List Ratio → Stage → Ratio → TheSegment → Option CheckRefusal
side_test Left p s x g = left_test p s x g
side_test Right p s x g = right_test p s x g

-- the running cost with what the amount costs in a segment beyond the first
abbrev pub add_segment : Ratio → TheSegment → Ratio → Result Ratio Past
add_segment x g running =
    if is_below g.start x then (minus_of (lesser x g.end) g.start ▷ λ part. times_of g.slope part ▷ λ cost. plus_of running cost) else Ok running

abbrev pub map_segment : Option Segment → Option TheSegment
map_segment None = None
map_segment (Some g) = Some (as_segment g)

-- no end of a segment overflows
abbrev pub EndsFit : Stage → Type 0
EndsFit s = IsOk (end_of s.upper s.bands)
