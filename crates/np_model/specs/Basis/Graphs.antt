-- The arcs of a network as those of a gain graph over the ratios: what joins nodes, what a quasi-tree is and what a forest, the crate of gain
-- graphs says over any field.
use Rattle.std.specs.Prelude.{ℕ, List, slice_index_or}
use Rattle.gain_graphs.specs.Field.{Field}
use Rattle.gain_graphs.specs.Arcs as graph
use Rattle.np_frac.specs.Ratio.{Ratio, zero_ratio, one_ratio, negated, inverse, ◌+ᵣ◌, ◌*ᵣ◌}
use Rattle.np_frac.proofs.RatioLaws.{+ᵣ_assoc, +ᵣ_comm, +ᵣ-zero, *ᵣ_assoc, *ᵣ_comm, *ᵣ-+ᵣ}
use Rattle.np_frac.proofs.Field.{+ᵣ-negated, *ᵣ-one, one-zero, *ᵣ-inverse, same_or}
use Rattle.np_model.specs.declared.arc.Ends.{Ends}
use Rattle.np_model.specs.declared.arc.Ends.TheVariants.{Link, Drain, Feed}
use Rattle.np_model.specs.declared.arc.Upper.TheVariants.{Infinite}
use Rattle.np_model.specs.declared.arc.NetArc.{NetArc}

-- the ratios are a field
abbrev pub ratios : Field Ratio
ratios = record {
  zero = zero_ratio;
  one = one_ratio;
  ◌⊕◌ = ◌+ᵣ◌;
  ◌⊗◌ = ◌*ᵣ◌;
  negated = negated;
  inverse = inverse;
  plus_assoc = +ᵣ_assoc;
  plus_comm = +ᵣ_comm;
  plus_zero = +ᵣ-zero;
  plus_negated = +ᵣ-negated;
  times_assoc = *ᵣ_assoc;
  times_comm = *ᵣ_comm;
  times_one = *ᵣ-one;
  times_plus = *ᵣ-+ᵣ;
  times_inverse = *ᵣ-inverse;
  one_is_not_zero = one-zero;
  decide = same_or;
}

-- the ends of an arc, in a gain graph
abbrev pub graph_ends : Ends → graph.Ends Ratio
graph_ends (Link from to gain) = graph.Link from to gain
graph_ends (Drain at) = graph.Drain at
graph_ends (Feed at) = graph.Feed at

-- the ends of the arc with a number, in a gain graph
abbrev pub graph_of : (ℕ → Ends) → ℕ → graph.Ends Ratio
graph_of ends a = graph_ends (ends a)

-- the arc with a number, and an arc that is none where there is none
abbrev pub no_arc : NetArc
no_arc = record { ends = Drain 0; lower = zero_ratio; upper = Infinite; cost = zero_ratio }

abbrev pub arc_at : List NetArc → ℕ → NetArc
arc_at arcs a = slice_index_or arcs a no_arc

abbrev pub ends_at : List NetArc → ℕ → Ends
ends_at arcs a = (arc_at arcs a).ends

abbrev pub cost_at : List NetArc → ℕ → Ratio
cost_at arcs a = (arc_at arcs a).cost
