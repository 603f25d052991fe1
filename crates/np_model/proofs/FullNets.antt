-- The arcs of a full network in a phase, by their numbers.
use Rattle.std.specs.Prelude.{◌≡◌, ℕ, ◌+◌, ◌-◌, ◌<◌, ◌≤◌, List, length, map, slice_index_or}
use Rattle.std.proofs.Common.{ap, ◌∙◌, arith}
use Rattle.std.proofs.lemmas.List.{get_or_append_left, get_or-append_right, get_or-map, length-map}
use Rattle.np_frac.specs.Ratio.{zero_ratio}
use Rattle.np_model.specs.declared.arc.Ends.{Ends}
use Rattle.np_model.specs.declared.arc.Ends.TheVariants.{Drain}
use Rattle.np_model.specs.declared.arc.NetArc.{NetArc}
use Rattle.np_model.specs.declared.phase.Phase.{Phase}
use Rattle.np_model.specs.declared.phase.Phase.TheVariants.{One, Two}
use Rattle.np_model.specs.Basis.Graphs.{no_arc, arc_at}
use Rattle.np_model.specs.Basis.Phases.{real_arc, artificial_arc, phase_arcs}

-- the real arcs come first
pub real_at : (phase : Phase) (arcs : List NetArc) (artificial : List Ends) (a : ℕ) → a < length arcs
    → arc_at (phase_arcs phase arcs artificial) a ≡ real_arc phase (arc_at arcs a)
real_at phase arcs artificial a below =
    get_or_append_left (map (real_arc phase) arcs) (map (artificial_arc phase) artificial) no_arc a (omega (arith, length-map arcs (real_arc phase)))
    ∙ get_or-map (real_arc phase) arcs a no_arc no_arc below

-- and then the artificial ones
pub artificial_at : (phase : Phase) (arcs : List NetArc) (artificial : List Ends) (a : ℕ) → length arcs ≤ a → a < length arcs + length artificial
    → arc_at (phase_arcs phase arcs artificial) a ≡ artificial_arc phase (slice_index_or artificial (a - length arcs) (Drain 0))
artificial_at phase arcs artificial a above below =
    get_or-append_right (map (real_arc phase) arcs) (map (artificial_arc phase) artificial) (length arcs) a no_arc (length-map arcs (real_arc phase)) above
    ∙ get_or-map (artificial_arc phase) artificial (a - length arcs) (Drain 0) no_arc (omega arith)

-- in either phase a real arc has its own ends and lower bound, and an artificial one the lower bound 0
pub real_lower : (phase : Phase) (arcs : List NetArc) (artificial : List Ends) (a : ℕ) → a < length arcs
    → (arc_at (phase_arcs phase arcs artificial) a).lower ≡ (arc_at arcs a).lower
real_lower One arcs artificial a below = ap (λ t. t.lower) (real_at One arcs artificial a below)
real_lower Two arcs artificial a below = ap (λ t. t.lower) (real_at Two arcs artificial a below)

pub artificial_lower : (phase : Phase) (arcs : List NetArc) (artificial : List Ends) (a : ℕ) → length arcs ≤ a
    → a < length arcs + length artificial → (arc_at (phase_arcs phase arcs artificial) a).lower ≡ zero_ratio
artificial_lower One arcs artificial a above below = ap (λ t. t.lower) (artificial_at One arcs artificial a above below)
artificial_lower Two arcs artificial a above below = ap (λ t. t.lower) (artificial_at Two arcs artificial a above below)

pub real_upper : (phase : Phase) (arcs : List NetArc) (artificial : List Ends) (a : ℕ) → a < length arcs
    → (arc_at (phase_arcs phase arcs artificial) a).upper ≡ (arc_at arcs a).upper
real_upper One arcs artificial a below = ap (λ t. t.upper) (real_at One arcs artificial a below)
real_upper Two arcs artificial a below = ap (λ t. t.upper) (real_at Two arcs artificial a below)
