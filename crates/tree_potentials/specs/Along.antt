-- The operations of the rows of potentials along steps, one after the other. Nodes, basic arcs and their costs are named by their places.
use Rattle.std.specs.Prelude.{◌≡◌, ◌≢◌, ◌<◌, ◌-◌, ℕ, List, [], ◌∷◌, length, map, take, slice_index, slice_index_or, slice_set, Result, Ok, Err, pos, ⊤}
use Rattle.std.specs.List.{All}
use Rattle.np_frac.specs.Ratio.{Ratio, zero_ratio, one_ratio}
use Rattle.np_frac.specs.Fits.{Fits}
use Rattle.np_frac.specs.Exact.{minus_of, over_of, ◌▷◌}
use Rattle.np_frac.specs.declared.frac.Past.{Past}
use Rattle.np_model.specs.declared.arc.Ends.{Ends}
use Rattle.np_model.specs.declared.rows.Row.{Row}
use Rattle.np_model.specs.declared.rows.Row.TheVariants.{A3, A7}
use Rattle.np_model.specs.declared.rows.Place.TheVariants.{Turn}
use Rattle.np_model.specs.declared.rows.Overflow.{Overflow}
use Rattle.np_model.specs.Network.Flows.{at}
use Rattle.np_model.specs.Rows.Potentials.{across, scaled_across, end_potential}
use Rattle.tree_search.specs.declared.piece.Step.{Step}
use Rattle.tree_search.specs.declared.piece.Joint.{Joint}
use Rattle.tree_search.specs.declared.piece.ExtraArc.{ExtraArc}
use Rattle.tree_search.specs.declared.piece.ExtraArc.TheVariants as found
use Rattle.tree_search.specs.Places.{numbers_of_nodes, ends_by_place, loose, HasGain}

-- ---- what the operations need

-- what these arcs cost, by their numbers
abbrev pub costs_in : (ℕ → Ratio) → List (ℕ × Ends × Ratio) → List Ratio
costs_in cost basics = map (λ b. cost b.0) basics

-- each arc has a cost, and each link a gain
pub record AreWalkable (basics : List (ℕ × Ends × Ratio)) (costs : List Ratio) : Type 0 where
  pub one_each : length costs ≡ length basics
  pub gains : All (λ b. HasGain b.1) basics

-- the places of a step lie in the lists
abbrev pub IsWithin : List (ℕ × Ratio) → List (ℕ × Ends × Ratio) → Step → Type 0
IsWithin nodes basics s = (s.arc < length basics) × (s.near < length nodes) × (s.far < length nodes)

-- ---- overflows with their row

-- these operands overflow in this row, at the turn to stage two
abbrev pub overflow_at_turn : Row → Past → Overflow
overflow_at_turn row past = record { row = row; place = Turn; past = past }

-- the answer of a row
abbrev pub in_row : {A : Type 0} → Row → Result A Past → Result A Overflow
in_row row (Ok x) = Ok x
in_row row (Err past) = Err (overflow_at_turn row past)

-- go on with what was found, or stop at the first overflow
infixl 10 ◌▸◌
abbrev pub ◌▸◌ : {A B : Type 0} → Result A Overflow → (A → Result B Overflow) → Result B Overflow
(Ok x) ▸ f = f x
(Err overflow) ▸ f = Err overflow

-- ---- along steps

-- the product of the gains along the steps, times this one
abbrev pub product_of : List (ℕ × Ratio) → List (ℕ × Ends × Ratio) → List Step → Ratio → Result Ratio Past
product_of nodes basics [] product = Ok product
product_of nodes basics (s ∷ steps) product =
    scaled_across (ends_by_place basics s.arc) (slice_index (numbers_of_nodes nodes) s.near) product ▷ product_of nodes basics steps

-- the potential to which a step leads from this one
abbrev pub over_step : List (ℕ × Ratio) → List (ℕ × Ends × Ratio) → List Ratio → Step → Ratio → Result Ratio Past
over_step nodes basics costs s potential = across (ends_by_place basics s.arc) (at costs s.arc) (slice_index (numbers_of_nodes nodes) s.near) potential

-- the potential to which the steps lead from this one
abbrev pub potential_of : List (ℕ × Ratio) → List (ℕ × Ends × Ratio) → List Ratio → List Step → Ratio → Result Ratio Past
potential_of nodes basics costs [] potential = Ok potential
potential_of nodes basics costs (s ∷ steps) potential = over_step nodes basics costs s potential ▷ potential_of nodes basics costs steps

-- the potentials by place, each step writing that of its far node
abbrev pub spread : List (ℕ × Ratio) → List (ℕ × Ends × Ratio) → List Ratio → List Step → List Ratio → Result (List Ratio) Past
spread nodes basics costs [] values = Ok values
spread nodes basics costs (s ∷ steps) values =
    over_step nodes basics costs s (at values s.near) ▷ λ potential. spread nodes basics costs steps (slice_set values s.far potential)

-- ---- round a cycle

-- 1 less the product of the gains
abbrev pub divisor_of : List (ℕ × Ratio) → List (ℕ × Ends × Ratio) → List Step → Result Ratio Past
divisor_of nodes basics cycle = product_of nodes basics cycle one_ratio ▷ minus_of one_ratio

-- the potential of its first node
abbrev pub root_of : List (ℕ × Ratio) → List (ℕ × Ends × Ratio) → List Ratio → List Step → Result Ratio Overflow
root_of nodes basics costs cycle =
    in_row A3 (divisor_of nodes basics cycle) ▸ λ last. in_row A7 (potential_of nodes basics costs cycle zero_ratio ▷ λ sum. over_of sum last)

-- where there is no step
abbrev pub no_step : Step
no_step = record { arc = 0; near = 0; far = 0 }

abbrev pub first_place : List Step → ℕ
first_place cycle = (slice_index_or cycle 0 no_step).near

-- the steps but the last
abbrev pub but_last : List Step → List Step
but_last cycle = take (length cycle - 1) cycle

-- ---- off the extra arc

-- the walk off the extra arc can be made: its places lie in the lists, and the divisor of a cycle is not 0
abbrev pub CanWalkOff : List (ℕ × Ratio) → List (ℕ × Ends × Ratio) → List Joint → ExtraArc → Type 0
CanWalkOff nodes basics joints (found.OneEnd arc) = (arc < length basics) × (arc < length joints) × ((slice_index_or joints arc loose).from < length nodes)
CanWalkOff nodes basics joints (found.Round cycle) = (0 < length cycle.items) × All (λ s. IsWithin nodes basics s) cycle.items
    × ((last : Ratio) → divisor_of nodes basics cycle.items ≡ Ok last → last.num ≢ pos 0)

-- the potentials from the node of an arc with one end along these steps, written over those that stand there
abbrev pub walk_off_end : List (ℕ × Ratio) → List (ℕ × Ends × Ratio) → List Ratio → List Joint → ℕ → List Step → List Ratio → Result (List Ratio) Overflow
walk_off_end nodes basics costs joints arc steps values =
    in_row A7 (spread nodes basics costs steps (slice_set values (slice_index_or joints arc loose).from (end_potential (ends_by_place basics arc) (at costs arc))))

-- the potentials round a cycle and then along these steps
abbrev pub walk_off_cycle : List (ℕ × Ratio) → List (ℕ × Ends × Ratio) → List Ratio → List Step → List Step → List Ratio → Result (List Ratio) Overflow
walk_off_cycle nodes basics costs cycle steps values =
    root_of nodes basics costs cycle ▸ λ root.
    in_row A7 (spread nodes basics costs (but_last cycle) (slice_set values (first_place cycle) root) ▷ spread nodes basics costs steps)

abbrev pub walk_off : List (ℕ × Ratio) → List (ℕ × Ends × Ratio) → List Ratio → List Joint → ExtraArc → List Step → List Ratio
    → Result (List Ratio) Overflow
walk_off nodes basics costs joints (found.OneEnd arc) steps values = walk_off_end nodes basics costs joints arc steps values
walk_off nodes basics costs joints (found.Round cycle) steps values = walk_off_cycle nodes basics costs cycle.items steps values

-- what an arc with one end gives its node fits
abbrev pub EndFits : List (ℕ × Ends × Ratio) → List Ratio → ExtraArc → Type 0
EndFits basics costs (found.OneEnd arc) = Fits (end_potential (ends_by_place basics arc) (at costs arc))
EndFits basics costs (found.Round cycle) = ⊤
