-- The basic arcs after a pivot, with their flows. (This project's own.)
use Rattle.std.specs.Prelude.{◌≡◌, ◌≢◌, ◌↔◌, ℕ, List, ◌∷◌, Ok, Err, ⊤}
use Rattle.std.specs.Result.{IsOk}
use Rattle.std.specs.List.Sorted.{IsStrictlyIncreasing}
use Rattle.gain_graphs.specs.Arcs.{IsIn}
use Rattle.np_frac.specs.Ratio.{Ratio}
use Rattle.np_frac.specs.Fits.{Fits}
use Rattle.np_model.specs.declared.arc.Ends.{Ends}
use Rattle.np_model.specs.Rows.Arcs.{flow_after}
use Rattle.tree_search.specs.Places.{numbers_of_arcs}
use Rattle.np_model.specs.declared.rows.Place.TheVariants.{Arc}
use Rattle.np_model.specs.declared.rows.Row.TheVariants.{A6}
use Rattle.piece_lists.specs.declared.refusal.MoveRefusal.{MoveRefusal}
use Rattle.piece_lists.specs.declared.refusal.MoveRefusal.TheVariants as refusal
use Rattle.np_model.specs.Rows.Moving.{numbers_of_steps, new_flows}

-- these are the flows of the arcs, by their numbers
abbrev pub AreFlowsOf : (ℕ → Ratio) → List (ℕ × Ends × Ratio) → Type 0
AreFlowsOf flow arcs = (b : ℕ × Ends × Ratio) → IsIn b arcs → flow b.0 ≡ b.2

-- an arc before and after the step: its flow moves along its amount, and stays where it has none
pub record IsMoved (steps : List (ℕ × Ratio)) (t : Ratio) (before after : ℕ × Ends × Ratio) : Type 0 where
  pub number : after.0 ≡ before.0
  pub ends : after.1 ≡ before.1
  pub moves : (d : Ratio) → IsIn (before.0, d) steps → flow_after t before.2 d ≡ Ok after.2
  pub stays : (¬ IsIn before.0 (numbers_of_steps steps)) → after.2 ≡ before.2
  pub fits : Fits after.2

-- the basic arcs and the one that enters, but the one that leaves, each after the step
pub record AreFlowsAfter (basics : List (ℕ × Ends × Ratio)) (entering : ℕ × Ends × Ratio) (leave : ℕ) (steps : List (ℕ × Ratio)) (t : Ratio) (after : List (ℕ × Ends × Ratio)) : Type 0 where
  pub ascend : IsStrictlyIncreasing (numbers_of_arcs after)
  pub numbers : (a : ℕ) → IsIn a (numbers_of_arcs after) ↔ (IsIn a (entering.0 ∷ numbers_of_arcs basics) × (a ≢ leave))
  pub moved : (c : ℕ × Ends × Ratio) → IsIn c after → (b : ℕ × Ends × Ratio) × IsIn b (entering ∷ basics) × IsMoved steps t b c
  pub fit : (flow : ℕ → Ratio) → AreFlowsOf flow (entering ∷ basics) → IsOk (new_flows steps t flow)

-- the operation is the first one of row A6 that overflows, told at the arc that enters
abbrev pub IsFirstPast : List (ℕ × Ends × Ratio) → ℕ → List (ℕ × Ratio) → Ratio → MoveRefusal → Type 0
IsFirstPast arcs enter steps t (refusal.Past overflow) =
    (overflow.row ≡ A6) × (overflow.place ≡ Arc enter) × ((flow : ℕ → Ratio) → AreFlowsOf flow arcs → new_flows steps t flow ≡ Err overflow.past)
IsFirstPast arcs enter steps t refusal.Memory = ⊤
