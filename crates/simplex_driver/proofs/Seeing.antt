-- A table of the pieces at hand: they are a forest, and its first pass is ready.
use Rattle.std.specs.Prelude.{◌≡◌, List, Option}
use Rattle.std.proofs.Common.{refl, sym, subst}
use Rattle.np_model.specs.declared.network.FullNet.{FullNet}
use Rattle.np_model.specs.declared.phase.Phase.{Phase}
use Rattle.np_model.specs.Basis.Phases.{phase_net}
use Rattle.np_model.specs.Basis.Pieces.{PieceLists}
use Rattle.np_model.specs.Basis.States.{IsState}
use Rattle.tree_table.specs.Passes.{View, PassState, IsIdle, first_view, opening_of}
use Rattle.pivot_workers.specs.Forests.{IsFor, AreForest, OpensForest}
use Rattle.pivot_workers.specs.Work.{IsReady}
use Rattle.quasi_tree.specs.Store.{Store}
use Rattle.simplex_driver.specs.declared.forest.Forest.{Forest}
use Rattle.simplex_driver.specs.Rounds.{pieces_in}
use Rattle.simplex_driver.specs.Store.{lists_all, state_of, IsKept}
use Rattle.simplex_driver.proofs.Emptied.{forest_of_slots}
use Rattle.simplex_driver.proofs.Rounded.{taken_are}

pub forest_taken : (full : FullNet) (phase : Phase) (f : Forest) (read : List (Option Store)) (taken : List Store) → IsKept (phase_net phase full) f
    → IsState (phase_net phase full) (state_of f) → read ≡ f.slots.items → taken ≡ pieces_in read → AreForest (phase_net phase full) (lists_all taken)
forest_taken full phase f read taken kept st e h =
    subst (λ ps. AreForest (phase_net phase full) (lists_all ps)) (sym (taken_are read f.slots.items taken e h)) (forest_of_slots (phase_net phase full) f kept st)

pub first_ready : (full : FullNet) (phase : Phase) (pieces : List PieceLists) (pass : PassState) → pass.view ≡ first_view (opening_of full phase pieces)
    → AreForest (phase_net phase full) pieces → IsReady full phase pass
first_ready full phase pieces pass is forest =
    subst (λ (v : View). IsFor full phase v.opening × OpensForest v.opening × IsIdle v) (sym is) ((refl, refl, refl), forest, (refl, refl))
