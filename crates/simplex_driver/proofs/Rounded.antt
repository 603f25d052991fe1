-- The pivots of a round are pivots of the state, and lead to one whose pieces come back.
use Rattle.std.specs.Prelude.{◌≡◌, ℕ, ◌<◌, List, [], ◌∷◌, length, map, Option}
use Rattle.std.proofs.Common.{refl, sym, ap, subst, ◌∙◌}
use Rattle.gain_graphs.specs.Arcs.{IsIn}
use Rattle.np_model.specs.declared.log.Entry.{Entry}
use Rattle.np_model.specs.declared.network.FullNet.{FullNet}
use Rattle.np_model.specs.declared.phase.Phase.{Phase}
use Rattle.np_model.specs.Basis.Phases.{network_of, phase_net, real_arcs}
use Rattle.np_model.specs.Basis.Pieces.{PieceLists, nodes_of}
use Rattle.np_model.specs.Basis.Pivots.{IsPivot}
use Rattle.np_model.specs.Basis.States.{State, values_of, IsState}
use Rattle.np_basis.specs.PivotLaws.{ArePiecesOf}
use Rattle.np_runs.specs.Runs.{PivotsLead}
use Rattle.tree_table.specs.Passes.{Pivoted, opening_of}
use Rattle.tree_table.specs.Replay.{LeadsTo}
use Rattle.pivot_workers.specs.declared.report.Report.{Report}
use Rattle.pivot_workers.specs.Forests.{AreForest}
use Rattle.pivot_workers.specs.Rounds.{IsRound}
use Rattle.pivot_workers.proofs.States.{same_pieces, same_whole, turns_are_pivots, forest_is_kept}
use Rattle.quasi_tree.specs.Store.{Store}
use Rattle.simplex_driver.specs.declared.forest.Forest.{Forest}
use Rattle.simplex_driver.specs.Rounds.{pieces_in}
use Rattle.simplex_driver.specs.Runs.{IsGood}
use Rattle.simplex_driver.specs.Store.{lists_all, state_of, IsKept}
use Rattle.simplex_driver.proofs.Attempts.{ground}
use Rattle.simplex_driver.proofs.Emptied.{pieces_of_slots, whole_in_slots}
use Rattle.simplex_driver.proofs.Ending.{net_is}

-- the entries lead from a state to another, whose pieces are these
pub record Reached (full : FullNet) (phase : Phase) (s : State) (entries : List Entry) (pieces : List PieceLists) : Type 0 where
  pub state : State
  pub leads : PivotsLead phase (network_of full.net) s entries state
  pub is_state : IsState (phase_net phase full) state
  pub pieces_of : ArePiecesOf (phase_net phase full) (values_of state) pieces
  pub whole : (v : ℕ) → v < length full.net.supply → IsIn v (nodes_of pieces)

pub taken_are : (read slots : List (Option Store)) (taken : List Store) → read ≡ slots → taken ≡ pieces_in read → taken ≡ pieces_in slots
taken_are read slots taken e h = h ∙ ap pieces_in e

module _ (full : FullNet) (good : IsGood full) (phase : Phase) where
  -- the log of a table leads where the entries do
  reached : (first : List PieceLists) (s : State) (pieces : List PieceLists) (log : List Pivoted) (now : List PieceLists) → IsState (phase_net phase full) s
      → ArePiecesOf (phase_net phase full) (values_of s) pieces → ((v : ℕ) → v < length full.net.supply → IsIn v (nodes_of pieces))
      → LeadsTo (opening_of full phase first) pieces log now → Reached full phase s (map (λ m. m.entry) log) now
  reached first s pieces [] now st of whole same = record {
    state = s;
    leads = refl;
    is_state = st;
    pieces_of = same_pieces (phase_net phase full) (values_of s) pieces now same of;
    whole = λ v l. same_whole pieces now same v (whole v l);
  }
  reached first s pieces (m ∷ log) now st of whole h =
      let turn = turns_are_pivots (opening_of full phase first) s pieces h.0 m (ground phase full) st of h.1 in
      let kept : AreForest (phase_net phase full) h.0 = forest_is_kept (opening_of full phase first) pieces h.0 m (ground phase full) (record { state = s; is_state = st; pieces_of = of; whole = whole }) h.1 in
      let r = reached first turn.0 h.0 log now turn.1.is_state turn.2 kept.whole h.2 in
      record {
        state = r.state;
        leads = (turn.0, subst (λ n. IsPivot n (real_arcs full) s m.entry turn.0) (net_is full good phase) turn.1, r.leads);
        is_state = r.is_state;
        pieces_of = r.pieces_of;
        whole = r.whole;
      }

  -- so do those of a round on all pieces
  pub round_reaches : (f : Forest) → IsKept (phase_net phase full) f → IsState (phase_net phase full) (state_of f) → (taken : List Store) → taken ≡ pieces_in f.slots.items
      → (list : List ℕ) (workers quota : ℕ) (pieces : List PieceLists) (entries : List Entry) (report : Report)
      → IsRound (opening_of full phase (lists_all taken)) list workers quota pieces entries report → Reached full phase (state_of f) entries pieces
  round_reaches f kept st taken is list workers quota pieces entries report h =
      let of = subst (λ (ts : List Store). ArePiecesOf (phase_net phase full) (values_of (state_of f)) (lists_all ts)) (sym is) (pieces_of_slots (phase_net phase full) f kept) in
      let whole = subst (λ (ts : List Store). (v : ℕ) → v < length full.net.supply → IsIn v (nodes_of (lists_all ts))) (sym is) (whole_in_slots (phase_net phase full) f kept) in
      let r = reached (lists_all taken) (state_of f) (lists_all taken) h.log h.now st of whole h.leads in
      record {
        state = r.state;
        leads = subst (λ es. PivotsLead phase (network_of full.net) (state_of f) es r.state) (sym h.entries_are) r.leads;
        is_state = r.is_state;
        pieces_of = same_pieces (phase_net phase full) (values_of r.state) h.now pieces h.pieces_are r.pieces_of;
        whole = λ v l. same_whole h.now pieces h.pieces_are v (r.whole v l);
      }

  pub forest_reached : (s : State) (entries : List Entry) (pieces : List PieceLists) → Reached full phase s entries pieces → AreForest (phase_net phase full) pieces
  forest_reached s entries pieces r = record { state = r.state; is_state = r.is_state; pieces_of = r.pieces_of; whole = r.whole }

  -- where the tables are that state
  pub leads_home : (s : State) (entries : List Entry) (pieces : List PieceLists) → Reached full phase s entries pieces → (after : State)
      → ((t : State) → IsState (phase_net phase full) t → ArePiecesOf (phase_net phase full) (values_of t) pieces → after ≡ t)
      → PivotsLead phase (network_of full.net) s entries after × IsState (phase_net phase full) after
  leads_home s entries pieces r after is =
      let e = is r.state r.is_state r.pieces_of in
      (subst (PivotsLead phase (network_of full.net) s entries) (sym e) r.leads, subst (IsState (phase_net phase full)) (sym e) r.is_state)
