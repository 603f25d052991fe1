-- The pieces that there are, and some of them, are those of a state.
use Rattle.std.proofs.Common.{◌≡◌, ℕ, ◌<◌, ◌≤◌, List, [], ◌∷◌, length, sym, ap, subst, arith}
use Rattle.gain_graphs.specs.Arcs.{IsIn}
use Rattle.np_model.specs.declared.network.FullNet.{FullNet}
use Rattle.np_model.specs.declared.phase.Phase.{Phase}
use Rattle.np_model.specs.Network.Flows.{Network}
use Rattle.np_model.specs.Network.Arcs.{AreNodes}
use Rattle.np_model.specs.Basis.Graphs.{no_arc, ends_at}
use Rattle.np_model.specs.Basis.Phases.{with_artificial, phase_net, real_arcs}
use Rattle.np_model.specs.Basis.Pieces.{PieceLists, nodes_in, nodes_of, AreApart}
use Rattle.np_model.specs.Basis.Sound.{AreSound}
use Rattle.np_model.specs.Basis.States.{values_of}
use Rattle.np_basis.specs.PivotLaws.{HasRealArcs, ArePiecesOf}
use Rattle.np_basis.proofs.Cutting.{piece_is_unique}
use Rattle.np_basis.proofs.Fulls.{full_net_is_sound, length_full}
use Rattle.np_basis.proofs.Reading.{pieces_are_sound}
use Rattle.tree_table.specs.Passes.{Pivoted, Opening, View}
use Rattle.tree_table.specs.Replay.{LeadsTo, HasSeen}
use Rattle.tree_table.specs.Slots.{having}
use Rattle.tree_table.specs.Weights.{times, AreAmong, AreSame}
use Rattle.tree_table.proofs.Deciding.{same_piece}
use Rattle.tree_table.proofs.Members.{member_there}
use Rattle.tree_table.proofs.Nodes.{having_all, apart_once}
use Rattle.pivot_workers.specs.Forests.{network_at, IsFor, AreForest, OpensForest}
use Rattle.pivot_workers.proofs.States.{distinct_of, same_pieces, same_whole, forest_is_kept}

once_apart : (pieces : List PieceLists) → ((v : ℕ) → having v pieces ≤ 1) → AreApart pieces
once_apart pieces few = distinct_of (nodes_of pieces) (λ v. let a = few v in let b = having_all v pieces in omega arith)

pub there : (among pieces : List PieceLists) (p : PieceLists) → AreAmong among pieces → IsIn p among → IsIn p pieces
there among pieces p few here = member_there same_piece pieces among p few here

module _ (net : Network) where
  forest_same : (pieces next : List PieceLists) → AreSame pieces next → AreForest net pieces → AreForest net next
  forest_same pieces next same f = record {
    state = f.state;
    is_state = f.is_state;
    pieces_of = same_pieces net (values_of f.state) pieces next same f.pieces_of;
    whole = λ v below. same_whole pieces next same v (f.whole v below);
  }

  module _ (now : List PieceLists) (f : AreForest net now) where
    pub part_of : (pieces : List PieceLists) → AreAmong pieces now → ArePiecesOf net (values_of f.state) pieces
    part_of pieces among = record {
      each = λ p here. f.pieces_of.each p (there pieces now p among here);
      apart = once_apart pieces (λ v. let a = apart_once now f.pieces_of.apart v in let b = among (λ p. times v (nodes_in p)) in omega arith);
    }

    pub part_sound : (pieces : List PieceLists) → AreAmong pieces now → AreSound net pieces
    unfolding part_of
    part_sound pieces among = let part = part_of pieces among in pieces_are_sound net f.state pieces f.is_state part.each part.apart

    -- two of them with a node in common are one
    pub one_piece : (p q : PieceLists) (v : ℕ) → IsIn p now → IsIn q now → IsIn v (nodes_in p) → IsIn v (nodes_in q) → p ≡ q
    one_piece p q v inp inq hasp hasq = piece_is_unique net (values_of f.state) p q v (f.pieces_of.each p inp) (f.pieces_of.each q inq) hasp hasq

-- ---- what a pass has seen

leads_forest : (opening : Opening) → HasRealArcs (network_at opening) (length opening.net.arcs) → (pieces : List PieceLists) (log : List Pivoted) (last : List PieceLists)
    → AreForest (network_at opening) pieces → LeadsTo opening pieces log last → AreForest (network_at opening) last
leads_forest opening real pieces [] last f same = forest_same (network_at opening) pieces last same f
leads_forest opening real pieces (m ∷ log) last f step = leads_forest opening real step.0 log last (forest_is_kept opening pieces step.0 m real f step.1) step.2

pub forest_now : (v : View) (now : List PieceLists) → HasRealArcs (network_at v.opening) (length v.opening.net.arcs) → OpensForest v.opening → HasSeen v now
    → AreForest (network_at v.opening) now
forest_now v now real opens seen = leads_forest v.opening real v.opening.pieces seen.log now opens seen.leads

-- ---- the network of a table

module _ (full : FullNet) (phase : Phase) (opening : Opening) (is_for : IsFor full phase opening) where
  pub same_net : network_at opening ≡ phase_net phase full
  same_net = λ i. with_artificial (is_for.2 i) (is_for.0 i) (is_for.1 i)

  pub same_real : length opening.net.arcs ≡ real_arcs full
  same_real = ap (λ (n : Network). length n.arcs) is_for.0

  pub same_slots : length opening.net.supply ≡ length full.net.supply
  same_slots = ap (λ (n : Network). length n.supply) is_for.0

  pub real_ground : HasRealArcs (network_at opening) (length opening.net.arcs)
  real_ground =
      subst (λ (z : Network × ℕ). HasRealArcs z.0 z.1) (λ i. (sym same_net i, sym same_real i))
      record { sound = full_net_is_sound phase full; few = (let e = length_full phase full.net.arcs full.artificial in omega arith) }

-- the ends of a real arc are nodes
pub real_below : (full : FullNet) (phase : Phase) (a : ℕ) → a < real_arcs full → a < length (phase_net phase full).arcs
real_below full phase a below = let e = length_full phase full.net.arcs full.artificial in omega arith

pub ends_near : (full : FullNet) (phase : Phase) (a : ℕ) → a < real_arcs full → AreNodes (length full.net.supply) (ends_at (phase_net phase full).arcs a)
ends_near full phase a below = (full_net_is_sound phase full a no_arc (real_below full phase a below)).joins
