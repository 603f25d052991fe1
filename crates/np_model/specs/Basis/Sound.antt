-- Sound pieces, and the pieces after a pivot, with no state at hand. (This project's own.)
use Rattle.std.specs.Prelude.{◌≡◌, ◌↔◌, ℕ, ◌<◌, List, [], ◌∷◌, length, ⊤}
use Rattle.std.specs.List.{flat_map}
use Rattle.gain_graphs.specs.Arcs.{IsIn, Touches}
use Rattle.gain_graphs.specs.QuasiTrees.{LiesIn}
use Rattle.np_frac.specs.Ratio.{Ratio, zero_ratio, ◌+ᵣ◌, ◌*ᵣ◌}
use Rattle.np_frac.specs.Fits.{Fits}
use Rattle.np_model.specs.declared.arc.Ends.{Ends}
use Rattle.np_model.specs.declared.arc.NetArc.{NetArc}
use Rattle.np_model.specs.declared.log.Mark.{Mark}
use Rattle.np_model.specs.declared.log.Mark.TheVariants.{Lower, Upper, Basic}
use Rattle.np_model.specs.declared.log.Entry.{Entry}
use Rattle.np_model.specs.Network.Arcs.{IsWithin, bound_of}
use Rattle.np_model.specs.Network.Flows.{Network}
use Rattle.np_model.specs.Basis.Graphs.{ratios, graph_ends, arc_at, ends_at, cost_at}
use Rattle.np_model.specs.Basis.Pieces.{PieceLists, nodes_in, basics_in, marked_in, least_node, HasShape, beside, marks_of, flows_of, nodes_of, basics_of, AreApart}
use Rattle.np_model.specs.Basis.States.{Values, StandsAt, price}
use Rattle.np_model.specs.Basis.Moves.{IsEligible, IsMove, mark_after}
use Rattle.np_model.specs.Rows.Potentials.{PotentialsFit}

-- ---- what pieces say

-- the bound that a mark names
abbrev pub bound_at : NetArc → Mark → Ratio
bound_at a Lower = a.lower
bound_at a Upper = bound_of a.upper
bound_at a Basic = zero_ratio

-- what pieces say of their arcs and nodes; an arc outside the basis has the flow of its bound
abbrev pub values_in : Network → List PieceLists → Values
values_in net pieces = record {
  mark = λ a. beside Lower (flat_map marks_of pieces) a;
  flow = λ a. beside (bound_at (arc_at net.arcs a) (beside Lower (flat_map marks_of pieces) a)) (flat_map flows_of pieces) a;
  potential = λ v. beside zero_ratio (flat_map (λ p. p.nodes) pieces) v;
}

-- ---- sound pieces

-- a piece of the network: its ends are those of its arcs, and its marks are those of the other arcs that touch it
pub record IsInNet (net : Network) (piece : PieceLists) : Type 0 where
  pub shape : HasShape piece
  pub nodes : (v : ℕ) → IsIn v (nodes_in piece) → v < length net.supply
  pub basic : (b : ℕ × Ends × Ratio) → IsIn b piece.basics → (b.0 < length net.arcs) × (b.1 ≡ ends_at net.arcs b.0)
  pub marked : (a : ℕ) → IsIn a (marked_in piece)
      ↔ ((a < length net.arcs) × (¬ IsIn a (basics_in piece)) × Touches (nodes_in piece) (graph_ends (ends_at net.arcs a)))

-- flows within bounds, marks of finite bounds, reduced costs of 0 on the basic arcs, and numbers that fit
pub record IsSound (net : Network) (piece : PieceLists) : Type 0 where
  pub in_net : IsInNet net piece
  pub within : (b : ℕ × Ends × Ratio) → IsIn b piece.basics → IsWithin (arc_at net.arcs b.0) b.2
  pub allowed : (m : ℕ × Mark) → IsIn m piece.marks → StandsAt (arc_at net.arcs m.0) m.1 (bound_at (arc_at net.arcs m.0) m.1)
  pub priced : (a : ℕ) → IsIn a (basics_in piece) → price (values_in net (piece ∷ [])).potential (arc_at net.arcs a) ≡ zero_ratio
  pub flows_fit : (b : ℕ × Ends × Ratio) → IsIn b piece.basics → Fits b.2
  pub potentials_fit : (n : ℕ × Ratio) → IsIn n piece.nodes → Fits n.1
  pub rows_fit : PotentialsFit (ends_at net.arcs) (cost_at net.arcs) (basics_in piece) (values_in net (piece ∷ [])).potential

-- sound pieces that share no node, and give a link between them one mark
pub record AreSound (net : Network) (pieces : List PieceLists) : Type 0 where
  pub each : (p : PieceLists) → IsIn p pieces → IsSound net p
  pub apart : AreApart pieces
  pub one_mark : (p q : PieceLists) (m k : ℕ × Mark) → IsIn p pieces → IsIn q pieces → IsIn m p.marks → IsIn k q.marks → m.0 ≡ k.0 → m.1 ≡ k.1

-- ---- the pieces after a pivot

abbrev pub AreOneOrTwo : List PieceLists → Type 0
AreOneOrTwo [] = ⊥
AreOneOrTwo (p ∷ []) = ⊤
AreOneOrTwo (p ∷ q ∷ []) = ⊤
AreOneOrTwo (p ∷ q ∷ r ∷ rest) = ⊥

-- one piece, or two with the lesser least node first
abbrev pub AreInOrder : List PieceLists → Type 0
AreInOrder [] = ⊥
AreInOrder (p ∷ []) = ⊤
AreInOrder (p ∷ q ∷ []) = least_node p < least_node q
AreInOrder (p ∷ q ∷ r ∷ rest) = ⊥

-- every end of the arc is a node of the pieces
abbrev pub HoldEnds : List PieceLists → Ends → Type 0
HoldEnds pieces ends = LiesIn ratios (nodes_of pieces) (graph_ends ends)

-- one or two sound pieces become these others by the pivot of this entry
pub record IsAfter (net : Network) (real : ℕ) (pieces : List PieceLists) (entry : Entry) (after : List PieceLists) : Type 0 where
  pub sound : AreSound net pieces
  pub sound_after : AreSound net after
  pub few : AreOneOrTwo pieces
  pub in_order : AreInOrder after
  pub same_nodes : (v : ℕ) → IsIn v (nodes_of pieces) ↔ IsIn v (nodes_of after)
  pub ends : HoldEnds pieces (ends_at net.arcs entry.enter)
  pub eligible : IsEligible net real (values_in net pieces) entry.enter
  pub direction : ℕ → Ratio
  pub step : Ratio
  pub move : IsMove net (values_in net pieces) (nodes_of pieces) (entry.enter ∷ basics_of pieces) (basics_of pieces) entry direction step
  pub flows : (a : ℕ) → IsIn a (basics_of after) → (values_in net after).flow a ≡ (values_in net pieces).flow a +ᵣ step *ᵣ direction a
  pub marks : (a : ℕ) → a < length net.arcs → Touches (nodes_of pieces) (graph_ends (ends_at net.arcs a))
      → (values_in net after).mark a ≡ mark_after entry (values_in net pieces).mark a
