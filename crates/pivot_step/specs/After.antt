-- The lists of pieces after a pivot, and the pieces over these lists. (This project's own.)
use Rattle.std.specs.Prelude.{◌≡◌, ◌↔◌, ℕ, List, [], ◌∷◌, filter}
use Rattle.std.specs.List.Sorted.{IsStrictlyIncreasing}
use Rattle.gain_graphs.specs.Arcs.{IsIn}
use Rattle.np_frac.specs.Ratio.{Ratio, zero_ratio, ◌+ᵣ◌, ◌*ᵣ◌}
use Rattle.np_frac.specs.Fits.{Fits}
use Rattle.np_model.specs.declared.arc.Ends.{Ends}
use Rattle.np_model.specs.declared.log.Entry.{Entry}
use Rattle.np_model.specs.declared.log.Mark.{Mark}
use Rattle.np_model.specs.Network.Flows.{Network}
use Rattle.np_model.specs.Basis.Graphs.{arc_at, ends_at, cost_at}
use Rattle.np_model.specs.Basis.Pieces.{PieceLists, nodes_in, basics_in, nodes_of, AreApart}
use Rattle.np_model.specs.Basis.Sound.{values_in, AreInOrder}
use Rattle.np_model.specs.Basis.States.{price, IsPartOf}
use Rattle.np_model.specs.Rows.Potentials.{PotentialsFit}
use Rattle.np_model.specs.Basis.Needed.{AreBasicAfter}
use Rattle.tree_search.specs.Places.{numbers_of_arcs}
use Rattle.piece_lists.specs.Joining.{all_marks, AreMarksAfter}
use Rattle.piece_lists.specs.Parts.{touch}

-- the basic arcs after a pivot of the pieces, each with its ends and its flow after the step t along d
pub record AreBasicsAfter (net : Network) (pieces : List PieceLists) (enter leave : ℕ) (d : ℕ → Ratio) (t : Ratio) (basics : List (ℕ × Ends × Ratio)) : Type 0 where
  pub ascend : IsStrictlyIncreasing (numbers_of_arcs basics)
  pub basic : AreBasicAfter pieces enter leave (numbers_of_arcs basics)
  pub ends : (b : ℕ × Ends × Ratio) → IsIn b basics → b.1 ≡ ends_at net.arcs b.0
  pub flows : (b : ℕ × Ends × Ratio) → IsIn b basics → b.2 ≡ (values_in net pieces).flow b.0 +ᵣ t *ᵣ d b.0
  pub fit : (b : ℕ × Ends × Ratio) → IsIn b basics → Fits b.2

-- the basic arcs and the marks after a pivot of the pieces
pub record AreListsAfter (net : Network) (pieces : List PieceLists) (entry : Entry) (d : ℕ → Ratio) (t : Ratio) (basics : List (ℕ × Ends × Ratio)) (marks : List (ℕ × Mark)) : Type 0 where
  pub basics_after : AreBasicsAfter net pieces entry.enter entry.leave d t basics
  pub marks_after : AreMarksAfter (all_marks pieces) entry.enter entry.leave entry.leave_at marks

-- a part of these basic arcs, with those of the marks that touch it
pub record IsPieceOver (net : Network) (basics : List (ℕ × Ends × Ratio)) (marks : List (ℕ × Mark)) (piece : PieceLists) : Type 0 where
  pub part : IsPartOf net (numbers_of_arcs basics) (nodes_in piece) (basics_in piece)
  pub own : (b : ℕ × Ends × Ratio) → IsIn b piece.basics → IsIn b basics
  pub marked : piece.marks ≡ filter (λ m. touch (nodes_in piece) (ends_at net.arcs m.0)) marks

-- parts of these basic arcs on the nodes of those pieces, in order
pub record ArePiecesOver (net : Network) (pieces : List PieceLists) (basics : List (ℕ × Ends × Ratio)) (marks : List (ℕ × Mark)) (others : List PieceLists) : Type 0 where
  pub each : (p : PieceLists) → IsIn p others → IsPieceOver net basics marks p
  pub apart : AreApart others
  pub in_order : AreInOrder others
  pub same_nodes : (v : ℕ) → IsIn v (nodes_of pieces) ↔ IsIn v (nodes_of others)

-- its potentials give its basic arcs reduced costs of 0; they fit, and no operation of their rows overflows
pub record HasRightPotentials (net : Network) (piece : PieceLists) : Type 0 where
  pub priced : (a : ℕ) → IsIn a (basics_in piece) → price (values_in net (piece ∷ [])).potential (arc_at net.arcs a) ≡ zero_ratio
  pub fit : (n : ℕ × Ratio) → IsIn n piece.nodes → Fits n.1
  pub rows_fit : PotentialsFit (ends_at net.arcs) (cost_at net.arcs) (basics_in piece) (values_in net (piece ∷ [])).potential
