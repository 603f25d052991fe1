-- A pivot that a table tells of is one of the state whose pieces there were.
use Rattle.std.specs.Prelude.{◌≡◌, ℕ, ◌+◌, ◌≤◌, List, [], ◌∷◌, ◌++◌, length}
use Rattle.std.proofs.Common.{inl, inr, arith}
use Rattle.gain_graphs.specs.Arcs.{IsIn, AreDistinct}
use Rattle.gain_graphs.proofs.Lists.{in_append}
use Rattle.np_model.specs.Network.Flows.{Network}
use Rattle.np_model.specs.declared.log.Entry.{Entry}
use Rattle.np_model.specs.Basis.Pieces.{PieceLists, nodes_in, nodes_of}
use Rattle.np_model.specs.Basis.Pivots.{IsPivot}
use Rattle.np_model.specs.Basis.Sound.{IsAfter}
use Rattle.np_model.specs.Basis.States.{State, Values, values_of, IsPieceOf, IsState}
use Rattle.np_basis.specs.PivotLaws.{HasRealArcs, ArePiecesOf, ArePiecesAfter}
use Rattle.np_basis.proofs.FromPieces.{after_is_exactly}
use Rattle.np_basis.proofs.Pivoting.{others_are_kept}
use Rattle.np_basis.proofs.Reading.{in_flat}
use Rattle.tree_table.specs.Slots.{having}
use Rattle.tree_table.specs.Weights.{weigh, times, AreAmong, AreSame}
use Rattle.tree_table.proofs.Deciding.{same_piece}
use Rattle.tree_table.proofs.Members.{member_there, others_left}
use Rattle.tree_table.proofs.Nodes.{stands_in, in_stands, having_all, apart_once, same_nodes}
use Rattle.tree_table.proofs.Sums.{weigh-append, once-same}
use Rattle.pivot_workers.specs.Forests.{network_at}
use Rattle.pivot_workers.specs.Laws.{TurnsArePivots, ForestIsKept}

-- a list has no number twice where each stands in it once at most
pub distinct_of : (xs : List ℕ) → ((v : ℕ) → times v xs ≤ 1) → AreDistinct xs
distinct_of [] few = record {}
distinct_of (x ∷ xs) few = (
  (λ i. let a = in_stands x xs i in let b = few x in let c = once-same x in omega arith),
  distinct_of xs (λ v. let a = few v in omega arith),
)

module _ (net : Network) (real : ℕ) (ground : HasRealArcs net real) (s : State) (st : IsState net s) (pieces next : List PieceLists)
    (pieces_of : ArePiecesOf net (values_of s) pieces) (before : List PieceLists) (entry : Entry) (after : List PieceLists) (there : AreAmong before pieces)
    (becomes : IsAfter net real before entry after) (replaced : (f : PieceLists → ℕ) → weigh f next + weigh f before ≡ weigh f pieces + weigh f after) where
  -- the pieces beside those of the pivot
  beside : (others : List PieceLists) × ((f : PieceLists → ℕ) → weigh f others + weigh f before ≡ weigh f pieces)
  beside = others_left same_piece pieces before there

  abbrev others : List PieceLists
  others = beside.0

  weight_before : (f : PieceLists → ℕ) → weigh f others + weigh f before ≡ weigh f pieces
  weight_before = beside.1

  weight_next : (f : PieceLists → ℕ) → weigh f next ≡ weigh f after + weigh f others
  weight_next f = let a = weight_before f in let b = replaced f in omega arith

  from_before : (p : PieceLists) → IsIn p before → IsIn p pieces
  from_before p i = member_there same_piece pieces before p there i

  from_others : (p : PieceLists) → IsIn p others → IsIn p pieces
  from_others p i = member_there same_piece pieces others p (λ f. let a = weight_before f in omega arith) i

  from_next : (p : PieceLists) → IsIn p next → IsIn p (after ++ others)
  from_next p i = member_there same_piece (after ++ others) next p (λ f. let a = weight_next f in let b = weigh-append f after others in omega arith) i

  -- each node as often as before
  pub nodes_stay : (v : ℕ) → having v next ≡ having v pieces
  nodes_stay v =
      let a = weight_before (λ p. times v (nodes_in p)) in
      let b = weight_next (λ p. times v (nodes_in p)) in
      let c = same_nodes net real before entry after becomes v in
      omega arith

  before_of : ArePiecesOf net (values_of s) before
  before_of = record {
    each = λ p i. pieces_of.each p (from_before p i);
    apart = distinct_of (nodes_of before) (λ v.
        let a = apart_once pieces pieces_of.apart v in
        let b = having_all v before in
        let c = there (λ p. times v (nodes_in p)) in
        omega arith);
  }

  pub pivot : (t : State) × IsPivot net real s entry t × ArePiecesAfter net before t after
  pivot = (after_is_exactly net real s entry before after ground st before_of becomes.few becomes.in_order becomes.ends).0 becomes

  -- the other pieces have no node of those of the pivot
  off : (p : PieceLists) → IsIn p others → (v : ℕ) → IsIn v (nodes_in p) → ¬ IsIn v (nodes_of before)
  off p i v j k =
      let a = apart_once pieces pieces_of.apart v in
      let b = weight_before (λ p. times v (nodes_in p)) in
      let c = in_stands v (nodes_of others) (in_flat nodes_in others p v i j) in
      let d = having_all v others in
      let e = in_stands v (nodes_of before) k in
      let f = having_all v before in
      omega arith

  each_next : (p : PieceLists) → IsIn p next → IsPieceOf net (values_of pivot.0) p
  each_next p i = elim (in_append p after others (from_next p i)) [
    | inl j ↦ pivot.2.pieces_of.each p j
    | inr j ↦ others_are_kept net real s entry pivot.0 before p ground st pivot.1 before_of becomes.ends (pieces_of.each p (from_others p j)) (off p j)
  ]

  pub next_of : ArePiecesOf net (values_of pivot.0) next
  next_of = record {
    each = each_next;
    apart = distinct_of (nodes_of next) (λ v.
        let a = apart_once pieces pieces_of.apart v in
        let b = nodes_stay v in
        let c = having_all v next in
        omega arith);
  }

  pub still_there : (v : ℕ) → IsIn v (nodes_of pieces) → IsIn v (nodes_of next)
  still_there v i = stands_in v (nodes_of next) (
      let a = in_stands v (nodes_of pieces) i in
      let b = having_all v pieces in
      let c = nodes_stay v in
      let d = having_all v next in
      omega arith)

-- the same pieces in another order
pub same_pieces : (net : Network) (s : Values) (pieces others : List PieceLists) → AreSame pieces others → ArePiecesOf net s pieces → ArePiecesOf net s others
same_pieces net s pieces others same pieces_of = record {
  each = λ p i. pieces_of.each p (member_there same_piece pieces others p (λ f. let a = same f in omega arith) i);
  apart = distinct_of (nodes_of others) (λ v.
      let a = apart_once pieces pieces_of.apart v in
      let b = same (λ p. times v (nodes_in p)) in
      let c = having_all v others in
      omega arith);
}

pub same_whole : (pieces others : List PieceLists) → AreSame pieces others → (v : ℕ) → IsIn v (nodes_of pieces) → IsIn v (nodes_of others)
same_whole pieces others same v i = stands_in v (nodes_of others) (
    let a = in_stands v (nodes_of pieces) i in
    let b = having_all v pieces in
    let c = same (λ p. times v (nodes_in p)) in
    let d = having_all v others in
    omega arith)

pub turns_are_pivots : TurnsArePivots
turns_are_pivots opening s pieces next m ground st pieces_of turns =
    let net = network_at opening in
    let real = length opening.net.arcs in
    let p : (t : State) × IsPivot net real s m.entry t × ArePiecesAfter net m.before t m.after = pivot net real ground s st pieces next pieces_of m.before m.entry m.after turns.there turns.becomes turns.replaced in
    (p.0, p.1, next_of net real ground s st pieces next pieces_of m.before m.entry m.after turns.there turns.becomes turns.replaced)

pub forest_is_kept : ForestIsKept
forest_is_kept opening pieces next m ground forest turns =
    let net = network_at opening in
    let real = length opening.net.arcs in
    let r = turns_are_pivots opening forest.state pieces next m ground forest.is_state forest.pieces_of turns in
    record {
      state = r.0;
      is_state = r.1.is_state;
      pieces_of = r.2;
      whole = λ v l. still_there net real ground forest.state forest.is_state pieces next forest.pieces_of m.before m.entry m.after turns.there turns.becomes turns.replaced v (forest.whole v l);
    }
