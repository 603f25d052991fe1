-- What the attempts with the listed arcs come to.
use Rattle.std.specs.Prelude.{◌≡◌, ℕ, ◌<◌, List, [], ◌∷◌, length, Option, Some, None, slice_index_or}
use Rattle.std.proofs.Common.{sym, subst, inl, inr, arith, suc}
use Rattle.gain_graphs.specs.Arcs.{IsIn}
use Rattle.np_model.specs.declared.piece.Direction.{Direction}
use Rattle.np_model.specs.declared.piece.Hands.{Hands}
use Rattle.np_model.specs.declared.piece.Prepared.{Prepared}
use Rattle.np_model.specs.declared.piece.Prepared.TheVariants as prepared
use Rattle.np_model.specs.declared.rows.Overflow.{Overflow}
use Rattle.np_model.specs.declared.log.Entry.{Entry}
use Rattle.np_model.specs.Network.Flows.{Network}
use Rattle.np_model.specs.Basis.Graphs.{graph_of, ends_at}
use Rattle.np_model.specs.Basis.Attempts.{IsPivoted}
use Rattle.np_model.specs.Basis.Moves.{IsEligible}
use Rattle.np_model.specs.Basis.Needed.{AreNeededFor}
use Rattle.np_model.specs.Basis.Pieces.{nodes_of}
use Rattle.np_model.specs.Basis.Sound.{values_in}
use Rattle.np_model.specs.Basis.States.{State, values_of, IsState}
use Rattle.np_basis.specs.Laws.{AgreeWith}
use Rattle.np_basis.specs.PivotLaws.{HasRealArcs}
use Rattle.np_basis.proofs.Reading.{pieces_agree}
use Rattle.np_basis.proofs.Roots.{needed_hold}
use Rattle.np_basis.proofs.Sound.{lies_touch}
use Rattle.np_basis.proofs.ToPieces.{eligible_same}
use Rattle.np_basis.proofs.Directions as directions
use Rattle.np_runs.specs.Ended.{AttemptOverflows, AttemptFindsRay}
use Rattle.quasi_tree.specs.Store.{Store}
use Rattle.piece_lists.specs.Parts.{lists_in}
use Rattle.simplex_driver.specs.Picks.{IsAttempt, CanPivot, OneOverflows, AllOverflow, first_or}

-- the place of an entry of a list
place_of : (list : List ℕ) (a : ℕ) → IsIn a list → (k : ℕ) × (k < length list) × ((d : ℕ) → slice_index_or list k d ≡ a)
place_of [] a i = absurd i
place_of (x ∷ xs) a (inl e) = (0, omega arith, λ d. sym e)
place_of (x ∷ xs) a (inr i) = let r = place_of xs a i in (suc r.0, omega (arith, r.1), r.2)

-- the overflow found so far, if there was an attempt
abbrev pub HasFound : Network → ℕ → State → List ℕ → ℕ → Option Overflow → Type 0
HasFound net real s list i None = i ≡ 0
HasFound net real s list i (Some x) = OneOverflows net real (values_of s) list x

pub found_more : (net : Network) (real : ℕ) (s : State) (list : List ℕ) (i : ℕ) (o : Option Overflow) (x : Overflow) → HasFound net real s list i o
    → OneOverflows net real (values_of s) list x → OneOverflows net real (values_of s) list (first_or o x)
found_more net real s list i None x h k = k
found_more net real s list i (Some y) x h k = h

module _ (net : Network) (real : ℕ) (grounded : HasRealArcs net real) (s : State) (st : IsState net s) (arc : ℕ) where
  -- an arc that may enter in the state may enter by what its pieces say
  pub not_refused : (result : Prepared (Hands Store)) → result ≡ prepared.NotEligible → IsAttempt net real (values_of s) arc result → ¬ IsEligible net real (values_of s) arc
  not_refused result is h e = go (subst (IsAttempt net real (values_of s) arc) is h)
    where
      go : IsAttempt net real (values_of s) arc prepared.NotEligible → ⊥
      go k =
          let agree : AgreeWith net (values_of s) k.pieces = pieces_agree net (values_of s) k.pieces st.at_bounds k.pieces_of.each in
          let below : arc < length net.arcs = omega (arith, e.is_open.0, grounded.few) in
          let lies = needed_hold k.pieces (ends_at net.arcs arc) (length net.supply) (directions.ends_valid net grounded.sound arc below) k.needed in
          k.prepared.1 (eligible_same net real (values_of s) (values_in net k.pieces) (nodes_of k.pieces) arc lies
          (sym (agree.marks arc below (lies_touch (nodes_of k.pieces) (graph_of (ends_at net.arcs) arc) lies))) (λ u i. sym (agree.potentials u i)) e)

  pub can_pivot : (result : Prepared (Hands Store)) (entry : Entry) (change : Hands Store) → result ≡ prepared.Ready entry change → IsAttempt net real (values_of s) arc result
      → CanPivot net real (values_of s) entry (lists_in change)
  can_pivot result entry change is h =
      let k = subst (IsAttempt net real (values_of s) arc) is h in
      let enters = sym k.prepared.followed.enters in
      record {
        pieces = k.pieces;
        pieces_of = k.pieces_of;
        needed = subst (λ a. AreNeededFor k.pieces (ends_at net.arcs a)) enters k.needed;
        pivoted = subst (λ a. IsPivoted net real k.pieces a entry (lists_in change)) enters k.prepared;
      }

  pub finds_ray : (result : Prepared (Hands Store)) (direction : Direction) → result ≡ prepared.Ray direction → IsAttempt net real (values_of s) arc result
      → AttemptFindsRay net real (values_of s) arc direction
  finds_ray result direction is h =
      let k = subst (IsAttempt net real (values_of s) arc) is h in
      record { pieces = k.pieces; pieces_of = k.pieces_of; needed = k.needed; is_ray = k.prepared }

  pub overflows : (result : Prepared (Hands Store)) (overflow : Overflow) → result ≡ prepared.Past overflow → IsAttempt net real (values_of s) arc result
      → AttemptOverflows net real (values_of s) arc overflow
  overflows result overflow is h =
      let k = subst (IsAttempt net real (values_of s) arc) is h in
      record { pieces = k.pieces; pieces_of = k.pieces_of; needed = k.needed; first = k.prepared }

-- each arc of the list is one at some place
pub from_places : (net : Network) (real : ℕ) (s : State) (list : List ℕ)
    → ((k : ℕ) → k < length list → (overflow : Overflow) × AttemptOverflows net real (values_of s) (slice_index_or list k 0) overflow) → AllOverflow net real (values_of s) list
from_places net real s list h a i =
    let r = place_of list a i in
    subst (λ b. (overflow : Overflow) × AttemptOverflows net real (values_of s) b overflow) (r.2 0) (h r.0 r.1)
