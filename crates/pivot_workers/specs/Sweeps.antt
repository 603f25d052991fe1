-- What one worker alone makes of a list of arcs: a relation between the pieces that there are. It speaks of no pass and no word, and of slots only
-- by the numbers that are named for the nodes. (This project's own.)
use Rattle.std.specs.Prelude.{◌≡◌, ℕ, zero, suc, ◌≤◌, ◌⊎◌, List, [], ◌∷◌, ◌++◌, length}
use Rattle.np_model.specs.declared.piece.Direction.{Direction}
use Rattle.np_model.specs.declared.rows.Overflow.{Overflow}
use Rattle.np_model.specs.Basis.Attempts.{PriceFits, IsPivoted, IsRay, FirstOverflow}
use Rattle.np_model.specs.Basis.Graphs.{ends_at}
use Rattle.np_model.specs.Basis.Moves.{IsEligible}
use Rattle.np_model.specs.Basis.Needed.{AreNeededFor}
use Rattle.np_model.specs.Basis.Pieces.{PieceLists}
use Rattle.np_model.specs.Basis.Sound.{values_in, AreInOrder}
use Rattle.tree_table.specs.Passes.{Opening, Pivoted}
use Rattle.tree_table.specs.Replay.{Turns}
use Rattle.tree_table.specs.Weights.{AreAmong}
use Rattle.pivot_workers.specs.Forests.{network_at}
use Rattle.pivot_workers.specs.Openings.{AreSeated}

-- of these arcs, that at a place and each one that is gap + 1 further on
abbrev pub dealt : ℕ → ℕ → List ℕ → List ℕ
dealt gap place [] = []
dealt gap zero (a ∷ more) = a ∷ dealt gap gap more
dealt gap (suc place) (a ∷ more) = dealt gap place more

module _ (opening : Opening) where
  -- the pieces, of those that there are, that the arc needs, the one with the lesser least node first
  pub record AreNeeded (now : List PieceLists) (arc : ℕ) (pieces : List PieceLists) : Type 0 where
    pub there : AreAmong pieces now
    pub in_order : AreInOrder pieces
    pub needed : AreNeededFor pieces (ends_at (network_at opening).arcs arc)

  -- the arc cannot enter on these pieces: it may not, nothing stops its direction, or an operation overflows
  pub data IsRefused (pieces : List PieceLists) (arc : ℕ) : Type 0 where
    may_not : PriceFits (network_at opening) (length opening.net.arcs) pieces arc
        → (¬ IsEligible (network_at opening) (length opening.net.arcs) (values_in (network_at opening) pieces) arc) → IsRefused pieces arc
    endless : (direction : Direction) → IsRay (network_at opening) (length opening.net.arcs) pieces arc direction → IsRefused pieces arc
    overflows : (overflow : Overflow) → FirstOverflow (network_at opening) (length opening.net.arcs) pieces arc overflow → IsRefused pieces arc

  module _ (openings : List ℕ) where
    -- an arc is passed over where an end lies in another piece than the one named for it, or where it cannot enter; else it enters
    abbrev pub IsVisit : List PieceLists → ℕ → List Pivoted → List PieceLists → Type 0
    IsVisit now arc [] next = (next ≡ now)
        × ((¬ AreSeated openings now (ends_at (network_at opening).arcs arc)) ⊎ ((pieces : List PieceLists) × AreNeeded now arc pieces × IsRefused pieces arc))
    IsVisit now arc (m ∷ []) next = AreSeated openings now (ends_at (network_at opening).arcs arc) × AreNeeded now arc m.before
        × IsPivoted (network_at opening) (length opening.net.arcs) m.before arc m.entry m.after × Turns opening now m next
    IsVisit now arc (m ∷ k ∷ more) next = ⊥

    -- the arcs in order, each in the pieces that those before it left
    abbrev pub AreVisits : List PieceLists → List ℕ → List Pivoted → List PieceLists → Type 0
    AreVisits now [] log last = (log ≡ []) × (last ≡ now)
    AreVisits now (arc ∷ arcs) log last =
        (made : List Pivoted) × (more : List Pivoted) × (next : List PieceLists) × (log ≡ made ++ more) × IsVisit now arc made next × AreVisits next arcs more last

    -- a sweep: the arcs in order, until there are as many pivots as the quota
    pub record IsSweep (now : List PieceLists) (arcs : List ℕ) (quota : ℕ) (log : List Pivoted) (last : List PieceLists) : Type 0 where
      pub tried : List ℕ
      pub left : List ℕ
      pub parts : arcs ≡ tried ++ left
      pub visits : AreVisits now tried log last
      pub few : length log ≤ quota
      pub ends : (left ≡ []) ⊎ (length log ≡ quota)
