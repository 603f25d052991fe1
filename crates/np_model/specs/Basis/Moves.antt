-- Moves: an eligible arc enters, the flows go along its direction as far as the bounds let them, and an arc leaves. Entering arcs, directions
-- and the ratio test are those of Ahuja, Magnanti and Orlin, Network Flows, chapters 11 and 15; the least number among the arcs that stop a
-- move is this project's own.
use Rattle.std.specs.Prelude.{◌≡◌, ◌≢◌, ◌⊎◌, ℕ, ◌<◌, ◌≤◌, ◌==◌, if◌then◌else◌, List, map}
use Rattle.gain_graphs.specs.Arcs.{IsIn}
use Rattle.np_frac.specs.Ratio.{Ratio, zero_ratio, one_ratio, negated, ◌≤ᵣ◌, ◌<ᵣ◌, ◌+ᵣ◌, ◌*ᵣ◌}
use Rattle.np_model.specs.declared.log.Mark.{Mark}
use Rattle.np_model.specs.declared.log.Mark.TheVariants.{Lower, Upper, Basic}
use Rattle.np_model.specs.declared.log.Entry.{Entry}
use Rattle.np_model.specs.Network.Arcs.{IsUnder, IsWithin}
use Rattle.np_model.specs.Network.Flows.{Network, outflow}
use Rattle.np_model.specs.Basis.Graphs.{arc_at, ends_at}
use Rattle.np_model.specs.Basis.States.{Values, price, StandsAt}

-- ---- the entering arc

-- one of the first `real` arcs, which are the real ones, and not fixed: its lower bound is below its upper one
abbrev pub IsOpen : Network → ℕ → ℕ → Type 0
IsOpen net real a = (a < real) × IsUnder (arc_at net.arcs a).lower (arc_at net.arcs a).upper

-- at its lower bound an arc gains by a reduced cost below 0, and at its upper bound by one above 0
abbrev pub Gains : Mark → Ratio → Type 0
Gains Lower r = r <ᵣ zero_ratio
Gains Upper r = zero_ratio <ᵣ r
Gains Basic r = ⊥

-- the arc may enter the basis
pub record IsEligible (net : Network) (real : ℕ) (s : Values) (a : ℕ) : Type 0 where
  pub is_open : IsOpen net real a
  pub gains : Gains (s.mark a) (price s.potential (arc_at net.arcs a))

-- ---- its direction

-- an arc enters upwards from its lower bound, and downwards from its upper bound
abbrev pub sign : Mark → Ratio
sign Lower = one_ratio
sign Upper = negated one_ratio
sign Basic = zero_ratio

-- what these arcs take from a node with these amounts
abbrev pub balance_on : Network → List ℕ → (ℕ → Ratio) → ℕ → Ratio
balance_on net numbers amount v = outflow (map (λ a. (ends_at net.arcs a, amount a)) numbers) v

-- a direction over some nodes and some arcs, of which these are basic: so much on the entering arc, 0 on each other arc outside the basis, and
-- nothing taken from any of the nodes
pub record IsDirection (net : Network) (nodes numbers basic : List ℕ) (enter : ℕ) (by : Ratio) (d : ℕ → Ratio) : Type 0 where
  pub enters : d enter ≡ by
  pub only : (a : ℕ) → IsIn a numbers → d a ≢ zero_ratio → (a ≡ enter) ⊎ IsIn a basic
  pub balanced : (v : ℕ) → IsIn v nodes → balance_on net numbers d v ≡ zero_ratio

-- ---- how far

-- the flows of these arcs keep their bounds when they move by t along d
abbrev pub KeepsBounds : Network → Values → List ℕ → (ℕ → Ratio) → Ratio → Type 0
KeepsBounds net s numbers d t = (a : ℕ) → IsIn a numbers → IsWithin (arc_at net.arcs a) (s.flow a +ᵣ t *ᵣ d a)

-- the bound towards which a direction points
abbrev pub IsTowards : Ratio → Mark → Type 0
IsTowards d Lower = d ≤ᵣ zero_ratio
IsTowards d Upper = zero_ratio ≤ᵣ d
IsTowards d Basic = ⊥

-- the arc stops the move: it comes to rest at this bound when the flows move by t along d
pub record Stops (net : Network) (s : Values) (d : ℕ → Ratio) (t : Ratio) (a : ℕ) (bound : Mark) : Type 0 where
  pub moves : d a ≢ zero_ratio
  pub towards : IsTowards (d a) bound
  pub rests : StandsAt (arc_at net.arcs a) bound (s.flow a +ᵣ t *ᵣ d a)

-- the direction, the greatest step that keeps the bounds, and the arc that leaves: the entering one where it stops the move, else the one with
-- the least number among those that do. Over all nodes and arcs in a pivot of a state, and over those of some pieces in a pivot of pieces.
pub record IsMove (net : Network) (s : Values) (nodes numbers basic : List ℕ) (entry : Entry) (d : ℕ → Ratio) (t : Ratio) : Type 0 where
  pub direction : IsDirection net nodes numbers basic entry.enter (sign (s.mark entry.enter)) d
  pub within : KeepsBounds net s numbers d t
  pub greatest : (z : Ratio) → KeepsBounds net s numbers d z → z ≤ᵣ t
  pub leaves : IsIn entry.leave numbers
  pub stops : Stops net s d t entry.leave entry.leave_at
  pub first : (a : ℕ) (bound : Mark) → IsIn a numbers → Stops net s d t a bound → (entry.leave ≡ entry.enter) ⊎ ((a ≢ entry.enter) × (entry.leave ≤ a))

-- the mark of an arc after the pivot
abbrev pub mark_after : Entry → (ℕ → Mark) → ℕ → Mark
mark_after entry mark a = if a == entry.leave then entry.leave_at else (if a == entry.enter then Basic else mark a)
