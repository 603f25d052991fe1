-- What makes a full network valid: its artificial arcs, one at each node. (This project's own.)
use Rattle.std.specs.Prelude.{◌≡◌, ℕ, ◌<◌, List, length, slice_index_or}
use Rattle.std.proofs.Props.{props}
use Rattle.np_model.specs.declared.arc.Ends.{Ends}
use Rattle.np_model.specs.declared.arc.Ends.TheVariants.{Link, Drain, Feed}

-- a drain or a feed at the node
abbrev pub IsOneEndAt : ℕ → Ends → Type 0
IsOneEndAt v (Link from to gain) = ⊥
IsOneEndAt v (Drain at) = at ≡ v
IsOneEndAt v (Feed at) = at ≡ v

-- one for each of n nodes, in order
pub record AreArtificial (n : ℕ) (artificial : List Ends) : Type 0 where
  pub one_each : length artificial ≡ n
  pub at_nodes : (v : ℕ) (other : Ends) → v < n → IsOneEndAt v (slice_index_or artificial v other)

-- ---- each of these facts has one proof at most

IsOneEndAt-prop : (v : ℕ) (e : Ends) → IsProp (IsOneEndAt v e)
IsOneEndAt-prop v (Link from to gain) = hlevel props
IsOneEndAt-prop v (Drain at) = hlevel props
IsOneEndAt-prop v (Feed at) = hlevel props

pub AreArtificial-prop : (n : ℕ) (artificial : List Ends) → IsProp (AreArtificial n artificial)
AreArtificial-prop n artificial = hlevel (props, IsOneEndAt-prop)
