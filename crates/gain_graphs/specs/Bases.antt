-- Bases of a network of n nodes, directions of the arcs outside of a basis, and the exchange of one arc for another.
use Rattle.std.specs.Prelude.{◌≡◌, ◌≢◌, ◌⊎◌, ◌↔◌, ◌<◌, ℕ, List, ◌∷◌, length}
use Rattle.gain_graphs.specs.Field.{Field}
use Rattle.gain_graphs.specs.Arcs.{IsIn, AreDistinct, Ends, balance}

module _ {Scalar : Type 0} (field : Field Scalar) (n : ℕ) where
  open field use {zero}

  -- as many basic arcs as nodes, and on them no flow but 0 takes nothing from every node: so their columns of coefficients are a basis
  pub record IsBasis (ends : ℕ → Ends Scalar) (basic : List ℕ) : Type 0 where
    pub once : AreDistinct basic
    pub as_many : length basic ≡ n
    pub independent : (flow : ℕ → Scalar) → ((v : ℕ) → v < n → balance field ends flow basic v ≡ zero) → (a : ℕ) → IsIn a basic → flow a ≡ zero

  -- a direction of an arc that enters: a flow on it and the basic arcs that takes nothing from any node
  abbrev pub IsDirection : (ℕ → Ends Scalar) → List ℕ → ℕ → (ℕ → Scalar) → Type 0
  IsDirection ends basic enter flow = (v : ℕ) → v < n → balance field ends flow (enter ∷ basic) v ≡ zero

-- one arc has entered the basic arcs, and one has left them
pub record IsExchanged (basic other : List ℕ) (enter leave : ℕ) : Type 0 where
  pub once : AreDistinct other
  pub are : (a : ℕ) → IsIn a other ↔ ((a ≡ enter) ⊎ (IsIn a basic × (a ≢ leave)))
