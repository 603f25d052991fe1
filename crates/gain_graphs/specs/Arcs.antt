-- Gain graphs: arcs between numbered nodes, where what enters a link comes out times its gain. Incidence coefficients and reduced costs are
-- those of Ahuja, Magnanti and Orlin, Network Flows, chapter 15; arcs with one end are Zaslavsky's half edges.
use Rattle.std.specs.Prelude.{◌≡◌, ◌⊎◌, ℕ, List, [], ◌∷◌, cond, nat_eq, ⊤}
use Rattle.gain_graphs.specs.Field.{Field, total}

-- a link leads from its tail to its head and has a gain; a drain takes out of the network at its node, and a feed brings in there
pub data Ends (Scalar : Type 0) : Type 0 where
  Link : ℕ → ℕ → Scalar → Ends Scalar
  Drain : ℕ → Ends Scalar
  Feed : ℕ → Ends Scalar

-- one step of a walk: over a link, from its tail to its head or from its head to its tail
pub data Step (Scalar : Type 0) : Type 0 where
  Along : ℕ → ℕ → Scalar → Step Scalar
  Against : ℕ → ℕ → Scalar → Step Scalar

-- the value is one of the list
abbrev pub IsIn : {A : Type 0} → A → List A → Type 0
IsIn x [] = ⊥
IsIn x (y ∷ ys) = (x ≡ y) ⊎ IsIn x ys

-- no number stands twice in the list
abbrev pub AreDistinct : List ℕ → Type 0
AreDistinct [] = ⊤
AreDistinct (v ∷ vs) = (¬ IsIn v vs) × AreDistinct vs

module _ {Scalar : Type 0} where
  -- a drain or a feed
  abbrev pub HasOneEnd : Ends Scalar → Type 0
  HasOneEnd (Link i j g) = ⊥
  HasOneEnd (Drain i) = ⊤
  HasOneEnd (Feed i) = ⊤

  -- an end of the arc is one of these nodes
  abbrev pub Touches : List ℕ → Ends Scalar → Type 0
  Touches nodes (Link i j g) = IsIn i nodes ⊎ IsIn j nodes
  Touches nodes (Drain i) = IsIn i nodes
  Touches nodes (Feed i) = IsIn i nodes

  -- the steps lead from u to v over links of the list
  abbrev pub IsWalk : List (Ends Scalar) → ℕ → List (Step Scalar) → ℕ → Type 0
  IsWalk arcs u [] v = u ≡ v
  IsWalk arcs u (Along i j g ∷ steps) v = (u ≡ i) × IsIn (Link i j g) arcs × IsWalk arcs j steps v
  IsWalk arcs u (Against i j g ∷ steps) v = (u ≡ j) × IsIn (Link i j g) arcs × IsWalk arcs i steps v

  -- a walk over links of the list leads from u to v
  abbrev pub AreJoined : List (Ends Scalar) → ℕ → ℕ → Type 0
  AreJoined arcs u v = (steps : List (Step Scalar)) × IsWalk arcs u steps v

module _ {Scalar : Type 0} (field : Field Scalar) where
  infixl 60 ◌⊕◌
  infixl 70 ◌⊗◌
  open field use {zero, one, ◌⊕◌, ◌⊗◌, negated, inverse}

  -- the product of the gains, inverted on links that are walked against their direction
  abbrev pub product : List (Step Scalar) → Scalar
  product [] = one
  product (Along i j g ∷ steps) = g ⊗ product steps
  product (Against i j g ∷ steps) = inverse g ⊗ product steps

  -- x at node i, and 0 elsewhere
  abbrev pub only_at : ℕ → Scalar → ℕ → Scalar
  only_at i x v = cond (nat_eq v i) x zero

  -- the incidence coefficient: what leaves the node for each unit that enters the arc
  abbrev pub coefficient : Ends Scalar → ℕ → Scalar
  coefficient (Link i j g) v = only_at i one v ⊕ only_at j (negated g) v
  coefficient (Drain i) v = only_at i one v
  coefficient (Feed i) v = only_at i (negated one) v

  -- what these arcs take from a node with these flows
  abbrev pub balance : {A : Type 0} → (A → Ends Scalar) → (A → Scalar) → List A → ℕ → Scalar
  balance ends flow arcs v = total field (λ a. coefficient (ends a) v ⊗ flow a) arcs

  -- the sum of node weights, each times the coefficient of the arc at its node
  abbrev pub pull : Ends Scalar → (ℕ → Scalar) → Scalar
  pull (Link i j g) weight = weight i ⊕ negated (g ⊗ weight j)
  pull (Drain i) weight = weight i
  pull (Feed i) weight = negated (weight i)

  -- the cost of an arc less the pull of the potentials
  abbrev pub reduced_cost : Ends Scalar → Scalar → (ℕ → Scalar) → Scalar
  reduced_cost ends cost potential = cost ⊕ negated (pull ends potential)
