-- The laws: of potentials, node weights and flows on a quasi-tree, of its one-ended arc or its cycle, and of the pieces of a forest.
use Rattle.std.specs.Prelude.{◌≡◌, ◌≢◌, ◌⊎◌, ◌↔◌, ◌<◌, ℕ, List, [], ◌∷◌, map}
use Rattle.gain_graphs.specs.Field.{Field, total}
use Rattle.gain_graphs.specs.Arcs.{IsIn, AreDistinct, Ends, Link, Drain, HasOneEnd, Touches, AreJoined, coefficient, balance, pull, reduced_cost}
use Rattle.gain_graphs.specs.QuasiTrees.{LiesIn, IsQuasiTree}
use Rattle.gain_graphs.specs.Forests.{IsValid, IsPiece, IsForest}
use Rattle.gain_graphs.specs.Bases.{IsBasis, IsDirection, IsExchanged}
use Rattle.gain_graphs.specs.Cycles.{arcs_along, IsNoLoop, IsCycle, IsLeastFirst, gain_along}

module _ {Scalar : Type 0} (field : Field Scalar) where
  infixl 70 ◌⊗◌
  open field use {zero, one, ◌⊗◌}

  -- ---- potentials, weights and flows

  -- the pull of node weights on an arc is their sum over the nodes, each times the arc's coefficient there
  abbrev pub PullIsSum : Type 0
  PullIsSum = (nodes : List ℕ) (e : Ends Scalar) (weight : ℕ → Scalar) → AreDistinct nodes → LiesIn field nodes e
      → total field (λ v. coefficient field e v ⊗ weight v) nodes ≡ pull field e weight

  -- for any costs there are potentials that give each arc the reduced cost 0
  abbrev pub PotentialsExist : Type 0
  PotentialsExist = (ends : ℕ → Ends Scalar) (nodes arcs : List ℕ) → IsQuasiTree field nodes (map ends arcs)
      → (cost : ℕ → Scalar) → (potential : ℕ → Scalar) × ((a : ℕ) → IsIn a arcs → reduced_cost field (ends a) (cost a) potential ≡ zero)

  -- and no others on these nodes
  abbrev pub PotentialsAreUnique : Type 0
  PotentialsAreUnique = (ends : ℕ → Ends Scalar) (nodes arcs : List ℕ) → IsQuasiTree field nodes (map ends arcs) → (cost p q : ℕ → Scalar)
      → ((a : ℕ) → IsIn a arcs → reduced_cost field (ends a) (cost a) p ≡ zero)
      → ((a : ℕ) → IsIn a arcs → reduced_cost field (ends a) (cost a) q ≡ zero) → (v : ℕ) → IsIn v nodes → p v ≡ q v

  -- for each arc there are node weights whose pull is 1 on it and 0 on every other
  abbrev pub WeightsExist : Type 0
  WeightsExist = (ends : ℕ → Ends Scalar) (nodes arcs : List ℕ) → IsQuasiTree field nodes (map ends arcs) → (a : ℕ) → IsIn a arcs
      → (weight : ℕ → Scalar) × (pull field (ends a) weight ≡ one) × ((b : ℕ) → IsIn b arcs → b ≢ a → pull field (ends b) weight ≡ zero)

  -- whatever the nodes supply, some flow on the arcs takes it
  abbrev pub FlowExists : Type 0
  FlowExists = (ends : ℕ → Ends Scalar) (nodes arcs : List ℕ) → IsQuasiTree field nodes (map ends arcs)
      → (supply : ℕ → Scalar) → (flow : ℕ → Scalar) × ((v : ℕ) → IsIn v nodes → balance field ends flow arcs v ≡ supply v)

  -- and no other
  abbrev pub FlowIsUnique : Type 0
  FlowIsUnique = (ends : ℕ → Ends Scalar) (nodes arcs : List ℕ) → IsQuasiTree field nodes (map ends arcs) → (supply x y : ℕ → Scalar)
      → ((v : ℕ) → IsIn v nodes → balance field ends x arcs v ≡ supply v)
      → ((v : ℕ) → IsIn v nodes → balance field ends y arcs v ≡ supply v) → (a : ℕ) → IsIn a arcs → x a ≡ y a

  -- a flow that takes nothing from any node is 0 on each arc
  abbrev pub NoCirculation : Type 0
  NoCirculation = (ends : ℕ → Ends Scalar) (nodes arcs : List ℕ) → IsQuasiTree field nodes (map ends arcs) → (flow : ℕ → Scalar)
      → ((v : ℕ) → IsIn v nodes → balance field ends flow arcs v ≡ zero) → (a : ℕ) → IsIn a arcs → flow a ≡ zero

  -- ---- the one-ended arc or the cycle

  -- a quasi-tree has an arc with one end or a cycle
  abbrev pub ExtraExists : Type 0
  ExtraExists = (ends : ℕ → Ends Scalar) (nodes arcs : List ℕ) → IsQuasiTree field nodes (map ends arcs) → ((a : ℕ) → IsIn a arcs → IsNoLoop (ends a))
      → ((a : ℕ) × IsIn a arcs × HasOneEnd (ends a)) ⊎ ((start : ℕ) × (way : List (ℕ × ℕ)) × IsLeastFirst ends arcs start way)

  -- it has no two arcs with one end
  abbrev pub OneEndIsUnique : Type 0
  OneEndIsUnique = (ends : ℕ → Ends Scalar) (nodes arcs : List ℕ) → IsQuasiTree field nodes (map ends arcs)
      → (a b : ℕ) → IsIn a arcs → IsIn b arcs → HasOneEnd (ends a) → HasOneEnd (ends b) → a ≡ b

  -- with an arc with one end it has no cycle
  abbrev pub NotBoth : Type 0
  NotBoth = (ends : ℕ → Ends Scalar) (nodes arcs : List ℕ) → IsQuasiTree field nodes (map ends arcs)
      → (a : ℕ) → IsIn a arcs → HasOneEnd (ends a) → (start : ℕ) (way : List (ℕ × ℕ)) → IsCycle ends arcs start way → ⊥

  -- any two of its cycles are over the same arcs
  abbrev pub CycleIsUnique : Type 0
  CycleIsUnique = (ends : ℕ → Ends Scalar) (nodes arcs : List ℕ) → IsQuasiTree field nodes (map ends arcs)
      → (start : ℕ) (way : List (ℕ × ℕ)) → IsCycle ends arcs start way → (begin : ℕ) (other : List (ℕ × ℕ)) → IsCycle ends arcs begin other
      → (a : ℕ) → IsIn a (arcs_along way) ↔ IsIn a (arcs_along other)

  -- where there is one, it can be walked from its least node along the lower of its two arcs there
  abbrev pub LeastFirstExists : Type 0
  LeastFirstExists = (ends : ℕ → Ends Scalar) (nodes arcs : List ℕ) → IsQuasiTree field nodes (map ends arcs) → ((a : ℕ) → IsIn a arcs → IsNoLoop (ends a))
      → (start : ℕ) (way : List (ℕ × ℕ)) → IsCycle ends arcs start way → (least : ℕ) × (other : List (ℕ × ℕ)) × IsLeastFirst ends arcs least other

  -- and in no other way
  abbrev pub LeastFirstIsUnique : Type 0
  LeastFirstIsUnique = (ends : ℕ → Ends Scalar) (nodes arcs : List ℕ) → IsQuasiTree field nodes (map ends arcs)
      → (start : ℕ) (way : List (ℕ × ℕ)) → IsLeastFirst ends arcs start way → (begin : ℕ) (other : List (ℕ × ℕ)) → IsLeastFirst ends arcs begin other
      → (start ≡ begin) × (way ≡ other)

  -- its cycle is not breakeven, from whatever node and in whichever direction it is walked
  abbrev pub CycleIsNotBreakeven : Type 0
  CycleIsNotBreakeven = (ends : ℕ → Ends Scalar) (nodes arcs : List ℕ) → IsQuasiTree field nodes (map ends arcs) → ((a : ℕ) → IsIn a arcs → IsNoLoop (ends a))
      → (start : ℕ) (way : List (ℕ × ℕ)) → IsCycle ends arcs start way → gain_along field ends start way ≢ one

  -- where an arc leaves a quasi-tree, there are two nodes to one of which each node is still joined: so at most two pieces are left
  abbrev pub OneOfTwoRoots : Type 0
  OneOfTwoRoots = (ends : ℕ → Ends Scalar) (nodes arcs : List ℕ) → IsQuasiTree field nodes (map ends arcs) → (leave : ℕ) → IsIn leave arcs
      → (others : List ℕ) → ((a : ℕ) → IsIn a arcs → a ≢ leave → IsIn a others) → (u : ℕ) × (v : ℕ) × IsIn u nodes × IsIn v nodes
      × ((x : ℕ) → IsIn x nodes → AreJoined (map ends others) x u ⊎ AreJoined (map ends others) x v)

  -- ---- forests

  -- each node lies in a piece of the basic arcs
  abbrev pub PieceExists : Type 0
  PieceExists = (n : ℕ) (ends : ℕ → Ends Scalar) (basic : List ℕ) → AreDistinct basic → ((a : ℕ) → IsIn a basic → IsValid field n (ends a))
      → (v : ℕ) → v < n → (least : ℕ) × (nodes : List ℕ) × (arcs : List ℕ) × IsPiece n ends basic least nodes arcs × IsIn v nodes

  -- and in no other: pieces that share a node have the same nodes and arcs
  abbrev pub PieceIsUnique : Type 0
  PieceIsUnique = (n : ℕ) (ends : ℕ → Ends Scalar) (basic : List ℕ)
      → (least : ℕ) (nodes arcs : List ℕ) → IsPiece n ends basic least nodes arcs
      → (first : ℕ) (others theirs : List ℕ) → IsPiece n ends basic first others theirs → (v : ℕ) → IsIn v nodes → IsIn v others
      → (least ≡ first) × ((u : ℕ) → IsIn u nodes ↔ IsIn u others) × ((a : ℕ) → IsIn a arcs ↔ IsIn a theirs)

  -- where the basic arcs that touch a piece stay the same, it stays a piece
  abbrev pub PieceIsKept : Type 0
  PieceIsKept = (n : ℕ) (ends : ℕ → Ends Scalar) (basic other : List ℕ) → ((a : ℕ) → IsIn a basic → IsValid field n (ends a))
      → (least : ℕ) (nodes arcs : List ℕ) → IsPiece n ends basic least nodes arcs
      → ((a : ℕ) → Touches nodes (ends a) → IsIn a basic ↔ IsIn a other) → IsPiece n ends other least nodes arcs

  -- ---- bases

  -- the bases of a network are its augmented forests
  abbrev pub BasesAreForests : Type 0
  BasesAreForests = (n : ℕ) (ends : ℕ → Ends Scalar) (basic : List ℕ) → AreDistinct basic → ((a : ℕ) → IsIn a basic → IsValid field n (ends a))
      → IsBasis field n ends basic ↔ IsForest field n ends basic

  -- an arc outside of a basis has a direction with any amount on it
  abbrev pub DirectionExists : Type 0
  DirectionExists = (n : ℕ) (ends : ℕ → Ends Scalar) (basic : List ℕ) → ((a : ℕ) → IsIn a basic → IsValid field n (ends a)) → IsBasis field n ends basic
      → (enter : ℕ) → (¬ IsIn enter basic) → (amount : Scalar) → (flow : ℕ → Scalar) × (flow enter ≡ amount) × IsDirection field n ends basic enter flow

  -- and no other
  abbrev pub DirectionIsUnique : Type 0
  DirectionIsUnique = (n : ℕ) (ends : ℕ → Ends Scalar) (basic : List ℕ) → IsBasis field n ends basic → (enter : ℕ) (x y : ℕ → Scalar)
      → IsDirection field n ends basic enter x → IsDirection field n ends basic enter y → x enter ≡ y enter → (a : ℕ) → IsIn a basic → x a ≡ y a

  -- where it enters, and an arc leaves on which its direction is not 0, the basic arcs are a basis again
  abbrev pub ExchangeKeepsBasis : Type 0
  ExchangeKeepsBasis = (n : ℕ) (ends : ℕ → Ends Scalar) (basic : List ℕ) → IsBasis field n ends basic → (enter leave : ℕ)
      → (¬ IsIn enter basic) → IsIn leave basic → (flow : ℕ → Scalar) → IsDirection field n ends basic enter flow → flow leave ≢ zero
      → (other : List ℕ) → IsExchanged basic other enter leave → IsBasis field n ends other

  -- ---- examples

  -- a node with a drain is a quasi-tree
  abbrev pub RootedExample : Type 0
  RootedExample = (v : ℕ) → IsQuasiTree field (v ∷ []) (Drain v ∷ [])

  -- two nodes with two links of gain 1 and of another gain are a quasi-tree
  abbrev pub CycleExample : Type 0
  CycleExample = (gain : Scalar) → gain ≢ zero → gain ≢ one → IsQuasiTree field (0 ∷ 1 ∷ []) (Link 0 1 one ∷ Link 0 1 gain ∷ [])

-- three elements
pub data Three : Type 0 where
  Zero : Three
  One : Three
  Two : Three

-- they are those of a field, with an element beside 0 and 1
abbrev pub FieldExample : Type 0
FieldExample = (field : Field Three) × (gain : Three) × (gain ≢ field.zero) × (gain ≢ field.one)
