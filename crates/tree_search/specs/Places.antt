-- A piece by places: an ascending list of nodes, and an ascending list of basic arcs with their ends. (This project's own.)
use Rattle.std.specs.Prelude.{◌≡◌, ◌≢◌, ◌↔◌, ◌<◌, ⊤, ℕ, pos, List, map, length, slice_index, slice_index_or}
use Rattle.std.specs.List.Sorted.{IsStrictlyIncreasing}
use Rattle.gain_graphs.specs.Arcs.{IsIn}
use Rattle.gain_graphs.specs.Cycles.{IsNoLoop}
use Rattle.gain_graphs.specs.QuasiTrees.{IsQuasiTree}
use Rattle.np_frac.specs.Ratio.{Ratio, zero_ratio}
use Rattle.np_model.specs.declared.arc.Ends.{Ends}
use Rattle.np_model.specs.declared.arc.Ends.TheVariants.{Link, Drain, Feed}
use Rattle.np_model.specs.Basis.Graphs.{ratios, graph_ends}
use Rattle.tree_search.specs.declared.piece.Joint.{Joint}

-- nodes by number, each with a potential
abbrev pub numbers_of_nodes : List (ℕ × Ratio) → List ℕ
numbers_of_nodes nodes = map (λ n. n.0) nodes

-- arcs by number, each with its ends and its flow
abbrev pub numbers_of_arcs : List (ℕ × Ends × Ratio) → List ℕ
numbers_of_arcs basics = map (λ b. b.0) basics

abbrev pub ends_of_arcs : List (ℕ × Ends × Ratio) → List Ends
ends_of_arcs basics = map (λ b. b.1) basics

-- what stands for an arc, and for its ends by places, where there is none
abbrev pub blank : ℕ × Ends × Ratio
blank = (0, Drain 0, zero_ratio)

abbrev pub loose : Joint
loose = record { from = 0; to = 0 }

abbrev pub number_by_place : List (ℕ × Ends × Ratio) → ℕ → ℕ
number_by_place basics a = (slice_index_or basics a blank).0

abbrev pub ends_by_place : List (ℕ × Ends × Ratio) → ℕ → Ends
ends_by_place basics a = (slice_index_or basics a blank).1

-- these are the ends of the arcs, by their numbers
abbrev pub AreEndsOf : (ℕ → Ends) → List (ℕ × Ends × Ratio) → Type 0
AreEndsOf ends basics = (b : ℕ × Ends × Ratio) → IsIn b basics → ends b.0 ≡ b.1

-- the gain of a link is not 0
abbrev pub HasGain : Ends → Type 0
HasGain (Link from to gain) = gain.num ≢ pos 0
HasGain (Drain at) = ⊤
HasGain (Feed at) = ⊤

-- ---- places

-- the node stands at this place
abbrev pub IsPlaceOf : List ℕ → ℕ → ℕ → Type 0
IsPlaceOf nodes v place = (place < length nodes) × (slice_index nodes place ≡ v)

-- it stands in the list
abbrev pub HasPlace : List ℕ → ℕ → Type 0
HasPlace nodes v = (place : ℕ) × IsPlaceOf nodes v place

abbrev pub EndsHavePlaces : List ℕ → Ends → Type 0
EndsHavePlaces nodes (Link from to gain) = HasPlace nodes from × HasPlace nodes to
EndsHavePlaces nodes (Drain at) = HasPlace nodes at
EndsHavePlaces nodes (Feed at) = HasPlace nodes at

-- the ends of an arc by their places; an arc with one end has it twice
abbrev pub IsJoint : List ℕ → Ends → Joint → Type 0
IsJoint nodes (Link from to gain) j = IsPlaceOf nodes from j.from × IsPlaceOf nodes to j.to
IsJoint nodes (Drain at) j = IsPlaceOf nodes at j.from × (j.to ≡ j.from)
IsJoint nodes (Feed at) j = IsPlaceOf nodes at j.from × (j.to ≡ j.from)

-- the ends of each arc by their places
pub record AreJoints (nodes : List ℕ) (basics : List (ℕ × Ends × Ratio)) (joints : List Joint) : Type 0 where
  pub long : length joints ≡ length basics
  pub each : (a : ℕ) → a < length basics → IsJoint nodes (ends_by_place basics a) (slice_index_or joints a loose)

-- these places are those of the nodes
abbrev pub ArePlaces : List ℕ → List ℕ → List ℕ → Type 0
ArePlaces nodes places list = (v : ℕ) → IsIn v list ↔ ((p : ℕ) × IsIn p places × IsPlaceOf nodes v p)

-- ---- pieces

-- a quasi-tree by ascending lists of its nodes and its arcs, none of them a loop
pub record IsTree (nodes : List ℕ) (basics : List (ℕ × Ends × Ratio)) : Type 0 where
  pub nodes_ascend : IsStrictlyIncreasing nodes
  pub basics_ascend : IsStrictlyIncreasing (numbers_of_arcs basics)
  pub quasi_tree : IsQuasiTree ratios nodes (map graph_ends (ends_of_arcs basics))
  pub no_loops : (b : ℕ × Ends × Ratio) → IsIn b basics → IsNoLoop (graph_ends b.1)
