-- Arcs numbered as their nodes are: a quasi-tree where links join all nodes to node 0.
use Rattle.std.specs.Prelude.{◌≡◌, ℕ, ◌<◌, List, [], ◌∷◌, map}
use Rattle.std.specs.List.{range_with_len}
use Rattle.std.proofs.Common.{refl, sym, subst, arith}
use Rattle.gain_graphs.specs.Arcs.{IsIn, Ends, Link, Along, AreJoined}
use Rattle.gain_graphs.specs.QuasiTrees.{LiesIn, HasExtra, IsQuasiTree}
use Rattle.gain_graphs.proofs.Lists.{in_map, in_map_of, length_map}
use Rattle.gain_graphs.proofs.Walks.{joined_trans, joined_sym}
use Rattle.np_frac.specs.Ratio.{Ratio}
use Rattle.np_model.specs.Basis.Graphs.{ratios}
use Rattle.np_basis.proofs.Ascending.{ascends_once}
use Rattle.gain_graphs.proofs.Lists.{range_holds, range_within}
use Rattle.np_basis.proofs.Basics.{range_ascends}

pub below_holds : (n v : ℕ) → v < n → IsIn v (range_with_len 0 n)
below_holds n v below = range_holds 0 n v (omega arith) (omega arith)

pub holds_below : (n v : ℕ) → IsIn v (range_with_len 0 n) → v < n
holds_below n v is_in = let r = range_within 0 n v is_in in omega (arith, r.1)

module _ (n : ℕ) (ends : ℕ → Ends Ratio) where
  abbrev nodes : List ℕ
  nodes = range_with_len 0 n

  abbrev arcs : List (Ends Ratio)
  arcs = map ends (range_with_len 0 n)

  pub stands : (v : ℕ) (e : Ends Ratio) → v < n → ends v ≡ e → IsIn e arcs
  stands v e below same = subst (λ t. IsIn t arcs) same (in_map ends v nodes (below_holds n v below))

  pub over_link : (v i j : ℕ) (g : Ratio) → v < n → ends v ≡ Link i j g → AreJoined arcs i j
  over_link v i j g below same = (Along i j g ∷ [], (refl, stands v (Link i j g) below same, refl))

  pub quasi_tree_if : 0 < n → ((v : ℕ) → v < n → LiesIn ratios nodes (ends v)) → ((v : ℕ) → v < n → AreJoined arcs 0 v) → HasExtra ratios nodes arcs → IsQuasiTree ratios nodes arcs
  quasi_tree_if some lies joined extra = record {
    nodes_once = ascends_once nodes (range_ascends 0 n);
    some_node = (0, below_holds n 0 some);
    ends_inside = λ a is_in. let r = in_map_of ends a nodes is_in in subst (λ t. LiesIn ratios nodes t) (sym r.2) (lies r.0 (holds_below n r.0 r.1));
    joined = λ u v at_u at_v. joined_trans arcs u 0 v (joined_sym arcs 0 u (joined u (holds_below n u at_u))) (joined v (holds_below n v at_v));
    as_many = length_map ends nodes;
    extra = extra;
  }
