-- What the calls on a piece of a network need.
use Rattle.std.specs.Prelude.{◌≡◌, ◌≢◌, ◌<◌, ℕ, zero, suc, List, [], ◌∷◌, length, slice_index, slice_index_or, Ok, pos}
use Rattle.std.specs.List.{All}
use Rattle.std.proofs.Common.{sym, subst, ◌∙◌, arith}
use Rattle.gain_graphs.specs.Arcs.{IsIn}
use Rattle.gain_graphs.specs.Cycles.{IsNoLoop, IsWay}
use Rattle.gain_graphs.specs.QuasiTrees.{LiesIn}
use Rattle.gain_graphs.proofs.Lists.{in_map, length_map, in_list}
use Rattle.np_frac.specs.Ratio.{Ratio, zero_ratio}
use Rattle.np_frac.proofs.Parts.{num_apart}
use Rattle.np_model.specs.declared.arc.Ends.{Ends}
use Rattle.np_model.specs.declared.arc.Ends.TheVariants.{Link, Drain, Feed}
use Rattle.np_model.specs.Network.Flows.{Network}
use Rattle.np_model.specs.Basis.Graphs.{ratios, graph_ends, graph_of, ends_at}
use Rattle.np_model.specs.Basis.Pieces.{PieceLists, nodes_in, basics_in}
use Rattle.np_model.specs.Basis.Sound.{IsInNet}
use Rattle.np_model.specs.Rows.Extra.{Round, IsExtra}
use Rattle.np_basis.specs.Laws.{HasSoundArcs}
use Rattle.np_basis.proofs.Trees.{lies}
use Rattle.np_basis.proofs.Extras.{no_loops}
use Rattle.np_basis.proofs.Divisors.{directions_divisor}
use Rattle.tree_search.specs.declared.piece.Step.{Step}
use Rattle.tree_search.specs.declared.piece.Joint.{Joint}
use Rattle.tree_search.specs.declared.piece.ExtraArc.{ExtraArc}
use Rattle.tree_search.specs.declared.piece.ExtraArc.TheVariants as found
use Rattle.tree_search.specs.declared.search.Search.{Search}
use Rattle.tree_search.specs.Places.{loose, number_by_place, AreEndsOf, AreJoints, IsTree, HasGain}
use Rattle.tree_search.specs.Search.{IsSearch}
use Rattle.tree_search.specs.Finding.{first_node, way_of, starts_of, IsFound, IsPlaced}
use Rattle.tree_search.proofs.Placed.{joints_below, placed}
use Rattle.tree_search.proofs.Trees.{ends_is}
use Rattle.tree_flows.specs.Along.{HaveGains, IsWithin, AreJoined, last_of, divisor_of}
use Rattle.tree_flows.specs.Walks.{CanClose, HasDivisor}
use Rattle.tree_flows.proofs.Balances.{step_joins}
use Rattle.tree_flows.proofs.Mixing as mixing
use Rattle.tree_flows.proofs.Walked.{all_places}

pub last_within : (nodes : List (ℕ × Ratio)) (basics : List (ℕ × Ends × Ratio)) (z : Step) (rest : List Step) → IsWithin nodes basics z → All (λ s. IsWithin nodes basics s) rest → IsWithin nodes basics (last_of z rest)
last_within nodes basics z [] w h = w
last_within nodes basics z (n ∷ rest) w h = last_within nodes basics n rest (h zero n (omega arith)) (λ j d m. h (suc j) d (omega arith))

module _ (net : Network) (piece : PieceLists) (sound : HasSoundArcs net) (h : IsInNet net piece) where
  abbrev ends : ℕ → Ends
  ends = ends_at net.arcs

  pub tree : IsTree (nodes_in piece) piece.basics
  tree = record {
    nodes_ascend = h.shape.nodes_ascend;
    basics_ascend = h.shape.basics_ascend;
    quasi_tree = h.shape.quasi_tree;
    no_loops = λ b i. subst (λ e. IsNoLoop (graph_ends e)) (sym (h.basic b i).1) (no_loops net piece sound h b.0 (in_map (λ (b : ℕ × Ends × Ratio). b.0) b piece.basics i));
  }

  of_ends : AreEndsOf ends piece.basics
  of_ends b i = sym (h.basic b i).1

  pub gains : HaveGains piece.basics
  gains k d l = go (slice_index_or piece.basics k d).1
      (let i = in_list piece.basics k d l in
      subst (λ e. LiesIn ratios (nodes_in piece) (graph_ends e)) (sym (h.basic (slice_index_or piece.basics k d) i).1)
      (lies net piece h (slice_index_or piece.basics k d).0 (in_map (λ (b : ℕ × Ends × Ratio). b.0) (slice_index_or piece.basics k d) piece.basics i)))
    where
      go : (e : Ends) → LiesIn ratios (nodes_in piece) (graph_ends e) → HasGain e
      go (Link i j g) l = num_apart g l.2
      go (Drain i) l = record {}
      go (Feed i) l = record {}

  as_long : length (nodes_in piece) ≡ length piece.nodes
  as_long = length_map (λ (n : ℕ × Ratio). n.0) piece.nodes

  to_within : (t : Step) → IsPlaced (nodes_in piece) piece.basics t → IsWithin piece.nodes piece.basics t
  to_within t w = (w.0, subst (λ n. t.near < n) as_long w.1, subst (λ n. t.far < n) as_long w.2)

  module _ (joints : List Joint) (are : AreJoints (nodes_in piece) piece.basics joints) where
    pub steps_within : (extra : ExtraArc) (n : ℕ) (search : Search) → IsSearch joints n (starts_of joints extra) search → All (λ t. IsWithin piece.nodes piece.basics t) search.steps.items
    steps_within extra n search is k d l =
        to_within (slice_index_or search.steps.items k d) (placed (nodes_in piece) piece.basics joints are search.steps.items (starts_of joints extra) is.goes (slice_index_or search.steps.items k d) (in_list search.steps.items k d l))

    pub steps_joined : (extra : ExtraArc) (n : ℕ) (search : Search) → IsSearch joints n (starts_of joints extra) search → AreJoined joints search.steps.items
    steps_joined extra n search is k d l =
        step_joins joints (starts_of joints extra) search.steps.items is.goes (slice_index_or search.steps.items k d) (in_list search.steps.items k d l)

    -- the divisor of its cycle is not 0
    round_apart : (first : Step) (rest : List Step) → ((z : Step) → IsIn z (first ∷ rest) → IsWithin piece.nodes piece.basics z)
        → IsExtra ends (basics_in piece) (Round (first_node (nodes_in piece) (first ∷ rest)) (way_of (nodes_in piece) piece.basics (first ∷ rest)))
        → (last : Ratio) → divisor_of piece.nodes piece.basics first rest ≡ Ok last → last.num ≢ pos 0
    round_apart first rest within is last e =
        num_apart last (directions_divisor net piece (λ _. zero_ratio) k (number_by_place piece.basics first.arc, slice_index (nodes_in piece) first.far) (way_of (nodes_in piece) piece.basics rest) last sound h is
        (sym (mixing.divisor_is piece.nodes piece.basics ends (λ _. zero_ratio) first rest k (λ u i. ends_is ends piece.basics of_ends u.arc (within u i).0) (way_end first rest k is.cycle.closes)) ∙ e))
      where
        k : ℕ
        k = first_node (nodes_in piece) (first ∷ rest)

        way_end : (z : Step) (l : List Step) (u : ℕ) → IsWay (graph_of ends) (basics_in piece) u (way_of (nodes_in piece) piece.basics (z ∷ l)) k → slice_index (nodes_in piece) (last_of z l).far ≡ k
        way_end z [] u c = c.2
        way_end z (n ∷ l) u c = way_end n l (slice_index (nodes_in piece) z.far) c.2

    divides : (items : List Step) → 0 < length items → ((z : Step) → IsIn z items → IsWithin piece.nodes piece.basics z)
        → IsExtra ends (basics_in piece) (Round (first_node (nodes_in piece) items) (way_of (nodes_in piece) piece.basics items)) → HasDivisor piece.nodes piece.basics items
    divides [] l within is = absurd (omega arith)
    divides (first ∷ rest) l within is = round_apart first rest within is

    pub closes : (extra : ExtraArc) → IsFound (nodes_in piece) piece.basics joints extra → CanClose piece.nodes piece.basics joints extra
    closes (found.OneEnd arc) is =
        let l : arc < length joints = subst (λ n. arc < n) (sym are.long) is.laid_out.0 in
        (is.laid_out.0, l, subst (λ n. (slice_index_or joints arc loose).from < n) as_long (joints_below (nodes_in piece) piece.basics joints are arc loose l).0)
    closes (found.Round cycle) is = (
      is.laid_out.0,
      (λ i d l. within (slice_index_or cycle.items i d) (in_list cycle.items i d l)),
      divides cycle.items is.laid_out.0 within (is.is_extra ends of_ends),
    )
      where
        within : (z : Step) → IsIn z cycle.items → IsWithin piece.nodes piece.basics z
        within z i = to_within z (all_places (λ step. IsPlaced (nodes_in piece) piece.basics step) cycle.items is.laid_out.1 z i)
