-- A flip: the basic arcs stay, so the new pieces are the old ones, with their potentials.
use Rattle.std.specs.Prelude.{◌≡◌, ◌↔◌, ℕ, List, [], ◌∷◌, ◌++◌, map, length, slice_index}
use Rattle.std.proofs.Common.{sym, subst, inl, inr}
use Rattle.gain_graphs.specs.Arcs as graph
use Rattle.gain_graphs.specs.Arcs.{IsIn, Touches, AreJoined, Step, Along, Against, IsWalk}
use Rattle.gain_graphs.specs.QuasiTrees.{LiesIn}
use Rattle.gain_graphs.proofs.Lists.{in_map, in_map_of}
use Rattle.gain_graphs.proofs.Pieces as graph_pieces
use Rattle.gain_graphs.proofs.Theorems as theorems
use Rattle.np_frac.specs.Ratio.{Ratio, zero_ratio}
use Rattle.np_model.specs.Network.Flows.{Network}
use Rattle.np_model.specs.Basis.Graphs.{ratios, graph_of, arc_at, ends_at, cost_at}
use Rattle.np_model.specs.Basis.Pieces.{PieceLists, nodes_in, basics_in, beside, nodes_of, basics_of}
use Rattle.np_model.specs.Basis.Sound.{IsSound, AreSound}
use Rattle.np_model.specs.Basis.States.{price, IsPartOf}
use Rattle.np_model.specs.Rows.Potentials.{PotentialsFit}
use Rattle.np_basis.proofs.Ascending.{ascends, ascends_once, same_rising}
use Rattle.np_basis.proofs.Reading.{in_flat, in_flat_of}
use Rattle.np_basis.proofs.Roots.{joined_more}
use Rattle.np_basis.proofs.Sound as sounds
use Rattle.np_basis.proofs.Trees as trees
use Rattle.piece_lists.specs.Joining.{all_nodes}
use Rattle.pivot_step.specs.After.{HasRightPotentials}
use Rattle.pivot_step.proofs.Entries.{same_entries}
use Rattle.pivot_step.proofs.Found.{first_in, first_least, some_long}

-- ---- parts of the same basic arcs

-- two with a node in common have the same nodes and arcs
pub same_part : (net : Network) (basic nodes numbers others theirs : List ℕ) → IsPartOf net basic nodes numbers → IsPartOf net basic others theirs → (v : ℕ) → IsIn v nodes → IsIn v others → (nodes ≡ others) × (numbers ≡ theirs)
same_part net basic nodes numbers others theirs p q v i j =
    let same = theorems.piece_is_unique ratios (length net.supply) (graph_of (ends_at net.arcs)) basic p.least nodes numbers p.is_piece q.least others theirs q.is_piece v i j in (
      same_rising nodes others p.nodes_ascend q.nodes_ascend (λ u. (same.1 u).0) (λ u. (same.1 u).1),
      same_rising numbers theirs p.arcs_ascend q.arcs_ascend (λ a. (same.2 a).0) (λ a. (same.2 a).1),
    )

module _ (net : Network) (ps : List PieceLists) (sound : AreSound net ps) (basic : List ℕ) (same_basic : (a : ℕ) → IsIn a basic ↔ IsIn a (basics_of ps)) where
  -- a basic arc that touches a piece is one of its own
  own_of : (p : PieceLists) → IsIn p ps → (a : ℕ) → IsIn a basic → Touches (nodes_in p) (graph_of (ends_at net.arcs) a) → IsIn a (basics_in p)
  own_of p i a j k =
      let r = in_flat_of basics_in ps a ((same_basic a).0 j) in
      let w = graph_pieces.both ratios (length net.supply) (graph_of (ends_at net.arcs)) (nodes_in r.0) (nodes_in p) (graph_of (ends_at net.arcs) a) (sounds.inside net ps sound r.0 a r.1 r.2) k in
      subst (λ x. IsIn a (basics_in x)) (sounds.same_piece ps sound.apart r.0 p r.1 i w.0 w.1 w.2) r.2

  now_basic : (p : PieceLists) → IsIn p ps → (a : ℕ) → IsIn a (basics_in p) → IsIn a basic
  now_basic p i a j = (same_basic a).1 (in_flat basics_in ps p a i j)

  -- a link with an end in a piece has both there
  both_in : (p : PieceLists) → IsIn p ps → (e : graph.Ends Ratio) → IsIn e (map (graph_of (ends_at net.arcs)) basic) → Touches (nodes_in p) e → LiesIn ratios (nodes_in p) e
  both_in p i e m t =
      let a = in_map_of (graph_of (ends_at net.arcs)) e basic m in
      subst (LiesIn ratios (nodes_in p)) (sym a.2) (sounds.inside net ps sound p a.0 i (own_of p i a.0 a.1 (subst (Touches (nodes_in p)) a.2 t)))

  -- no walk leaves a piece
  stays : (p : PieceLists) → IsIn p ps → (w : List (Step Ratio)) (u v : ℕ) → IsIn u (nodes_in p) → IsWalk (map (graph_of (ends_at net.arcs)) basic) u w v → IsIn v (nodes_in p)
  stays p i [] u v j h = subst (λ x. IsIn x (nodes_in p)) h j
  stays p i (Along f g k ∷ w) u v j h = stays p i w g v (both_in p i (graph.Link f g k) h.1 (inl (subst (λ x. IsIn x (nodes_in p)) h.0 j))).1 h.2
  stays p i (Against f g k ∷ w) u v j h = stays p i w f v (both_in p i (graph.Link f g k) h.1 (inr (subst (λ x. IsIn x (nodes_in p)) h.0 j))).0 h.2

  pub old_part : (p : PieceLists) → IsIn p ps → IsPartOf net basic (nodes_in p) (basics_in p)
  old_part p i =
      let own = (sound.each p i).in_net in
      let tree = trees.tree net p own in
      let rise = ascends (nodes_in p) own.shape.nodes_ascend in
      let has = first_in (nodes_in p) (some_long (nodes_in p) tree.some_node.0 tree.some_node.1) in
      record {
        nodes_ascend = own.shape.nodes_ascend;
        arcs_ascend = own.shape.basics_ascend;
        least = first p;
        is_piece = record {
          nodes_once = ascends_once (nodes_in p) rise;
          arcs_once = ascends_once (basics_in p) (ascends (basics_in p) own.shape.basics_ascend);
          has_least = has;
          is_least = first_least (nodes_in p) rise;
          joined = λ v. (
            (λ j. (own.nodes v j, joined_more (graph_of (ends_at net.arcs)) (basics_in p) basic (now_basic p i) (first p) v (tree.joined (first p) v has j))),
            (λ r. stays p i r.1.0 (first p) v has r.1.1),
          );
          touched = λ a. (
            (λ j. (now_basic p i a j, sounds.lies_touch (nodes_in p) (graph_of (ends_at net.arcs) a) (sounds.inside net ps sound p a i j))),
            (λ r. own_of p i a r.0 r.1),
          );
        };
      }
    where
      first : PieceLists → ℕ
      first q = slice_index (nodes_in q) 0

  -- a part with potentials of before has its right potentials
  pub flip_settled : (q : PieceLists) → IsPartOf net basic (nodes_in q) (basics_in q) → ((v : ℕ) → IsIn v (nodes_in q) → IsIn v (nodes_of ps)) → ((n : ℕ × Ratio) → IsIn n q.nodes → IsIn n (all_nodes ps)) → HasRightPotentials net q
  flip_settled q part inside entries = record {
    priced = λ a i. subst (λ (ns : List (ℕ × Ratio)). price (λ v. beside zero_ratio (ns ++ []) v) (arc_at net.arcs a) ≡ zero_ratio) (sym nodes) (own.priced a (subst (IsIn a) same.1 i));
    fit = λ n i. own.potentials_fit n (subst (IsIn n) nodes i);
    rows_fit = subst (λ (ns : List (ℕ × Ratio)). PotentialsFit (ends_at net.arcs) (cost_at net.arcs) (basics_in q) (λ v. beside zero_ratio (ns ++ []) v)) (sym nodes)
        (subst (λ (arcs : List ℕ). PotentialsFit (ends_at net.arcs) (cost_at net.arcs) arcs (λ v. beside zero_ratio (r.0.nodes ++ []) v)) (sym same.1) own.rows_fit);
  }
    where
      r : (p : PieceLists) × IsIn p ps × IsIn part.least (nodes_in p)
      r = in_flat_of nodes_in ps part.least (inside part.least part.is_piece.has_least)

      own : IsSound net r.0
      own = sound.each r.0 r.1

      same : (nodes_in q ≡ nodes_in r.0) × (basics_in q ≡ basics_in r.0)
      same = same_part net basic (nodes_in q) (basics_in q) (nodes_in r.0) (basics_in r.0) part (old_part r.0 r.1) part.least part.is_piece.has_least r.2

      own_entry : (n : ℕ × Ratio) → IsIn n q.nodes → IsIn n r.0.nodes
      own_entry n i =
          let w = in_flat_of (λ (p : PieceLists). p.nodes) ps n (entries n i) in
          let e : w.0 ≡ r.0 = sounds.same_piece ps sound.apart w.0 r.0 w.1 r.1 n.0 (in_map (λ (x : ℕ × Ratio). x.0) n w.0.nodes w.2) (subst (IsIn n.0) same.0 (in_map (λ (x : ℕ × Ratio). x.0) n q.nodes i)) in
          subst (λ (p : PieceLists). IsIn n p.nodes) e w.2

      nodes : q.nodes ≡ r.0.nodes
      nodes = same_entries (λ (n : ℕ × Ratio). n.0) q.nodes r.0.nodes same.0 (ascends (nodes_in r.0) own.in_net.shape.nodes_ascend) own_entry
