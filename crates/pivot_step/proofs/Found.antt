-- The nodes that a search reaches are those of a part of the basic arcs, and so are the others.
use Rattle.std.specs.Prelude.{◌≡◌, ◌⊎◌, ◌↔◌, ◌<◌, ◌≤◌, ℕ, suc, Bool, true, false, List, [], ◌∷◌, filter, map, length, slice_index, slice_index_or}
use Rattle.std.specs.Bool.{beq}
use Rattle.std.specs.List.Sorted.{IsStrictlyIncreasing}
use Rattle.std.proofs.Common.{refl, sym, ap, subst, ◌∙◌, inl, inr, arith, true≢false}
use Rattle.gain_graphs.specs.Arcs as graph
use Rattle.gain_graphs.specs.Arcs.{IsIn, Touches, AreJoined, Step, Along, Against, IsWalk}
use Rattle.gain_graphs.specs.QuasiTrees.{LiesIn}
use Rattle.gain_graphs.proofs.Lists.{in_map, in_map_of}
use Rattle.gain_graphs.proofs.Walks as walks
use Rattle.np_frac.specs.Ratio.{Ratio}
use Rattle.np_model.specs.declared.arc.Ends.{Ends}
use Rattle.np_model.specs.Network.Flows.{Network}
use Rattle.np_model.specs.Basis.Graphs.{ratios, graph_ends, graph_of, ends_at}
use Rattle.np_model.specs.Basis.States.{IsPartOf}
use Rattle.np_basis.proofs.Ascending.{Ascends, ascends, ascends_once}
use Rattle.np_basis.proofs.Trees.{same_ends}
use Rattle.tree_search.specs.Places.{numbers_of_nodes, numbers_of_arcs, ends_of_arcs}
use Rattle.piece_lists.specs.Parts.{IsReached, nodes_where, touch}
use Rattle.gain_graphs.proofs.Lists.{filter_holds}
use Rattle.piece_lists.proofs.Joined.{filter_rises}
use Rattle.piece_lists.proofs.Splitting.{where_to, where_from, where_rises}
use Rattle.piece_lists.proofs.Testing.{touch_in, in_touch}

-- ---- lists of numbers

pub place_of : (ns : List ℕ) (v : ℕ) → IsIn v ns → (p : ℕ) × (p < length ns) × (slice_index ns p ≡ v)
place_of [] v i = absurd i
place_of (n ∷ ns) v (inl e) = (0, omega arith, sym e)
place_of (n ∷ ns) v (inr i) = let r = place_of ns v i in (suc r.0, omega (arith, r.1), r.2)

pub first_in : (ns : List ℕ) → 0 < length ns → IsIn (slice_index ns 0) ns
first_in [] l = absurd (omega arith)
first_in (n ∷ ns) l = inl refl

pub first_least : (ns : List ℕ) → Ascends ns → (v : ℕ) → IsIn v ns → slice_index ns 0 ≤ v
first_least [] a v i = absurd i
first_least (n ∷ ns) a v (inl e) = omega (arith, e)
first_least (n ∷ ns) a v (inr i) = let l : n < v = a.0 v i in omega arith

pub some_long : (ns : List ℕ) (v : ℕ) → IsIn v ns → 0 < length ns
some_long [] v i = absurd i
some_long (n ∷ ns) v i = omega arith

said_true : (b : Bool) → beq b true ≡ true → b ≡ true
said_true true h = refl
said_true false h = absurd (true≢false (sym h))

said_false : (b : Bool) → beq b false ≡ true → b ≡ false
said_false true h = absurd (true≢false (sym h))
said_false false h = refl

either : (b : Bool) → (b ≡ true) ⊎ (b ≡ false)
either true = inl refl
either false = inr refl

-- ---- the parts

-- basic arcs of the network that lie among these nodes
pub record AreInside (net : Network) (nodes : List (ℕ × Ratio)) (arcs : List (ℕ × Ends × Ratio)) : Type 0 where
  pub nodes_ascend : IsStrictlyIncreasing (numbers_of_nodes nodes)
  pub arcs_ascend : IsStrictlyIncreasing (numbers_of_arcs arcs)
  pub below : (v : ℕ) → IsIn v (numbers_of_nodes nodes) → v < length net.supply
  pub ends : (b : ℕ × Ends × Ratio) → IsIn b arcs → b.1 ≡ ends_at net.arcs b.0
  pub lie : (a : ℕ) → IsIn a (numbers_of_arcs arcs) → LiesIn ratios (numbers_of_nodes nodes) (graph_of (ends_at net.arcs) a)

module _ (net : Network) (nodes : List (ℕ × Ratio)) (arcs : List (ℕ × Ends × Ratio)) (seen : List Bool) (are : AreInside net nodes arcs) (reached : IsReached (numbers_of_nodes nodes) (ends_of_arcs arcs) seen)
    (some : 0 < length (numbers_of_nodes nodes)) where
  abbrev pub first : ℕ
  first = slice_index (numbers_of_nodes nodes) 0

  abbrev pub links : List (graph.Ends Ratio)
  links = map (graph_of (ends_at net.arcs)) (numbers_of_arcs arcs)

  links_are : map graph_ends (ends_of_arcs arcs) ≡ links
  links_are = same_ends (ends_at net.arcs) arcs are.ends

  lies : (e : graph.Ends Ratio) → IsIn e links → LiesIn ratios (numbers_of_nodes nodes) e
  lies e i = let r = in_map_of (graph_of (ends_at net.arcs)) e (numbers_of_arcs arcs) i in subst (LiesIn ratios (numbers_of_nodes nodes)) (sym r.2) (are.lie r.0 r.1)

  -- no walk leaves the nodes
  stays : (w : List (Step Ratio)) (u v : ℕ) → IsIn u (numbers_of_nodes nodes) → IsWalk links u w v → IsIn v (numbers_of_nodes nodes)
  stays [] u v i h = subst (λ t. IsIn t (numbers_of_nodes nodes)) h i
  stays (Along f t g ∷ w) u v i h = stays w t v (lies (graph.Link f t g) h.1).1 h.2
  stays (Against f t g ∷ w) u v i h = stays w f v (lies (graph.Link f t g) h.1).0 h.2

  to_links : (u v : ℕ) → AreJoined (map graph_ends (ends_of_arcs arcs)) u v → AreJoined links u v
  to_links u v w = subst (λ t. AreJoined t u v) links_are w

  from_links : (u v : ℕ) → AreJoined links u v → AreJoined (map graph_ends (ends_of_arcs arcs)) u v
  from_links u v w = subst (λ t. AreJoined t u v) (sym links_are) w

  pub first_in_nodes : IsIn first (numbers_of_nodes nodes)
  first_in_nodes = first_in (numbers_of_nodes nodes) some

  -- each node is reached or not
  pub one_or : (v : ℕ) → IsIn v (numbers_of_nodes nodes) → IsIn v (numbers_of_nodes (nodes_where true nodes seen)) ⊎ IsIn v (numbers_of_nodes (nodes_where false nodes seen))
  one_or v i =
      let p = place_of (numbers_of_nodes nodes) v i in
      elim (either (slice_index_or seen p.0 false)) [
        | inl e ↦ inl (subst (λ t. IsIn t (numbers_of_nodes (nodes_where true nodes seen))) p.2 (where_from true nodes seen p.0 reached.long p.1 (ap (λ b. beq b true) e)))
        | inr e ↦ inr (subst (λ t. IsIn t (numbers_of_nodes (nodes_where false nodes seen))) p.2 (where_from false nodes seen p.0 reached.long p.1 (ap (λ b. beq b false) e)))
      ]

  pub reached_is : (v : ℕ) → IsIn v (numbers_of_nodes (nodes_where true nodes seen)) ↔ (IsIn v (numbers_of_nodes nodes) × AreJoined links first v)
  reached_is v = (
    (λ i.
        let r = in_map_of (λ (n : ℕ × Ratio). n.0) v (nodes_where true nodes seen) i in
        let m = where_to true nodes seen r.0 r.1 in (
          subst (λ t. IsIn t (numbers_of_nodes nodes)) (sym r.2) (in_map (λ (n : ℕ × Ratio). n.0) r.0 nodes m.0),
          subst (λ t. AreJoined links first t) (m.1.2 ∙ sym r.2) (to_links first (slice_index (numbers_of_nodes nodes) m.1.0) ((reached.are m.1.0 m.1.1).0 (said_true (slice_index_or seen m.1.0 false) m.1.3))),
        )),
    (λ r.
        let p = place_of (numbers_of_nodes nodes) v r.0 in
        subst (λ t. IsIn t (numbers_of_nodes (nodes_where true nodes seen))) p.2 (where_from true nodes seen p.0 reached.long p.1
        (ap (λ b. beq b true) ((reached.are p.0 p.1).1 (from_links first (slice_index (numbers_of_nodes nodes) p.0) (subst (λ t. AreJoined links first t) (sym p.2) r.1)))))),
  )

  pub others_are : (v : ℕ) → IsIn v (numbers_of_nodes (nodes_where false nodes seen)) → IsIn v (numbers_of_nodes nodes) × (¬ AreJoined links first v)
  others_are v i =
      let r = in_map_of (λ (n : ℕ × Ratio). n.0) v (nodes_where false nodes seen) i in
      let m = where_to false nodes seen r.0 r.1 in (
        subst (λ t. IsIn t (numbers_of_nodes nodes)) (sym r.2) (in_map (λ (n : ℕ × Ratio). n.0) r.0 nodes m.0),
        (λ w. true≢false (sym ((reached.are m.1.0 m.1.1).1 (from_links first (slice_index (numbers_of_nodes nodes) m.1.0) (subst (λ t. AreJoined links first t) (r.2 ∙ sym m.1.2) w)))
            ∙ said_false (slice_index_or seen m.1.0 false) m.1.3)),
      )

  pub first_reached : IsIn first (numbers_of_nodes (nodes_where true nodes seen))
  first_reached = (reached_is first).1 (first_in_nodes, ([], refl))

  back : (u v : ℕ) → IsIn u (numbers_of_nodes nodes) → AreJoined links u v → IsIn v (numbers_of_nodes nodes)
  back u v i w = stays w.0 u v i w.1

  touched : (ns : List ℕ) (a : ℕ) → IsIn a (numbers_of_arcs (filter (λ b. touch ns b.1) arcs)) ↔ (IsIn a (numbers_of_arcs arcs) × Touches ns (graph_of (ends_at net.arcs) a))
  touched ns a = (
    (λ i.
        let r = in_map_of (λ (b : ℕ × Ends × Ratio). b.0) a (filter (λ b. touch ns b.1) arcs) i in
        let k = (filter_holds (λ b. touch ns b.1) arcs r.0).0 r.1 in (
          subst (λ t. IsIn t (numbers_of_arcs arcs)) (sym r.2) (in_map (λ (b : ℕ × Ends × Ratio). b.0) r.0 arcs k.0),
          subst (λ t. Touches ns (graph_of (ends_at net.arcs) t)) (sym r.2) (subst (λ t. Touches ns (graph_ends t)) (are.ends r.0 k.0) (touch_in ns r.0.1 k.1)),
        )),
    (λ s.
        let r = in_map_of (λ (b : ℕ × Ends × Ratio). b.0) a arcs s.0 in
        subst (λ t. IsIn t (numbers_of_arcs (filter (λ b. touch ns b.1) arcs))) (sym r.2) (in_map (λ (b : ℕ × Ends × Ratio). b.0) r.0 (filter (λ b. touch ns b.1) arcs)
        ((filter_holds (λ b. touch ns b.1) arcs r.0).1
        (r.1, in_touch ns r.0.1 (subst (λ t. Touches ns (graph_ends t)) (sym (are.ends r.0 r.1)) (subst (λ t. Touches ns (graph_of (ends_at net.arcs) t)) r.2 s.1)))))),
  )

  pub reached_part : IsPartOf net (numbers_of_arcs arcs) (numbers_of_nodes (nodes_where true nodes seen)) (numbers_of_arcs (filter (λ b. touch (numbers_of_nodes (nodes_where true nodes seen)) b.1) arcs))
  reached_part =
      let nodes_rise = where_rises true nodes seen are.nodes_ascend in
      let arcs_rise = filter_rises (λ (b : ℕ × Ends × Ratio). b.0) (λ b. touch (numbers_of_nodes (nodes_where true nodes seen)) b.1) arcs are.arcs_ascend in
      record {
        nodes_ascend = nodes_rise;
        arcs_ascend = arcs_rise;
        least = first;
        is_piece = record {
          nodes_once = ascends_once (numbers_of_nodes (nodes_where true nodes seen)) (ascends (numbers_of_nodes (nodes_where true nodes seen)) nodes_rise);
          arcs_once = ascends_once (numbers_of_arcs (filter (λ b. touch (numbers_of_nodes (nodes_where true nodes seen)) b.1) arcs)) (ascends (numbers_of_arcs (filter (λ b. touch (numbers_of_nodes (nodes_where true nodes seen)) b.1) arcs)) arcs_rise);
          has_least = first_reached;
          is_least = λ v i. first_least (numbers_of_nodes nodes) (ascends (numbers_of_nodes nodes) are.nodes_ascend) v ((reached_is v).0 i).0;
          joined = λ v. (
            (λ i. let r = (reached_is v).0 i in (are.below v r.0, r.1)),
            (λ r. (reached_is v).1 (back first v first_in_nodes r.1, r.1)),
          );
          touched = touched (numbers_of_nodes (nodes_where true nodes seen));
        };
      }

  -- where each node is joined to one of two, what is left is a part too
  module _ (x y : ℕ) (two : (u : ℕ) → IsIn u (numbers_of_nodes nodes) → AreJoined links u x ⊎ AreJoined links u y) where
    meet : (u v z : ℕ) → AreJoined links u z → AreJoined links v z → AreJoined links u v
    meet u v z a b = walks.joined_trans links u z v a (walks.joined_sym links v z b)

    together : (u v : ℕ) → IsIn u (numbers_of_nodes (nodes_where false nodes seen)) → IsIn v (numbers_of_nodes (nodes_where false nodes seen)) → AreJoined links u v
    together u v i j =
        let ou = others_are u i in let ov = others_are v j in
        elim (two first first_in_nodes) [
          | inl f ↦ elim (two u ou.0) [
            | inl a ↦ absurd (ou.1 (meet first u x f a))
            | inr a ↦ elim (two v ov.0) [ inl b ↦ absurd (ov.1 (meet first v x f b)) | inr b ↦ meet u v y a b ]
          ]
          | inr f ↦ elim (two u ou.0) [
            | inr a ↦ absurd (ou.1 (meet first u y f a))
            | inl a ↦ elim (two v ov.0) [ inr b ↦ absurd (ov.1 (meet first v y f b)) | inl b ↦ meet u v x a b ]
          ]
        ]

    pub others_part : (r : ℕ) → IsIn r (numbers_of_nodes (nodes_where false nodes seen))
        → IsPartOf net (numbers_of_arcs arcs) (numbers_of_nodes (nodes_where false nodes seen)) (numbers_of_arcs (filter (λ b. touch (numbers_of_nodes (nodes_where false nodes seen)) b.1) arcs))
    others_part r i =
        let nodes_rise = where_rises false nodes seen are.nodes_ascend in
        let arcs_rise = filter_rises (λ (b : ℕ × Ends × Ratio). b.0) (λ b. touch (numbers_of_nodes (nodes_where false nodes seen)) b.1) arcs are.arcs_ascend in
        let others : List ℕ = numbers_of_nodes (nodes_where false nodes seen) in
        let has : IsIn (slice_index (numbers_of_nodes (nodes_where false nodes seen)) 0) (numbers_of_nodes (nodes_where false nodes seen)) =
        first_in (numbers_of_nodes (nodes_where false nodes seen)) (some_long (numbers_of_nodes (nodes_where false nodes seen)) r i) in
        record {
          nodes_ascend = nodes_rise;
          arcs_ascend = arcs_rise;
          least = slice_index (numbers_of_nodes (nodes_where false nodes seen)) 0;
          is_piece = record {
            nodes_once = ascends_once (numbers_of_nodes (nodes_where false nodes seen)) (ascends (numbers_of_nodes (nodes_where false nodes seen)) nodes_rise);
            arcs_once = ascends_once (numbers_of_arcs (filter (λ b. touch (numbers_of_nodes (nodes_where false nodes seen)) b.1) arcs)) (ascends (numbers_of_arcs (filter (λ b. touch (numbers_of_nodes (nodes_where false nodes seen)) b.1) arcs)) arcs_rise);
            has_least = has;
            is_least = λ v j. first_least (numbers_of_nodes (nodes_where false nodes seen)) (ascends (numbers_of_nodes (nodes_where false nodes seen)) nodes_rise) v j;
            joined = λ v. (
              (λ j. (are.below v (others_are v j).0, together (slice_index (numbers_of_nodes (nodes_where false nodes seen)) 0) v has j)),
              (λ w. elim (one_or v (back (slice_index (numbers_of_nodes (nodes_where false nodes seen)) 0) v (others_are (slice_index (numbers_of_nodes (nodes_where false nodes seen)) 0) has).0 w.1)) [
                | inl m ↦ absurd ((others_are (slice_index (numbers_of_nodes (nodes_where false nodes seen)) 0) has).1
                    (walks.joined_trans links first v (slice_index (numbers_of_nodes (nodes_where false nodes seen)) 0) ((reached_is v).0 m).1 (walks.joined_sym links (slice_index (numbers_of_nodes (nodes_where false nodes seen)) 0) v w.1)))
                | inr m ↦ m
              ]),
            );
            touched = touched (numbers_of_nodes (nodes_where false nodes seen));
          };
        }
