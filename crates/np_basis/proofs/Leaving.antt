-- An arc enters a basis of some nodes and one leaves it along the direction: it stays a basis, and its parts are quasi-trees.
use Rattle.std.specs.Prelude.{◌≡◌, ◌≢◌, ◌⊎◌, ◌↔◌, ℕ, suc, ◌+◌, ◌≤◌, List, ◌∷◌, ◌++◌, map, length}
use Rattle.std.proofs.Common.{sym, ap, ap₂, subst, ◌∙◌, inl, inr, arith}
use native.Mathlib.Decide.{ℕ_discrete}
use Rattle.gain_graphs.specs.Arcs as graph
use Rattle.gain_graphs.specs.Arcs.{IsIn, AreDistinct, Touches, AreJoined}
use Rattle.gain_graphs.specs.Field as field
use Rattle.gain_graphs.specs.Forests.{IsPiece, IsValid}
use Rattle.gain_graphs.specs.QuasiTrees.{LiesIn, IsQuasiTree}
use Rattle.gain_graphs.proofs.Algebra as algebra
use Rattle.gain_graphs.proofs.Joined as joined
use Rattle.gain_graphs.proofs.Lists.{in_front, in_back, in_map, in_map_of, in_others, in_with, length_map, length_marked, split_at, at_most, others_once, decide_in}
use Rattle.gain_graphs.proofs.Parts as parts
use Rattle.gain_graphs.proofs.Pieces as graph_pieces
use Rattle.gain_graphs.proofs.Rigid as rigid
use Rattle.gain_graphs.proofs.Sums as graph_sums
use Rattle.gain_graphs.proofs.Walks as walks
use Rattle.gain_graphs.proofs.Weights as weights
use Rattle.np_frac.specs.Ratio.{Ratio, zero_ratio, ◌+ᵣ◌, ◌*ᵣ◌}
use Rattle.np_frac.proofs.RatioLaws.{+ᵣ-zero, zero-+ᵣ, zero-*ᵣ, *ᵣ_comm}
use Rattle.np_model.specs.Network.Flows.{Network}
use Rattle.np_model.specs.Basis.Graphs.{ratios, graph_of, ends_at}
use Rattle.np_model.specs.Basis.Moves.{IsDirection}
use Rattle.np_basis.specs.Laws.{HasSoundArcs}
use Rattle.np_basis.proofs.Directions as directions
use Rattle.np_basis.proofs.Directions.{Enters, IsBasisOf}

-- ---- the exchange

module _ (net : Network) (sound : HasSoundArcs net) (nodes numbers basic : List ℕ) (enter : ℕ) (given : Enters net sound nodes numbers basic enter)
    (lies : LiesIn ratios nodes (graph_of (ends_at net.arcs) enter)) (by : Ratio) (d : ℕ → Ratio) (h : IsDirection net nodes numbers basic enter by d)
    (leave : ℕ) (leave_in : IsIn leave (enter ∷ basic)) (moves : d leave ≢ zero_ratio)
    (now : List ℕ) (once : AreDistinct now) (are : (a : ℕ) → IsIn a now ↔ (IsIn a (enter ∷ basic) × (a ≢ leave))) where
  all_lie : (a : ℕ) → IsIn a (enter ∷ basic) → LiesIn ratios nodes (graph_of (ends_at net.arcs) a)
  all_lie a = elim [ inl e ↦ subst (λ t. LiesIn ratios nodes (graph_of (ends_at net.arcs) t)) (sym e) lies | inr i ↦ given.basis.lies a i ]

  s : (before : List ℕ) × (after : List ℕ) × (before ++ leave ∷ after ≡ enter ∷ basic)
  s = split_at leave (enter ∷ basic) leave_in

  rest_once : AreDistinct (s.0 ++ s.1) × (¬ IsIn leave (s.0 ++ s.1))
  rest_once = others_once s.0 leave s.1 (subst AreDistinct (sym s.2) (given.new, given.basis.arcs_once))

  rest_now : (a : ℕ) → IsIn a (s.0 ++ s.1) → IsIn a now
  rest_now a i = (are a).1 (subst (IsIn a) s.2 (in_with a s.0 leave s.1 i), λ e. rest_once.1 (subst (λ t. IsIn t (s.0 ++ s.1)) e i))

  now_rest : (a : ℕ) → IsIn a now → IsIn a (s.0 ++ s.1)
  now_rest a i = let r = (are a).0 i in elim (in_others a s.0 leave s.1 (subst (IsIn a) (sym s.2) r.0)) [ inl e ↦ absurd (r.1 e) | inr j ↦ j ]

  as_many : length now ≡ length nodes
  as_many =
      let a : length now ≤ length (s.0 ++ s.1) = at_most now (s.0 ++ s.1) once now_rest in
      let b : length (s.0 ++ s.1) ≤ length now = at_most (s.0 ++ s.1) now rest_once.0 rest_now in
      let c : length (s.0 ++ leave ∷ s.1) ≡ suc (length (s.0 ++ s.1)) = length_marked s.0 leave s.1 in
      let e : length (s.0 ++ leave ∷ s.1) ≡ suc (length basic) = ap length s.2 in
      let f : length basic ≡ length nodes = given.basis.as_many in
      omega arith

  is_rigid : rigid.IsRigid ratios nodes (map (graph_of (ends_at net.arcs)) now)
  is_rigid q flat = given.basis.is_rigid q (λ e i.
      let r = in_map_of (graph_of (ends_at net.arcs)) e basic i in
      subst (λ t. graph.pull ratios t q ≡ zero_ratio) (sym r.2) (elim (ℕ_discrete r.0 leave) [
        | yes p ↦ ap pull p ∙ none
        | no n ↦ flat_now r.0 ((are r.0).1 (inr r.1, n))
      ]))
    where
      pull : ℕ → Ratio
      pull a = graph.pull ratios (graph_of (ends_at net.arcs) a) q

      term : ℕ → Ratio
      term a = pull a *ᵣ d a

      flat_now : (a : ℕ) → IsIn a now → graph.pull ratios (graph_of (ends_at net.arcs) a) q ≡ zero_ratio
      flat_now a i = flat (graph_of (ends_at net.arcs) a) (in_map (graph_of (ends_at net.arcs)) a now i)

      zero_at : (a : ℕ) → IsIn a (s.0 ++ s.1) → term a ≡ zero_ratio
      zero_at a i = ap (λ t. t *ᵣ d a) (flat_now a (rest_now a i)) ∙ zero-*ᵣ (d a)

      -- the balances of the direction, each times the weight of its node
      nothing : field.total ratios term (enter ∷ basic) ≡ zero_ratio
      nothing = sym (weights.weigh ratios (graph_of (ends_at net.arcs)) nodes d (enter ∷ basic) q given.basis.nodes_once all_lie)
          ∙ graph_sums.total_zero ratios (λ v. graph.balance ratios (graph_of (ends_at net.arcs)) d (enter ∷ basic) v *ᵣ q v) nodes
          (λ v i. ap (λ t. t *ᵣ q v) (sym (directions.balance_of_few net sound nodes numbers basic enter given d (directions.still net sound nodes numbers basic enter given by d h) v) ∙ h.balanced v i) ∙ zero-*ᵣ (q v))

      all_is : field.total ratios term (s.0 ++ leave ∷ s.1) ≡ term leave
      all_is = graph_sums.total_append ratios term s.0 (leave ∷ s.1)
          ∙ ap₂ (λ x y. x +ᵣ (term leave +ᵣ y)) (graph_sums.total_zero ratios term s.0 (λ a i. zero_at a (in_front a s.0 s.1 i))) (graph_sums.total_zero ratios term s.1 (λ a i. zero_at a (in_back a s.0 s.1 i)))
          ∙ zero-+ᵣ (term leave +ᵣ zero_ratio) ∙ +ᵣ-zero (term leave)

      none : pull leave ≡ zero_ratio
      none = algebra.zero_of_times ratios (d leave) (pull leave) moves (*ᵣ_comm (d leave) (pull leave) ∙ sym all_is ∙ ap (field.total ratios term) s.2 ∙ nothing)

  pub exchanged : IsBasisOf net sound nodes now
  exchanged = record {
    nodes_once = given.basis.nodes_once;
    arcs_once = once;
    below = λ a i. elim ((are a).0 i).0 [ inl e ↦ given.inside a (given.holds a (inl e)) | inr j ↦ given.basis.below a j ];
    lies = λ a i. all_lie a ((are a).0 i).0;
    as_many = as_many;
    is_rigid = is_rigid;
  }

-- ---- parts of a basis

module _ (net : Network) (sound : HasSoundArcs net) (nodes basic : List ℕ) (b : IsBasisOf net sound nodes basic) where
  valid : (a : ℕ) → IsIn a basic → IsValid ratios (length net.supply) (graph_of (ends_at net.arcs) a)
  valid a i = directions.ends_valid net sound a (b.below a i)

  link_lies : (i j : ℕ) (g : Ratio) → IsIn (graph.Link i j g) (map (graph_of (ends_at net.arcs)) basic) → IsIn i nodes × IsIn j nodes
  link_lies i j g k =
      let r = in_map_of (graph_of (ends_at net.arcs)) (graph.Link i j g) basic k in
      let l : LiesIn ratios nodes (graph.Link i j g) = subst (LiesIn ratios nodes) (sym r.2) (b.lies r.0 r.1) in
      (l.0, l.1)

  -- what basic links join stays among the nodes
  pub joined_inside : (u v : ℕ) → IsIn u nodes → AreJoined (map (graph_of (ends_at net.arcs)) basic) u v → IsIn v nodes
  joined_inside u v i w = (walks.within (λ x. IsIn x nodes) (map (graph_of (ends_at net.arcs)) basic) (map (graph_of (ends_at net.arcs)) basic)
      (λ i j g k t. let l = link_lies i j g k in (k, l.0, l.1)) w.0 u v i w.1).1

  module _ (least : ℕ) (ms its : List ℕ) (q : IsPiece (length net.supply) (graph_of (ends_at net.arcs)) basic least ms its) (start : IsIn least nodes) where
    ends : ℕ → graph.Ends Ratio
    ends = graph_of (ends_at net.arcs)

    its_lie : (a : ℕ) → IsIn a its → LiesIn ratios ms (graph_of (ends_at net.arcs) a)
    its_lie = graph_pieces.arcs_lie ratios (length net.supply) (graph_of (ends_at net.arcs)) basic least ms its q valid

    sub : (v : ℕ) → IsIn v ms → IsIn v nodes
    sub v j = joined_inside least v start ((q.joined v).0 j).1

    cut_off : (a : ℕ) → IsIn a basic → IsIn a its ⊎ (¬ Touches ms (graph_of (ends_at net.arcs) a))
    cut_off a j = elim (decide_in a its) [ yes k ↦ inl k | no h ↦ inr (λ t. h ((q.touched a).1 (j, t))) ]

    mine : parts.Part ratios nodes (map (graph_of (ends_at net.arcs)) basic) ms (map (graph_of (ends_at net.arcs)) its)
    mine = record {
      nodes = sub;
      ends = graph_pieces.lies_map ratios (length net.supply) (graph_of (ends_at net.arcs)) ms its its_lie;
      closed = λ e j. let r = in_map_of (graph_of (ends_at net.arcs)) e basic j in elim (cut_off r.0 r.1) [
        | inl k ↦ inl (subst (λ t. IsIn t (map (graph_of (ends_at net.arcs)) its)) (sym r.2) (in_map (graph_of (ends_at net.arcs)) r.0 its k))
        | inr h ↦ inr (λ t. h (subst (Touches ms) r.2 t))
      ];
    }

    left_nodes : parts.Left ratios ms nodes
    left_nodes = parts.left_over ratios ms nodes q.nodes_once b.nodes_once sub

    left_arcs : parts.Left ratios its basic
    left_arcs = parts.left_over ratios its basic q.arcs_once b.arcs_once (λ a j. ((q.touched a).0 j).0)

    left_lie : (a : ℕ) → IsIn a left_arcs.rest → LiesIn ratios left_nodes.rest (graph_of (ends_at net.arcs) a)
    left_lie a j =
        let r = (left_arcs.holds a).0 j in
        shrink (graph_of (ends_at net.arcs) a) (b.lies a r.0) (λ t. r.1 ((q.touched a).1 (r.0, t)))
      where
        shrink : (e : graph.Ends Ratio) → LiesIn ratios nodes e → (¬ Touches ms e) → LiesIn ratios left_nodes.rest e
        shrink (graph.Link x y g) l h = ((left_nodes.holds x).1 (l.0, λ k. h (inl k)), (left_nodes.holds y).1 (l.1, λ k. h (inr k)), l.2)
        shrink (graph.Drain x) l h = (left_nodes.holds x).1 (l, h)
        shrink (graph.Feed x) l h = (left_nodes.holds x).1 (l, h)

    yours : parts.Part ratios nodes (map (graph_of (ends_at net.arcs)) basic) left_nodes.rest (map (graph_of (ends_at net.arcs)) left_arcs.rest)
    yours = record {
      nodes = λ v j. ((left_nodes.holds v).0 j).0;
      ends = graph_pieces.lies_map ratios (length net.supply) (graph_of (ends_at net.arcs)) left_nodes.rest left_arcs.rest left_lie;
      closed = λ e j. let r = in_map_of (graph_of (ends_at net.arcs)) e basic j in elim (decide_in r.0 its) [
        | no h ↦ inl (subst (λ t. IsIn t (map (graph_of (ends_at net.arcs)) left_arcs.rest)) (sym r.2) (in_map (graph_of (ends_at net.arcs)) r.0 left_arcs.rest ((left_arcs.holds r.0).1 (r.1, h))))
        | yes k ↦ inr (λ t.
            let w = graph_pieces.both ratios (length net.supply) (graph_of (ends_at net.arcs)) ms left_nodes.rest (graph_of (ends_at net.arcs) r.0) (its_lie r.0 k) (subst (Touches left_nodes.rest) r.2 t) in
            ((left_nodes.holds w.0).0 w.2).1 w.1)
      ];
    }

    -- neither the part nor what is left has fewer arcs than nodes
    even : length its ≡ length ms
    even =
        let a : length ms ≤ length (map (graph_of (ends_at net.arcs)) its) = rigid.enough ratios ms (map (graph_of (ends_at net.arcs)) its) q.nodes_once mine.ends
        (parts.part_rigid ratios nodes (map (graph_of (ends_at net.arcs)) basic) ms (map (graph_of (ends_at net.arcs)) its) mine b.is_rigid) in
        let c : length left_nodes.rest ≤ length (map (graph_of (ends_at net.arcs)) left_arcs.rest) = rigid.enough ratios left_nodes.rest (map (graph_of (ends_at net.arcs)) left_arcs.rest) left_nodes.apart yours.ends
        (parts.part_rigid ratios nodes (map (graph_of (ends_at net.arcs)) basic) left_nodes.rest (map (graph_of (ends_at net.arcs)) left_arcs.rest) yours b.is_rigid) in
        let e : length (map (graph_of (ends_at net.arcs)) its) ≡ length its = length_map (graph_of (ends_at net.arcs)) its in
        let f : length (map (graph_of (ends_at net.arcs)) left_arcs.rest) ≡ length left_arcs.rest = length_map (graph_of (ends_at net.arcs)) left_arcs.rest in
        let g : length nodes ≡ length ms + length left_nodes.rest = left_nodes.adds in
        let h : length basic ≡ length its + length left_arcs.rest = left_arcs.adds in
        let k : length basic ≡ length nodes = b.as_many in
        omega arith

    local : (v : ℕ) → IsIn v ms → AreJoined (map (graph_of (ends_at net.arcs)) its) least v
    local v j =
        let w = ((q.joined v).0 j).1 in (
          w.0,
          (walks.within (λ x. IsIn x ms) (map (graph_of (ends_at net.arcs)) basic) (map (graph_of (ends_at net.arcs)) its)
              (graph_pieces.crossing ratios (length net.supply) (graph_of (ends_at net.arcs)) basic least ms its q valid basic its (λ a t k. k) (λ a t k. (q.touched a).1 (k, t))) w.0 least v q.has_least w.1).0,
        )

    pub tree_of_part : IsQuasiTree ratios ms (map (graph_of (ends_at net.arcs)) its)
    tree_of_part = joined.quasi_tree ratios ms (map (graph_of (ends_at net.arcs)) its) q.nodes_once (least, q.has_least) mine.ends
        (λ u v j k. walks.joined_trans (map (graph_of (ends_at net.arcs)) its) u least v (walks.joined_sym (map (graph_of (ends_at net.arcs)) its) least u (local u j)) (local v k))
        (length_map (graph_of (ends_at net.arcs)) its ∙ even)
        (parts.part_rigid ratios nodes (map (graph_of (ends_at net.arcs)) basic) ms (map (graph_of (ends_at net.arcs)) its) mine b.is_rigid)
