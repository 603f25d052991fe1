-- The bases of a network are its augmented forests.
use Rattle.std.proofs.Common.{◌≡◌, ◌≢◌, ◌⊎◌, inl, inr, sym, ap, ◌∙◌, subst, ℕ, ◌+◌, ◌<◌, ◌≤◌, List, length, map, arith}
use Rattle.gain_graphs.specs.Field.{Field}
use Rattle.gain_graphs.specs.Arcs.{IsIn, AreDistinct, Ends, Link, Drain, Feed, Touches, AreJoined, coefficient, balance, pull}
use Rattle.gain_graphs.specs.QuasiTrees.{LiesIn, IsQuasiTree}
use Rattle.gain_graphs.specs.Forests.{IsPiece, IsForest, IsValid}
use Rattle.gain_graphs.specs.Bases.{IsBasis}
use Rattle.gain_graphs.proofs.Lists.{in_map, in_map_of, length_map, decide_in}
use Rattle.gain_graphs.proofs.Selected.{upto, upto_below, upto_holds, upto_once, length_upto}
use Rattle.gain_graphs.proofs.Algebra
use Rattle.gain_graphs.proofs.Sums
use Rattle.gain_graphs.proofs.Equations
use Rattle.gain_graphs.proofs.Rigid
use Rattle.gain_graphs.proofs.Weights
use Rattle.gain_graphs.proofs.Pieces
use Rattle.gain_graphs.proofs.Parts
use Rattle.gain_graphs.proofs.Joined
use Rattle.gain_graphs.proofs.Search
use Rattle.gain_graphs.proofs.Walks
use Rattle.gain_graphs.proofs.Theorems

module _ {Scalar : Type 0} (F : Field Scalar) (n : ℕ) (ends : ℕ → Ends Scalar) where
  infixl 60 ◌⊕◌
  infixl 70 ◌⊗◌
  open F use {zero, ◌⊕◌, ◌⊗◌, plus_zero, times_comm, decide}

  -- the arcs of a network lie in all of its nodes
  pub lies_in_all : (e : Ends Scalar) → IsValid F n e → LiesIn F (upto n) e
  lies_in_all (Link i j g) v = (upto_holds n i v.0, upto_holds n j v.1, v.2)
  lies_in_all (Drain i) v = upto_holds n i v
  lies_in_all (Feed i) v = upto_holds n i v

  -- as many basic arcs as nodes, on which only the weights 0 have the pull 0: each piece has as many too, since so has what is left
  piece_is_quasi_tree : (basic : List ℕ) → AreDistinct basic → ((a : ℕ) → IsIn a basic → IsValid F n (ends a)) → length basic ≡ n → Rigid.IsRigid F (upto n) (map ends basic)
      → (s : ℕ) (ms its : List ℕ) → IsPiece n ends basic s ms its → IsQuasiTree F ms (map ends its)
  piece_is_quasi_tree basic once valid as_many rigid s ms its q =
      Joined.quasi_tree F ms (map ends its) q.nodes_once (s, q.has_least) (Pieces.lies_map F n ends ms its lies) joined (length_map ends its ∙ even) (Parts.part_rigid F (upto n) (map ends basic) ms (map ends its) mine rigid)
    where
      lies_all : (a : ℕ) → IsIn a basic → LiesIn F (upto n) (ends a)
      lies_all a k = lies_in_all (ends a) (valid a k)

      lies : (a : ℕ) → IsIn a its → LiesIn F ms (ends a)
      lies = Pieces.arcs_lie F n ends basic s ms its q valid

      sub : (v : ℕ) → IsIn v ms → IsIn v (upto n)
      sub v j = upto_holds n v ((q.joined v).0 j).0

      sub_arcs : (a : ℕ) → IsIn a its → IsIn a basic
      sub_arcs a j = ((q.touched a).0 j).0

      cut_off : (a : ℕ) → IsIn a basic → IsIn a its ⊎ (¬ Touches ms (ends a))
      cut_off a j = elim (decide_in a its) [ yes k ↦ inl k | no h ↦ inr (λ t. h ((q.touched a).1 (j, t))) ]

      mine : Parts.Part F (upto n) (map ends basic) ms (map ends its)
      mine = record {
        nodes = sub;
        ends = Pieces.lies_map F n ends ms its lies;
        closed = λ e j. let r = in_map_of ends e basic j in
            elim (cut_off r.0 r.1) [ inl k ↦ inl (subst (λ t. IsIn t (map ends its)) (sym r.2) (in_map ends r.0 its k)) | inr h ↦ inr (λ t. h (subst (λ x. Touches ms x) r.2 t)) ];
      }

      nodes : Parts.Left F ms (upto n)
      nodes = Parts.left_over F ms (upto n) q.nodes_once (upto_once n) sub

      arcs : Parts.Left F its basic
      arcs = Parts.left_over F its basic q.arcs_once once sub_arcs

      lies_rest : (a : ℕ) → IsIn a arcs.rest → LiesIn F nodes.rest (ends a)
      lies_rest a j =
          let r = (arcs.holds a).0 j in
          shrink (ends a) (lies_all a r.0) (λ t. r.1 ((q.touched a).1 (r.0, t)))
        where
          shrink : (e : Ends Scalar) → LiesIn F (upto n) e → (¬ Touches ms e) → LiesIn F nodes.rest e
          shrink (Link x y g) l h = ((nodes.holds x).1 (l.0, λ k. h (inl k)), (nodes.holds y).1 (l.1, λ k. h (inr k)), l.2)
          shrink (Drain x) l h = (nodes.holds x).1 (l, h)
          shrink (Feed x) l h = (nodes.holds x).1 (l, h)

      yours : Parts.Part F (upto n) (map ends basic) nodes.rest (map ends arcs.rest)
      yours = record {
        nodes = λ v j. ((nodes.holds v).0 j).0;
        ends = Pieces.lies_map F n ends nodes.rest arcs.rest lies_rest;
        closed = λ e j. let r = in_map_of ends e basic j in
            elim (decide_in r.0 its) [
              | no h ↦ inl (subst (λ t. IsIn t (map ends arcs.rest)) (sym r.2) (in_map ends r.0 arcs.rest ((arcs.holds r.0).1 (r.1, h))))
              | yes k ↦ inr (λ t. let b = Pieces.both F n ends ms nodes.rest (ends r.0) (lies r.0 k) (subst (λ x. Touches nodes.rest x) r.2 t) in ((nodes.holds b.0).0 b.2).1 b.1)
            ];
      }

      even : length its ≡ length ms
      even =
          let a : length ms ≤ length (map ends its) = Rigid.enough F ms (map ends its) q.nodes_once (Pieces.lies_map F n ends ms its lies) (Parts.part_rigid F (upto n) (map ends basic) ms (map ends its) mine rigid) in
          let b : length nodes.rest ≤ length (map ends arcs.rest) = Rigid.enough F nodes.rest (map ends arcs.rest) nodes.apart (Pieces.lies_map F n ends nodes.rest arcs.rest lies_rest) (Parts.part_rigid F (upto n) (map ends basic) nodes.rest (map ends arcs.rest) yours rigid) in
          let c : length (map ends its) ≡ length its = length_map ends its in
          let d : length (map ends arcs.rest) ≡ length arcs.rest = length_map ends arcs.rest in
          let e : length (upto n) ≡ length ms + length nodes.rest = nodes.adds in
          let f : length basic ≡ length its + length arcs.rest = arcs.adds in
          let g : length basic ≡ length (upto n) = (as_many ∙ sym (length_upto n)) in
          omega arith

      local : (v : ℕ) → IsIn v ms → AreJoined (map ends its) s v
      local v j =
          let w = ((q.joined v).0 j).1 in (
            w.0,
            (Walks.within (λ x. IsIn x ms) (map ends basic) (map ends its)
                (Pieces.crossing F n ends basic s ms its q valid basic its (λ a t k. k) (λ a t k. (q.touched a).1 (k, t))) w.0 s v q.has_least w.1).0,
          )

      joined : (u v : ℕ) → IsIn u ms → IsIn v ms → AreJoined (map ends its) u v
      joined u v j k = Walks.joined_trans (map ends its) u s v (Walks.joined_sym (map ends its) s u (local u j)) (local v k)

  an_end : (e : Ends Scalar) → IsValid F n e → (u : ℕ) × (u < n) × ((ms : List ℕ) → IsIn u ms → Touches ms e)
  an_end (Link i j g) v = (i, v.0, λ ms k. inl k)
  an_end (Drain i) v = (i, v, λ ms k. k)
  an_end (Feed i) v = (i, v, λ ms k. k)

  -- the coefficients of the arcs at a node
  row : ℕ → ℕ → Scalar
  row v a = coefficient F (ends a) v

  -- more arcs than nodes in a list: some flow on them that is not 0 takes nothing from these nodes
  record Loose (nodes basic : List ℕ) : Type 0 where
    flow : ℕ → Scalar
    takes_nothing : (v : ℕ) → IsIn v nodes → balance F ends flow basic v ≡ zero
    place : ℕ
    inside : IsIn place basic
    apart : flow place ≢ zero

  loose : (nodes basic : List ℕ) → AreDistinct basic → length nodes < length basic → Loose nodes basic
  unfolding row
  loose nodes basic once l =
      let s : Equations.Solution F (map row nodes) basic = Equations.solve F (map row nodes) basic once (rw (length_map row nodes) l) in
      record { flow = s.value; takes_nothing = λ v i. s.solves (row v) (in_map row v nodes i); place = s.place; inside = s.inside; apart = s.apart }

  -- ---- a basis is a forest

  -- where flows are independent, only the weights 0 have the pull 0
  pub basis_rigid : (basic : List ℕ) → ((a : ℕ) → IsIn a basic → IsValid F n (ends a)) → IsBasis F n ends basic → Rigid.IsRigid F (upto n) (map ends basic)
  basis_rigid basic valid b q flat s i = go (decide (q s) zero)
    where
      o : Sums.Out F s (upto n)
      o = Sums.take_out F s (upto n) (upto_once n) i

      none : q s ≢ zero → ⊥
      none h = m.apart (b.independent m.flow all m.place m.inside)
        where
          m : Loose o.rest basic
          m = loose o.rest basic b.once (omega (arith, b.as_many, length_upto n, o.shorter))

          f : ℕ → Scalar
          f v = balance F ends m.flow basic v

          -- the balances, each times its weight
          weighed : f s ⊗ q s ≡ zero
          weighed = sym (plus_zero (f s ⊗ q s))
              ∙ ap (λ t. f s ⊗ q s ⊕ t) (sym (Sums.total_zero F (λ v. f v ⊗ q v) o.rest (λ v k. ap (λ t. t ⊗ q v) (m.takes_nothing v k) ∙ Algebra.zero_times F (q v))))
              ∙ sym (o.sums (λ v. f v ⊗ q v))
              ∙ Weights.weigh F ends (upto n) m.flow basic q (upto_once n) (λ a k. lies_in_all (ends a) (valid a k))
              ∙ Sums.total_zero F (λ a. pull F (ends a) q ⊗ m.flow a) basic (λ a k. ap (λ t. t ⊗ m.flow a) (flat (ends a) (in_map ends a basic k)) ∙ Algebra.zero_times F (m.flow a))

          all : (v : ℕ) → v < n → f v ≡ zero
          all v l = elim (o.only v (upto_holds n v l)) [
            | inl e ↦ ap f e ∙ Algebra.zero_of_times F (q s) (f s) h (times_comm (q s) (f s) ∙ weighed)
            | inr k ↦ m.takes_nothing v k
          ]

      go : Dec (q s ≡ zero) → q s ≡ zero
      go (yes e) = e
      go (no h) = absurd (none h)

  pub basis_is_forest : (basic : List ℕ) → ((a : ℕ) → IsIn a basic → IsValid F n (ends a)) → IsBasis F n ends basic → IsForest F n ends basic
  basis_is_forest basic valid b = piece_is_quasi_tree basic b.once valid b.as_many (basis_rigid basic valid b)

  -- ---- a forest is a basis

  module _ (basic : List ℕ) (once : AreDistinct basic) (valid : (a : ℕ) → IsIn a basic → IsValid F n (ends a)) (forest : IsForest F n ends basic) where
    piece : (v : ℕ) → v < n → Search.PieceOf F n ends basic v
    piece v l = Search.piece_of F n ends basic once valid v l

    tree : (v : ℕ) (l : v < n) → IsQuasiTree F (piece v l).nodes (map ends (piece v l).arcs)
    tree v l = forest (piece v l).least (piece v l).nodes (piece v l).arcs (piece v l).piece

    forest_rigid : Rigid.IsRigid F (upto n) (map ends basic)
    forest_rigid q flat v i =
        let l : v < n = upto_below n v i in
        let r = piece v l in
        Rigid.quasi_tree_rigid F r.nodes (map ends r.arcs) (tree v l) q
        (λ e k. let m = in_map_of ends e r.arcs k in subst (λ t. pull F t q ≡ zero) (sym m.2) (flat (ends m.0) (in_map ends m.0 basic ((r.piece.touched m.0).0 m.1).0))) v r.holds

    forest_independent : (flow : ℕ → Scalar) → ((v : ℕ) → v < n → balance F ends flow basic v ≡ zero) → (a : ℕ) → IsIn a basic → flow a ≡ zero
    forest_independent flow none a i =
        let e = an_end (ends a) (valid a i) in
        let r = piece e.0 e.1 in
        Theorems.no_circulation F ends r.nodes r.arcs (tree e.0 e.1) flow
        (λ v j. sym (Pieces.total_only F n ends (λ b. coefficient F (ends b) v ⊗ flow b) r.arcs basic r.piece.arcs_once once (λ b k. ((r.piece.touched b).0 k).0)
        (λ b k h. ap (λ t. t ⊗ flow b) (Pieces.untouched_coefficient F n ends r.nodes (ends b) v j (λ t. h ((r.piece.touched b).1 (k, t)))) ∙ Algebra.zero_times F (flow b)))
        ∙ none v ((r.piece.joined v).0 j).0)
        a ((r.piece.touched a).1 (i, e.2 r.nodes r.holds))

    forest_even : length basic ≡ n
    forest_even =
        let a : length (upto n) ≤ length (map ends basic) = Rigid.enough F (upto n) (map ends basic) (upto_once n) (Pieces.lies_map F n ends (upto n) basic (λ b k. lies_in_all (ends b) (valid b k))) forest_rigid in
        let b : length basic ≤ length (upto n) = few (cases (length (upto n)) (length basic)) in
        omega (arith, length_upto n, length_map ends basic, a, b)
      where
        cases : (p q : ℕ) → (p < q) ⊎ (q ≤ p)
        cases p q = grind arith

        few : (length (upto n) < length basic) ⊎ (length basic ≤ length (upto n)) → length basic ≤ length (upto n)
        few (inl l) = let m : Loose (upto n) basic = loose (upto n) basic once l in absurd (m.apart (forest_independent m.flow (λ v k. m.takes_nothing v (upto_holds n v k)) m.place m.inside))
        few (inr l) = l

    pub forest_is_basis : IsBasis F n ends basic
    forest_is_basis = record { once = once; as_many = forest_even; independent = forest_independent }
