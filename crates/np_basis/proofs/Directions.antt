-- Directions of an arc that enters exist and are unique: over pieces, and over a whole basis.
use Rattle.std.specs.Prelude.{◌≡◌, ◌≢◌, ◌⊎◌, ℕ, ◌+◌, ◌<◌, List, [], ◌∷◌, ◌++◌, map, length}
use Rattle.std.proofs.Common.{refl, sym, ap, ap₂, subst, ◌∙◌, inl, inr, arith}
use Rattle.std.proofs.lemmas.List.FromFn.{length-range_with_len}
use Rattle.gain_graphs.specs.Arcs as graph
use Rattle.gain_graphs.specs.Arcs.{IsIn, AreDistinct}
use Rattle.gain_graphs.specs.Bases as bases
use Rattle.gain_graphs.specs.Field as field
use Rattle.gain_graphs.specs.Forests.{IsValid}
use Rattle.gain_graphs.specs.QuasiTrees.{LiesIn}
use Rattle.gain_graphs.proofs.Algebra as algebra
use Rattle.gain_graphs.proofs.Bases as graph_bases
use Rattle.gain_graphs.proofs.Equations as equations
use Rattle.gain_graphs.proofs.Flows as flows
use Rattle.gain_graphs.proofs.Lists.{in_front, in_back, in_append, map_append, length_map, split_at, decide_in, distinct_append, apart_parts, once_right}
use Rattle.gain_graphs.proofs.Pieces as graph_pieces
use Rattle.gain_graphs.proofs.Rigid as rigid
use Rattle.gain_graphs.proofs.Selected.{upto, upto_below, upto_holds}
use Rattle.gain_graphs.proofs.Sums as graph_sums
use Rattle.gain_graphs.proofs.Weights as weights
use Rattle.np_frac.specs.Ratio.{Ratio, zero_ratio, negated, ◌+ᵣ◌, ◌*ᵣ◌}
use Rattle.np_frac.proofs.RatioLaws.{*ᵣ-zero}
use Rattle.np_frac.proofs.Field.{+ᵣ-negated, same_or}
use Rattle.np_model.specs.declared.arc.Ends.{Ends}
use Rattle.np_model.specs.declared.log.Mark.TheVariants as marked
use Rattle.np_model.specs.Network.Arcs.{coefficient}
use Rattle.np_model.specs.Network.Flows.{Network}
use Rattle.np_model.specs.Basis.Graphs.{ratios, graph_of, no_arc, ends_at}
use Rattle.np_model.specs.Basis.Moves.{balance_on, IsDirection}
use Rattle.np_model.specs.Basis.Pieces.{PieceLists, nodes_in, basics_in, nodes_of, basics_of}
use Rattle.np_model.specs.Basis.Pivots.{node_numbers, arc_numbers}
use Rattle.np_model.specs.Basis.Sound.{IsInNet}
use Rattle.np_model.specs.Basis.States.{Values, basics, IsForest}
use Rattle.np_basis.specs.Laws.{HasSoundArcs}
use Rattle.np_basis.specs.PivotLaws.{AreInNet, MayEnter, DirectionExists, DirectionIsUnique, WholeDirectionExists, WholeDirectionIsUnique}
use Rattle.np_basis.proofs.Ascending.{ascends, ascends_once}
use Rattle.gain_graphs.proofs.Lists.{range_holds, range_within}
use Rattle.np_basis.proofs.Basics.{range_ascends, basics_hold, basics_once}
use Rattle.np_basis.proofs.Trees as trees
use Rattle.np_basis.proofs.Trees.{is_valid, coefficient_is, total_is}

-- ---- a function on the numbers of a list, and 0 elsewhere

pub only_on : List ℕ → (ℕ → Ratio) → ℕ → Ratio
only_on xs f a = elim (decide_in a xs) [ yes i ↦ f a | no h ↦ zero_ratio ]

pub only_on_in : (xs : List ℕ) (f : ℕ → Ratio) (a : ℕ) → IsIn a xs → only_on xs f a ≡ f a
unfolding only_on
only_on_in xs f a i = go (decide_in a xs)
  where
    go : (d : Dec (IsIn a xs)) → (elim d as (λ _. Ratio) [ yes j ↦ f a | no h ↦ zero_ratio ]) ≡ f a
    go (yes j) = refl
    go (no h) = absurd (h i)

pub only_on_out : (xs : List ℕ) (f : ℕ → Ratio) (a : ℕ) → (¬ IsIn a xs) → only_on xs f a ≡ zero_ratio
unfolding only_on
only_on_out xs f a k = go (decide_in a xs)
  where
    go : (d : Dec (IsIn a xs)) → (elim d as (λ _. Ratio) [ yes j ↦ f a | no h ↦ zero_ratio ]) ≡ zero_ratio
    go (yes j) = absurd (k j)
    go (no h) = refl

module _ (net : Network) (sound : HasSoundArcs net) where
  pub ends_valid : (a : ℕ) → a < length net.arcs → IsValid ratios (length net.supply) (graph_of (ends_at net.arcs) a)
  ends_valid a below = let h = sound a no_arc below in is_valid (length net.supply) (ends_at net.arcs a) h.joins h.gain

  -- ---- balances

  from_pairs : (numbers : List ℕ) (d : ℕ → Ratio) (v : ℕ) → ((a : ℕ) → IsIn a numbers → a < length net.arcs)
      → field.total ratios (λ (p : Ends × Ratio). coefficient p.0 v *ᵣ p.1) (map (λ a. (ends_at net.arcs a, d a)) numbers) ≡ graph.balance ratios (graph_of (ends_at net.arcs)) d numbers v
  from_pairs [] d v below = refl
  from_pairs (a ∷ numbers) d v below = ap₂ (λ x y. x *ᵣ d a +ᵣ y) (coefficient_is (length net.supply) (ends_at net.arcs a) v (sound a no_arc (below a (inl refl))).joins)
      (from_pairs numbers d v (λ b i. below b (inr i)))

  pub balance_is : (numbers : List ℕ) (d : ℕ → Ratio) (v : ℕ) → ((a : ℕ) → IsIn a numbers → a < length net.arcs)
      → balance_on net numbers d v ≡ graph.balance ratios (graph_of (ends_at net.arcs)) d numbers v
  balance_is numbers d v below = total_is (λ (p : Ends × Ratio). coefficient p.0 v *ᵣ p.1) (map (λ a. (ends_at net.arcs a, d a)) numbers) ∙ from_pairs numbers d v below

  -- ---- bases of some nodes

  -- as many arcs as nodes, with their ends there, on which only the weights 0 have the pull 0
  pub record IsBasisOf (nodes arcs : List ℕ) : Type 0 where
    pub nodes_once : AreDistinct nodes
    pub arcs_once : AreDistinct arcs
    pub below : (a : ℕ) → IsIn a arcs → a < length net.arcs
    pub lies : (a : ℕ) → IsIn a arcs → LiesIn ratios nodes (graph_of (ends_at net.arcs) a)
    pub as_many : length arcs ≡ length nodes
    pub is_rigid : rigid.IsRigid ratios nodes (map (graph_of (ends_at net.arcs)) arcs)

  one : (p : PieceLists) → IsInNet net p → IsBasisOf (nodes_in p) (basics_in p)
  one p h = record {
    nodes_once = (trees.tree net p h).nodes_once;
    arcs_once = ascends_once (basics_in p) (ascends (basics_in p) h.shape.basics_ascend);
    below = trees.basic_below net p h;
    lies = trees.lies net p h;
    as_many = sym (length_map (graph_of (ends_at net.arcs)) (basics_in p)) ∙ (trees.tree net p h).as_many;
    is_rigid = rigid.quasi_tree_rigid ratios (nodes_in p) (map (graph_of (ends_at net.arcs)) (basics_in p)) (trees.tree net p h);
  }

  length_append : (xs ys : List ℕ) → length (xs ++ ys) ≡ length xs + length ys
  length_append [] ys = omega arith
  length_append (x ∷ xs) ys = omega (arith, length_append xs ys)

  -- two bases of other nodes are one
  both : (nodes arcs others theirs : List ℕ) → IsBasisOf nodes arcs → IsBasisOf others theirs → AreDistinct (nodes ++ others) → IsBasisOf (nodes ++ others) (arcs ++ theirs)
  both nodes arcs others theirs x y once = record {
    nodes_once = once;
    arcs_once = distinct_append arcs theirs x.arcs_once y.arcs_once (λ a i j.
        let t = graph_pieces.both ratios (length net.supply) ends nodes others (ends a) (x.lies a i) (touch others (ends a) (y.lies a j)) in
        apart_parts nodes others once t.0 t.1 t.2);
    below = λ a i. elim (in_append a arcs theirs i) [ inl j ↦ x.below a j | inr j ↦ y.below a j ];
    lies = λ a i. elim (in_append a arcs theirs i) [
      | inl j ↦ graph_pieces.wider ratios (length net.supply) ends nodes (nodes ++ others) (λ v. in_front v nodes others) (ends a) (x.lies a j)
      | inr j ↦ graph_pieces.wider ratios (length net.supply) ends others (nodes ++ others) (λ v. in_back v nodes others) (ends a) (y.lies a j)
    ];
    as_many = sums (length_append arcs theirs) (length_append nodes others) x.as_many y.as_many;
    is_rigid = λ q flat v i. elim (in_append v nodes others i) [
      | inl j ↦ x.is_rigid q (λ e k. flat e (subst (IsIn e) (sym (map_append ends arcs theirs)) (in_front e (map ends arcs) (map ends theirs) k))) v j
      | inr j ↦ y.is_rigid q (λ e k. flat e (subst (IsIn e) (sym (map_append ends arcs theirs)) (in_back e (map ends arcs) (map ends theirs) k))) v j
    ];
  }
    where
      ends : ℕ → graph.Ends Ratio
      ends = graph_of (ends_at net.arcs)

      touch : (ns : List ℕ) (e : graph.Ends Ratio) → LiesIn ratios ns e → graph.Touches ns e
      touch ns (graph.Link i j g) l = inl l.0
      touch ns (graph.Drain v) l = l
      touch ns (graph.Feed v) l = l

      sums : {a b c p q r : ℕ} → a ≡ b + c → p ≡ q + r → b ≡ q → c ≡ r → a ≡ p
      sums h k l m = omega arith

  pub of_pieces : (pieces : List PieceLists) → ((p : PieceLists) → IsIn p pieces → IsInNet net p) → AreDistinct (nodes_of pieces) → IsBasisOf (nodes_of pieces) (basics_of pieces)
  of_pieces [] each once = record { nodes_once = once; arcs_once = record {}; below = λ a i. absurd i; lies = λ a i. absurd i; as_many = refl; is_rigid = λ q flat v i. absurd i }
  of_pieces (p ∷ pieces) each once = both (nodes_in p) (basics_in p) (nodes_of pieces) (basics_of pieces) (one p (each p (inl refl)))
      (of_pieces pieces (λ r i. each r (inr i)) (once_right (nodes_in p) (nodes_of pieces) once)) once

  -- the basic arcs of a forest are a basis of all nodes
  pub of_forest : (s : Values) → IsForest net s.mark → IsBasisOf (node_numbers net) (basics net.arcs s.mark)
  of_forest s forest = record {
    nodes_once = ascends_once (node_numbers net) (range_ascends 0 (length net.supply));
    arcs_once = basics_once net.arcs s.mark;
    below = λ a i. ((basics_hold net.arcs s.mark a).0 i).0;
    lies = λ a i. graph_pieces.wider ratios (length net.supply) ends (upto (length net.supply)) (node_numbers net) (λ v j. range_holds 0 (length net.supply) v (omega arith) (omega (arith, upto_below (length net.supply) v j)))
        (ends a) (graph_bases.lies_in_all ratios (length net.supply) ends (ends a) (valid a i));
    as_many = basis.as_many ∙ sym (length-range_with_len 0 (length net.supply));
    is_rigid = λ q flat v i. graph_bases.basis_rigid ratios (length net.supply) ends (basics net.arcs s.mark) valid basis q flat v
        (upto_holds (length net.supply) v (let r = range_within 0 (length net.supply) v i in omega (arith, r.1)));
  }
    where
      ends : ℕ → graph.Ends Ratio
      ends = graph_of (ends_at net.arcs)

      valid : (a : ℕ) → IsIn a (basics net.arcs s.mark) → IsValid ratios (length net.supply) (graph_of (ends_at net.arcs) a)
      valid a i = ends_valid a ((basics_hold net.arcs s.mark a).0 i).0

      basis : bases.IsBasis ratios (length net.supply) (graph_of (ends_at net.arcs)) (basics net.arcs s.mark)
      basis = graph_bases.forest_is_basis ratios (length net.supply) ends (basics net.arcs s.mark) (basics_once net.arcs s.mark) valid forest

  -- ---- the direction of an arc that enters

  -- an arc that enters a basis of these nodes, and some arcs that hold it and the basic ones
  pub record Enters (nodes numbers basic : List ℕ) (enter : ℕ) : Type 0 where
    pub basis : IsBasisOf nodes basic
    pub once : AreDistinct numbers
    pub inside : (a : ℕ) → IsIn a numbers → a < length net.arcs
    pub holds : (a : ℕ) → IsIn a (enter ∷ basic) → IsIn a numbers
    pub new : ¬ IsIn enter basic

  module _ (nodes numbers basic : List ℕ) (enter : ℕ) (given : Enters nodes numbers basic enter) where
    ends : ℕ → graph.Ends Ratio
    ends = graph_of (ends_at net.arcs)

    need : Ratio → ℕ → Ratio
    need by v = negated (graph.coefficient ratios (graph_of (ends_at net.arcs) enter) v *ᵣ by)

    -- where nothing moves but the entering arc and the basic ones, they alone count
    pub balance_of_few : (d : ℕ → Ratio) → ((a : ℕ) → IsIn a numbers → (¬ IsIn a (enter ∷ basic)) → d a ≡ zero_ratio) → (v : ℕ)
        → balance_on net numbers d v ≡ graph.balance ratios (graph_of (ends_at net.arcs)) d (enter ∷ basic) v
    balance_of_few d none v = balance_is numbers d v given.inside
        ∙ graph_pieces.total_only ratios (length net.supply) (graph_of (ends_at net.arcs)) (λ a. graph.coefficient ratios (graph_of (ends_at net.arcs) a) v *ᵣ d a) (enter ∷ basic) numbers (given.new, given.basis.arcs_once) given.once given.holds
        (λ a i h. ap (λ t. graph.coefficient ratios (graph_of (ends_at net.arcs) a) v *ᵣ t) (none a i h) ∙ *ᵣ-zero (graph.coefficient ratios (graph_of (ends_at net.arcs) a) v))

    pub still : (by : Ratio) (d : ℕ → Ratio) → IsDirection net nodes numbers basic enter by d → (a : ℕ) → IsIn a numbers → (¬ IsIn a (enter ∷ basic)) → d a ≡ zero_ratio
    still by d h a i k = elim (same_or (d a) zero_ratio) [ yes e ↦ e | no n ↦ absurd (k (elim (h.only a i n) [ inl e ↦ inl e | inr j ↦ inr j ])) ]

    -- the basic arcs take what the entering arc leaves
    takes : (by : Ratio) (d : ℕ → Ratio) → IsDirection net nodes numbers basic enter by d → (v : ℕ) → IsIn v nodes → graph.balance ratios (graph_of (ends_at net.arcs)) d basic v ≡ need by v
    unfolding need
    takes by d h v i =
        algebra.negated_of ratios (graph.coefficient ratios (graph_of (ends_at net.arcs) enter) v *ᵣ d enter) (graph.balance ratios (graph_of (ends_at net.arcs)) d basic v) (sym (balance_of_few d (still by d h) v) ∙ h.balanced v i)
        ∙ ap (λ t. negated (graph.coefficient ratios (graph_of (ends_at net.arcs) enter) v *ᵣ t)) h.enters

    pub unique : (by : Ratio) (d e : ℕ → Ratio) → IsDirection net nodes numbers basic enter by d → IsDirection net nodes numbers basic enter by e → (a : ℕ) → IsIn a (enter ∷ basic) → d a ≡ e a
    unique by d e h k a (inl p) = ap d p ∙ h.enters ∙ sym k.enters ∙ ap e (sym p)
    unique by d e h k a (inr i) = value d h ∙ sym (value e k)
      where
        s : (before : List ℕ) × (after : List ℕ) × (before ++ a ∷ after ≡ basic)
        s = split_at a basic i

        w : weights.WeightsOf ratios (graph_of (ends_at net.arcs)) nodes a (s.0 ++ s.1)
        w = weights.of_arc ratios (graph_of (ends_at net.arcs)) nodes basic given.basis.nodes_once given.basis.lies given.basis.as_many given.basis.is_rigid s.0 a s.1 s.2

        value : (x : ℕ → Ratio) → IsDirection net nodes numbers basic enter by x → x a ≡ equations.dot ratios nodes (need by) w.weight
        value x z = weights.by_weights ratios (graph_of (ends_at net.arcs)) nodes x s.0 a s.1 (need by) given.basis.nodes_once (λ b j. given.basis.lies b (subst (IsIn b) s.2 j)) w
            (λ v j. ap (λ t. graph.balance ratios (graph_of (ends_at net.arcs)) x t v) s.2 ∙ takes by x z v j)

    pub exists : (by : Ratio) → (d : ℕ → Ratio) × IsDirection net nodes numbers basic enter by d
    unfolding need
    exists by = (d, record { enters = at_enter; only = only; balanced = balanced })
      where
        x : (x : ℕ → Ratio) × ((v : ℕ) → IsIn v nodes → graph.balance ratios (graph_of (ends_at net.arcs)) x basic v ≡ need by v)
        x = flows.flow_exists ratios (graph_of (ends_at net.arcs)) nodes basic given.basis.nodes_once given.basis.lies given.basis.as_many given.basis.is_rigid given.basis.arcs_once (need by)

        d : ℕ → Ratio
        d = only_on (enter ∷ basic) (graph_sums.put ratios enter by x.0)

        at_enter : d enter ≡ by
        at_enter = only_on_in (enter ∷ basic) (graph_sums.put ratios enter by x.0) enter (inl refl) ∙ graph_sums.put_same ratios enter by x.0

        at_basic : (a : ℕ) → IsIn a basic → d a ≡ x.0 a
        at_basic a i = only_on_in (enter ∷ basic) (graph_sums.put ratios enter by x.0) a (inr i) ∙ graph_sums.put_other ratios enter by x.0 a (λ e. given.new (subst (λ t. IsIn t basic) e i))

        only : (a : ℕ) → IsIn a numbers → d a ≢ zero_ratio → (a ≡ enter) ⊎ IsIn a basic
        only a i n = elim (decide_in a (enter ∷ basic)) [
          | yes j ↦ j
          | no h ↦ absurd (n (only_on_out (enter ∷ basic) (graph_sums.put ratios enter by x.0) a h))
        ]

        balanced : (v : ℕ) → IsIn v nodes → balance_on net numbers d v ≡ zero_ratio
        balanced v i =
            balance_of_few d (λ a j h. only_on_out (enter ∷ basic) (graph_sums.put ratios enter by x.0) a h) v
            ∙ ap₂ (λ s t. graph.coefficient ratios (graph_of (ends_at net.arcs) enter) v *ᵣ s +ᵣ t) at_enter
            (graph_sums.total_same ratios (λ a. graph.coefficient ratios (graph_of (ends_at net.arcs) a) v *ᵣ d a) (λ a. graph.coefficient ratios (graph_of (ends_at net.arcs) a) v *ᵣ x.0 a) basic
            (λ a j. ap (λ t. graph.coefficient ratios (graph_of (ends_at net.arcs) a) v *ᵣ t) (at_basic a j)) ∙ x.1 v i)
            ∙ +ᵣ-negated (graph.coefficient ratios (graph_of (ends_at net.arcs) enter) v *ᵣ by)

  -- ---- over pieces, and over all nodes and arcs

  pub of_entering : (pieces : List PieceLists) (enter : ℕ) → AreInNet net pieces → MayEnter net pieces enter → Enters (nodes_of pieces) (enter ∷ basics_of pieces) (basics_of pieces) enter
  of_entering pieces enter all may = record {
    basis = basis;
    once = (may.not_basic, basis.arcs_once);
    inside = λ a. elim [ inl e ↦ subst (λ t. t < length net.arcs) (sym e) may.below | inr i ↦ basis.below a i ];
    holds = λ a i. i;
    new = may.not_basic;
  }
    where
      basis : IsBasisOf (nodes_of pieces) (basics_of pieces)
      basis = of_pieces pieces all.each all.apart

  pub of_whole : (s : Values) (enter : ℕ) → IsForest net s.mark → enter < length net.arcs → s.mark enter ≢ marked.Basic → Enters (node_numbers net) (arc_numbers net) (basics net.arcs s.mark) enter
  of_whole s enter forest below new = record {
    basis = of_forest s forest;
    once = ascends_once (arc_numbers net) (range_ascends 0 (length net.arcs));
    inside = λ a i. let r = range_within 0 (length net.arcs) a i in omega (arith, r.1);
    holds = λ a. elim [
      | inl e ↦ range_holds 0 (length net.arcs) a (omega arith) (subst (λ t. t < 0 + length net.arcs) (sym e) (omega (arith, below)))
      | inr i ↦ range_holds 0 (length net.arcs) a (omega arith) (omega (arith, ((basics_hold net.arcs s.mark a).0 i).0))
    ];
    new = λ i. new ((basics_hold net.arcs s.mark enter).0 i).1;
  }

pub direction_exists : DirectionExists
direction_exists net pieces enter by sound all may =
    exists net sound (nodes_of pieces) (enter ∷ basics_of pieces) (basics_of pieces) enter (of_entering net sound pieces enter all may) by

pub direction_is_unique : DirectionIsUnique
direction_is_unique net pieces enter by d e sound all may h k =
    unique net sound (nodes_of pieces) (enter ∷ basics_of pieces) (basics_of pieces) enter (of_entering net sound pieces enter all may) by d e h k

pub whole_direction_exists : WholeDirectionExists
whole_direction_exists net s enter by sound forest below new =
    exists net sound (node_numbers net) (arc_numbers net) (basics net.arcs s.mark) enter (of_whole net sound s enter forest below new) by

pub whole_direction_is_unique : WholeDirectionIsUnique
whole_direction_is_unique net s enter by d e sound forest below new h k a l = elim (decide_in a (enter ∷ basics net.arcs s.mark)) [
  | yes i ↦ unique net sound (node_numbers net) (arc_numbers net) (basics net.arcs s.mark) enter given by d e h k a i
  | no n ↦ still net sound (node_numbers net) (arc_numbers net) (basics net.arcs s.mark) enter given by d h a inside n
      ∙ sym (still net sound (node_numbers net) (arc_numbers net) (basics net.arcs s.mark) enter given by e k a inside n)
]
  where
    given : Enters net sound (node_numbers net) (arc_numbers net) (basics net.arcs s.mark) enter
    given = of_whole net sound s enter forest below new

    inside : IsIn a (arc_numbers net)
    inside = range_holds 0 (length net.arcs) a (omega arith) (omega (arith, l))
