-- The network of a shape is a valid one, and its piece lies in it.
use Rattle.std.specs.Prelude.{◌≡◌, ◌⊎◌, ℕ, ◌+◌, ◌-◌, ◌<◌, ◌≤◌, true, List, [], ◌∷◌, length, map}
use Rattle.std.specs.List.{range_with_len}
use Rattle.std.specs.List.Sorted.{IsStrictlyIncreasing}
use Rattle.std.proofs.Common.{refl, sym, ap, ap₂, subst, ◌∙◌, inl, inr, arith, append-nil}
use Rattle.std.proofs.lemmas.List.{length-map, length-append, get_or_append_left, get_or-append_right, get_or-map}
use Rattle.std.proofs.lemmas.List.Elements.{All-from_get_or}
use Rattle.std.proofs.lemmas.List.FromFn.{get_or-map-range_with_len, length-map-range_with_len}
use Rattle.gain_graphs.specs.Arcs.{IsIn, AreDistinct, Touches}
use Rattle.gain_graphs.specs.QuasiTrees.{IsQuasiTree}
use Rattle.gain_graphs.proofs.Lists.{in_map_of, in_front, in_append}
use Rattle.np_frac.specs.Ratio.{Ratio, zero_ratio}
use Rattle.np_model.specs.declared.arc.Ends.{Ends}
use Rattle.np_model.specs.declared.arc.Ends.TheVariants.{Drain}
use Rattle.np_model.specs.declared.arc.NetArc.{NetArc}
use Rattle.np_model.specs.declared.log.Mark.{Mark}
use Rattle.np_model.specs.declared.log.Mark.TheVariants.{Lower, Upper, Basic}
use Rattle.np_model.specs.declared.phase.Phase.TheVariants.{Two}
use Rattle.np_model.specs.declared.piece.Direction.{Direction}
use Rattle.np_model.specs.Network.Arcs.{IsWithin}
use Rattle.np_model.specs.Network.Flows.{Network}
use Rattle.np_model.specs.Network.Nets.{IsSoundArc, IsNet}
use Rattle.np_model.specs.Basis.Artificial.{AreArtificial}
use Rattle.np_model.specs.Basis.Graphs.{ratios, graph_ends, no_arc, arc_at, ends_at}
use Rattle.np_model.specs.Basis.Phases.{real_arc, artificial_arc}
use Rattle.np_model.specs.Basis.Pieces.{PieceLists, HasShape, nodes_in, basics_in, ends_in, marked_in, beside, nodes_of, basics_of}
use Rattle.np_model.specs.Basis.States.{StandsAt}
use Rattle.np_model.specs.Basis.Sound.{IsInNet, HoldEnds, bound_at, values_in}
use Rattle.np_frac.proofs.RatioLaws.{≤ᵣ_refl}
use Rattle.np_basis.specs.PivotLaws.{unit_of}
use Rattle.tree_flows.specs.Answers.{CanEnter, IsAnswer}
use Rattle.ratio_test.specs.Asked.{AreWithin, IsOutside, IsAlong}
use Rattle.np_basis.proofs.Ascending.{ascends, ascends_once, rises}
use Rattle.gain_graphs.proofs.Lists.{range_holds, range_within}
use Rattle.np_basis.proofs.Basics.{range_ascends}
use Rattle.quasi_tree.specs.Store.{IsHeld}
use Rattle.bench_all.specs.declared.pieces.shape.Shape.{Shape}
use Rattle.bench_all.specs.Nodes.{supplies, drains}
use Rattle.bench_all.specs.Shapes.{arc_ends, net_arc, net_arcs, full_net, piece_basics, full_piece}
use Rattle.bench_all.proofs.Trees.{below_holds, holds_below}
use Rattle.bench_all.proofs.Arcs.{good, good_nodes, good_gain, graph_arc, quasi_tree}

-- what is read again from entries that were made of numbers
read_back : {A B : Type 0} (f : ℕ → A) (g : A → B) (xs : List ℕ) → map g (map f xs) ≡ map (λ x. g (f x)) xs
read_back f g [] = refl
read_back f g (x ∷ xs) = ap (λ t. g (f x) ∷ t) (read_back f g xs)

same_numbers : (xs : List ℕ) → map (λ x. x) xs ≡ xs
same_numbers [] = refl
same_numbers (x ∷ xs) = ap (λ t. x ∷ t) (same_numbers xs)

numbers_of : {A : Type 0} (f : ℕ → A) (g : A → ℕ) (xs : List ℕ) → map (λ x. g (f x)) xs ≡ map (λ x. x) xs → map g (map f xs) ≡ xs
numbers_of f g xs e = read_back f g xs ∙ e ∙ same_numbers xs

module _ (shape : Shape) (n : ℕ) (some : 2 ≤ n) where
  -- ---- the network

  pub valid : n ≤ 20000 → IsNet (supplies n) (net_arcs shape n)
  valid few = record {
    few_nodes = omega (arith, few, long);
    few_arcs = omega (arith, few, length-map-range_with_len (net_arc shape n) 0 n);
    sound = All-from_get_or (IsSoundArc (length (supplies n))) (net_arcs shape n) no_arc (λ i below.
        let l : i < n = omega (arith, below, length-map-range_with_len (net_arc shape n) 0 n) in
        rw (get_or-map-range_with_len (net_arc shape n) 0 n i i no_arc l (omega arith), long) (sound_arc i l));
  }
    where
      long : length (supplies n) ≡ n
      long = length-map-range_with_len (λ _. zero_ratio) 0 n

      sound_arc : (i : ℕ) → i < n → IsSoundArc n (net_arc shape n i)
      sound_arc i l = record { joins = good_nodes n (arc_ends shape n i) (good shape n i some l); gain = good_gain n (arc_ends shape n i) (good shape n i some l); bounds = record {} }

  pub artificial : AreArtificial (length (supplies n)) (drains n)
  artificial = record {
    one_each = length-map-range_with_len Drain 0 n ∙ sym (length-map-range_with_len (λ _. zero_ratio) 0 n);
    at_nodes = λ v other below.
        rw (get_or-map-range_with_len Drain 0 n v v other (omega (arith, below, length-map-range_with_len (λ (_ : ℕ). zero_ratio) 0 n)) (omega arith)) refl;
  }

  -- ---- its arcs, with the artificial ones

  long_real : length (map (real_arc Two) (net_arcs shape n)) ≡ n
  long_real = length-map (net_arcs shape n) (real_arc Two) ∙ length-map-range_with_len (net_arc shape n) 0 n

  long_artificial : length (map (artificial_arc Two) (drains n)) ≡ n
  long_artificial = length-map (drains n) (artificial_arc Two) ∙ length-map-range_with_len Drain 0 n

  long_arcs : length (full_net shape n).arcs ≡ n + n
  long_arcs = length-append (map (real_arc Two) (net_arcs shape n)) (map (artificial_arc Two) (drains n)) ∙ ap₂ (λ a b. a + b) long_real long_artificial

  real_ends : (v : ℕ) → v < n → ends_at (full_net shape n).arcs v ≡ arc_ends shape n v
  real_ends v l = ap (λ (a : NetArc). a.ends) (
      get_or_append_left (map (real_arc Two) (net_arcs shape n)) (map (artificial_arc Two) (drains n)) no_arc v (omega (arith, l, long_real))
      ∙ get_or-map (real_arc Two) (net_arcs shape n) v no_arc no_arc (omega (arith, l, length-map-range_with_len (net_arc shape n) 0 n))
      ∙ get_or-map-range_with_len (net_arc shape n) 0 n v v no_arc l (omega arith))

  artificial_ends : (a : ℕ) → n ≤ a → a < n + n → ends_at (full_net shape n).arcs a ≡ Drain (a - n)
  artificial_ends a low high = ap (λ (a : NetArc). a.ends) (
      get_or-append_right (map (real_arc Two) (net_arcs shape n)) (map (artificial_arc Two) (drains n)) n a no_arc long_real low
      ∙ get_or-map (artificial_arc Two) (drains n) (a - n) (Drain 0) no_arc (omega (arith, low, high, length-map-range_with_len Drain 0 n))
      ∙ ap (artificial_arc Two) (get_or-map-range_with_len Drain 0 n (a - n) (a - n) (Drain 0) (omega (arith, low, high)) (omega arith)))

  -- ---- the piece

  nodes_are : nodes_in (full_piece shape n) ≡ range_with_len 0 n
  nodes_are = numbers_of (λ v. (v, zero_ratio)) (λ p. p.0) (range_with_len 0 n) refl

  basics_are : basics_in (full_piece shape n) ≡ range_with_len 0 n
  basics_are = numbers_of (λ v. (v, arc_ends shape n v, zero_ratio)) (λ p. p.0) (range_with_len 0 n) refl

  marks_are : marked_in (full_piece shape n) ≡ range_with_len n n
  marks_are = numbers_of (λ a. (a, Lower)) (λ p. p.0) (range_with_len n n) refl

  ends_are : map graph_ends (ends_in (full_piece shape n)) ≡ map (graph_arc shape n) (range_with_len 0 n)
  ends_are = ap (λ t. map graph_ends t) (read_back (λ v. (v, arc_ends shape n v, zero_ratio)) (λ (p : ℕ × Ends × Ratio). p.1) (range_with_len 0 n))
      ∙ read_back (arc_ends shape n) graph_ends (range_with_len 0 n)

  node_below : (v : ℕ) → IsIn v (nodes_in (full_piece shape n)) → v < n
  node_below v i = holds_below n v (subst (λ t. IsIn v t) nodes_are i)

  basic_below : (a : ℕ) → IsIn a (basics_in (full_piece shape n)) → a < n
  basic_below a i = holds_below n a (subst (λ t. IsIn a t) basics_are i)

  marked_within : (a : ℕ) → IsIn a (marked_in (full_piece shape n)) → (n ≤ a) × (a < n + n)
  marked_within a i = range_within n n a (subst (λ t. IsIn a t) marks_are i)

  shape_is : HasShape (full_piece shape n)
  shape_is = record {
    nodes_ascend = subst (λ t. IsStrictlyIncreasing t) (sym nodes_are) (rises (range_with_len 0 n) (range_ascends 0 n));
    basics_ascend = subst (λ t. IsStrictlyIncreasing t) (sym basics_are) (rises (range_with_len 0 n) (range_ascends 0 n));
    marks_ascend = subst (λ t. IsStrictlyIncreasing t) (sym marks_are) (rises (range_with_len n n) (range_ascends n n));
    quasi_tree = subst (λ t. IsQuasiTree ratios t (map graph_ends (ends_in (full_piece shape n)))) (sym nodes_are)
        (subst (λ t. IsQuasiTree ratios (range_with_len 0 n) t) (sym ends_are) (quasi_tree shape n some));
    others = λ a marked basic. let low = (marked_within a marked).0 in let high = basic_below a basic in omega (arith, low, high);
    at_bounds = λ m is_in basic. let r = in_map_of (λ (a : ℕ). (a, Lower)) m (range_with_len n n) is_in in
        let lower : m.1 ≡ Lower = ap (λ (p : ℕ × Mark). p.1) r.2 in cc (sym lower ∙ basic);
  }

  pub held : n ≤ 20000 → IsHeld (full_piece shape n)
  held few = record {
    stored = inr shape_is;
    few_nodes = omega (arith, few, length-map-range_with_len {X = ℕ × Ratio} (λ v. (v, zero_ratio)) 0 n);
    few_basics = omega (arith, few, length-map-range_with_len {X = ℕ × Ends × Ratio} (λ v. (v, arc_ends shape n v, zero_ratio)) 0 n);
    few_marks = omega (arith, few, length-map-range_with_len {X = ℕ × Mark} (λ a. (a, Lower)) n n);
  }

  basic_is : (b : ℕ × Ends × Ratio) → IsIn b (piece_basics shape n) → (b.0 < n) × (b.1 ≡ arc_ends shape n b.0)
  basic_is b i =
      let r = in_map_of (λ (v : ℕ). (v, arc_ends shape n v, zero_ratio)) b (range_with_len 0 n) i in
      let at : b.0 ≡ r.0 = ap (λ (p : ℕ × Ends × Ratio). p.0) r.2 in
      let ends : b.1 ≡ arc_ends shape n r.0 = ap (λ (p : ℕ × Ends × Ratio). p.1) r.2 in
      let below = holds_below n r.0 r.1 in
      (omega (arith, below, at), ends ∙ ap (λ t. arc_ends shape n t) (sym at))

  pub in_net : IsInNet (full_net shape n) (full_piece shape n)
  in_net = record {
    shape = shape_is;
    nodes = λ v i. let l = node_below v i in omega (arith, l, length-map-range_with_len (λ (_ : ℕ). zero_ratio) 0 n);
    basic = λ b i. let r = basic_is b i in let l = r.0 in (omega (arith, l, long_arcs), r.1 ∙ sym (real_ends b.0 r.0));
    marked = λ a. (
      (λ i. let r = marked_within a i in let low = r.0 in let high = r.1 in (
        omega (arith, high, long_arcs),
        (λ b. let l = basic_below a b in omega (arith, low, l)),
        subst (λ t. Touches (nodes_in (full_piece shape n)) (graph_ends t)) (sym (artificial_ends a low high))
            (subst (λ t. IsIn (a - n) t) (sym nodes_are) (below_holds n (a - n) (omega (arith, low, high)))),
      )),
      (λ r. elim (split a) [
        | inl l ↦ absurd (r.1 (subst (λ t. IsIn a t) (sym basics_are) (below_holds n a l)))
        | inr l ↦ let high = r.0 in subst (λ t. IsIn a t) (sym marks_are) (range_holds n n a l (omega (arith, high, long_arcs)))
      ]),
    );
  }
    where
      split : (a : ℕ) → (a < n) ⊎ (n ≤ a)
      split a = grind arith

  -- ---- the last artificial arc enters

  nodes_once : AreDistinct (nodes_of (full_piece shape n ∷ []))
  nodes_once = subst AreDistinct (sym (append-nil (nodes_in (full_piece shape n)))) (ascends_once (nodes_in (full_piece shape n)) (ascends (nodes_in (full_piece shape n)) shape_is.nodes_ascend))

  each_in_net : (p : PieceLists) → IsIn p (full_piece shape n ∷ []) → IsInNet (full_net shape n) p
  each_in_net p = elim [ inl e ↦ subst (IsInNet (full_net shape n)) (sym e) in_net | inr z ↦ absurd z ]

  last_ends : ends_at (full_net shape n).arcs (n + (n - 1)) ≡ Drain (n + (n - 1) - n)
  last_ends = artificial_ends (n + (n - 1)) (omega arith) (omega (arith, some))

  last_holds : HoldEnds (full_piece shape n ∷ []) (ends_at (full_net shape n).arcs (n + (n - 1)))
  last_holds = subst (λ t. HoldEnds (full_piece shape n ∷ []) t) (sym last_ends)
      (in_front (n + (n - 1) - n) (nodes_in (full_piece shape n)) [] (subst (λ t. IsIn (n + (n - 1) - n) t) (sym nodes_are) (below_holds n (n + (n - 1) - n) (omega (arith, some)))))

  last_outside : ¬ IsIn (n + (n - 1)) (basics_of (full_piece shape n ∷ []))
  last_outside i = let l = basic_below (n + (n - 1)) (elim (in_append (n + (n - 1)) (basics_in (full_piece shape n)) [] i) [ inl k ↦ k | inr z ↦ absurd z ]) in omega (arith, l, some)

  pub can_enter : CanEnter (full_net shape n) (full_piece shape n ∷ []) (n + (n - 1))
  can_enter = record { in_net = each_in_net; apart = nodes_once; inside = omega (arith, some, long_arcs); holds = last_holds; outside = last_outside }

  real_is : (v : ℕ) → v < n → arc_at (full_net shape n).arcs v ≡ net_arc shape n v
  real_is v l = get_or_append_left (map (real_arc Two) (net_arcs shape n)) (map (artificial_arc Two) (drains n)) no_arc v (omega (arith, l, long_real))
      ∙ get_or-map (real_arc Two) (net_arcs shape n) v no_arc no_arc (omega (arith, l, length-map-range_with_len (net_arc shape n) 0 n))
      ∙ get_or-map-range_with_len (net_arc shape n) 0 n v v no_arc l (omega arith)

  pub are_within : AreWithin (full_net shape n) (full_piece shape n ∷ [])
  are_within = record {
    in_net = each_in_net;
    apart = nodes_once;
    within = λ p b i j.
        let k : IsIn b (piece_basics shape n) = elim i [ inl e ↦ subst (λ (t : PieceLists). IsIn b t.basics) e j | inr z ↦ absurd z ] in
        let r = in_map_of (λ (v : ℕ). (v, arc_ends shape n v, zero_ratio)) b (range_with_len 0 n) k in
        let none : b.2 ≡ zero_ratio = ap (λ (x : ℕ × Ends × Ratio). x.2) r.2 in
        subst (λ a. IsWithin a b.2) (sym (real_is b.0 (basic_is b k).0)) (subst (λ x. IsWithin (net_arc shape n b.0) x) (sym none) (≤ᵣ_refl zero_ratio, record {}));
  }

  artificial_is : (a : ℕ) → n ≤ a → a < n + n → arc_at (full_net shape n).arcs a ≡ artificial_arc Two (Drain (a - n))
  artificial_is a low high = get_or-append_right (map (real_arc Two) (net_arcs shape n)) (map (artificial_arc Two) (drains n)) n a no_arc long_real low
      ∙ get_or-map (artificial_arc Two) (drains n) (a - n) (Drain 0) no_arc (omega (arith, low, high, length-map-range_with_len Drain 0 n))
      ∙ ap (artificial_arc Two) (get_or-map-range_with_len Drain 0 n (a - n) (a - n) (Drain 0) (omega (arith, low, high)) (omega arith))

  at_bounds : (e : Ends) (m : Mark) → StandsAt (artificial_arc Two e) m (bound_at (artificial_arc Two e) m)
  at_bounds e Lower = refl
  at_bounds e Upper = refl
  at_bounds e Basic = record {}

  pub is_outside : (enter : ℕ) → enter ≡ n + (n - 1) → IsOutside (full_net shape n) (full_piece shape n ∷ []) enter
  is_outside enter is = subst (IsOutside (full_net shape n) (full_piece shape n ∷ [])) (sym is) (record {
    is_arc = omega (arith, some, long_arcs);
    ends = last_holds;
    not_basic = last_outside;
    at_bound = let m = (values_in (full_net shape n) (full_piece shape n ∷ [])).mark (n + (n - 1)) in
        subst (λ a. StandsAt a m (bound_at a m)) (sym (artificial_is (n + (n - 1)) (omega arith) (omega (arith, some)))) (at_bounds (Drain (n + (n - 1) - n)) m);
  })

-- a direction that was found is one to follow
pub is_along : (net : Network) (pieces : List PieceLists) (enter : ℕ) (d : Direction) → IsAnswer net pieces enter true d → IsAlong pieces d
is_along net pieces enter d a = record {
  ascend = a.ascend;
  not_zero = λ s i. (a.moves s i).1;
  on_arcs = λ b i. let r = in_map_of (λ (s : ℕ × Ratio). s.0) b d.steps i in
      elim (subst (λ x. IsIn x (enter ∷ basics_of pieces)) (sym r.2) (a.moves r.0 r.1).0) [ inl e ↦ inl (e ∙ sym a.enters) | inr k ↦ inr k ];
  enters = ap (beside zero_ratio d.steps) a.enters ∙ a.balances.enters ∙ ap unit_of (sym a.goes);
}

-- ---- a piece with other potentials

-- potentials count for nothing in it
pub still_in_net : (net : Network) (old new : PieceLists) → nodes_in new ≡ nodes_in old → new.basics ≡ old.basics → new.marks ≡ old.marks → IsInNet net old → IsInNet net new
still_in_net net old new nodes basics marks is_in = record {
  shape = record {
    nodes_ascend = subst (λ t. IsStrictlyIncreasing t) (sym nodes) is_in.shape.nodes_ascend;
    basics_ascend = subst (λ (t : List (ℕ × Ends × Ratio)). IsStrictlyIncreasing (map (λ b. b.0) t)) (sym basics) is_in.shape.basics_ascend;
    marks_ascend = subst (λ (t : List (ℕ × Mark)). IsStrictlyIncreasing (map (λ m. m.0) t)) (sym marks) is_in.shape.marks_ascend;
    quasi_tree = subst (λ t. IsQuasiTree ratios t (map graph_ends (ends_in new))) (sym nodes)
        (subst (λ (t : List (ℕ × Ends × Ratio)). IsQuasiTree ratios (nodes_in old) (map graph_ends (map (λ b. b.1) t))) (sym basics) is_in.shape.quasi_tree);
    others = λ a marked basic. is_in.shape.others a (to_marked a marked) (to_basic a basic);
    at_bounds = λ m i. is_in.shape.at_bounds m (subst (λ t. IsIn m t) marks i);
  };
  nodes = λ v i. is_in.nodes v (subst (λ t. IsIn v t) nodes i);
  basic = λ b i. is_in.basic b (subst (λ t. IsIn b t) basics i);
  marked = λ a. (
    (λ i. let r = (is_in.marked a).0 (to_marked a i) in (r.0, (λ b. r.1 (to_basic a b)), subst (λ t. Touches t (graph_ends (ends_at net.arcs a))) (sym nodes) r.2)),
    (λ r. subst (λ (t : List (ℕ × Mark)). IsIn a (map (λ m. m.0) t)) (sym marks) ((is_in.marked a).1 (
      r.0,
      (λ b. r.1 (subst (λ (t : List (ℕ × Ends × Ratio)). IsIn a (map (λ x. x.0) t)) (sym basics) b)),
      subst (λ t. Touches t (graph_ends (ends_at net.arcs a))) nodes r.2,
    ))),
  );
}
  where
    to_marked : (a : ℕ) → IsIn a (marked_in new) → IsIn a (marked_in old)
    to_marked a i = subst (λ (t : List (ℕ × Mark)). IsIn a (map (λ m. m.0) t)) marks i

    to_basic : (a : ℕ) → IsIn a (basics_in new) → IsIn a (basics_in old)
    to_basic a i = subst (λ (t : List (ℕ × Ends × Ratio)). IsIn a (map (λ x. x.0) t)) basics i
