-- The arcs of the shapes: where they lead, and that each shape is a quasi-tree.
use Rattle.std.specs.Prelude.{◌≡◌, ◌≢◌, ℕ, zero, suc, ◌+◌, ◌-◌, ◌<◌, ◌≤◌, ◌==◌, true, false, pos, List, [], ◌∷◌, map}
use Rattle.std.specs.List.{range_with_len}
use Rattle.std.proofs.Common.{refl, sym, ap, subst, ◌∙◌, inl, inr, arith}
use Rattle.std.proofs.lemmas.Bool.{cases_eq}
use Rattle.std.proofs.lemmas.Bool.Decides.{nat_tests}
use Rattle.std.proofs.lemmas.Int.{ints}
use Rattle.gain_graphs.specs.Arcs as graph
use Rattle.gain_graphs.specs.Arcs.{IsIn, Step, Along, IsWalk, AreJoined, product}
use Rattle.gain_graphs.specs.QuasiTrees.{LiesIn, HasExtra, IsQuasiTree}
use Rattle.gain_graphs.proofs.Walks.{joined_trans}
use Rattle.np_frac.specs.Ratio.{Ratio, whole, zero_ratio, one_ratio, ◌<ᵣ◌, ◌*ᵣ◌}
use Rattle.np_frac.proofs.Field.{*ᵣ-one, above-apart, whole_above, one_above}
use Rattle.np_model.specs.declared.arc.Ends.{Ends}
use Rattle.np_model.specs.declared.arc.Ends.TheVariants.{Link, Drain, Feed}
use Rattle.np_model.specs.Network.Arcs.{AreNodes, IsGaining}
use Rattle.np_model.specs.Basis.Graphs.{ratios, graph_ends}
use Rattle.bench_all.specs.declared.pieces.shape.Shape.{Shape}
use Rattle.bench_all.specs.declared.pieces.shape.Shape.TheVariants.{Chain, Star, Cycle}
use Rattle.bench_all.specs.Shapes.{arc_ends}
use Rattle.bench_all.proofs.Trees.{below_holds, stands, over_link, quasi_tree_if}

-- ---- the gains

two_not_one : whole (pos 2) ≢ one_ratio
unfolding whole
two_not_one e = let p : pos 2 ≡ pos 1 = ap (λ (r : Ratio). r.num) e in cc

-- ---- each arc is a drain or a link between two of the nodes, with a gain above 0

abbrev pub IsGood : ℕ → Ends → Type 0
IsGood n (Link i j g) = (i < n) × (j < n) × (i ≢ j) × (zero_ratio <ᵣ g)
IsGood n (Drain i) = i < n
IsGood n (Feed i) = i < n

pub good_lies : (n : ℕ) (e : Ends) → IsGood n e → LiesIn ratios (range_with_len 0 n) (graph_ends e)
good_lies n (Link i j g) h = (below_holds n i h.0, below_holds n j h.1, above-apart h.3)
good_lies n (Drain i) h = below_holds n i h
good_lies n (Feed i) h = below_holds n i h

pub good_nodes : (n : ℕ) (e : Ends) → IsGood n e → AreNodes n e
good_nodes n (Link i j g) h = (h.0, h.1, h.2)
good_nodes n (Drain i) h = h
good_nodes n (Feed i) h = h

pub good_gain : (n : ℕ) (e : Ends) → IsGood n e → IsGaining e
good_gain n (Link i j g) h = h.3
good_gain n (Drain i) h = record {}
good_gain n (Feed i) h = record {}

-- ---- where the arcs lead

test_apart : (a b : ℕ) → a ≢ b → (a == b) ≡ false
test_apart a b h = grind (arith, nat_tests, h)

test_same : (a b : ℕ) → a ≡ b → (a == b) ≡ true
test_same a b h = grind (arith, nat_tests, h)

chain_link : (n u v : ℕ) → v ≡ u + 1 → arc_ends Chain n v ≡ Link u v one_ratio
chain_link n u v e = let t = test_apart v 0 (λ z. absurd (omega (arith, e, z))) in let p : v - 1 ≡ u = omega arith in rw (t, p) refl

star_link : (n v : ℕ) → 0 < v → arc_ends Star n v ≡ Link 0 v one_ratio
star_link n v h = let t = test_apart v 0 (λ z. absurd (omega (arith, h, z))) in rw t refl

cycle_first : (n : ℕ) → 2 ≤ n → arc_ends Cycle n 0 ≡ Link 0 1 (whole (pos 2))
cycle_first n h = let t = test_apart (0 + 1) n (λ z. absurd (omega (arith, h, z))) in rw t refl

cycle_link : (n u v : ℕ) → v ≡ u + 1 → v < n → 0 < u → arc_ends Cycle n u ≡ Link u v one_ratio
cycle_link n u v e l h =
    let t = test_apart (u + 1) n (λ z. absurd (omega (arith, e, l, z))) in let s = test_apart u 0 (λ z. absurd (omega (arith, h, z))) in
    let p : u + 1 ≡ v = sym e in rw (t, s, p) refl

cycle_last : (n u : ℕ) → u + 1 ≡ n → 0 < u → arc_ends Cycle n u ≡ Link u 0 one_ratio
cycle_last n u e h = let t = test_same (u + 1) n e in let s = test_apart u 0 (λ z. absurd (omega (arith, h, z))) in rw (t, s) refl

pub good : (shape : Shape) (n v : ℕ) → 2 ≤ n → v < n → IsGood n (arc_ends shape n v)
good Chain n v h l = elim (cases_eq v 0) [
  | inl e ↦ let t = test_same v 0 e in rw t (omega arith)
  | inr d ↦ subst (λ t. IsGood n t) (sym (chain_link n (v - 1) v (omega (arith, d)))) (omega arith, l, (λ e. absurd (omega (arith, d, e))), one_above)
]
good Star n v h l = elim (cases_eq v 0) [
  | inl e ↦ let t = test_same v 0 e in rw t (omega arith)
  | inr d ↦ subst (λ t. IsGood n t) (sym (star_link n v (omega (arith, d)))) (omega arith, l, (λ e. absurd (omega (arith, d, e))), one_above)
]
good Cycle n v h l = elim (cases_eq v 0) [
  | inl e ↦ subst (λ (t : ℕ). IsGood n (arc_ends Cycle n t)) (sym e) (subst (λ t. IsGood n t) (sym (cycle_first n h)) (omega arith, omega arith, (λ q. absurd (omega (arith, q))), whole_above (pos 2) (omega (arith, ints))))
  | inr d ↦ elim (cases_eq (v + 1) n) [
    | inl e ↦ subst (λ t. IsGood n t) (sym (cycle_last n v e (omega (arith, d)))) (l, omega arith, (λ q. absurd (omega (arith, d, q))), one_above)
    | inr k ↦ subst (λ t. IsGood n t) (sym (cycle_link n v (v + 1) refl (omega (arith, k)) (omega (arith, d)))) (l, omega (arith, k), (λ q. absurd (omega (arith, q))), one_above)
  ]
]

-- ---- each shape is a quasi-tree

abbrev pub graph_arc : Shape → ℕ → ℕ → graph.Ends Ratio
graph_arc shape n v = graph_ends (arc_ends shape n v)

abbrev arcs : Shape → ℕ → List (graph.Ends Ratio)
arcs shape n = map (graph_arc shape n) (range_with_len 0 n)

over : (shape : Shape) (n v i j : ℕ) (g : Ratio) → v < n → arc_ends shape n v ≡ Link i j g → AreJoined (arcs shape n) i j
over shape n v i j g l e = over_link n (graph_arc shape n) v i j g l (ap graph_ends e)

joined : (shape : Shape) (n v : ℕ) → 2 ≤ n → v < n → AreJoined (arcs shape n) 0 v
joined shape n zero h l = ([], refl)
joined Chain n (suc u) h l = joined_trans (arcs Chain n) 0 u (suc u) (joined Chain n u h (omega arith)) (over Chain n (suc u) u (suc u) one_ratio l (chain_link n u (suc u) (omega arith)))
joined Star n (suc u) h l = over Star n (suc u) 0 (suc u) one_ratio l (star_link n (suc u) (omega arith))
joined Cycle n (suc u) h l = joined_trans (arcs Cycle n) 0 u (suc u) (joined Cycle n u h (omega arith)) (elim (cases_eq u 0) [
  | inl e ↦ subst (λ (t : ℕ). AreJoined (arcs Cycle n) t (suc t)) (sym e) (over Cycle n 0 0 1 (whole (pos 2)) (omega arith) (cycle_first n h))
  | inr d ↦ over Cycle n u u (suc u) one_ratio (omega arith) (cycle_link n u (suc u) (omega arith) l (omega (arith, d)))
])

-- the links of a cycle from this node on, and back to node 0 after so many more
round : ℕ → ℕ → List (Step Ratio)
round i zero = Along i 0 one_ratio ∷ []
round i (suc k) = Along i (suc i) one_ratio ∷ round (suc i) k

round_is_walk : (n i k : ℕ) → 0 < i → suc (i + k) ≡ n → IsWalk (arcs Cycle n) i (round i k) 0
unfolding round
round_is_walk n i zero h e = (refl, stands n (graph_arc Cycle n) i (graph.Link i 0 one_ratio) (omega arith) (ap graph_ends (cycle_last n i (omega arith) h)), refl)
round_is_walk n i (suc k) h e = (
  refl,
  stands n (graph_arc Cycle n) i (graph.Link i (suc i) one_ratio) (omega arith) (ap graph_ends (cycle_link n i (suc i) (omega arith) (omega arith) h)),
  round_is_walk n (suc i) k (omega arith) (omega arith),
)

round_product : (i k : ℕ) → product ratios (round i k) ≡ one_ratio
unfolding round
round_product i zero = *ᵣ-one one_ratio
round_product i (suc k) = ap (λ t. one_ratio *ᵣ t) (round_product (suc i) k) ∙ *ᵣ-one one_ratio

extra : (shape : Shape) (n : ℕ) → 2 ≤ n → HasExtra ratios (range_with_len 0 n) (arcs shape n)
extra Chain n h = inl (graph.Drain 0, stands n (graph_arc Chain n) 0 (graph.Drain 0) (omega arith) refl, record {})
extra Star n h = inl (graph.Drain 0, stands n (graph_arc Star n) 0 (graph.Drain 0) (omega arith) refl, record {})
extra Cycle n h = inr (
  0,
  Along 0 1 (whole (pos 2)) ∷ round 1 (n - 2),
  below_holds n 0 (omega arith),
  (refl, stands n (graph_arc Cycle n) 0 (graph.Link 0 1 (whole (pos 2))) (omega arith) (ap graph_ends (cycle_first n h)), round_is_walk n 1 (n - 2) (omega arith) (omega arith)),
  λ e. two_not_one (sym (*ᵣ-one (whole (pos 2))) ∙ ap (λ t. whole (pos 2) *ᵣ t) (sym (round_product 1 (n - 2))) ∙ e),
)

pub quasi_tree : (shape : Shape) (n : ℕ) → 2 ≤ n → IsQuasiTree ratios (range_with_len 0 n) (arcs shape n)
quasi_tree shape n h = quasi_tree_if n (graph_arc shape n) (omega arith) (λ v l. good_lies n (arc_ends shape n v) (good shape n v h l)) (λ v l. joined shape n v h l) (extra shape n h)
