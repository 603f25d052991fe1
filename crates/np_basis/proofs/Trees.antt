-- A piece in a network as a quasi-tree of numbered arcs: its potentials and its node weights.
use Rattle.std.specs.Prelude.{◌≡◌, ◌≢◌, ℕ, ◌<◌, List, [], ◌∷◌, map, length}
use Rattle.std.proofs.Common.{refl, sym, ap, ap₂, subst, ◌∙◌, inl, inr}
use Rattle.std.proofs.lemmas.Bool.{cases_eq}
use Rattle.gain_graphs.specs.Arcs as graph
use Rattle.gain_graphs.specs.Arcs.{IsIn}
use Rattle.gain_graphs.specs.Field as field
use Rattle.gain_graphs.specs.Forests as forest
use Rattle.gain_graphs.specs.QuasiTrees.{LiesIn, IsQuasiTree}
use Rattle.gain_graphs.proofs.Lists.{in_map_of}
use Rattle.gain_graphs.proofs.Sums as graph_sums
use Rattle.gain_graphs.proofs.Theorems as theorems
use Rattle.np_frac.specs.Ratio.{Ratio, zero_ratio, one_ratio, negated, ◌+ᵣ◌, ◌*ᵣ◌, total}
use Rattle.np_frac.proofs.RatioLaws.{+ᵣ-zero, zero-+ᵣ, minus_link, minus_negated, clash, ≤ᵣ_same}
use Rattle.np_frac.proofs.Sums as sums
use Rattle.np_model.specs.declared.arc.Ends.{Ends}
use Rattle.np_model.specs.declared.arc.Ends.TheVariants.{Link, Drain, Feed}
use Rattle.np_model.specs.Network.Arcs.{coefficient, tail_of, head_of, AreNodes, IsGaining, reduced_cost}
use Rattle.np_model.specs.Network.Flows.{Network}
use Rattle.np_model.specs.Basis.Graphs.{ratios, graph_ends, graph_of, no_arc, ends_at}
use Rattle.np_model.specs.Basis.Pieces.{PieceLists, nodes_in, basics_in}
use Rattle.np_model.specs.Basis.Sound.{IsInNet}
use Rattle.np_model.proofs.Coefficients.{coefficient_from, coefficient_to, coefficient_off}
use Rattle.np_basis.specs.Laws.{HasSoundArcs, pull_on, PotentialsExist, PotentialsAreUnique, WeightsExist}
use Rattle.np_model.specs.Rows.Potentials.{ArePriced}

-- ---- ends, coefficients and reduced costs

pub is_valid : (n : ℕ) (e : Ends) → AreNodes n e → IsGaining e → forest.IsValid ratios n (graph_ends e)
is_valid n (Link i j g) nodes gain = (nodes.0, nodes.1, λ e. clash gain (≤ᵣ_same e))
is_valid n (Drain v) nodes gain = nodes
is_valid n (Feed v) nodes gain = nodes

only_same : (i v : ℕ) (x : Ratio) → v ≡ i → graph.only_at ratios i x v ≡ x
only_same i v x e = subst (λ u. graph.only_at ratios i x u ≡ x) (sym e) (graph_sums.put_same ratios i x (λ _. zero_ratio))

only_other : (i v : ℕ) (x : Ratio) → v ≢ i → graph.only_at ratios i x v ≡ zero_ratio
only_other i v x h = graph_sums.put_other ratios i x (λ _. zero_ratio) v h

pub coefficient_is : (n : ℕ) (e : Ends) (v : ℕ) → AreNodes n e → coefficient e v ≡ graph.coefficient ratios (graph_ends e) v
coefficient_is n (Link i j g) v nodes = elim (cases_eq v i) [
  | inl e ↦ coefficient_from i j v g e
      ∙ sym (ap₂ (λ x y. x +ᵣ y) (only_same i v one_ratio e) (only_other j v (negated g) (λ p. nodes.2 (sym e ∙ p))) ∙ +ᵣ-zero one_ratio)
  | inr d ↦ elim (cases_eq v j) [
    | inl e ↦ coefficient_to i j v g d e ∙ sym (ap₂ (λ x y. x +ᵣ y) (only_other i v one_ratio d) (only_same j v (negated g) e) ∙ zero-+ᵣ (negated g))
    | inr f ↦ coefficient_off i j v g d f ∙ sym (ap₂ (λ x y. x +ᵣ y) (only_other i v one_ratio d) (only_other j v (negated g) f) ∙ zero-+ᵣ zero_ratio)
  ]
]
coefficient_is n (Drain i) v nodes = refl
coefficient_is n (Feed i) v nodes = refl

pub reduced_is : (e : Ends) (c : Ratio) (p : ℕ → Ratio) → reduced_cost e c (p (tail_of e)) (p (head_of e)) ≡ graph.reduced_cost ratios (graph_ends e) c p
reduced_is (Link i j g) c p = sym (minus_link c (p i) (g *ᵣ p j))
reduced_is (Drain v) c p = refl
reduced_is (Feed v) c p = sym (minus_negated c (p v))

-- ---- sums

from_right : {A : Type 0} (f : A → Ratio) (xs : List A) → sums.sum f xs ≡ field.total ratios f xs
from_right f [] = refl
from_right f (x ∷ xs) = ap (λ s. f x +ᵣ s) (from_right f xs)

-- a sum from the left is one from the right
pub total_is : {A : Type 0} (f : A → Ratio) (xs : List A) → total f xs ≡ field.total ratios f xs
total_is f xs = sums.total_is f xs ∙ from_right f xs

-- ---- pieces

pub same_ends : (ends : ℕ → Ends) (basics : List (ℕ × Ends × Ratio)) → ((b : ℕ × Ends × Ratio) → IsIn b basics → b.1 ≡ ends b.0)
    → map graph_ends (map (λ (b : ℕ × Ends × Ratio). b.1) basics) ≡ map (graph_of ends) (map (λ (b : ℕ × Ends × Ratio). b.0) basics)
same_ends ends [] h = refl
same_ends ends (b ∷ basics) h = ap₂ (λ x xs. x ∷ xs) (ap graph_ends (h b (inl refl))) (same_ends ends basics (λ c i. h c (inr i)))

module _ (net : Network) (piece : PieceLists) (h : IsInNet net piece) where
  pub tree : IsQuasiTree ratios (nodes_in piece) (map (graph_of (ends_at net.arcs)) (basics_in piece))
  tree = subst (IsQuasiTree ratios (nodes_in piece)) (same_ends (ends_at net.arcs) piece.basics (λ b i. (h.basic b i).1)) h.shape.quasi_tree

  pub basic_below : (a : ℕ) → IsIn a (basics_in piece) → a < length net.arcs
  basic_below a i =
      let r = in_map_of (λ (b : ℕ × Ends × Ratio). b.0) a piece.basics i in
      subst (λ t. t < length net.arcs) (sym r.2) (h.basic r.0 r.1).0

  pub lies : (a : ℕ) → IsIn a (basics_in piece) → LiesIn ratios (nodes_in piece) (graph_of (ends_at net.arcs) a)
  lies a i = theorems.lies ratios (graph_of (ends_at net.arcs)) (nodes_in piece) (basics_in piece) tree a i

-- ---- potentials

to_graph : (net : Network) (arcs : List ℕ) (cost p : ℕ → Ratio) → ArePriced (ends_at net.arcs) cost arcs p
    → (a : ℕ) → IsIn a arcs → graph.reduced_cost ratios (graph_of (ends_at net.arcs) a) (cost a) p ≡ zero_ratio
to_graph net arcs cost p priced a i = sym (reduced_is (ends_at net.arcs a) (cost a) p) ∙ priced a i

pub potentials_exist : PotentialsExist
potentials_exist net piece cost h =
    let r = theorems.potentials_exist ratios (graph_of (ends_at net.arcs)) (nodes_in piece) (basics_in piece) (tree net piece h) cost in
    (r.0, λ a i. reduced_is (ends_at net.arcs a) (cost a) r.0 ∙ r.1 a i)

pub potentials_are_unique : PotentialsAreUnique
potentials_are_unique net piece cost p q h first second v i =
    theorems.potentials_are_unique ratios (graph_of (ends_at net.arcs)) (nodes_in piece) (basics_in piece) (tree net piece h) cost p q
    (to_graph net (basics_in piece) cost p first) (to_graph net (basics_in piece) cost q second) v i

-- ---- node weights

pull_is : (net : Network) → HasSoundArcs net → (nodes : List ℕ) (a : ℕ) (weight : ℕ → Ratio) → graph.AreDistinct nodes → a < length net.arcs
    → LiesIn ratios nodes (graph_of (ends_at net.arcs) a) → pull_on nodes (ends_at net.arcs a) weight ≡ graph.pull ratios (graph_of (ends_at net.arcs) a) weight
pull_is net sound nodes a weight once below inside =
    total_is (λ v. coefficient (ends_at net.arcs a) v *ᵣ weight v) nodes
    ∙ graph_sums.total_same ratios (λ v. coefficient (ends_at net.arcs a) v *ᵣ weight v) (λ v. graph.coefficient ratios (graph_of (ends_at net.arcs) a) v *ᵣ weight v) nodes
    (λ v _. ap (λ t. t *ᵣ weight v) (coefficient_is (length net.supply) (ends_at net.arcs a) v (sound a no_arc below).joins))
    ∙ theorems.pull_is_sum ratios nodes (graph_of (ends_at net.arcs) a) weight once inside

pub weights_exist : WeightsExist
weights_exist net piece a sound h i = (w.0, pull a i ∙ w.1, λ b j other. pull b j ∙ w.2 b j other)
  where
    w : (weight : ℕ → Ratio) × (graph.pull ratios (graph_of (ends_at net.arcs) a) weight ≡ one_ratio)
        × ((b : ℕ) → IsIn b (basics_in piece) → b ≢ a → graph.pull ratios (graph_of (ends_at net.arcs) b) weight ≡ zero_ratio)
    w = theorems.weights_exist ratios (graph_of (ends_at net.arcs)) (nodes_in piece) (basics_in piece) (tree net piece h) a i

    pull : (b : ℕ) → IsIn b (basics_in piece) → pull_on (nodes_in piece) (ends_at net.arcs b) w.0 ≡ graph.pull ratios (graph_of (ends_at net.arcs) b) w.0
    pull b j = pull_is net sound (nodes_in piece) b w.0 (tree net piece h).nodes_once (basic_below net piece h b j) (lies net piece h b j)
