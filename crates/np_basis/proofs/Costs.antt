-- What a direction costs: the reduced cost of its entering arc, and no more.
use Rattle.std.specs.Prelude.{◌≡◌, ℕ, List, ◌∷◌}
use Rattle.std.proofs.Common.{sym, ap, ap₂, subst, ◌∙◌, inl, inr}
use Rattle.gain_graphs.specs.Arcs as graph
use Rattle.gain_graphs.specs.Arcs.{IsIn}
use Rattle.gain_graphs.specs.Field as field
use Rattle.gain_graphs.specs.QuasiTrees.{LiesIn}
use Rattle.gain_graphs.proofs.Sums as graph_sums
use Rattle.gain_graphs.proofs.Weights as weights
use Rattle.np_frac.specs.Ratio.{Ratio, zero_ratio, ◌+ᵣ◌, ◌*ᵣ◌}
use Rattle.np_frac.proofs.RatioLaws.{+ᵣ-zero, zero-*ᵣ, split_by}
use Rattle.np_model.specs.Network.Flows.{Network}
use Rattle.np_model.specs.Basis.Graphs.{ratios, graph_of, arc_at, ends_at, cost_at}
use Rattle.np_model.specs.Basis.Moves.{IsDirection}
use Rattle.np_model.specs.Basis.States.{price}
use Rattle.np_basis.specs.Laws.{HasSoundArcs}
use Rattle.np_basis.proofs.Directions as directions
use Rattle.np_basis.proofs.Directions.{Enters}
use Rattle.np_basis.proofs.Trees.{reduced_is}

module _ (net : Network) (sound : HasSoundArcs net) (nodes numbers basic : List ℕ) (enter : ℕ) (given : Enters net sound nodes numbers basic enter)
    (lies : LiesIn ratios nodes (graph_of (ends_at net.arcs) enter)) (by : Ratio) (d : ℕ → Ratio) (h : IsDirection net nodes numbers basic enter by d)
    (p : ℕ → Ratio) (priced : (a : ℕ) → IsIn a basic → price p (arc_at net.arcs a) ≡ zero_ratio) where
  pull : ℕ → Ratio
  pull a = graph.pull ratios (graph_of (ends_at net.arcs) a) p

  reduced : ℕ → Ratio
  reduced a = graph.reduced_cost ratios (graph_of (ends_at net.arcs) a) (cost_at net.arcs a) p

  reduced_price : (a : ℕ) → price p (arc_at net.arcs a) ≡ reduced a
  unfolding reduced
  reduced_price a = reduced_is (ends_at net.arcs a) (cost_at net.arcs a) p

  -- the potentials give the direction no worth
  no_worth : field.total ratios (λ a. pull a *ᵣ d a) (enter ∷ basic) ≡ zero_ratio
  unfolding pull
  no_worth = sym (weights.weigh ratios (graph_of (ends_at net.arcs)) nodes d (enter ∷ basic) p given.basis.nodes_once
      (λ a. elim [ inl e ↦ subst (λ t. LiesIn ratios nodes (graph_of (ends_at net.arcs) t)) (sym e) lies | inr i ↦ given.basis.lies a i ]))
      ∙ graph_sums.total_zero ratios (λ v. graph.balance ratios (graph_of (ends_at net.arcs)) d (enter ∷ basic) v *ᵣ p v) nodes
      (λ v i. ap (λ t. t *ᵣ p v) (sym (directions.balance_of_few net sound nodes numbers basic enter given d (directions.still net sound nodes numbers basic enter given by d h) v) ∙ h.balanced v i) ∙ zero-*ᵣ (p v))

  pub cost_of : field.total ratios (λ a. cost_at net.arcs a *ᵣ d a) (enter ∷ basic) ≡ price p (arc_at net.arcs enter) *ᵣ d enter
  unfolding reduced pull
  cost_of =
      graph_sums.total_same ratios (λ a. cost_at net.arcs a *ᵣ d a) (λ a. reduced a *ᵣ d a +ᵣ pull a *ᵣ d a) (enter ∷ basic) (λ a _. split_by (cost_at net.arcs a) (pull a) (d a))
      ∙ graph_sums.total_plus ratios (λ a. reduced a *ᵣ d a) (λ a. pull a *ᵣ d a) (enter ∷ basic)
      ∙ ap₂ (λ x y. (reduced enter *ᵣ d enter +ᵣ x) +ᵣ y)
      (graph_sums.total_zero ratios (λ a. reduced a *ᵣ d a) basic (λ a i. ap (λ t. t *ᵣ d a) (sym (reduced_price a) ∙ priced a i) ∙ zero-*ᵣ (d a))) no_worth
      ∙ +ᵣ-zero (reduced enter *ᵣ d enter +ᵣ zero_ratio) ∙ +ᵣ-zero (reduced enter *ᵣ d enter)
      ∙ ap (λ t. t *ᵣ d enter) (sym (reduced_price enter))
