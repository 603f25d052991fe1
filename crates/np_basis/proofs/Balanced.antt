-- The balance of a list of flows as that of a gain graph, and how it changes along a direction.
use Rattle.std.specs.Prelude.{◌≡◌, ℕ, List, [], ◌∷◌, map, length}
use Rattle.std.specs.List.{zip, range_with_len}
use Rattle.std.proofs.Common.{refl, ap, ◌∙◌, arith}
use Rattle.std.proofs.lemmas.List.FromFn.{fill_by_all}
use Rattle.std.proofs.lemmas.Slice.Zip.{length-zip}
use Rattle.gain_graphs.specs.Arcs as graph
use Rattle.gain_graphs.specs.Arcs.{IsIn}
use Rattle.gain_graphs.specs.Field as field
use Rattle.gain_graphs.proofs.Algebra as algebra
use Rattle.gain_graphs.proofs.Sums as graph_sums
use Rattle.np_frac.specs.Ratio.{Ratio, zero_ratio, ◌+ᵣ◌, ◌*ᵣ◌}
use Rattle.np_frac.proofs.RatioLaws.{*ᵣ-+ᵣ}
use Rattle.np_model.specs.declared.arc.NetArc.{NetArc}
use Rattle.np_model.specs.Network.Arcs.{coefficient}
use Rattle.np_model.specs.Network.Flows.{Network, at, balance}
use Rattle.np_model.specs.Basis.Graphs.{ratios, graph_of, no_arc, arc_at, ends_at}
use Rattle.np_model.specs.Basis.Pivots.{arc_numbers}
use Rattle.np_model.proofs.Balance.{balance-is}
use Rattle.np_basis.specs.Laws.{HasSoundArcs}
use Rattle.np_basis.proofs.Basics.{zipped}
use Rattle.np_basis.proofs.Held.{arc_below}
use Rattle.np_basis.proofs.Trees.{coefficient_is, total_is}

-- a sum over what a function makes of numbers
pub total_map : {A : Type 0} (f : A → Ratio) (g : ℕ → A) (xs : List ℕ) → field.total ratios f (map g xs) ≡ field.total ratios (λ x. f (g x)) xs
total_map f g [] = refl
total_map f g (x ∷ xs) = ap (λ t. f (g x) +ᵣ t) (total_map f g xs)

-- the arcs beside their flows, by number
pub by_number : (arcs : List NetArc) (x : List Ratio) → length x ≡ length arcs → zip arcs x ≡ map (λ a. (arc_at arcs a, at x a)) (range_with_len 0 (length arcs))
by_number arcs x e = fill_by_all (λ a. (arc_at arcs a, at x a)) (zip arcs x) (length arcs) (no_arc, zero_ratio) (omega (arith, length-zip arcs x)) (λ k l. zipped arcs x e k l (no_arc, zero_ratio))

pub balance_of : (net : Network) → HasSoundArcs net → (x : List Ratio) → length x ≡ length net.arcs → (v : ℕ)
    → balance net.arcs x v ≡ graph.balance ratios (graph_of (ends_at net.arcs)) (at x) (arc_numbers net) v
balance_of net sound x e v =
    balance-is net.arcs x v
    ∙ total_is (λ (p : NetArc × Ratio). coefficient p.0.ends v *ᵣ p.1) (zip net.arcs x)
    ∙ ap (field.total ratios (λ (p : NetArc × Ratio). coefficient p.0.ends v *ᵣ p.1)) (by_number net.arcs x e)
    ∙ total_map (λ (p : NetArc × Ratio). coefficient p.0.ends v *ᵣ p.1) (λ a. (arc_at net.arcs a, at x a)) (arc_numbers net)
    ∙ graph_sums.total_same ratios (λ a. coefficient (ends_at net.arcs a) v *ᵣ at x a) (λ a. graph.coefficient ratios (graph_of (ends_at net.arcs) a) v *ᵣ at x a) (arc_numbers net)
    (λ a i. ap (λ t. t *ᵣ at x a) (coefficient_is (length net.supply) (ends_at net.arcs a) v (sound a no_arc (arc_below net a i)).joins))

-- flows that move by t along d
pub balance_moved : (ends : ℕ → graph.Ends Ratio) (x d : ℕ → Ratio) (t : Ratio) (arcs : List ℕ) (v : ℕ)
    → graph.balance ratios ends (λ a. x a +ᵣ t *ᵣ d a) arcs v ≡ graph.balance ratios ends x arcs v +ᵣ t *ᵣ graph.balance ratios ends d arcs v
balance_moved ends x d t arcs v =
    graph_sums.total_same ratios (λ a. k a *ᵣ (x a +ᵣ t *ᵣ d a)) (λ a. k a *ᵣ x a +ᵣ t *ᵣ (k a *ᵣ d a)) arcs
    (λ a _. *ᵣ-+ᵣ (k a) (x a) (t *ᵣ d a) ∙ ap (λ z. k a *ᵣ x a +ᵣ z) (algebra.times_left ratios (k a) t (d a)))
    ∙ graph_sums.total_plus ratios (λ a. k a *ᵣ x a) (λ a. t *ᵣ (k a *ᵣ d a)) arcs
    ∙ ap (λ z. graph.balance ratios ends x arcs v +ᵣ z) (graph_sums.total_times ratios t (λ a. k a *ᵣ d a) arcs)
  where
    k : ℕ → Ratio
    k a = graph.coefficient ratios (ends a) v
