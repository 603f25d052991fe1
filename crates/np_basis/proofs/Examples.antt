-- A node alone has a state, and two nodes with two links between them are a piece with a cycle.
use Rattle.std.specs.Prelude.{◌≡◌, ◌≢◌, ℕ, zero, suc, ◌<◌, [], ◌∷◌}
use Rattle.std.proofs.Common.{refl, sym, ap, subst, ◌∙◌, inl, inr, arith}
use Rattle.gain_graphs.specs.Arcs.{IsIn}
use Rattle.gain_graphs.specs.Cycles.{IsLeastFirst}
use Rattle.gain_graphs.proofs.Algebra as algebra
use Rattle.gain_graphs.proofs.Examples as graph_examples
use Rattle.np_frac.specs.Fits.{Fits}
use Rattle.np_frac.specs.Ratio.{Ratio, zero_ratio, one_ratio, ◌+ᵣ◌, ◌<ᵣ◌, whole}
use Rattle.np_frac.proofs.Field.{one_above}
use Rattle.np_frac.proofs.RatioLaws.{+ᵣ-zero, clash, ≤ᵣ_same}
use Rattle.np_model.specs.declared.arc.Ends.{Ends}
use Rattle.np_model.specs.Network.Nets.{IsSoundArc}
use Rattle.np_model.specs.Basis.Graphs.{ratios, graph_of, ends_at}
use Rattle.np_model.specs.Basis.Sound.{IsInNet}
use Rattle.np_model.specs.Basis.Starts.{residual}
use Rattle.np_basis.specs.Laws.{HasSoundArcs, node_alone, StateExample, link_of, two_links, links_piece, RoundExample}
use Rattle.np_basis.proofs.Ascending.{Ascends, rises}
use Rattle.np_basis.proofs.Starting.{start_is_state}

residual_alone : (supply : Ratio) (v : ℕ) → v < 1 → residual (node_alone supply) v ≡ supply
residual_alone supply zero below = ap (λ t. supply +ᵣ t) (algebra.negated_zero ratios) ∙ +ᵣ-zero supply
residual_alone supply (suc v) below = absurd (omega arith)

pub state_example : StateExample
state_example supply fit = start_is_state (node_alone supply) (λ k other below. absurd (omega arith)) (λ v below. subst Fits (sym (residual_alone supply v below)) fit)

-- ---- two links

link_sound : (gain : Ratio) → zero_ratio <ᵣ gain → IsSoundArc 2 (link_of gain)
link_sound gain above = record { joins = (omega arith, omega arith, λ e. absurd (omega (arith, e))); gain = above; bounds = record {} }

links_sound : (gain : Ratio) → zero_ratio <ᵣ gain → HasSoundArcs (two_links gain)
links_sound gain above zero other below = link_sound one_ratio one_above
links_sound gain above (suc zero) other below = link_sound gain above
links_sound gain above (suc (suc k)) other below = absurd (omega arith)

both_ascend : (k : ℕ) → k < 2 → IsIn k (0 ∷ 1 ∷ [])
both_ascend zero below = inl refl
both_ascend (suc zero) below = inr (inl refl)
both_ascend (suc (suc k)) below = absurd (omega arith)

below_two : (k : ℕ) → IsIn k (0 ∷ 1 ∷ []) → k < 2
below_two k = elim [ inl e ↦ omega arith | inr i ↦ elim i [ inl e ↦ omega arith | inr j ↦ absurd j ] ]

links_in_net : (gain : Ratio) → zero_ratio <ᵣ gain → gain ≢ one_ratio → IsInNet (two_links gain) (links_piece gain)
links_in_net gain above other = record {
  shape = record {
    nodes_ascend = rises (0 ∷ 1 ∷ []) ascend;
    basics_ascend = rises (0 ∷ 1 ∷ []) ascend;
    marks_ascend = rises [] (record {});
    quasi_tree = graph_examples.cycle ratios gain (λ e. clash above (≤ᵣ_same e)) other;
    others = λ a i. absurd i;
    at_bounds = λ m i. absurd i;
  };
  nodes = below_two;
  basic = λ b. elim [
    | inl e ↦ subst (λ (t : ℕ × Ends × Ratio). (t.0 < 2) × (t.1 ≡ ends_at (two_links gain).arcs t.0)) (sym e) (omega arith, refl)
    | inr i ↦ elim i [
      | inl e ↦ subst (λ (t : ℕ × Ends × Ratio). (t.0 < 2) × (t.1 ≡ ends_at (two_links gain).arcs t.0)) (sym e) (omega arith, refl)
      | inr j ↦ absurd j
    ]
  ];
  marked = λ a. ((λ i. absurd i), (λ r. r.1 (both_ascend a r.0)));
}
  where
    ascend : Ascends (0 ∷ 1 ∷ [])
    ascend = ((λ u. elim [ inl e ↦ omega arith | inr i ↦ absurd i ]), ((λ u i. absurd i), record {}))

links_round : (gain : Ratio) → IsLeastFirst (graph_of (ends_at (two_links gain).arcs)) (0 ∷ 1 ∷ []) 0 ((0, 1) ∷ (1, 0) ∷ [])
links_round gain = record {
  cycle = record {
    closes = (inl refl, inl (refl, refl), (inr (inl refl), inr (refl, refl), refl));
    has_arc = record {};
    arcs_once = ((elim [ inl e ↦ absurd (omega (arith, e)) | inr i ↦ i ]), ((λ i. i), record {}));
    nodes_once = ((elim [ inl e ↦ absurd (omega (arith, e)) | inr i ↦ i ]), ((λ i. i), record {}));
  };
  is_least = λ v i. omega arith;
  goes_up = omega arith;
}

pub round_example : RoundExample
round_example gain above other = record { sound = links_sound gain above; in_net = links_in_net gain above other; is_extra = links_round gain }
