-- The piece of the five nodes, at whole gains, is a quasi-tree by ascending lists, and none of its arcs is a loop.
use Rattle.std.specs.Prelude.{◌≢◌, ◌<ℤ◌, ℕ, pos, ◌∷◌, []}
use Rattle.std.proofs.Common.{◌≡◌, ◌∙◌, refl, sym, subst, inl, inr, arith}
use Rattle.std.proofs.lemmas.Int.{ints}
use Rattle.gain_graphs.specs.Arcs.{IsIn}
use Rattle.gain_graphs.specs.Cycles.{IsNoLoop}
use Rattle.np_frac.specs.Ratio.{Ratio, zero_ratio, whole, ◌*ᵣ◌}
use Rattle.np_frac.proofs.Field.{whole_above}
use Rattle.np_frac.proofs.Field.{*ᵣ-one}
use Rattle.np_model.specs.declared.arc.Ends.{Ends}
use Rattle.np_model.specs.declared.arc.Ends.TheVariants.{Link}
use Rattle.np_model.specs.declared.phase.Phase.TheVariants.{One}
use Rattle.np_model.specs.Basis.Graphs.{graph_ends}
use Rattle.np_model.specs.Basis.Pieces.{HasShape}
use Rattle.tree_search.specs.Places.{IsTree}
use Rattle.piece_tests.proofs.BothWays.{differ}
use Rattle.piece_tests.proofs.FiveNodes.{AreSuited, piece, can_enter}

suited : AreSuited (whole (pos 1)) (whole (pos 2)) (whole (pos 1)) (whole (pos 1)) (whole (pos 1))
suited = record {
  first = whole_above (pos 1) (omega (arith, ints));
  second = whole_above (pos 2) (omega (arith, ints));
  third = whole_above (pos 1) (omega (arith, ints));
  fourth = whole_above (pos 1) (omega (arith, ints));
  fifth = whole_above (pos 1) (omega (arith, ints));
  apart = λ e. differ 1 2 (λ f. absurd (omega (arith, f))) (sym (*ᵣ-one (whole (pos 1))) ∙ e);
}

shape : HasShape (piece (whole (pos 1)) (whole (pos 2)) (whole (pos 1)) (whole (pos 1)) (whole (pos 1)) zero_ratio zero_ratio zero_ratio zero_ratio zero_ratio)
shape = ((can_enter (whole (pos 1)) (whole (pos 2)) (whole (pos 1)) (whole (pos 1)) (whole (pos 1)) zero_ratio zero_ratio zero_ratio zero_ratio zero_ratio suited One).0.in_net _ (inl refl)).shape

pub five_tree : IsTree (0 ∷ 1 ∷ 2 ∷ 3 ∷ 4 ∷ []) ((0, Link 0 1 (whole (pos 1)), zero_ratio) ∷ (1, Link 2 1 (whole (pos 2)), zero_ratio) ∷ (2, Link 2 0 (whole (pos 1)), zero_ratio) ∷ (3, Link 3 1 (whole (pos 1)), zero_ratio) ∷ (4, Link 3 4 (whole (pos 1)), zero_ratio) ∷ [])
five_tree = record {
  nodes_ascend = shape.nodes_ascend;
  basics_ascend = shape.basics_ascend;
  quasi_tree = shape.quasi_tree;
  no_loops = λ b. elim [
    | inl e ↦ subst (λ (y : ℕ × Ends × Ratio). IsNoLoop (graph_ends y.1)) (sym e) (λ q. absurd (omega (arith, q)))
    | inr i ↦ elim i [
      | inl e ↦ subst (λ (y : ℕ × Ends × Ratio). IsNoLoop (graph_ends y.1)) (sym e) (λ q. absurd (omega (arith, q)))
      | inr i ↦ elim i [
        | inl e ↦ subst (λ (y : ℕ × Ends × Ratio). IsNoLoop (graph_ends y.1)) (sym e) (λ q. absurd (omega (arith, q)))
        | inr i ↦ elim i [
          | inl e ↦ subst (λ (y : ℕ × Ends × Ratio). IsNoLoop (graph_ends y.1)) (sym e) (λ q. absurd (omega (arith, q)))
          | inr i ↦ elim i [ inl e ↦ subst (λ (y : ℕ × Ends × Ratio). IsNoLoop (graph_ends y.1)) (sym e) (λ q. absurd (omega (arith, q))) | inr z ↦ absurd z ]
        ]
      ]
    ]
  ];
}
