-- A star with a drain at its middle is a quasi-tree.
use Rattle.std.proofs.Common.{◌≡◌, ◌≢◌, inl, inr, sym, refl, subst, ℕ, zero, suc, ◌+◌, ◌<◌, List, [], ◌∷◌, map, slice_index, arith}
use Rattle.gain_graphs.specs.Arcs.{IsIn, AreDistinct, Along, Against, AreJoined}
use Rattle.gain_graphs.specs.Arcs as graph
use Rattle.gain_graphs.specs.Cycles.{IsNoLoop}
use Rattle.gain_graphs.specs.QuasiTrees.{LiesIn}
use Rattle.gain_graphs.proofs.Walks
use Rattle.np_frac.specs.Ratio.{Ratio, zero_ratio}
use Rattle.np_model.specs.declared.arc.Ends.{Ends}
use Rattle.np_model.specs.declared.arc.Ends.TheVariants.{Link, Drain}
use Rattle.np_model.specs.Basis.Graphs.{ratios, graph_ends}
use Rattle.tree_search.specs.Places.{ends_of_arcs, IsTree}

module _ (one other : Ratio) (apart : one ≢ zero_ratio) where
  abbrev nodes : List ℕ
  nodes = 2 ∷ 5 ∷ 6 ∷ 9 ∷ []

  abbrev basics : List (ℕ × Ends × Ratio)
  basics = (1, Link 5 2 one, other) ∷ (4, Drain 5, other) ∷ (7, Link 6 5 one, other) ∷ (8, Link 5 9 one, other) ∷ []

  abbrev arcs : List (graph.Ends Ratio)
  arcs = map graph_ends (ends_of_arcs basics)

  nodes_ascend : (k : ℕ) → k + 1 < 4 → slice_index nodes k < slice_index nodes (k + 1)
  nodes_ascend zero h = omega arith
  nodes_ascend (suc zero) h = omega arith
  nodes_ascend (suc (suc zero)) h = omega arith
  nodes_ascend (suc (suc (suc k))) h = absurd (omega arith)

  basics_ascend : (k : ℕ) → k + 1 < 4 → slice_index (1 ∷ 4 ∷ 7 ∷ 8 ∷ []) k < slice_index (1 ∷ 4 ∷ 7 ∷ 8 ∷ []) (k + 1)
  basics_ascend zero h = omega arith
  basics_ascend (suc zero) h = omega arith
  basics_ascend (suc (suc zero)) h = omega arith
  basics_ascend (suc (suc (suc k))) h = absurd (omega arith)

  is_not : (a b : ℕ) → a < b → ¬ (a ≡ b)
  is_not a b h e = absurd (omega (arith, h, e))

  -- each node is joined to the middle
  to_middle : (v : ℕ) → IsIn v nodes → AreJoined arcs v 5
  to_middle v (inl e) = (Against 5 2 one ∷ [], (e, inl refl, refl))
  to_middle v (inr (inl e)) = ([], e)
  to_middle v (inr (inr (inl e))) = (Along 6 5 one ∷ [], (e, inr (inr (inl refl)), refl))
  to_middle v (inr (inr (inr (inl e)))) = (Against 5 9 one ∷ [], (e, inr (inr (inr (inl refl))), refl))
  to_middle v (inr (inr (inr (inr z)))) = absurd z

  pub star : IsTree nodes basics
  star = record {
    nodes_ascend = nodes_ascend;
    basics_ascend = basics_ascend;
    no_loops = λ b. elim [
      | inl e ↦ subst (λ (y : ℕ × Ends × Ratio). IsNoLoop (graph_ends y.1)) (sym e) (λ q. is_not 2 5 (omega arith) (sym q))
      | inr i ↦ elim i [
        | inl e ↦ subst (λ (y : ℕ × Ends × Ratio). IsNoLoop (graph_ends y.1)) (sym e) (record {})
        | inr j ↦ elim j [
          | inl e ↦ subst (λ (y : ℕ × Ends × Ratio). IsNoLoop (graph_ends y.1)) (sym e) (λ q. is_not 5 6 (omega arith) (sym q))
          | inr k ↦ elim k [ inl e ↦ subst (λ (y : ℕ × Ends × Ratio). IsNoLoop (graph_ends y.1)) (sym e) (is_not 5 9 (omega arith)) | inr z ↦ absurd z ]
        ]
      ]
    ];
    quasi_tree = record {
      nodes_once = (
        elim [ inl e ↦ is_not 2 5 (omega arith) e | inr i ↦ elim i [ inl e ↦ is_not 2 6 (omega arith) e | inr j ↦ elim j [ inl e ↦ is_not 2 9 (omega arith) e | inr z ↦ z ] ] ],
        (
          elim [ inl e ↦ is_not 5 6 (omega arith) e | inr i ↦ elim i [ inl e ↦ is_not 5 9 (omega arith) e | inr z ↦ z ] ],
          (elim [ inl e ↦ is_not 6 9 (omega arith) e | inr z ↦ z ], ((λ z. z), record {})),
        ),
      );
      some_node = (2, inl refl);
      ends_inside = λ a. elim [
        | inl e ↦ subst (λ t. LiesIn ratios nodes t) (sym e) (inr (inl refl), inl refl, apart)
        | inr i ↦ elim i [
          | inl e ↦ subst (λ t. LiesIn ratios nodes t) (sym e) (inr (inl refl))
          | inr j ↦ elim j [
            | inl e ↦ subst (λ t. LiesIn ratios nodes t) (sym e) (inr (inr (inl refl)), inr (inl refl), apart)
            | inr k ↦ elim k [ inl e ↦ subst (λ t. LiesIn ratios nodes t) (sym e) (inr (inl refl), inr (inr (inr (inl refl))), apart) | inr z ↦ absurd z ]
          ]
        ]
      ];
      joined = λ u v i j. Walks.joined_trans arcs u 5 v (to_middle u i) (Walks.joined_sym arcs v 5 (to_middle v j));
      as_many = refl;
      extra = inl (graph.Drain 5, inr (inl refl), record {});
    };
  }
