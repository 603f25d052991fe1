-- A link from one node to another and one back are a quasi-tree, where what goes round comes back changed.
use Rattle.std.specs.Prelude.{◌≢◌, ℕ, zero, suc, ◌+◌, ◌<◌, List, [], ◌∷◌, map, slice_index, pos, unsigned_abs}
use Rattle.std.proofs.Common.{◌≡◌, ◌∙◌, refl, sym, ap, subst, inl, inr, arith}
use Rattle.gain_graphs.specs.Arcs.{IsIn, AreJoined, Along, Against}
use Rattle.gain_graphs.specs.Arcs as graph
use Rattle.gain_graphs.specs.Cycles.{IsNoLoop}
use Rattle.gain_graphs.specs.QuasiTrees.{LiesIn}
use Rattle.gain_graphs.proofs.Walks
use Rattle.np_frac.specs.Ratio.{Ratio, zero_ratio, one_ratio, whole, ◌*ᵣ◌}
use Rattle.np_frac.proofs.Field.{*ᵣ-one}
use Rattle.np_model.specs.declared.arc.Ends.{Ends}
use Rattle.np_model.specs.declared.arc.Ends.TheVariants.{Link}
use Rattle.np_model.specs.Basis.Graphs.{ratios, graph_ends}
use Rattle.tree_search.specs.Places.{ends_of_arcs, IsTree}

pub differ : (a b : ℕ) → a ≢ b → whole (pos a) ≢ whole (pos b)
unfolding whole
differ a b apart e = apart (ap (λ (r : Ratio). unsigned_abs r.num) e)

module _ (one two other : Ratio) (plain : one ≡ one_ratio) (above : one ≢ zero_ratio) (two_above : two ≢ zero_ratio) (apart : two ≢ one_ratio) where
  abbrev nodes : List ℕ
  nodes = 0 ∷ 1 ∷ []

  abbrev basics : List (ℕ × Ends × Ratio)
  basics = (0, Link 1 0 one, other) ∷ (1, Link 0 1 two, other) ∷ []

  abbrev arcs : List (graph.Ends Ratio)
  arcs = map graph_ends (ends_of_arcs basics)

  ascend : (k : ℕ) → k + 1 < 2 → slice_index nodes k < slice_index nodes (k + 1)
  ascend zero h = omega arith
  ascend (suc k) h = absurd (omega arith)

  is_not : (a b : ℕ) → a < b → ¬ (a ≡ b)
  is_not a b h e = absurd (omega (arith, h, e))

  to_first : (v : ℕ) → IsIn v nodes → AreJoined arcs v 0
  to_first v (inl e) = ([], e)
  to_first v (inr (inl e)) = (Along 1 0 one ∷ [], (e, inl refl, refl))
  to_first v (inr (inr z)) = absurd z

  changed : two *ᵣ (one *ᵣ one_ratio) ≢ one_ratio
  changed e = apart (sym (ap (λ t. two *ᵣ t) (*ᵣ-one one ∙ plain) ∙ *ᵣ-one two) ∙ e)

  pub both_ways : IsTree nodes basics
  both_ways = record {
    nodes_ascend = ascend;
    basics_ascend = ascend;
    no_loops = λ b. elim [
      | inl e ↦ subst (λ (y : ℕ × Ends × Ratio). IsNoLoop (graph_ends y.1)) (sym e) (λ q. is_not 0 1 (omega arith) (sym q))
      | inr i ↦ elim i [ inl e ↦ subst (λ (y : ℕ × Ends × Ratio). IsNoLoop (graph_ends y.1)) (sym e) (is_not 0 1 (omega arith)) | inr z ↦ absurd z ]
    ];
    quasi_tree = record {
      nodes_once = (elim [ inl e ↦ is_not 0 1 (omega arith) e | inr z ↦ z ], ((λ z. z), record {}));
      some_node = (0, inl refl);
      ends_inside = λ a. elim [
        | inl e ↦ subst (λ t. LiesIn ratios nodes t) (sym e) (inr (inl refl), inl refl, above)
        | inr i ↦ elim i [ inl e ↦ subst (λ t. LiesIn ratios nodes t) (sym e) (inl refl, inr (inl refl), two_above) | inr z ↦ absurd z ]
      ];
      joined = λ u v i j. Walks.joined_trans arcs u 0 v (to_first u i) (Walks.joined_sym arcs v 0 (to_first v j));
      as_many = refl;
      extra = inr (0, Along 0 1 two ∷ Along 1 0 one ∷ [], inl refl, (refl, inr (inl refl), (refl, inl refl, refl)), changed);
    };
  }
