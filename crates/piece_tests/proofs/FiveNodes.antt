-- Five nodes with a cycle of three links and two links that hang off it, and a sixth link beside the second of these: a piece of their network.
use Rattle.std.specs.Prelude.{◌≡◌, ◌≢◌, ◌⊎◌, ◌&&◌, true, ◌<◌, ◌≤◌, ℕ, zero, suc, List, [], ◌∷◌, length, slice_index_or}
use Rattle.std.specs.List.{All}
use Rattle.std.proofs.Common.{refl, sym, ap, subst, ◌∙◌, inl, inr, arith}
use Rattle.gain_graphs.specs.Arcs as graph
use Rattle.gain_graphs.specs.Arcs.{IsIn, AreDistinct, Touches, AreJoined, Along, Against}
use Rattle.gain_graphs.specs.QuasiTrees.{LiesIn, IsQuasiTree}
use Rattle.gain_graphs.proofs.Walks.{joined_sym, joined_trans}
use Rattle.gain_graphs.proofs.Algebra as algebra
use Rattle.np_frac.specs.Ratio.{Ratio, zero_ratio, one_ratio, inverse, is_below, ◌*ᵣ◌, ◌<ᵣ◌}
use Rattle.np_frac.proofs.RatioLaws.{*ᵣ_assoc, *ᵣ_comm, one-*ᵣ, clash, ≤ᵣ_same, is_below_true}
use Rattle.np_frac.proofs.Exactness.{left_true, right_true}
use Rattle.np_frac.proofs.Field.{*ᵣ-one}
use Rattle.np_model.specs.declared.arc.Ends.{Ends}
use Rattle.np_model.specs.declared.arc.Ends.TheVariants.{Link, Drain}
use Rattle.np_model.specs.declared.arc.Upper.TheVariants.{Infinite}
use Rattle.np_model.specs.declared.arc.NetArc.{NetArc}
use Rattle.np_model.specs.declared.log.Mark.{Mark}
use Rattle.np_model.specs.declared.log.Mark.TheVariants.{Lower, Basic}
use Rattle.np_model.specs.declared.phase.Phase.{Phase}
use Rattle.np_model.specs.declared.phase.Phase.TheVariants.{One, Two}
use Rattle.np_model.specs.Network.Flows.{Network}
use Rattle.np_model.specs.Network.Nets.{IsNet, IsSoundArc}
use Rattle.np_model.specs.Basis.Artificial.{AreArtificial, IsOneEndAt}
use Rattle.np_model.specs.Basis.Graphs.{ratios, graph_ends, ends_at}
use Rattle.np_model.specs.Basis.Phases.{with_artificial}
use Rattle.np_model.specs.Basis.Pieces.{PieceLists, HasShape}
use Rattle.np_model.specs.Basis.Sound.{IsInNet}
use Rattle.np_basis.proofs.Ascending.{Ascends, rises, ascends_once}
use Rattle.quasi_tree.specs.Store.{IsHeld}
use Rattle.tree_flows.specs.Answers.{CanEnter}

abbrev zeros : List Ratio
zeros = zero_ratio ∷ zero_ratio ∷ zero_ratio ∷ zero_ratio ∷ zero_ratio ∷ []

abbrev low : List ℕ
low = 0 ∷ 1 ∷ 2 ∷ 3 ∷ 4 ∷ []

abbrev high : List ℕ
high = 5 ∷ 6 ∷ 7 ∷ 8 ∷ 9 ∷ 10 ∷ []

abbrev pub drains : List Ends
drains = Drain 0 ∷ Drain 1 ∷ Drain 2 ∷ Drain 3 ∷ Drain 4 ∷ []

abbrev pub link : ℕ → ℕ → Ratio → Ratio → NetArc
link i j g c = record { ends = Link i j g; lower = zero_ratio; upper = Infinite; cost = c }

in_low : (k : ℕ) → k < 5 → IsIn k low
in_low k h = grind arith

of_low : (k : ℕ) → IsIn k low → k < 5
of_low k = elim [ inl e ↦ omega arith | inr i ↦ elim i [ inl e ↦ omega arith | inr i ↦ elim i [ inl e ↦ omega arith | inr i ↦ elim i [ inl e ↦ omega arith | inr i ↦ elim i [ inl e ↦ omega arith | inr i ↦ absurd i ] ] ] ] ]

in_high : (k : ℕ) → 5 ≤ k → k < 11 → IsIn k high
in_high k l h = grind arith

of_high : (k : ℕ) → IsIn k high → (5 ≤ k) × (k < 11)
of_high k i = elim i [ inl e ↦ (omega arith, omega arith) | inr i ↦ elim i [ inl e ↦ (omega arith, omega arith) | inr i ↦ elim i [ inl e ↦ (omega arith, omega arith) | inr i ↦ elim i [ inl e ↦ (omega arith, omega arith) | inr i ↦ elim i [ inl e ↦ (omega arith, omega arith) | inr i ↦ elim i [ inl e ↦ (omega arith, omega arith) | inr i ↦ absurd i ] ] ] ] ] ]

low_ascends : Ascends low
low_ascends = ((λ u. elim [ inl e ↦ omega arith | inr i ↦ elim i [ inl e ↦ omega arith | inr i ↦ elim i [ inl e ↦ omega arith | inr i ↦ elim i [ inl e ↦ omega arith | inr i ↦ absurd i ] ] ] ]), ((λ u. elim [ inl e ↦ omega arith | inr i ↦ elim i [ inl e ↦ omega arith | inr i ↦ elim i [ inl e ↦ omega arith | inr i ↦ absurd i ] ] ]), ((λ u. elim [ inl e ↦ omega arith | inr i ↦ elim i [ inl e ↦ omega arith | inr i ↦ absurd i ] ]), ((λ u. elim [ inl e ↦ omega arith | inr i ↦ absurd i ]), ((λ u i. absurd i), record {})))))

high_ascends : Ascends high
high_ascends = ((λ u i. elim i [ inl e ↦ omega arith | inr i ↦ elim i [ inl e ↦ omega arith | inr i ↦ elim i [ inl e ↦ omega arith | inr i ↦ elim i [ inl e ↦ omega arith | inr i ↦ elim i [ inl e ↦ omega arith | inr i ↦ absurd i ] ] ] ] ]), ((λ u i. elim i [ inl e ↦ omega arith | inr i ↦ elim i [ inl e ↦ omega arith | inr i ↦ elim i [ inl e ↦ omega arith | inr i ↦ elim i [ inl e ↦ omega arith | inr i ↦ absurd i ] ] ] ]), ((λ u i. elim i [ inl e ↦ omega arith | inr i ↦ elim i [ inl e ↦ omega arith | inr i ↦ elim i [ inl e ↦ omega arith | inr i ↦ absurd i ] ] ]), ((λ u i. elim i [ inl e ↦ omega arith | inr i ↦ elim i [ inl e ↦ omega arith | inr i ↦ absurd i ] ]), ((λ u i. elim i [ inl e ↦ omega arith | inr i ↦ absurd i ]), ((λ u i. absurd i), record {}))))))

-- the gains are above 0, and the cycle is not breakeven
pub record AreSuited (g0 g1 g2 g3 g4 : Ratio) : Type 0 where
  pub first : zero_ratio <ᵣ g0
  pub second : zero_ratio <ᵣ g1
  pub third : zero_ratio <ᵣ g2
  pub fourth : zero_ratio <ᵣ g3
  pub fifth : zero_ratio <ᵣ g4
  pub apart : g0 *ᵣ g2 ≢ g1

module _ (g0 g1 g2 g3 g4 : Ratio) (c0 c1 c2 c3 c4 : Ratio) where
  abbrev pub links : List NetArc
  links = link 0 1 g0 c0 ∷ link 2 1 g1 c1 ∷ link 2 0 g2 c2 ∷ link 3 1 g3 c3 ∷ link 3 4 g4 c4 ∷ link 3 4 g4 c4 ∷ []

  abbrev pub piece : PieceLists
  piece = record {
    nodes = (0, zero_ratio) ∷ (1, zero_ratio) ∷ (2, zero_ratio) ∷ (3, zero_ratio) ∷ (4, zero_ratio) ∷ [];
    basics = (0, Link 0 1 g0, zero_ratio) ∷ (1, Link 2 1 g1, zero_ratio) ∷ (2, Link 2 0 g2, zero_ratio) ∷ (3, Link 3 1 g3, zero_ratio) ∷ (4, Link 3 4 g4, zero_ratio) ∷ [];
    marks = (5, Lower) ∷ (6, Lower) ∷ (7, Lower) ∷ (8, Lower) ∷ (9, Lower) ∷ (10, Lower) ∷ [];
  }

  abbrev graph_links : List (graph.Ends Ratio)
  graph_links = graph.Link 0 1 g0 ∷ graph.Link 2 1 g1 ∷ graph.Link 2 0 g2 ∷ graph.Link 3 1 g3 ∷ graph.Link 3 4 g4 ∷ []

  module _ (suited : AreSuited g0 g1 g2 g3 g4) where
    above : (g : Ratio) → zero_ratio <ᵣ g → g ≢ zero_ratio
    above g h e = clash h (≤ᵣ_same e)

    pub net_is_sound : IsNet zeros links
    net_is_sound = record { few_nodes = omega arith; few_arcs = omega arith; sound = all }
      where
        all : All (IsSoundArc 5) links
        all zero d l = record { joins = (omega arith, omega arith, λ e. absurd (omega (arith, e))); gain = suited.first; bounds = record {} }
        all (suc zero) d l = record { joins = (omega arith, omega arith, λ e. absurd (omega (arith, e))); gain = suited.second; bounds = record {} }
        all (suc (suc zero)) d l = record { joins = (omega arith, omega arith, λ e. absurd (omega (arith, e))); gain = suited.third; bounds = record {} }
        all (suc (suc (suc zero))) d l = record { joins = (omega arith, omega arith, λ e. absurd (omega (arith, e))); gain = suited.fourth; bounds = record {} }
        all (suc (suc (suc (suc zero)))) d l = record { joins = (omega arith, omega arith, λ e. absurd (omega (arith, e))); gain = suited.fifth; bounds = record {} }
        all (suc (suc (suc (suc (suc zero))))) d l = record { joins = (omega arith, omega arith, λ e. absurd (omega (arith, e))); gain = suited.fifth; bounds = record {} }
        all (suc (suc (suc (suc (suc (suc k)))))) d l = absurd (omega arith)

    to_root : (u : ℕ) → IsIn u low → AreJoined graph_links u 0
    to_root u (inl e) = ([], e)
    to_root u (inr (inl e)) = (Against 0 1 g0 ∷ [], (e, inl refl, refl))
    to_root u (inr (inr (inl e))) = (Along 2 0 g2 ∷ [], (e, inr (inr (inl refl)), refl))
    to_root u (inr (inr (inr (inl e)))) = (Along 3 1 g3 ∷ Against 0 1 g0 ∷ [], (e, inr (inr (inr (inl refl))), (refl, inl refl, refl)))
    to_root u (inr (inr (inr (inr (inl e))))) = (Against 3 4 g4 ∷ Along 3 1 g3 ∷ Against 0 1 g0 ∷ [], (e, inr (inr (inr (inr (inl refl)))), (refl, inr (inr (inr (inl refl))), (refl, inl refl, refl))))
    to_root u (inr (inr (inr (inr (inr i))))) = absurd i

    not_breakeven : g0 *ᵣ (inverse g1 *ᵣ (g2 *ᵣ one_ratio)) ≢ one_ratio
    not_breakeven e = suited.apart
        (sym (ap (λ t. t *ᵣ g1) (ap (λ t. g0 *ᵣ t) (ap (λ t. inverse g1 *ᵣ t) (*ᵣ-one g2) ∙ *ᵣ_comm (inverse g1) g2) ∙ sym (*ᵣ_assoc g0 g2 (inverse g1)))
        ∙ *ᵣ_assoc (g0 *ᵣ g2) (inverse g1) g1 ∙ ap (λ t. (g0 *ᵣ g2) *ᵣ t) (algebra.inverse_times ratios g1 (above g1 suited.second)) ∙ *ᵣ-one (g0 *ᵣ g2))
        ∙ ap (λ t. t *ᵣ g1) e ∙ one-*ᵣ g1)

    tree : IsQuasiTree ratios low graph_links
    tree = record {
      nodes_once = ascends_once low low_ascends;
      some_node = (0, inl refl);
      ends_inside = λ a. elim [
        | inl e ↦ subst (LiesIn ratios low) (sym e) (in_low 0 (omega arith), in_low 1 (omega arith), above g0 suited.first)
        | inr i ↦ elim i [
          | inl e ↦ subst (LiesIn ratios low) (sym e) (in_low 2 (omega arith), in_low 1 (omega arith), above g1 suited.second)
          | inr i ↦ elim i [
            | inl e ↦ subst (LiesIn ratios low) (sym e) (in_low 2 (omega arith), in_low 0 (omega arith), above g2 suited.third)
            | inr i ↦ elim i [
              | inl e ↦ subst (LiesIn ratios low) (sym e) (in_low 3 (omega arith), in_low 1 (omega arith), above g3 suited.fourth)
              | inr i ↦ elim i [
                | inl e ↦ subst (LiesIn ratios low) (sym e) (in_low 3 (omega arith), in_low 4 (omega arith), above g4 suited.fifth)
                | inr i ↦ absurd i
              ]
            ]
          ]
        ]
      ];
      joined = λ u v i j. joined_trans graph_links u 0 v (to_root u i) (joined_sym graph_links v 0 (to_root v j));
      as_many = refl;
      extra = inr (0, Along 0 1 g0 ∷ Against 2 1 g1 ∷ Along 2 0 g2 ∷ [], inl refl, (refl, inl refl, (refl, inr (inl refl), (refl, inr (inr (inl refl)), refl))), not_breakeven);
    }

    shape : HasShape piece
    shape = record {
      nodes_ascend = rises low low_ascends;
      basics_ascend = rises low low_ascends;
      marks_ascend = rises high high_ascends;
      quasi_tree = tree;
      others = λ a i j. let p = of_high a i in let q = of_low a j in absurd (omega (arith, p.0, q));
      at_bounds = λ m i e. absurd (lower m i e);
    }
      where
        at_lower : (m : ℕ × Mark) → IsIn m piece.marks → m.1 ≡ Lower
        at_lower m i = elim i [ inl e ↦ ap (λ t. t.1) e | inr i ↦ elim i [ inl e ↦ ap (λ t. t.1) e | inr i ↦ elim i [ inl e ↦ ap (λ t. t.1) e | inr i ↦ elim i [ inl e ↦ ap (λ t. t.1) e | inr i ↦ elim i [ inl e ↦ ap (λ t. t.1) e | inr i ↦ elim i [ inl e ↦ ap (λ t. t.1) e | inr i ↦ absurd i ] ] ] ] ] ]

        lower : (m : ℕ × Mark) → IsIn m piece.marks → m.1 ≡ Basic → ⊥
        lower m i e = let f : Lower ≡ Basic = sym (at_lower m i) ∙ e in cc

    pub held : IsHeld piece
    held = record { stored = inr shape; few_nodes = omega arith; few_basics = omega arith; few_marks = omega arith }

    -- by the ends of the arcs of the network
    pub record HasEnds (net : Network) : Type 0 where
      nodes : length net.supply ≡ 5
      arcs : length net.arcs ≡ 11
      end0 : ends_at net.arcs 0 ≡ Link 0 1 g0
      end1 : ends_at net.arcs 1 ≡ Link 2 1 g1
      end2 : ends_at net.arcs 2 ≡ Link 2 0 g2
      end3 : ends_at net.arcs 3 ≡ Link 3 1 g3
      end4 : ends_at net.arcs 4 ≡ Link 3 4 g4
      end5 : ends_at net.arcs 5 ≡ Link 3 4 g4
      end9 : ends_at net.arcs 9 ≡ Drain 3
      others : (a : ℕ) → IsIn a high → Touches low (graph_ends (ends_at net.arcs a))

    in_any : (net : Network) → HasEnds net → IsInNet net piece
    in_any net h = record {
      shape = shape;
      nodes = λ v i. subst (λ n. v < n) (sym h.nodes) (of_low v i);
      basic = λ b. elim [
        | inl e ↦ basic b (0, Link 0 1 g0, zero_ratio) e (omega arith) h.end0
        | inr i ↦ elim i [
          | inl e ↦ basic b (1, Link 2 1 g1, zero_ratio) e (omega arith) h.end1
          | inr i ↦ elim i [
            | inl e ↦ basic b (2, Link 2 0 g2, zero_ratio) e (omega arith) h.end2
            | inr i ↦ elim i [
              | inl e ↦ basic b (3, Link 3 1 g3, zero_ratio) e (omega arith) h.end3
              | inr i ↦ elim i [ inl e ↦ basic b (4, Link 3 4 g4, zero_ratio) e (omega arith) h.end4 | inr i ↦ absurd i ]
            ]
          ]
        ]
      ];
      marked = λ a. (
        (λ i. let p = of_high a i in (subst (λ n. a < n) (sym h.arcs) p.1, (λ j. let q = of_low a j in absurd (omega (arith, p.0, q))), h.others a i)),
        (λ r. in_high a (not_low a r.1) (subst (λ n. a < n) h.arcs r.0)),
      );
    }
      where
        basic : (b c : ℕ × Ends × Ratio) → b ≡ c → c.0 < 11 → ends_at net.arcs c.0 ≡ c.1 → (b.0 < length net.arcs) × (b.1 ≡ ends_at net.arcs b.0)
        basic b c e l is = subst (λ (t : ℕ × Ends × Ratio). (t.0 < length net.arcs) × (t.1 ≡ ends_at net.arcs t.0)) (sym e) (subst (λ n. c.0 < n) (sym h.arcs) l, sym is)

        below_or : (a : ℕ) → (a < 5) ⊎ (5 ≤ a)
        below_or a = grind arith

        not_low : (a : ℕ) → ¬ IsIn a low → 5 ≤ a
        not_low a n = elim (below_or a) [ inl l ↦ absurd (n (in_low a l)) | inr l ↦ l ]

    drained : (net : Network) → ends_at net.arcs 5 ≡ Link 3 4 g4 → ends_at net.arcs 6 ≡ Drain 0 → ends_at net.arcs 7 ≡ Drain 1 → ends_at net.arcs 8 ≡ Drain 2 → ends_at net.arcs 9 ≡ Drain 3 → ends_at net.arcs 10 ≡ Drain 4
        → (a : ℕ) → IsIn a high → Touches low (graph_ends (ends_at net.arcs a))
    drained net e5 e6 e7 e8 e9 e10 a i = elim i [
      | inl e ↦ subst (λ t. Touches low (graph_ends (ends_at net.arcs t))) (sym e) (subst (λ t. Touches low (graph_ends t)) (sym e5) (inl (in_low 3 (omega arith))))
      | inr i ↦ elim i [ inl e ↦ at a 6 0 e e6 (omega arith) | inr i ↦ elim i [ inl e ↦ at a 7 1 e e7 (omega arith) | inr i ↦ elim i [ inl e ↦ at a 8 2 e e8 (omega arith) | inr i ↦ elim i [ inl e ↦ at a 9 3 e e9 (omega arith) | inr i ↦ elim i [ inl e ↦ at a 10 4 e e10 (omega arith) | inr i ↦ absurd i ] ] ] ] ]
    ]
      where
        at : (a b v : ℕ) → a ≡ b → ends_at net.arcs b ≡ Drain v → v < 5 → Touches low (graph_ends (ends_at net.arcs a))
        at a b v e is l = subst (λ t. Touches low (graph_ends (ends_at net.arcs t))) (sym e) (subst (λ t. Touches low (graph_ends t)) (sym is) (in_low v l))

    -- the sixth link and the drain at node 3 can enter
    abbrev Enters : Network → Type 0
    Enters net = CanEnter net (piece ∷ []) 5 × CanEnter net (piece ∷ []) 9

    enters : (net : Network) → HasEnds net → Enters net
    enters net h = (
      record {
        in_net = λ p. elim [ inl e ↦ subst (IsInNet net) (sym e) (in_any net h) | inr i ↦ absurd i ];
        apart = ascends_once low low_ascends;
        inside = subst (λ n. 5 < n) (sym h.arcs) (omega arith);
        holds = subst (λ e. LiesIn ratios low (graph_ends e)) (sym h.end5) (in_low 3 (omega arith), in_low 4 (omega arith), above g4 suited.fifth);
        outside = λ i. let q : 5 < 5 = of_low 5 i in absurd (omega arith);
      },
      record {
        in_net = λ p. elim [ inl e ↦ subst (IsInNet net) (sym e) (in_any net h) | inr i ↦ absurd i ];
        apart = ascends_once low low_ascends;
        inside = subst (λ n. 9 < n) (sym h.arcs) (omega arith);
        holds = subst (λ e. LiesIn ratios low (graph_ends e)) (sym h.end9) (in_low 3 (omega arith));
        outside = λ i. let q : 9 < 5 = of_low 9 i in absurd (omega arith);
      },
    )

    -- in either phase
    pub can_enter : (phase : Phase) → Enters (with_artificial phase (record { supply = zeros; arcs = links }) drains)
    can_enter One = enters (with_artificial One (record { supply = zeros; arcs = links }) drains) (record {
      nodes = refl;
      arcs = refl;
      end0 = refl;
      end1 = refl;
      end2 = refl;
      end3 = refl;
      end4 = refl;
      end5 = refl;
      end9 = refl;
      others = drained (with_artificial One (record { supply = zeros; arcs = links }) drains) refl refl refl refl refl refl;
    })
    can_enter Two = enters (with_artificial Two (record { supply = zeros; arcs = links }) drains) (record {
      nodes = refl;
      arcs = refl;
      end0 = refl;
      end1 = refl;
      end2 = refl;
      end3 = refl;
      end4 = refl;
      end5 = refl;
      end9 = refl;
      others = drained (with_artificial Two (record { supply = zeros; arcs = links }) drains) refl refl refl refl refl refl;
    })

pub drains_are_artificial : AreArtificial 5 drains
drains_are_artificial = record { one_each = refl; at_nodes = each }
  where
    each : (v : ℕ) (other : Ends) → v < 5 → IsOneEndAt v (slice_index_or drains v other)
    each zero other l = refl
    each (suc zero) other l = refl
    each (suc (suc zero)) other l = refl
    each (suc (suc (suc zero))) other l = refl
    each (suc (suc (suc (suc zero)))) other l = refl
    each (suc (suc (suc (suc (suc v))))) other l = absurd (omega arith)

-- what the fixture tests
pub suits : (g0 g1 g2 g3 g4 : Ratio) → (is_below zero_ratio g0 && is_below zero_ratio g1 && is_below zero_ratio g2 && is_below zero_ratio g3 && is_below zero_ratio g4) ≡ true → g0 *ᵣ g2 ≢ g1 → AreSuited g0 g1 g2 g3 g4
suits g0 g1 g2 g3 g4 all apart =
    let l4 = left_true (is_below zero_ratio g0 && is_below zero_ratio g1 && is_below zero_ratio g2 && is_below zero_ratio g3) (is_below zero_ratio g4) all in
    let l3 = left_true (is_below zero_ratio g0 && is_below zero_ratio g1 && is_below zero_ratio g2) (is_below zero_ratio g3) l4 in
    let l2 = left_true (is_below zero_ratio g0 && is_below zero_ratio g1) (is_below zero_ratio g2) l3 in
    record {
      first = is_below_true zero_ratio g0 (left_true (is_below zero_ratio g0) (is_below zero_ratio g1) l2);
      second = is_below_true zero_ratio g1 (right_true (is_below zero_ratio g0) (is_below zero_ratio g1) l2);
      third = is_below_true zero_ratio g2 (right_true (is_below zero_ratio g0 && is_below zero_ratio g1) (is_below zero_ratio g2) l3);
      fourth = is_below_true zero_ratio g3 (right_true (is_below zero_ratio g0 && is_below zero_ratio g1 && is_below zero_ratio g2) (is_below zero_ratio g3) l4);
      fifth = is_below_true zero_ratio g4 (right_true (is_below zero_ratio g0 && is_below zero_ratio g1 && is_below zero_ratio g2 && is_below zero_ratio g3) (is_below zero_ratio g4) all);
      apart = apart;
    }

-- lists that are those of the piece
pub is_piece : (g0 g1 g2 g3 g4 c0 c1 c2 c3 c4 : Ratio) (l : PieceLists) → l.nodes ≡ (piece g0 g1 g2 g3 g4 c0 c1 c2 c3 c4).nodes → l.basics ≡ (piece g0 g1 g2 g3 g4 c0 c1 c2 c3 c4).basics
    → l.marks ≡ (piece g0 g1 g2 g3 g4 c0 c1 c2 c3 c4).marks → l ≡ piece g0 g1 g2 g3 g4 c0 c1 c2 c3 c4
is_piece g0 g1 g2 g3 g4 c0 c1 c2 c3 c4 l a b c =
    let p = piece g0 g1 g2 g3 g4 c0 c1 c2 c3 c4 in
    let e : (l.nodes, l.basics, l.marks) ≡ (p.nodes, p.basics, p.marks) = rw (a, b, c) refl in ap made e
  where
    made : List (ℕ × Ratio) × List (ℕ × Ends × Ratio) × List (ℕ × Mark) → PieceLists
    made t = record { nodes = t.0; basics = t.1; marks = t.2 }

-- and a network that is that of the links
pub can_enter_of : (g0 g1 g2 g3 g4 c0 c1 c2 c3 c4 : Ratio) → AreSuited g0 g1 g2 g3 g4 → (supply : List Ratio) (arcs : List NetArc) (artificial : List Ends) (l : PieceLists) → supply ≡ zeros → arcs ≡ links g0 g1 g2 g3 g4 c0 c1 c2 c3 c4
    → artificial ≡ drains → l ≡ piece g0 g1 g2 g3 g4 c0 c1 c2 c3 c4 → (phase : Phase)
    → CanEnter (with_artificial phase (record { supply = supply; arcs = arcs }) artificial) (l ∷ []) 5 × CanEnter (with_artificial phase (record { supply = supply; arcs = arcs }) artificial) (l ∷ []) 9
can_enter_of g0 g1 g2 g3 g4 c0 c1 c2 c3 c4 s supply arcs artificial l a b d e phase = rw (a, b, d, e) (can_enter g0 g1 g2 g3 g4 c0 c1 c2 c3 c4 s phase)
