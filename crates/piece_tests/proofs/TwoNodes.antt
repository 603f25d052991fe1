-- Two nodes with a link each way, a feed and a drain: each node alone and both together are pieces of their network, for the tests.
use Rattle.std.specs.Prelude.{◌≡◌, ◌≢◌, ◌⊎◌, ◌<◌, ℕ, zero, suc, List, [], ◌∷◌, length, slice_index_or}
use Rattle.std.specs.List.{All}
use Rattle.std.proofs.Common.{refl, sym, ap, subst, ◌∙◌, inl, inr, arith}
use Rattle.gain_graphs.specs.Arcs as graph
use Rattle.gain_graphs.specs.Arcs.{IsIn, AreDistinct, Touches, AreJoined, Along, Against}
use Rattle.gain_graphs.specs.QuasiTrees.{LiesIn}
use Rattle.np_frac.specs.Ratio.{Ratio, zero_ratio, ◌<ᵣ◌}
use Rattle.np_frac.proofs.RatioLaws.{clash, ≤ᵣ_same}
use Rattle.np_model.specs.declared.arc.Ends.{Ends}
use Rattle.np_model.specs.declared.arc.Ends.TheVariants.{Link, Drain, Feed}
use Rattle.np_model.specs.declared.arc.Upper.TheVariants.{Infinite}
use Rattle.np_model.specs.declared.arc.NetArc.{NetArc}
use Rattle.np_model.specs.declared.log.Mark.{Mark}
use Rattle.np_model.specs.declared.log.Mark.TheVariants.{Lower, Basic}
use Rattle.np_model.specs.declared.phase.Phase.{Phase}
use Rattle.np_model.specs.declared.phase.Phase.TheVariants.{One, Two}
use Rattle.np_model.specs.Network.Flows.{Network}
use Rattle.np_model.specs.Network.Nets.{IsNet, IsSoundArc}
use Rattle.np_model.specs.Basis.Artificial.{AreArtificial, IsOneEndAt}
use Rattle.np_model.specs.Basis.Graphs.{ratios, graph_ends, ends_at}
use Rattle.np_model.specs.Basis.Phases.{with_artificial}
use Rattle.np_model.specs.Basis.Pieces.{PieceLists, HasShape}
use Rattle.np_model.specs.Basis.Sound.{IsInNet}
use Rattle.np_basis.proofs.Ascending.{rises, one_rises}
use Rattle.quasi_tree.specs.Store.{IsHeld}
use Rattle.tree_flows.specs.Answers.{CanEnter}

abbrev zeros : List Ratio
zeros = zero_ratio ∷ zero_ratio ∷ []

abbrev link : ℕ → ℕ → Ratio → NetArc
link i j g = record { ends = Link i j g; lower = zero_ratio; upper = Infinite; cost = zero_ratio }

abbrev ends_added : List Ends
ends_added = Feed 0 ∷ Drain 1 ∷ []

pub added_are_artificial : AreArtificial 2 ends_added
added_are_artificial = record { one_each = refl; at_nodes = each }
  where
    each : (v : ℕ) (other : Ends) → v < 2 → IsOneEndAt v (slice_index_or ends_added v other)
    each zero other l = refl
    each (suc zero) other l = refl
    each (suc (suc v)) other l = absurd (omega arith)

pair_distinct : (x y : ℕ) → x ≢ y → AreDistinct (x ∷ y ∷ [])
pair_distinct x y n = ((λ i. elim i [ inl e ↦ n e | inr z ↦ z ]), ((λ z. z), record {}))

marks_lower : (a b : ℕ) (m : ℕ × Mark) → IsIn m ((a, Lower) ∷ (b, Lower) ∷ []) → m.1 ≢ Basic
marks_lower a b m i e = elim i [
  | inl k ↦ (let f : Lower ≡ Basic = sym (ap (λ t. t.1) k) ∙ e in cc)
  | inr j ↦ elim j [ inl k ↦ (let f : Lower ≡ Basic = sym (ap (λ t. t.1) k) ∙ e in cc) | inr z ↦ z ]
]

-- a node alone with its artificial arc, and the marks of the links
abbrev pub alone : ℕ → ℕ → Ends → PieceLists
alone v a e = record { nodes = (v, zero_ratio) ∷ []; basics = (a, e, zero_ratio) ∷ []; marks = (0, Lower) ∷ (1, Lower) ∷ [] }

module _ (v a : ℕ) (e : Ends) (at : IsOneEndAt v e) (above : 1 < a) where
  only : (u : ℕ) → IsIn u (v ∷ []) → u ≡ v
  only u = elim [ inl m ↦ m | inr i ↦ absurd i ]

  lies : LiesIn ratios (v ∷ []) (graph_ends e)
  lies = go e at
    where
      go : (e : Ends) → IsOneEndAt v e → LiesIn ratios (v ∷ []) (graph_ends e)
      go (Link i j g) h = absurd h
      go (Drain i) h = inl h
      go (Feed i) h = inl h

  one_end : graph.HasOneEnd (graph_ends e)
  one_end = go e at
    where
      go : (e : Ends) → IsOneEndAt v e → graph.HasOneEnd (graph_ends e)
      go (Link i j g) h = absurd h
      go (Drain i) h = record {}
      go (Feed i) h = record {}

  alone_shape : HasShape (alone v a e)
  alone_shape = record {
    nodes_ascend = one_rises v;
    basics_ascend = one_rises a;
    marks_ascend = rises (0 ∷ 1 ∷ []) ((λ u. elim [ inl m ↦ omega (arith, m) | inr i ↦ absurd i ]), ((λ u i. absurd i), record {}));
    quasi_tree = record {
      nodes_once = ((λ i. i), record {});
      some_node = (v, inl refl);
      ends_inside = λ b. elim [ inl m ↦ subst (LiesIn ratios (v ∷ [])) (sym m) lies | inr i ↦ absurd i ];
      joined = λ u w i j. ([], only u i ∙ sym (only w j));
      as_many = refl;
      extra = inl (graph_ends e, inl refl, one_end);
    };
    others = λ b i j. elim j [
      | inl m ↦ elim i [ inl k ↦ absurd (omega (arith, m, k, above)) | inr i ↦ elim i [ inl k ↦ absurd (omega (arith, m, k, above)) | inr z ↦ z ] ]
      | inr z ↦ z
    ];
    at_bounds = marks_lower 0 1;
  }

  pub alone_held : IsHeld (alone v a e)
  alone_held = record { stored = inr alone_shape; few_nodes = omega arith; few_basics = omega arith; few_marks = omega arith }

module _ (g0 g1 : Ratio) where
  abbrev pub links : List NetArc
  links = link 0 1 g0 ∷ link 1 0 g1 ∷ []

  abbrev pub both : PieceLists
  both = record {
    nodes = (0, zero_ratio) ∷ (1, zero_ratio) ∷ [];
    basics = (0, Link 0 1 g0, zero_ratio) ∷ (3, Drain 1, zero_ratio) ∷ [];
    marks = (1, Lower) ∷ (2, Lower) ∷ [];
  }

  module _ (p0 : zero_ratio <ᵣ g0) (p1 : zero_ratio <ᵣ g1) where
    not_zero : (g : Ratio) → zero_ratio <ᵣ g → g ≢ zero_ratio
    not_zero g h e = clash h (≤ᵣ_same e)

    pub net_is_sound : IsNet zeros links
    net_is_sound = record { few_nodes = omega arith; few_arcs = omega arith; sound = all }
      where
        all : All (IsSoundArc 2) links
        all zero d l = record { joins = (omega arith, omega arith, λ e. absurd (omega (arith, e))); gain = p0; bounds = record {} }
        all (suc zero) d l = record { joins = (omega arith, omega arith, λ e. absurd (omega (arith, e))); gain = p1; bounds = record {} }
        all (suc (suc k)) d l = absurd (omega arith)

    abbrev graph_arcs : List (graph.Ends Ratio)
    graph_arcs = graph.Link 0 1 g0 ∷ graph.Drain 1 ∷ []

    joined : (u v : ℕ) → IsIn u (0 ∷ 1 ∷ []) → IsIn v (0 ∷ 1 ∷ []) → AreJoined graph_arcs u v
    joined u v (inl e) (inl f) = ([], e ∙ sym f)
    joined u v (inl e) (inr (inl f)) = (Along 0 1 g0 ∷ [], (e, inl refl, sym f))
    joined u v (inr (inl e)) (inl f) = (Against 0 1 g0 ∷ [], (e, inl refl, sym f))
    joined u v (inr (inl e)) (inr (inl f)) = ([], e ∙ sym f)
    joined u v (inr (inr z)) j = absurd z
    joined u v (inl e) (inr (inr z)) = absurd z
    joined u v (inr (inl e)) (inr (inr z)) = absurd z

    both_shape : HasShape both
    both_shape = record {
      nodes_ascend = rises (0 ∷ 1 ∷ []) ((λ u. elim [ inl m ↦ omega (arith, m) | inr i ↦ absurd i ]), ((λ u i. absurd i), record {}));
      basics_ascend = rises (0 ∷ 3 ∷ []) ((λ u. elim [ inl m ↦ omega (arith, m) | inr i ↦ absurd i ]), ((λ u i. absurd i), record {}));
      marks_ascend = rises (1 ∷ 2 ∷ []) ((λ u. elim [ inl m ↦ omega (arith, m) | inr i ↦ absurd i ]), ((λ u i. absurd i), record {}));
      quasi_tree = record {
        nodes_once = pair_distinct 0 1 (λ e. absurd (omega (arith, e)));
        some_node = (0, inl refl);
        ends_inside = λ b. elim [
          | inl m ↦ subst (LiesIn ratios (0 ∷ 1 ∷ [])) (sym m) (inl refl, inr (inl refl), not_zero g0 p0)
          | inr i ↦ elim i [ inl m ↦ subst (LiesIn ratios (0 ∷ 1 ∷ [])) (sym m) (inr (inl refl)) | inr z ↦ absurd z ]
        ];
        joined = joined;
        as_many = refl;
        extra = inl (graph.Drain 1, inr (inl refl), record {});
      };
      others = λ b i j. elim i [
        | inl k ↦ elim j [ inl m ↦ absurd (omega (arith, m, k)) | inr j ↦ elim j [ inl m ↦ absurd (omega (arith, m, k)) | inr z ↦ z ] ]
        | inr i ↦ elim i [
          | inl k ↦ elim j [ inl m ↦ absurd (omega (arith, m, k)) | inr j ↦ elim j [ inl m ↦ absurd (omega (arith, m, k)) | inr z ↦ z ] ]
          | inr z ↦ absurd z
        ]
      ];
      at_bounds = marks_lower 1 2;
    }

    pub both_held : IsHeld both
    both_held = record { stored = inr both_shape; few_nodes = omega arith; few_basics = omega arith; few_marks = omega arith }

    -- by the ends of the arcs of the network
    pub record HasEnds (net : Network) : Type 0 where
      nodes : length net.supply ≡ 2
      arcs : length net.arcs ≡ 4
      end0 : ends_at net.arcs 0 ≡ Link 0 1 g0
      end1 : ends_at net.arcs 1 ≡ Link 1 0 g1
      end2 : ends_at net.arcs 2 ≡ Feed 0
      end3 : ends_at net.arcs 3 ≡ Drain 1

    module _ (net : Network) (h : HasEnds net) where
      below : (a : ℕ) → a < 4 → a < length net.arcs
      below a l = subst (λ n. a < n) (sym h.arcs) l

      cases : (a : ℕ) → a < 4 → (a ≡ 0) ⊎ ((a ≡ 1) ⊎ ((a ≡ 2) ⊎ (a ≡ 3)))
      cases a l = grind arith

      touches : (nodes : List ℕ) (a b : ℕ) (e : Ends) → a ≡ b → ends_at net.arcs b ≡ e → Touches nodes (graph_ends e) → Touches nodes (graph_ends (ends_at net.arcs a))
      touches nodes a b e k m t = subst (λ x. Touches nodes (graph_ends (ends_at net.arcs x))) (sym k) (subst (λ x. Touches nodes (graph_ends x)) (sym m) t)

      touched : (nodes : List ℕ) (a b : ℕ) (e : Ends) → a ≡ b → ends_at net.arcs b ≡ e → Touches nodes (graph_ends (ends_at net.arcs a)) → Touches nodes (graph_ends e)
      touched nodes a b e k m t = subst (λ x. Touches nodes (graph_ends x)) m (subst (λ x. Touches nodes (graph_ends (ends_at net.arcs x))) k t)

      basic : (b c : ℕ × Ends × Ratio) → b ≡ c → c.0 < 4 → ends_at net.arcs c.0 ≡ c.1 → (b.0 < length net.arcs) × (b.1 ≡ ends_at net.arcs b.0)
      basic b c e l is = subst (λ (t : ℕ × Ends × Ratio). (t.0 < length net.arcs) × (t.1 ≡ ends_at net.arcs t.0)) (sym e) (below c.0 l, sym is)

      node_below : (v u : ℕ) → u ≡ v → v < 2 → u < length net.supply
      node_below v u e l = subst (λ n. u < n) (sym h.nodes) (omega (arith, e, l))

      left_in : IsInNet net (alone 0 2 (Feed 0))
      left_in = record {
        shape = alone_shape 0 2 (Feed 0) refl (omega arith);
        nodes = λ u. elim [ inl e ↦ node_below 0 u e (omega arith) | inr i ↦ absurd i ];
        basic = λ b. elim [ inl e ↦ basic b (2, Feed 0, zero_ratio) e (omega arith) h.end2 | inr i ↦ absurd i ];
        marked = λ a. (
          elim [
            | inl e ↦ (below a (omega (arith, e)), (elim [ inl k ↦ absurd (omega (arith, e, k)) | inr z ↦ z ]), touches (0 ∷ []) a 0 (Link 0 1 g0) e h.end0 (inl (inl refl)))
            | inr i ↦ elim i [
              | inl e ↦ (below a (omega (arith, e)), (elim [ inl k ↦ absurd (omega (arith, e, k)) | inr z ↦ z ]), touches (0 ∷ []) a 1 (Link 1 0 g1) e h.end1 (inr (inl refl)))
              | inr z ↦ absurd z
            ]
          ],
          (λ r. elim (cases a (subst (λ n. a < n) h.arcs r.0)) [
            | inl e ↦ inl e
            | inr i ↦ elim i [
              | inl e ↦ inr (inl e)
              | inr i ↦ elim i [ inl e ↦ absurd (r.1 (inl e)) | inr e ↦ absurd (let t : Touches (0 ∷ []) (graph_ends (Drain 1)) = touched (0 ∷ []) a 3 (Drain 1) e h.end3 r.2 in elim t [ inl m ↦ omega (arith, m) | inr z ↦ z ]) ]
            ]
          ]),
        );
      }

      right_in : IsInNet net (alone 1 3 (Drain 1))
      right_in = record {
        shape = alone_shape 1 3 (Drain 1) refl (omega arith);
        nodes = λ u. elim [ inl e ↦ node_below 1 u e (omega arith) | inr i ↦ absurd i ];
        basic = λ b. elim [ inl e ↦ basic b (3, Drain 1, zero_ratio) e (omega arith) h.end3 | inr i ↦ absurd i ];
        marked = λ a. (
          elim [
            | inl e ↦ (below a (omega (arith, e)), (elim [ inl k ↦ absurd (omega (arith, e, k)) | inr z ↦ z ]), touches (1 ∷ []) a 0 (Link 0 1 g0) e h.end0 (inr (inl refl)))
            | inr i ↦ elim i [
              | inl e ↦ (below a (omega (arith, e)), (elim [ inl k ↦ absurd (omega (arith, e, k)) | inr z ↦ z ]), touches (1 ∷ []) a 1 (Link 1 0 g1) e h.end1 (inl (inl refl)))
              | inr z ↦ absurd z
            ]
          ],
          (λ r. elim (cases a (subst (λ n. a < n) h.arcs r.0)) [
            | inl e ↦ inl e
            | inr i ↦ elim i [
              | inl e ↦ inr (inl e)
              | inr i ↦ elim i [ inl e ↦ absurd (let t : Touches (1 ∷ []) (graph_ends (Feed 0)) = touched (1 ∷ []) a 2 (Feed 0) e h.end2 r.2 in elim t [ inl m ↦ omega (arith, m) | inr z ↦ z ]) | inr e ↦ absurd (r.1 (inl e)) ]
            ]
          ]),
        );
      }

      both_in : IsInNet net both
      both_in = record {
        shape = both_shape;
        nodes = λ u. elim [ inl e ↦ node_below 0 u e (omega arith) | inr i ↦ elim i [ inl e ↦ node_below 1 u e (omega arith) | inr z ↦ absurd z ] ];
        basic = λ b. elim [
          | inl e ↦ basic b (0, Link 0 1 g0, zero_ratio) e (omega arith) h.end0
          | inr i ↦ elim i [ inl e ↦ basic b (3, Drain 1, zero_ratio) e (omega arith) h.end3 | inr z ↦ absurd z ]
        ];
        marked = λ a. (
          elim [
            | inl e ↦ (below a (omega (arith, e)), (elim [ inl k ↦ absurd (omega (arith, e, k)) | inr j ↦ elim j [ inl k ↦ absurd (omega (arith, e, k)) | inr z ↦ z ] ]), touches (0 ∷ 1 ∷ []) a 1 (Link 1 0 g1) e h.end1 (inr (inl refl)))
            | inr i ↦ elim i [
              | inl e ↦ (below a (omega (arith, e)), (elim [ inl k ↦ absurd (omega (arith, e, k)) | inr j ↦ elim j [ inl k ↦ absurd (omega (arith, e, k)) | inr z ↦ z ] ]), touches (0 ∷ 1 ∷ []) a 2 (Feed 0) e h.end2 (inl refl))
              | inr z ↦ absurd z
            ]
          ],
          (λ r. elim (cases a (subst (λ n. a < n) h.arcs r.0)) [
            | inl e ↦ absurd (r.1 (inl e))
            | inr i ↦ elim i [ inl e ↦ inl e | inr i ↦ elim i [ inl e ↦ inr (inl e) | inr e ↦ absurd (r.1 (inr (inl e))) ] ]
          ]),
        );
      }

      abbrev left : PieceLists
      left = alone 0 2 (Feed 0)

      abbrev right : PieceLists
      right = alone 1 3 (Drain 1)

      apart : CanEnter net (left ∷ right ∷ []) 1
      apart = record {
        in_net = λ p. elim [ inl e ↦ subst (IsInNet net) (sym e) left_in | inr i ↦ elim i [ inl e ↦ subst (IsInNet net) (sym e) right_in | inr z ↦ absurd z ] ];
        apart = pair_distinct 0 1 (λ e. absurd (omega (arith, e)));
        inside = below 1 (omega arith);
        holds = subst (λ e. LiesIn ratios (0 ∷ 1 ∷ []) (graph_ends e)) (sym h.end1) (inr (inl refl), inl refl, not_zero g1 p1);
        outside = elim [ inl e ↦ absurd (omega (arith, e)) | inr i ↦ elim i [ inl e ↦ absurd (omega (arith, e)) | inr z ↦ z ] ];
      }

      turned : CanEnter net (right ∷ left ∷ []) 1
      turned = record {
        in_net = λ p. elim [ inl e ↦ subst (IsInNet net) (sym e) right_in | inr i ↦ elim i [ inl e ↦ subst (IsInNet net) (sym e) left_in | inr z ↦ absurd z ] ];
        apart = pair_distinct 1 0 (λ e. absurd (omega (arith, e)));
        inside = below 1 (omega arith);
        holds = subst (λ e. LiesIn ratios (1 ∷ 0 ∷ []) (graph_ends e)) (sym h.end1) (inl refl, inr (inl refl), not_zero g1 p1);
        outside = elim [ inl e ↦ absurd (omega (arith, e)) | inr i ↦ elim i [ inl e ↦ absurd (omega (arith, e)) | inr z ↦ z ] ];
      }

      together : CanEnter net (both ∷ []) 1
      together = record {
        in_net = λ p. elim [ inl e ↦ subst (IsInNet net) (sym e) both_in | inr i ↦ absurd i ];
        apart = pair_distinct 0 1 (λ e. absurd (omega (arith, e)));
        inside = below 1 (omega arith);
        holds = subst (λ e. LiesIn ratios (0 ∷ 1 ∷ []) (graph_ends e)) (sym h.end1) (inr (inl refl), inl refl, not_zero g1 p1);
        outside = elim [ inl e ↦ absurd (omega (arith, e)) | inr i ↦ elim i [ inl e ↦ absurd (omega (arith, e)) | inr z ↦ z ] ];
      }

      fed : CanEnter net (both ∷ []) 2
      fed = record {
        in_net = λ p. elim [ inl e ↦ subst (IsInNet net) (sym e) both_in | inr i ↦ absurd i ];
        apart = pair_distinct 0 1 (λ e. absurd (omega (arith, e)));
        inside = below 2 (omega arith);
        holds = subst (λ e. LiesIn ratios (0 ∷ 1 ∷ []) (graph_ends e)) (sym h.end2) (inl refl);
        outside = elim [ inl e ↦ absurd (omega (arith, e)) | inr i ↦ elim i [ inl e ↦ absurd (omega (arith, e)) | inr z ↦ z ] ];
      }

    -- in either phase
    pub record CanAll (net : Network) (l r b : PieceLists) : Type 0 where
      pub apart : CanEnter net (l ∷ r ∷ []) 1
      pub turned : CanEnter net (r ∷ l ∷ []) 1
      pub together : CanEnter net (b ∷ []) 1
      pub fed : CanEnter net (b ∷ []) 2

    all_of : (net : Network) → HasEnds net → CanAll net (alone 0 2 (Feed 0)) (alone 1 3 (Drain 1)) both
    all_of net h = record { apart = apart net h; turned = turned net h; together = together net h; fed = fed net h }

    pub can_all : (phase : Phase) → CanAll (with_artificial phase (record { supply = zeros; arcs = links }) ends_added) (alone 0 2 (Feed 0)) (alone 1 3 (Drain 1)) both
    can_all One = all_of (with_artificial One (record { supply = zeros; arcs = links }) ends_added) (record { nodes = refl; arcs = refl; end0 = refl; end1 = refl; end2 = refl; end3 = refl })
    can_all Two = all_of (with_artificial Two (record { supply = zeros; arcs = links }) ends_added) (record { nodes = refl; arcs = refl; end0 = refl; end1 = refl; end2 = refl; end3 = refl })

    -- lists and a network that are those
    pub can_all_of : (supply : List Ratio) (arcs : List NetArc) (artificial : List Ends) (l r b : PieceLists) → supply ≡ zeros → arcs ≡ links → artificial ≡ ends_added → l ≡ alone 0 2 (Feed 0) → r ≡ alone 1 3 (Drain 1) → b ≡ both
        → (phase : Phase) → CanAll (with_artificial phase (record { supply = supply; arcs = arcs }) artificial) l r b
    can_all_of supply arcs artificial l r b e f g x y z phase = rw (e, f, g, x, y, z) (can_all phase)

pub is_piece : (l p : PieceLists) → l.nodes ≡ p.nodes → l.basics ≡ p.basics → l.marks ≡ p.marks → l ≡ p
is_piece l p a b c = let e : (l.nodes, l.basics, l.marks) ≡ (p.nodes, p.basics, p.marks) = rw (a, b, c) refl in ap made e
  where
    made : List (ℕ × Ratio) × List (ℕ × Ends × Ratio) × List (ℕ × Mark) → PieceLists
    made t = record { nodes = t.0; basics = t.1; marks = t.2 }
