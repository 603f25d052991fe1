-- A node alone with its basic arc, for the tests.
use Rattle.std.specs.Prelude.{◌≡◌, ◌≢◌, ◌↔◌, ℕ, ◌<◌, zero, suc, Bool, true, false, List, [], ◌∷◌, length, map}
use Rattle.std.specs.List.Sorted.{IsStrictlyIncreasing}
use Rattle.std.proofs.Common.{refl, sym, ap, subst, ◌∙◌, inl, inr, arith}
use Rattle.gain_graphs.specs.Arcs.{IsIn, Touches}
use Rattle.gain_graphs.specs.Arcs as graph
use Rattle.gain_graphs.specs.QuasiTrees.{LiesIn}
use Rattle.np_frac.specs.Ratio.{Ratio, zero_ratio, one_ratio, ◌+ᵣ◌}
use Rattle.np_frac.proofs.RatioLaws.{+ᵣ-zero}
use Rattle.np_frac.proofs.Field.{one-zero, +ᵣ-negated}
use Rattle.np_model.specs.declared.arc.Ends.{Ends}
use Rattle.np_model.specs.declared.arc.Ends.TheVariants.{Link, Drain, Feed}
use Rattle.np_model.specs.declared.log.Mark.{Mark}
use Rattle.np_model.specs.declared.log.Mark.TheVariants.{Lower, Basic}
use Rattle.np_model.specs.Network.Arcs.{IsWithin}
use Rattle.np_model.specs.Network.Flows.{Network}
use Rattle.np_model.specs.Basis.Artificial.{IsOneEndAt}
use Rattle.np_model.specs.Basis.Graphs.{ratios, graph_ends, arc_at, ends_at}
use Rattle.np_model.specs.Basis.Pieces.{PieceLists, HasShape}
use Rattle.np_model.specs.Basis.Sound.{IsInNet}
use Rattle.ratio_test.specs.Asked.{AreWithin}
use Rattle.np_basis.specs.PivotLaws.{unit_of}

abbrev pub alone : ℕ → ℕ → Ends → Ratio → List (ℕ × Mark) → PieceLists
alone v a e x marks = record { nodes = (v, zero_ratio) ∷ []; basics = (a, e, x) ∷ []; marks = marks }

one_rises : (v : ℕ) → IsStrictlyIncreasing (v ∷ [])
one_rises v k l = absurd (omega arith)

only : (v w : ℕ) → IsIn v (w ∷ []) → v ≡ w
only v w = elim [ inl e ↦ e | inr i ↦ absurd i ]

lies : (v : ℕ) (e : Ends) → IsOneEndAt v e → LiesIn ratios (v ∷ []) (graph_ends e)
lies v (Link i j g) h = absurd h
lies v (Drain i) h = inl h
lies v (Feed i) h = inl h

one_end : (v : ℕ) (e : Ends) → IsOneEndAt v e → graph.HasOneEnd (graph_ends e)
one_end v (Link i j g) h = absurd h
one_end v (Drain i) h = record {}
one_end v (Feed i) h = record {}

module _ (v a : ℕ) (e : Ends) (x : Ratio) (marks : List (ℕ × Mark)) (at : IsOneEndAt v e) where
  shape : IsStrictlyIncreasing (map (λ (m : ℕ × Mark). m.0) marks) → ((k : ℕ) → IsIn k (map (λ (m : ℕ × Mark). m.0) marks) → k ≢ a)
      → ((m : ℕ × Mark) → IsIn m marks → m.1 ≢ Basic) → HasShape (alone v a e x marks)
  shape rises others bounds = record {
    nodes_ascend = one_rises v;
    basics_ascend = one_rises a;
    marks_ascend = rises;
    quasi_tree = record {
      nodes_once = ((λ i. i), record {});
      some_node = (v, inl refl);
      ends_inside = λ b. elim [ inl m ↦ subst (LiesIn ratios (v ∷ [])) (sym m) (lies v e at) | inr i ↦ absurd i ];
      joined = λ u w i j. ([], only u v i ∙ sym (only w v j));
      as_many = refl;
      extra = inl (graph_ends e, inl refl, one_end v e at);
    };
    others = λ k i j. others k i (only k a j);
    at_bounds = bounds;
  }

  pub in_net : (net : Network) → v < length net.supply → a < length net.arcs → e ≡ ends_at net.arcs a
      → IsStrictlyIncreasing (map (λ (m : ℕ × Mark). m.0) marks) → ((m : ℕ × Mark) → IsIn m marks → m.1 ≢ Basic)
      → ((k : ℕ) → IsIn k (map (λ (m : ℕ × Mark). m.0) marks) ↔ ((k < length net.arcs) × (k ≢ a) × Touches (v ∷ []) (graph_ends (ends_at net.arcs k))))
      → IsInNet net (alone v a e x marks)
  in_net net node arc is rises bounds marked = record {
    shape = shape rises (λ k i. ((marked k).0 i).1) bounds;
    nodes = λ u i. subst (λ (n : ℕ). n < length net.supply) (sym (only u v i)) node;
    basic = λ b. elim [
      | inl m ↦ subst (λ (t : ℕ × Ends × Ratio). (t.0 < length net.arcs) × (t.1 ≡ ends_at net.arcs t.0)) (sym m) (arc, is)
      | inr i ↦ absurd i
    ];
    marked = λ k. (
      (λ i. let r = (marked k).0 i in (r.0, (λ j. r.1 (only k a j)), r.2)),
      (λ r. (marked k).1 (r.0, (λ j. r.1 (inl j)), r.2)),
    );
  }

-- ---- a list of two marks

pub two_rise : (a b : ℕ) → a < b → IsStrictlyIncreasing (a ∷ b ∷ [])
two_rise a b h zero l = h
two_rise a b h (suc k) l = absurd (omega arith)

pub not_basic : (a b : ℕ) (m : Mark) → m ≢ Basic → (k : ℕ × Mark) → IsIn k ((a, m) ∷ (b, Lower) ∷ []) → k.1 ≢ Basic
not_basic a b m n k (inl e) = λ p. n (sym (cc e) ∙ p)
not_basic a b m n k (inr (inl e)) = λ p. cc (e, p)
not_basic a b m n k (inr (inr i)) = absurd i

-- ---- the amount of the entering arc

pub unit_apart : (up : Bool) → unit_of up ≢ zero_ratio
unit_apart true = one-zero
unit_apart false = λ e. one-zero (sym (+ᵣ-zero one_ratio) ∙ ap (λ (t : Ratio). one_ratio +ᵣ t) (sym e) ∙ +ᵣ-negated one_ratio)

-- ---- a piece alone

pub alone_within : (net : Network) (v a : ℕ) (e : Ends) (x : Ratio) (marks : List (ℕ × Mark)) → IsInNet net (alone v a e x marks) → IsWithin (arc_at net.arcs a) x
    → (b : ℕ × Ends × Ratio) → IsIn b ((a, e, x) ∷ []) → IsWithin (arc_at net.arcs b.0) b.2
alone_within net v a e x marks inside h b (inl m) = subst (λ (t : ℕ × Ends × Ratio). IsWithin (arc_at net.arcs t.0) t.2) (sym m) h
alone_within net v a e x marks inside h b (inr i) = absurd i

-- one piece alone, and two with different nodes
pub one_is_within : (net : Network) (v a : ℕ) (e : Ends) (x : Ratio) (marks : List (ℕ × Mark)) → IsInNet net (alone v a e x marks) → IsWithin (arc_at net.arcs a) x
    → AreWithin net (alone v a e x marks ∷ [])
one_is_within net v a e x marks inside h = record {
  in_net = λ p. elim [ inl m ↦ subst (IsInNet net) (sym m) inside | inr i ↦ absurd i ];
  apart = ((λ i. i), record {});
  within = λ p b i j. elim i [ inl m ↦ alone_within net v a e x marks inside h b (subst (λ (q : PieceLists). IsIn b q.basics) m j) | inr k ↦ absurd k ];
}

pub two_are_within : (net : Network) (v a w b : ℕ) (e f : Ends) (x y : Ratio) (marks others : List (ℕ × Mark)) → v ≢ w
    → IsInNet net (alone v a e x marks) → IsWithin (arc_at net.arcs a) x → IsInNet net (alone w b f y others) → IsWithin (arc_at net.arcs b) y
    → AreWithin net (alone v a e x marks ∷ alone w b f y others ∷ [])
two_are_within net v a w b e f x y marks others n one h two k = record {
  in_net = λ p. elim [
    | inl m ↦ subst (IsInNet net) (sym m) one
    | inr i ↦ elim i [ inl m ↦ subst (IsInNet net) (sym m) two | inr j ↦ absurd j ]
  ];
  apart = ((λ i. elim i [ inl m ↦ n m | inr j ↦ j ]), ((λ j. j), record {}));
  within = λ p t i j. elim i [
    | inl m ↦ alone_within net v a e x marks one h t (subst (λ (q : PieceLists). IsIn t q.basics) m j)
    | inr r ↦ elim r [ inl m ↦ alone_within net w b f y others two k t (subst (λ (q : PieceLists). IsIn t q.basics) m j) | inr s ↦ absurd s ]
  ];
}
