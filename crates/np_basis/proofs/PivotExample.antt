-- A pivot: of two drains at a node the cheap one takes the place of the dear one.
use Rattle.std.specs.Prelude.{◌≡◌, ℕ, ◌<◌, List, [], ◌∷◌, zero, suc, map}
use Rattle.std.specs.List.{zip}
use Rattle.std.proofs.Common.{refl, sym, ap, ap₂, subst, ◌∙◌, inl, inr, arith, get_or}
use Rattle.gain_graphs.specs.Arcs as graph
use Rattle.gain_graphs.specs.Arcs.{IsIn, Touches}
use Rattle.gain_graphs.specs.Forests.{IsPiece}
use Rattle.gain_graphs.specs.QuasiTrees.{IsQuasiTree}
use Rattle.gain_graphs.proofs.Algebra as algebra
use Rattle.gain_graphs.proofs.Examples as graph_examples
use Rattle.np_frac.specs.Fits.{Fits}
use Rattle.np_frac.specs.Ratio.{Ratio, zero_ratio, one_ratio, negated, whole, ◌≤ᵣ◌, ◌<ᵣ◌, ◌+ᵣ◌, ◌*ᵣ◌}
use Rattle.np_frac.proofs.RatioLaws.{+ᵣ-zero, zero-+ᵣ, +ᵣ_assoc, one-*ᵣ, ≤ᵣ_refl, <ᵣ_is_≤ᵣ, +ᵣ_at_most_left, clash, ≤ᵣ_same}
use Rattle.np_frac.proofs.Field.{+ᵣ-negated, *ᵣ-one, one_above, negated_one_below}
use Rattle.np_model.specs.declared.log.Mark.{Mark}
use Rattle.np_model.specs.declared.log.Mark.TheVariants as marked
use Rattle.np_model.specs.declared.log.Entry.{Entry}
use Rattle.np_model.specs.Network.Arcs.{IsWithin}
use Rattle.np_model.specs.Network.Flows.{at, balance}
use Rattle.np_model.specs.Network.Nets.{IsSoundArc}
use Rattle.np_model.specs.Basis.Graphs.{ratios, graph_of, arc_at, ends_at, cost_at}
use Rattle.np_model.specs.Basis.Moves.{Stops, balance_on, mark_after}
use Rattle.np_model.specs.Basis.Pivots.{arc_numbers}
use Rattle.np_model.specs.Basis.States.{values_of, price, StandsAt, basics, IsPart, IsForest, IsState}
use Rattle.np_model.specs.Rows.Potentials.{PotentialsFit}
use Rattle.np_basis.specs.PivotLaws.{HasRealArcs, drain_of, two_drains, by_dear, by_cheap, HasPivot}
use Rattle.np_basis.proofs.Basics.{basics_hold}
use Rattle.np_basis.proofs.Starting.{one_alone, one_end_fits}

below_two : (P : ℕ → Type 0) → P 0 → P 1 → (a : ℕ) → a < 2 → P a
below_two P x y zero l = x
below_two P x y (suc zero) l = y
below_two P x y (suc (suc a)) l = absurd (omega arith)

below_one : (P : ℕ → Type 0) → P 0 → (a : ℕ) → a < 1 → P a
below_one P x zero l = x
below_one P x (suc a) l = absurd (omega arith)

one_fits : Fits one_ratio
unfolding whole
one_fits = record { num_fits = omega arith; den_fits = omega arith }

zero_fits : Fits zero_ratio
unfolding whole
zero_fits = record { num_fits = omega arith; den_fits = omega arith }

-- ---- states in which one of the drains is basic

module _ (mark : ℕ → Mark) (b : ℕ) (below : b < 2) (is_basic : mark b ≡ marked.Basic) (only_basic : (a : ℕ) → a < 2 → mark a ≡ marked.Basic → a ≡ b) where
  touches_0 : (a : ℕ) → a < 2 → Touches (0 ∷ []) (graph_of (ends_at two_drains.arcs) a)
  touches_0 = below_two (λ a. Touches (0 ∷ []) (graph_of (ends_at two_drains.arcs) a)) (inl refl) (inl refl)

  nodes_are : (least : ℕ) (nodes numbers : List ℕ) → IsPiece 1 (graph_of (ends_at two_drains.arcs)) (basics two_drains.arcs mark) least nodes numbers → nodes ≡ 0 ∷ []
  nodes_are least nodes numbers p = one_alone 0 nodes p.nodes_once (subst (λ t. IsIn t nodes) (only least ((p.joined least).0 p.has_least).0) p.has_least) (λ v i. only v ((p.joined v).0 i).0)
    where
      only : (v : ℕ) → v < 1 → v ≡ 0
      only v l = omega arith

  numbers_are : (least : ℕ) (nodes numbers : List ℕ) → IsPiece 1 (graph_of (ends_at two_drains.arcs)) (basics two_drains.arcs mark) least nodes numbers → numbers ≡ b ∷ []
  numbers_are least nodes numbers p = one_alone b numbers p.arcs_once
      ((p.touched b).1 ((basics_hold two_drains.arcs mark b).1 (below, is_basic), subst (λ ns. Touches ns (graph_of (ends_at two_drains.arcs) b)) (sym (nodes_are least nodes numbers p)) (touches_0 b below)))
      (λ a i. let r = (basics_hold two_drains.arcs mark a).0 ((p.touched a).0 i).0 in only_basic a r.0 r.1)

  tree : IsQuasiTree ratios (0 ∷ []) (graph_of (ends_at two_drains.arcs) b ∷ [])
  tree = below_two (λ a. IsQuasiTree ratios (0 ∷ []) (graph_of (ends_at two_drains.arcs) a ∷ [])) (graph_examples.rooted ratios 0) (graph_examples.rooted ratios 0) b below

  forest : IsForest two_drains mark
  forest least nodes numbers p = subst (λ ns. IsQuasiTree ratios ns (map (graph_of (ends_at two_drains.arcs)) numbers)) (sym (nodes_are least nodes numbers p))
      (subst (λ xs. IsQuasiTree ratios (0 ∷ []) (map (graph_of (ends_at two_drains.arcs)) xs)) (sym (numbers_are least nodes numbers p)) tree)

  rows : (nodes numbers : List ℕ) (potential : ℕ → Ratio) → IsPart two_drains mark nodes numbers → PotentialsFit (ends_at two_drains.arcs) (cost_at two_drains.arcs) numbers potential
  rows nodes numbers potential p = subst (λ xs. PotentialsFit (ends_at two_drains.arcs) (cost_at two_drains.arcs) xs potential) (sym (numbers_are p.least nodes numbers p.is_piece))
      (one_end_fits (ends_at two_drains.arcs) (cost_at two_drains.arcs) b potential (below_two (λ a. graph.HasOneEnd (graph_of (ends_at two_drains.arcs) a)) (record {}) (record {}) b below))

sums_to_one : (x y : Ratio) → x +ᵣ y ≡ one_ratio → (zero_ratio +ᵣ one_ratio *ᵣ x) +ᵣ one_ratio *ᵣ y ≡ one_ratio
sums_to_one x y e = ap₂ (λ s t. (zero_ratio +ᵣ s) +ᵣ t) (one-*ᵣ x) (one-*ᵣ y) ∙ ap (λ s. s +ᵣ y) (zero-+ᵣ x) ∙ e

dear_marks : (a : ℕ) → a < 2 → (values_of by_dear).mark a ≡ marked.Basic → a ≡ 1
dear_marks zero l e = absurd cc
dear_marks (suc zero) l e = refl
dear_marks (suc (suc a)) l e = absurd (omega arith)

cheap_marks : (a : ℕ) → a < 2 → (values_of by_cheap).mark a ≡ marked.Basic → a ≡ 0
cheap_marks zero l e = refl
cheap_marks (suc zero) l e = absurd cc
cheap_marks (suc (suc a)) l e = absurd (omega arith)

dear_state : IsState two_drains by_dear
dear_state = record {
  one_mark_each = refl;
  one_potential_each = refl;
  feasible = record {
    one_each = refl;
    balanced = below_one (λ v. balance two_drains.arcs by_dear.flows v ≡ at two_drains.supply v) (sums_to_one zero_ratio one_ratio (zero-+ᵣ one_ratio));
    within = λ k z l. below_two (λ a. IsWithin (get_or (zip two_drains.arcs by_dear.flows) a z).0 (get_or (zip two_drains.arcs by_dear.flows) a z).1) (≤ᵣ_refl zero_ratio, record {}) (<ᵣ_is_≤ᵣ one_above, record {}) k l;
  };
  at_bounds = below_two (λ a. StandsAt (arc_at two_drains.arcs a) ((values_of by_dear).mark a) (at by_dear.flows a)) refl (record {});
  priced = λ a i. let r = (basics_hold two_drains.arcs (values_of by_dear).mark a).0 i in
      subst (λ t. price (values_of by_dear).potential (arc_at two_drains.arcs t) ≡ zero_ratio) (sym (dear_marks a r.0 r.1)) (+ᵣ-negated one_ratio);
  flows_fit = λ a i. let r = (basics_hold two_drains.arcs (values_of by_dear).mark a).0 i in subst (λ t. Fits (at by_dear.flows t)) (sym (dear_marks a r.0 r.1)) one_fits;
  potentials_fit = below_one (λ v. Fits (at by_dear.potentials v)) one_fits;
  forest = forest (values_of by_dear).mark 1 (omega arith) refl dear_marks;
  rows_fit = λ nodes numbers. rows (values_of by_dear).mark 1 (omega arith) refl dear_marks nodes numbers (values_of by_dear).potential;
}

cheap_state : IsState two_drains by_cheap
cheap_state = record {
  one_mark_each = refl;
  one_potential_each = refl;
  feasible = record {
    one_each = refl;
    balanced = below_one (λ v. balance two_drains.arcs by_cheap.flows v ≡ at two_drains.supply v) (sums_to_one one_ratio zero_ratio (+ᵣ-zero one_ratio));
    within = λ k z l. below_two (λ a. IsWithin (get_or (zip two_drains.arcs by_cheap.flows) a z).0 (get_or (zip two_drains.arcs by_cheap.flows) a z).1) (<ᵣ_is_≤ᵣ one_above, record {}) (≤ᵣ_refl zero_ratio, record {}) k l;
  };
  at_bounds = below_two (λ a. StandsAt (arc_at two_drains.arcs a) ((values_of by_cheap).mark a) (at by_cheap.flows a)) (record {}) refl;
  priced = λ a i. let r = (basics_hold two_drains.arcs (values_of by_cheap).mark a).0 i in
      subst (λ t. price (values_of by_cheap).potential (arc_at two_drains.arcs t) ≡ zero_ratio) (sym (cheap_marks a r.0 r.1)) (+ᵣ-negated zero_ratio);
  flows_fit = λ a i. let r = (basics_hold two_drains.arcs (values_of by_cheap).mark a).0 i in subst (λ t. Fits (at by_cheap.flows t)) (sym (cheap_marks a r.0 r.1)) one_fits;
  potentials_fit = below_one (λ v. Fits (at by_cheap.potentials v)) zero_fits;
  forest = forest (values_of by_cheap).mark 0 (omega arith) refl cheap_marks;
  rows_fit = λ nodes numbers. rows (values_of by_cheap).mark 0 (omega arith) refl cheap_marks nodes numbers (values_of by_cheap).potential;
}

-- ---- the pivot

abbrev entry : Entry
entry = record { enter = 0; leave = 1; leave_at = marked.Lower }

abbrev d : ℕ → Ratio
d zero = one_ratio
d (suc a) = negated one_ratio

back : one_ratio +ᵣ one_ratio *ᵣ negated one_ratio ≡ zero_ratio
back = ap (λ t. one_ratio +ᵣ t) (one-*ᵣ (negated one_ratio)) ∙ +ᵣ-negated one_ratio

forth : zero_ratio +ᵣ one_ratio *ᵣ one_ratio ≡ one_ratio
forth = ap (λ t. zero_ratio +ᵣ t) (one-*ᵣ one_ratio) ∙ zero-+ᵣ one_ratio

at_most_one : (z : Ratio) → zero_ratio ≤ᵣ one_ratio +ᵣ z *ᵣ negated one_ratio → z ≤ᵣ one_ratio
at_most_one z h =
    let e : (one_ratio +ᵣ z *ᵣ negated one_ratio) +ᵣ z ≡ one_ratio = ap (λ t. (one_ratio +ᵣ t) +ᵣ z) (algebra.times_negated ratios z one_ratio ∙ ap negated (*ᵣ-one z))
    ∙ +ᵣ_assoc one_ratio (negated z) z ∙ ap (λ t. one_ratio +ᵣ t) (algebra.negated_plus ratios z) ∙ +ᵣ-zero one_ratio in
    subst (λ t. z ≤ᵣ t) e (subst (λ t. t ≤ᵣ (one_ratio +ᵣ z *ᵣ negated one_ratio) +ᵣ z) (zero-+ᵣ z) (+ᵣ_at_most_left z h))

-- nothing stops the entering arc
free : (m : Mark) → Stops two_drains (values_of by_dear) d one_ratio 0 m → ⊥
free marked.Lower k = clash one_above k.towards
free marked.Upper k = k.rests
free marked.Basic k = k.towards

drain_sound : (cost : Ratio) → IsSoundArc 1 (drain_of cost)
drain_sound cost = record { joins = omega arith; gain = record {}; bounds = record {} }

sound : HasRealArcs two_drains 2
sound = record { sound = λ a other l. below_two (λ a. IsSoundArc 1 (get_or two_drains.arcs a other)) (drain_sound zero_ratio) (drain_sound one_ratio) a l; few = omega arith }

pub has_pivot : HasPivot
has_pivot = record {
  ground = sound;
  state = dear_state;
  pivot = record {
    eligible = record { is_open = (omega arith, record {}); gains = subst (λ t. t <ᵣ zero_ratio) (sym (zero-+ᵣ (negated one_ratio))) negated_one_below };
    direction = d;
    step = one_ratio;
    move = record {
      direction = record {
        enters = refl;
        only = λ a i k. elim i [ inl e ↦ inl e | inr j ↦ inr j ];
        balanced = λ v i. elim i [
          | inl e ↦ subst (λ u. balance_on two_drains (arc_numbers two_drains) d u ≡ zero_ratio) (sym e) (ap (λ t. t +ᵣ one_ratio *ᵣ negated one_ratio) forth ∙ back)
          | inr x ↦ absurd x
        ];
      };
      within = λ a i. elim i [
        | inl e ↦ subst (λ c. IsWithin (arc_at two_drains.arcs c) ((values_of by_dear).flow c +ᵣ one_ratio *ᵣ d c)) (sym e) (subst (λ t. zero_ratio ≤ᵣ t) (sym forth) (<ᵣ_is_≤ᵣ one_above), record {})
        | inr j ↦ elim j [
          | inl e ↦ subst (λ c. IsWithin (arc_at two_drains.arcs c) ((values_of by_dear).flow c +ᵣ one_ratio *ᵣ d c)) (sym e) (subst (λ t. zero_ratio ≤ᵣ t) (sym back) (≤ᵣ_refl zero_ratio), record {})
          | inr x ↦ absurd x
        ]
      ];
      greatest = λ z k. at_most_one z (k 1 (inr (inl refl))).0;
      leaves = inr (inl refl);
      stops = record { moves = λ e. clash negated_one_below (≤ᵣ_same (sym e)); towards = <ᵣ_is_≤ᵣ negated_one_below; rests = back };
      first = λ a m i k. elim i [
        | inl e ↦ absurd (free m (subst (λ c. Stops two_drains (values_of by_dear) d one_ratio c m) e k))
        | inr j ↦ elim j [ inl e ↦ inr ((λ f. let g : 0 ≡ 1 = sym f ∙ e in absurd (omega arith)), (let g : a ≡ 1 = e in omega arith)) | inr x ↦ absurd x ]
      ];
    };
    is_state = cheap_state;
    flows = below_two (λ a. at by_cheap.flows a ≡ at by_dear.flows a +ᵣ one_ratio *ᵣ d a) (sym forth) (sym back);
    marks = below_two (λ a. (values_of by_cheap).mark a ≡ mark_after entry (values_of by_dear).mark a) refl refl;
  };
}
