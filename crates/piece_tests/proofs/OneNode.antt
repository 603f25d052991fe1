-- A node alone with its artificial arc: a piece of its network, for the tests.
use Rattle.std.specs.Prelude.{◌≡◌, ◌<◌, ℕ, zero, suc, pos, List, [], ◌∷◌, length, slice_index_or}
use Rattle.std.proofs.Common.{refl, sym, subst, ◌∙◌, inl, inr, arith}
use Rattle.gain_graphs.specs.Arcs.{IsIn}
use Rattle.gain_graphs.specs.Arcs as graph
use Rattle.gain_graphs.specs.QuasiTrees.{LiesIn}
use Rattle.np_frac.specs.Ratio.{Ratio, zero_ratio, whole}
use Rattle.np_model.specs.declared.arc.Ends.{Ends}
use Rattle.np_model.specs.declared.arc.Ends.TheVariants.{Link, Drain, Feed}
use Rattle.np_model.specs.declared.log.Mark.{Mark}
use Rattle.np_model.specs.declared.phase.Phase.{Phase}
use Rattle.np_model.specs.declared.phase.Phase.TheVariants.{One, Two}
use Rattle.np_model.specs.Network.Flows.{Network}
use Rattle.np_model.specs.Network.Nets.{IsNet}
use Rattle.np_model.specs.Basis.Artificial.{AreArtificial, IsOneEndAt}
use Rattle.np_model.specs.Basis.Graphs.{ratios, graph_ends, ends_at}
use Rattle.np_model.specs.Basis.Phases.{with_artificial}
use Rattle.np_model.specs.Basis.Pieces.{PieceLists, HasShape}
use Rattle.np_model.specs.Basis.Sound.{IsInNet}
use Rattle.np_basis.proofs.Ascending.{rises, one_rises}
use Rattle.quasi_tree.specs.Store.{IsHeld}

pub net_is_sound : IsNet (zero_ratio ∷ []) []
net_is_sound = record { few_nodes = omega arith; few_arcs = omega arith; sound = λ k d l. absurd (omega arith) }

pub is_artificial : (e : Ends) → IsOneEndAt 0 e → AreArtificial 1 (e ∷ [])
is_artificial e h = record { one_each = refl; at_nodes = each }
  where
    each : (v : ℕ) (other : Ends) → v < 1 → IsOneEndAt v (slice_index_or (e ∷ []) v other)
    each zero other l = h
    each (suc v) other l = absurd (omega arith)

abbrev pub alone : Ends → PieceLists
alone e = record { nodes = (0, whole (pos 5)) ∷ []; basics = (0, e, zero_ratio) ∷ []; marks = [] }

only : (v : ℕ) → IsIn v (0 ∷ []) → v ≡ 0
only v = elim [ inl e ↦ e | inr i ↦ absurd i ]

lies : (e : Ends) → IsOneEndAt 0 e → LiesIn ratios (0 ∷ []) (graph_ends e)
lies (Link i j g) h = absurd h
lies (Drain i) h = inl h
lies (Feed i) h = inl h

one_end : (e : Ends) → IsOneEndAt 0 e → graph.HasOneEnd (graph_ends e)
one_end (Link i j g) h = absurd h
one_end (Drain i) h = record {}
one_end (Feed i) h = record {}

shape : (e : Ends) → IsOneEndAt 0 e → HasShape (alone e)
shape e h = record {
  nodes_ascend = one_rises 0;
  basics_ascend = one_rises 0;
  marks_ascend = rises [] (record {});
  quasi_tree = record {
    nodes_once = ((λ i. i), record {});
    some_node = (0, inl refl);
    ends_inside = λ a. elim [ inl m ↦ subst (LiesIn ratios (0 ∷ [])) (sym m) (lies e h) | inr i ↦ absurd i ];
    joined = λ u v i j. ([], only u i ∙ sym (only v j));
    as_many = refl;
    extra = inl (graph_ends e, inl refl, one_end e h);
  };
  others = λ a i. absurd i;
  at_bounds = λ m i. absurd i;
}

pub held : (e : Ends) → IsOneEndAt 0 e → IsHeld (alone e)
held e h = record { stored = inr (shape e h); few_nodes = omega arith; few_basics = omega arith; few_marks = omega arith }

in_any : (e : Ends) → IsOneEndAt 0 e → (net : Network) → length net.supply ≡ 1 → length net.arcs ≡ 1 → ends_at net.arcs 0 ≡ e → IsInNet net (alone e)
in_any e h net nodes arcs is = record {
  shape = shape e h;
  nodes = λ v i. subst (λ n. v < n) (sym nodes) (let m : v ≡ 0 = only v i in omega arith);
  basic = λ b. elim [
    | inl m ↦ subst (λ (t : ℕ × Ends × Ratio). (t.0 < length net.arcs) × (t.1 ≡ ends_at net.arcs t.0)) (sym m) (subst (λ n. 0 < n) (sym arcs) (omega arith), sym is)
    | inr i ↦ absurd i
  ];
  marked = λ a. ((λ i. absurd i), (λ r. r.1 (first a (subst (λ n. a < n) arcs r.0))));
}
  where
    first : (a : ℕ) → a < 1 → IsIn a (0 ∷ [])
    first zero l = inl refl
    first (suc a) l = absurd (omega arith)

pub in_net : (e : Ends) → IsOneEndAt 0 e → (phase : Phase) → IsInNet (with_artificial phase (record { supply = zero_ratio ∷ []; arcs = [] }) (e ∷ [])) (alone e)
in_net e h One = in_any e h (with_artificial One (record { supply = zero_ratio ∷ []; arcs = [] }) (e ∷ [])) refl refl refl
in_net e h Two = in_any e h (with_artificial Two (record { supply = zero_ratio ∷ []; arcs = [] }) (e ∷ [])) refl refl refl

-- lists and a network that are those
pub held_of : (e : Ends) → IsOneEndAt 0 e → (nodes : List (ℕ × Ratio)) (basics : List (ℕ × Ends × Ratio)) (marks : List (ℕ × Mark)) → nodes ≡ (alone e).nodes → basics ≡ (alone e).basics → marks ≡ []
    → IsHeld (record { nodes = nodes; basics = basics; marks = marks })
held_of e h nodes basics marks a b c =
    subst (λ n. IsHeld (record { nodes = n; basics = basics; marks = marks })) (sym a)
    (subst (λ l. IsHeld (record { nodes = (alone e).nodes; basics = l; marks = marks })) (sym b) (subst (λ l. IsHeld (record { nodes = (alone e).nodes; basics = (alone e).basics; marks = l })) (sym c) (held e h)))
