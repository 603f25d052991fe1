-- The piece of the tests with two links between two nodes has the shape of one.
use Rattle.std.specs.Prelude.{◌≢◌, ℕ, zero, suc, ◌<◌, pos, unsigned_abs, [], ◌∷◌}
use Rattle.std.specs.List.Sorted.{IsStrictlyIncreasing}
use Rattle.std.proofs.Common.{sym, ap, ◌∙◌, inl, inr, arith}
use Rattle.gain_graphs.specs.Arcs.{IsIn}
use Rattle.gain_graphs.proofs.Examples as graph_examples
use Rattle.np_frac.specs.Ratio.{Ratio, whole}
use Rattle.np_model.specs.declared.arc.Ends.TheVariants.{Link}
use Rattle.np_model.specs.declared.log.Mark.{Mark}
use Rattle.np_model.specs.declared.log.Mark.TheVariants.{Lower, Upper, Basic}
use Rattle.np_model.specs.Basis.Graphs.{ratios}
use Rattle.np_model.specs.Basis.Pieces.{PieceLists}
use Rattle.quasi_tree.specs.Store.{IsHeld}

abbrev pub lists : PieceLists
lists = record {
  nodes = (0, whole (pos 5)) ∷ (1, whole (pos 3)) ∷ [];
  basics = (1, Link 0 1 (whole (pos 1)), whole (pos 7)) ∷ (4, Link 0 1 (whole (pos 2)), whole (pos 9)) ∷ [];
  marks = (2, Lower) ∷ (3, Upper) ∷ [];
}

differ : (a b : ℕ) → a ≢ b → whole (pos a) ≢ whole (pos b)
unfolding whole
differ a b apart e = apart (ap (λ (r : Ratio). unsigned_abs r.num) e)

rises : (a b : ℕ) → a < b → IsStrictlyIncreasing (a ∷ b ∷ [])
rises a b h zero l = h
rises a b h (suc k) l = absurd (omega arith)

others : (a : ℕ) → IsIn a (2 ∷ 3 ∷ []) → ¬ IsIn a (1 ∷ 4 ∷ [])
others a (inl e) (inl f) = absurd (omega (arith, e, f))
others a (inl e) (inr (inl f)) = absurd (omega (arith, e, f))
others a (inl e) (inr (inr none)) = none
others a (inr (inl e)) (inl f) = absurd (omega (arith, e, f))
others a (inr (inl e)) (inr (inl f)) = absurd (omega (arith, e, f))
others a (inr (inl e)) (inr (inr none)) = none
others a (inr (inr none)) j = none

at_bounds : (m : ℕ × Mark) → IsIn m lists.marks → m.1 ≢ Basic
at_bounds m (inl e) basic = absurd (cc (sym (ap (λ (k : ℕ × Mark). k.1) e) ∙ basic))
at_bounds m (inr (inl e)) basic = absurd (cc (sym (ap (λ (k : ℕ × Mark). k.1) e) ∙ basic))
at_bounds m (inr (inr none)) basic = none

pub is_held : IsHeld lists
is_held = record {
  stored = inr (record {
    nodes_ascend = rises 0 1 (omega arith);
    basics_ascend = rises 1 4 (omega arith);
    marks_ascend = rises 2 3 (omega arith);
    quasi_tree = graph_examples.cycle ratios (whole (pos 2)) (differ 2 0 (λ e. absurd (omega (arith, e)))) (differ 2 1 (λ e. absurd (omega (arith, e))));
    others = others;
    at_bounds = at_bounds;
  });
  few_nodes = omega arith;
  few_basics = omega arith;
  few_marks = omega arith;
}
