-- The expansion of the tests, a link with two bands between two nodes, is one.
use Rattle.std.specs.Prelude.{◌≡◌, ℕ, ◌<◌, ◌≤◌, pos, List, [], ◌∷◌, length}
use Rattle.std.proofs.Common.{arith}
use Rattle.std.proofs.lemmas.Int.{ints}
use Rattle.std.proofs.lemmas.List.Elements.{All-cons, All-nil}
use Rattle.np_frac.specs.Ratio.{Ratio, whole, ◌≤ᵣ◌, ◌<ᵣ◌}
use Rattle.np_model.specs.declared.arc.Ends.TheVariants.{Link}
use Rattle.np_model.specs.declared.arc.Upper.TheVariants.{Finite, Infinite}
use Rattle.np_model.specs.Scheme.Segments.{Stage}
use Rattle.period_expand.specs.Expansion.{IsSoundStage, IsExpansion}

abbrev pub stage : Stage
stage = record {
  flow = 0;
  period = 1;
  ends = Link 0 1 (whole (pos 1));
  lower = whole (pos 0);
  upper = Finite (whole (pos 10));
  cost = whole (pos 1);
  bands = record { width = Finite (whole (pos 5)); slope = whole (pos 3) } ∷ record { width = Infinite; slope = whole (pos 4) } ∷ [];
}

below : (a b : ℕ) → a < b → whole (pos a) <ᵣ whole (pos b)
unfolding whole
below a b h = record { cross = omega (arith, ints) }

at_most : (a b : ℕ) → a ≤ b → whole (pos a) ≤ᵣ whole (pos b)
unfolding whole
at_most a b h = record { cross = omega (arith, ints) }

sound : IsSoundStage 2 stage
sound = record {
  joins = (omega arith, omega arith, λ e. absurd (omega arith));
  gain = below 0 1 (omega arith);
  convex = (at_most 0 10 (omega arith), (at_most 1 3 (omega arith), below 0 5 (omega arith), (at_most 3 4 (omega arith), tt, tt)));
  reached = tt;
}

pub two_nodes : (supply : List Ratio) → length supply ≡ 2 → IsExpansion supply (stage ∷ [])
two_nodes supply two = record {
  few_nodes = omega arith;
  few_segments = omega arith;
  sound = rw two (All-cons (IsSoundStage 2) stage [] sound (All-nil (IsSoundStage 2)));
}
