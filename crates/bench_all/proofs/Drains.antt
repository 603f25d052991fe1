-- Nodes that supply nothing are as many as their numbers, and their drains are artificial arcs.
use Rattle.std.proofs.Common.{◌≡◌, ℕ, refl, length, arith}
use Rattle.std.proofs.lemmas.List.FromFn.{length-map-range_with_len, get_or-map-range_with_len}
use Rattle.np_frac.specs.Ratio.{zero_ratio}
use Rattle.np_model.specs.declared.arc.Ends.TheVariants.{Drain}
use Rattle.np_model.specs.Basis.Artificial.{AreArtificial}
use Rattle.bench_all.specs.Nodes.{supplies, drains}

pub one_supply_each : (n : ℕ) → length (supplies n) ≡ n
one_supply_each n = length-map-range_with_len (λ _. zero_ratio) 0 n

pub drains_are_artificial : (n : ℕ) → AreArtificial n (drains n)
drains_are_artificial n = record {
  one_each = length-map-range_with_len Drain 0 n;
  at_nodes = λ v other below. rw (get_or-map-range_with_len Drain 0 n v v other below (omega arith)) refl;
}
