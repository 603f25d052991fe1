-- A coefficient by its cases.
use Rattle.std.specs.Prelude.{◌≡◌, ◌≢◌, ℕ}
use Rattle.std.proofs.Common.{arith}
use Rattle.std.proofs.lemmas.Bool.Decides.{nat_tests}
use Rattle.np_frac.specs.Ratio.{Ratio, zero_ratio, one_ratio, negated}
use Rattle.np_model.specs.declared.arc.Ends.TheVariants.{Link, Drain, Feed}
use Rattle.np_model.specs.Network.Arcs.{coefficient}

pub coefficient_from : (from to v : ℕ) (gain : Ratio) → v ≡ from → coefficient (Link from to gain) v ≡ one_ratio
coefficient_from from to v gain e = grind (arith, nat_tests)

pub coefficient_to : (from to v : ℕ) (gain : Ratio) → v ≢ from → v ≡ to → coefficient (Link from to gain) v ≡ negated gain
coefficient_to from to v gain d e = grind (arith, nat_tests)

pub coefficient_off : (from to v : ℕ) (gain : Ratio) → v ≢ from → v ≢ to → coefficient (Link from to gain) v ≡ zero_ratio
coefficient_off from to v gain d e = grind (arith, nat_tests)

pub drain_at : (at v : ℕ) → v ≡ at → coefficient (Drain at) v ≡ one_ratio
drain_at at v e = grind (arith, nat_tests)

pub drain_off : (at v : ℕ) → v ≢ at → coefficient (Drain at) v ≡ zero_ratio
drain_off at v e = grind (arith, nat_tests)

pub feed_at : (at v : ℕ) → v ≡ at → coefficient (Feed at) v ≡ negated one_ratio
feed_at at v e = grind (arith, nat_tests)

pub feed_off : (at v : ℕ) → v ≢ at → coefficient (Feed at) v ≡ zero_ratio
feed_off at v e = grind (arith, nat_tests)
