use Rattle.std.proofs.Common.{◌≡◌, ℕ, ◌-◌, ◌<◌, ◌≤◌, ◌++◌, filter}
use Rattle.std.specs.List.{range_with_len}
use Rattle.np_model.specs.Basis.Phases.{phase_net, real_arcs}
use Rattle.arc_pricing.specs.Prices.{is_eligible}
use Rattle.arc_pricing.specs.Candidates.{values_by, PriceFits}
use Rattle.arc_pricing.proofs.scan.scan.Given as goal

abbrev pub invariant-loop-arc : goal.invariant-loop-arc
invariant-loop-arc l = record {
  listed : l.found.items ≡ l.initial.found.items ++ filter (is_eligible (phase_net l.phase l.full) (real_arcs l.full) (values_by l.marks l.potentials)) (range_with_len l.start (l.arc - l.start));
  fit : (a : ℕ) → l.start ≤ a → a < l.arc → PriceFits (phase_net l.phase l.full) (real_arcs l.full) (values_by l.marks l.potentials) a;
}
