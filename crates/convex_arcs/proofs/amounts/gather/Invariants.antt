use Rattle.np_frac.specs.Exact.{◌▷◌}
use Rattle.std.proofs.Common.{◌≡◌, ◌++◌, Ok, length, drop}
use Rattle.std.specs.Prelude.{sum_by}
use Rattle.period_expand.specs.Expansion.{segment_count}
use Rattle.convex_arcs.specs.Gathered.{gathered}
use Rattle.convex_arcs.proofs.amounts.gather.Given as goal

abbrev pub invariant-loop-staged : goal.invariant-loop-staged
invariant-loop-staged l = record {
  room : length l.rest ≡ sum_by segment_count (drop l.staged-index l.staged-items);
  found : gathered l.expanded.staged l.flows ≡ (gathered (drop l.staged-index l.staged-items) l.rest ▷ λ amounts. Ok (l.amounts.items ++ amounts));
}
