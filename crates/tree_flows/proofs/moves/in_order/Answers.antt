use Rattle.std.proofs.Common.{ℕ, rules}
use Rattle.std.proofs.lemmas.List.Sorted.{IsNonDecreasingBy-from_sort_by_key}
use Rattle.np_frac.specs.Ratio.{Ratio}
use Rattle.tree_flows.proofs.moves.in_order.Goals as goal

pub returns-clause-ascend : goal.returns-clause-ascend
returns-clause-ascend c = IsNonDecreasingBy-from_sort_by_key (λ (step : ℕ × Ratio). step.0) _ c.sort_unstable_by_key.ensures.sorted (λ a r q k. search rules)
