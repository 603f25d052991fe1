use Rattle.np_frac.proofs.Sums.{total_swap, exchange}
use Rattle.np_frac.proofs.laws.double_sums.Goals as goal

pub returns-clause-swap : goal.returns-clause-swap
returns-clause-swap g c = total_swap

pub returns-clause-exchange : goal.returns-clause-exchange
returns-clause-exchange g c = exchange
