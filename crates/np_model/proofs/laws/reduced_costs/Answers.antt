use Rattle.np_model.proofs.Pull.{reduced_by_ends, reduced_exactly}
use Rattle.np_model.proofs.laws.reduced_costs.Goals as goal

pub returns-clause-by_ends : goal.returns-clause-by_ends
returns-clause-by_ends c = reduced_by_ends

pub returns-clause-exact : goal.returns-clause-exact
returns-clause-exact c = reduced_exactly
