use Rattle.quasi_tree.proofs.Starts.{flows_by_residuals, potentials_by_residuals, pieces_by_residuals}
use Rattle.quasi_tree.proofs.laws.starts.Goals as goal

pub returns-clause-flows : goal.returns-clause-flows
returns-clause-flows c = flows_by_residuals

pub returns-clause-potentials : goal.returns-clause-potentials
returns-clause-potentials c = potentials_by_residuals

pub returns-clause-pieces : goal.returns-clause-pieces
returns-clause-pieces c = pieces_by_residuals
