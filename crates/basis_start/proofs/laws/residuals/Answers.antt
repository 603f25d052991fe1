use Rattle.basis_start.proofs.Residuals.{residual_exact, residual_fits}
use Rattle.basis_start.proofs.laws.residuals.Goals as goal

pub returns-clause-exact : goal.returns-clause-exact
returns-clause-exact c = residual_exact

pub returns-clause-fit : goal.returns-clause-fit
returns-clause-fit c = residual_fits
