use Rattle.np_frac.proofs.Exactness.{plus_exact, minus_exact, times_exact, over_exact, fits_is, fits_so}
use Rattle.np_frac.proofs.Fitting.{plus_fits, minus_fits, times_fits, over_fits}
use Rattle.np_frac.proofs.laws.exact_answers.Goals as goal

pub returns-clause-plus : goal.returns-clause-plus
returns-clause-plus c = plus_exact

pub returns-clause-minus : goal.returns-clause-minus
returns-clause-minus c = minus_exact

pub returns-clause-times : goal.returns-clause-times
returns-clause-times c = times_exact

pub returns-clause-over : goal.returns-clause-over
returns-clause-over c = over_exact

pub returns-clause-fits : goal.returns-clause-fits
returns-clause-fits c = λ r. (fits_so r, fits_is r)

pub returns-clause-plus_fits : goal.returns-clause-plus_fits
returns-clause-plus_fits c = plus_fits

pub returns-clause-minus_fits : goal.returns-clause-minus_fits
returns-clause-minus_fits c = minus_fits

pub returns-clause-times_fits : goal.returns-clause-times_fits
returns-clause-times_fits c = times_fits

pub returns-clause-over_fits : goal.returns-clause-over_fits
returns-clause-over_fits c = over_fits
