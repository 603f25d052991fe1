use Rattle.np_frac.proofs.TextTests.{number_tested, amount_tested, fraction_tested}
use Rattle.np_frac.proofs.laws.tested_texts.Goals as goal

pub returns-clause-number : goal.returns-clause-number
returns-clause-number c = number_tested

pub returns-clause-amount : goal.returns-clause-amount
returns-clause-amount c = amount_tested

pub returns-clause-fraction : goal.returns-clause-fraction
returns-clause-fraction c = fraction_tested
