use Rattle.np_frac.proofs.ReadsBack.{printed_is_fraction, fraction_of_printed}
use Rattle.np_frac.proofs.laws.printed_forms.Goals as goal

pub returns-clause-fraction : goal.returns-clause-fraction
returns-clause-fraction c = printed_is_fraction

pub returns-clause-value : goal.returns-clause-value
returns-clause-value c = fraction_of_printed
