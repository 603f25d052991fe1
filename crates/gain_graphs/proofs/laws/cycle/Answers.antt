use Rattle.gain_graphs.proofs.Theorems as theorems
use Rattle.gain_graphs.proofs.laws.cycle.Goals as goal

pub returns-clause-unique : goal.returns-clause-unique
returns-clause-unique g c = λ field. theorems.cycle_is_unique field

pub returns-clause-least_first : goal.returns-clause-least_first
returns-clause-least_first g c = λ field. theorems.least_first_exists field

pub returns-clause-in_one_way : goal.returns-clause-in_one_way
returns-clause-in_one_way g c = λ field. theorems.least_first_is_unique field

pub returns-clause-not_breakeven : goal.returns-clause-not_breakeven
returns-clause-not_breakeven g c = λ field. theorems.cycle_is_not_breakeven field
