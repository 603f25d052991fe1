use Rattle.gain_graphs.proofs.Examples as theorems
use Rattle.gain_graphs.proofs.Three.{field_example}
use Rattle.gain_graphs.proofs.laws.examples.Goals as goal

pub returns-clause-rooted : goal.returns-clause-rooted
returns-clause-rooted g c = λ field. theorems.rooted field

pub returns-clause-cycle : goal.returns-clause-cycle
returns-clause-cycle g c = λ field. theorems.cycle field

pub returns-clause-field : goal.returns-clause-field
returns-clause-field g c = field_example
