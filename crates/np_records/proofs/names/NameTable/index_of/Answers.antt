use Rattle.std.proofs.Common.{◌∙◌}
use Rattle.np_records.proofs.NameFacts.{position-place}
use Rattle.np_records.proofs.names.NameTable.index_of.Goals as goal

pub returns-clause-place : goal.returns-clause-place
returns-clause-place c = rw (← c.self.view_is) (c.get_index_of.ensures.index ∙ position-place c.args.name.now c.self.inside.names.keys)
