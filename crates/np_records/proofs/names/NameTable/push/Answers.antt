use Rattle.np_records.proofs.NameFacts.{insert-name}
use Rattle.np_records.proofs.names.NameTable.push.Goals as goal

pub returns-clause-ok : goal.returns-clause-ok
returns-clause-ok c = rw (← c.self.view_is) (insert-name c.self.inside.names.keys c.insert.new.self.keys c.in_ok-name.name c.args.name.now
    c.in_ok-insert.ensures.keys c.in_ok-name.ensures.items (rw (← c.self.view_is) at c.requires))
