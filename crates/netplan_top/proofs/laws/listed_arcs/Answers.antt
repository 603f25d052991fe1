use Rattle.netplan_top.proofs.NetFacts.{listed-arcs, listed-count}
use Rattle.netplan_top.proofs.laws.listed_arcs.Goals as goal

pub returns-clause-arcs : goal.returns-clause-arcs
returns-clause-arcs c = listed-arcs

pub returns-clause-count : goal.returns-clause-count
returns-clause-count c = listed-count
