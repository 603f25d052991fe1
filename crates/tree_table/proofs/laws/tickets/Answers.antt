use Rattle.tree_table.proofs.Tickets.{log_is_one}
use Rattle.tree_table.proofs.laws.tickets.Goals as goal

pub returns : goal.returns
returns c = log_is_one
