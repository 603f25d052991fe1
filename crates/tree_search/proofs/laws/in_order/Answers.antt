use Rattle.tree_search.proofs.Leading.{searches_are_in_order}
use Rattle.tree_search.proofs.laws.in_order.Goals as goal

pub returns : goal.returns
returns c = searches_are_in_order
