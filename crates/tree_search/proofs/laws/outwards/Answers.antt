use Rattle.tree_search.proofs.Hanging.{searches_go_outwards}
use Rattle.tree_search.proofs.laws.outwards.Goals as goal

pub returns : goal.returns
returns c = searches_go_outwards
