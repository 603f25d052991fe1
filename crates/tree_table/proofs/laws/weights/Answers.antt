use Rattle.tree_table.proofs.Deciding.{same_piece}
use Rattle.tree_table.proofs.Members.{member_there, others_left}
use Rattle.tree_table.proofs.laws.weights.Goals as goal

pub returns-clause-members : goal.returns-clause-members
returns-clause-members c = member_there same_piece

pub returns-clause-others : goal.returns-clause-others
returns-clause-others c = others_left same_piece
