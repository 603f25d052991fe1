use Rattle.np_basis.proofs.Starting.{start_is_artificial, start_is_state, start_is_singles, single_part}
use Rattle.np_basis.proofs.StartPieces.{start_piece_has_shape, start_piece_is_piece}
use Rattle.np_basis.proofs.laws.start.Goals as goal

pub returns-clause-artificial : goal.returns-clause-artificial
returns-clause-artificial c = start_is_artificial

pub returns-clause-is_state : goal.returns-clause-is_state
returns-clause-is_state c = start_is_state

pub returns-clause-singles : goal.returns-clause-singles
returns-clause-singles c = start_is_singles

pub returns-clause-parts : goal.returns-clause-parts
returns-clause-parts c = single_part

pub returns-clause-shape : goal.returns-clause-shape
returns-clause-shape c = start_piece_has_shape

pub returns-clause-piece : goal.returns-clause-piece
returns-clause-piece c = start_piece_is_piece
