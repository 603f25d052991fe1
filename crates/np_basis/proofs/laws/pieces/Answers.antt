use Rattle.np_basis.proofs.Cutting.{piece_exists, piece_is_unique}
use Rattle.np_basis.proofs.Reading.{pieces_are_sound, pieces_agree}
use Rattle.np_basis.proofs.laws.pieces.Goals as goal

pub returns-clause-exist : goal.returns-clause-exist
returns-clause-exist c = piece_exists

pub returns-clause-unique : goal.returns-clause-unique
returns-clause-unique c = piece_is_unique

pub returns-clause-sound : goal.returns-clause-sound
returns-clause-sound c = pieces_are_sound

pub returns-clause-agree : goal.returns-clause-agree
returns-clause-agree c = pieces_agree
