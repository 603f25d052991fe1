use Rattle.np_basis.proofs.Fulls.{full_is_sound, full_net_is_sound}
use Rattle.np_basis.proofs.laws.full_networks.Goals as goal

pub returns-clause-sound : goal.returns-clause-sound
returns-clause-sound c = full_is_sound

pub returns-clause-by_type : goal.returns-clause-by_type
returns-clause-by_type c = full_net_is_sound
