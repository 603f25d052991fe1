use Rattle.net_csv.proofs.Stands.{stands}
use Rattle.net_csv.proofs.laws.texts_stand_for_schemes.Goals as goal

pub returns : goal.returns
returns c = stands
