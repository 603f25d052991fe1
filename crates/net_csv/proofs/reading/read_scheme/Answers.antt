use Rattle.net_csv.proofs.Tails.{scheme-read}
use Rattle.net_csv.proofs.reading.read_scheme.Goals as goal

pub returns : goal.returns
returns c = scheme-read c.args.tail _ _ _ c.in_ok-scheme.scheme c.in_ok-draft.ensures c.in_ok-scheme.ensures
