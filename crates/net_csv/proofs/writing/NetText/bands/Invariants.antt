use Rattle.std.proofs.Common.{map, take}
use Rattle.np_records.specs.Texts.{records_text}
use Rattle.net_csv.specs.Steps.Writing.{GrowsBy}
use Rattle.net_csv.specs.Writing.{piece_row}
use Rattle.net_csv.proofs.writing.NetText.bands.Given as goal

abbrev pub invariant-loop-band : goal.invariant-loop-band
invariant-loop-band l = GrowsBy l.initial.self l.self (records_text (map (piece_row l.name) (take l.band-index l.bands)))
