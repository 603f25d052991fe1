use Rattle.std.proofs.Common.{map, take}
use Rattle.np_records.specs.Texts.{records_text}
use Rattle.net_csv.specs.Steps.Writing.{GrowsBy}
use Rattle.net_csv.specs.Writing.{node_row}
use Rattle.net_csv.proofs.writing.NetText.nodes.Given as goal

abbrev pub invariant-loop-name : goal.invariant-loop-name
invariant-loop-name l = GrowsBy l.initial.self l.self (records_text (map node_row (take l.name-index l.nodes)))
