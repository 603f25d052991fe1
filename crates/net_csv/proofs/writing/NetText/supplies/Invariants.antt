use Rattle.std.proofs.Common.{take}
use Rattle.std.specs.List.{filter_map, enumerate_from}
use Rattle.np_records.specs.Texts.{records_text}
use Rattle.net_csv.specs.Steps.Writing.{GrowsBy}
use Rattle.net_csv.specs.Writing.{supply_row}
use Rattle.net_csv.proofs.writing.NetText.supplies.Given as goal

abbrev pub invariant-loop-place : goal.invariant-loop-place
invariant-loop-place l = GrowsBy l.initial.self l.self (records_text (filter_map (supply_row l.scheme.nodes) (enumerate_from 0 (take l.place l.scheme.supply))))
