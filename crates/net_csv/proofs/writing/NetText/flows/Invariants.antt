use Rattle.std.proofs.Common.{take}
use Rattle.std.specs.List.{flat_map}
use Rattle.np_records.specs.Texts.{records_text}
use Rattle.net_csv.specs.Steps.Writing.{GrowsBy}
use Rattle.net_csv.specs.Writing.{flow_rows}
use Rattle.net_csv.proofs.writing.NetText.flows.Given as goal

abbrev pub invariant-loop-flow : goal.invariant-loop-flow
invariant-loop-flow l = GrowsBy l.initial.self l.self (records_text (flat_map (flow_rows l.scheme.nodes) (take l.flow-index l.scheme.flows)))
