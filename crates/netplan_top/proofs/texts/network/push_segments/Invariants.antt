use Rattle.std.proofs.Common.{◌≡◌, [], ◌++◌, map, take}
use Rattle.std.specs.List.{enumerate_from}
use Rattle.np_records.specs.Texts.{records_text}
use Rattle.netplan_top.specs.Texts.Network.{arc_record, numbered_arcs}
use Rattle.netplan_top.proofs.texts.network.push_segments.Given as goal

abbrev pub invariant-loop-segment : goal.invariant-loop-segment
invariant-loop-segment l = record {
  closed : l.text.fields ≡ [];
  text : l.text.bytes ≡ l.initial.text.bytes ++ records_text (map (arc_record l.scheme.flows) (enumerate_from l.first (numbered_arcs l.staged (take l.segment l.arcs))));
}
