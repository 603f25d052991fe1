use Rattle.std.proofs.Common.{map, take}
use Rattle.std.specs.List.{All, zip}
use Rattle.np_frac.specs.Fits.{Fits}
use Rattle.np_records.specs.Texts.{records_text}
use Rattle.np_model.specs.Scheme.Names.{flow_names}
use Rattle.certificates.specs.Steps.Writing.{GrowsBy}
use Rattle.certificates.specs.Writing.{staged_row}
use Rattle.certificates.proofs.writing.push_stages.Given as goal

abbrev pub invariant-loop-place : goal.invariant-loop-place
invariant-loop-place l = record {
  text : GrowsBy l.initial.text l.text (records_text (map (staged_row l.word (flow_names l.scheme.flows)) (take l.place (zip l.arcs l.amounts))));
  fits : All Fits (take l.place l.amounts);
}
