use Rattle.std.proofs.Common.{map, take}
use Rattle.std.specs.List.{All, enumerate_from}
use Rattle.np_frac.specs.Fits.{Fits}
use Rattle.np_records.specs.Texts.{records_text}
use Rattle.certificates.specs.Steps.Writing.{GrowsBy}
use Rattle.certificates.specs.Writing.{price_row}
use Rattle.certificates.proofs.writing.push_prices.Given as goal

abbrev pub invariant-loop-place : goal.invariant-loop-place
invariant-loop-place l = record {
  text : GrowsBy l.initial.text l.text (records_text (map (price_row l.scheme.nodes) (take l.place (enumerate_from 0 l.prices))));
  fits : All Fits (take l.place l.prices);
}
