use Rattle.std.proofs.Common.{sym, ◌∙◌, ◌<◌, arith, length}
use Rattle.net_csv.specs.Writing.{supply_row}
use Rattle.net_csv.proofs.WrittenTexts.{text-placed}
use Rattle.net_csv.proofs.writing.NetText.supplies.Goals as goal

pub loop-place-preserved : goal.loop-place-preserved
loop-place-preserved c =
    let supply = c.as_slice-amount-items.result.now in
    let within : c.loop-place.place < length supply = omega arith in
    let placed = text-placed (supply_row c.args.scheme.now.nodes) c.args.self.now.bytes supply c.loop-place.place c.amount-item.result within in
    let here = rw (sym c.amount-item.is) at placed in
    record {
      bytes = c.in_ok-supply.ensures.bytes ∙ rw c.loop-place.invariant.bytes (rw c.as_slice-amount-items.ensures at here);
      closed = c.in_ok-supply.ensures.closed;
    }
