use Rattle.std.proofs.Common.{rules, ◌≡◌, None}
use Rattle.csv.specs.Records.{fields_of}
use Rattle.np_records.specs.Records.{field_of}
use Rattle.net_csv.specs.Fields.{fields_fault, used_fault, upper_fault, amount_fault}
use Rattle.np_records.specs.Names.{place_in}
use Rattle.net_csv.specs.Faults.{band_of}
use Rattle.net_csv.proofs.TakeFacts.{takes-last}
use Rattle.net_csv.proofs.draft.Draft.piece.Goals as goal

pub returns : goal.returns
returns c =
    let count : fields_fault 4 (fields_of c.args.row.now) ≡ None = search rules in
    let name : used_fault c.args.self.now.names (field_of (fields_of c.args.row.now) 1) ≡ None = search rules in
    let width : upper_fault (field_of (fields_of c.args.row.now) 2) ≡ None = search rules in
    let slope : amount_fault (field_of (fields_of c.args.row.now) 3) ≡ None = search rules in
    let place : c.in_ok-place.place ≡ place_in c.args.self.now.names (field_of (fields_of c.args.row.now) 1) = search rules in
    let band : record { width = c.in_ok-width.width; slope = c.in_ok-slope.slope } ≡ band_of (fields_of c.args.row.now) = search rules in
    takes-last c.band.result _ _ _ _ _ c.band.new.self _ count name width slope (rw (place, band) at c.band.ensures)
