use Rattle.std.proofs.Common.{rules, ◌≡◌, ◌∷◌, Some, None}
use Rattle.csv.specs.Records.{fields_of}
use Rattle.np_records.specs.Faults.{unless}
use Rattle.net_csv.specs.Grammar.{is_header, periods_fault}
use Rattle.net_csv.specs.declared.refused.Code.TheVariants as code
use Rattle.net_csv.proofs.HeadFacts.{header-refused, periods-refused}
use Rattle.net_csv.proofs.reading.read_head.Goals as goal

pub returns-in-Err : goal.returns-in-Err
returns-in-Err c =
    let fault : unless (is_header (fields_of c.read.new.row)) code.Header ≡ Some c.in-Err.code = search rules in
    let found : c.args.records.now ≡ fields_of c.read.new.row ∷ c.read.new.self = search rules in
    header-refused c.args.records.now c.read.new.self (fields_of c.read.new.row) c.in-Err.code found fault

pub returns-in-Err-read_periods : goal.returns-in-Err-read_periods
returns-in-Err-read_periods c =
    let fault : periods_fault (fields_of c.read-2.new.row) ≡ Some c.in-Err-read_periods.code = search rules in
    let header : unless (is_header (fields_of c.read.new.row)) code.Header ≡ None = search rules in
    let found : c.args.records.now ≡ fields_of c.read.new.row ∷ c.read.new.self = search rules in
    let next : c.read.new.self ≡ fields_of c.read-2.new.row ∷ c.read-2.new.self = search rules in
    periods-refused c.args.records.now c.read.new.self c.read-2.new.self (fields_of c.read.new.row) (fields_of c.read-2.new.row) c.in-Err-read_periods.code found next header fault
