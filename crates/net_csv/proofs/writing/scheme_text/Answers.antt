use Rattle.std.proofs.Common.{rules, ◌∙◌, ◌≡◌, []}
use Rattle.std.proofs.lemmas.Result.{IfOk-weaker}
use Rattle.np_records.specs.Texts.{records_text}
use Rattle.net_csv.specs.Writing.{rows_of}
use Rattle.net_csv.proofs.WrittenTexts.{whole-text, read-back}
use Rattle.net_csv.proofs.writing.scheme_text.Goals as goal

written : (c : goal.After-into_bytes) → c.last.new.self.bytes ≡ records_text (rows_of c.args.scheme.now)
written c =
    let empty : c.new-text.result.bytes ≡ [] = search rules in
    whole-text c.args.scheme.now c.head.new.self.bytes c.nodes.new.self.bytes c.supplies.new.self.bytes c.flows.new.self.bytes c.last.new.self.bytes
    (rw empty at c.in_ok-head.ensures.bytes) c.in_ok-nodes.ensures.bytes c.in_ok-supplies.ensures.bytes c.in_ok-flows.ensures.bytes c.in_ok-last.ensures.bytes

pub returns-clause-text : goal.returns-clause-text
returns-clause-text c = IfOk-weaker c.into_bytes.result _ _ (λ bytes e. e ∙ written c) c.into_bytes.ensures

pub returns-clause-read_back : goal.returns-clause-read_back
returns-clause-read_back c = IfOk-weaker c.into_bytes.result _ _ (λ bytes e. read-back c.args.scheme.now bytes.items (e ∙ written c)) c.into_bytes.ensures
