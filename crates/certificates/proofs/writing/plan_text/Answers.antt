use Rattle.std.proofs.Common.{rules, ◌∙◌, ◌≡◌, [], subst}
use Rattle.std.proofs.lemmas.Result.{IfOk-weaker}
use Rattle.np_model.specs.declared.plan.Parts.{Parts}
use Rattle.np_model.specs.Scheme.Verdicts.{parts_of}
use Rattle.np_records.specs.Texts.{records_text}
use Rattle.certificates.specs.Writing.{plan_rows, told, told_parts, HasFractions}
use Rattle.certificates.proofs.WrittenRecords.{whole-text}
use Rattle.certificates.proofs.WrittenTexts.{text-back}
use Rattle.certificates.proofs.writing.plan_text.Goals as goal

written : (c : goal.After-into_bytes) → c.push_end.new.text.bytes ≡ records_text (plan_rows c.args.scheme.now c.args.plan.now c.args.log)
written c =
    let empty : c.new-text.result.bytes ≡ [] = search rules in
    let parts : c.parts-parts.result ≡ parts_of c.args.plan.now.verdict = c.parts-parts.ensures in
    whole-text c.args.scheme.now c.args.plan.now c.args.log c.push_head.new.text.bytes c.push_claim.new.text.bytes c.push_shown.new.text.bytes c.push_log.new.text.bytes c.push_end.new.text.bytes
    (rw empty at c.in_ok-push_head.ensures.bytes) (rw parts at c.in_ok-push_claim.ensures.text.bytes) (rw parts at c.in_ok-push_shown.ensures.text.bytes) c.in_ok-push_log.ensures.bytes c.in_ok-push_end.ensures.bytes

pub returns-clause-text : goal.returns-clause-text
returns-clause-text c = IfOk-weaker c.into_bytes.result _ _ (λ bytes e. e ∙ written c) c.into_bytes.ensures.text

-- what is told fits fractions, as the calls that wrote it found
fits : (c : goal.After-into_bytes) → HasFractions (told c.args.plan.now c.args.log)
fits c =
    let has : HasFractions (told_parts c.parts-parts.result c.args.plan.now c.args.log) = record {
      amount = c.in_ok-push_claim.ensures.amount;
      flows = c.in_ok-push_shown.ensures.flows;
      prices = c.in_ok-push_shown.ensures.prices;
      ray = c.in_ok-push_shown.ensures.ray;
      operands = c.in_ok-push_claim.ensures.operands;
    } in
    subst (λ (p : Parts). HasFractions (told_parts p c.args.plan.now c.args.log)) c.parts-parts.ensures has

pub returns-clause-read_back : goal.returns-clause-read_back
returns-clause-read_back c =
    IfOk-weaker c.into_bytes.result _ _ (λ bytes e. text-back c.args.scheme.now c.args.plan.now c.args.log bytes.items (e ∙ written c) c.requires.fits (fits c)) c.into_bytes.ensures.text

pub returns-clause-fractions : goal.returns-clause-fractions
returns-clause-fractions c = IfOk-weaker c.into_bytes.result _ _ (λ bytes e. fits c) c.into_bytes.ensures.text
