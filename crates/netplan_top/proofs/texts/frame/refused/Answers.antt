use Rattle.std.proofs.Common.{rules, ◌≡◌, ◌∙◌, ◌∷◌, [], codes, decimal}
use Rattle.std.proofs.lemmas.Result.{IfOk-weaker}
use Rattle.np_records.specs.Texts.{record_text}
use Rattle.netplan_top.proofs.TextFacts.{framed-is}
use Rattle.netplan_top.proofs.texts.frame.refused.Goals as goal

pub returns : goal.returns
returns c =
    let head : c.word-2.new.self.bytes ≡ record_text (codes "netplan-refused" ∷ codes "1" ∷ []) =
    c.in_ok-word-2.ensures.bytes ∙ c.in_ok-number.ensures.bytes ∙ c.in_ok-word.ensures.bytes ∙ c.in_ok-text.ensures.bytes in
    let whole : c.word-2.new.self.fields ≡ codes "fault" ∷ decimal c.args.place ∷ c.args.code.now ∷ [] = search rules in
    IfOk-weaker c.ended.result _ _ (λ text e. e ∙ framed-is _ _ _ _ head whole) c.ended.ensures
