use Rattle.std.proofs.Common.{rules, ◌≡◌, ◌∙◌, ◌∷◌, [], codes, decimal}
use Rattle.std.proofs.lemmas.Result.{IfOk-weaker}
use Rattle.np_records.specs.Texts.{record_text}
use Rattle.netplan_top.proofs.TextFacts.{framed-is}
use Rattle.netplan_top.proofs.texts.checked.rejected_at.Goals as goal

pub returns : goal.returns
unfolding record_text
returns c =
    let head : c.number.new.self.bytes ≡ record_text (codes "netplan-check" ∷ codes "1" ∷ []) = search rules in
    let whole : c.number.new.self.fields ≡ codes "rejected" ∷ c.args.word.now ∷ c.args.name.now ∷ decimal c.args.period ∷ [] = search rules in
    IfOk-weaker c.ended.result _ _ (λ text e. e ∙ framed-is _ _ _ _ head whole) c.ended.ensures
