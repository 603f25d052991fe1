use Rattle.std.proofs.Common.{rules, ◌≡◌, ◌∙◌, ◌∷◌, [], codes}
use Rattle.std.proofs.lemmas.Result.{IfOk-weaker}
use Rattle.np_frac.specs.Text.{printed}
use Rattle.np_records.specs.Texts.{record_text}
use Rattle.netplan_top.proofs.TextFacts.{framed-is}
use Rattle.netplan_top.proofs.texts.checked.accepted_with.Goals as goal

pub returns : goal.returns
unfolding record_text
returns c =
    let head : c.fraction.new.self.bytes ≡ record_text (codes "netplan-check" ∷ codes "1" ∷ []) = search rules in
    let whole : c.fraction.new.self.fields ≡ codes "accepted" ∷ c.args.word.now ∷ printed c.args.amount ∷ [] = search rules in
    IfOk-weaker c.ended.result _ _ (λ text e. e ∙ framed-is _ _ _ _ head whole) c.ended.ensures
