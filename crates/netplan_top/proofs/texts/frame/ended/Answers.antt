use Rattle.std.proofs.Common.{rules, ap, ◌≡◌, ◌∙◌, ◌++◌, ℕ, List}
use Rattle.std.proofs.lemmas.Result.{IfOk-weaker}
use Rattle.np_records.specs.Texts.{record_text}
use Rattle.netplan_top.specs.Texts.Frame.{end_record}
use Rattle.netplan_top.proofs.TextFacts.{two-more}
use Rattle.netplan_top.proofs.texts.frame.ended.Goals as goal

pub returns : goal.returns
returns c =
    let line : c.end.new.self.bytes ≡ c.args.text.bytes ++ record_text c.args.text.fields = search rules in
    let last : c.end-2.new.self.bytes ≡ c.end.new.self.bytes ++ record_text end_record = search rules in
    IfOk-weaker c.into_bytes.result _ _ (λ bytes e. e ∙ last ∙ ap (λ (l : List ℕ). l ++ record_text end_record) line ∙ two-more c.args.text.bytes c.args.text.fields end_record) c.into_bytes.ensures.text
