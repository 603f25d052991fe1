use Rattle.std.proofs.Common.{ℕ, List, [], ◌∷◌, ◌∙◌, ap, sym}
use Rattle.std.specs.String.{string_bytes}
use Rattle.std.proofs.lemmas.Slice.Eq.{bytes_eq-Decides}
use Rattle.netplan_top.proofs.WordFacts.{one_item, same_head}
use Rattle.netplan_top.proofs.words.is_word.Goals as goal

pub returns-then-words-eq1 : goal.returns-then-words-eq1
returns-then-words-eq1 c =
    let one = one_item string_bytes c.args.words.now c.index-words-0.result c.if-words-eq1.true c.index-words-0.is in
    let test = bytes_eq-Decides c.as_str.result.now (c.args.word.now) in (
      (λ yes. one ∙ ap (λ (t : List ℕ). t ∷ []) (sym c.as_str.ensures.value ∙ test.0 (sym c.eq.ensures ∙ yes))),
      (λ e. c.eq.ensures ∙ test.1 (c.as_str.ensures.value ∙ same_head _ _ (sym one ∙ e))),
    )
