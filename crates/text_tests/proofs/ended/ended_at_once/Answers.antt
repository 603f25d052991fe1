use Rattle.std.proofs.Common.{ap, ◌∙◌, ◌∷◌, []}
use Rattle.np_frac.specs.Ratio.{Ratio}
use Rattle.text_tests.proofs.AtOnce.{ends_at_once}
use Rattle.text_tests.proofs.ended.ended_at_once.Goals as goal

pub returns : goal.returns
returns c =
    ends_at_once c.examples.ensures c.args.scheme.now c.in_ok-potentials.potentials.items c.new-entries.result.items c.requires (c.in_ok-potentials.ensures.items ∙ ap (λ (r : Ratio). r ∷ []) c.whole.ensures) c.new-entries.ensures.items
