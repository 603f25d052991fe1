use Rattle.std.proofs.Common.{◌∙◌, sym, arith}
use Rattle.np_frac.proofs.Field.{one-zero}
use Rattle.piece_tests.proofs.BothWays.{both_ways, differ}
use Rattle.piece_tests.proofs.searches.extra_of_two.Goals as goal

pub find_extra-requires-clause-tree : goal.find_extra-requires-clause-tree
find_extra-requires-clause-tree c =
    both_ways c.whole-one.result c.whole-two.result c.whole-zero.result c.whole-one.ensures (λ e. one-zero (sym c.whole-one.ensures ∙ e))
    (λ e. differ 2 0 (λ f. absurd (omega (arith, f))) (sym c.whole-two.ensures ∙ e)) (λ e. differ 2 1 (λ f. absurd (omega (arith, f))) (sym c.whole-two.ensures ∙ e))
