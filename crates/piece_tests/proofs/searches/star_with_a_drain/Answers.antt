use Rattle.std.proofs.Common.{◌∙◌, sym}
use Rattle.np_frac.proofs.Field.{one-zero}
use Rattle.piece_tests.proofs.Starred.{star}
use Rattle.piece_tests.proofs.searches.star_with_a_drain.Goals as goal

pub find_extra-requires-clause-tree : goal.find_extra-requires-clause-tree
find_extra-requires-clause-tree g c = star c.whole-one.result c.whole-zero.result (λ e. one-zero (sym c.whole-one.ensures ∙ e))
