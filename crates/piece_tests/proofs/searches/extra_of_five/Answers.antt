use Rattle.piece_tests.proofs.FiveTree.{five_tree}
use Rattle.piece_tests.proofs.searches.extra_of_five.Goals as goal

pub find_extra-requires-clause-tree : goal.find_extra-requires-clause-tree
find_extra-requires-clause-tree c =
    rw (c.whole-one.ensures, c.whole-two.ensures, c.whole-zero.ensures) five_tree
