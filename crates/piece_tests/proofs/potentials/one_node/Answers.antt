use Rattle.std.proofs.Common.{◌∙◌, [], ◌∷◌, refl, ap}
use Rattle.np_frac.specs.Ratio.{Ratio}
use Rattle.piece_tests.proofs.OneNode.{held_of}
use Rattle.piece_tests.proofs.potentials.one_node.Goals as goal

pub of_lists-piece-requires : goal.of_lists-piece-requires
of_lists-piece-requires c =
    held_of c.args.ends.now c.requires c.in_ok-nodes.nodes.items c.in_ok-basics.basics.items c.new-2.result.items
    (c.in_ok-nodes.ensures.items ∙ ap (λ (x : Ratio). (0, x) ∷ []) c.whole-five.ensures) (c.in_ok-basics.ensures.items ∙ rw c.whole-zero.ensures refl) c.new-2.ensures.items
