use Rattle.std.proofs.Common.{rules, ◌≡◌}
use Rattle.piece_tests.proofs.TwoLinks.{lists, is_held}
use Rattle.piece_tests.proofs.quasi.round.Goals as goal

pub of_lists-requires : goal.of_lists-requires
of_lists-requires c =
    let nodes : c.in_ok-from_slice.field-0.items ≡ lists.nodes = search rules in
    let basics : c.in_ok-from_slice-2.field-0.items ≡ lists.basics = search rules in
    let marks : c.in_ok-from_slice-3.field-0.items ≡ lists.marks = search rules in
    rw (nodes, basics, marks) is_held
