use Rattle.std.proofs.Common.{rules, ◌≡◌, [], ◌∷◌, length}
use Rattle.model_tests.proofs.TwoNodes.{stage, two_nodes}
use Rattle.model_tests.proofs.segments.two_nodes.Goals as goal

pub invariant_of-result : goal.invariant_of-result
invariant_of-result c =
    let two : length c.in_ok-from_slice-2.field-0.items ≡ 2 = search rules in
    let arcs : c.push.new.self.items ≡ stage ∷ [] = search rules in
    record { valid = rw arcs (two_nodes c.in_ok-from_slice-2.field-0.items two) }
