use Rattle.std.proofs.Common.{rules, sym, ◌≡◌, [], ◌∷◌}
use Rattle.np_frac.specs.Ratio.{zero_ratio, one_ratio}
use Rattle.np_model.specs.declared.arc.Ends.TheVariants.{Drain, Feed}
use Rattle.piece_tests.proofs.FirstStart.{net, is_net, artificial, flows}
use Rattle.piece_tests.proofs.quasi.first_start.Goals as goal

pub invariant_of-drop : goal.invariant_of-drop
invariant_of-drop c =
    let supply : c.in_ok-from_slice.field-0.items ≡ net.supply = search rules in
    let arcs : c.in_ok-from_slice-2.field-0.items ≡ net.arcs = search rules in
    record { valid = rw (supply, arcs) is_net }

pub returns-clause-artificial : goal.returns-clause-artificial
returns-clause-artificial c =
    let supply : c.in_ok-from_slice.field-0.items ≡ net.supply = search rules in
    let arcs : c.in_ok-from_slice-2.field-0.items ≡ net.arcs = search rules in
    let ends : c.in_ok-from_slice-3.field-0.items ≡ Feed 0 ∷ Drain 1 ∷ [] = search rules in
    rw (ends, supply, arcs) (sym artificial)

pub returns-clause-flows : goal.returns-clause-flows
returns-clause-flows c =
    let supply : c.in_ok-from_slice.field-0.items ≡ net.supply = search rules in
    let arcs : c.in_ok-from_slice-2.field-0.items ≡ net.arcs = search rules in
    let carried : c.in_ok-from_slice-4.field-0.items ≡ zero_ratio ∷ zero_ratio ∷ one_ratio ∷ zero_ratio ∷ [] = search rules in
    rw (carried, supply, arcs) (sym flows)
