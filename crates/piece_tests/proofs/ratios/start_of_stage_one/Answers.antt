use Rattle.std.proofs.Common.{◌≡◌, ◌∙◌, [], ◌∷◌, refl, ap, true}
use Rattle.np_frac.specs.Ratio.{zero_ratio}
use Rattle.np_model.specs.Basis.Pieces.{PieceLists}
use Rattle.np_model.specs.declared.piece.Direction.{Direction}
use Rattle.ratio_test.specs.Asked.{AreWithin, IsOutside, IsAlong}
use Rattle.piece_tests.specs.declared.ratios.Alone.{Alone}
use Rattle.piece_tests.proofs.BetweenTwo.{supplies}
use Rattle.piece_tests.proofs.StageOne.{links, first_piece, second_piece, is_net, are_artificial, within, outside, along, same_of}
use Rattle.piece_tests.proofs.ratios.start_of_stage_one.Goals as goal

abbrev lists : Alone → PieceLists
lists p = record { nodes = (p.node, zero_ratio) ∷ []; basics = (p.arc, p.ends, p.flow) ∷ []; marks = p.first ∷ p.second ∷ [] }

pub invariant_of-full : goal.invariant_of-full
invariant_of-full c =
    let arcs : c.in_ok-arcs.arcs.items ≡ links = c.in_ok-arcs.ensures.items ∙ rw (c.arc.ensures, c.arc-2.ensures, c.whole.ensures, c.whole-one.ensures) refl in
    let supply : c.in_ok-supply.supply.items ≡ supplies = c.in_ok-supply.ensures.items ∙ rw c.whole-zero.ensures refl in
    record { valid = rw (supply, arcs) is_net }

pub invariant_of-full-2 : goal.invariant_of-full-2
invariant_of-full-2 c =
    let supply : c.in_ok-supply.supply.items ≡ supplies = c.in_ok-supply.ensures.items ∙ rw c.whole-zero.ensures refl in
    record { valid = rw (supply, c.in_ok-artificial.ensures.items) are_artificial }

pub ratio-requires-clause-within : goal.ratio-requires-clause-within
ratio-requires-clause-within c = λ κs.
    let arcs : c.in_ok-arcs.arcs.items ≡ links = c.in_ok-arcs.ensures.items ∙ rw (c.arc.ensures, c.arc-2.ensures, c.whole.ensures, c.whole-one.ensures) refl in
    let supply : c.in_ok-supply.supply.items ≡ supplies = c.in_ok-supply.ensures.items ∙ rw c.whole-zero.ensures refl in
    let p : lists c.node_alone-first.result ≡ first_piece = ap lists c.node_alone-first.ensures ∙ rw c.whole-one.ensures refl in
    let q : lists c.node_alone-second.result ≡ second_piece = ap lists c.node_alone-second.ensures ∙ rw c.whole-zero.ensures refl in
    same_of (λ net pieces. AreWithin net pieces) c.in_ok-supply.supply.items c.in_ok-arcs.arcs.items c.in_ok-artificial.artificial.items (lists c.node_alone-first.result) (lists c.node_alone-second.result)
    supply arcs c.in_ok-artificial.ensures.items p q within

pub ratio-requires-clause-outside : goal.ratio-requires-clause-outside
ratio-requires-clause-outside c = λ κs.
    let arcs : c.in_ok-arcs.arcs.items ≡ links = c.in_ok-arcs.ensures.items ∙ rw (c.arc.ensures, c.arc-2.ensures, c.whole.ensures, c.whole-one.ensures) refl in
    let supply : c.in_ok-supply.supply.items ≡ supplies = c.in_ok-supply.ensures.items ∙ rw c.whole-zero.ensures refl in
    let p : lists c.node_alone-first.result ≡ first_piece = ap lists c.node_alone-first.ensures ∙ rw c.whole-one.ensures refl in
    let q : lists c.node_alone-second.result ≡ second_piece = ap lists c.node_alone-second.ensures ∙ rw c.whole-zero.ensures refl in
    same_of (λ net pieces. IsOutside net pieces 1) c.in_ok-supply.supply.items c.in_ok-arcs.arcs.items c.in_ok-artificial.artificial.items (lists c.node_alone-first.result) (lists c.node_alone-second.result)
    supply arcs c.in_ok-artificial.ensures.items p q outside

pub ratio-requires-clause-along : goal.ratio-requires-clause-along
ratio-requires-clause-along c = λ κs.
    let arcs : c.in_ok-arcs.arcs.items ≡ links = c.in_ok-arcs.ensures.items ∙ rw (c.arc.ensures, c.arc-2.ensures, c.whole.ensures, c.whole-one.ensures) refl in
    let supply : c.in_ok-supply.supply.items ≡ supplies = c.in_ok-supply.ensures.items ∙ rw c.whole-zero.ensures refl in
    let p : lists c.node_alone-first.result ≡ first_piece = ap lists c.node_alone-first.ensures ∙ rw c.whole-one.ensures refl in
    let q : lists c.node_alone-second.result ≡ second_piece = ap lists c.node_alone-second.ensures ∙ rw c.whole-zero.ensures refl in
    let direction : Direction = record { enter = 1; up = true; steps = c.in_ok-steps.steps.items } in
    same_of (λ net pieces. IsAlong pieces direction) c.in_ok-supply.supply.items c.in_ok-arcs.arcs.items c.in_ok-artificial.artificial.items (lists c.node_alone-first.result) (lists c.node_alone-second.result)
    supply arcs c.in_ok-artificial.ensures.items p q
    (along direction refl refl (c.in_ok-steps.ensures.items ∙ rw (c.unit.ensures, c.unit-down.ensures) refl))
