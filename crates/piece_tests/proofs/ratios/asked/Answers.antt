use Rattle.std.proofs.Common.{◌≡◌, ◌∙◌, [], ◌∷◌, refl, sym, ap}
use Rattle.np_frac.specs.Ratio.{zero_ratio}
use Rattle.np_model.specs.Basis.Pieces.{PieceLists}
use Rattle.ratio_test.specs.Asked.{AreWithin, IsOutside, IsAlong}
use Rattle.piece_tests.specs.declared.ratios.Alone.{Alone}
use Rattle.piece_tests.proofs.BetweenTwo.{arcs_of, supplies, first_piece, second_piece, is_net, are_artificial, within, outside, along, carried, same_of}
use Rattle.piece_tests.proofs.ratios.asked.Goals as goal

abbrev lists : Alone → PieceLists
lists p = record { nodes = (p.node, zero_ratio) ∷ []; basics = (p.arc, p.ends, p.flow) ∷ []; marks = p.first ∷ p.second ∷ [] }

pub invariant_of-full : goal.invariant_of-full
invariant_of-full c =
    let u = c.args.feed.now.upper in
    let v = c.args.drain.now.upper in
    let w = c.args.link.now.upper in
    let arcs : c.in_ok-arcs.arcs.items ≡ arcs_of u v w = c.in_ok-arcs.ensures.items ∙ rw (c.arc.ensures, c.arc-2.ensures, c.arc-3.ensures, c.there.ensures) refl in
    let supply : c.in_ok-supply.supply.items ≡ supplies = c.in_ok-supply.ensures.items ∙ rw c.whole-zero.ensures refl in
    let feed = carried u c.args.feed.now.flow c.args.feed.now.amount (sym c.is_allowed.ensures ∙ c.if-not-is_allowed.false) in
    let drain = carried v c.args.drain.now.flow c.args.drain.now.amount (sym c.is_allowed-else-not-is_allowed.ensures ∙ c.if-not-is_allowed-2.false) in
    record { valid = rw (supply, arcs) (is_net u v w feed.bound drain.bound (c.may_enter.ensures.bounds c.if-not-may_enter.false)) }

pub invariant_of-full-2 : goal.invariant_of-full-2
invariant_of-full-2 c =
    let supply : c.in_ok-supply.supply.items ≡ supplies = c.in_ok-supply.ensures.items ∙ rw c.whole-zero.ensures refl in
    record { valid = rw (supply, c.in_ok-artificial.ensures.items) are_artificial }

pub ratio-requires-clause-within : goal.ratio-requires-clause-within
ratio-requires-clause-within c = λ κs.
    let u = c.args.feed.now.upper in
    let v = c.args.drain.now.upper in
    let w = c.args.link.now.upper in
    let arcs : c.in_ok-arcs.arcs.items ≡ arcs_of u v w = c.in_ok-arcs.ensures.items ∙ rw (c.arc.ensures, c.arc-2.ensures, c.arc-3.ensures, c.there.ensures) refl in
    let supply : c.in_ok-supply.supply.items ≡ supplies = c.in_ok-supply.ensures.items ∙ rw c.whole-zero.ensures refl in
    let feed = carried u c.args.feed.now.flow c.args.feed.now.amount (sym c.is_allowed.ensures ∙ c.if-not-is_allowed.false) in
    let drain = carried v c.args.drain.now.flow c.args.drain.now.amount (sym c.is_allowed-else-not-is_allowed.ensures ∙ c.if-not-is_allowed-2.false) in
    let x = c.args.feed.now.flow in
    let y = c.args.drain.now.flow in
    let m = c.args.link.now.mark in
    let p : lists c.first_node-first.result ≡ first_piece x m = ap lists c.first_node-first.ensures in
    let q : lists c.second_node-second.result ≡ second_piece y m = ap lists c.second_node-second.ensures in
    same_of (λ net pieces. AreWithin net pieces) u v w x y m c.in_ok-supply.supply.items c.in_ok-arcs.arcs.items c.in_ok-artificial.artificial.items (lists c.first_node-first.result) (lists c.second_node-second.result)
    supply arcs c.in_ok-artificial.ensures.items p q
    (within u v w x y m (c.may_enter.ensures.not_basic c.if-not-may_enter.false) feed.not_negative feed.at_most drain.not_negative drain.at_most)

pub ratio-requires-clause-outside : goal.ratio-requires-clause-outside
ratio-requires-clause-outside c = λ κs.
    let u = c.args.feed.now.upper in
    let v = c.args.drain.now.upper in
    let w = c.args.link.now.upper in
    let arcs : c.in_ok-arcs.arcs.items ≡ arcs_of u v w = c.in_ok-arcs.ensures.items ∙ rw (c.arc.ensures, c.arc-2.ensures, c.arc-3.ensures, c.there.ensures) refl in
    let supply : c.in_ok-supply.supply.items ≡ supplies = c.in_ok-supply.ensures.items ∙ rw c.whole-zero.ensures refl in
    let x = c.args.feed.now.flow in
    let y = c.args.drain.now.flow in
    let m = c.args.link.now.mark in
    let p : lists c.first_node-first.result ≡ first_piece x m = ap lists c.first_node-first.ensures in
    let q : lists c.second_node-second.result ≡ second_piece y m = ap lists c.second_node-second.ensures in
    let n = c.may_enter.ensures.not_basic c.if-not-may_enter.false in
    rw c.in_ok-direction.ensures.enter
    (same_of (λ net pieces. IsOutside net pieces 2) u v w x y m c.in_ok-supply.supply.items c.in_ok-arcs.arcs.items c.in_ok-artificial.artificial.items (lists c.first_node-first.result) (lists c.second_node-second.result)
    supply arcs c.in_ok-artificial.ensures.items p q
    (outside u v w x y m n (c.may_enter.ensures.finite c.if-not-may_enter.false)))

pub ratio-requires-clause-along : goal.ratio-requires-clause-along
ratio-requires-clause-along c = λ κs.
    let u = c.args.feed.now.upper in
    let v = c.args.drain.now.upper in
    let w = c.args.link.now.upper in
    let arcs : c.in_ok-arcs.arcs.items ≡ arcs_of u v w = c.in_ok-arcs.ensures.items ∙ rw (c.arc.ensures, c.arc-2.ensures, c.arc-3.ensures, c.there.ensures) refl in
    let supply : c.in_ok-supply.supply.items ≡ supplies = c.in_ok-supply.ensures.items ∙ rw c.whole-zero.ensures refl in
    let feed = carried u c.args.feed.now.flow c.args.feed.now.amount (sym c.is_allowed.ensures ∙ c.if-not-is_allowed.false) in
    let drain = carried v c.args.drain.now.flow c.args.drain.now.amount (sym c.is_allowed-else-not-is_allowed.ensures ∙ c.if-not-is_allowed-2.false) in
    let x = c.args.feed.now.flow in
    let y = c.args.drain.now.flow in
    let m = c.args.link.now.mark in
    let p : lists c.first_node-first.result ≡ first_piece x m = ap lists c.first_node-first.ensures in
    let q : lists c.second_node-second.result ≡ second_piece y m = ap lists c.second_node-second.ensures in
    let n = c.may_enter.ensures.not_basic c.if-not-may_enter.false in
    same_of (λ net pieces. IsAlong pieces c.in_ok-direction.direction) u v w x y m c.in_ok-supply.supply.items c.in_ok-arcs.arcs.items c.in_ok-artificial.artificial.items (lists c.first_node-first.result) (lists c.second_node-second.result)
    supply arcs c.in_ok-artificial.ensures.items p q
    (along u v w x y m n c.args.feed.now.amount c.args.drain.now.amount c.args.link.now.up c.in_ok-direction.direction
    c.in_ok-direction.ensures.enter c.in_ok-direction.ensures.up c.in_ok-direction.ensures.steps feed.moves drain.moves)
