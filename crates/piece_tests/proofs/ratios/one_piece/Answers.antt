use Rattle.std.proofs.Common.{◌≡◌, ◌∙◌, [], ◌∷◌, refl, sym, true}
use Rattle.np_frac.specs.Ratio.{zero_ratio}
use Rattle.np_model.specs.Network.Arcs.{is_at_most}
use Rattle.np_model.proofs.Tested.{at-most-so}
use Rattle.ratio_test.specs.Asked.{AreWithin, IsOutside}
use Rattle.piece_tests.proofs.BetweenTwo.{carried}
use Rattle.piece_tests.proofs.Single.{arcs_of, piece_of, is_net, are_artificial, within, outside, along, same_of}
use Rattle.piece_tests.proofs.ratios.one_piece.Goals as goal

pub invariant_of-full : goal.invariant_of-full
invariant_of-full c =
    let u = c.args.drain.now.upper in
    let w = c.args.feed.now in
    let arcs : c.in_ok-arcs.arcs.items ≡ arcs_of u w = c.in_ok-arcs.ensures.items ∙ rw (c.arc.ensures, c.arc-2.ensures) refl in
    let supply : c.in_ok-supply.supply.items ≡ zero_ratio ∷ [] = c.in_ok-supply.ensures.items ∙ rw c.whole-zero.ensures refl in
    let drain = carried u c.args.drain.now.flow c.args.drain.now.amount (sym c.is_allowed.ensures ∙ c.if-not-is_allowed.false) in
    let test : is_at_most zero_ratio w ≡ true = rw (← c.whole-zero.ensures) (sym c.is_at_least.ensures ∙ c.if-not-is_at_least.false) in
    record { valid = rw (supply, arcs) (is_net u w drain.bound (at-most-so zero_ratio w test)) }

pub invariant_of-full-2 : goal.invariant_of-full-2
invariant_of-full-2 c =
    let supply : c.in_ok-supply.supply.items ≡ zero_ratio ∷ [] = c.in_ok-supply.ensures.items ∙ rw c.whole-zero.ensures refl in
    record { valid = rw (supply, c.in_ok-artificial.ensures.items) are_artificial }

pub ratio-requires-clause-within : goal.ratio-requires-clause-within
ratio-requires-clause-within c = λ κs.
    let u = c.args.drain.now.upper in
    let w = c.args.feed.now in
    let arcs : c.in_ok-arcs.arcs.items ≡ arcs_of u w = c.in_ok-arcs.ensures.items ∙ rw (c.arc.ensures, c.arc-2.ensures) refl in
    let supply : c.in_ok-supply.supply.items ≡ zero_ratio ∷ [] = c.in_ok-supply.ensures.items ∙ rw c.whole-zero.ensures refl in
    let drain = carried u c.args.drain.now.flow c.args.drain.now.amount (sym c.is_allowed.ensures ∙ c.if-not-is_allowed.false) in
    let x = c.args.drain.now.flow in
    same_of (λ net pieces. AreWithin net pieces) u w x c.in_ok-supply.supply.items c.in_ok-arcs.arcs.items c.in_ok-artificial.artificial.items (piece_of x) supply arcs c.in_ok-artificial.ensures.items refl
    (within u w x drain.not_negative drain.at_most)

pub ratio-requires-clause-outside : goal.ratio-requires-clause-outside
ratio-requires-clause-outside c = λ κs.
    let u = c.args.drain.now.upper in
    let w = c.args.feed.now in
    let arcs : c.in_ok-arcs.arcs.items ≡ arcs_of u w = c.in_ok-arcs.ensures.items ∙ rw (c.arc.ensures, c.arc-2.ensures) refl in
    let supply : c.in_ok-supply.supply.items ≡ zero_ratio ∷ [] = c.in_ok-supply.ensures.items ∙ rw c.whole-zero.ensures refl in
    let x = c.args.drain.now.flow in
    same_of (λ net pieces. IsOutside net pieces 1) u w x c.in_ok-supply.supply.items c.in_ok-arcs.arcs.items c.in_ok-artificial.artificial.items (piece_of x) supply arcs c.in_ok-artificial.ensures.items refl
    (outside u w x)

pub ratio-requires-clause-along : goal.ratio-requires-clause-along
ratio-requires-clause-along c = λ κs.
    let drain = carried c.args.drain.now.upper c.args.drain.now.flow c.args.drain.now.amount (sym c.is_allowed.ensures ∙ c.if-not-is_allowed.false) in
    along c.args.drain.now.flow c.args.drain.now.amount (record { enter = 1; up = true; steps = c.in_ok-steps.steps.items }) refl refl
    (c.in_ok-steps.ensures.items ∙ rw c.unit.ensures refl) drain.moves
