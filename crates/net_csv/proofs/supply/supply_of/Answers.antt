use Rattle.std.proofs.Common.{◌≡◌, ◌∙◌, ℕ, ap, arith}
use Rattle.std.proofs.lemmas.List.FromFn.{map-range_with_len_more}
use Rattle.net_csv.specs.Network.{supply_from}
use Rattle.net_csv.proofs.supply.supply_of.Goals as goal

pub loop-place-preserved : goal.loop-place-preserved
loop-place-preserved c =
    let supplies = c.args.supplies.now in
    let place = c.loop-place.place in
    let here : c.at.result ≡ supply_from c.args.nodes supplies place =
    c.at.ensures supplies c.in_ok-amounts.ensures.filled ∙ ap (λ (n : ℕ). supply_from n supplies place) c.in_ok-amounts.ensures.nodes in
    let more = map-range_with_len_more (supply_from c.args.nodes supplies) 0 place place (omega arith) in
    let push = c.in_ok-push.ensures.items in
    let before = c.loop-place.invariant in
    cc
