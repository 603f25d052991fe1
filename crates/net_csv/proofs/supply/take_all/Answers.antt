use Rattle.std.proofs.Common.{rules, ◌≡◌, ◌-◌, ◌<◌, ◌≤◌, ◌∷◌, ◌∙◌, length, ap, sym}
use Rattle.std.specs.Prelude.{drop}
use Rattle.net_csv.specs.declared.given.Given.{Given}
use Rattle.net_csv.proofs.SupplyFacts.{drop-back}
use Rattle.net_csv.proofs.supply.take_all.Goals as goal

pub loop-place-preserved : goal.loop-place-preserved
loop-place-preserved c =
    let k = c.loop-place.place in
    let some : 0 < k = search rules in
    let within : k ≤ length c.args.supplies.now = search rules in
    let next : drop (k - 1) c.args.supplies.now ≡ c.index-supplies-place.result ∷ drop k c.args.supplies.now =
    drop-back c.args.supplies.now k _ some within ∙ ap (λ (g : Given). g ∷ drop k c.args.supplies.now) (sym c.index-supplies-place.is) in
    (rw next (c.take.ensures.filled _ c.loop-place.invariant.0), c.take.ensures.periods ∙ c.loop-place.invariant.1, c.take.ensures.nodes ∙ c.loop-place.invariant.2)
