-- What no record claims.
use Rattle.std.specs.Prelude.{◌≡◌, ◌*◌, Option, None, List, [], length, replicate, codes}
use Rattle.std.proofs.Common.{refl, ◌∙◌}
use Rattle.np_frac.specs.Ratio.{Ratio}
use Rattle.np_model.specs.declared.log.Entry.{Entry}
use Rattle.certificates.specs.Claims.{Outline, claims_of}
use Rattle.certificates.proofs.Found.{amounts-none}

pub new-claims : (o : Outline) (flows prices ray : List (Option Ratio)) (entries : List Entry) → flows ≡ replicate (o.periods * length o.flows) None
    → prices ≡ replicate (o.periods * length o.nodes) None → ray ≡ replicate (o.periods * length o.flows) None → entries ≡ []
    → record { cost = None; gap = None; arc = None; overflow = None; flows = flows; prices = prices; ray = ray; turned = None; entries = entries } ≡ claims_of o []
unfolding claims_of
new-claims o flows prices ray entries a b c d =
    let flows_none = amounts-none (o.periods * length o.flows) (codes "flow") o.flows o.periods refl in
    let prices_none = amounts-none (o.periods * length o.nodes) (codes "price") o.nodes o.periods refl in
    let ray_none = amounts-none (o.periods * length o.flows) (codes "ray") o.flows o.periods refl in
    rw (a ∙ flows_none, b ∙ prices_none, c ∙ ray_none, d) refl
