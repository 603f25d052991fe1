use Rattle.std.proofs.Common.{ap, [], ◌∙◌}
use Rattle.certificates.specs.Claims.{Outline, claims_of}
use Rattle.certificates.proofs.NewClaims.{new-claims}
use Rattle.certificates.proofs.claims.Draft.new.Goals as goal

pub returns : goal.returns
returns c =
    new-claims (record { periods = c.index.inside.periods; nodes = c.index.inside.nodes; flows = c.index.inside.flows; last = c.index.inside.last.items }) _ _ _ _
    c.in_ok-flows.ensures c.in_ok-prices.ensures c.in_ok-ray.ensures c.new.ensures.items
    ∙ ap (λ (o : Outline). claims_of o []) c.index.view_is
