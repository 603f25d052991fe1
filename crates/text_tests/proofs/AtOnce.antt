-- The outcome of the tests: a node alone that lacks 5 ends infeasible at once.
use Rattle.std.specs.Prelude.{◌≡◌, negsuc, None, List, [], ◌∷◌, if◌then◌else◌}
use Rattle.std.proofs.Common.{refl, sym, ap, subst, ◌∙◌, arith}
use Rattle.np_frac.specs.Ratio.{Ratio, whole, zero_ratio, one_ratio, negated, is_below, same_numbers}
use Rattle.np_frac.proofs.RatioLaws.{minus-zero}
use Rattle.np_frac.proofs.Wholes.{whole_fits}
use Rattle.np_model.specs.declared.log.Entry.{Entry}
use Rattle.np_model.specs.declared.outcome.Outcome.TheVariants as outcome
use Rattle.np_model.specs.declared.scheme.Scheme.{Scheme}
use Rattle.np_model.specs.Network.Flows.{Network}
use Rattle.np_model.specs.Basis.Starts.{start_potential}
use Rattle.np_basis.specs.Laws.{node_alone}
use Rattle.np_runs.specs.Ended.{IsEnded}
use Rattle.np_runs.specs.Verdicts.{NodeAloneEnds}
use Rattle.convex_arcs.specs.Schemes.{net_of}
use Rattle.certificates.specs.Certificates.{HasEnded}

price_is : start_potential (node_alone (whole (negsuc 4))) 0 ≡ whole (negsuc 0)
unfolding whole negated
price_is =
    ap (λ (r : Ratio). if is_below r zero_ratio then negated one_ratio else one_ratio) (minus-zero (whole (negsuc 4)))
    ∙ same_numbers (negated one_ratio) (whole (negsuc 0)) refl refl

lacks : ¬ (whole (negsuc 4) ≡ zero_ratio)
unfolding whole
lacks e = absurd (cc (ap (λ (r : Ratio). r.num) e))

pub ends_at_once : NodeAloneEnds → (scheme : Scheme) (prices : List Ratio) (entries : List Entry) → net_of scheme ≡ node_alone (whole (negsuc 4))
    → prices ≡ whole (negsuc 0) ∷ [] → entries ≡ [] → HasEnded scheme (outcome.Infeasible prices (record { turned = None; entries = entries }))
ends_at_once law scheme prices entries alone prices_are none =
    let ended : IsEnded (node_alone (whole (negsuc 4))) 0 (outcome.Infeasible (start_potential (node_alone (whole (negsuc 4))) 0 ∷ []) (record { turned = None; entries = [] })) =
    law (whole (negsuc 4)) 0 (whole_fits (negsuc 4) (omega arith)) lacks
    in (
      0,
      subst (λ (net : Network). IsEnded net 0 (outcome.Infeasible prices (record { turned = None; entries = entries }))) (sym alone)
          (subst (λ (es : List Entry). IsEnded (node_alone (whole (negsuc 4))) 0 (outcome.Infeasible prices (record { turned = None; entries = es }))) (sym none)
          (subst (λ (p : List Ratio). IsEnded (node_alone (whole (negsuc 4))) 0 (outcome.Infeasible p (record { turned = None; entries = [] })))
          (ap (λ (r : Ratio). r ∷ []) price_is ∙ sym prices_are) ended)),
    )
