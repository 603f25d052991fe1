-- Records stand for at most one plan.
use Rattle.std.specs.Prelude.{◌≡◌, ℕ, Some, List, Option}
use Rattle.std.proofs.Common.{refl, sym, ap, ◌∙◌}
use Rattle.np_model.specs.declared.scheme.Scheme.{Scheme}
use Rattle.np_model.specs.declared.plan.Plan.{Plan}
use Rattle.np_model.specs.declared.plan.Verdict.{Verdict}
use Rattle.np_model.specs.declared.rows.Overflow.{Overflow}
use Rattle.np_model.specs.declared.log.Entry.{Entry}
use Rattle.np_frac.specs.Ratio.{Ratio}
use Rattle.certificates.specs.Claims.{Claims, claims_of, outline_of}
use Rattle.certificates.specs.Grammar.{IsMadeOf, IsPlanOf, body_of, claimed_amount, claimed_flows, claimed_prices, claimed_ray, claimed_arc, claimed_overflow}

-- the plan of a verdict with these claims
abbrev pub plan_with : Scheme → Claims → Verdict → Plan
plan_with scheme t v = record {
  verdict = v;
  amount = claimed_amount v t;
  flows = claimed_flows v scheme t;
  prices = claimed_prices v t;
  ray = claimed_ray v scheme t;
  arc = claimed_arc v t;
  overflow = claimed_overflow v t;
  log = record { turned = t.turned; entries = t.entries };
}

-- a plan is its parts
plan-is : (p : Plan) (amount : Option Ratio) (flows prices ray : List Ratio) (arc : Option ℕ) (overflow : Option Overflow) (turned : Option ℕ) (entries : List Entry)
    → p.amount ≡ amount → p.flows ≡ flows → p.prices ≡ prices → p.ray ≡ ray → p.arc ≡ arc → p.overflow ≡ overflow → p.log.turned ≡ turned → p.log.entries ≡ entries
    → p ≡ record { verdict = p.verdict; amount = amount; flows = flows; prices = prices; ray = ray; arc = arc; overflow = overflow; log = record { turned = turned; entries = entries } }
plan-is p amount flows prices ray arc overflow turned entries a f x r b o t e = rw (sym a, sym f, sym x, sym r, sym b, sym o, sym t, sym e) refl

made-is : (scheme : Scheme) (t : Claims) (p : Plan) → IsMadeOf scheme t p → p ≡ plan_with scheme t p.verdict
made-is scheme t p m = plan-is p _ _ _ _ _ _ _ _ m.amount m.flows m.prices m.ray m.arc m.overflow m.turned m.entries

pub one-plan : (scheme : Scheme) (rows : List (List (List ℕ))) (first second : Plan) → IsPlanOf scheme rows first → IsPlanOf scheme rows second → first ≡ second
one-plan scheme rows first second a b =
    let t = claims_of (outline_of scheme) (body_of rows) in
    let both : Some first.verdict ≡ Some second.verdict = sym a.verdict ∙ b.verdict in
    let same : first.verdict ≡ second.verdict = cc both in
    made-is scheme t first a.made ∙ ap (plan_with scheme t) same ∙ sym (made-is scheme t second b.made)
