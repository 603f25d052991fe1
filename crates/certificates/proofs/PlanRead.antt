-- The plan that was read is the plan of the text.
use Rattle.std.specs.Prelude.{◌≡◌, ℕ, ◌≤◌, true, Some, Ok, List, length}
use Rattle.std.proofs.Common.{sym, ap, ◌∙◌, subst}
use Rattle.np_model.specs.declared.scheme.Scheme.{Scheme}
use Rattle.np_model.specs.declared.plan.Plan.{Plan}
use Rattle.np_model.specs.declared.plan.Verdict.{Verdict}
use Rattle.certificates.specs.Claims.{Claims, claims_of, outline_of}
use Rattle.certificates.specs.Faults.{is_complete}
use Rattle.certificates.specs.Grammar.{IsMadeOf, body_of}
use Rattle.certificates.specs.Steps.Texts.{IsWholeRead}
use Rattle.certificates.specs.Reading.{ReadsPlan}
use Rattle.certificates.proofs.PlanFacts.{plan-fits}

pub plan-read : (skip : ℕ) (scheme : Scheme) (rows : List (List (List ℕ))) (verdict : Verdict) (t : Claims) (plan : Plan) → IsWholeRead skip (outline_of scheme) rows verdict t
    → plan.verdict ≡ verdict → IsMadeOf scheme t plan → ReadsPlan skip scheme rows (Ok plan)
plan-read skip scheme rows verdict t plan h same made =
    let of_rows : IsMadeOf scheme (claims_of (outline_of scheme) (body_of rows)) plan = subst (λ (c : Claims). IsMadeOf scheme c plan) h.claims_are made in
    let done : is_complete plan.verdict (claims_of (outline_of scheme) (body_of rows)) ≡ true = rw (same, sym h.claims_are) h.complete in
    let few : length (claims_of (outline_of scheme) (body_of rows)).entries ≤ 1000000 = rw (sym h.claims_are) h.few in
    (h.fault, record { verdict = h.verdict_is ∙ ap Some (sym same); made = of_rows }, plan-fits scheme (body_of rows) plan of_rows done few)
