-- The records that are written for a plan have no fault, and are those of the parts that were written.
use Rattle.std.specs.Prelude.{◌≡◌, ℕ, ◌*◌, ◌&&◌, ◌||◌, Bool, true, false, IsTrue, Option, Some, None, IsSome, IfSome, IsSomeAnd, List, [], ◌∷◌, ◌++◌, length, replicate, codes, if◌then◌else◌}
use Rattle.std.specs.List.{All}
use Rattle.std.proofs.Common.{refl, sym, ap, subst}
use Rattle.std.proofs.lemmas.List.{length-map}
use Rattle.np_frac.specs.Ratio.{Ratio}
use Rattle.np_frac.specs.Fits.{Fits}
use Rattle.np_model.specs.declared.scheme.Scheme.{Scheme}
use Rattle.np_model.specs.declared.log.Entry.{Entry}
use Rattle.np_model.specs.declared.log.Log.{Log}
use Rattle.np_model.specs.declared.plan.Plan.{Plan}
use Rattle.np_model.specs.declared.plan.Parts.{Parts}
use Rattle.np_model.specs.Scheme.Fits.{IsShortNumber, LogFits, PlanFits}
use Rattle.np_model.specs.Scheme.Verdicts.{verdict_word, parts_of}
use Rattle.certificates.specs.Claims.{Outline, Claims, outline_of, claims_of}
use Rattle.certificates.specs.Faults.{is_there, is_complete}
use Rattle.certificates.specs.Grammar.{plan_fault, staged_amounts, node_amounts, IsMadeOf, IsPlanOf}
use Rattle.certificates.specs.Steps.Texts.{IsWholeRead}
use Rattle.certificates.specs.Writing.{staged_rows, price_rows, log_rows, part_if, list_if, claim_rows, shown_rows, inner_rows, plan_rows, told, HasFractions}
use Rattle.certificates.proofs.Found.{amounts-none}
use Rattle.certificates.proofs.OutlineFacts.{outline-is}
use Rattle.certificates.proofs.PlanFacts.{HasPlace}
use Rattle.certificates.proofs.WrittenWords.{verdict-back}
use Rattle.certificates.proofs.WrittenSteps.{runs-cost, runs-gap, runs-arc, runs-overflow, runs-log}
use Rattle.certificates.proofs.WrittenAmounts.{runs-flows, runs-ray, runs-prices}
use Rattle.certificates.proofs.Runs.{Runs, runs-append, runs-whole}

-- ---- nothing is claimed at the start

record IsNew (scheme : Scheme) (t : Claims) : Type 0 where
  cost : t.cost ≡ None
  gap : t.gap ≡ None
  arc : t.arc ≡ None
  overflow : t.overflow ≡ None
  flows : t.flows ≡ replicate (scheme.periods * length scheme.flows) None
  prices : t.prices ≡ replicate (scheme.periods * length scheme.nodes) None
  ray : t.ray ≡ replicate (scheme.periods * length scheme.flows) None
  turned : t.turned ≡ None
  entries : t.entries ≡ []

new-claims : (scheme : Scheme) → IsNew scheme (claims_of (outline_of scheme) [])
unfolding claims_of
new-claims scheme =
    let o = outline_of scheme in
    let names : scheme.periods * length scheme.flows ≡ o.periods * length o.flows = ap (λ (n : ℕ). scheme.periods * n) (sym (length-map scheme.flows _)) in
    record {
      cost = refl;
      gap = refl;
      arc = refl;
      overflow = refl;
      flows = sym (amounts-none (scheme.periods * length scheme.flows) (codes "flow") o.flows o.periods names);
      prices = sym (amounts-none (scheme.periods * length scheme.nodes) (codes "price") o.nodes o.periods refl);
      ray = sym (amounts-none (scheme.periods * length scheme.flows) (codes "ray") o.flows o.periods names);
      turned = refl;
      entries = refl;
    }

-- ---- parts that are printed

module _ {X : Type 0} (P : X → Type 0) where
  -- a part that is there has the property where it is printed
  part-has : (b : Bool) (o : Option X) → (IsTrue b → IsSomeAnd o P) → IfSome (part_if b o) P
  part-has true None h = tt
  part-has true (Some x) h = h refl
  part-has false o h = tt

  -- a part that one of two prints
  either-left : (a b : Bool) (o : Option X) → IfSome (part_if (a || b) o) P → IfSome (part_if a o) P
  either-left true b o h = h
  either-left false b o h = tt

  either-right : (a b : Bool) (o : Option X) → IfSome (part_if (a || b) o) P → IfSome (part_if b o) P
  either-right true true o h = h
  either-right true false o h = tt
  either-right false true o h = h
  either-right false false o h = tt

  all-if : (b : Bool) (xs : List X) → All P (list_if b xs) → IsTrue b → All P xs
  all-if true xs h asked = h
  all-if false xs h asked = absurd (cc asked)

  some-of : (o : Option X) → IsSomeAnd o P → IsSome o
  some-of None h = absurd h
  some-of (Some x) h = refl

there-if : {X : Type 0} (b : Bool) (o : Option X) → (IsTrue b → IsSome o) → is_there b (part_if b o) ≡ true
there-if true None h = absurd (cc (h refl))
there-if true (Some x) h = refl
there-if false o h = refl

all-four : (a b c d : Bool) → a ≡ true → b ≡ true → c ≡ true → d ≡ true → (a && b && c && d) ≡ true
all-four a b c d ha hb hc hd = rw (ha, hb, hc, hd) refl

left-true : (a b : Bool) → IsTrue a → IsTrue (a || b)
left-true a b h = rw h refl

right-true : (a b : Bool) → IsTrue b → IsTrue (a || b)
right-true true b h = refl
right-true false b h = h

part-again : {X : Type 0} (b : Bool) (o : Option X) → part_if b o ≡ part_if b (part_if b o)
part-again true o = refl
part-again false o = refl

either-again : {X : Type 0} (a b : Bool) (o : Option X) → part_if (a || b) o ≡ (if a then part_if a o else if b then part_if b o else None)
either-again true b o = refl
either-again false true o = refl
either-again false false o = refl

-- amounts that are printed
runs-if : (b : Bool) (o : Outline) (t : Claims) (rows : List (List (List ℕ))) (put : List (Option Ratio) → Claims) (back : List (Option Ratio) → List Ratio) (amounts : List Ratio)
    → (start : List (Option Ratio)) → t ≡ put start
    → (IsTrue b → (given : List (Option Ratio)) × Runs o t rows (put given) × (back given ≡ amounts))
    → (given : List (Option Ratio)) × Runs o t (list_if b rows) (put given) × (list_if b amounts ≡ list_if b (back given))
runs-if true o t rows put back amounts start e run = let r = run refl in (r.0, r.1, sym r.2)
runs-if false o t rows put back amounts start e run = (start, e, refl)

-- ---- the log

no-log : (t : Claims) (turned : Option ℕ) (entries : List Entry) → t.turned ≡ turned → t.entries ≡ entries → t ≡ record t { turned = turned; entries = entries }
no-log t turned entries a b = rw (sym a, sym b) refl

runs-told : (o : Outline) (t : Claims) (log : Log) (asked : Bool) → LogFits log → t.turned ≡ None → t.entries ≡ []
    → Runs o t (list_if asked (log_rows log)) (record t { turned = part_if asked log.turned; entries = list_if asked log.entries })
runs-told o t log true fit turned none = runs-log o t log fit turned none
runs-told o t log false fit turned none = no-log t None [] turned none

-- ---- what is told of a plan

-- from these claims the records lead to all that the verdict needs, and to the parts that are told
record IsTold (scheme : Scheme) (t : Claims) (plan : Plan) (log : Bool) : Type 0 where
  claims : Claims
  run : Runs (outline_of scheme) t (inner_rows scheme plan log) claims
  complete : is_complete plan.verdict claims ≡ true
  made : IsMadeOf scheme claims (told plan log)

module _ (scheme : Scheme) (plan : Plan) (log : Bool) (fit : PlanFits scheme plan) (has : HasFractions (told plan log)) where
  abbrev parts : Parts
  parts = parts_of plan.verdict

  abbrev amount_there : IsTrue parts.cost → IsSome plan.amount
  amount_there asked = fit.amount (left-true parts.cost parts.gap asked)

  abbrev gap_there : IsTrue parts.gap → IsSome plan.amount
  gap_there asked = fit.amount (right-true parts.cost parts.gap asked)

  all-told : (t : Claims) → IsNew scheme t → IsTold scheme t plan log
  all-told t new =
      let o = outline_of scheme in
      let a = record t { cost = part_if parts.cost plan.amount } in
      let b = record a { gap = part_if parts.gap plan.amount } in
      let c = record b { arc = part_if parts.arc plan.arc } in
      let d = record c { overflow = part_if parts.overflow plan.overflow } in
      let cost = runs-cost o t (part_if parts.cost plan.amount) (either-left Fits parts.cost parts.gap plan.amount has.amount) new.cost in
      let gap = runs-gap o a (part_if parts.gap plan.amount) (either-right Fits parts.cost parts.gap plan.amount has.amount) new.gap in
      let arc = runs-arc o b (part_if parts.arc plan.arc) (part-has IsShortNumber parts.arc plan.arc fit.arc) new.arc in
      let overflow = runs-overflow o c (part_if parts.overflow plan.overflow) (part-has HasPlace parts.overflow plan.overflow fit.overflow) has.operands new.overflow in
      let flows = runs-if parts.flows o d (staged_rows (codes "flow") scheme plan.flows) (λ given. record d { flows = given }) (staged_amounts scheme) plan.flows d.flows refl
      (λ asked. runs-flows scheme d plan.flows (fit.flows asked) (all-if Fits parts.flows plan.flows has.flows asked) new.flows) in
      let e = record d { flows = flows.0 } in
      let prices = runs-if parts.prices o e (price_rows scheme plan.prices) (λ given. record e { prices = given }) node_amounts plan.prices e.prices refl
      (λ asked. runs-prices scheme e plan.prices (fit.prices asked) (all-if Fits parts.prices plan.prices has.prices asked) new.prices) in
      let f = record e { prices = prices.0 } in
      let ray = runs-if parts.ray o f (staged_rows (codes "ray") scheme plan.ray) (λ given. record f { ray = given }) (staged_amounts scheme) plan.ray f.ray refl
      (λ asked. runs-ray scheme f plan.ray (fit.ray asked) (all-if Fits parts.ray plan.ray has.ray asked) new.ray) in
      let g = record f { ray = ray.0 } in
      let claim : Runs o t (claim_rows parts plan) d = runs-append o _ _ t c d (runs-append o _ _ t b c (runs-append o _ _ t a b cost gap) arc) overflow in
      let shown : Runs o d (shown_rows parts scheme plan) g = runs-append o _ _ d f g (runs-append o _ _ d e f flows.1 prices.1) ray.1 in
      let last = record g { turned = part_if log plan.log.turned; entries = list_if log plan.log.entries } in
      record {
        claims = last;
        run = runs-append o (claim_rows parts plan ++ shown_rows parts scheme plan) (list_if log (log_rows plan.log)) t g last (runs-append o (claim_rows parts plan) (shown_rows parts scheme plan) t d g claim shown) (runs-told o g plan.log log fit.log new.turned new.entries);
        complete =
            all-four _ _ _ _ (there-if parts.cost plan.amount amount_there) (there-if parts.gap plan.amount gap_there)
            (there-if parts.arc plan.arc (λ asked. some-of IsShortNumber plan.arc (fit.arc asked)))
            (there-if parts.overflow plan.overflow (λ asked. some-of HasPlace plan.overflow (fit.overflow asked)));
        made = record {
          amount = either-again parts.cost parts.gap plan.amount;
          flows = flows.2;
          prices = prices.2;
          ray = ray.2;
          arc = part-again parts.arc plan.arc;
          overflow = part-again parts.overflow plan.overflow;
          turned = refl;
          entries = refl;
        };
      }

  -- ---- the whole text

  abbrev told_here : IsTold scheme (claims_of (outline_of scheme) []) plan log
  told_here = all-told (claims_of (outline_of scheme) []) (new-claims scheme)

  -- the records between the head and `end` lead from no claims to those of what is told
  pub inner-run : (u : Claims) × Runs (outline_of scheme) (claims_of (outline_of scheme) []) (inner_rows scheme plan log) u
  inner-run = (told_here.claims, told_here.run)

  written-whole : (skip : ℕ) → IsWholeRead skip (outline_of scheme) (plan_rows scheme plan log) plan.verdict told_here.claims
  written-whole skip =
      runs-whole skip (outline_of scheme) plan.verdict (codes "netplan-plan" ∷ codes "1" ∷ []) (codes "verdict" ∷ verdict_word plan.verdict ∷ []) (inner_rows scheme plan log) told_here.claims
      (outline-is scheme) refl (verdict-back plan.verdict) told_here.run told_here.complete

  pub written-read : (skip : ℕ) → plan_fault skip (outline_of scheme) (plan_rows scheme plan log) ≡ None
  written-read skip = (written-whole skip).fault

  pub written-plan : IsPlanOf scheme (plan_rows scheme plan log) (told plan log)
  written-plan =
      let whole = written-whole 0 in
      record { verdict = whole.verdict_is; made = subst (λ (t : Claims). IsMadeOf scheme t (told plan log)) whole.claims_are told_here.made }
