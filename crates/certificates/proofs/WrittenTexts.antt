-- The bytes of the records that are written for a plan are read as these records.
use Rattle.std.specs.Prelude.{◌≡◌, ◌≢◌, ℕ, Bool, List, [], ◌∷◌, ◌++◌, codes}
use Rattle.std.specs.List.{All, AllByRecursion}
use Rattle.std.proofs.Common.{ap, arith, ◌∙◌}
use Rattle.std.proofs.lemmas.List.Elements.{All-from_recursion, All-append, All-cons, All-nil, All-tail}
use Rattle.np_records.specs.Records.{records_of}
use Rattle.np_records.specs.Texts.{records_text}
use Rattle.np_records.proofs.TextFacts.{records-headed, back-whole}
use Rattle.np_model.specs.declared.scheme.Scheme.{Scheme}
use Rattle.np_model.specs.declared.plan.Plan.{Plan}
use Rattle.np_model.specs.Scheme.Fits.{PlanFits}
use Rattle.certificates.specs.Claims.{Outline, Claims}
use Rattle.certificates.specs.Steps.Claims.{with_record}
use Rattle.np_model.specs.Scheme.Verdicts.{verdict_word}
use Rattle.certificates.specs.Writing.{inner_rows, plan_rows, told, HasFractions}
use Rattle.certificates.specs.Reading.{IsReadAs}
use Rattle.certificates.proofs.Runs.{Runs}
use Rattle.certificates.proofs.Written.{inner-run, written-read, written-plan}

-- a record without a fault has a field
runs-full : (o : Outline) (rows : List (List (List ℕ))) (t u : Claims) → Runs o t rows u → AllByRecursion (λ fields. fields ≢ []) rows
runs-full o [] t u h = tt
runs-full o ([] ∷ rs) t u h = absurd (cc h.0.right)
runs-full o ((x ∷ xs) ∷ rs) t u h = (λ e. cc e, runs-full o rs (with_record o t (x ∷ xs)) u h.1)

module _ (scheme : Scheme) (plan : Plan) (log : Bool) (fit : PlanFits scheme plan) (has : HasFractions (told plan log)) where
  -- each record has a field, as a text needs whose records others may precede
  pub written-full : All (λ fields. fields ≢ []) (plan_rows scheme plan log)
  written-full =
      let full = λ (fields : List (List ℕ)). fields ≢ [] in
      let end = codes "end" ∷ [] in
      let run = inner-run scheme plan log fit has in
      let inner = All-from_recursion full (inner_rows scheme plan log) (runs-full _ (inner_rows scheme plan log) _ _ run.1) in
      let rest = All-append full (inner_rows scheme plan log) (end ∷ []) inner (All-cons full end [] (λ e. cc e) (All-nil full)) in
      let second = codes "verdict" ∷ verdict_word plan.verdict ∷ [] in
      let left = inner_rows scheme plan log ++ end ∷ [] in
      All-cons full (codes "netplan-plan" ∷ codes "1" ∷ []) (second ∷ left) (λ e. cc e) (All-cons full second left (λ e. cc e) rest)

  pub written-records : records_of (records_text (plan_rows scheme plan log)) ≡ plan_rows scheme plan log
  written-records =
      let header = codes "netplan-plan" ∷ codes "1" ∷ [] in
      let second = codes "verdict" ∷ verdict_word plan.verdict ∷ [] in
      let rest = second ∷ (inner_rows scheme plan log ++ (codes "end" ∷ []) ∷ []) in
      records-headed 110 (codes "etplan-plan") (codes "1" ∷ []) rest (omega arith)
      ∙ ap (λ (rows : List (List (List ℕ))). header ∷ rows) (back-whole rest (All-tail (λ fields. fields ≢ []) header rest written-full))

  pub written-as : IsReadAs scheme (plan_rows scheme plan log) (told plan log)
  written-as = record { whole = written-read scheme plan log fit has; plan_is = written-plan scheme plan log fit has }

-- ---- the text that was written

pub text-back : (scheme : Scheme) (plan : Plan) (log : Bool) (bytes : List ℕ) → bytes ≡ records_text (plan_rows scheme plan log) → PlanFits scheme plan → HasFractions (told plan log)
    → IsReadAs scheme (records_of bytes) (told plan log)
text-back scheme plan log bytes e fit has = rw (e, written-records scheme plan log fit has) (written-as scheme plan log fit has)
