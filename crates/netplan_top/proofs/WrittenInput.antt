-- The texts that are written of a scheme and of a plan, as an input of `check`.
use Rattle.std.specs.Prelude.{◌≡◌, ◌≢◌, ℕ, Bool, Ok, List, [], ◌++◌, length, drop}
use Rattle.std.specs.List.{All}
use Rattle.std.proofs.Common.{refl, sym, subst}
use Rattle.std.proofs.lemmas.List.{drop_at}
use Rattle.std.proofs.lemmas.List.Concat.{flat_map-append}
use Rattle.np_records.specs.Records.{records_of}
use Rattle.np_records.specs.Texts.{record_text, records_text}
use Rattle.np_model.specs.declared.scheme.Scheme.{Scheme}
use Rattle.np_model.specs.declared.plan.Plan.{Plan}
use Rattle.np_model.specs.declared.plan.Verdict.{Verdict}
use Rattle.np_model.specs.declared.plan.Verdict.TheVariants as verdict
use Rattle.np_model.specs.Scheme.Fits.{PlanFits}
use Rattle.np_model.specs.Scheme.Verdicts.{parts_of}
use Rattle.net_csv.specs.declared.refused.Tail.TheVariants as tail
use Rattle.net_csv.specs.Grammar.{read_records, IsSchemeOf}
use Rattle.net_csv.specs.Writing.{rows_of}
use Rattle.certificates.specs.Reading.{IsReadAs}
use Rattle.certificates.specs.Writing.{plan_rows, told, told_parts, HasFractions}
use Rattle.cert_checker.specs.Walk.{walk}
use Rattle.netplan_top.specs.Commands.Check.{StandsFor, IsReadBehind}

-- what is known of the records of a scheme with others behind them
abbrev pub AreFollowed : Type 0
AreFollowed =
    (scheme : Scheme) (after : List (List (List ℕ))) → (read_records tail.Plan (rows_of scheme ++ after) ≡ Ok (length (rows_of scheme)))
    × IsSchemeOf (rows_of scheme ++ after) scheme

abbrev pub AreBytes : Type 0
AreBytes =
    (scheme : Scheme) (after : List (List (List ℕ))) → All (λ fields. fields ≢ []) after
    → records_of (records_text (rows_of scheme ++ after)) ≡ rows_of scheme ++ after

-- what is known of the records of a plan
abbrev pub AreFull : Type 0
AreFull = (scheme : Scheme) (plan : Plan) (log : Bool) → PlanFits scheme plan → HasFractions (told plan log) → All (λ fields. fields ≢ []) (plan_rows scheme plan log)

abbrev pub AreRead : Type 0
AreRead = (scheme : Scheme) (plan : Plan) (log : Bool) → PlanFits scheme plan → HasFractions (told plan log) → IsReadAs scheme (plan_rows scheme plan log) (told plan log)

pub written-behind : AreFollowed → AreBytes → AreFull → AreRead → (scheme : Scheme) (plan : Plan) (log : Bool) → PlanFits scheme plan → HasFractions (told plan log)
    → IsReadBehind scheme (records_of (records_text (rows_of scheme ++ plan_rows scheme plan log))) (told plan log)
written-behind followed bytes full read scheme plan log fit has =
    let rows = plan_rows scheme plan log in
    let known = followed scheme rows in
    let as_rows = bytes scheme rows (full scheme plan log fit has) in
    let left : drop (length (rows_of scheme)) (rows_of scheme ++ rows) ≡ rows = drop_at (rows_of scheme) rows (length (rows_of scheme)) refl in
    let here : IsReadBehind scheme (rows_of scheme ++ rows) (told plan log) = record {
      network = known.0;
      scheme_is = known.1;
      rest = subst (λ (rs : List (List (List ℕ))). IsReadAs scheme rs (told plan log)) (sym left) (read scheme plan log fit has);
    } in
    subst (λ (rs : List (List (List ℕ))). IsReadBehind scheme rs (told plan log)) (sym as_rows) here

pub texts-behind : AreFollowed → AreBytes → AreFull → AreRead → (scheme : Scheme) (plan : Plan) (log : Bool) → PlanFits scheme plan → HasFractions (told plan log)
    → IsReadBehind scheme (records_of (records_text (rows_of scheme) ++ records_text (plan_rows scheme plan log))) (told plan log)
texts-behind followed bytes full read scheme plan log fit has =
    subst (λ (bs : List ℕ). IsReadBehind scheme (records_of bs) (told plan log)) (flat_map-append record_text (rows_of scheme) (plan_rows scheme plan log))
    (written-behind followed bytes full read scheme plan log fit has)

pub reads-behind : (scheme : Scheme) (input : List ℕ) (plan : Plan) → IsReadBehind scheme (records_of input) plan → StandsFor input scheme plan
reads-behind scheme input plan h = record {
  count = length (rows_of scheme);
  network = record { network = h.network; scheme_is = h.scheme_is };
  whole = h.rest.whole (length (rows_of scheme));
  plan_is = h.rest.plan_is;
}

-- the walk looks at the parts that the verdict prints, and not at the log
told-walk : (v : Verdict) (scheme : Scheme) (plan : Plan) (log : Bool) → plan.verdict ≡ v → walk scheme (told_parts (parts_of v) plan log) ≡ walk scheme plan
unfolding walk
told-walk verdict.Optimal scheme plan log e = rw e refl
told-walk verdict.Infeasible scheme plan log e = rw e refl
told-walk verdict.Unbounded scheme plan log e = rw e refl
told-walk verdict.Budget scheme plan log e = rw e refl
told-walk verdict.Overflow scheme plan log e = rw e refl

pub same-walk : (scheme : Scheme) (plan : Plan) (log : Bool) → walk scheme (told plan log) ≡ walk scheme plan
same-walk scheme plan log = told-walk plan.verdict scheme plan log refl
