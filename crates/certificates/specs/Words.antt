-- The words of plan texts and of their faults.
use Rattle.std.specs.Prelude.{ℕ, Option, Some, None, List, [], ◌∷◌, codes, if◌then◌else◌}
use Rattle.std.specs.Str.{bytes_eq}
use Rattle.np_frac.specs.Words.{op_word}
use Rattle.np_model.specs.Scheme.Verdicts.{verdict_word, mark_word, row_word, check_row_word}
use Rattle.np_frac.specs.declared.frac.Op.{Op}
use Rattle.np_frac.specs.declared.frac.Op.TheVariants.{Plus, Minus, Times, Over}
use Rattle.np_model.specs.declared.plan.Verdict.{Verdict}
use Rattle.np_model.specs.declared.plan.Verdict.TheVariants.{Optimal, Infeasible, Unbounded, Budget, Overflow}
use Rattle.np_model.specs.declared.log.Mark.{Mark}
use Rattle.np_model.specs.declared.log.Mark.TheVariants.{Lower, Upper}
use Rattle.np_model.specs.declared.rows.Row.{Row}
use Rattle.np_model.specs.declared.rows.Row.TheVariants.{A1, A2, A3, A4, A5, A6, A7, A8}
use Rattle.np_model.specs.declared.rows.CheckRow.{CheckRow}
use Rattle.np_model.specs.declared.rows.CheckRow.TheVariants.{C0, C1, C2, C3, C4, C5, C6}
use Rattle.certificates.specs.declared.refused.PlanCode.{PlanCode}
use Rattle.certificates.specs.declared.refused.PlanCode.TheVariants.{Header, Unknown, FieldCount, NoSuchName, BadPeriod, BadNumber, Repeated, Missing, NoEnd, AfterEnd}

-- ---- faults

-- the word of a fault, as it is printed
unfoldable pub plan_code_word : PlanCode → List ℕ
plan_code_word Header = codes "Header"
plan_code_word Unknown = codes "Unknown"
plan_code_word FieldCount = codes "FieldCount"
plan_code_word NoSuchName = codes "NoSuchName"
plan_code_word BadPeriod = codes "BadPeriod"
plan_code_word BadNumber = codes "BadNumber"
plan_code_word Repeated = codes "Repeated"
plan_code_word Missing = codes "Missing"
plan_code_word NoEnd = codes "NoEnd"
plan_code_word AfterEnd = codes "AfterEnd"

-- ---- what words stand for

-- the first of these whose word is the field
abbrev pub with_word : {X : Type 0} → (X → List ℕ) → List X → List ℕ → Option X
with_word word [] field = None
with_word word (x ∷ xs) field = if bytes_eq field (word x) then Some x else with_word word xs field

abbrev pub verdict_of : List ℕ → Option Verdict
verdict_of field = with_word verdict_word (Optimal ∷ Infeasible ∷ Unbounded ∷ Budget ∷ Overflow ∷ []) field

-- where an arc comes to rest
abbrev pub mark_of : List ℕ → Option Mark
mark_of field = with_word mark_word (Lower ∷ Upper ∷ []) field

abbrev pub op_of : List ℕ → Option Op
op_of field = with_word op_word (Plus ∷ Minus ∷ Times ∷ Over ∷ []) field

abbrev pub row_of : List ℕ → Option Row
row_of field = with_word row_word (A1 ∷ A2 ∷ A3 ∷ A4 ∷ A5 ∷ A6 ∷ A7 ∷ A8 ∷ []) field

abbrev pub check_row_of : List ℕ → Option CheckRow
check_row_of field = with_word check_row_word (C0 ∷ C1 ∷ C2 ∷ C3 ∷ C4 ∷ C5 ∷ C6 ∷ []) field
