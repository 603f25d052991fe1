-- Verdicts, marks and rows: their words as they are printed, and which parts of a plan a verdict prints.
use Rattle.std.specs.Prelude.{ℕ, true, false, List, codes}
use Rattle.np_model.specs.declared.plan.Verdict.{Verdict}
use Rattle.np_model.specs.declared.plan.Verdict.TheVariants.{Optimal, Infeasible, Unbounded, Budget, Overflow}
use Rattle.np_model.specs.declared.plan.Parts.{Parts}
use Rattle.np_model.specs.declared.log.Mark.{Mark}
use Rattle.np_model.specs.declared.log.Mark.TheVariants.{Lower, Upper, Basic}
use Rattle.np_model.specs.declared.rows.Row.{Row}
use Rattle.np_model.specs.declared.rows.Row.TheVariants.{A1, A2, A3, A4, A5, A6, A7, A8}
use Rattle.np_model.specs.declared.rows.CheckRow.{CheckRow}
use Rattle.np_model.specs.declared.rows.CheckRow.TheVariants.{C0, C1, C2, C3, C4, C5, C6}

-- the parts that a plan of this verdict has, beside its log
abbrev pub parts_of : Verdict → Parts
parts_of Optimal = record { cost = true; gap = false; arc = false; overflow = false; flows = true; prices = true; ray = false }
parts_of Infeasible = record { cost = false; gap = true; arc = false; overflow = false; flows = false; prices = true; ray = false }
parts_of Unbounded = record { cost = false; gap = false; arc = false; overflow = false; flows = true; prices = false; ray = true }
parts_of Budget = record { cost = false; gap = false; arc = true; overflow = false; flows = false; prices = false; ray = false }
parts_of Overflow = record { cost = false; gap = false; arc = false; overflow = true; flows = false; prices = false; ray = false }

-- ---- words

unfoldable pub verdict_word : Verdict → List ℕ
verdict_word Optimal = codes "optimal"
verdict_word Infeasible = codes "infeasible"
verdict_word Unbounded = codes "unbounded"
verdict_word Budget = codes "budget"
verdict_word Overflow = codes "overflow"

-- where an arc comes to rest; in the basis none does
unfoldable pub mark_word : Mark → List ℕ
mark_word Lower = codes "lower"
mark_word Upper = codes "upper"
mark_word Basic = codes "basic"

unfoldable pub row_word : Row → List ℕ
row_word A1 = codes "A1"
row_word A2 = codes "A2"
row_word A3 = codes "A3"
row_word A4 = codes "A4"
row_word A5 = codes "A5"
row_word A6 = codes "A6"
row_word A7 = codes "A7"
row_word A8 = codes "A8"

unfoldable pub check_row_word : CheckRow → List ℕ
check_row_word C0 = codes "C0"
check_row_word C1 = codes "C1"
check_row_word C2 = codes "C2"
check_row_word C3 = codes "C3"
check_row_word C4 = codes "C4"
check_row_word C5 = codes "C5"
check_row_word C6 = codes "C6"
