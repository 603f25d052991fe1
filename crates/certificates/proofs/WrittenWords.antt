-- The fields that are written stand for what was written.
use Rattle.std.specs.Prelude.{◌≡◌, ◌≢◌, ℕ, ◌<◌, true, false, Some, codes, decimal}
use Rattle.std.specs.Str.{bytes_eq}
use Rattle.std.proofs.Common.{refl, sym, ap, ◌∙◌, inl, inr, arith}
use Rattle.std.proofs.lemmas.Bool.{cases_Bool}
use Rattle.std.proofs.lemmas.Fmt.{decimal_is_IsNumeral, length-decimal-le}
use Rattle.std.proofs.lemmas.Slice.Eq.{bytes_eq-Decides}
use Rattle.np_frac.specs.Ratio.{Ratio}
use Rattle.np_frac.specs.Fits.{Fits}
use Rattle.np_frac.specs.Text.{number, printed, IsNumber, is_number}
use Rattle.np_frac.specs.declared.frac.Op.{Op}
use Rattle.np_frac.specs.declared.frac.Op.TheVariants as op
use Rattle.np_frac.proofs.ReadsBack.{printed_is_fraction, fraction_of_printed}
use Rattle.np_model.specs.declared.plan.Verdict.{Verdict}
use Rattle.np_model.specs.declared.plan.Verdict.TheVariants as verdict
use Rattle.np_model.specs.declared.log.Mark.{Mark}
use Rattle.np_model.specs.declared.log.Mark.TheVariants as mark
use Rattle.np_model.specs.declared.rows.Row.{Row}
use Rattle.np_model.specs.declared.rows.Row.TheVariants as row
use Rattle.np_model.specs.declared.rows.CheckRow.{CheckRow}
use Rattle.np_model.specs.declared.rows.CheckRow.TheVariants as check
use Rattle.np_model.specs.declared.rows.Place.{Place}
use Rattle.np_model.specs.declared.rows.Place.TheVariants as place
use Rattle.np_model.specs.declared.rows.Overflow.{Overflow}
use Rattle.np_model.specs.declared.log.Entry.{Entry}
use Rattle.np_model.specs.Scheme.Fits.{IsShortNumber, PlaceFits}
use Rattle.np_frac.proofs.TextTests.{number-is}
use Rattle.certificates.specs.Words.{verdict_of, mark_of, op_of, row_of, check_row_of}
use Rattle.np_model.specs.Scheme.Verdicts.{verdict_word, mark_word, row_word, check_row_word}
use Rattle.np_frac.specs.Words.{op_word}
use Rattle.certificates.specs.Fields.{fraction_in, place_in_row, overflow_in, entry_in}
use Rattle.np_records.specs.Rows.{whole_in}
use Rattle.certificates.specs.Writing.{place_word, past_row, pivot_row}
use Rattle.certificates.proofs.FieldFacts.{fraction-answer}
use Rattle.np_records.proofs.NumberFacts.{whole-some}

-- ---- numbers

pub fraction-back : (r : Ratio) → Fits r → fraction_in (printed r) ≡ Some r
fraction-back r h = sym (fraction-answer (printed r) (Some r) (printed_is_fraction r h, sym (fraction_of_printed r h)))

pub decimal-number : (n : ℕ) → n < 1000000000 → IsNumber 9 (decimal n)
decimal-number n h = record { numeral = (decimal_is_IsNumeral n (omega arith)).0; short = length-decimal-le 9 n (omega arith) (omega arith) (omega arith) }

pub number-back : (n : ℕ) → n < 1000000000 → number (decimal n) ≡ n
number-back n h = (decimal_is_IsNumeral n (omega arith)).1

pub is_number-decimal : (n : ℕ) → n < 1000000000 → is_number 9 (decimal n) ≡ true
is_number-decimal n h = number-is 9 (decimal n) (decimal-number n h)

pub whole-back : (n : ℕ) → n < 1000000000 → whole_in (decimal n) ≡ Some n
whole-back n h = whole-some (decimal n) (decimal-number n h) ∙ ap Some (number-back n h)

-- ---- words

pub verdict-back : (v : Verdict) → verdict_of (verdict_word v) ≡ Some v
unfolding verdict_word
verdict-back verdict.Optimal = refl
verdict-back verdict.Infeasible = refl
verdict-back verdict.Unbounded = refl
verdict-back verdict.Budget = refl
verdict-back verdict.Overflow = refl

pub mark-back : (m : Mark) → m ≢ mark.Basic → mark_of (mark_word m) ≡ Some m
unfolding mark_word
mark-back mark.Lower h = refl
mark-back mark.Upper h = refl
mark-back mark.Basic h = absurd (h refl)

pub op-back : (o : Op) → op_of (op_word o) ≡ Some o
unfolding op_word
op-back op.Plus = refl
op-back op.Minus = refl
op-back op.Times = refl
op-back op.Over = refl

pub row-back : (r : Row) → row_of (row_word r) ≡ Some r
unfolding row_word
row-back row.A1 = refl
row-back row.A2 = refl
row-back row.A3 = refl
row-back row.A4 = refl
row-back row.A5 = refl
row-back row.A6 = refl
row-back row.A7 = refl
row-back row.A8 = refl

pub check_row-back : (r : CheckRow) → check_row_of (check_row_word r) ≡ Some r
unfolding check_row_word
check_row-back check.C0 = refl
check_row-back check.C1 = refl
check_row-back check.C2 = refl
check_row-back check.C3 = refl
check_row-back check.C4 = refl
check_row-back check.C5 = refl
check_row-back check.C6 = refl

-- ---- the place of an operation

no-turn : (n : ℕ) → n < 1000000000 → bytes_eq (decimal n) (codes "turn") ≡ false
no-turn n h = elim (cases_Bool (bytes_eq (decimal n) (codes "turn"))) [
  | inl t ↦
      let same = (bytes_eq-Decides (decimal n) (codes "turn")).0 t in
      let number : whole_in (codes "turn") ≡ Some n = rw same at (whole-back n h) in
      absurd (cc number)
  | inr f ↦ f
]

pub place-back : (r : Row) (p : Place) → PlaceFits r p → place_in_row r (place_word p) ≡ Some p
place-back row.A1 (place.Node v) h = rw (whole-back v h) refl
place-back row.A2 (place.Arc a) h = rw (whole-back a h) refl
place-back row.A3 (place.Arc a) h = rw (no-turn a h, whole-back a h) refl
place-back row.A3 place.Turn h = refl
place-back row.A4 (place.Arc a) h = rw (whole-back a h) refl
place-back row.A5 (place.Arc a) h = rw (whole-back a h) refl
place-back row.A6 (place.Arc a) h = rw (whole-back a h) refl
place-back row.A7 (place.Arc a) h = rw (no-turn a h, whole-back a h) refl
place-back row.A7 place.Turn h = refl
place-back row.A8 (place.Check c) h = rw (check_row-back c) refl
place-back r p h = absurd h

-- ---- records

pub overflow-back : (overflow : Overflow) → PlaceFits overflow.row overflow.place → Fits overflow.past.left × Fits overflow.past.right → overflow_in (past_row overflow) ≡ Some overflow
overflow-back overflow place operands =
    rw (row-back overflow.row, place-back overflow.row overflow.place place, op-back overflow.past.op, fraction-back overflow.past.left operands.0, fraction-back overflow.past.right operands.1) refl

pub entry-back : (k : ℕ) (entry : Entry) → IsShortNumber entry.enter × IsShortNumber entry.leave → entry.leave_at ≢ mark.Basic → entry_in (pivot_row (k, entry)) ≡ Some entry
entry-back k entry numbers at_bound = rw (whole-back entry.enter numbers.0, whole-back entry.leave numbers.1, mark-back entry.leave_at at_bound) refl
