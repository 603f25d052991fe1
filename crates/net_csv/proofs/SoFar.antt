-- Reading the records of a text, one by one.
use Rattle.std.specs.Prelude.{◌≡◌, ℕ, suc, zero, ◌+◌, ◌^◌, ◌<◌, ◌≤◌, ◌==◌, nat_lt, Bool, true, false, Option, Some, None, List, [], ◌∷◌, ◌++◌, length, take, drop, slice_get, Err, codes, if◌then◌else◌}
use Rattle.std.specs.List.{AllByRecursion, list_any}
use Rattle.std.proofs.Common.{refl, sym, ap, ◌∙◌, inl, inr, arith, append_assoc}
use Rattle.std.proofs.lemmas.Bool.{cases_eq, cases_Bool}
use Rattle.std.proofs.lemmas.List.Folds.{list_any-append}
use Rattle.std.proofs.lemmas.Bool.Decides.{nat_tests}
use Rattle.std.proofs.lemmas.List.{length_push, length-append, length-drop, take_at, drop_at}
use Rattle.net_csv.specs.declared.refused.Code.{Code}
use Rattle.net_csv.specs.declared.refused.Code.TheVariants as code
use Rattle.net_csv.specs.declared.refused.Refused.{Refused}
use Rattle.net_csv.specs.declared.refused.Refused.TheVariants as refused
use Rattle.net_csv.specs.declared.refused.Tail.{Tail}
use Rattle.net_csv.specs.Fields.{fields_fault}
use Rattle.np_records.specs.Rows.{is_kind, row_at, body_before}
use Rattle.net_csv.specs.Network.{is_flow, defined_nodes, defined_flows}
use Rattle.net_csv.specs.Faults.{record_fault, body_fault}
use Rattle.net_csv.specs.Grammar.{body_of, is_end, periods_in, fault_at}
use Rattle.net_csv.specs.Steps.Tables.{Tables, TakesRow, HasRoom, AreKept, IsReady, tables_of, no_tables, with_record}
use Rattle.net_csv.specs.Steps.Reading.{IsHeadRead, IsTextRead, RefusesAt}
use Rattle.net_csv.proofs.RowKinds.{IsFine}
use Rattle.net_csv.proofs.Fine.{fine-none, fine-more, tables-more}
use Rattle.net_csv.proofs.Room.{room-more}
use Rattle.net_csv.proofs.Steps.{flows-count}
use Rattle.net_csv.proofs.Kept.{kept-none, kept-more}
use Rattle.net_csv.proofs.BeforeFirst.{before_first-is}
use Rattle.net_csv.proofs.HeadFacts.{none-in-head}
use Rattle.net_csv.proofs.FirstPlaces.{refuses-at}

pub record IsSoFar (rows left : List (List (List ℕ))) (place : ℕ) (t : Tables) : Type 0 where
  pub before : List (List (List ℕ))
  pub whole : rows ≡ before ++ left
  pub size : place ≡ length before
  pub two : 2 ≤ length before
  pub none : (tail : Tail) (i : ℕ) → i < place → fault_at tail rows i ≡ None
  pub goes : list_any is_end (drop 2 before) ≡ false
  pub tables : t ≡ tables_of (periods_in rows) (drop 2 before)
  pub fine : AllByRecursion (IsFine (defined_nodes (drop 2 before)) (defined_flows (drop 2 before))) (drop 2 before)
  pub room : HasRoom t
  pub kept : AreKept t
  pub some : 0 < periods_in rows

-- ---- the head

empty-tables : (periods : ℕ) → tables_of periods [] ≡ no_tables periods
unfolding tables_of
empty-tables periods = refl

pub so_far-head : (rows left : List (List (List ℕ))) (periods : ℕ) (t : Tables) → IsHeadRead rows left periods → t ≡ no_tables periods → IsSoFar rows left 2 t
so_far-head [] left periods t h e = absurd (let two = h.two in omega arith)
so_far-head (a ∷ []) left periods t h e = absurd (let two = h.two in omega arith)
so_far-head (a ∷ b ∷ rest) left periods t h e =
    let number = h.number in
    let few = h.few in
    record {
      before = a ∷ b ∷ [];
      whole = rw h.left refl;
      size = refl;
      two = omega arith;
      none = none-in-head a b rest h.header h.second;
      goes = refl;
      tables = e ∙ sym (empty-tables periods) ∙ ap (λ (k : ℕ). tables_of k []) number;
      fine = tt;
      room = rw e (record { one_each = refl; periods = few; nodes = omega arith; arcs = omega arith });
      kept = rw e (kept-none periods);
      some = rw (sym number) h.some;
    }

-- ---- tables that are those of a scheme

drop-short : {X : Type 0} (n : ℕ) (xs : List X) → length (drop n xs) ≤ length xs
drop-short zero xs = omega arith
drop-short (suc n) [] = omega arith
drop-short (suc n) (x ∷ xs) = let h = drop-short n xs in omega arith

names-short : (rows : List (List (List ℕ))) → length (defined_flows rows) ≤ length rows
names-short [] = omega arith
names-short (r ∷ rs) = let h = names-short rs in elim (cases_Bool (is_flow r)) [
  | inl t ↦ rw t (omega arith)
  | inr f ↦ rw f (omega arith)
]

ready-of : (periods : ℕ) (body : List (List (List ℕ))) → 0 < periods → length body < 2 ^ 32 → AreKept (tables_of periods body) → HasRoom (tables_of periods body) → IsReady (tables_of periods body)
unfolding tables_of
ready-of periods body some few kept room =
    let count = flows-count body in
    let short = names-short body in
    record { kept = kept; some_period = some; few_periods = room.periods; few_flows = omega arith; few_arcs = room.arcs }

pub so_far-ready : (rows left : List (List (List ℕ))) (place : ℕ) (t : Tables) → IsSoFar rows left place t → length rows < 2 ^ 32 → IsReady t
so_far-ready rows left place t s few =
    let all = length-append s.before left in
    let short = drop-short 2 s.before in
    let size : length rows ≡ length (s.before ++ left) = ap length s.whole in
    rw s.tables (ready-of (periods_in rows) (drop 2 s.before) s.some (omega arith) (rw s.tables at s.kept) (rw s.tables at s.room))

-- ---- a record

at-length : (before left : List (List (List ℕ))) (r : List (List ℕ)) → slice_get (before ++ r ∷ left) (length before) ≡ Some r
at-length [] left r = refl
at-length (b ∷ bs) left r = at-length bs left r

row-here : (rows left : List (List (List ℕ))) (place : ℕ) (t : Tables) (r : List (List ℕ)) → IsSoFar rows (r ∷ left) place t → row_at rows place ≡ r
row-here rows left place t r s = rw (s.whole, s.size, at-length s.before left r) refl

body-here : (rows left : List (List (List ℕ))) (place : ℕ) (t : Tables) → (s : IsSoFar rows left place t) → body_before rows place ≡ drop 2 s.before
body-here rows left place t s = rw (s.whole, take_at s.before left place (sym s.size)) refl

inside : (rows left : List (List (List ℕ))) (place : ℕ) (t : Tables) (r : List (List ℕ)) → IsSoFar rows (r ∷ left) place t → place < length rows
inside rows left place t r s =
    let all = length-append s.before (r ∷ left) in
    let size = s.size in
    rw s.whole (omega arith)

tables-fault : (periods : ℕ) (body : List (List (List ℕ))) (r : List (List ℕ))
    → record_fault (tables_of periods body).periods (tables_of periods body).nodes (tables_of periods body).names (tables_of periods body).arcs (tables_of periods body).flows r ≡ body_fault periods body r
unfolding tables_of
tables-fault periods body r = refl

pub so_far-fault : (tail : Tail) (rows left : List (List (List ℕ))) (place : ℕ) (t : Tables) (r : List (List ℕ)) → IsSoFar rows (r ∷ left) place t
    → fault_at tail rows place ≡ (if is_kind r (codes "end") then fields_fault 1 r else record_fault t.periods t.nodes t.names t.arcs t.flows r)
so_far-fault tail rows left place t r s =
    let within = inside rows left place t r s in
    let two = s.two in
    let size = s.size in
    let there : nat_lt place (length rows) ≡ true = grind (arith, nat_tests) in
    let not_first : (place == 0) ≡ false = grind (arith, nat_tests) in
    let not_second : (place == 1) ≡ false = grind (arith, nat_tests) in
    let same : record_fault t.periods t.nodes t.names t.arcs t.flows r ≡ body_fault (periods_in rows) (drop 2 s.before) r =
    ap (λ (x : Tables). record_fault x.periods x.nodes x.names x.arcs x.flows r) s.tables ∙ tables-fault (periods_in rows) (drop 2 s.before) r in
    rw (there, not_first, not_second, row-here rows left place t r s, body-here rows (r ∷ left) place t s, s.goes, same) refl

pub so_far-refused : (rows left : List (List (List ℕ))) (place at : ℕ) (t : Tables) (r : List (List ℕ)) (c : Code) → IsSoFar rows (r ∷ left) place t → at ≡ place + 1
    → (if is_kind r (codes "end") then fields_fault 1 r else record_fault t.periods t.nodes t.names t.arcs t.flows r) ≡ Some c → RefusesAt (refused.Fault at c) rows
so_far-refused rows left place at t r c s e fault =
    let within = inside rows left place t r s in
    refuses-at rows place at c (omega arith) s.none (λ tail. so_far-fault tail rows left place t r s ∙ fault) e

pub so_far-no_end : (rows : List (List (List ℕ))) (place at : ℕ) (t : Tables) → IsSoFar rows [] place t → at ≡ place + 1 → RefusesAt (refused.Fault at code.NoEnd) rows
so_far-no_end rows place at t s e =
    let all = length-append s.before [] in
    let size = s.size in
    let end : length rows ≡ place = rw s.whole (omega arith) in
    let out : nat_lt place (length rows) ≡ false = grind (arith, nat_tests) in
    refuses-at rows place at code.NoEnd (omega arith) s.none (λ tail. rw (out, body-here rows [] place t s, s.goes) refl) e

-- ---- the end

drop-within : {X : Type 0} (n : ℕ) (before after : List X) → n ≤ length before → drop n (before ++ after) ≡ drop n before ++ after
drop-within zero before after h = refl
drop-within (suc n) [] after h = absurd (omega arith)
drop-within (suc n) (x ∷ xs) after h = drop-within n xs after (omega arith)

-- a fault at no place before this one and at this one is at none before the next
none-more : (f : ℕ → Option Code) (place next : ℕ) → next ≡ place + 1 → ((i : ℕ) → i < place → f i ≡ None) → f place ≡ None → (i : ℕ) → i < next → f i ≡ None
none-more f place next e none here i h = elim (cases_eq i place) [
  | inl last ↦ rw last here
  | inr other ↦ none i (omega arith)
]

body-is : (rows left : List (List (List ℕ))) (place : ℕ) (t : Tables) (r : List (List ℕ)) → (s : IsSoFar rows (r ∷ left) place t) → is_kind r (codes "end") ≡ true → body_of rows ≡ drop 2 s.before
body-is rows left place t r s end = rw (s.whole, drop-within 2 s.before (r ∷ left) s.two) (before_first-is is_end (drop 2 s.before) left r s.goes end)

-- from behind the first `end` on, one was read
any-later : {X : Type 0} (p : X → Bool) (before after : List X) (x : X) (k : ℕ) → p x ≡ true → length before < k → list_any p (take k (before ++ x ∷ after)) ≡ true
any-later p before after x zero here past = absurd (omega arith)
any-later p [] after x (suc k) here past = rw here refl
any-later p (b ∷ bs) after x (suc k) here past = elim (cases_Bool (p b)) [
  | inl t ↦ rw t refl
  | inr f ↦ rw f (any-later p bs after x k here (omega arith))
]

ended-from : (before left : List (List (List ℕ))) (r : List (List ℕ)) (place : ℕ) → 2 ≤ length before → is_end r ≡ true → length before < place → list_any is_end (drop 2 (take place (before ++ r ∷ left))) ≡ true
ended-from [] left r place two end past = absurd (omega arith)
ended-from (a ∷ []) left r place two end past = absurd (omega arith)
ended-from (a ∷ b ∷ rest) left r zero two end past = absurd (omega arith)
ended-from (a ∷ b ∷ rest) left r (suc zero) two end past = absurd (omega arith)
ended-from (a ∷ b ∷ rest) left r (suc (suc k)) two end past = any-later is_end rest left r k end (omega arith)

pub so_far-end : (rows left : List (List (List ℕ))) (place at : ℕ) (t : Tables) (r : List (List ℕ)) → IsSoFar rows (r ∷ left) place t → at ≡ place + 1
    → is_kind r (codes "end") ≡ true → fields_fault 1 r ≡ None → IsTextRead rows left t at
so_far-end rows left place at t r s e end one =
    let within = inside rows left place t r s in
    let two = s.two in
    let size = s.size in
    let body = body-is rows left place t r s end in
    let short = length-drop 2 s.before in
    let more = length_push s.before r in
    record {
      right = λ tail. none-more (λ k. fault_at tail rows k) place at e (s.none tail) (so_far-fault tail rows left place t r s ∙ rw (end, one) refl);
      ended = λ i h. rw s.whole (ended-from s.before left r i two end (omega arith));
      records = rw body (omega arith);
      within = omega arith;
      tables = s.tables ∙ ap (λ (l : List (List (List ℕ))). tables_of (periods_in rows) l) (sym body);
      left = rw (s.whole, sym (append_assoc s.before (r ∷ []) left)) (sym (drop_at (s.before ++ r ∷ []) left at (omega arith)));
    }

periods-of : (periods : ℕ) (body : List (List (List ℕ))) → (tables_of periods body).periods ≡ periods
unfolding tables_of
periods-of periods body = refl

pub so_far-more : (rows left : List (List (List ℕ))) (place at : ℕ) (t u : Tables) (r : List (List ℕ)) → IsSoFar rows (r ∷ left) place t → at ≡ place + 1
    → is_kind r (codes "end") ≡ false → record_fault t.periods t.nodes t.names t.arcs t.flows r ≡ None → u ≡ with_record t r → IsSoFar rows left at u
so_far-more rows left place at t u r s e goes fine made =
    let size = s.size in
    let two = s.two in
    let more = length_push s.before r in
    let body = drop 2 s.before in
    let same : record_fault t.periods t.nodes t.names t.arcs t.flows r ≡ body_fault (periods_in rows) body r =
    ap (λ (x : Tables). record_fault x.periods x.nodes x.names x.arcs x.flows r) s.tables ∙ tables-fault (periods_in rows) body r in
    let right : body_fault (periods_in rows) body r ≡ None = sym same ∙ fine in
    let grown : drop 2 (s.before ++ r ∷ []) ≡ drop 2 s.before ++ r ∷ [] = drop-within 2 s.before (r ∷ []) two in
    let none : list_any is_end (r ∷ []) ≡ false = rw goes refl in
    let number : t.periods ≡ periods_in rows = ap (λ (x : Tables). x.periods) s.tables ∙ periods-of (periods_in rows) body in
    record {
      before = s.before ++ r ∷ [];
      whole = s.whole ∙ sym (append_assoc s.before (r ∷ []) left);
      size = omega arith;
      two = omega arith;
      none = λ tail. none-more (λ k. fault_at tail rows k) place at e (s.none tail) (so_far-fault tail rows left place t r s ∙ rw (goes, fine) refl);
      goes = rw grown (list_any-append is_end body (r ∷ []) ∙ rw (s.goes, none) refl);
      tables = made ∙ ap (λ (x : Tables). with_record x r) s.tables ∙ sym (tables-more (periods_in rows) body r s.fine right) ∙ ap (λ (l : List (List (List ℕ))). tables_of (periods_in rows) l) (sym grown);
      fine = rw grown (fine-more body r s.fine (fine-none (periods_in rows) body r right));
      room = rw made (room-more t r (rw number s.some) s.room fine);
      kept = rw made (kept-more t r s.kept fine);
      some = s.some;
    }

-- what taking a row answered

pub row-refused : (e : Refused) (rows left : List (List (List ℕ))) (place at : ℕ) (t u : Tables) (r : List (List ℕ)) → IsSoFar rows (r ∷ left) place t → at ≡ place + 1
    → TakesRow (Err e) t u r at → RefusesAt e rows
row-refused (refused.Fault k c) rows left place at t u r s e h tail = so_far-refused rows left place k t r c s (h.0 ∙ e) h.1 tail
row-refused refused.Memory rows left place at t u r s e h tail = tt

-- where reading is, and what is left
pub so_far-size : (rows left : List (List (List ℕ))) (place : ℕ) (t : Tables) → IsSoFar rows left place t → place + length left ≡ length rows
so_far-size rows left place t s =
    let all = length-append s.before left in
    let size = s.size in
    rw s.whole (omega arith)
