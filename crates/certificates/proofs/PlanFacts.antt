-- The plan of claims fits the scheme.
use Rattle.std.specs.Prelude.{◌≡◌, ◌≢◌, ℕ, ◌≤◌, ⊤, ◌&&◌, ◌||◌, Bool, true, false, IsTrue, Option, Some, None, IsSome, IfSome, IsSomeAnd, option_map, List, [], ◌∷◌, length, codes, if◌then◌else◌}
use Rattle.std.specs.List.{All, filter_map, cons_option}
use Rattle.std.specs.Option.{option_or, option_and_then}
use Rattle.std.specs.Str.{bytes_eq}
use Rattle.std.proofs.Common.{refl, sym, ◌∙◌, inl, inr}
use Rattle.std.proofs.lemmas.Bool.{cases_Bool}
use Rattle.std.proofs.lemmas.List.{length-map}
use Rattle.std.proofs.lemmas.List.Elements.{All-nil, All-cons}
use Rattle.np_records.specs.Records.{field_of}
use Rattle.np_model.specs.declared.scheme.Scheme.{Scheme}
use Rattle.np_model.specs.declared.plan.Plan.{Plan}
use Rattle.np_model.specs.declared.log.Entry.{Entry}
use Rattle.np_model.specs.declared.rows.Overflow.{Overflow as TheOverflow}
use Rattle.np_model.specs.declared.log.Mark.TheVariants as mark
use Rattle.np_model.specs.declared.rows.Row.{Row}
use Rattle.np_model.specs.declared.rows.Row.TheVariants.{A1, A2, A3, A4, A5, A6, A7, A8}
use Rattle.np_model.specs.declared.rows.Place.TheVariants.{Node, Arc, Turn, Check}
use Rattle.np_model.specs.Scheme.Fits.{IsShortNumber, PlaceFits, LogFits, PlanFits}
use Rattle.np_model.specs.Scheme.Verdicts.{mark_word, parts_of}
use Rattle.np_model.specs.Scheme.Plans.{staged}
use Rattle.np_frac.specs.Text.{is_number}
use Rattle.np_frac.proofs.TextTests.{number-reads, and-left, and-right}
use Rattle.certificates.specs.Words.{mark_of, row_of, check_row_of}
use Rattle.np_records.specs.Rows.{whole_in}
use Rattle.certificates.specs.Fields.{place_in_row, past_in, overflow_in, entry_in}
use Rattle.certificates.specs.Claims.{claims_of, outline_of, of_kind}
use Rattle.np_records.specs.Faults.{found}
use Rattle.certificates.specs.Faults.{is_there, is_complete}
use Rattle.certificates.specs.Grammar.{staged_amounts, node_amounts, IsMadeOf}
use Rattle.np_records.proofs.NumberFacts.{number-few}
use Rattle.certificates.proofs.Found.{amounts-length}

-- ---- what an option has

module _ {X Y : Type 0} (P : X → Type 0) (Q : Y → Type 0) where
  map-has : (o : Option X) (g : X → Y) → IfSome o P → ((x : X) → P x → Q (g x)) → IfSome (option_map g o) Q
  map-has None g h s = tt
  map-has (Some x) g h s = s x h

  then-has : (o : Option X) (g : X → Option Y) → IfSome o P → ((x : X) → P x → IfSome (g x) Q) → IfSome (option_and_then g o) Q
  then-has None g h s = tt
  then-has (Some x) g h s = s x h

any-has : {X : Type 0} (o : Option X) → IfSome o (λ x. ⊤)
any-has None = tt
any-has (Some x) = tt

or-has : {X : Type 0} (P : X → Type 0) (a b : Option X) → IfSome a P → IfSome b P → IfSome (option_or a b) P
or-has P None b h k = k
or-has P (Some x) b h k = h

found-has : {X Y : Type 0} (P : Y → Type 0) (f : X → Option Y) (xs : List X) → ((x : X) → IfSome (f x) P) → IfSome (found f xs) P
found-has P f [] h = tt
found-has P f (x ∷ xs) h = or-has P (f x) (found f xs) (h x) (found-has P f xs h)

cons-has : {Y : Type 0} (P : Y → Type 0) (o : Option Y) (ys : List Y) → IfSome o P → All P ys → All P (cons_option o ys)
cons-has P None ys h all = all
cons-has P (Some y) ys h all = All-cons P y ys h all

listed-has : {X Y : Type 0} (P : Y → Type 0) (f : X → Option Y) (xs : List X) → ((x : X) → IfSome (f x) P) → All P (filter_map f xs)
listed-has P f [] h = All-nil P
listed-has P f (x ∷ xs) h = cons-has P (f x) (filter_map f xs) (h x) (listed-has P f xs h)

kind-has : {X : Type 0} (P : X → Type 0) (word : List ℕ) (reads : List (List ℕ) → Option X) (r : List (List ℕ)) → IfSome (reads r) P → IfSome (of_kind word reads r) P
kind-has P word reads r h = by (bytes_eq (field_of r 0) word) refl
  where
    by : (b : Bool) → bytes_eq (field_of r 0) word ≡ b → IfSome (of_kind word reads r) P
    by true e = rw e h
    by false e = rw e tt

-- ---- the fields

whole-has : (bs : List ℕ) → IfSome (whole_in bs) IsShortNumber
whole-has bs = elim (cases_Bool (is_number 9 bs)) [
  | inl t ↦ rw t (number-few bs (number-reads 9 bs t))
  | inr f ↦ rw f tt
]

arc-or-turn : (row : Row) (bs : List ℕ) → PlaceFits row Turn → IfSome (option_map Arc (whole_in bs)) (PlaceFits row) → IfSome (place_in_row A3 bs) (PlaceFits row)
arc-or-turn row bs turn arc = elim (cases_Bool (bytes_eq bs (codes "turn"))) [
  | inl t ↦ rw t turn
  | inr f ↦ rw f arc
]

place-has : (row : Row) (bs : List ℕ) → IfSome (place_in_row row bs) (PlaceFits row)
place-has A1 bs = map-has IsShortNumber (PlaceFits A1) (whole_in bs) Node (whole-has bs) (λ x h. h)
place-has A2 bs = map-has IsShortNumber (PlaceFits A2) (whole_in bs) Arc (whole-has bs) (λ x h. h)
place-has A3 bs = arc-or-turn A3 bs tt (map-has IsShortNumber (PlaceFits A3) (whole_in bs) Arc (whole-has bs) (λ x h. h))
place-has A4 bs = map-has IsShortNumber (PlaceFits A4) (whole_in bs) Arc (whole-has bs) (λ x h. h)
place-has A5 bs = map-has IsShortNumber (PlaceFits A5) (whole_in bs) Arc (whole-has bs) (λ x h. h)
place-has A6 bs = map-has IsShortNumber (PlaceFits A6) (whole_in bs) Arc (whole-has bs) (λ x h. h)
place-has A7 bs = arc-or-turn A7 bs tt (map-has IsShortNumber (PlaceFits A7) (whole_in bs) Arc (whole-has bs) (λ x h. h))
place-has A8 bs = map-has (λ x. ⊤) (PlaceFits A8) (check_row_of bs) Check (any-has (check_row_of bs)) (λ x h. tt)

abbrev pub HasPlace : TheOverflow → Type 0
HasPlace overflow = PlaceFits overflow.row overflow.place

overflow-has : (r : List (List ℕ)) → IfSome (overflow_in r) HasPlace
overflow-has r =
    then-has (λ row. ⊤) HasPlace (row_of (field_of r 1)) _ (any-has (row_of (field_of r 1)))
    (λ row _. then-has (PlaceFits row) HasPlace (place_in_row row (field_of r 2)) _ (place-has row (field_of r 2))
    (λ place fits. map-has (λ past. ⊤) HasPlace (past_in r) _ (any-has (past_in r)) (λ past _. fits)))

mark-has : (bs : List ℕ) → IfSome (mark_of bs) (λ m. m ≢ mark.Basic)
mark-has bs = elim (cases_Bool (bytes_eq bs (mark_word mark.Lower))) [
  | inl t ↦ rw t (λ e. cc e)
  | inr f ↦ elim (cases_Bool (bytes_eq bs (mark_word mark.Upper))) [
    | inl t ↦ rw (f, t) (λ e. cc e)
    | inr g ↦ rw (f, g) tt
  ]
]

abbrev pub HasNumbers : Entry → Type 0
HasNumbers entry = IsShortNumber entry.enter × IsShortNumber entry.leave

abbrev pub IsAtBound : Entry → Type 0
IsAtBound entry = entry.leave_at ≢ mark.Basic

entry-numbers : (r : List (List ℕ)) → IfSome (entry_in r) HasNumbers
entry-numbers r =
    then-has IsShortNumber HasNumbers (whole_in (field_of r 2)) _ (whole-has (field_of r 2))
    (λ enter a. then-has IsShortNumber HasNumbers (whole_in (field_of r 3)) _ (whole-has (field_of r 3))
    (λ leave b. map-has (λ m. ⊤) HasNumbers (mark_of (field_of r 4)) _ (any-has (mark_of (field_of r 4))) (λ m _. (a, b))))

entry-at : (r : List (List ℕ)) → IfSome (entry_in r) IsAtBound
entry-at r =
    then-has (λ n. ⊤) IsAtBound (whole_in (field_of r 2)) _ (any-has (whole_in (field_of r 2)))
    (λ enter _. then-has (λ n. ⊤) IsAtBound (whole_in (field_of r 3)) _ (any-has (whole_in (field_of r 3)))
    (λ leave _. map-has (λ m. m ≢ mark.Basic) IsAtBound (mark_of (field_of r 4)) _ (mark-has (field_of r 4)) (λ m h. h)))

-- ---- the plan

-- a part that is asked for is there, and has the property
there-and : {X : Type 0} (P : X → Type 0) (b : Bool) (o : Option X) → is_there b o ≡ true → IfSome o P → IsTrue b → IsSomeAnd (if b then o else None) P
there-and P true None done h asked = absurd (cc done)
there-and P true (Some x) done h asked = h
there-and P false o done h asked = absurd (cc asked)

-- one of two that is asked for is there
there-some : {X : Type 0} (a b : Bool) (o p : Option X) → is_there a o ≡ true → is_there b p ≡ true → IsTrue (a || b) → IsSome (if a then o else if b then p else None)
there-some true b None p h k asked = absurd (cc h)
there-some true b (Some x) p h k asked = refl
there-some false true o None h k asked = absurd (cc k)
there-some false true o (Some x) h k asked = refl
there-some false false o p h k asked = absurd (cc asked)

length-if : {X : Type 0} (b : Bool) (xs : List X) (n : ℕ) → length xs ≡ n → IsTrue b → length (if b then xs else []) ≡ n
length-if true xs n e asked = e
length-if false xs n e asked = absurd (cc asked)

module _ (scheme : Scheme) (rows : List (List (List ℕ))) (plan : Plan) where
  log-fits : plan.log.turned ≡ (claims_of (outline_of scheme) rows).turned → plan.log.entries ≡ (claims_of (outline_of scheme) rows).entries
      → length (claims_of (outline_of scheme) rows).entries ≤ 1000000 → LogFits plan.log
  unfolding claims_of
  log-fits turned entries few = record {
    turned = rw turned (found-has IsShortNumber (of_kind (codes "turned") (λ r. whole_in (field_of r 1))) rows (λ r. kind-has IsShortNumber (codes "turned") (λ x. whole_in (field_of x 1)) r (whole-has (field_of r 1))));
    few = rw entries few;
    numbers = rw entries (listed-has HasNumbers (of_kind (codes "pivot") entry_in) rows (λ r. kind-has HasNumbers (codes "pivot") entry_in r (entry-numbers r)));
    at_bounds = rw entries (listed-has IsAtBound (of_kind (codes "pivot") entry_in) rows (λ r. kind-has IsAtBound (codes "pivot") entry_in r (entry-at r)));
  }

  arc-number : IfSome (claims_of (outline_of scheme) rows).arc IsShortNumber
  unfolding claims_of
  arc-number = found-has IsShortNumber (of_kind (codes "arc") (λ r. whole_in (field_of r 1))) rows (λ r. kind-has IsShortNumber (codes "arc") (λ x. whole_in (field_of x 1)) r (whole-has (field_of r 1)))

  overflow-place : IfSome (claims_of (outline_of scheme) rows).overflow HasPlace
  unfolding claims_of
  overflow-place = found-has HasPlace (of_kind (codes "past") overflow_in) rows (λ r. kind-has HasPlace (codes "past") overflow_in r (overflow-has r))

  prices-length : length (claims_of (outline_of scheme) rows).prices ≡ length scheme.supply
  unfolding claims_of
  prices-length = amounts-length (codes "price") scheme.nodes scheme.periods rows ∙ sym scheme.valid.one_each

  pub plan-fits : IsMadeOf scheme (claims_of (outline_of scheme) rows) plan → is_complete plan.verdict (claims_of (outline_of scheme) rows) ≡ true
      → length (claims_of (outline_of scheme) rows).entries ≤ 1000000 → PlanFits scheme plan
  plan-fits m done few =
      let t = claims_of (outline_of scheme) rows in
      let parts = parts_of plan.verdict in
      let three : (is_there parts.cost t.cost && is_there parts.gap t.gap && is_there parts.arc t.arc) ≡ true = and-left _ (is_there parts.overflow t.overflow) done in
      let two : (is_there parts.cost t.cost && is_there parts.gap t.gap) ≡ true = and-left _ (is_there parts.arc t.arc) three in
      let cost : is_there parts.cost t.cost ≡ true = and-left _ (is_there parts.gap t.gap) two in
      let gap : is_there parts.gap t.gap ≡ true = and-right (is_there parts.cost t.cost) _ two in
      let arc : is_there parts.arc t.arc ≡ true = and-right (is_there parts.cost t.cost && is_there parts.gap t.gap) _ three in
      let overflow : is_there parts.overflow t.overflow ≡ true = and-right (is_there parts.cost t.cost && is_there parts.gap t.gap && is_there parts.arc t.arc) _ done in
      record {
        amount = λ asked. rw m.amount (there-some parts.cost parts.gap t.cost t.gap cost gap asked);
        arc = λ asked. rw m.arc (there-and IsShortNumber parts.arc t.arc arc arc-number asked);
        overflow = λ asked. rw m.overflow (there-and HasPlace parts.overflow t.overflow overflow overflow-place asked);
        flows = λ asked. rw m.flows (length-if parts.flows (staged_amounts scheme t.flows) (length (staged scheme)) (length-map (staged scheme) _) asked);
        prices = λ asked. rw m.prices (length-if parts.prices (node_amounts t.prices) (length scheme.supply) (length-map t.prices _ ∙ prices-length) asked);
        ray = λ asked. rw m.ray (length-if parts.ray (staged_amounts scheme t.ray) (length (staged scheme)) (length-map (staged scheme) _) asked);
        log = log-fits m.turned m.entries few;
      }
