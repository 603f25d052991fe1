-- Where each staged arc stands.
use Rattle.std.specs.Prelude.{◌≡◌, ℕ, zero, suc, ◌+◌, ◌-◌, ◌*◌, ◌==◌, ◌<◌, ◌≤◌, ◌&&◌, not, Bool, true, false, Option, Some, List, [], ◌∷◌, ◌++◌, length, take, drop, if◌then◌else◌}
use Rattle.std.specs.List.{slice_get, filter, filter_map, flat_map, enumerate_from, range_with_len, cons_option}
use Rattle.std.proofs.Common.{refl, arith, sym, subst, ap, ◌∙◌, get_or, append_assoc, inl, inr}
use Rattle.std.proofs.Math.Seq.{get_or-append_seam, take-length, drop-cons}
use Rattle.std.proofs.lemmas.Bool.{cases_Bool, ne_eqb}
use Rattle.std.proofs.lemmas.List.{length-append, length-take-le, take-append-drop, append-nil}
use Rattle.std.proofs.lemmas.List.Elements.{filter_map-append}
use Rattle.std.proofs.lemmas.List.Concat.{flat_map-append}
use Rattle.std.proofs.lemmas.Option.{slice_get_read, slice_get_within, get_or_from_slice_get}
use Rattle.np_model.specs.declared.scheme.Flow.{Flow}
use Rattle.np_model.specs.declared.scheme.Scheme.{Scheme}
use Rattle.np_model.specs.Scheme.Segments.{Stage}
use Rattle.np_model.specs.Scheme.Kinds.{is_hold}
use Rattle.np_model.specs.Scheme.Plans.{stage_in, stage_of, staged}
use Rattle.period_expand.specs.Places.{arcs_in, StandsAtItsPlace, HasNoOthers}
use Rattle.period_expand.proofs.Grows.{enumerate_from-append}

-- ---- how many arcs a period has

-- by whether it is the last one
abbrev kept : Bool → List Flow → ℕ
kept last flows = if last then length (filter (λ flow. not (is_hold flow.kind)) flows) else length flows

stages-length : (periods k period n : ℕ) (flows : List Flow) (last : Bool) → (period == periods) ≡ last →
    length (filter_map (stage_of periods k period) (enumerate_from n flows)) ≡ kept last flows
stages-length periods k period n [] true e = refl
stages-length periods k period n [] false e = refl
stages-length periods k period n (flow ∷ flows) true e =
    let rest = stages-length periods k period (n + 1) flows true e in
    elim (cases_Bool (is_hold flow.kind)) [ inl t ↦ rw (e, t) rest | inr f ↦ rw (e, f) (ap suc rest) ]
stages-length periods k period n (flow ∷ flows) false e =
    let rest = stages-length periods k period (n + 1) flows false e in
    elim (cases_Bool (is_hold flow.kind)) [ inl t ↦ rw (e, t) (ap suc rest) | inr f ↦ rw (e, f) (ap suc rest) ]

-- periods with so many entries each
pieces-length : {Y : Type 0} (f : ℕ → List Y) (m a n : ℕ) → ((p : ℕ) → a ≤ p → p < a + n → length (f p) ≡ m) → length (flat_map f (range_with_len a n)) ≡ n * m
pieces-length f m a zero h = omega arith
pieces-length f m a (suc n) h =
    let one = h a (omega arith) (omega arith) in
    let rest = pieces-length f m (a + 1) n (λ p low high. h p (omega arith) (omega arith)) in
    omega (arith, length-append (f a) (flat_map f (range_with_len (a + 1) n)), one, rest)

-- ---- a list around one entry

range_split : (a m n : ℕ) → range_with_len a (m + suc n) ≡ range_with_len a m ++ (a + m) ∷ range_with_len (a + m + 1) n
range_split a zero n = let e : 0 + suc n ≡ suc n = omega arith in let k : a + 0 ≡ a = omega arith in rw (e, k) refl
range_split a (suc m) n =
    let e : suc m + suc n ≡ suc (m + suc n) = omega arith in
    let k : a + 1 + m ≡ a + suc m = omega arith in
    rw e (ap (λ ks. a ∷ ks) (range_split (a + 1) m n ∙ ap (λ (i : ℕ). range_with_len (a + 1) m ++ i ∷ range_with_len (i + 1) n) k))

seam : {Y : Type 0} (xs ys zs : List Y) (y : Y) (i : ℕ) → zs ≡ xs ++ y ∷ ys → i ≡ length xs → slice_get zs i ≡ Some y
seam xs ys zs y i e k =
    let size : length zs ≡ length xs + suc (length ys) = ap length e ∙ length-append xs (y ∷ ys) in
    let read : get_or zs i y ≡ y = ap (λ ws. get_or ws i y) e ∙ ap (λ (n : ℕ). get_or (xs ++ y ∷ ys) n y) k ∙ get_or-append_seam xs y ys y in
    slice_get_read zs (length zs) i y refl (omega arith) (sym read)

split_at : {X : Type 0} (xs : List X) (i : ℕ) (x : X) → slice_get xs i ≡ Some x → xs ≡ take i xs ++ x ∷ drop (suc i) xs
split_at xs i x e =
    let within : i < length xs = slice_get_within xs i x e in
    sym (take-append-drop i xs) ∙ ap (λ ys. take i xs ++ ys) (drop-cons xs i x within ∙ ap (λ y. y ∷ drop (suc i) xs) (get_or_from_slice_get xs i x x e))

-- a flow whose stage there is gives that entry, behind those of the earlier flows
flow_at : {X Y : Type 0} (f : ℕ × X → Option Y) (xs : List X) (i : ℕ) (x : X) (y : Y) → slice_get xs i ≡ Some x → f (i, x) ≡ Some y →
    filter_map f (enumerate_from 0 xs) ≡ filter_map f (enumerate_from 0 (take i xs)) ++ y ∷ filter_map f (enumerate_from (i + 1) (drop (suc i) xs))
flow_at f xs i x y e s =
    let within : i < length xs = slice_get_within xs i x e in
    let size : 0 + length (take i xs) ≡ i = omega (arith, length-take-le i xs (omega arith)) in
    ap (λ ys. filter_map f (enumerate_from 0 ys)) (split_at xs i x e)
    ∙ ap (filter_map f) (enumerate_from-append 0 (take i xs) (x ∷ drop (suc i) xs))
    ∙ filter_map-append f (enumerate_from 0 (take i xs)) (enumerate_from (0 + length (take i xs)) (x ∷ drop (suc i) xs))
    ∙ ap (λ (n : ℕ). filter_map f (enumerate_from 0 (take i xs)) ++ cons_option (f (n, x)) (filter_map f (enumerate_from (n + 1) (drop (suc i) xs)))) size
    ∙ ap (λ o. filter_map f (enumerate_from 0 (take i xs)) ++ cons_option o (filter_map f (enumerate_from (i + 1) (drop (suc i) xs)))) s

-- a period gives its piece, behind those of the earlier periods
period_at : {Y : Type 0} (f : ℕ → List Y) (n m : ℕ) → flat_map f (range_with_len 1 (n + suc m)) ≡ flat_map f (range_with_len 1 n) ++ (f (1 + n) ++ flat_map f (range_with_len (1 + n + 1) m))
period_at f n m =
    ap (flat_map f) (range_split 1 n m) ∙ flat_map-append f (range_with_len 1 n) ((1 + n) ∷ range_with_len (1 + n + 1) m)

-- ---- the laws

-- the pieces of a scheme
abbrev pub piece : Scheme → ℕ → List Stage
piece scheme period = filter_map (stage_of scheme.periods (length scheme.nodes) period) (enumerate_from 0 scheme.flows)

earlier_length : (scheme : Scheme) (n : ℕ) → n < scheme.periods → length (flat_map (piece scheme) (range_with_len 1 n)) ≡ n * length scheme.flows
earlier_length scheme n h =
    pieces-length (piece scheme) (length scheme.flows) 1 n
    (λ p low high. stages-length scheme.periods (length scheme.nodes) p 0 scheme.flows false (ne_eqb p scheme.periods (λ e. absurd (omega arith))))

stands_by : (scheme : Scheme) (n m number : ℕ) (flow : Flow) → n + suc m ≡ scheme.periods → slice_get scheme.flows number ≡ Some flow →
    (is_hold flow.kind && (n + 1 == scheme.periods)) ≡ false →
    slice_get (staged scheme) (n * length scheme.flows + arcs_in scheme (n + 1) (take number scheme.flows)) ≡ Some (stage_in (length scheme.nodes) (n + 1) (number, flow))
stands_by scheme n m number flow e at kept =
    let k = length scheme.nodes in
    let f = stage_of scheme.periods k (n + 1) in
    let stage = stage_in k (n + 1) (number, flow) in
    let some : f (number, flow) ≡ Some stage = rw kept refl in
    let first = filter_map f (enumerate_from 0 (take number scheme.flows)) in
    let last = filter_map f (enumerate_from (number + 1) (drop (suc number) scheme.flows)) in
    let before = flat_map (piece scheme) (range_with_len 1 n) in
    let after = flat_map (piece scheme) (range_with_len (1 + n + 1) m) in
    let next : 1 + n ≡ n + 1 = omega arith in
    let whole : staged scheme ≡ (before ++ first) ++ stage ∷ (last ++ after) =
    ap (λ (t : ℕ). flat_map (piece scheme) (range_with_len 1 t)) (sym e) ∙ period_at (piece scheme) n m
    ∙ ap (λ (p : ℕ). before ++ (piece scheme p ++ after)) next
    ∙ ap (λ ys. before ++ (ys ++ after)) (flow_at f scheme.flows number flow stage at some)
    ∙ ap (λ ys. before ++ ys) (append_assoc first (stage ∷ last) after)
    ∙ sym (append_assoc before first (stage ∷ (last ++ after))) in
    let size = stages-length scheme.periods k (n + 1) 0 (take number scheme.flows) (n + 1 == scheme.periods) refl in
    let early = earlier_length scheme n (omega arith) in
    seam (before ++ first) (last ++ after) (staged scheme) stage _ whole (omega (arith, length-append before first, early, size))

pub stands : StandsAtItsPlace
stands scheme period number flow low high at kept =
    let again : period - 1 + 1 ≡ period = omega arith in
    let e : period - 1 + suc (scheme.periods - period) ≡ scheme.periods = omega arith in
    let kept' : (is_hold flow.kind && (period - 1 + 1 == scheme.periods)) ≡ false =
    ap (λ (p : ℕ). is_hold flow.kind && (p == scheme.periods)) again ∙ kept in
    subst
    (λ (p : ℕ). slice_get (staged scheme) ((period - 1) * length scheme.flows + arcs_in scheme p (take number scheme.flows)) ≡ Some (stage_in (length scheme.nodes) p (number, flow)))
    again (stands_by scheme (period - 1) (scheme.periods - period) number flow e at kept')

-- the pieces of all periods but the last, and that of the last
pub last_apart : (scheme : Scheme) → staged scheme ≡ flat_map (piece scheme) (range_with_len 1 (scheme.periods - 1)) ++ piece scheme scheme.periods
last_apart scheme =
    let some = scheme.valid.some_period in
    let e : scheme.periods - 1 + suc 0 ≡ scheme.periods = omega arith in
    let next : 1 + (scheme.periods - 1) ≡ scheme.periods = omega arith in
    let before = flat_map (piece scheme) (range_with_len 1 (scheme.periods - 1)) in
    ap (λ (t : ℕ). flat_map (piece scheme) (range_with_len 1 t)) (sym e) ∙ period_at (piece scheme) (scheme.periods - 1) 0
    ∙ ap (λ (p : ℕ). before ++ (piece scheme p ++ [])) next ∙ ap (λ ys. before ++ ys) (append-nil (piece scheme scheme.periods))

pub no_others : HasNoOthers
no_others scheme =
    let periods = scheme.periods in
    let some = scheme.valid.some_period in
    let before = flat_map (piece scheme) (range_with_len 1 (periods - 1)) in
    let size = stages-length periods (length scheme.nodes) periods 0 scheme.flows (periods == periods) refl in
    let early = earlier_length scheme (periods - 1) (omega arith) in
    let all = ap (arcs_in scheme periods) (take-length scheme.flows) in
    omega (arith, ap length (last_apart scheme), length-append before (piece scheme periods), early, size, all)
