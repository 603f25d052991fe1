-- The cyclic order, and lists of candidates as they grow.
use Rattle.std.specs.Prelude.{◌≡◌, ◌⊎◌, ◌↔◌, ℕ, ◌+◌, ◌-◌, ◌<◌, ◌≤◌, min, zero, suc, Bool, true, false, if◌then◌else◌, List, [], ◌∷◌, ◌++◌, filter, Err}
use Rattle.std.specs.List.{range_with_len}
use Rattle.std.proofs.Common.{refl, sym, ap, ◌∙◌, inl, inr, arith}
use Rattle.std.proofs.lemmas.List.{append_assoc}
use Rattle.std.proofs.lemmas.List.Elements.{filter-append}
use Rattle.gain_graphs.specs.Arcs.{IsIn}
use Rattle.gain_graphs.proofs.Lists.{in_front, in_back, in_append, range_holds, range_within, filter_holds}
use Rattle.np_model.specs.declared.rows.Overflow.{Overflow}
use Rattle.np_model.specs.Network.Flows.{Network}
use Rattle.np_model.specs.Basis.States.{Values}
use Rattle.np_model.specs.Basis.Moves.{IsEligible}
use Rattle.arc_pricing.specs.declared.refusal.PriceRefusal.{PriceRefusal}
use Rattle.arc_pricing.specs.declared.refusal.PriceRefusal.TheVariants as refusal
use Rattle.arc_pricing.specs.Prices.{is_eligible}
use Rattle.arc_pricing.proofs.Eligibility.{eligible_so, eligible_is}
use Rattle.arc_pricing.specs.Candidates.{cyclic, PriceFits, IsTested, IsFirstOverflow, IsCause}

-- the numbers from a place on, cut at another one
cut : (a m n : ℕ) → range_with_len a (m + n) ≡ range_with_len a m ++ range_with_len (a + m) n
cut a zero n = let e : 0 + n ≡ n = omega arith in let k : a + 0 ≡ a = omega arith in rw (e, k) refl
cut a (suc m) n =
    let e : suc m + n ≡ suc (m + n) = omega arith in
    let k : a + 1 + m ≡ a + suc m = omega arith in
    rw e (ap (λ ks. a ∷ ks) (cut (a + 1) m n ∙ ap (λ (i : ℕ). range_with_len (a + 1) m ++ range_with_len i n) k))

pub cut_at : (start here end : ℕ) → start ≤ here → here < end → range_with_len start (end - start) ≡ range_with_len start (here - start) ++ here ∷ range_with_len (here + 1) (end - (here + 1))
cut_at start here end h k =
    let e : end - start ≡ (here - start) + suc (end - (here + 1)) = omega arith in
    let f : start + (here - start) ≡ here = omega arith in
    rw e (cut start (here - start) (suc (end - (here + 1))) ∙ rw f refl)

range_more : (start here : ℕ) → start ≤ here → range_with_len start (here + 1 - start) ≡ range_with_len start (here - start) ++ here ∷ []
range_more start here h =
    let e : here + 1 - start ≡ (here - start) + suc zero = omega arith in
    let f : start + (here - start) ≡ here = omega arith in
    rw e (cut start (here - start) (suc zero) ∙ rw f refl)

pub cyclic_holds : (from n a : ℕ) → IsIn a (cyclic from n) ↔ (a < n)
cyclic_holds from n a = (
  (λ i. elim (in_append a (range_with_len from (n - from)) (range_with_len 0 (min from n)) i) [
    | inl l ↦ let h = range_within from (n - from) a l in omega (arith, h.0, h.1)
    | inr r ↦ let h = range_within 0 (min from n) a r in omega (arith, h.1)
  ]),
  (λ below. elim (sides from a) [
    | inl l ↦ in_front a (range_with_len from (n - from)) (range_with_len 0 (min from n)) (range_holds from (n - from) a l (omega arith))
    | inr r ↦ in_back a (range_with_len from (n - from)) (range_with_len 0 (min from n)) (range_holds 0 (min from n) a (omega arith) (omega arith))
  ]),
)
  where
    sides : (m k : ℕ) → (m ≤ k) ⊎ (k < m)
    sides m k = grind arith

pub cyclic_is : (from n begin : ℕ) → begin ≡ min from n → (from < n) ⊎ (n ≡ 0) → cyclic from n ≡ range_with_len begin (n - begin) ++ range_with_len 0 (begin - 0)
cyclic_is from n begin e (inl below) =
    let same : begin ≡ from = omega arith in
    let least : min from n ≡ begin - 0 = omega arith in
    rw (same, least) (rw same refl)
cyclic_is from n begin e (inr none) =
    let left : n - from ≡ 0 = omega arith in
    let more : n - begin ≡ 0 = omega arith in
    let least : min from n ≡ begin - 0 = omega arith in
    rw (left, more, least) refl

-- ---- the list as it grows

pub joined : (p : ℕ → Bool) (xs ys order none first second : List ℕ) → none ≡ [] → first ≡ none ++ filter p xs → second ≡ first ++ filter p ys → order ≡ xs ++ ys
    → second ≡ filter p order
joined p xs ys order none first second a b c e = c ∙ rw (b, a, e) (sym (filter-append p xs ys))

pub one_more : (p : ℕ → Bool) (start here : ℕ) (xs ys zs : List ℕ) (b : Bool) → start ≤ here → b ≡ p here → ys ≡ xs ++ filter p (range_with_len start (here - start))
    → zs ≡ ys ++ (if b then here ∷ [] else []) → zs ≡ xs ++ filter p (range_with_len start (here + 1 - start))
one_more p start here xs ys zs b h e before after =
    after ∙ rw (before, e) (append_assoc xs (filter p (range_with_len start (here - start))) (if p here then here ∷ [] else []))
    ∙ ap (λ t. xs ++ t) (sym (ap (λ t. filter p t) (range_more start here h) ∙ filter-append p (range_with_len start (here - start)) (here ∷ [])))

pub one_fits : (net : Network) (real : ℕ) (s : Values) (start here : ℕ) → ((a : ℕ) → start ≤ a → a < here → PriceFits net real s a) → PriceFits net real s here
    → (a : ℕ) → start ≤ a → a < here + 1 → PriceFits net real s a
one_fits net real s start here before at a h k = elim (cases a here k) [ inl e ↦ rw e at | inr l ↦ before a h l ]
  where
    cases : (a b : ℕ) → a < b + 1 → (a ≡ b) ⊎ (a < b)
    cases a b l = grind arith

-- an overflow at the next arc
pub here_first : (net : Network) (real : ℕ) (s : Values) (start here end : ℕ) (o : Overflow) → start ≤ here → here < end
    → ((a : ℕ) → start ≤ a → a < here → PriceFits net real s a) → IsTested net real s here (Err o)
    → IsFirstOverflow net real s (range_with_len start (end - start)) o
here_first net real s start here end o h k before at = record {
  before = range_with_len start (here - start);
  arc = here;
  after = range_with_len (here + 1) (end - (here + 1));
  in_order = cut_at start here end h k;
  earlier = λ a i. let r = range_within start (here - start) a i in before a r.0 (omega (arith, r.1));
  priced = at.0;
  overflows = at.1;
}

-- an overflow behind arcs without one
pub behind : (net : Network) (real : ℕ) (s : Values) (xs ys : List ℕ) (r : PriceRefusal) → ((a : ℕ) → IsIn a xs → PriceFits net real s a)
    → IsCause net real s ys r → IsCause net real s (xs ++ ys) r
behind net real s xs ys (refusal.Past o) fit c = record {
  before = xs ++ c.before;
  arc = c.arc;
  after = c.after;
  in_order = ap (λ t. xs ++ t) c.in_order ∙ sym (append_assoc xs c.before (c.arc ∷ c.after));
  earlier = λ a i. elim (in_append a xs c.before i) [ inl l ↦ fit a l | inr m ↦ c.earlier a m ];
  priced = c.priced;
  overflows = c.overflows;
}
behind net real s xs ys refusal.Memory fit c = tt

-- the list has the eligible arcs
pub has_all : (net : Network) (real : ℕ) (s : Values) (from : ℕ) (list : List ℕ) → list ≡ filter (is_eligible net real s) (cyclic from real)
    → (a : ℕ) → IsIn a list ↔ IsEligible net real s a
has_all net real s from list e a =
    let held = filter_holds (is_eligible net real s) (cyclic from real) a in
    let order = cyclic_holds from real a in
    rw e (
      (λ i. eligible_so net real s a (held.0 i).1),
      (λ h. held.1 (order.1 h.is_open.0, eligible_is net real s a h)),
    )
