-- The marks of the real arcs alone say which arcs may enter.
use Rattle.std.specs.Prelude.{◌≡◌, ◌↔◌, ℕ, ◌-◌, ◌<◌, ◌≤◌, List, [], ◌∷◌, length, take, min, Result, Ok, Err, MatchResult, IfOk, slice_index_or}
use Rattle.std.specs.List.{All, range_with_len}
use Rattle.std.proofs.lemmas.List.{length-append}
use Rattle.std.proofs.lemmas.List.FromFn.{length-range_with_len}
use Rattle.std.proofs.lemmas.List.Sums.{length-filter, count_by-le-length}
use Rattle.std.proofs.Common.{refl, sym, ap, subst, ◌∙◌, arith, zero, suc}
use Rattle.gain_graphs.specs.Arcs.{IsIn}
use Rattle.np_frac.specs.Ratio.{Ratio}
use Rattle.np_model.specs.declared.log.Mark.{Mark}
use Rattle.np_model.specs.declared.log.Mark.TheVariants as marked
use Rattle.np_model.specs.declared.rows.Overflow.{Overflow}
use Rattle.np_model.specs.Network.Flows.{Network}
use Rattle.np_model.specs.Basis.Graphs.{arc_at}
use Rattle.np_model.specs.Basis.Moves.{IsEligible, Gains}
use Rattle.arc_pricing.specs.Prices.{is_eligible}
use Rattle.np_model.specs.Basis.States.{State, Values, values_of, price}
use Rattle.arc_pricing.specs.Candidates.{cyclic, values_by, AreCandidates, IsFirstOverflow, IsCause}
use Rattle.arc_pricing.specs.Laws.{CyclicHasAll}
use Rattle.arc_pricing.specs.declared.refusal.PriceRefusal.{PriceRefusal}
use Rattle.arc_pricing.specs.declared.refusal.PriceRefusal.TheVariants as refusal
use Rattle.simplex_driver.specs.Picks.{OneOverflows, AllOverflow}
use Rattle.simplex_driver.proofs.Attempts.{place_in}
use Rattle.simplex_driver.specs.Found.{APriceOverflows, EachOverflows, AreListed, IsPriceCause}

part_at : (real a : ℕ) (marks : List Mark) → a < real → slice_index_or (take real marks) a marked.Lower ≡ slice_index_or marks a marked.Lower
part_at zero a marks l = absurd (omega (arith, l))
part_at (suc n) a [] l = refl
part_at (suc n) zero (m ∷ ms) l = refl
part_at (suc n) (suc a) (m ∷ ms) l = part_at n a ms (omega (arith, l))

module _ (net : Network) (real : ℕ) (s : State) (part : List Mark) (is : part ≡ take real s.marks) where
  same_mark : (a : ℕ) → a < real → (values_by part s.potentials).mark a ≡ (values_of s).mark a
  same_mark a l = ap (λ ms. slice_index_or ms a marked.Lower) is ∙ part_at real a s.marks l

  to_state : (a : ℕ) → IsEligible net real (values_by part s.potentials) a → IsEligible net real (values_of s) a
  to_state a h = record { is_open = h.is_open; gains = subst (λ m. Gains m (price (values_of s).potential (arc_at net.arcs a))) (same_mark a h.is_open.0) h.gains }

  of_state : (a : ℕ) → IsEligible net real (values_of s) a → IsEligible net real (values_by part s.potentials) a
  of_state a h = record { is_open = h.is_open; gains = subst (λ m. Gains m (price (values_of s).potential (arc_at net.arcs a))) (sym (same_mark a h.is_open.0)) h.gains }

  -- they are no more than the real arcs
  few_listed : (from : ℕ) (list : List ℕ) → AreCandidates net real (values_by part s.potentials) (cyclic from real) list → length list ≤ real
  few_listed from list h =
      let n = ap length h.eligible in
      let a = length-filter (is_eligible net real (values_by part s.potentials)) (cyclic from real) in
      let b = count_by-le-length (is_eligible net real (values_by part s.potentials)) (cyclic from real) in
      let c = length-append (range_with_len from (real - from)) (range_with_len 0 (min from real)) in
      let d = length-range_with_len from (real - from) in
      let e = length-range_with_len 0 (min from real) in
      omega (arith, n, a, b, c, d, e)

  pub are_listed : (cyclic_all : CyclicHasAll) (from : ℕ) (list : List ℕ) → AreCandidates net real (values_by part s.potentials) (cyclic from real) list
      → ((a : ℕ) → IsIn a list ↔ IsEligible net real (values_by part s.potentials) a) → AreListed net real (values_of s) list
  are_listed cyclic_all from list h all = (
    (λ a o. h.fit a ((cyclic_all from real a).1 o.0.0) (o.0, λ e. o.1 (sym (same_mark a o.0.0) ∙ e))),
    (λ a. ((λ i. to_state a ((all a).0 i)), (λ e. (all a).1 (of_state a e)))),
    few_listed from list h,
  )

  pub price_overflows : (from : ℕ) (overflow : Overflow) → IsFirstOverflow net real (values_by part s.potentials) (cyclic from real) overflow → APriceOverflows net real (values_of s) overflow
  price_overflows from overflow h = record {
    arc = h.arc;
    is_open = (h.priced.0, λ e. h.priced.1 (same_mark h.arc h.priced.0.0 ∙ e));
    past = h.overflows;
  }

  pub listed_is : (cyclic_all : CyclicHasAll) (from : ℕ) (result : Result (List ℕ) PriceRefusal)
      → MatchResult result (λ list. AreCandidates net real (values_by part s.potentials) (cyclic from real) list) (IsCause net real (values_by part s.potentials) (cyclic from real))
      → IfOk result (λ list. (a : ℕ) → IsIn a list ↔ IsEligible net real (values_by part s.potentials) a)
      → MatchResult result (AreListed net real (values_of s)) (IsPriceCause net real (values_of s))
  listed_is cyclic_all from (Ok list) h all = are_listed cyclic_all from list h all
  listed_is cyclic_all from (Err (refusal.Past overflow)) h all = price_overflows from overflow h
  listed_is cyclic_all from (Err refusal.Memory) h all = record {}

-- what holds of the attempts with the listed arcs holds of those with each eligible one
pub each_overflows : (net : Network) (real : ℕ) (s : Values) (list slice : List ℕ) (overflow : Overflow) → slice ≡ list → AreListed net real s list
    → OneOverflows net real s slice overflow × AllOverflow net real s slice → EachOverflows net real s overflow
each_overflows net real s list slice overflow e h k = record {
  arc = k.0.arc;
  eligible = (h.1 k.0.arc).0 (subst (IsIn k.0.arc) e k.0.listed);
  past = k.0.overflows;
  all = λ a i. k.1 a (subst (IsIn a) (sym e) ((h.1 a).1 i));
}

-- the same, by potentials that are those of the state
pub listed_by : (net : Network) (real : ℕ) (s : State) (part : List Mark) (potentials : List Ratio) → part ≡ take real s.marks → potentials ≡ s.potentials → CyclicHasAll
    → (from : ℕ) (result : Result (List ℕ) PriceRefusal)
    → MatchResult result (λ list. AreCandidates net real (values_by part potentials) (cyclic from real) list) (IsCause net real (values_by part potentials) (cyclic from real))
    → IfOk result (λ list. (a : ℕ) → IsIn a list ↔ IsEligible net real (values_by part potentials) a)
    → MatchResult result (AreListed net real (values_of s)) (IsPriceCause net real (values_of s))
listed_by net real s part potentials is same cyclic_all from result h all =
    listed_is net real s part is cyclic_all from result
    (subst (λ ps. MatchResult result (λ list. AreCandidates net real (values_by part ps) (cyclic from real) list) (IsCause net real (values_by part ps) (cyclic from real))) same h)
    (subst (λ ps. IfOk result (λ list. (a : ℕ) → IsIn a list ↔ IsEligible net real (values_by part ps) a)) same all)

pub part_is : (part given marks : List Mark) (count real : ℕ) → part ≡ take count given → given ≡ marks → count ≡ real → part ≡ take real marks
part_is part given marks count real e f n = e ∙ ap (take count) f ∙ ap (λ k. take k marks) n

-- listed arcs are real
pub listed_real : (net : Network) (real : ℕ) (s : Values) (list slice : List ℕ) → slice ≡ list → AreListed net real s list → All (λ a. a < real) slice
listed_real net real s list slice same h k d l =
    ((h.1 (slice_index_or slice k d)).0 (subst (IsIn (slice_index_or slice k d)) same (place_in slice d k l))).is_open.0

-- the first entry of a list that has one
pub first_in : (list items : List ℕ) (x : ℕ) → x ≡ slice_index_or items 0 x → items ≡ list → 0 < length items → IsIn x list
first_in list items x e f l = subst (IsIn x) f (subst (λ y. IsIn y items) (sym e) (place_in items x 0 l))
