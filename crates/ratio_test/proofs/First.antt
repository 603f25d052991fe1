-- The arc that stops first, as one arc after the other is looked at.
use Rattle.std.specs.Prelude.{◌≡◌, ◌≢◌, ◌⊎◌, ℕ, ◌<◌, ◌≤◌, ◌==◌, ◌&&◌, ◌||◌, not, Bool, true, false, if◌then◌else◌, List, [], ◌∷◌, ◌++◌, Option, Some, None, Result, Ok, Err}
use Rattle.std.specs.Result.{IsOk}
use Rattle.std.proofs.Common.{refl, sym, ◌∙◌, subst, inl, inr, arith}
use Rattle.std.proofs.lemmas.Bool.Decides.{eqb_tells}
use Rattle.gain_graphs.specs.Arcs.{IsIn}
use Rattle.gain_graphs.proofs.Lists.{in_front, in_back, in_append}
use Rattle.np_frac.specs.Ratio.{Ratio, is_below, ◌≤ᵣ◌, ◌<ᵣ◌}
use Rattle.np_frac.specs.Exact.{◌▷◌}
use Rattle.np_frac.specs.declared.frac.Past.{Past}
use Rattle.np_frac.proofs.RatioLaws.{is_below_true, is_below_false, ≤ᵣ_trans, ≤ᵣ_same, <ᵣ_is_≤ᵣ, clash}
use Rattle.np_model.specs.Rows.Arcs.{all_of}
use Rattle.ratio_test.specs.Limits.{bound_ahead}
use Rattle.ratio_test.specs.Steps.Soonest.{soonest, with_limit, IsSoonest, IsSoonestOf}
use Rattle.ratio_test.specs.declared.stop.Stop.{Stop}

-- ---- what is found for each, in order

pub all_found : {A : Type 0} (f : ℕ → Result A Past) (numbers : List ℕ) → ((a : ℕ) → IsIn a numbers → IsOk (f a)) → IsOk (all_of f numbers)
all_found f [] h = refl
all_found f (a ∷ numbers) h = by (f a) (all_of f numbers) (h a (inl refl)) (all_found f numbers (λ b i. h b (inr i)))
  where
    by : {A : Type 0} (r : Result A Past) (s : Result (List A) Past) → IsOk r → IsOk s → IsOk (r ▷ λ x. s ▷ λ xs. Ok (x ∷ xs))
    by (Ok x) (Ok xs) p q = refl
    by (Ok x) (Err e) p q = absurd (cc q)
    by (Err e) s p q = absurd (cc p)

pub first_past : {A : Type 0} (f : ℕ → Result A Past) (before after : List ℕ) (a : ℕ) (past : Past) → ((b : ℕ) → IsIn b before → IsOk (f b)) → f a ≡ Err past
    → all_of f (before ++ a ∷ after) ≡ Err past
first_past f [] after a past h e = rw e refl
first_past f (b ∷ before) after a past h e = by (f b) (h b (inl refl)) (first_past f before after a past (λ c i. h c (inr i)) e)
  where
    by : (r : Result _ Past) → IsOk r → all_of f (before ++ a ∷ after) ≡ Err past → (r ▷ λ x. all_of f (before ++ a ∷ after) ▷ λ xs. Ok (x ∷ xs)) ≡ Err past
    by (Ok x) p q = rw q refl
    by (Err w) p q = absurd (cc p)

-- ---- one more

module _ (limit : ℕ → Result (Option Ratio) Past) (d : ℕ → Ratio) (enter : ℕ) where
  in_more : (a b : ℕ) (numbers : List ℕ) → IsIn b (numbers ++ a ∷ []) → IsIn b numbers ⊎ (b ≡ a)
  in_more a b numbers i = elim (in_append b numbers (a ∷ []) i) [ inl h ↦ inl h | inr h ↦ elim h [ inl e ↦ inr e | inr k ↦ absurd k ] ]

  -- an arc without a limit changes nothing
  no_limit : (numbers : List ℕ) (a : ℕ) (best : Option Stop) → limit a ≡ Ok None → IsSoonestOf limit d enter numbers best → IsSoonestOf limit d enter (numbers ++ a ∷ []) best
  no_limit numbers a None e h = λ b i. elim (in_more a b numbers i) [ inl k ↦ h b k | inr k ↦ rw k e ]
  no_limit numbers a (Some stop) e h = record {
    stands = in_front stop.arc numbers (a ∷ []) h.stands;
    limited = h.limited;
    bound = h.bound;
    none_sooner = λ b t i is. elim (in_more a b numbers i) [ inl k ↦ h.none_sooner b t k is | inr k ↦ absurd (cc (k, is, e)) ];
    first = λ b i is. elim (in_more a b numbers i) [ inl k ↦ h.first b k is | inr k ↦ absurd (cc (k, is, e)) ];
  }

  -- the first arc with a limit
  one_limit : (numbers : List ℕ) (a : ℕ) (t : Ratio) → limit a ≡ Ok (Some t) → IsSoonestOf limit d enter numbers None
      → IsSoonest limit d enter (numbers ++ a ∷ []) (record { arc = a; bound = bound_ahead (d a); step = t })
  one_limit numbers a t e h = record {
    stands = in_back a numbers (a ∷ []) (inl refl);
    limited = e;
    bound = refl;
    none_sooner = λ b s i is. elim (in_more a b numbers i) [
      | inl k ↦ absurd (cc (h b k, is))
      | inr k ↦ let same : t ≡ s = cc (k, is, e) in ≤ᵣ_same same
    ];
    first = λ b i is. elim (in_more a b numbers i) [
      | inl k ↦ absurd (cc (h b k, is))
      | inr k ↦ at_itself b k (eqb_tells b enter)
    ];
  }
    where
      at_itself : (b : ℕ) → b ≡ a → ((b == enter) ≡ true × (b ≡ enter)) ⊎ ((b == enter) ≡ false × (b ≢ enter)) → (a ≡ enter) ⊎ ((b ≢ enter) × (a ≤ b))
      at_itself b k (inl t) = inl (sym k ∙ t.1)
      at_itself b k (inr n) = inr (n.1, omega arith)

  -- the one before stays first
  keeps_first : (numbers : List ℕ) (a : ℕ) (t : Ratio) (stop : Stop) → limit a ≡ Ok (Some t) → IsSoonest limit d enter numbers stop → ((b : ℕ) → IsIn b numbers → b < a)
      → (is_below stop.step t ≡ true) ⊎ ((is_below t stop.step ≡ false) × (a ≢ enter)) → IsSoonest limit d enter (numbers ++ a ∷ []) stop
  keeps_first numbers a t stop e h below test = record {
    stands = in_front stop.arc numbers (a ∷ []) h.stands;
    limited = h.limited;
    bound = h.bound;
    none_sooner = λ b s i is. elim (in_more a b numbers i) [
      | inl k ↦ h.none_sooner b s k is
      | inr k ↦ let same : t ≡ s = cc (k, is, e) in subst (λ (r : Ratio). stop.step ≤ᵣ r) same (at_most test)
    ];
    first = λ b i is. elim (in_more a b numbers i) [
      | inl k ↦ h.first b k is
      | inr k ↦ let same : t ≡ stop.step = cc (k, is, e) in inr (subst (λ (n : ℕ). n ≢ enter) (sym k) (not_entering same test), (let l = below stop.arc h.stands in omega arith))
    ];
  }
    where
      at_most : (is_below stop.step t ≡ true) ⊎ ((is_below t stop.step ≡ false) × (a ≢ enter)) → stop.step ≤ᵣ t
      at_most (inl l) = <ᵣ_is_≤ᵣ (is_below_true stop.step t l)
      at_most (inr n) = is_below_false t stop.step n.0

      not_entering : t ≡ stop.step → (is_below stop.step t ≡ true) ⊎ ((is_below t stop.step ≡ false) × (a ≢ enter)) → a ≢ enter
      not_entering same (inl l) = absurd (clash (is_below_true stop.step t l) (≤ᵣ_same same))
      not_entering same (inr n) = n.1

  -- another one comes first
  comes_first : (numbers : List ℕ) (a : ℕ) (t : Ratio) (stop : Stop) → limit a ≡ Ok (Some t) → IsSoonest limit d enter numbers stop
      → (t <ᵣ stop.step) ⊎ ((t ≤ᵣ stop.step) × (a ≡ enter)) → IsSoonest limit d enter (numbers ++ a ∷ []) (record { arc = a; bound = bound_ahead (d a); step = t })
  comes_first numbers a t stop e h test = record {
    stands = in_back a numbers (a ∷ []) (inl refl);
    limited = e;
    bound = refl;
    none_sooner = λ b s i is. elim (in_more a b numbers i) [
      | inl k ↦ ≤ᵣ_trans (at_most test) (h.none_sooner b s k is)
      | inr k ↦ let same : t ≡ s = cc (k, is, e) in ≤ᵣ_same same
    ];
    first = λ b i is. elim (in_more a b numbers i) [
      | inl k ↦ earlier test b (h.none_sooner b t k is)
      | inr k ↦ at_itself b k (eqb_tells b enter)
    ];
  }
    where
      at_most : (t <ᵣ stop.step) ⊎ ((t ≤ᵣ stop.step) × (a ≡ enter)) → t ≤ᵣ stop.step
      at_most (inl l) = <ᵣ_is_≤ᵣ l
      at_most (inr n) = n.0

      earlier : (t <ᵣ stop.step) ⊎ ((t ≤ᵣ stop.step) × (a ≡ enter)) → (b : ℕ) → stop.step ≤ᵣ t → (a ≡ enter) ⊎ ((b ≢ enter) × (a ≤ b))
      earlier (inl l) b k = absurd (clash l k)
      earlier (inr n) b k = inl n.1

      at_itself : (b : ℕ) → b ≡ a → ((b == enter) ≡ true × (b ≡ enter)) ⊎ ((b == enter) ≡ false × (b ≢ enter)) → (a ≡ enter) ⊎ ((b ≢ enter) × (a ≤ b))
      at_itself b k (inl t) = inl (sym k ∙ t.1)
      at_itself b k (inr n) = inr (n.1, omega arith)

  two_limits : (numbers : List ℕ) (a : ℕ) (t : Ratio) (stop : Stop) → limit a ≡ Ok (Some t) → IsSoonest limit d enter numbers stop → ((b : ℕ) → IsIn b numbers → b < a)
      → IsSoonest limit d enter (numbers ++ a ∷ []) (soonest enter (Some stop) (record { arc = a; bound = bound_ahead (d a); step = t }))
  two_limits numbers a t stop e h below = by (is_below stop.step t) refl (is_below t stop.step) refl (eqb_tells a enter)
    where
      made : Stop
      made = record { arc = a; bound = bound_ahead (d a); step = t }

      by : (l : Bool) → is_below stop.step t ≡ l → (m : Bool) → is_below t stop.step ≡ m → (((a == enter) ≡ true) × (a ≡ enter)) ⊎ (((a == enter) ≡ false) × (a ≢ enter))
          → IsSoonest limit d enter (numbers ++ a ∷ []) (if (is_below stop.step t || (not (is_below t stop.step) && not (a == enter))) then stop else record { arc = a; bound = bound_ahead (d a); step = t })
      by true p m q n = rw p (keeps_first numbers a t stop e h below (inl p))
      by false p true q n = rw (p, q) (comes_first numbers a t stop e h (inl (is_below_true t stop.step q)))
      by false p false q (inl n) = rw (p, q, n.0) (comes_first numbers a t stop e h (inr (is_below_false stop.step t p, n.1)))
      by false p false q (inr n) = rw (p, q, n.0) (keeps_first numbers a t stop e h below (inr (q, n.1)))

  pub one_more : (numbers : List ℕ) (a : ℕ) (amount : Ratio) (m : Option Ratio) (best : Option Stop) → d a ≡ amount → limit a ≡ Ok m
      → IsSoonestOf limit d enter numbers best → ((b : ℕ) → IsIn b numbers → b < a) → IsSoonestOf limit d enter (numbers ++ a ∷ []) (with_limit enter best (a, amount) m)
  one_more numbers a amount None best is e h below = no_limit numbers a best e h
  one_more numbers a amount (Some t) None is e h below = subst (λ (r : Ratio). IsSoonest limit d enter (numbers ++ a ∷ []) (record { arc = a; bound = bound_ahead r; step = t })) is (one_limit numbers a t e h)
  one_more numbers a amount (Some t) (Some stop) is e h below =
      subst (λ (r : Ratio). IsSoonest limit d enter (numbers ++ a ∷ []) (soonest enter (Some stop) (record { arc = a; bound = bound_ahead r; step = t }))) is (two_limits numbers a t stop e h below)
