-- Folds whose steps are exact operations, and may overflow.
use Rattle.std.specs.Prelude.{◌≡◌, ℕ, ◌+◌, ◌<◌, ◌≤◌, Result, Ok, Err, List, [], ◌∷◌, ◌++◌, length}
use Rattle.std.specs.List.{fold}
use Rattle.std.proofs.Common.{refl, sym, ap, ◌∙◌, get_or, take, drop, add-one}
use Rattle.std.proofs.Math.Seq.{take-suc}
use Rattle.std.proofs.lemmas.List.{take_all, take-append-drop}
use Rattle.std.proofs.lemmas.List.Sums.{fold-append}
use Rattle.np_frac.specs.Ratio.{Ratio, ◌+ᵣ◌}
use Rattle.np_frac.specs.Exact.{◌▷◌}
use Rattle.np_frac.specs.declared.frac.Past.{Past}

-- one more element
pub one_more : {A : Type 0} (xs : List A) (i : ℕ) (y : A) → i < length xs → get_or xs i y ≡ y → take (i + 1) xs ≡ take i xs ++ y ∷ []
one_more {A} xs i y h e = rw add-one (take-suc xs i y h ∙ ap (λ (z : A). take i xs ++ z ∷ []) e)

-- ---- steps that may overflow

pub bind_same : {A B : Type 0} (r : Result A Past) (f g : A → Result B Past) → ((y : A) → f y ≡ g y) → r ▷ f ≡ r ▷ g
bind_same (Ok y) f g h = h y
bind_same (Err p) f g h = refl

pub bind_ok : {A : Type 0} (r : Result A Past) (f : A → Result A Past) → ((y : A) → f y ≡ Ok y) → r ▷ f ≡ r
bind_ok (Ok y) f h = h y
bind_ok (Err p) f h = refl

pub bind_twice : {A B C : Type 0} (r : Result A Past) (f : A → Result B Past) (k : B → Result C Past) → (r ▷ f) ▷ k ≡ r ▷ (λ y. f y ▷ k)
bind_twice (Ok y) f k = refl
bind_twice (Err p) f k = refl

-- ---- a fold whose steps may overflow

pub fold_more : {A B : Type 0} (step : B → A → B) (start : B) (xs : List A) (i : ℕ) (y : A) → i < length xs → get_or xs i y ≡ y → fold step start (take (i + 1) xs) ≡ step (fold step start (take i xs)) y
fold_more step start xs i y h e = ap (fold step start) (one_more xs i y h e) ∙ fold-append step start (take i xs) (y ∷ [])

module _ {A : Type 0} (step : A → Ratio → Result Ratio Past) (start : Result Ratio Past) where
  abbrev pub run : List A → Result Ratio Past
  run xs = fold (λ running a. running ▷ step a) start xs

  pub overflow_stays : (p : Past) (xs : List A) → fold (λ running a. running ▷ step a) (Err p) xs ≡ Err p
  overflow_stays p [] = refl
  overflow_stays p (a ∷ xs) = overflow_stays p xs

  pub runs_on : (xs : List A) (i : ℕ) (y : A) (old : Ratio) (res : Result Ratio Past) → i < length xs → get_or xs i y ≡ y → Ok old ≡ run (take i xs) → res ≡ step y old → res ≡ run (take (i + 1) xs)
  runs_on xs i y old res h e so_far here =
      here ∙ ap (λ (r : Result Ratio Past). r ▷ step y) so_far ∙ sym (fold_more (λ running a. running ▷ step a) start xs i y h e)

  pub run_stops : (xs : List A) (i : ℕ) (p : Past) → Err p ≡ run (take i xs) → Err p ≡ run xs
  run_stops xs i p e =
      sym (ap run (sym (take-append-drop i xs))
      ∙ fold-append (λ running a. running ▷ step a) start (take i xs) (drop i xs)
      ∙ ap (λ (r : Result Ratio Past). fold (λ running a. running ▷ step a) r (drop i xs)) (sym e)
      ∙ overflow_stays p (drop i xs))

  pub run_ends : (xs : List A) (i : ℕ) (old : Ratio) → length xs ≤ i → Ok old ≡ run (take i xs) → Ok old ≡ run xs
  run_ends xs i old h so_far = so_far ∙ ap run (take_all i xs h)

-- a fold of steps that may overflow, whose steps are exact
module _ {A : Type 0} (step : A → Ratio → Result Ratio Past) (term : A → Ratio) (exact : (a : A) (r s : Ratio) → step a r ≡ Ok s → s ≡ r +ᵣ term a) where
  pub fold_exact : (r s : Ratio) (xs : List A) → fold (λ running a. running ▷ step a) (Ok r) xs ≡ Ok s → s ≡ fold (λ acc a. acc +ᵣ term a) r xs
  fold_exact r s [] e = cc e
  fold_exact r s (a ∷ xs) e =
      elim (step a r) as (λ res. step a r ≡ res → fold (λ running b. running ▷ step b) res xs ≡ Ok s → s ≡ fold (λ acc b. acc +ᵣ term b) (r +ᵣ term a) xs) [
        | Ok q ↦ λ is rest. fold_exact q s xs rest ∙ ap (λ z. fold (λ acc b. acc +ᵣ term b) z xs) (exact a r q is)
        | Err p ↦ λ is rest. absurd (cc (overflow_stays step (Ok r) p xs, rest))
      ] refl e
