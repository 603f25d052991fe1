-- Whether two pieces, or two entries, are the same can be decided, since they are plain data.
use Rattle.std.proofs.Common.{◌≡◌, ℕ, zero, suc, List, [], ◌∷◌, length, get_or, sym, ap, ◌∙◌, refl, arith}
use native.Mathlib.Decide.{ℕ_discrete}
use Rattle.np_frac.specs.Ratio.{Ratio, zero_ratio}
use Rattle.np_model.specs.declared.arc.Ends.{Ends}
use Rattle.np_model.specs.declared.arc.Ends.TheVariants.{Link, Drain, Feed}
use Rattle.np_model.specs.declared.log.Mark.{Mark}
use Rattle.np_model.specs.declared.log.Mark.TheVariants.{Lower, Upper, Basic}
use Rattle.np_model.specs.Basis.Graphs.{ratios}
use Rattle.np_model.specs.Basis.Pieces.{PieceLists}

-- values that a code gives back are decided by their codes
coded : {A B : Type 0} (code : A → B) (back : B → A) → ((a : A) → back (code a) ≡ a) → Discrete B → Discrete A
coded code back again d x y = by_codes (d (code x) (code y))
  where
    by_codes : Dec (code x ≡ code y) → Dec (x ≡ y)
    by_codes (yes p) = yes (sym (again x) ∙ (ap back p ∙ again y))
    by_codes (no n) = no (λ h. n (ap code h))

pair : {A B : Type 0} → Discrete A → Discrete B → Discrete (A × B)
pair d e x y = both (d x.0 y.0) (e x.1 y.1)
  where
    both : Dec (x.0 ≡ y.0) → Dec (x.1 ≡ y.1) → Dec (x ≡ y)
    both (yes p) (yes q) = yes (λ i. (p i, q i))
    both (yes p) (no n) = no (λ h. n (ap (λ z. z.1) h))
    both (no n) q = no (λ h. n (ap (λ z. z.0) h))

triple : {A B C : Type 0} → Discrete A → Discrete B → Discrete C → Discrete (A × B × C)
triple d e f = coded (λ x. (x.0, (x.1, x.2))) (λ x. (x.0, x.1.0, x.1.1)) (λ x. refl) (pair d (pair e f))

abbrev later : {A : Type 0} → List A → List A
later [] = []
later (x ∷ xs) = xs

list : {A : Type 0} → Discrete A → Discrete (List A)
list d [] [] = yes refl
list d [] (y ∷ ys) = no (λ h. absurd (let e = ap length h in omega arith))
list d (x ∷ xs) [] = no (λ h. absurd (let e = ap length h in omega arith))
list d (x ∷ xs) (y ∷ ys) = both (d x y) (list d xs ys)
  where
    both : Dec (x ≡ y) → Dec (xs ≡ ys) → Dec (x ∷ xs ≡ y ∷ ys)
    both (yes p) (yes q) = yes (λ i. p i ∷ q i)
    both (yes p) (no n) = no (λ h. n (ap later h))
    both (no n) q = no (λ h. n (ap (λ z. get_or z 0 x) h))

-- ---- marks and ends

pub number_of : Mark → ℕ
number_of Lower = 0
number_of Upper = 1
number_of Basic = 2

mark_with : ℕ → Mark
mark_with zero = Lower
mark_with (suc zero) = Upper
mark_with (suc (suc n)) = Basic

mark_again : (m : Mark) → mark_with (number_of m) ≡ m
unfolding number_of mark_with
mark_again Lower = refl
mark_again Upper = refl
mark_again Basic = refl

pub same_mark : (m k : Mark) → number_of m ≡ number_of k → m ≡ k
same_mark m k e = sym (mark_again m) ∙ (ap mark_with e ∙ mark_again k)

marks : Discrete Mark
marks = coded number_of mark_with mark_again ℕ_discrete

numbers_of : Ends → ℕ × (ℕ × ℕ × Ratio)
numbers_of (Link from to gain) = (0, (from, to, gain))
numbers_of (Drain at) = (1, (at, 0, zero_ratio))
numbers_of (Feed at) = (2, (at, 0, zero_ratio))

ends_by : ℕ → ℕ → ℕ → Ratio → Ends
ends_by zero from to gain = Link from to gain
ends_by (suc zero) from to gain = Drain from
ends_by (suc (suc n)) from to gain = Feed from

ends_with : ℕ × (ℕ × ℕ × Ratio) → Ends
ends_with n = ends_by n.0 n.1.0 n.1.1 n.1.2

ends_again : (e : Ends) → ends_with (numbers_of e) ≡ e
unfolding numbers_of ends_by ends_with
ends_again (Link from to gain) = refl
ends_again (Drain at) = refl
ends_again (Feed at) = refl

-- ---- pieces

ends : Discrete Ends
ends = coded numbers_of ends_with ends_again (pair ℕ_discrete (triple ℕ_discrete ℕ_discrete ratios.decide))

abbrev Parts : Type 0
Parts = List (ℕ × Ratio) × List (ℕ × Ends × Ratio) × List (ℕ × Mark)

abbrev parts_of : PieceLists → Parts
parts_of p = (p.nodes, p.basics, p.marks)

abbrev piece_with : Parts → PieceLists
piece_with p = record { nodes = p.0; basics = p.1; marks = p.2 }

pub same_piece : Discrete PieceLists
same_piece =
    coded parts_of piece_with (λ p. refl) (triple (list (pair ℕ_discrete ratios.decide)) (list (triple ℕ_discrete ends ratios.decide)) (list (pair ℕ_discrete marks)))
