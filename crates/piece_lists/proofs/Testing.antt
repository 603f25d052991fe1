-- The tests of membership, and what they decide.
use Rattle.std.specs.Prelude.{◌≡◌, ◌⊎◌, ◌||◌, ℕ, Bool, true, false, List, [], ◌∷◌, Result, Ok, Err}
use Rattle.std.specs.Result.{result_ok, is_ok}
use Rattle.std.proofs.Common.{refl, sym, ap, subst, inl, inr, arith, eqb, true≢false}
use Rattle.gain_graphs.specs.Arcs.{IsIn, Touches}
use Rattle.np_frac.specs.Ratio.{Ratio, zero_ratio}
use Rattle.np_model.specs.declared.arc.Ends.{Ends}
use Rattle.np_model.specs.declared.arc.Ends.TheVariants.{Link, Drain, Feed}
use Rattle.np_model.specs.Basis.Graphs.{graph_ends}
use Rattle.tree_search.specs.Places.{numbers_of_nodes}
use Rattle.quasi_tree.specs.Place.{IsPlace}
use Rattle.quasi_tree.proofs.Places.{is_in_at}
use Rattle.piece_lists.specs.Parts.{is_one, touch}

eqb_same : (a b : ℕ) → eqb a b ≡ true → a ≡ b
eqb_same a b h = grind arith

eqb_refl : (a b : ℕ) → a ≡ b → eqb a b ≡ true
eqb_refl a b h = grind arith

or_cases : (b c : Bool) → (b || c) ≡ true → (b ≡ true) ⊎ (c ≡ true)
or_cases true c h = inl refl
or_cases false c h = inr h

or_first : (b c : Bool) → b ≡ true → (b || c) ≡ true
or_first b c h = ap (λ t. t || c) h

or_second : (b c : Bool) → c ≡ true → (b || c) ≡ true
or_second true c h = refl
or_second false c h = h

pub one_in : (ns : List ℕ) (v : ℕ) → is_one ns v ≡ true → IsIn v ns
one_in [] v h = absurd (true≢false (sym h))
one_in (n ∷ ns) v h = elim (or_cases (eqb v n) (is_one ns v) h) [ inl e ↦ inl (eqb_same v n e) | inr k ↦ inr (one_in ns v k) ]

pub in_one : (ns : List ℕ) (v : ℕ) → IsIn v ns → is_one ns v ≡ true
in_one [] v i = absurd i
in_one (n ∷ ns) v (inl e) = or_first (eqb v n) (is_one ns v) (eqb_refl v n e)
in_one (n ∷ ns) v (inr i) = or_second (eqb v n) (is_one ns v) (in_one ns v i)

not_true : (b : Bool) → ¬ (b ≡ true) → b ≡ false
not_true true h = absurd (h refl)
not_true false h = refl

pub not_one : (ns : List ℕ) (v : ℕ) → (¬ IsIn v ns) → is_one ns v ≡ false
not_one ns v h = not_true (is_one ns v) (λ e. h (one_in ns v e))

pub touch_in : (ns : List ℕ) (e : Ends) → touch ns e ≡ true → Touches ns (graph_ends e)
touch_in ns (Link f t g) h = elim (or_cases (is_one ns f) (is_one ns t) h) [ inl k ↦ inl (one_in ns f k) | inr k ↦ inr (one_in ns t k) ]
touch_in ns (Drain v) h = one_in ns v h
touch_in ns (Feed v) h = one_in ns v h

pub in_touch : (ns : List ℕ) (e : Ends) → Touches ns (graph_ends e) → touch ns e ≡ true
in_touch ns (Link f t g) h = elim h [ inl k ↦ or_first (is_one ns f) (is_one ns t) (in_one ns f k) | inr k ↦ or_second (is_one ns f) (is_one ns t) (in_one ns t k) ]
in_touch ns (Drain v) h = in_one ns v h
in_touch ns (Feed v) h = in_one ns v h

-- what a search for the place of a node finds
pub found_is : (nodes : List (ℕ × Ratio)) (v : ℕ) (r : Result ℕ ℕ) → IsPlace (λ n. n.0) nodes v (result_ok r) → is_ok r ≡ is_one (numbers_of_nodes nodes) v
found_is nodes v (Ok p) h = sym (in_one (numbers_of_nodes nodes) v (subst (λ t. IsIn t (numbers_of_nodes nodes)) (h.1 (0, zero_ratio)) (is_in_at (λ n. n.0) nodes p (0, zero_ratio) h.0)))
found_is nodes v (Err p) h = sym (not_one (numbers_of_nodes nodes) v h)
