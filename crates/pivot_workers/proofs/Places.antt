-- The pieces at the slots, and the ends that they have.
use Rattle.std.proofs.Common.{◌≡◌, ◌≢◌, ◌⊎◌, ◌↔◌, inl, inr, ⊎_elim, ℕ, ◌<◌, Bool, true, false, List, [], ◌∷◌, sym, ap, ◌∙◌, subst, refl, arith, cond, eq-eqb, ne_eqb, lt-ltb, le-ltb, ltb, length}
use Rattle.std.proofs.lemmas.Bool.{false≢true}
use mathlib.Core.Bool.{not}
use mathlib.Core.Logic.{dite}
use native.Mathlib.Decide.{ℕ_discrete, dec_lt}
use Rattle.std.specs.Prelude.{Some, MatchBool}
use Rattle.gain_graphs.specs.Arcs.{IsIn}
use Rattle.np_model.specs.Basis.Pieces.{PieceLists, nodes_in, least_node}
use Rattle.tree_table.specs.Slots.{LiesAt}
use Rattle.pivot_workers.specs.Takes.{LieAt, in_order}
use Rattle.pivot_workers.specs.Stale.{HasAt, LacksAt}

at_one : (slot k : ℕ) (p : PieceLists) → LiesAt k p → slot ≡ k → LiesAt slot p
at_one slot k p lies e = subst (λ (z : ℕ). LiesAt z p) (sym e) lies

pub lie_one : (slots : List ℕ) (slot : ℕ) (p : PieceLists) → LieAt slots (p ∷ []) → IsIn slot slots → LiesAt slot p
lie_one [] slot p h t = absurd h
lie_one (k ∷ []) slot p h t = ⊎_elim (λ (e : slot ≡ k). at_one slot k p h.0 e) (λ x. absurd x) t
lie_one (k ∷ l ∷ ks) slot p h t = absurd h.1

pub lie_some : (slots : List ℕ) (p : PieceLists) (ps : List PieceLists) → LieAt slots (p ∷ ps) → 0 < length p.nodes
lie_some [] p ps h = absurd h
lie_some (k ∷ ks) p ps h = h.0.1

pub lie_second : (slots : List ℕ) (slot : ℕ) (p q : PieceLists) → LieAt slots (p ∷ q ∷ []) → IsIn slot slots → least_node p ≢ slot → LiesAt slot q
lie_second [] slot p q h t n = absurd h
lie_second (k ∷ []) slot p q h t n = absurd h.1
lie_second (k ∷ l ∷ []) slot p q h t n =
    ⊎_elim
    (λ (e : slot ≡ k). absurd (n (h.0.0 ∙ sym e)))
    (λ (later : IsIn slot (l ∷ [])). ⊎_elim (λ (e : slot ≡ l). at_one slot l q h.1.0 e) (λ x. absurd x) later)
    t
lie_second (k ∷ l ∷ m ∷ ks) slot p q h t n = absurd h.1.1

-- what a piece answers of the node
pub turned_first : (r : Bool) (slot node : ℕ) (p : PieceLists) (ps : List PieceLists) → LiesAt slot p → (r ≡ true ↔ IsIn node (nodes_in p))
    → MatchBool (not r) (LacksAt slot node (p ∷ ps)) (HasAt slot node (p ∷ ps))
turned_first true slot node p ps lies m = inl (lies, m.0 refl)
turned_first false slot node p ps lies m = inl (lies, λ h. absurd (false≢true (m.1 h)))

pub turned_second : (r : Bool) (slot node : ℕ) (p q : PieceLists) → LiesAt slot q → (r ≡ true ↔ IsIn node (nodes_in q))
    → MatchBool (not r) (LacksAt slot node (p ∷ q ∷ [])) (HasAt slot node (p ∷ q ∷ []))
turned_second true slot node p q lies m = inr (inl (lies, m.0 refl))
turned_second false slot node p q lies m = inr (inl (lies, λ h. absurd (false≢true (m.1 h))))

-- ---- the order of two slots

pub order_same : (a b : ℕ) → b ≡ a → in_order a (Some b) ≡ a ∷ []
order_same a b e = ap (λ t. cond t (a ∷ []) (cond (ltb a b) (a ∷ b ∷ []) (b ∷ a ∷ []))) (eq-eqb b a e)

pub order_up : (a b : ℕ) → a < b → in_order a (Some b) ≡ a ∷ b ∷ []
order_up a b lt = ap (λ t. cond t (a ∷ []) (cond (ltb a b) (a ∷ b ∷ []) (b ∷ a ∷ []))) (ne_eqb b a (λ e. omega arith)) ∙ ap (λ t. cond t (a ∷ b ∷ []) (b ∷ a ∷ [])) (lt-ltb a b lt)

pub order_down : (a b : ℕ) → b < a → in_order a (Some b) ≡ b ∷ a ∷ []
order_down a b lt = ap (λ t. cond t (a ∷ []) (cond (ltb a b) (a ∷ b ∷ []) (b ∷ a ∷ []))) (ne_eqb b a (λ e. omega arith)) ∙ ap (λ t. cond t (a ∷ b ∷ []) (b ∷ a ∷ [])) (le-ltb a b (omega arith))

-- what holds of the slots in each of the three orders holds of them
pub by_order : (P : List ℕ → Type 0) (a b : ℕ) → (b ≡ a → P (a ∷ [])) → (a < b → P (a ∷ b ∷ [])) → (b < a → P (b ∷ a ∷ [])) → P (in_order a (Some b))
by_order P a b same up down =
    dite (ℕ_discrete b a)
    (λ e. subst P (sym (order_same a b e)) (same e))
    (λ n. dite (dec_lt a b)
    (λ lt. subst P (sym (order_up a b lt)) (up lt))
    (λ ge. let lt : b < a = omega arith in subst P (sym (order_down a b lt)) (down lt)))

-- both slots that were seen are among them, and no other is
pub first_there : (a b : ℕ) → IsIn a (in_order a (Some b))
first_there a b = by_order (λ z. IsIn a z) a b (λ e. inl refl) (λ lt. inl refl) (λ lt. inr (inl refl))

pub second_there : (a b : ℕ) → IsIn b (in_order a (Some b))
second_there a b = by_order (λ z. IsIn b z) a b (λ e. inl e) (λ lt. inr (inl refl)) (λ lt. inl refl)

one_of : (slot a b : ℕ) → IsIn slot (a ∷ b ∷ []) → (slot ≡ a) ⊎ (slot ≡ b)
one_of slot a b t = ⊎_elim (λ (e : slot ≡ a). inl e) (λ (later : IsIn slot (b ∷ [])). ⊎_elim (λ (e : slot ≡ b). inr e) (λ x. absurd x) later) t

pub of_two : (slot a b : ℕ) → IsIn slot (in_order a (Some b)) → (slot ≡ a) ⊎ (slot ≡ b)
of_two slot a b =
    by_order (λ z. IsIn slot z → (slot ≡ a) ⊎ (slot ≡ b)) a b
    (λ e t. ⊎_elim (λ (f : slot ≡ a). inl f) (λ x. absurd x) t)
    (λ lt t. one_of slot a b t)
    (λ lt t. ⊎_elim (λ (f : slot ≡ b). inr f) (λ (f : slot ≡ a). inl f) (one_of slot b a t))
