-- A take, and a look at a claim word, keep the table whole.
use Rattle.std.proofs.Common.{◌≡◌, ℕ, ◌+◌, ◌<◌, ◌≤◌, ◌≢◌, ◌⊎◌, List, [], ◌∷◌, ◌++◌, length, set, get_or, sym, refl, ap, ◌∙◌, subst, inl, inr, arith, eqb}
use mathlib.Core.Logic.{dite}
use native.Mathlib.Decide.{ℕ_discrete}
use mathlib.Core.Option.{none, some, some-injective}
use lib.ListN.{get_elem?}
use lib.Seq.{set-get_or}
use prog.Atomic.{either}
use Rattle.std.specs.Prelude.{Some, None}
use Rattle.atomic_table.specs.Table.{step, keeps, takes, Allows}
use Rattle.atomic_table.proofs.Lists.{exchanged}
use Rattle.np_model.specs.Basis.Pieces.{PieceLists, nodes_in, least_node}
use Rattle.tree_table.specs.Passes.{Opening, View}
use Rattle.tree_table.specs.Weights.{weigh, AreAmong, once, times}
use Rattle.tree_table.specs.Slots.{LiesAt, lying_at}
use Rattle.tree_table.specs.Whole.{IsPass, weight_at_home, Claims, IsWhole}
use Rattle.tree_table.specs.Kinds.{looking, taking, Took, Missed, tried}
use Rattle.tree_table.proofs.Sums.{weigh-append, term_le, weigh-none, weigh-only, once-same, once-other, there}
use Rattle.tree_table.proofs.Nodes.{least_stands}
use Rattle.tree_table.proofs.Tables.{Table, Token, Home, listed, moved, seen, alone, stands, Goes}

module _ {T : Type 0} (lists : T → PieceLists) (start : Opening) where
  abbrev Homely : ℕ → ℕ → Home T → Type 0
  Homely k taken h = (piece : T) × (h ≡ some (Some piece)) × (taken ≡ 0) × LiesAt k (lists piece)

  at_home : (k word taken : ℕ) (h : Home T) → Claims lists k word taken h → word ≡ 0 → Homely k taken h
  at_home k word taken none c z = absurd (let a = c.0 in omega arith)
  at_home k word taken (some None) c z = absurd (let a = c.0 in omega arith)
  at_home k word taken (some (Some piece)) c z = (piece, refl, c.1, c.2)

  -- a word that is not 0 is 1 or 2
  is_away : (k word taken : ℕ) (h : Home T) → Claims lists k word taken h → word ≢ 0 → (word ≡ 1) ⊎ (word ≡ 2)
  is_away k word taken none c z = inl c.0
  is_away k word taken (some None) c z = inr c.0
  is_away k word taken (some (Some piece)) c z = absurd (z c.0)

  -- a slot whose word is neither 0 nor 1 is empty
  stands_empty : (k word taken : ℕ) (h : Home T) → Claims lists k word taken h → word ≢ 0 → taken ≡ 0 → (h ≡ some None) × (word ≡ 2)
  stands_empty k word taken none c z t = absurd (let a = c.1 in omega arith)
  stands_empty k word taken (some None) c z t = (refl, c.0)
  stands_empty k word taken (some (Some piece)) c z t = absurd (z c.0)

  -- no piece at home in another slot has the least node k
  lies_elsewhere : (j k word taken : ℕ) (h : Home T) → Claims lists j word taken h → j ≢ k → weight_at_home lists (λ sh. once k (least_node sh)) h ≡ 0
  lies_elsewhere j k word taken none c n = refl
  lies_elsewhere j k word taken (some None) c n = refl
  lies_elsewhere j k word taken (some (Some piece)) c n = once-other k (least_node (lists piece)) (λ e. n (sym c.2.0 ∙ e))

  is_lacking : (s : Table T) (r : IsWhole lists start s) (id k : ℕ) (v : View) → get_elem? s.views id ≡ some v → v.shares ≡ 64 → times k v.slots ≡ 0 → lying_at k v.hands ≡ 0 → k < length s.homes → get_or s.words (k + 1) 0 ≢ 0
      → (get_or s.words (k + 1) 0 ≡ 2) × (lying_at k r.now ≡ 0)
  is_lacking s r id k v at all unlisted bare near busy =
      let f : PieceLists → ℕ = λ sh. once k (least_node sh) in
      let fits = r.passes id v at in
      let count : listed k s.views ≡ 0 = weigh-only (λ (u : View). times k u.slots) s.views id v at (λ j u other e. ap (times k) (alone lists start s r id v at all j u other e).no_slots) ∙ unlisted in
      let hands : weigh (λ (u : View). weigh f u.hands) s.views ≡ 0 = weigh-only (λ (u : View). weigh f u.hands) s.views id v at (λ j u other e. ap (weigh f) (alone lists start s r id v at all j u other e).no_hands) ∙ bare in
      let home = there s.homes k near in
      let empty = stands_empty k _ _ home.0 (r.claims k home.0 home.1) busy count in
      let homes : weigh (weight_at_home lists f) s.homes ≡ 0 = weigh-none (weight_at_home lists f) s.homes (λ j h e.
      dite (ℕ_discrete j k)
      (λ same. ap (weight_at_home lists f) (some-injective h (some None) (sym e ∙ ap (get_elem? s.homes) same ∙ home.1 ∙ ap some empty.0)))
      (λ other. lies_elsewhere j k _ _ h (r.claims j h e) other)) in
      (empty.1, let p = r.pieces f in omega arith)

  -- it weighs no more than all
  among : (s : Table T) (r : IsWhole lists start s) (id : ℕ) (v : View) (k : ℕ) (piece : T) → get_elem? s.views id ≡ some v → get_elem? s.homes k ≡ some (some (Some piece)) → AreAmong (v.hands ++ lists piece ∷ []) r.now
  among s r id v k piece at e f =
      let p = r.pieces f in let t = term_le (weight_at_home lists f) s.homes k (some (Some piece)) e in let h = term_le (λ (u : View). weigh f u.hands) s.views id v at in let a = weigh-append f v.hands (lists piece ∷ []) in omega arith

  taken_fits : (v : View) (k word : ℕ) (sh : PieceLists) → 0 < v.shares → LiesAt k sh → IsPass start v → IsPass start (taking (looking v word 0) k sh)
  taken_fits v k word sh live lies fits = record {
    spent = λ none. absurd (omega arith);
    same_opening = fits.same_opening;
    few_entries = fits.few_entries;
    owns = λ j.
        let o = fits.owns j in
        let a = weigh-append (λ (x : PieceLists). times j (nodes_in x)) v.hands (sh ∷ []) in
        dite (ℕ_discrete j k)
        (λ e. let one : 1 ≤ times k (nodes_in sh) = least_stands k sh lies in let one' : 1 ≤ times j (nodes_in sh) = subst (λ (z : ℕ). 1 ≤ times z (nodes_in sh)) (sym e) one in
        let is : once j k ≡ 1 = subst (λ (z : ℕ). once j z ≡ 1) e (once-same j) in omega arith)
        (λ n. let is : once j k ≡ 0 = once-other j k (λ e. n (sym e)) in omega arith);
  }

  pub tries : (n id k : ℕ) (me : Token T) → k < n → 0 < me.0.shares → Allows (IsWhole lists start) n id me (k + 1) (λ y. either (eqb y 0) 1 y) (tried lists (step n (k + 1) 0 1 none) me)
  tries n id k me near live s r long at fits64 =
      let y : ℕ = get_or s.words (k + 1) 0 in
      let v : View = me.0 in
      let then = tried lists (step n (k + 1) 0 1 none) me in
      let near' : k < length s.homes = omega arith in
      let home = there s.homes k near' in
      let fits = r.passes id v at in
      exchanged y 0 1 (Goes lists start s (k + 1) id me then)
      (λ hit.
      let claims = r.claims k home.0 home.1 in
      let h = at_home k y (listed k s.views) home.0 claims hit in
      let piece : T = h.0 in
      let sh : PieceLists = lists piece in
      let has : get_elem? s.homes k ≡ some (some (Some piece)) = home.1 ∙ ap some h.1 in
      let w : View = taking (looking v (k + 1) 0) k sh in (
        w,
        takes k (Some piece),
        has,
        moved lists start s r id k 1 v w (some (Some piece)) none at has refl refl (taken_fits v k (k + 1) sh live h.3 fits) (λ f. let a = weigh-append f v.hands (sh ∷ []) in omega arith)
            (λ j n. let is : once j k ≡ 0 = once-other j k (λ e. n (sym e)) in omega arith)
            (λ c e. (refl, let is : once k k ≡ 1 = once-same k in let z = h.2 in omega arith)),
        λ j is.
            let same : k ≡ j = omega arith in (
              (λ _. subst (λ (z : ℕ). Took lists me z (w, (k, Some piece) ∷ me.1)) same (piece, h.3, (r.now, stands lists start s r id v at live, among s r id v k piece at has), refl)),
              λ miss. absurd (miss hit),
            ),
      ))
      (λ miss.
      let w : View = looking v (k + 1) y in (
        w,
        keeps,
        tt,
        subst (λ (ws : List ℕ). IsWhole lists start record { words = ws; homes = s.homes; views = set s.views id w }) (sym (set-get_or s.words (k + 1) 0)) (seen lists start s r id v (k + 1) y at),
        λ j is.
            let same : k ≡ j = omega arith in (
              (λ hit. absurd (miss hit)),
              λ _. subst (λ (z : ℕ). Missed me z y (w, me.1)) same (refl, is_away k y (listed k s.views) home.0 (r.claims k home.0 home.1) miss, λ all unlisted bare. let t = is_lacking s r id k v at all unlisted bare near' miss in (t.0, (r.now, stands lists start s r id v at live, t.1))),
            ),
      ))
