-- A put, an opening and a shutting keep the table whole.
use Rattle.std.proofs.Common.{◌≡◌, ℕ, zero, suc, ◌%◌, ◌^◌, ◌*◌, ◌+◌, ◌-◌, ◌/◌, ◌<◌, ◌≤◌, ◌≢◌, ◌⊎◌, List, [], ◌∷◌, ◌++◌, length, set, get_or, sym, refl, ap, ◌∙◌, subst, ⊎_elim, inl, inr, arith, eqb, length-set, get_or-set_other, get_or-set_same, mod-eq_of_lt, length-append, map, replicate}
use mathlib.Core.Logic.{dite}
use native.Mathlib.Decide.{ℕ_discrete}
use mathlib.Core.Option.{none, some}
use lib.ListN.{get_elem?}
use prog.Atomic.{either}
use Rattle.std.specs.Prelude.{Option, Some, None}
use Rattle.atomic_table.specs.Table.{step, takes, gives, Allows}
use Rattle.atomic_table.proofs.Lists.{exchanged}
use Rattle.np_model.specs.Basis.Pieces.{PieceLists, nodes_in}
use Rattle.tree_table.specs.Passes.{Opening, View}
use Rattle.tree_table.specs.Weights.{weigh, once, times, without}
use Rattle.tree_table.specs.Slots.{LiesAt, having, lacking}
use Rattle.tree_table.specs.Whole.{IsPass, weight_at_home, Claims, IsWhole}
use Rattle.tree_table.specs.Kinds.{shutting, shut, putting, opening_slot, put, opened}
use Rattle.tree_table.proofs.Sums.{times-without_le, term_le, weigh-lt, once-same, once-other, times-without, times-without_other, there}
use Rattle.tree_table.proofs.Nodes.{least_stands}
use Rattle.tree_table.proofs.Tables.{Token, Home, listed, moved, is_out, Goes}

module _ {T : Type 0} (lists : T → PieceLists) (start : Opening) where
  pub puts : (n id k : ℕ) (v : View) (piece : T) (more : List (ℕ × Option T)) → k < n → 0 < v.shares → LiesAt k (lists piece) → 1 ≤ times k v.slots
      → ((f : PieceLists → ℕ) → weigh f (lacking k v.hands) + f (lists piece) ≡ weigh f v.hands) → ((j : ℕ) → times j (without k v.slots) ≤ having j (lacking k v.hands))
      → Allows (IsWhole lists start) n id (v, (k, Some piece) ∷ more) (k + 1) (λ _. 0) (λ _. put (step n (k + 1) 0 0 none) (v, (k, Some piece) ∷ more) 0)
  puts n id k v piece more near live lies listed_here gone covers s r long at _ =
      let w : View = putting v k in
      let near' : k < length s.homes = omega arith in
      let home = there s.homes k near' in
      let claims = r.claims k home.0 home.1 in
      let out = is_out lists start k _ _ home.0 claims (let t = term_le (λ (u : View). times k u.slots) s.views id v at in omega arith) in
      let has : get_elem? s.homes k ≡ some none = home.1 ∙ ap some out.0 in
      let fits = r.passes id v at in
      let fits' : IsPass start w = record { spent = λ z. absurd (omega arith); same_opening = fits.same_opening; few_entries = fits.few_entries; owns = covers } in (
        w,
        gives,
        tt,
        moved lists start s r id k 0 v w none (some (Some piece)) at has refl refl fits' (λ f. let g = gone f in omega arith)
            (λ j n. times-without_other j k v.slots n)
            (λ c e. (refl, let t = times-without k v.slots listed_here in let o = out.1 in omega arith, lies)),
        λ j is. let same : k ≡ j = omega arith in subst (λ (z : ℕ). Rattle.std.proofs.Common.◌≡◌ {A = Token T} (w, more) (putting v z, more)) same refl,
      )

  pub puts_it : (n id k : ℕ) (me : Token T) (v : View) (piece : T) (more : List (ℕ × Option T)) → me ≡ (v, (k, Some piece) ∷ more) → k < n → 0 < v.shares → LiesAt k (lists piece) → 1 ≤ times k v.slots
      → ((f : PieceLists → ℕ) → weigh f (lacking k v.hands) + f (lists piece) ≡ weigh f v.hands) → ((j : ℕ) → times j (without k v.slots) ≤ having j (lacking k v.hands))
      → Allows (IsWhole lists start) n id me (k + 1) (λ _. 0) (λ _. put (step n (k + 1) 0 0 none) me 0)
  puts_it n id k me v piece more is near live lies here gone covers =
      subst (λ (z : Token T). Allows (IsWhole lists start) n id z (k + 1) (λ _. 0) (λ _. put (step n (k + 1) 0 0 none) z 0)) (sym is) (puts n id k v piece more near live lies here gone covers)

  -- a node in hand is no least node at home, and no other pass lists its slot
  pub opens_slot : (n id k : ℕ) (me : Token T) → k < n → 0 < me.0.shares → 1 ≤ having k me.0.hands → times k me.0.slots ≡ 0
      → Allows (IsWhole lists start) n id me (k + 1) (λ y. either (eqb y 2) 1 y) (opened (step n (k + 1) 2 1 none) me)
  opens_slot n id k me near live mine unlisted s r long at _ =
      let y : ℕ = get_or s.words (k + 1) 0 in
      let v : View = me.0 in
      let then = opened (step n (k + 1) 2 1 none) me in
      let near' : k < length s.homes = omega arith in
      let home = there s.homes k near' in
      let claims = r.claims k home.0 home.1 in
      let fits = r.passes id v at in
      let f : PieceLists → ℕ = λ sh. times k (nodes_in sh) in
      let p = r.pieces f in
      let once_only = r.apart k in
      let fewer = weigh-lt (λ (u : View). times k u.slots) (λ (u : View). having k u.hands) s.views id v at (omega arith) (λ j u e. (r.passes j u e).owns k) in
      let held = term_le (λ (u : View). having k u.hands) s.views id v at in
      let empty = is_empty k y (listed k s.views) home.0 claims (omega arith) (λ piece e lies. let t = term_le (weight_at_home lists f) s.homes k (some (Some piece)) (home.1 ∙ ap some e) in let has = least_stands k (lists piece) lies in omega arith) in
      let has : get_elem? s.homes k ≡ some (some None) = home.1 ∙ ap some empty.0 in
      let w : View = opening_slot v k in
      let fits' : IsPass start w = record {
        spent = λ z. absurd (omega arith);
        same_opening = fits.same_opening;
        few_entries = fits.few_entries;
        owns = λ j.
            let o = fits.owns j in
            dite (ℕ_discrete j k)
            (λ e. let is : once j k ≡ 1 = subst (λ (z : ℕ). once j z ≡ 1) e (once-same j) in let u : times j v.slots ≡ 0 = subst (λ (z : ℕ). times z v.slots ≡ 0) (sym e) unlisted in let m : 1 ≤ having j v.hands = subst (λ (z : ℕ). 1 ≤ having z v.hands) (sym e) mine in omega arith)
            (λ ne. let is : once j k ≡ 0 = once-other j k (λ e. ne (sym e)) in omega arith);
      } in
      exchanged y 2 1 (Goes lists start s (k + 1) id me then)
      (λ hit. (
        w,
        takes k None,
        has,
        moved lists start s r id k 1 v w (some None) none at has refl refl fits' (λ g. refl)
            (λ j n. let is : once j k ≡ 0 = once-other j k (λ e. n (sym e)) in omega arith)
            (λ c e. (refl, let is : once k k ≡ 1 = once-same k in let z = empty.2 in omega arith)),
        λ j is. let same : k ≡ j = omega arith in (hit, subst (λ (z : ℕ). Rattle.std.proofs.Common.◌≡◌ {A = Token T} (w, (k, None) ∷ me.1) (opening_slot v z, (z, None) ∷ me.1)) same refl),
      ))
      (λ miss. absurd (miss empty.1))
    where
      is_empty : (k word taken : ℕ) (h : Home T) → Claims lists k word taken h → taken ≡ 0 → ((piece : T) → h ≡ some (Some piece) → LiesAt k (lists piece) → ⊥) → (h ≡ some None) × (word ≡ 2) × (taken ≡ 0)
      is_empty k word taken none c z never = absurd (let a = c.1 in omega arith)
      is_empty k word taken (some None) c z never = (refl, c.0, c.1)
      is_empty k word taken (some (Some piece)) c z never = absurd (never piece refl c.2)

  pub shuts : (n id k : ℕ) (v : View) (more : List (ℕ × Option T)) → k < n → 0 < v.shares → 1 ≤ times k v.slots
      → Allows (IsWhole lists start) n id (v, (k, None) ∷ more) (k + 1) (λ _. 2) (λ _. shut (step n (k + 1) 2 0 none) (v, (k, None) ∷ more) 2)
  shuts n id k v more near live listed_here s r long at _ =
      let w : View = shutting v k in
      let home = there s.homes k (let z = near in let y = long in let g : k < length s.homes = omega arith in g) in
      let claims = r.claims k home.0 home.1 in
      let out = is_out lists start k _ _ home.0 claims (let t = term_le (λ (u : View). times k u.slots) s.views id v at in omega arith) in
      let has : get_elem? s.homes k ≡ some none = home.1 ∙ ap some out.0 in
      let fits = r.passes id v at in
      let fits' : IsPass start w = record { spent = λ z. absurd (omega arith); same_opening = fits.same_opening; few_entries = fits.few_entries; owns = λ j. let a = times-without_le j k v.slots in let b = fits.owns j in omega arith } in (
        w,
        gives,
        tt,
        moved lists start s r id k 2 v w none (some None) at has refl refl fits' (λ f. refl)
            (λ j n. times-without_other j k v.slots n)
            (λ c e. (refl, let t = times-without k v.slots listed_here in let o = out.1 in omega arith)),
        λ j is. let same : k ≡ j = omega arith in subst (λ (z : ℕ). Rattle.std.proofs.Common.◌≡◌ {A = Token T} (w, more) (shutting v z, more)) same refl,
      )

  pub shuts_it : (n id k : ℕ) (me : Token T) (more : List (ℕ × Option T)) → me.1 ≡ (k, None) ∷ more → k < n → 0 < me.0.shares → 1 ≤ times k me.0.slots
      → Allows (IsWhole lists start) n id me (k + 1) (λ _. 2) (λ _. shut (step n (k + 1) 2 0 none) me 2)
  shuts_it n id k me more is near live here =
      subst (λ (z : List (ℕ × Option T)). Allows (IsWhole lists start) n id (me.0, z) (k + 1) (λ _. 2) (λ _. shut (step n (k + 1) 2 0 none) (me.0, z) 2)) (sym is) (shuts n id k me.0 more near live here)
