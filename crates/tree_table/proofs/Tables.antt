-- A whole table stays whole where a pass changes together with a slot, or with what it has seen, and where passes come and go.
use Rattle.std.proofs.Common.{◌≡◌, ℕ, ◌+◌, ◌<◌, ◌≤◌, ◌≢◌, List, set, get_or, sym, refl, ap, ◌∙◌, subst, ⊎_elim, arith, length-set, get_or-set_other, get_or-set_same}
use mathlib.Core.Option as maybe
use mathlib.Core.Option.{none, some, some-injective, some-ne-none}
use lib.ListN.{get_elem?}
use Rattle.std.specs.Prelude.{Option, Some, None}
use Rattle.atomic_table.specs.Table.{State, Me, Act, Valid, carried_after, stepped}
use Rattle.atomic_table.proofs.Lists.{at_set}
use Rattle.np_model.specs.Basis.Pieces.{PieceLists}
use Rattle.tree_table.specs.Passes.{Pivoted, Opening, View, IsSpent}
use Rattle.tree_table.specs.Weights.{weigh, times}
use Rattle.tree_table.specs.Replay.{LeadsTo, HasSeen}
use Rattle.tree_table.specs.Whole.{IsPass, weight_at_home, Claims, IsWhole}
use Rattle.tree_table.specs.Kinds.{looking}
use Rattle.tree_table.proofs.Sums.{weigh-set, term_le, terms_le, weigh-only, within}

abbrev pub Table : Type 0 → Type 0
Table T = State (Option T) View

abbrev pub Token : Type 0 → Type 0
Token T = Me (Option T) View

abbrev pub Home : Type 0 → Type 0
Home T = maybe.Option (Option T)

-- how many passes have taken the slot
abbrev pub listed : ℕ → List View → ℕ
listed k views = weigh (λ v. times k v.slots) views

module _ {T : Type 0} (lists : T → PieceLists) (start : Opening) where
  -- who fits stays so, where the pass id becomes w
  pub each_set : (views : List View) (id : ℕ) (w : View) → ((j : ℕ) (u : View) → get_elem? views j ≡ some u → IsPass start u) → IsPass start w → (j : ℕ) (u : View) → get_elem? (set views id w) j ≡ some u → IsPass start u
  each_set views id w all mine j u e = ⊎_elim (λ (x : (j ≡ id) × (w ≡ u)). subst (IsPass start) x.1 mine) (λ (x : (j ≢ id) × (get_elem? views j ≡ some u)). all j u x.1) (at_set views id j w u e)

  -- the slot k and the pass id change together
  pub moved : (s : Table T) (r : IsWhole lists start s) (id k new : ℕ) (v w : View) (h h' : Home T) → get_elem? s.views id ≡ some v → get_elem? s.homes k ≡ some h → w.shares ≡ v.shares → w.entries ≡ v.entries → IsPass start w
      → ((f : PieceLists → ℕ) → weight_at_home lists f h' + weigh f w.hands ≡ weight_at_home lists f h + weigh f v.hands) → ((j : ℕ) → j ≢ k → times j w.slots ≡ times j v.slots)
      → ((c : ℕ) → c + times k v.slots ≡ listed k s.views + times k w.slots → Claims lists k new c h')
      → IsWhole lists start record { words = set s.words (k + 1) new; homes = set s.homes k h'; views = set s.views id w }
  moved s r id k new v w h h' at has same listed_same mine weighs others claims =
      let one_each = r.one_each in let near = within s.homes k h has in record {
        now = r.now;
        log = r.log;
        leads = r.leads;
        entries = λ f. let t = weigh-set (λ (u : View). weigh f u.entries) s.views id v w at in let q = r.entries f in let z : weigh f w.entries ≡ weigh f v.entries = ap (weigh f) listed_same in omega arith;
        one_each = length-set s.words (k + 1) new ∙ one_each ∙ ap (λ (m : ℕ). m + 1) (sym (length-set s.homes k h'));
        clock = get_or-set_other s.words (k + 1) 0 new 0 (λ e. omega arith) ∙ r.clock;
        shares = let t = weigh-set (λ (u : View). u.shares) s.views id v w at in let q = r.shares in omega arith;
        passes = each_set s.views id w r.passes mine;
        pieces = λ f.
            let a = weigh-set (weight_at_home lists f) s.homes k h h' has in
            let b = weigh-set (λ (u : View). weigh f u.hands) s.views id v w at in
            let c = r.pieces f in let d = weighs f in omega arith;
        apart = r.apart;
        claims = λ j home e.
            let t = weigh-set (λ (u : View). times j u.slots) s.views id v w at in
            ⊎_elim
            (λ (x : (j ≡ k) × (h' ≡ home)).
            let word : get_or (set s.words (k + 1) new) (k + 1) 0 ≡ new = get_or-set_same s.words (k + 1) new 0 (omega arith) in
            let here : Claims lists k (get_or (set s.words (k + 1) new) (k + 1) 0) (listed k (set s.views id w)) h' =
            subst (λ (z : ℕ). Claims lists k z (listed k (set s.views id w)) h') (sym word) (claims _ (weigh-set (λ (u : View). times k u.slots) s.views id v w at)) in
            subst (λ (z : ℕ × Home T). Claims lists z.0 (get_or (set s.words (k + 1) new) (z.0 + 1) 0) (listed z.0 (set s.views id w)) z.1) (λ i. (sym x.0 i, x.1 i)) here)
            (λ (x : (j ≢ k) × (get_elem? s.homes j ≡ some home)).
            let word : get_or (set s.words (k + 1) new) (j + 1) 0 ≡ get_or s.words (j + 1) 0 = get_or-set_other s.words (k + 1) (j + 1) new 0 (λ e. x.0 (omega arith)) in
            let count : listed j (set s.views id w) ≡ listed j s.views = let o = others j x.0 in omega arith in
            subst (λ (z : ℕ × ℕ). Claims lists j z.0 z.1 home) (λ i. (sym word i, sym count i)) (r.claims j home x.1))
            (at_set s.homes k j h' home e);
      }

  -- the pass id changes alone, in what it has seen
  pub seen : (s : Table T) (r : IsWhole lists start s) (id : ℕ) (v : View) (word found : ℕ) → get_elem? s.views id ≡ some v
      → IsWhole lists start record { words = s.words; homes = s.homes; views = set s.views id (looking v word found) }
  seen s r id v word found at =
      let w : View = looking v word found in
      let fits = r.passes id v at in
      let fits' : IsPass start w = record {
        spent = λ z. let q = fits.spent z in record { no_share = q.no_share; no_hands = q.no_hands; no_slots = q.no_slots; no_entries = q.no_entries };
        same_opening = fits.same_opening;
        few_entries = fits.few_entries;
        owns = fits.owns;
      } in record {
        now = r.now;
        log = r.log;
        leads = r.leads;
        entries = λ f. let t = weigh-set (λ (u : View). weigh f u.entries) s.views id v w at in let q = r.entries f in omega arith;
        one_each = r.one_each;
        clock = r.clock;
        shares = let t = weigh-set (λ (u : View). u.shares) s.views id v w at in let q = r.shares in omega arith;
        passes = each_set s.views id w r.passes fits';
        pieces = λ f. let b = weigh-set (λ (u : View). weigh f u.hands) s.views id v w at in let c = r.pieces f in omega arith;
        apart = r.apart;
        claims = λ j home e.
            let t = weigh-set (λ (u : View). times j u.slots) s.views id v w at in
            let count : listed j (set s.views id w) ≡ listed j s.views = omega arith in
            subst (λ (z : ℕ). Claims lists j (get_or s.words (j + 1) 0) z home) (sym count) (r.claims j home e);
      }

  -- with all shares, each other pass is idle
  pub alone : (s : Table T) (r : IsWhole lists start s) (id : ℕ) (v : View) → get_elem? s.views id ≡ some v → v.shares ≡ 64 → (j : ℕ) (u : View) → j ≢ id → get_elem? s.views j ≡ some u → IsSpent u
  alone s r id v at all j u other e = (r.passes j u e).spent (let t = terms_le (λ (x : View). x.shares) s.views id j v u other at e in let q = r.shares in omega arith)

  -- the state is one that the pass has seen
  pub stands : (s : Table T) (r : IsWhole lists start s) (id : ℕ) (v : View) → get_elem? s.views id ≡ some v → 0 < v.shares → HasSeen v r.now
  stands s r id v at live = record {
    log = r.log;
    leads = subst (λ (z : Opening). LeadsTo z z.pieces r.log r.now) (sym ((r.passes id v at).same_opening live)) r.leads;
    own = λ f. let t = term_le (λ (u : View). weigh f u.entries) s.views id v at in let q = r.entries f in omega arith;
    whole = λ all f. sym (r.entries f ∙ weigh-only (λ (u : View). weigh f u.entries) s.views id v at (λ j u other e. ap (weigh f) (alone s r id v at all j u other e).no_entries));
  }

  -- passes come and go, and what they hold stays
  pub reviewed : (s : Table T) (r : IsWhole lists start s) (vs : List View) → weigh (λ (u : View). u.shares) vs ≡ 64 → ((j : ℕ) (u : View) → get_elem? vs j ≡ some u → IsPass start u)
      → ((f : ℕ × Pivoted → ℕ) → weigh (λ (u : View). weigh f u.entries) vs ≡ weigh (λ (u : View). weigh f u.entries) s.views)
      → ((f : PieceLists → ℕ) → weigh (λ (u : View). weigh f u.hands) vs ≡ weigh (λ (u : View). weigh f u.hands) s.views) → ((k : ℕ) → listed k vs ≡ listed k s.views)
      → IsWhole lists start record { words = s.words; homes = s.homes; views = vs }
  reviewed s r vs shares each entries hands taken = record {
    now = r.now;
    log = r.log;
    leads = r.leads;
    entries = λ f. let p = r.entries f in let h = entries f in omega arith;
    one_each = r.one_each;
    clock = r.clock;
    shares = shares;
    passes = each;
    pieces = λ f. let p = r.pieces f in let h = hands f in omega arith;
    apart = r.apart;
    claims = λ k home e. subst (λ (z : ℕ). Claims lists k (get_or s.words (k + 1) 0) z home) (sym (taken k)) (r.claims k home e);
  }

  -- a slot that a pass lists is out
  pub is_out : (k word taken : ℕ) (h : Home T) → Claims lists k word taken h → 1 ≤ taken → (h ≡ none) × (taken ≡ 1)
  is_out k word taken none c some_pass = (refl, c.1)
  is_out k word taken (some None) c some_pass = absurd (let z = c.1 in omega arith)
  is_out k word taken (some (Some piece)) c some_pass = absurd (let z = c.1 in omega arith)

  -- what a step makes of a table
  abbrev pub Goes : Table T → ℕ → ℕ → Token T → (ℕ → Token T → Type 0) → ℕ → Type 0
  Goes s k id me then x = (w : View) × (a : Act (Option T)) × Valid s.homes me.1 a × IsWhole lists start (stepped s k x id me.1 w a) × then (get_or s.words k 0) (w, carried_after me.1 a)
