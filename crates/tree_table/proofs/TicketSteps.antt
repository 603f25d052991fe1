-- A ticket keeps the table whole: one pivot more leads on to the pieces after it.
use Rattle.std.proofs.Common.{◌≡◌, ℕ, ◌%◌, ◌^◌, ◌*◌, ◌+◌, ◌-◌, ◌<◌, ◌≤◌, List, [], ◌∷◌, ◌++◌, length, set, get_or, sym, refl, ap, ◌∙◌, subst, arith, length-set, get_or-set_other, get_or-set_same, mod-eq_of_lt, length-append}
use mathlib.Core.Logic.{dite}
use native.Mathlib.Decide.{ℕ_discrete}
use mathlib.Core.Option.{none, some}
use Rattle.std.specs.Prelude.{Some, None}
use Rattle.atomic_table.specs.Table.{step, keeps, Allows}
use Rattle.np_model.specs.Basis.Pieces.{PieceLists, nodes_in}
use Rattle.tree_table.specs.Passes.{Pivoted, Opening, View}
use Rattle.tree_table.specs.Weights.{weigh, times}
use Rattle.np_model.specs.declared.log.Entry.{Entry}
use Rattle.tree_table.specs.Replay.{numbered, Becomes}
use Rattle.tree_table.specs.Whole.{IsPass, weight_at_home, Claims, IsWhole}
use Rattle.tree_table.specs.Kinds.{pivoting, ticketed}
use Rattle.tree_table.proofs.Sums.{weigh-one, weigh-times, weigh-le, weigh-append, weigh-set, term_le, weigh-only}
use Rattle.tree_table.proofs.Nodes.{same_nodes}
use Rattle.tree_table.proofs.Logs.{numbered-push, length-numbered, below_by, numbered_below, leads_on}
use Rattle.tree_table.proofs.Tables.{Table, Token, Home, listed, each_set, alone}

module _ {T : Type 0} (lists : T → PieceLists) (start : Opening) where
  -- the pieces at home and those in hand, as lists
  at_slot : Home T → List PieceLists
  at_slot none = []
  at_slot (some None) = []
  at_slot (some (Some piece)) = lists piece ∷ []

  kept : List (Home T) → List PieceLists
  kept [] = []
  kept (h ∷ hs) = at_slot h ++ kept hs

  weigh-at : (f : PieceLists → ℕ) (h : Home T) → weigh f (at_slot h) ≡ weight_at_home lists f h
  unfolding at_slot
  weigh-at f none = refl
  weigh-at f (some None) = refl
  weigh-at f (some (Some piece)) = omega arith

  weigh-kept : (f : PieceLists → ℕ) (hs : List (Home T)) → weigh f (kept hs) ≡ weigh (weight_at_home lists f) hs
  unfolding kept
  weigh-kept f [] = refl
  weigh-kept f (h ∷ hs) = let a = weigh-append f (at_slot h) (kept hs) in let b = weigh-at f h in let c = weigh-kept f hs in omega arith

  held : List View → List PieceLists
  held [] = []
  held (v ∷ vs) = v.hands ++ held vs

  weigh-held : (f : PieceLists → ℕ) (vs : List View) → weigh f (held vs) ≡ weigh (λ (v : View). weigh f v.hands) vs
  unfolding held
  weigh-held f [] = refl
  weigh-held f (v ∷ vs) = let a = weigh-append f v.hands (held vs) in let c = weigh-held f vs in omega arith

  -- the clock stays far below 2 ^ 64
  clock_low : (s : Table T) (r : IsWhole lists start s) → length r.log ≤ 274877906944
  clock_low s r =
      let e = r.entries (λ _. 1) in
      let a = weigh-one (numbered 0 r.log) in let b = length-numbered 0 r.log in
      let c = weigh-le (λ (v : View). weigh (λ _. 1) v.entries) (λ (v : View). v.shares * 4294967296) s.views (λ j v h.
      let fits = r.passes j v h in
      dite (ℕ_discrete v.shares 0)
      (λ z. let t : weigh (λ _. 1) v.entries ≡ 0 = ap (weigh (λ _. 1)) (fits.spent z).no_entries in omega arith)
      (λ n. let t = weigh-one v.entries in let q = fits.few_entries in omega arith)) in
      let d = weigh-times (λ (v : View). v.shares) s.views in let q = r.shares in omega arith

  pub tickets : (n id : ℕ) (me : Token T) (entry : Entry) (next : List PieceLists) → 0 < me.0.shares → length me.0.entries + 1 < 2 ^ 32 → Becomes me.0.opening me.0.hands entry next
      → Allows (IsWhole lists start) n id me 0 (λ y. (y + 1) % 2 ^ 64) (ticketed entry next (step n 0 1 0 none) me)
  tickets n id me entry next live room pivots s r long at _ =
      let v : View = me.0 in
      let y : ℕ = get_or s.words 0 0 in
      let c : ℕ = length r.log in
      let m : Pivoted = record { entry = entry; before = v.hands; after = next } in
      let w : View = pivoting v y entry next in
      let vs : List View = set s.views id w in
      let low = clock_low s r in
      let is : y ≡ c = r.clock in
      let up : (y + 1) % 2 ^ 64 ≡ c + 1 = mod-eq_of_lt (omega arith) ∙ ap (λ (z : ℕ). z + 1) is in
      let fits = r.passes id v at in
      let pivot : Becomes start v.hands entry next = subst (λ (z : Opening). Becomes z v.hands entry next) (fits.same_opening live) pivots in
      let nodes = same_nodes _ _ v.hands entry next pivot in
      let now : List PieceLists = kept s.homes ++ held vs in
      let weighs : (f : PieceLists → ℕ) → weigh f now + weigh f v.hands ≡ weigh f r.now + weigh f next = λ f.
      let a = weigh-append f (kept s.homes) (held vs) in let b = weigh-kept f s.homes in let d = weigh-held f vs in
      let t = weigh-set (λ (u : View). weigh f u.hands) s.views id v w at in let p = r.pieces f in omega arith in
      let fits' : IsPass start w = record {
        spent = λ z. absurd (omega arith);
        same_opening = fits.same_opening;
        few_entries = (let a = length-append v.entries ((y, m) ∷ []) in omega arith);
        owns = λ k. let o = fits.owns k in let e = nodes k in omega arith;
      } in (
        w,
        keeps,
        tt,
        record {
          now = now;
          log = r.log ++ m ∷ [];
          one_each = length-set s.words 0 _ ∙ r.one_each;
          shares = let t = weigh-set (λ (u : View). u.shares) s.views id v w at in let q = r.shares in omega arith;
          passes = each_set lists start s.views id w r.passes fits';
          clock = get_or-set_same s.words 0 _ 0 (let z = r.one_each in omega arith) ∙ (up ∙ (let a = length-append r.log (m ∷ []) in omega arith));
          leads = leads_on start start.pieces r.log r.now now m r.leads record {
            there = λ f. let t = term_le (λ (u : View). weigh f u.hands) s.views id v at in let p = r.pieces f in omega arith;
            becomes = pivot;
            replaced = weighs;
          };
          entries = λ f.
              let t = weigh-set (λ (u : View). weigh f u.entries) s.views id v w at in
              let a = weigh-append f v.entries ((y, m) ∷ []) in
              let b : weigh f (numbered 0 (r.log ++ m ∷ [])) ≡ weigh f (numbered 0 r.log ++ (0 + c, m) ∷ []) = ap (weigh f) (numbered-push 0 r.log m) in
              let d = weigh-append f (numbered 0 r.log) ((0 + c, m) ∷ []) in
              let g : f (0 + c, m) ≡ f (y, m) = ap (λ (z : ℕ). f (z, m)) (let h : 0 + c ≡ y = omega arith in h) in
              let e = r.entries f in omega arith;
          pieces = λ f. let a = weigh-append f (kept s.homes) (held vs) in let b = weigh-kept f s.homes in let d = weigh-held f vs in omega arith;
          apart = λ u. let a = weighs (λ sh. times u (nodes_in sh)) in let b = nodes u in let d = r.apart u in omega arith;
          claims = λ j home e.
              let t = weigh-set (λ (u : View). times j u.slots) s.views id v w at in
              let count : listed j vs ≡ listed j s.views = omega arith in
              let word : get_or (set s.words 0 ((y + 1) % 2 ^ 64)) (j + 1) 0 ≡ get_or s.words (j + 1) 0 = get_or-set_other s.words 0 (j + 1) _ 0 (λ e. omega arith) in
              subst (λ (z : ℕ × ℕ). Claims lists j z.0 z.1 home) (λ i. (sym word i, sym count i)) (r.claims j home e);
        },
        (
          refl,
          below_by y v.entries (
              let f : ℕ × Pivoted → ℕ = λ e. (e.0 + 1) - y in
              let t = term_le (λ (u : View). weigh f u.entries) s.views id v at in let e = r.entries f in
              let z = numbered_below 0 y r.log (omega arith) in omega arith),
          λ all.
              let f : ℕ × Pivoted → ℕ = λ _. 1 in
              let e = r.entries f in
              let o : weigh (λ (u : View). weigh f u.entries) s.views ≡ weigh f v.entries = weigh-only (λ (u : View). weigh f u.entries) s.views id v at (λ j u other e. ap (weigh f) (alone lists start s r id v at all j u other e).no_entries) in
              let a = weigh-one (numbered 0 r.log) in let b = length-numbered 0 r.log in let d = weigh-one v.entries in omega arith,
        ),
      )
