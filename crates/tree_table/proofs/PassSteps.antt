-- Fork and fold keep the table whole.
use Rattle.std.proofs.Common.{◌≡◌, ℕ, ◌^◌, ◌+◌, ◌/◌, ◌<◌, ◌≤◌, List, [], ◌∷◌, ◌++◌, length, set, get_or, sym, refl, ap, subst, ⊎_elim, arith, length-append}
use mathlib.Core.Option.{none}
use lib.Seq.{set-get_or}
use Rattle.atomic_table.specs.Table.{step, keeps, Allows, Splits, Joins}
use Rattle.atomic_table.proofs.Lists.{at_snoc}
use Rattle.np_model.specs.Basis.Pieces.{PieceLists}
use Rattle.tree_table.specs.Passes.{Opening, View}
use Rattle.tree_table.specs.Weights.{weigh, times}
use Rattle.tree_table.specs.Whole.{IsPass, IsWhole}
use Rattle.tree_table.specs.Kinds.{looking, half, other_half, folded, spent_view, looked}
use Rattle.tree_table.proofs.Sums.{weigh-append, weigh-set, term_le}
use Rattle.tree_table.proofs.Tables.{Token, each_set, seen, reviewed}

module _ {T : Type 0} (lists : T → PieceLists) (start : Opening) where
  pub looks : (n id : ℕ) (me : Token T) → 0 < me.0.shares → Allows (IsWhole lists start) n id me 0 (λ y. y) (looked lists (step n 0 0 0 none) me)
  looks n id me live s r long at _ = (
    looking me.0 0 (get_or s.words 0 0),
    keeps,
    tt,
    subst (λ (ws : List ℕ). IsWhole lists start record { words = ws; homes = s.homes; views = set s.views id (looking me.0 0 (get_or s.words 0 0)) }) (sym (set-get_or s.words 0 0)) (seen lists start s r id me.0 0 (get_or s.words 0 0) at),
    (
      refl,
      (let t = term_le (λ (u : View). u.shares) s.views id me.0 at in let q = r.shares in omega arith),
      record {
        state = s;
        whole = subst (λ (z : Opening). IsWhole lists z s) (sym ((r.passes id me.0 at).same_opening live)) r;
        is_pass = (id, at);
        clock = refl;
      },
    ),
  )

  pub forks : (id : ℕ) (v : View) → 2 ≤ v.shares → Splits (IsWhole lists start) id v (half v) (other_half v)
  forks id v some_shares s r at =
      let l : View = half v in let o : View = other_half v in let vs : List View = set s.views id l in let fits = r.passes id v at in
      let half_of : v.shares / 2 ≤ v.shares = omega arith in
      let left : IsPass start l = record { spent = λ z. absurd (omega arith); same_opening = λ p. fits.same_opening (omega arith); few_entries = fits.few_entries; owns = fits.owns } in
      let right : IsPass start o = record { spent = λ z. record { no_share = z; no_hands = refl; no_slots = refl; no_entries = refl }; same_opening = λ p. fits.same_opening (omega arith); few_entries = omega arith; owns = λ k. omega arith } in
      let each = each_set lists start s.views id l r.passes left in
      reviewed lists start s r (vs ++ o ∷ [])
      (let t = weigh-set (λ (u : View). u.shares) s.views id v l at in let q = r.shares in let a = weigh-append (λ (u : View). u.shares) vs (o ∷ []) in omega arith)
      (λ j u e. ⊎_elim (each j u) (λ (is : o ≡ u). subst (IsPass start) is right) (at_snoc vs o u j e))
      (λ f. let t = weigh-set (λ (u : View). weigh f u.entries) s.views id v l at in let a = weigh-append (λ (u : View). weigh f u.entries) vs (o ∷ []) in omega arith)
      (λ f. let t = weigh-set (λ (u : View). weigh f u.hands) s.views id v l at in let a = weigh-append (λ (u : View). weigh f u.hands) vs (o ∷ []) in omega arith)
      (λ k. let t = weigh-set (λ (u : View). times k u.slots) s.views id v l at in let a = weigh-append (λ (u : View). times k u.slots) vs (o ∷ []) in omega arith)

  pub folds : (id : ℕ) (v : View) (other : ℕ) (w : View) → 0 < v.shares → length v.entries + length w.entries < 2 ^ 32 → w.hands ≡ [] → w.slots ≡ [] → Joins (IsWhole lists start) id v other w (folded v w) spent_view
  folds id v other w live room bare clear s r at apart at' =
      let b : View = folded v w in let vs : List View = set s.views id b in let fits = r.passes id v at in
      let both : IsPass start b = record { spent = λ z. absurd (omega arith); same_opening = λ p. fits.same_opening live; few_entries = (let a = length-append v.entries w.entries in omega arith); owns = fits.owns } in
      let none_left : IsPass start spent_view = record { spent = λ z. record { no_share = z; no_hands = refl; no_slots = refl; no_entries = refl }; same_opening = λ p. absurd (omega arith); few_entries = omega arith; owns = λ k. omega arith } in
      reviewed lists start s r (set vs other spent_view)
      (let t = weigh-set (λ (u : View). u.shares) s.views id v b at in let t' = weigh-set (λ (u : View). u.shares) vs other w spent_view at' in let q = r.shares in omega arith)
      (each_set lists start vs other spent_view (each_set lists start s.views id b r.passes both) none_left)
      (λ f. let t = weigh-set (λ (u : View). weigh f u.entries) s.views id v b at in let t' = weigh-set (λ (u : View). weigh f u.entries) vs other w spent_view at' in let a = weigh-append f v.entries w.entries in omega arith)
      (λ f. let t = weigh-set (λ (u : View). weigh f u.hands) s.views id v b at in let t' = weigh-set (λ (u : View). weigh f u.hands) vs other w spent_view at' in let z : weigh f w.hands ≡ 0 = ap (weigh f) bare in omega arith)
      (λ k. let t = weigh-set (λ (u : View). times k u.slots) s.views id v b at in let t' = weigh-set (λ (u : View). times k u.slots) vs other w spent_view at' in let z : times k w.slots ≡ 0 = ap (times k) clear in omega arith)
