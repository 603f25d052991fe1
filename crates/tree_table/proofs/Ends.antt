-- A table is whole at its start, and at its end it has all pieces.
use Rattle.std.proofs.Common.{◌≡◌, ℕ, zero, suc, ◌+◌, ◌<◌, ◌≤◌, List, [], ◌∷◌, length, get_or, sym, refl, ap, ◌∙◌, subst, arith, map, replicate}
use mathlib.Core.Option.{none, some, some-injective, some-ne-none}
use lib.ListN.{get_elem?, length-map, length-replicate}
use Rattle.std.specs.Prelude.{Option, Some, None}
use Rattle.atomic_table.specs.Table.{opening, Final, Seen}
use Rattle.np_model.specs.Basis.Pieces.{PieceLists}
use Rattle.tree_table.specs.Passes.{Opening, View, opening_view}
use Rattle.tree_table.specs.Weights.{weigh, times}
use Rattle.tree_table.specs.Slots.{LiesAt, having}
use Rattle.tree_table.specs.Replay.{HasSeen}
use Rattle.tree_table.specs.Whole.{IsPass, weight_at_home, Claims, IsWhole}
use Rattle.tree_table.proofs.Sums.{weigh-alike, weigh-none, weigh-only, there, within}
use Rattle.tree_table.proofs.Tables.{Home, listed, alone, stands}

module _ {T : Type 0} (lists : T → PieceLists) (start : Opening) where
  vacant : (n k : ℕ) (h : Home T) → get_elem? (map some (replicate {A = Option T} n None)) k ≡ some h → h ≡ some None
  vacant zero k h e = absurd (some-ne-none h (sym e))
  vacant (suc n) zero h e = sym (some-injective (some None) h e)
  vacant (suc n) (suc k) h e = vacant n k h e

  weigh-vacant : (f : PieceLists → ℕ) (n : ℕ) → weigh (weight_at_home lists f) (map some (replicate {A = Option T} n None)) ≡ 0
  weigh-vacant f n = weigh-none (weight_at_home lists f) (map some (replicate n None)) (λ k h e. ap (weight_at_home lists f) (vacant n k h e))

  pub starts : (ws : List ℕ) (n : ℕ) → length ws ≡ n + 1 → get_or ws 0 0 ≡ 0 → ((k : ℕ) → k < n → get_or ws (k + 1) 0 ≡ 2) → ((u : ℕ) → having u start.pieces ≤ 1) → IsWhole lists start (opening ws (replicate n None) (opening_view start))
  starts ws n one_each first empty apart =
      let long : length (map some (replicate {A = Option T} n None)) ≡ n = length-map (replicate n None) some ∙ length-replicate n None in record {
        now = start.pieces;
        log = [];
        one_each = one_each ∙ ap (λ (z : ℕ). z + 1) (sym long);
        shares = refl;
        passes = one;
        clock = first;
        leads = λ f. refl;
        entries = λ f. refl;
        pieces = λ f. let z = weigh-vacant f n in omega arith;
        apart = apart;
        claims = λ k h e.
            let near = within (map some (replicate {A = Option T} n None)) k h e in
            subst (λ (z : Home T). Claims lists k (get_or ws (k + 1) 0) 0 z) (sym (vacant n k h e)) (empty k (omega arith), refl);
      }
    where
      one : (id : ℕ) (v : View) → get_elem? (opening_view start ∷ []) id ≡ some v → IsPass start v
      one zero v e = subst (IsPass start) (some-injective (opening_view start) v e) record { spent = λ z. absurd (omega arith); same_opening = λ p. refl; few_entries = omega arith; owns = λ k. omega arith }
      one (suc id) v e = absurd (some-ne-none v (sym e))

  -- the slots after the table was closed: they have all pieces of the state
  abbrev pub Stored : View → List (Option T) → List PieceLists → Type 0
  Stored v xs now = HasSeen v now × ((f : PieceLists → ℕ) → weigh f now ≡ weigh (λ x. weight_at_home lists f (some x)) xs) × ((k : ℕ) (piece : T) → get_elem? xs k ≡ some (Some piece) → LiesAt k (lists piece))

  abbrev Lies : ℕ → Home T → Type 0
  Lies k none = Unit {0}
  Lies k (some None) = Unit {0}
  Lies k (some (Some piece)) = LiesAt k (lists piece)

  pub closes : (id : ℕ) (v : View) (ws : List ℕ) (xs : List (Option T)) → Final (Seen (IsWhole lists start) id v) ws xs → v.shares ≡ 64 → v.hands ≡ [] → (now : List PieceLists) × Stored v xs now
  closes id v ws xs end all bare =
      let s = end.0 in let r = end.1.0 in let at = end.1.1 in let long = end.3 in let shown = end.4 in
      let fits = r.passes id v at in
      let f_hands = (λ (f : PieceLists → ℕ). weigh-only (λ (u : View). weigh f u.hands) s.views id v at (λ j u other e. ap (weigh f) (alone lists start s r id v at all j u other e).no_hands) ∙ ap (weigh f) bare) in
      let none_out : (k : ℕ) → listed k s.views ≡ 0 = λ k.
      let mine : times k v.slots ≡ 0 = let o = fits.owns k in let z : having k v.hands ≡ 0 = ap (having k) bare in omega arith in
      weigh-only (λ (u : View). times k u.slots) s.views id v at (λ j u other e. ap (times k) (alone lists start s r id v at all j u other e).no_slots) ∙ mine in
      let back : (k : ℕ) (h : Home T) → get_elem? s.homes k ≡ some h → (x : Option T) × (h ≡ some x) = λ k h e. is_in k _ _ h (r.claims k h e) (none_out k) in (
        r.now,
        (
          stands lists start s r id v at (omega arith),
          (λ f.
              let p = r.pieces f in let z = f_hands f in
              let a = weigh-alike (weight_at_home lists f) (λ x. weight_at_home lists f (some x)) s.homes xs long (λ k h x e d.
              let b = back k h e in ap (weight_at_home lists f) (b.1 ∙ ap some (some-injective b.0 x (sym (shown k b.0 (e ∙ ap some b.1)) ∙ d)))) in omega arith),
          λ k piece e.
              let h = there s.homes k (let w = within xs k (Some piece) e in omega arith) in
              let b = back k h.0 h.1 in
              let is : h.0 ≡ some (Some piece) = b.1 ∙ ap some (some-injective b.0 (Some piece) (sym (shown k b.0 (h.1 ∙ ap some b.1)) ∙ e)) in
              lies_there k _ _ h.0 (r.claims k h.0 h.1) piece is,
        ),
      )
    where
      is_in : (k word taken : ℕ) (h : Home T) → Claims lists k word taken h → taken ≡ 0 → (x : Option T) × (h ≡ some x)
      is_in k word taken none c z = absurd (let a = c.1 in omega arith)
      is_in k word taken (some x) c z = (x, refl)

      lies_there : (k word taken : ℕ) (h : Home T) → Claims lists k word taken h → (piece : T) → h ≡ some (Some piece) → LiesAt k (lists piece)
      lies_there k word taken none c piece e = absurd (cc)
      lies_there k word taken (some None) c piece e = absurd (cc)
      lies_there k word taken (some (Some p)) c piece e = subst (Lies k) e c.2
