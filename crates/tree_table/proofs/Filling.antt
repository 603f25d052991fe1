-- The last piece of a list goes home.
use Rattle.std.proofs.Common.{◌≡◌, ℕ, ◌+◌, ◌<◌, ◌≤◌, List, [], ◌∷◌, ◌++◌, map, length, sym, ap, ◌∙◌, subst, refl, arith}
use mathlib.Core.List.{map-append}
use Rattle.std.specs.Prelude.{Option, None}
use Rattle.atomic_table.specs.Table.{Me, rest}
use Rattle.np_model.specs.Basis.Pieces.{PieceLists, nodes_in, least_node}
use Rattle.tree_table.specs.Passes.{View}
use Rattle.tree_table.specs.Weights.{weigh, times}
use Rattle.tree_table.specs.Slots.{HaveSlots, having, lacking}
use Rattle.tree_table.specs.Kinds.{opening_slot, putting}
use Rattle.tree_table.proofs.Sums.{weigh-append}
use Rattle.tree_table.proofs.Nodes.{least_stands}
use Rattle.tree_table.proofs.InHand.{lacking_last, slots-append, without_one}

pub record Popped (n : ℕ) (hs left : List PieceLists) (sh : PieceLists) : Type 0 where
  pub is : hs ≡ left ++ sh ∷ []
  pub lies : 0 < length sh.nodes
  pub near : least_node sh < n
  pub all : HaveSlots n left
  pub apart : (u : ℕ) → having u left ≤ 1
  pub gone : lacking (least_node sh) hs ≡ left
  pub held : 1 ≤ having (least_node sh) hs

pub popped : {T : Type 0} (lists : T → PieceLists) (n : ℕ) (items left : List T) (piece : T) → items ≡ left ++ piece ∷ [] → HaveSlots n (map lists items) → ((u : ℕ) → having u (map lists items) ≤ 1)
    → Popped n (map lists items) (map lists left) (lists piece)
popped lists n items left piece e all apart =
    let sh : PieceLists = lists piece in
    let is : map lists items ≡ map lists left ++ sh ∷ [] = ap (map lists) e ∙ map-append lists left (piece ∷ []) in
    let t = slots-append n (map lists left) sh (subst (HaveSlots n) is all) in
    let few : (u : ℕ) → having u (map lists left ++ sh ∷ []) ≤ 1 = λ u. subst (λ z. having u z ≤ 1) is (apart u) in
    let sums : (u : ℕ) → having u (map lists left ++ sh ∷ []) ≡ having u (map lists left) + having u (sh ∷ []) = λ u. weigh-append (λ (z : PieceLists). times u (nodes_in z)) (map lists left) (sh ∷ []) in record {
      is = is;
      lies = t.1;
      near = t.2;
      all = t.0;
      apart = λ u. let a = few u in let b = sums u in omega arith;
      gone = ap (lacking (least_node sh)) is ∙ lacking_last (least_node sh) (map lists left) sh n t.0 (refl, t.1) (few (least_node sh));
      held = let a = sums (least_node sh) in let b = least_stands (least_node sh) sh (refl, t.1) in let c : having (least_node sh) (map lists items) ≡ having (least_node sh) (map lists left ++ sh ∷ []) = ap (having (least_node sh)) is in omega arith;
    }

module _ (n : ℕ) (hs left : List PieceLists) (sh : PieceLists) (p : Popped n hs left sh) where
  pub gone_held : (k : ℕ) (v : View) → k ≡ least_node sh → v.hands ≡ hs → (f : PieceLists → ℕ) → weigh f (lacking k v.hands) + f sh ≡ weigh f v.hands
  gone_held k v e h f =
      let a : weigh f (lacking k v.hands) ≡ weigh f left = ap (weigh f) ((λ i. lacking (e i) (h i)) ∙ p.gone) in
      let b : weigh f v.hands ≡ weigh f (left ++ sh ∷ []) = ap (weigh f) (h ∙ p.is) in
      let c = weigh-append f left (sh ∷ []) in omega arith

  -- the pass after the slot was opened and the piece was put
  pub filled : {T : Type 0} (k : ℕ) (v : View) (m : Me (Option T) View) → k ≡ least_node sh → v.slots ≡ [] → m.0 ≡ record v { hands = hs } → putting (opening_slot m.0 k) k ≡ record v { hands = left }
  filled k v m e clear is =
      ap (λ (x : View). putting (opening_slot x k) k) is
      ∙ (let h : lacking k hs ≡ left = ap (λ z. lacking z hs) e ∙ p.gone in
      let s = without_one k v.slots in
      λ i. record { opening = v.opening; shares = v.shares; hands = h i; slots = s i; entries = v.entries; got = v.got; looks = v.looks })

  pub filled_me : {T : Type 0} (k : ℕ) (v : View) (m m1 m2 : Me (Option T) View) → k ≡ least_node sh → v.slots ≡ [] → m ≡ (record v { hands = hs }, []) → m1 ≡ (opening_slot m.0 k, (k, None) ∷ m.1) → m2 ≡ (putting m1.0 k, rest m1.1)
      → m2 ≡ (record v { hands = left }, [])
  filled_me {T} k v m m1 m2 e clear is is1 is2 =
      is2 ∙ (ap (λ (z : Me (Option T) View). (putting z.0 k, rest z.1)) is1
      ∙ (λ i. (filled k v m e clear (ap (λ (z : Me (Option T) View). z.0) is) i, (is i).1)))

  pub held_here : (k : ℕ) (v : View) → k ≡ least_node sh → v.hands ≡ hs → 1 ≤ having k v.hands
  held_here k v e h = subst (λ (z : ℕ × List PieceLists). 1 ≤ having z.0 z.1) (λ i. (sym e i, sym h i)) p.held
