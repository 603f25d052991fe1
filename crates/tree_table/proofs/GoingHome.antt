-- The pieces after a pivot can go home from the slots of those before it: the first of them has the least node of all, which is that of the slot
-- taken first.
use Rattle.std.proofs.Common.{◌≡◌, ℕ, zero, suc, ◌+◌, ◌<◌, ◌≤◌, ◌⊎◌, List, [], ◌∷◌, length, get_or, sym, subst, refl, inl, inr, ⊎_elim, arith}
use Rattle.std.specs.List.Sorted.{IsStrictlyIncreasing}
use mathlib.Core.Logic.{dite}
use native.Mathlib.Decide.{ℕ_discrete}
use lib.ListN.{length-map}
use Rattle.gain_graphs.specs.Arcs.{IsIn}
use Rattle.np_model.specs.Basis.Pieces.{PieceLists, nodes_in, least_node}
use Rattle.np_model.specs.Basis.Sound.{IsAfter, IsSound, AreOneOrTwo}
use Rattle.np_model.specs.Network.Flows.{Network}
use Rattle.np_model.specs.declared.log.Entry.{Entry}
use Rattle.tree_table.specs.Weights.{times}
use Rattle.tree_table.specs.Slots.{LiesAt, HasSlot, having}
use Rattle.tree_table.specs.Steps.Kept.{GoHome}
use Rattle.tree_table.proofs.Nodes.{least_stands, stands_in, same_nodes}

-- ---- the first of a rising list is its least

rises : (xs : List ℕ) → IsStrictlyIncreasing xs → (k : ℕ) → k < length xs → get_or xs 0 0 ≤ get_or xs k 0
rises xs up zero near = omega arith
rises xs up (suc k) near =
    let a = rises xs up k (omega arith) in
    let next : k + 1 ≡ suc k = omega arith in
    let b : get_or xs k 0 < get_or xs (suc k) 0 = subst (λ (j : ℕ). get_or xs k 0 < get_or xs j 0) next (up k (omega arith)) in omega arith

place_of : (v : ℕ) (xs : List ℕ) → IsIn v xs → (k : ℕ) × (k < length xs) × (get_or xs k 0 ≡ v)
place_of v [] here = absurd here
place_of v (x ∷ xs) here =
    ⊎_elim
    (λ (e : v ≡ x). (0, omega arith, sym e))
    (λ (later : IsIn v xs). let t = place_of v xs later in (suc t.0, (let a = t.1 in omega arith), t.2))
    here

no_less : (v : ℕ) (xs : List ℕ) → IsStrictlyIncreasing xs → 1 ≤ times v xs → get_or xs 0 0 ≤ v
no_less v xs up stands = let t = place_of v xs (stands_in v xs stands) in let a = rises xs up t.0 t.1 in let b = t.2 in omega arith

-- ---- a node that stands in pieces, and below which none does

record IsLeast (a : ℕ) (pieces : List PieceLists) : Type 0 where
  pub here : 1 ≤ having a pieces
  pub low : (v : ℕ) → 1 ≤ having v pieces → a ≤ v

abbrev Ascend : List PieceLists → Type 0
Ascend pieces = (p : PieceLists) → IsIn p pieces → IsStrictlyIncreasing (nodes_in p)

least_of_one : (a : ℕ) (p : PieceLists) → LiesAt a p → Ascend (p ∷ []) → IsLeast a (p ∷ [])
least_of_one a p lies up = record {
  here = let s = least_stands a p lies in omega arith;
  low = λ v stands. let l = no_less v (nodes_in p) (up p (inl refl)) (omega arith) in let e = lies.0 in omega arith;
}

least_of_two : (a : ℕ) (p q : PieceLists) → LiesAt a p → a < least_node q → Ascend (p ∷ q ∷ []) → IsLeast a (p ∷ q ∷ [])
least_of_two a p q lies less up = record {
  here = let s = least_stands a p lies in omega arith;
  low = λ v stands.
      dite (ℕ_discrete (times v (nodes_in p)) 0)
      (λ none. let l = no_less v (nodes_in q) (up q (inr (inl refl))) (let z = none in omega arith) in omega arith)
      (λ some_there. let l = no_less v (nodes_in p) (up p (inl refl)) (let z = some_there in omega arith) in let e = lies.0 in omega arith);
}

-- the slots that pieces are taken from: that of their least node, and maybe a later one
abbrev AreSlotsOf : ℕ → ℕ → List ℕ → Type 0
AreSlotsOf n a slots = ((slots ≡ a ∷ []) × (a < n)) ⊎ ((b : ℕ) × (slots ≡ b ∷ a ∷ []) × (a < b) × (b < n))

of_home : (n : ℕ) (slots : List ℕ) (before : List PieceLists) → GoHome n slots before → AreOneOrTwo before → Ascend before → (a : ℕ) × AreSlotsOf n a slots × IsLeast a before
of_home n slots [] home few up = absurd few
of_home n [] (x ∷ []) home few up = absurd home
of_home n (a ∷ []) (x ∷ []) home few up = (a, inl (refl, home.0), least_of_one a x home.1 up)
of_home n (b ∷ a ∷ []) (x ∷ []) home few up = (a, inr (b, refl, home.0, home.1), least_of_one a x home.2 up)
of_home n (c ∷ b ∷ a ∷ more) (x ∷ []) home few up = absurd home
of_home n [] (x ∷ y ∷ []) home few up = absurd home
of_home n (a ∷ []) (x ∷ y ∷ []) home few up = (a, inl (refl, (let s = home.1.1 in let l = home.2 in omega arith)), least_of_two a x y home.0 home.2 up)
of_home n (b ∷ a ∷ []) (x ∷ y ∷ []) home few up = (a, inr (b, refl, home.0, home.1), least_of_two a x y home.2 home.4 up)
of_home n (c ∷ b ∷ a ∷ more) (x ∷ y ∷ []) home few up = absurd home
of_home n slots (x ∷ y ∷ z ∷ zs) home few up = absurd few

one_home : (n a : ℕ) (slots : List ℕ) (x : PieceLists) → AreSlotsOf n a slots → LiesAt a x → GoHome n slots (x ∷ [])
one_home n a slots x taken lies =
    ⊎_elim
    (λ (t : (slots ≡ a ∷ []) × (a < n)). subst (λ z. GoHome n z (x ∷ [])) (sym t.0) (t.1, lies))
    (λ (t : (b : ℕ) × (slots ≡ b ∷ a ∷ []) × (a < b) × (b < n)). subst (λ z. GoHome n z (x ∷ [])) (sym t.1) (t.2, t.3, lies))
    taken

two_home : (n a : ℕ) (slots : List ℕ) (x y : PieceLists) → AreSlotsOf n a slots → LiesAt a x → HasSlot n y → a < least_node y → GoHome n slots (x ∷ y ∷ [])
two_home n a slots x y taken lies slot less =
    ⊎_elim
    (λ (t : (slots ≡ a ∷ []) × (a < n)). subst (λ z. GoHome n z (x ∷ y ∷ [])) (sym t.0) (lies, slot, less))
    (λ (t : (b : ℕ) × (slots ≡ b ∷ a ∷ []) × (a < b) × (b < n)). subst (λ z. GoHome n z (x ∷ y ∷ [])) (sym t.1) (t.2, t.3, lies, slot, less))
    taken

-- ---- a sound piece

has_node : (net : Network) (p : PieceLists) → IsSound net p → 0 < length p.nodes
has_node net p sound =
    let t = sound.in_net.shape.quasi_tree.some_node in
    let k = place_of t.0 (nodes_in p) t.1 in let e = length-map p.nodes (λ (n : ℕ × _). n.0) in let a = k.1 in omega arith

has_slot : (net : Network) (p : PieceLists) → IsSound net p → HasSlot (length net.supply) p
has_slot net p sound =
    let some_there = has_node net p sound in
    (some_there, sound.in_net.nodes (least_node p) (stands_in (least_node p) (nodes_in p) (least_stands (least_node p) p (refl, some_there))))

module _ (net : Network) (real : ℕ) (entry : Entry) where
  first_of_one : (a : ℕ) (before : List PieceLists) (x : PieceLists) → IsAfter net real before entry (x ∷ []) → IsLeast a before → LiesAt a x
  first_of_one a before x h least =
      let sound = h.sound_after.each x (inl refl) in
      let some_there = has_node net x sound in
      let same = same_nodes net real before entry (x ∷ []) h in
      let own = least_stands (least_node x) x (refl, some_there) in
      let above : a ≤ least_node x = least.low (least_node x) (let e = same (least_node x) in omega arith) in
      let below : least_node x ≤ a = no_less a (nodes_in x) sound.in_net.shape.nodes_ascend (let e = same a in let s = least.here in omega arith) in
      ((let p = above in let q = below in omega arith), some_there)

  first_of_two : (a : ℕ) (before : List PieceLists) (x y : PieceLists) → IsAfter net real before entry (x ∷ y ∷ []) → IsLeast a before → LiesAt a x
  first_of_two a before x y h least =
      let sound = h.sound_after.each x (inl refl) in
      let other = h.sound_after.each y (inr (inl refl)) in
      let some_there = has_node net x sound in
      let same = same_nodes net real before entry (x ∷ y ∷ []) h in
      let own = least_stands (least_node x) x (refl, some_there) in
      let above : a ≤ least_node x = least.low (least_node x) (let e = same (least_node x) in omega arith) in
      let order : least_node x < least_node y = h.in_order in
      let below : least_node x ≤ a =
      dite (ℕ_discrete (times a (nodes_in x)) 0)
      (λ none. let l = no_less a (nodes_in y) other.in_net.shape.nodes_ascend (let e = same a in let s = least.here in let z = none in omega arith) in omega arith)
      (λ stands. no_less a (nodes_in x) sound.in_net.shape.nodes_ascend (let z = stands in omega arith)) in
      ((let p = above in let q = below in omega arith), some_there)

  go_home_of : (slots : List ℕ) (before after : List PieceLists) → IsAfter net real before entry after → (a : ℕ) → AreSlotsOf (length net.supply) a slots → IsLeast a before
      → GoHome (length net.supply) slots after
  go_home_of slots before [] h a taken least = absurd h.in_order
  go_home_of slots before (x ∷ []) h a taken least = one_home (length net.supply) a slots x taken (first_of_one a before x h least)
  go_home_of slots before (x ∷ y ∷ []) h a taken least =
      let lies = first_of_two a before x y h least in
      two_home (length net.supply) a slots x y taken lies (has_slot net y (h.sound_after.each y (inr (inl refl)))) (let e = lies.0 in let o : least_node x < least_node y = h.in_order in omega arith)
  go_home_of slots before (x ∷ y ∷ z ∷ zs) h a taken least = absurd h.in_order

  pub go_home_after : (slots : List ℕ) (before after : List PieceLists) → IsAfter net real before entry after → GoHome (length net.supply) slots before
      → GoHome (length net.supply) slots after
  go_home_after slots before after h home =
      let t = of_home (length net.supply) slots before home h.few (λ p here. (h.sound.each p here).in_net.shape.nodes_ascend) in go_home_of slots before after h t.0 t.1 t.2
