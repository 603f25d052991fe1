-- What a pass has in hand, in the cases that the calls meet.
use Rattle.std.proofs.Common.{◌≡◌, ◌≢◌, ℕ, ◌+◌, ◌<◌, ◌≤◌, List, [], ◌∷◌, ◌++◌, sym, ap, ◌∙◌, subst, refl, inl, inr, ⊎_elim, arith, cond, eq-eqb, ne_eqb, length}
use Rattle.std.specs.Prelude.{Option}
use Rattle.atomic_table.specs.Table.{Me}
use Rattle.gain_graphs.specs.Arcs.{IsIn}
use Rattle.np_model.specs.Basis.Pieces.{PieceLists, nodes_in, least_node}
use Rattle.tree_table.specs.Passes.{View}
use Rattle.tree_table.specs.Weights.{times, without, once}
use Rattle.tree_table.specs.Slots.{LiesAt, HaveSlots, having, lacking, lying_at}
use Rattle.tree_table.specs.Replay.{HasSeen}
use Rattle.tree_table.specs.Kinds.{looking, taking, putting, got_with, Missed}
use Rattle.tree_table.specs.Calls.{IsGot, IsBusyTwo, with_one, put_again}
use Rattle.tree_table.proofs.Sums.{once-other, weigh-append}
use Rattle.tree_table.proofs.Nodes.{least_stands}

pub without_one : (k : ℕ) (ks : List ℕ) → without k (k ∷ ks) ≡ ks
without_one k ks = ap (λ b. cond b ks (k ∷ without k ks)) (eq-eqb k k refl)

pub lacking_first : (k : ℕ) (sh : PieceLists) (shs : List PieceLists) → least_node sh ≡ k → lacking k (sh ∷ shs) ≡ shs
lacking_first k sh shs e = ap (λ b. cond b shs (sh ∷ lacking k shs)) (eq-eqb (least_node sh) k e)

-- ---- a pass that takes with nothing in hand

module _ (v : View) (bare : v.hands ≡ []) (clear : v.slots ≡ []) where
  -- one take
  pub takes_one : (k : ℕ) (a : PieceLists) → taking (looking v (k + 1) 0) k a ≡ with_one v k a
  takes_one k a =
      let h : v.hands ++ a ∷ [] ≡ a ∷ [] = ap (λ hs. hs ++ a ∷ []) bare in
      let s : k ∷ v.slots ≡ k ∷ [] = ap (λ ks. k ∷ ks) clear in
      let g : got_with v.hands v.got a ≡ a ∷ [] = ap (λ hs. got_with hs v.got a) bare in
      λ i. record { opening = v.opening; shares = v.shares; hands = h i; slots = s i; entries = v.entries; got = g i; looks = v.looks ++ (k + 1, 0) ∷ [] }

  module _ (first second : ℕ) (a : PieceLists) where
    abbrev after : View
    after = with_one v first a

    -- the second slot is busy, and the first piece is put back
    pub puts_again : (word : ℕ) → least_node a ≡ first → putting (looking after (second + 1) word) first ≡ put_again v first second a word
    puts_again word lies =
        let h : lacking first (a ∷ []) ≡ [] = lacking_first first a [] lies in
        let s : without first (first ∷ []) ≡ [] = without_one first [] in
        λ i. record {
          opening = v.opening;
          shares = v.shares;
          hands = h i;
          slots = s i;
          entries = v.entries;
          got = a ∷ [];
          looks = (v.looks ++ (first + 1, 0) ∷ []) ++ (second + 1, word) ∷ [];
        }

    pub busy_two : {T : Type 0} (word : ℕ) (m1 m2 m3 : Me (Option T) View) → first < second → IsGot v first a → m1.0 ≡ after → Missed m1 second word m2
        → m3.0 ≡ putting m2.0 first → IsBusyTwo v first second second word m3.0
    busy_two {T} word m1 m2 m3 apart got is1 missed is3 =
        let n : second ≢ first = λ e. omega arith in
        let w2 : m2.0 ≡ looking after (second + 1) word = ap (λ (m : Me (Option T) View). m.0) missed.0 ∙ ap (λ (x : View). looking x (second + 1) word) is1 in
        let told : (v.shares ≡ 64 → (word ≡ 2) × ((now : List PieceLists) × HasSeen v now × (lying_at second now ≡ 0))) = λ all.
        let F : View → Type 0 = λ x. x.shares ≡ 64 → times second x.slots ≡ 0 → lying_at second x.hands ≡ 0 → (word ≡ 2) × ((now : List PieceLists) × HasSeen x now × (lying_at second now ≡ 0)) in
        let t : F after = subst F is1 missed.2 in
        let d = t all
        (let o : once second first ≡ 0 = once-other second first (λ e. n (sym e)) in omega arith)
        (let o : once second (least_node a) ≡ 0 = once-other second (least_node a) (λ q. n (sym (sym got.lies.0 ∙ q))) in omega arith) in
        (d.0, (d.1.0, record { log = d.1.1.log; leads = d.1.1.leads; own = d.1.1.own; whole = d.1.1.whole }, d.1.2)) in
        inr (refl, record { not_home = missed.1; none_there = told }, (a, got, is3 ∙ (ap (λ (x : View). putting x first) w2 ∙ puts_again word got.lies.0)))

-- the last of pieces that are apart
pub lacking_last : (k : ℕ) (hs : List PieceLists) (sh : PieceLists) (n : ℕ) → HaveSlots n hs → LiesAt k sh → having k (hs ++ sh ∷ []) ≤ 1 → lacking k (hs ++ sh ∷ []) ≡ hs
lacking_last k [] sh n all lies apart = lacking_first k sh [] lies.0
lacking_last k (x ∷ xs) sh n all lies apart =
    let a = weigh-append (λ (z : PieceLists). times k (nodes_in z)) xs (sh ∷ []) in
    let b = least_stands k sh lies in
    let other : least_node x ≢ k = λ e. let d = least_stands k x (e, (all x (inl refl)).0) in omega arith in
    ap (λ b. cond b (xs ++ sh ∷ []) (x ∷ lacking k (xs ++ sh ∷ []))) (ne_eqb (least_node x) k other) ∙ ap (λ z. x ∷ z) (lacking_last k xs sh n (λ p here. all p (inr here)) lies (omega arith))

-- all but the last of them, and the last
pub slots-append : (n : ℕ) (hs : List PieceLists) (sh : PieceLists) → HaveSlots n (hs ++ sh ∷ []) → HaveSlots n hs × (0 < length sh.nodes) × (least_node sh < n)
slots-append n hs sh all = ((λ p here. all p (in_longer p hs here)), (all sh (is_last hs)).0, (all sh (is_last hs)).1)
  where
    in_longer : (p : PieceLists) (xs : List PieceLists) → IsIn p xs → IsIn p (xs ++ sh ∷ [])
    in_longer p [] here = absurd here
    in_longer p (x ∷ xs) here = ⊎_elim (λ e. inl e) (λ later. inr (in_longer p xs later)) here

    is_last : (xs : List PieceLists) → IsIn sh (xs ++ sh ∷ [])
    is_last [] = inl refl
    is_last (x ∷ xs) = inr (is_last xs)
