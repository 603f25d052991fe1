-- What several workers did, once their passes are one.
use Rattle.std.proofs.Common.{◌≡◌, ◌⊎◌, ⊎_elim, inl, inr, ℕ, ◌+◌, ◌-◌, ◌*◌, ◌/◌, ◌≤◌, List, [], ◌∷◌, ◌++◌, map, length, length-append, append_assoc, sym, ap, ◌∙◌, subst, arith}
use Rattle.std.specs.Prelude.{◌==◌, cond, false}
use mathlib.Core.List.{map-append}
use Rattle.tree_table.specs.Calls.{Stays}
use Rattle.tree_table.specs.Kinds.{looking, half, other_half, folded}
use Rattle.tree_table.specs.Passes.{Pivoted, View, PassState}
use Rattle.tree_table.specs.Weights.{weigh}
use Rattle.tree_table.proofs.Sums.{weigh-append, weigh-one}
use Rattle.pivot_workers.specs.declared.report.Report.{Report}
use Rattle.pivot_workers.specs.Sweeps.{dealt}
use Rattle.pivot_workers.specs.Work.{takes_in, entered, dealt_to, HasAdded, HasWorked, HaveWorked}
use Rattle.pivot_workers.proofs.Dealt.{dealt_split}
use Rattle.pivot_workers.proofs.Several.{sublist_among}

-- one place alone
dealt_alone : (f : ℕ → ℕ) (gap place n : ℕ) (list : List ℕ) → n ≡ 1 → weigh f (dealt_to gap place n list) ≡ weigh f (dealt gap place list)
dealt_alone f gap place n list one =
    let a : weigh f (dealt_to gap place n list) ≡ weigh f (dealt gap place list ++ []) = ap (λ (k : ℕ). weigh f (dealt_to gap place k list)) one in
    let b = weigh-append f (dealt gap place list) [] in omega arith

split : (h o n q : ℕ) → h + o ≡ n → h * q + o * q ≡ n * q
split h o n q e = subst (λ (z : ℕ). h * q + o * q ≡ z * q) e (omega arith)

-- one worker is several, where there is one
pub crewed_one : (openings : List ℕ) (p q : PassState) (gap place n quota : ℕ) (list : List ℕ) (report : Report) → n ≡ 1 → HasWorked openings p q (dealt gap place list) quota report
    → HaveWorked p q (dealt_to gap place n list) n quota report
crewed_one openings p q gap place n quota list report one w =
    let lengths : length (dealt_to gap place n list) ≡ length w.tried + length w.left =
    let a = dealt_alone (λ _. 1) gap place n list one in let b = weigh-one (dealt_to gap place n list) in let c = weigh-one (dealt gap place list) in
    let d = ap length w.parts in let e = length-append w.tried w.left in omega arith in
    record {
      has_added = w.has_tried.has_added;
      enters = λ f.
          let a = sublist_among (entered w.has_tried.has_added.added) w.tried w.has_tried.enters f in
          let b = weigh-append f w.tried w.left in
          let c : weigh f (dealt gap place list) ≡ weigh f (w.tried ++ w.left) = ap (weigh f) w.parts in
          let d = dealt_alone f gap place n list one in omega arith;
      few = let a = w.few in let b : n * quota ≡ 1 * quota = ap (λ (k : ℕ). k * quota) one in omega arith;
      ends = λ memory. ⊎_elim
          (λ (none : w.left ≡ []). inl (let a = w.has_tried.takes in let b = ap length none in omega arith))
          (λ (full : report.pivots ≡ quota). inr (omega arith))
          (w.ends memory);
    }

-- a pass that was new made all its entries
pub own_all : (p q : PassState) (pivots : ℕ) → HasAdded p q pivots → p.view.entries ≡ [] → length q.view.entries ≡ pivots
own_all p q pivots d none = let a = ap length (d.entries ∙ ap (λ z. z ++ d.added) none) in let b = d.count in omega arith

module _ (p p1 q1 p2 q2 : PassState) (gap place place2 n h o quota : ℕ) (r1 r2 : Report) (list : List ℕ) (parts : h + o ≡ n) (next : place2 ≡ place + h)
    (d1 : HaveWorked p1 q1 (dealt_to gap place h list) h quota r1) (d2 : HaveWorked p2 q2 (dealt_to gap place2 o list) o quota r2) (spare : p1.spare ≡ p.spare) (room : n * quota ≤ p.spare) (fresh : p2.view.entries ≡ []) where
  pub fits : length q2.view.entries ≤ q1.spare
  fits = let a = own_all p2 q2 r2.pivots d2.has_added fresh in let b = d1.has_added.spare in let c = d1.few in let d = d2.few in let e = split h o n quota parts in omega arith

  dealt_both : (f : ℕ → ℕ) → weigh f (dealt_to gap place n list) ≡ weigh f (dealt_to gap place h list) + weigh f (dealt_to gap place2 o list)
  dealt_both f =
      let g = dealt_split f gap place h o list in
      let x : weigh f (dealt_to gap place (h + o) list) ≡ weigh f (dealt_to gap place n list) = ap (λ (k : ℕ). weigh f (dealt_to gap place k list)) parts in
      let y : weigh f (dealt_to gap place2 o list) ≡ weigh f (dealt_to gap (place + h) o list) = ap (λ (k : ℕ). weigh f (dealt_to gap k o list)) next in omega arith

  module _ (q : PassState) (found looked : ℕ) (same : Stays p p1) (is1 : p1.view ≡ half (looking p.view 0 found)) (is2 : p2.view ≡ other_half p.view) (same' : Stays q1 q)
      (is : q.view ≡ looking (folded q1.view q2.view) 0 looked) (left : q.spare + length q2.view.entries ≡ q1.spare) where
    abbrev all_looks : List (ℕ × ℕ)
    all_looks = ((0, found) ∷ (d1.has_added.looked ++ d2.has_added.looked)) ++ (0, looked) ∷ []

    looks_are : q.view.looks ≡ p.view.looks ++ all_looks
    looks_are =
        let a : q1.view.looks ≡ (p.view.looks ++ (0, found) ∷ []) ++ d1.has_added.looked = d1.has_added.looks ∙ ap (λ (v : View). v.looks ++ d1.has_added.looked) is1 in
        let b : q2.view.looks ≡ d2.has_added.looked = d2.has_added.looks ∙ ap (λ (v : View). v.looks ++ d2.has_added.looked) is2 in
        let c : (q1.view.looks ++ q2.view.looks) ++ (0, looked) ∷ [] ≡ (((p.view.looks ++ (0, found) ∷ []) ++ d1.has_added.looked) ++ d2.has_added.looked) ++ (0, looked) ∷ [] =
        (λ i. (a i ++ b i) ++ (0, looked) ∷ []) in
        let d : ((p.view.looks ++ (0, found) ∷ []) ++ d1.has_added.looked) ++ d2.has_added.looked ≡ p.view.looks ++ ((0, found) ∷ (d1.has_added.looked ++ d2.has_added.looked)) =
        append_assoc (p.view.looks ++ (0, found) ∷ []) d1.has_added.looked d2.has_added.looked ∙ append_assoc p.view.looks ((0, found) ∷ []) (d1.has_added.looked ++ d2.has_added.looked) in
        ap (λ (v : View). v.looks) is ∙ c ∙ ap (λ z. z ++ (0, looked) ∷ []) d ∙ append_assoc p.view.looks ((0, found) ∷ (d1.has_added.looked ++ d2.has_added.looked)) ((0, looked) ∷ [])

    takes_are : takes_in all_looks ≡ takes_in d1.has_added.looked + takes_in d2.has_added.looked
    takes_are =
        let g : ℕ × ℕ → ℕ = λ look. cond (look.0 == 0) 0 1 in
        let a = weigh-append g ((0, found) ∷ (d1.has_added.looked ++ d2.has_added.looked)) ((0, looked) ∷ []) in
        let b = weigh-append g d1.has_added.looked d2.has_added.looked in omega arith

    lengths : length (dealt_to gap place n list) ≡ length (dealt_to gap place h list) + length (dealt_to gap place2 o list)
    lengths =
        let a = dealt_both (λ _. 1) in let b = weigh-one (dealt_to gap place n list) in let c = weigh-one (dealt_to gap place h list) in let d = weigh-one (dealt_to gap place2 o list) in omega arith

    ends_both : r1.memory ≡ false → r2.memory ≡ false → (length (dealt_to gap place n list) ≤ takes_in all_looks) ⊎ (quota ≤ r1.pivots + r2.pivots)
    ends_both m1 m2 = ⊎_elim
        (λ (x : length (dealt_to gap place h list) ≤ takes_in d1.has_added.looked). ⊎_elim
        (λ (y : length (dealt_to gap place2 o list) ≤ takes_in d2.has_added.looked). inl (let a = takes_are in let b = lengths in omega arith))
        (λ (y : quota ≤ r2.pivots). inr (omega arith)) (d2.ends m2))
        (λ (x : quota ≤ r1.pivots). inr (omega arith)) (d1.ends m1)

    pub both : (report : Report) → report.pivots ≡ r1.pivots + r2.pivots → (report.memory ≡ false → (r1.memory ≡ false) × (r2.memory ≡ false)) → HaveWorked p q (dealt_to gap place n list) n quota report
    both report sum memory =
        let a = own_all p2 q2 r2.pivots d2.has_added fresh in
        let s1 : p1.view.shares ≡ p.view.shares - p.view.shares / 2 = ap (λ (v : View). v.shares) is1 in
        let s2 : p2.view.shares ≡ p.view.shares / 2 = ap (λ (v : View). v.shares) is2 in
        let s : q.view.shares ≡ q1.view.shares + q2.view.shares = ap (λ (v : View). v.shares) is in
        let e1 : p1.view.entries ≡ p.view.entries = ap (λ (v : View). v.entries) is1 in record {
          has_added = record {
            stays = (same'.0 ∙ (d1.has_added.stays.0 ∙ same.0), same'.1 ∙ (d1.has_added.stays.1 ∙ same.1));
            idle = (ap (λ (v : View). v.hands) is ∙ d1.has_added.idle.0, ap (λ (v : View). v.slots) is ∙ d1.has_added.idle.1);
            shares = let b = d1.has_added.shares in let c = d2.has_added.shares in omega arith;
            opening = ap (λ (v : View). v.opening) is ∙ (d1.has_added.opening ∙ ap (λ (v : View). v.opening) is1);
            added = d1.has_added.added ++ d2.has_added.added;
            entries = ap (λ (v : View). v.entries) is ∙ ((λ i. d1.has_added.entries i ++ (d2.has_added.entries ∙ ap (λ z. z ++ d2.has_added.added) fresh) i)
                ∙ (ap (λ z. (z ++ d1.has_added.added) ++ d2.has_added.added) e1 ∙ append_assoc p.view.entries d1.has_added.added d2.has_added.added));
            count = let b = length-append d1.has_added.added d2.has_added.added in let c = d1.has_added.count in let d = d2.has_added.count in omega arith;
            spare = let b = d1.has_added.spare in omega arith;
            looked = all_looks;
            looks = looks_are;
          };
          enters = λ f.
              let b = d1.enters f in let c = d2.enters f in let g = dealt_both f in
              let m : weigh f (map (λ (e : ℕ × Pivoted). e.1.entry.enter) (d1.has_added.added ++ d2.has_added.added)) ≡ weigh f (entered d1.has_added.added ++ entered d2.has_added.added) =
              ap (weigh f) (map-append (λ (e : ℕ × Pivoted). e.1.entry.enter) d1.has_added.added d2.has_added.added) in
              let z = weigh-append f (entered d1.has_added.added) (entered d2.has_added.added) in
              omega arith;
          few = let b = d1.few in let c = d2.few in let e = split h o n quota parts in omega arith;
          ends = λ none. let m = memory none in ⊎_elim (λ (x : length (dealt_to gap place n list) ≤ takes_in all_looks). inl x) (λ (x : quota ≤ r1.pivots + r2.pivots). inr (omega arith)) (ends_both m.0 m.1);
        }

-- the other half was left undone, and the report says so
pub one_half : (p p1 q : PassState) (gap place n h o quota : ℕ) (list : List ℕ) (r report : Report) → h + o ≡ n → HaveWorked p1 q (dealt_to gap place h list) h quota r → Stays p p1 → p1.view ≡ p.view → p1.spare ≡ p.spare
    → report.pivots ≡ r.pivots → (report.memory ≡ false → ⊥) → HaveWorked p q (dealt_to gap place n list) n quota report
one_half p p1 q gap place n h o quota list r report parts d same is spare pivots memory = record {
  has_added = record {
    stays = (d.has_added.stays.0 ∙ same.0, d.has_added.stays.1 ∙ same.1);
    idle = d.has_added.idle;
    shares = d.has_added.shares ∙ ap (λ (v : View). v.shares) is;
    opening = d.has_added.opening ∙ ap (λ (v : View). v.opening) is;
    added = d.has_added.added;
    entries = d.has_added.entries ∙ ap (λ (v : View). v.entries ++ d.has_added.added) is;
    count = d.has_added.count ∙ sym pivots;
    spare = let a = d.has_added.spare in omega arith;
    looked = d.has_added.looked;
    looks = d.has_added.looks ∙ ap (λ (v : View). v.looks ++ d.has_added.looked) is;
  };
  enters = λ f.
      let a = d.enters f in let b = dealt_split f gap place h o list in
      let x : weigh f (dealt_to gap place (h + o) list) ≡ weigh f (dealt_to gap place n list) = ap (λ (k : ℕ). weigh f (dealt_to gap place k list)) parts in omega arith;
  few = let a = d.few in let b = split h o n quota parts in omega arith;
  ends = λ none. absurd (memory none);
}
