-- Several arcs, one after the other.
use Rattle.std.proofs.Common.{◌≡◌, inl, inr, ⊎_elim, ℕ, ◌+◌, ◌≤◌, List, [], ◌∷◌, ◌++◌, length-append, sym, ap, ◌∙◌, subst, refl, arith, append-nil, append_assoc, cond}
use Rattle.std.specs.Prelude.{nat_eq}
use mathlib.Core.List.{map-append}
use Rattle.np_model.specs.Basis.Pieces.{PieceLists}
use Rattle.tree_table.specs.Passes.{Pivoted, PassState, Opening, IsIdle}
use Rattle.tree_table.specs.Weights.{weigh, AreAmong}
use Rattle.tree_table.proofs.Sums.{weigh-append}
use Rattle.pivot_workers.specs.Sweeps.{AreVisits}
use Rattle.pivot_workers.specs.Work.{pivots_of, entered, IsSublist, HasTried}

-- ---- lists with some members left out

sublist_longer : (xs bs cs : List ℕ) → IsSublist xs bs → IsSublist xs (cs ++ bs)
sublist_longer xs bs [] h = h
sublist_longer [] bs (a ∷ more) h = record {}
sublist_longer (x ∷ xs) bs (a ∷ more) h = inr (sublist_longer (x ∷ xs) bs more h)

sublist_both : (xs ys more bs : List ℕ) → IsSublist xs more → IsSublist ys bs → IsSublist (xs ++ ys) (more ++ bs)
sublist_both [] ys more bs h k = sublist_longer ys bs more k
sublist_both (x ∷ xs) ys [] bs h k = absurd h
sublist_both (x ∷ xs) ys (a ∷ more) bs h k =
    ⊎_elim
    (λ (t : (x ≡ a) × IsSublist xs more). inl (t.0, sublist_both xs ys more bs t.1 k))
    (λ (t : IsSublist (x ∷ xs) more). inr (sublist_both (x ∷ xs) ys more bs t k))
    h

pub sublist_among : (xs ys : List ℕ) → IsSublist xs ys → AreAmong xs ys
sublist_among [] ys h f = omega arith
sublist_among (x ∷ xs) [] h f = absurd h
sublist_among (x ∷ xs) (y ∷ ys) h f =
    ⊎_elim
    (λ (t : (x ≡ y) × IsSublist xs ys). let a = sublist_among xs ys t.1 f in let b : f x ≡ f y = ap f t.0 in let r : f x + weigh f xs ≤ f y + weigh f ys = omega arith in r)
    (λ (t : IsSublist (x ∷ xs) ys). let a = sublist_among (x ∷ xs) ys t f in let r : f x + weigh f xs ≤ f y + weigh f ys = omega arith in r)
    h

-- ---- visits, and what was tried

visits_both : (opening : Opening) (openings : List ℕ) (now : List PieceLists) (first more : List ℕ) (log later : List Pivoted) (mid last : List PieceLists)
    → AreVisits opening openings now first log mid → AreVisits opening openings mid more later last → AreVisits opening openings now (first ++ more) (log ++ later) last
visits_both opening openings now [] more log later mid last v w =
    subst (λ (z : List Pivoted × List PieceLists). AreVisits opening openings z.1 more (z.0 ++ later) last) (λ i. (sym v.0 i, v.1 i)) w
visits_both opening openings now (a ∷ first) more log later mid last v w =
    (v.0, v.1 ++ later, v.2, ap (λ z. z ++ later) v.3 ∙ append_assoc v.0 v.1 later, v.4, visits_both opening openings v.2 first more v.1 later mid last v.5 w)

module _ (openings : List ℕ) where
  pub tried_none : (p : PassState) → IsIdle p.view → HasTried openings p p [] 0
  tried_none p idle = record {
    has_added = record {
      stays = (refl, refl);
      idle = idle;
      shares = refl;
      opening = refl;
      added = [];
      entries = sym (append-nil p.view.entries);
      count = refl;
      spare = omega arith;
      looked = [];
      looks = sym (append-nil p.view.looks);
    };
    enters = record {};
    takes = omega arith;
    numbered_on = λ all e. e;
    alone = λ all now s. (now, (refl, refl), s);
  }

  pub tried_both : (p q r : PassState) (first more : List ℕ) (k l : ℕ) → HasTried openings p q first k → HasTried openings q r more l → HasTried openings p r (first ++ more) (k + l)
  tried_both p q r first more k l d e =
      let a = d.has_added in
      let b = e.has_added in record {
        has_added = record {
          stays = (b.stays.0 ∙ a.stays.0, b.stays.1 ∙ a.stays.1);
          idle = b.idle;
          shares = b.shares ∙ a.shares;
          opening = b.opening ∙ a.opening;
          added = a.added ++ b.added;
          entries = b.entries ∙ (ap (λ z. z ++ b.added) a.entries ∙ append_assoc p.view.entries a.added b.added);
          count = (let n = length-append a.added b.added in let x = a.count in let y = b.count in omega arith);
          spare = (let x = a.spare in let y = b.spare in omega arith);
          looked = a.looked ++ b.looked;
          looks = b.looks ∙ (ap (λ z. z ++ b.looked) a.looks ∙ append_assoc p.view.looks a.looked b.looked);
        };
        enters = subst (λ z. IsSublist z (first ++ more)) (sym (map-append (λ (m : ℕ × Pivoted). m.1.entry.enter) a.added b.added)) (sublist_both (entered a.added) (entered b.added) first more d.enters e.enters);
        takes =
            (let n = length-append first more in
            let w = weigh-append (λ (look : ℕ × ℕ). cond (nat_eq look.0 0) 0 1) a.looked b.looked in
            let x = d.takes in let y = e.takes in omega arith);
        numbered_on = λ all x. e.numbered_on (a.shares ∙ all) (d.numbered_on all x);
        alone = λ all now s.
            let x = d.alone all now s in
            let y = e.alone (a.shares ∙ all) x.0 x.2 in (
              y.0,
              subst (λ z. AreVisits p.view.opening openings now (first ++ more) z y.0) (sym (map-append (λ (m : ℕ × Pivoted). m.1) a.added b.added))
                  (visits_both p.view.opening openings now first more (pivots_of a.added) (pivots_of b.added) x.0 y.0 x.1
                  (subst (λ (z : Opening). AreVisits z openings x.0 more (pivots_of b.added) y.0) a.opening y.1)),
              y.2,
            );
      }
