-- A whole round: what the entries of the one pass that is left say of the pieces.
use Rattle.std.proofs.Common.{◌≡◌, ℕ, suc, ◌+◌, ◌-◌, ◌≤◌, List, [], ◌∷◌, ◌++◌, map, length, sym, ap, ◌∙◌, subst, refl, arith}
use Rattle.std.specs.Prelude.{false}
use Rattle.np_model.specs.declared.log.Entry.{Entry}
use Rattle.np_model.specs.Basis.Pieces.{PieceLists}
use Rattle.tree_table.specs.Calls.{IsClosed}
use Rattle.tree_table.specs.Laws.{OpeningIsSeen, OneIsSeen, LogIsOne}
use Rattle.tree_table.specs.Passes.{Pivoted, Opening, View, PassState, first_view}
use Rattle.tree_table.specs.Replay.{numbered, LeadsTo, HasSeen}
use Rattle.tree_table.specs.Weights.{weigh, AreAmong, AreSame}
use Rattle.tree_table.proofs.Sums.{weigh-one}
use Rattle.pivot_workers.specs.declared.report.Report.{Report}
use Rattle.pivot_workers.specs.Openings.{AreOpenings}
use Rattle.pivot_workers.specs.Sweeps.{dealt, IsSweep}
use Rattle.pivot_workers.specs.Work.{pivots_of, dealt_to, HasWorked, HaveWorked}
use Rattle.pivot_workers.specs.Rounds.{IsRound}
use Rattle.pivot_workers.proofs.Dealt.{dealt_whole, dealt_all}
use Rattle.pivot_workers.proofs.Swept.{swept}

weigh-map : {A B : Type 0} (h : A → B) (g : B → ℕ) (xs : List A) → weigh g (map h xs) ≡ weigh (λ x. g (h x)) xs
weigh-map h g [] = refl
weigh-map h g (x ∷ xs) = omega (arith, weigh-map h g xs)

numbered_weigh : (h : Pivoted → ℕ) (n : ℕ) (log : List Pivoted) → weigh (λ (e : ℕ × Pivoted). h e.1) (numbered n log) ≡ weigh h log
numbered_weigh h n [] = refl
numbered_weigh h n (m ∷ ms) = let a = numbered_weigh h (suc n) ms in omega arith

module _ (one_seen : OneIsSeen) (opening_seen : OpeningIsSeen) (one_log : LogIsOne) (opening : Opening) (openings : List ℕ) (p q : PassState) (first : p.view ≡ first_view opening) (list : List ℕ) (workers quota : ℕ) (report : Report)
    (pieces : List PieceLists) (entries : List Entry) (some : 1 ≤ workers) (crew : HaveWorked p q (dealt_to (workers - 1) 0 workers list) workers quota report) (closed : IsClosed q.view pieces entries) where
  opening_is : q.view.opening ≡ opening
  opening_is = crew.has_added.opening ∙ ap (λ (v : View). v.opening) first

  none : p.view.entries ≡ []
  none = ap (λ (v : View). v.entries) first

  all : p.view.shares ≡ 64
  all = ap (λ (v : View). v.shares) first

  own : q.view.entries ≡ crew.has_added.added
  own = crew.has_added.entries ∙ ap (λ z. z ++ crew.has_added.added) none

  counted : report.pivots ≡ length closed.log
  counted =
      let a = closed.whole (λ _. 1) in let b = weigh-one q.view.entries in let c = numbered_weigh (λ _. 1) 0 closed.log in let d = weigh-one closed.log in
      let e = ap length own in let f = crew.has_added.count in omega arith

  entering : AreAmong (map (λ (m : Pivoted). m.entry.enter) closed.log) list
  entering f =
      let a = weigh-map (λ (m : Pivoted). m.entry.enter) f closed.log in
      let b = numbered_weigh (λ (m : Pivoted). f m.entry.enter) 0 closed.log in
      let c = closed.whole (λ e. f e.1.entry.enter) in
      let d = weigh-map (λ (e : ℕ × Pivoted). e.1.entry.enter) f crew.has_added.added in
      let e : weigh (λ (e : ℕ × Pivoted). f e.1.entry.enter) q.view.entries ≡ weigh (λ (e : ℕ × Pivoted). f e.1.entry.enter) crew.has_added.added = ap (weigh (λ (e : ℕ × Pivoted). f e.1.entry.enter)) own in
      let g = crew.enters f in
      let h = dealt_whole (workers - 1) list f in
      let k : weigh f (dealt_to (workers - 1) 0 (workers - 1 + 1) list) ≡ weigh f (dealt_to (workers - 1) 0 workers list) =
      ap (λ (j : ℕ). weigh f (dealt_to (workers - 1) 0 j list)) (let x : workers - 1 + 1 ≡ workers = omega arith in x) in
      omega arith

  module _ (alone : workers ≡ 1) (memory : report.memory ≡ false) (w : HasWorked openings p q (dealt (workers - 1) 0 list) quota report) where
    at_first : HasSeen p.view opening.pieces
    at_first = subst (λ (v : View). HasSeen v opening.pieces) (sym first) (opening_seen opening)

    mine : q.view.entries ≡ w.has_tried.has_added.added
    mine = w.has_tried.has_added.entries ∙ ap (λ z. z ++ w.has_tried.has_added.added) none

    in_order : q.view.entries ≡ numbered 0 (pivots_of w.has_tried.has_added.added)
    in_order = w.has_tried.numbered_on all (none ∙ ap (λ z. numbered 0 (pivots_of z)) (sym none)) ∙ ap (λ z. numbered 0 (pivots_of z)) mine

    list_is : dealt (workers - 1) 0 list ≡ list
    list_is = ap (λ (k : ℕ). dealt k 0 list) (let x : workers - 1 ≡ 0 = omega arith in x) ∙ dealt_all list

    at_end : HasSeen q.view closed.now
    at_end = record { log = closed.log; leads = closed.leads; own = λ f. let a = closed.whole f in omega arith; whole = λ _. closed.whole }

    is_swept : (made : List Pivoted) × (last : List PieceLists) × IsSweep opening openings opening.pieces list quota made last × (entries ≡ map (λ pivoted. pivoted.entry) made) × AreSame last pieces
    is_swept =
        let s = swept openings p q (dealt (workers - 1) 0 list) quota report w all memory opening.pieces at_first in
        let made : List Pivoted = pivots_of w.has_tried.has_added.added in
        let ends = one_seen q.view s.0 closed.now (w.has_tried.has_added.shares ∙ all) s.2 at_end in (
          made,
          s.0,
          subst (λ (z : Opening × List ℕ). IsSweep z.0 openings opening.pieces z.1 quota made s.0) (λ i. (ap (λ (v : View). v.opening) first i, list_is i)) s.1,
          closed.entries_are ∙ sym (one_log made closed.log (λ f. sym (ap (weigh f) in_order) ∙ closed.whole f)),
          (λ f. let a = ends f in let b = closed.pieces_are f in omega arith),
        )

  pub round_is : AreOpenings (length opening.net.supply) opening.pieces openings → (workers ≡ 1 → HasWorked openings p q (dealt (workers - 1) 0 list) quota report)
      → IsRound opening list workers quota pieces entries report
  round_is named one = record {
    log = closed.log;
    now = closed.now;
    leads = subst (λ (o : Opening). LeadsTo o o.pieces closed.log closed.now) opening_is closed.leads;
    pieces_are = closed.pieces_are;
    ascend = closed.ascend;
    entries_are = closed.entries_are;
    count = counted;
    few = crew.few;
    enters = entering;
    openings = openings;
    are_openings = named;
    sweep = λ alone memory. is_swept alone memory (one alone);
  }
