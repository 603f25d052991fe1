-- The pieces that a pass has seen: with all shares they are those of one state, and its next pivot gives the next one.
use Rattle.std.proofs.Common.{◌≡◌, ℕ, suc, ◌+◌, List, [], ◌∷◌, ◌++◌, length, sym, ap, ◌∙◌, subst, refl, arith}
use Rattle.np_model.specs.Basis.Pieces.{PieceLists}
use Rattle.np_model.specs.declared.log.Entry.{Entry}
use Rattle.tree_table.specs.Weights.{weigh, AreAmong, AreSame}
use Rattle.tree_table.specs.Passes.{Pivoted, Opening, View, first_view}
use Rattle.tree_table.specs.Replay.{numbered, Turns, LeadsTo, HasSeen, Becomes}
use Rattle.tree_table.specs.Kinds.{pivoting}
use Rattle.tree_table.specs.Calls.{emptied}
use Rattle.tree_table.proofs.Sums.{weigh-append, weigh-one}
use Rattle.tree_table.proofs.Logs.{numbered-push, length-numbered, leads_on}
use Rattle.tree_table.proofs.Deciding.{same_piece}
use Rattle.tree_table.proofs.Members.{others_left}

pub opening_seen : (opening : Opening) → HasSeen (first_view opening) opening.pieces
opening_seen opening = record { log = []; leads = λ f. refl; own = λ f. omega arith; whole = λ all f. refl }

pub seen_kept : (v w : View) (now : List PieceLists) → w.opening ≡ v.opening → w.entries ≡ v.entries → w.shares ≡ v.shares → HasSeen v now → HasSeen w now
seen_kept v w now opening entries shares seen = record {
  log = seen.log;
  leads = subst (λ (o : Opening). LeadsTo o o.pieces seen.log now) (sym opening) seen.leads;
  own = subst (λ z. AreAmong z (numbered 0 seen.log)) (sym entries) seen.own;
  whole = λ all. subst (λ z. AreSame z (numbered 0 seen.log)) (sym entries) (seen.whole (sym shares ∙ all));
}

-- ---- what a log changes, by weight

numbered_weigh : (h : Pivoted → ℕ) (n : ℕ) (log : List Pivoted) → weigh (λ (e : ℕ × Pivoted). h e.1) (numbered n log) ≡ weigh h log
numbered_weigh h n [] = refl
numbered_weigh h n (m ∷ ms) = let a = numbered_weigh h (suc n) ms in omega arith

leads_weigh : (f : PieceLists → ℕ) (start : Opening) (pieces : List PieceLists) (log : List Pivoted) (last : List PieceLists) → LeadsTo start pieces log last
    → weigh f last + weigh (λ (m : Pivoted). weigh f m.before) log ≡ weigh f pieces + weigh (λ (m : Pivoted). weigh f m.after) log
leads_weigh f start pieces [] last same = let a = same f in omega arith
leads_weigh f start pieces (m ∷ ms) last step = let a = step.1.replaced f in let b = leads_weigh f start step.0 ms last step.2 in omega arith

-- two logs that are the entries of one pass weigh the same
log_weigh : (v : View) (now : List PieceLists) (seen : HasSeen v now) → v.shares ≡ 64 → (h : Pivoted → ℕ) → weigh h seen.log ≡ weigh (λ (e : ℕ × Pivoted). h e.1) v.entries
log_weigh v now seen all h = let a = seen.whole all (λ (e : ℕ × Pivoted). h e.1) in let b = numbered_weigh h 0 seen.log in omega arith

pub one_seen : (v : View) (now other : List PieceLists) → v.shares ≡ 64 → HasSeen v now → HasSeen v other → AreSame now other
one_seen v now other all a b f =
    let p = leads_weigh f v.opening v.opening.pieces a.log now a.leads in
    let q = leads_weigh f v.opening v.opening.pieces b.log other b.leads in
    let before = log_weigh v now a all (λ m. weigh f m.before) in
    let before' = log_weigh v other b all (λ m. weigh f m.before) in
    let after = log_weigh v now a all (λ m. weigh f m.after) in
    let after' = log_weigh v other b all (λ m. weigh f m.after) in omega arith

-- ---- the next pivot

pub next_seen : (v : View) (now : List PieceLists) (entry : Entry) (after : List PieceLists) → v.shares ≡ 64 → HasSeen v now → AreAmong v.hands now
    → Becomes v.opening v.hands entry after
    → (next : List PieceLists) × Turns v.opening now (record { entry = entry; before = v.hands; after = after }) next
    × HasSeen (emptied (pivoting v (length v.entries) entry after)) next
next_seen v now entry after all seen among becomes =
    let m : Pivoted = record { entry = entry; before = v.hands; after = after } in
    let c : ℕ = length v.entries in
    let o = others_left same_piece now v.hands among in
    let next : List PieceLists = o.0 ++ after in
    let turns : Turns v.opening now m next = record {
      there = among;
      becomes = becomes;
      replaced = λ f. let a = weigh-append f o.0 after in let b = o.1 f in omega arith;
    } in
    let long : 0 + length seen.log ≡ c =
    let a = seen.whole all (λ _. 1) in let b = weigh-one v.entries in let d = weigh-one (numbered 0 seen.log) in let e = length-numbered 0 seen.log in omega arith in
    let same : AreSame (v.entries ++ (c, m) ∷ []) (numbered 0 (seen.log ++ m ∷ [])) = λ f.
    let a = weigh-append f v.entries ((c, m) ∷ []) in
    let b : weigh f (numbered 0 (seen.log ++ m ∷ [])) ≡ weigh f (numbered 0 seen.log ++ (0 + length seen.log, m) ∷ []) = ap (weigh f) (numbered-push 0 seen.log m) in
    let d = weigh-append f (numbered 0 seen.log) ((0 + length seen.log, m) ∷ []) in
    let g : f (0 + length seen.log, m) ≡ f (c, m) = ap (λ (z : ℕ). f (z, m)) long in
    let e = seen.whole all f in omega arith in (
      next,
      turns,
      record {
        log = seen.log ++ m ∷ [];
        leads = leads_on v.opening v.opening.pieces seen.log now next m seen.leads turns;
        own = λ f. let a = same f in omega arith;
        whole = λ _. same;
      },
    )
