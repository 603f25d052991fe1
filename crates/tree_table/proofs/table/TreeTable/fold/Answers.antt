use Rattle.std.proofs.Common.{rules, arith, ap, subst, sym, ◌∙◌, ℕ, ◌+◌, ◌≤◌, ◌≡◌}
use Rattle.tree_table.proofs.PassSteps.{looks, folds}
use Rattle.tree_table.proofs.Kept.{slots_clear, carries_none, entries_len}
use Rattle.tree_table.proofs.table.TreeTable.fold.Goals as goal

pub join_seat-requires : goal.join_seat-requires
join_seat-requires g c =
    let p = c.pass.inside in let q = c.other.inside in
    let bare = ap (λ k. k.view.hands) c.other.view_is ∙ c.requires.bare in (
      search rules,
      search rules,
      carries_none q.seat q.shares q.hands q.slots q.spare q.made q.order c.other.invariant bare,
      (let a = c.args.self.now.sized.0 in omega arith),
      folds g.T.Piece.lists _ _ _ _ _ c.pass.invariant.is_open
          (let a = entries_len p.seat p.shares p.hands p.slots p.spare p.made p.order c.pass.invariant in let b = c.pass.invariant.few in
          let d = c.requires.room in let e = ap (λ k. k.view.entries) c.other.view_is in let f = ap (λ k. k.spare) c.pass.view_is in
          let h = ap Rattle.std.proofs.Common.length e in omega arith)
          bare (slots_clear q.seat q.shares q.hands q.slots q.spare q.made q.order c.other.invariant bare),
    )

pub load-requires : goal.load-requires
load-requires g c = (
  search rules,
  (let a = c.args.self.now.sized.0 in omega arith),
  looks g.T.Piece.lists _ _ _ _ (let e = ap (λ m. m.0.shares) c.join_seat.ensures.2 in let o = c.pass.invariant.is_open in omega arith),
)
