use Rattle.std.proofs.Common.{rules, arith, ap, subst, sym, ◌∙◌, ℕ, ◌≤◌}
use Rattle.tree_table.proofs.PassSteps.{looks, forks}
use Rattle.tree_table.proofs.table.TreeTable.fork.Goals as goal

pub load-requires : goal.load-requires
load-requires g c = (search rules, (let a = c.args.self.now.sized.0 in omega arith), looks g.T.Piece.lists _ _ _ _ c.pass.invariant.is_open)

pub split_seat-seat-requires : goal.split_seat-seat-requires
split_seat-seat-requires g c = (
  search rules,
  (let a = c.args.self.now.sized.0 in omega arith),
  forks g.T.Piece.lists _ _ _ (subst (λ (x : ℕ). 2 ≤ x) (sym (ap (λ m. m.0.shares) c.load.ensures.2.0 ∙ ap (λ k. k.view.shares) c.pass.view_is)) c.requires.shares),
)
