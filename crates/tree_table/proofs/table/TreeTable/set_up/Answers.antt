use Rattle.std.proofs.Common.{ℕ, ◌+◌, ◌≤◌, List, map, sym, ap, ◌∙◌, subst, length, get_or}
use Rattle.tree_table.specs.Slots.{having}
use Rattle.tree_table.proofs.Nodes.{apart_once}
use Rattle.tree_table.proofs.Ends.{starts}
use Rattle.tree_table.proofs.table.TreeTable.set_up.Goals as goal

pub vacant-requires : goal.vacant-requires
vacant-requires g c =
    let v = c.as_slice.ensures.value in
    let w = c.in-Ok.ensures.words in
    starts g.T.Piece.lists _ _ c.len-nodes.result (ap length v ∙ w.one_each) (ap (λ (z : List ℕ). get_or z 0 0) v ∙ w.clock)
    (λ k h. ap (λ (z : List ℕ). get_or z (k + 1) 0) v ∙ w.empty k h)
    (λ u. subst (λ z. having u (map g.T.Piece.lists z) ≤ 1) (sym (ap (λ p. p.items) c.of-3.ensures)) (apart_once _ c.requires.apart u))

pub fill-requires-clause-apart : goal.fill-requires-clause-apart
fill-requires-clause-apart g c κs within = apart_once _ c.requires.apart
