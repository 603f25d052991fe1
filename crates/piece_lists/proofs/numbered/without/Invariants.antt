use Rattle.std.proofs.Common.{◌≡◌, ◌==◌, not, take}
use Rattle.std.specs.List.{filter}
use Rattle.piece_lists.proofs.numbered.without.Given as goal

abbrev pub invariant-loop-x : goal.invariant-loop-x
invariant-loop-x g l = l.rest.items ≡ filter (λ x. not (g.T.Numbered.number_of x == l.number)) (take l.x-index l.xs)
