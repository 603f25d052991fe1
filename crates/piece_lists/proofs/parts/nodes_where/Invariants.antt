use Rattle.std.proofs.Common.{◌≡◌, ◌++◌, drop}
use Rattle.piece_lists.specs.Parts.{nodes_where}
use Rattle.piece_lists.proofs.parts.nodes_where.Given as goal

abbrev pub invariant-loop-place : goal.invariant-loop-place
invariant-loop-place l = l.list.items ++ nodes_where l.said (drop l.place l.nodes) (drop l.place l.seen) ≡ nodes_where l.said l.nodes l.seen
