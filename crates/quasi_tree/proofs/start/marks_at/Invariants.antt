use Rattle.std.proofs.Common.{◌≡◌, map}
use Rattle.std.specs.List.{filter, range_with_len}
use Rattle.np_model.specs.declared.log.Mark.TheVariants.{Lower}
use Rattle.np_model.specs.Basis.Graphs.{ends_at}
use Rattle.np_model.specs.Basis.Starts.{touches}
use Rattle.quasi_tree.proofs.start.marks_at.Given as goal

abbrev pub invariant-loop-arc : goal.invariant-loop-arc
invariant-loop-arc l = l.marks.items ≡ filter (λ m. touches (ends_at l.arcs m.0) l.node) (map (λ a. (a, Lower)) (range_with_len 0 l.arc))
