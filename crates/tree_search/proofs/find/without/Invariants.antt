use Rattle.std.proofs.Common.{◌≡◌, take}
use Rattle.tree_search.proofs.find.without.Given as goal

abbrev pub invariant-loop-joint : goal.invariant-loop-joint
invariant-loop-joint l = l.list.items ≡ take l.joint-index l.joints
