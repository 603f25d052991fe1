use Rattle.np_basis.proofs.Roots.{trees_after, part_after_exists, two_roots}
use Rattle.np_basis.proofs.laws.pieces_after.Goals as goal

pub returns-clause-trees : goal.returns-clause-trees
returns-clause-trees c = trees_after

pub returns-clause-parts : goal.returns-clause-parts
returns-clause-parts c = part_after_exists

pub returns-clause-roots : goal.returns-clause-roots
returns-clause-roots c = two_roots
