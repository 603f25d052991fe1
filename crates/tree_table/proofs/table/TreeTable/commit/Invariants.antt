use Rattle.tree_table.specs.Calls.{lists_in}
use Rattle.tree_table.proofs.table.TreeTable.commit.Given as goal

abbrev pub ghosts-draw : goal.ghosts-draw
ghosts-draw g a = record { entry = a.entry; after = lists_in g.T.Piece.lists a.hands.now }
