use Rattle.tree_flows.proofs.Together.{swapped_pull, swapped}
use Rattle.tree_flows.proofs.pieces.steps_in_order.Goals as goal

pub returns-else-least : goal.returns-else-least
returns-else-least c = λ net d sound pulled.
    swapped net c.args.entering.now d (λ steps. steps.items) c.args.first.now.lists c.args.second.now.lists _ (c.steps_on_two-else-least.ensures net d sound (swapped_pull net c.args.entering.now d c.args.first.now.lists c.args.second.now.lists pulled))
