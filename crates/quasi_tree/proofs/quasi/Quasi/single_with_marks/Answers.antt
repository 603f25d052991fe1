use Rattle.std.proofs.Common.{rules, ◌≡◌, subst, sym, arith}
use Rattle.np_model.specs.Basis.Pieces.{PieceLists}
use Rattle.quasi_tree.specs.Start.{piece_at_start}
use Rattle.quasi_tree.specs.Store.{IsHeld}
use Rattle.quasi_tree.proofs.Starts.{held_start, flows_long, single_is}
use Rattle.quasi_tree.proofs.quasi.Quasi.single_with_marks.Goals as goal

piece_is : (c : goal.In_ok-basics)
    → record { nodes = c.in_ok-nodes.nodes.items.items; basics = c.in_ok-basics.basics.items.items; marks = c.args.marks.items.items }
    ≡ piece_at_start c.args.start.now.full c.args.node
piece_is c =
    single_is c.args.start.now.full c.args.node c.args.start.now.flows c.start_potential.result
    c.index.result.now c.index.result.now c.index-flow.result.now
    (record { nodes = c.in_ok-nodes.nodes.items.items; basics = c.in_ok-basics.basics.items.items; marks = c.args.marks.items.items })
    c.requires.is_node c.requires.flows (search rules) (search rules) (search rules) c.requires.marks

pub invariant_of-result : goal.invariant_of-result
invariant_of-result c =
    subst (λ (p : PieceLists). IsHeld p) (sym (piece_is c))
    (held_start c.args.start.now.full c.args.node c.requires.is_node (omega (arith, c.args.start.now.full.net.valid.few_arcs)))

pub returns : goal.returns
returns c = piece_is c

pub index-flow-requires : goal.index-flow-requires
index-flow-requires c = search (rules, flows_long c.args.start.now.full c.args.start.now.flows c.requires.flows)
