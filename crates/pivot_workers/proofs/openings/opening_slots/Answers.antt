use Rattle.std.proofs.Common.{rules, List, ℕ, ◌+◌, map, take, sym, ◌∙◌, ap, subst, length}
use Rattle.std.proofs.lemmas.List.{with_items_is}
use Rattle.np_model.specs.Basis.Pieces.{nodes_in, least_node}
use Rattle.pivot_workers.specs.Steps.Given.{AreGiven, AreNamed}
use Rattle.pivot_workers.proofs.Naming.{named_none, some_nodes, nodes_below, named_more, named_all}
use Rattle.pivot_workers.proofs.openings.opening_slots.Goals as goal

pub loop-piece-init : goal.loop-piece-init
loop-piece-init g c =
    named_none c.args.nodes c.in_ok-items.items.items (search rules) (c.in_ok-items.ensures.items_if_clones_equal (λ y h. h))

pub name_nodes-requires-clause-some : goal.name_nodes-requires-clause-some
name_nodes-requires-clause-some g c κs within =
    let f = c.requires.forest in
    some_nodes g.T.Piece.lists f.0 c.args.pieces.now f.2 c.loop-piece.piece-index c.piece-item.result c.loop-piece-test.true c.piece-item.is

pub name_nodes-requires-clause-below : goal.name_nodes-requires-clause-below
name_nodes-requires-clause-below g c κs within =
    let f = c.requires.forest in
    nodes_below g.T.Piece.lists f.0 c.args.pieces.now f.2 c.loop-piece.piece-index c.piece-item.result c.loop-piece-test.true c.piece-item.is (length c.as_mut_slice.result.now)
    (f.1 ∙ sym (ap length c.as_mut_slice.ensures.value ∙ c.loop-piece.invariant.slots.one_each))

pub loop-piece-preserved : goal.loop-piece-preserved
loop-piece-preserved g c =
    let f = c.requires.forest in
    let p = g.T.Piece.lists c.piece-item.result in
    let is = c.as_mut_slice.ensures.value in
    subst (AreNamed c.args.nodes (map g.T.Piece.lists (take (c.loop-piece.piece-index + 1) c.args.pieces.now)))
    (sym (with_items_is c.loop-piece.items c.name_nodes.new.openings (c.name_nodes.ensures.long ∙ ap length is ∙ sym c.loop-piece.items.ok.0)))
    (named_more g.T.Piece.lists f.0 c.args.pieces.now f.2 c.loop-piece.piece-index c.piece-item.result c.loop-piece-test.true c.piece-item.is c.args.nodes c.loop-piece.items.items c.name_nodes.new.openings f.1
    (subst (λ (old : List ℕ). AreGiven (nodes_in p) (least_node p) old c.name_nodes.new.openings) is c.name_nodes.ensures) c.loop-piece.invariant)

pub returns : goal.returns
returns g c =
    let f = c.requires.forest in
    named_all g.T.Piece.lists f.0 c.args.pieces.now f.2 c.args.nodes c.loop-piece.piece-index c.loop-piece.items.items f.1 c.loop-piece-test.false c.loop-piece.invariant
