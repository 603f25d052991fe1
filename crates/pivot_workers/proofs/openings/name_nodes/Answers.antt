use Rattle.std.proofs.Common.{arith, length}
use Rattle.std.proofs.lemmas.List.{length-map}
use Rattle.np_frac.specs.Ratio.{Ratio}
use Rattle.np_model.specs.Basis.Pieces.{nodes_in}
use Rattle.std.specs.Prelude.{ℕ, ◌<◌}
use Rattle.pivot_workers.proofs.Naming.{given_none, given_more, given_all}
use Rattle.pivot_workers.proofs.openings.name_nodes.Goals as goal

pub loop-place-init : goal.loop-place-init
loop-place-init g c = given_none c.least-least.result c.args.openings.now

pub loop-place-preserved : goal.loop-place-preserved
loop-place-preserved g c =
    let piece = g.T.Piece.lists c.args.piece.now in
    let long = length-map piece.nodes (λ (n : ℕ × Ratio). n.0) in
    let size = c.size-place-end.ensures in
    let test = c.loop-place-test.true in
    let lt : c.loop-place.place < length (nodes_in piece) = omega arith in
    let is = c.node_at-node.ensures in
    let near = c.requires.below c.loop-place.place 0 lt in
    let same = c.loop-place.auto.openings in
    given_more (nodes_in piece) c.loop-place.place c.node_at-node.result c.least-least.result c.args.openings.now c.loop-place.openings lt is (omega arith) c.loop-place.invariant

pub returns : goal.returns
returns g c =
    let piece = g.T.Piece.lists c.args.piece.now in
    let long = length-map piece.nodes (λ (n : ℕ × Ratio). n.0) in
    let size = c.size-place-end.ensures in
    let test = c.loop-place-test.false in
    given_all (nodes_in piece) c.loop-place.place c.least-least.result _ c.args.openings.now c.loop-place.openings (omega arith) c.least-least.ensures c.loop-place.invariant
