use Rattle.std.proofs.Common.{[], ◌∷◌, map, refl, ap, ◌∙◌, arith}
use Rattle.std.proofs.lemmas.List.{map-append}
use Rattle.bench_all.specs.declared.table.alone.Alone.{Alone}
use Rattle.bench_all.specs.Visits.{alone}
use Rattle.bench_all.proofs.Parts.{one_more}
use Rattle.bench_all.proofs.table.forest.pieces_of.Goals as goal

pub loop-node-preserved : goal.loop-node-preserved
loop-node-preserved c =
    let lists = λ (p : Alone). alone p.node in
    one_more alone 0 c.loop-node.node c.loop-node.node (alone c.loop-node.node) (map lists c.loop-node.pieces.items) (map lists c.push.new.self.items) (omega arith) c.loop-node.invariant refl
    (ap (map lists) c.in_ok-push.ensures.items ∙ map-append lists c.loop-node.pieces.items (record { node = c.loop-node.node } ∷ []))
