use Rattle.std.proofs.Common.{◌≡◌, refl, subst, arith}
use Rattle.np_model.specs.declared.arc.Ends.TheVariants.{Drain}
use Rattle.np_model.specs.Basis.Artificial.{AreArtificial}
use Rattle.bench_all.specs.Nodes.{drains}
use Rattle.bench_all.proofs.Parts.{one_more}
use Rattle.bench_all.proofs.Drains.{drains_are_artificial}
use Rattle.bench_all.proofs.nodes.drains_of.Goals as goal

pub loop-node-preserved : goal.loop-node-preserved
loop-node-preserved c =
    one_more Drain 0 c.loop-node.node c.loop-node.node (Drain c.loop-node.node) c.loop-node.list.items c.push.new.self.items (omega arith) c.loop-node.invariant refl c.in_ok-push.ensures.items

pub returns-clause-artificial : goal.returns-clause-artificial
returns-clause-artificial c =
    let e : c.loop-node.node ≡ c.args.nodes = omega (arith, c.loop-node-test.false, c.loop-node.auto.node-end) in
    rw c.loop-node.invariant (subst (λ n. AreArtificial n (drains c.loop-node.node)) e (drains_are_artificial c.loop-node.node))
