use Rattle.std.proofs.Common.{◌≡◌, Ok, sym, ◌∙◌, map, [], arith}
use Rattle.np_model.specs.declared.arc.NetArc.{NetArc}
use Rattle.np_model.specs.Network.Flows.{Network, at}
use Rattle.np_model.specs.Basis.Phases.{network_of}
use Rattle.np_model.specs.Basis.Starts.{artificial_end, artificial_flow}
use Rattle.np_model.specs.Rows.Arcs.{residual_of}
use Rattle.basis_start.proofs.Residuals.{residual_exact}
use Rattle.basis_start.proofs.Artificial.{one_more_number, one_more_fits, end_is, flow_is}
use Rattle.basis_start.proofs.basis.artificial_arcs.Goals as goal

pub loop-node-preserved : goal.loop-node-preserved
loop-node-preserved c =
    let net : Network = network_of c.args.net.now in
    let n = c.loop-node.node in
    let found : residual_of net.arcs n (at net.supply n) ≡ Ok c.in-Ok.residual = sym (c.requires.residuals n _ (omega (arith, c.requires.each))) ∙ c.in-Ok.is in
    let exact = residual_exact net n c.in-Ok.residual found in
    record {
      ends = one_more_number (artificial_end net) [] n c.loop-node.made.ends.items c.push.new.self.ends.items _ c.loop-node.invariant.ends (end_is net n c.in-Ok.residual exact) (c.in_ok-push-in-Ok.ensures.ends);
      flows = one_more_number (artificial_flow net) (map (λ (a : NetArc). a.lower) net.arcs) n c.loop-node.made.flows.items c.push.new.self.flows.items _ c.loop-node.invariant.flows (flow_is net n c.in-Ok.residual exact) (c.in_ok-push-in-Ok.ensures.flows);
      fit = one_more_fits net n c.in-Ok.residual c.loop-node.invariant.fit found;
    }
