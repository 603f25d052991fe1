use Rattle.std.proofs.Common.{rules, ◌≡◌, ◌∙◌}
use Rattle.convex_arcs.specs.Gathered.{gathered}
use Rattle.convex_arcs.proofs.Parallel.{arcs-length}
use Rattle.convex_arcs.proofs.Gathering.{nothing_before}
use Rattle.convex_arcs.proofs.amounts.gather.Goals as goal

pub loop-staged-init : goal.loop-staged-init
loop-staged-init c =
    let same : c.as_slice-staged-items.result.now ≡ c.args.expanded.now.staged = search rules in
    record {
      room = rw same (c.requires ∙ arcs-length c.args.expanded.now.staged);
      found = rw same (nothing_before (gathered c.args.expanded.now.staged c.args.flows.now) _ c.new-amounts.ensures.items);
    }
