use Rattle.std.proofs.Common.{◌≡◌, ◌<◌, ◌∙◌, ap, sym, subst, get_or}
use Rattle.np_frac.specs.Exact.{◌▷◌}
use Rattle.tree_search.specs.Search.{IsFirstFrom}
use Rattle.tree_search.proofs.Searches.{default}
use Rattle.tree_flows.specs.Along.{arcs_from, sum_part}
use Rattle.tree_flows.proofs.Adding.{first_is, next_is, none}
use Rattle.tree_flows.proofs.sums.Rows.with_part.Goals as goal

pub loop-arc-init : goal.loop-arc-init
loop-arc-init c =
    let first = c.args.self.now.incidence.now.first.items in
    let is : c.index-arc.result.now ≡ get_or first c.args.place 0 = c.index-arc.ensures ∙ default first c.args.place _ 0 (subst (λ n. c.args.place < n) (sym c.requires.lists.long_first) c.requires.inside) in
    let f : IsFirstFrom c.args.self.now.joints.now c.args.place 0 c.index-arc.result.now = subst (λ t. IsFirstFrom c.args.self.now.joints.now c.args.place 0 t) (sym is) (c.requires.lists.firsts c.args.place c.requires.inside) in (
      f.within,
      f.touches,
      ap (λ l. sum_part c.args.self.now.basics.now c.args.amounts.now c.args.self.now.before c.args.early c.node_of-node.result l c.args.start) (first_is c.args.self.now.joints.now c.args.place 0 c.index-arc.result.now f),
    )

pub loop-arc-preserved : goal.loop-arc-preserved
loop-arc-preserved c = (
  c.next-arc.ensures.within,
  c.next-arc.ensures.touches,
  c.loop-arc.invariant.2
      ∙ ap (λ l. sum_part c.args.self.now.basics.now c.args.amounts.now c.args.self.now.before c.args.early c.node_of-node.result l c.loop-arc.sum)
      (next_is c.args.self.now.joints.now c.args.place c.loop-arc.arc c.next-arc.result c.loop-arc-test.true (c.loop-arc.invariant.1 c.loop-arc-test.true) c.next-arc.ensures)
      ∙ ap (λ r. r ▷ sum_part c.args.self.now.basics.now c.args.amounts.now c.args.self.now.before c.args.early c.node_of-node.result (arcs_from c.args.self.now.joints.now c.args.place c.next-arc.result)) (sym c.in_ok-sum.ensures),
)

pub returns : goal.returns
returns c =
    sym (ap (λ n. sum_part c.args.self.now.basics.now c.args.amounts.now c.args.self.now.before c.args.early n (arcs_from c.args.self.now.joints.now c.args.place 0) c.args.start) (sym c.node_of-node.ensures)
    ∙ c.loop-arc.invariant.2
    ∙ ap (λ l. sum_part c.args.self.now.basics.now c.args.amounts.now c.args.self.now.before c.args.early c.node_of-node.result l c.loop-arc.sum) (none c.args.self.now.joints.now c.args.place c.loop-arc.arc c.loop-arc-test.false))
