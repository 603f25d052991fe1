use Rattle.std.proofs.Common.{◌∙◌, ◌≤◌, arith, length}
use Rattle.tree_search.proofs.Searches.{kept, grows_on, leads_more}
use Rattle.tree_search.proofs.search.Search.expand.Goals as goal

pub loop-arc-preserved : goal.loop-arc-preserved
loop-arc-preserved c = (
  c.visit.ensures.long ∙ c.loop-arc.invariant.0,
  c.next-arc.ensures.within,
  c.next-arc.ensures.touches,
  λ n starts h i.
      let v = c.loop-arc.invariant.3 n starts h i in
      let there = kept c.args.self.now c.loop-arc.self v.1 c.args.node i in
      let s = c.in_ok-visit.ensures.seen n starts v.0 there in (
        s.0,
        grows_on c.args.self.now c.loop-arc.self c.visit.new.self v.1 s.1,
        leads_more c.args.joints.now c.args.node c.loop-arc.arc c.next-arc.result c.loop-arc.self c.visit.new.self s.1 v.2 (c.in_ok-visit.ensures.leads n starts v.0 there) c.next-arc.ensures,
      ),
)

pub returns-clause-seen : goal.returns-clause-seen
returns-clause-seen c = λ n starts h i. let v = c.loop-arc.invariant.3 n starts h i in (v.0, v.1)

pub returns-clause-leads : goal.returns-clause-leads
returns-clause-leads c = λ n starts h i b u below j.
    (c.loop-arc.invariant.3 n starts h i).2 b u (let l : length c.args.joints.now ≤ c.loop-arc.arc = c.loop-arc-test.false in omega arith) j
