use Rattle.std.proofs.Common.{rules, ◌≡◌, ◌<◌, [], ◌∷◌, inl, refl, sym, subst, slice_index_or, false}
use Rattle.gain_graphs.specs.Arcs.{IsIn}
use Rattle.gain_graphs.proofs.Lists.{in_back}
use Rattle.tree_search.proofs.Searches.{visited, joins_below}
use Rattle.tree_search.proofs.search.Search.visit.Goals as goal

pub returns-clause-seen : goal.returns-clause-seen
returns-clause-seen c = λ n starts h i.
    let below : c.other_end-other.result < n = subst (λ t. c.other_end-other.result < t) h.long (joins_below c.args.joints.now _ c.args.arc c.args.node c.other_end-other.result c.requires.ends c.other_end-other.ensures.joins) in
    let unseen : slice_index_or c.args.self.now.seen.items c.other_end-other.result false ≡ false = search rules in (
      visited c.args.joints.now n starts c.args.self.now _ c.args.arc c.args.node c.other_end-other.result h i c.other_end-other.ensures.joins below unseen refl c.in_ok-push.ensures.items c.in_ok-push-2.ensures.items,
      (c.other_end-other.result ∷ [], c.in_ok-push.ensures.items),
    )

pub returns-clause-leads : goal.returns-clause-leads
returns-clause-leads c = λ n starts h i u j.
    subst (IsIn u) (sym c.in_ok-push.ensures.items) (in_back u c.args.self.now.queue.items (c.other_end-other.result ∷ []) (inl (c.other_end-other.ensures.one u j)))
