use Rattle.std.proofs.Common.{◌∙◌, ap, subst, ◌++◌, ◌∷◌, [], List, reverse}
use Rattle.tree_search.specs.declared.piece.Step.{Step}
use Rattle.tree_search.specs.declared.piece.Joint.{Joint}
use Rattle.tree_search.specs.Search.{IsSearch, IsClosed}
use Rattle.tree_search.specs.Finding.{back_from, tail_at, head_at}
use Rattle.tree_search.proofs.find.round_over.Goals as goal

pub returns : goal.returns
returns c =
    let same = c.as_slice-2.ensures.value ∙ c.in_ok-others.ensures in
    record {
      search = c.in_ok-search.search;
      is_search = subst (λ (l : List Joint). IsSearch l c.args.nodes (tail_at c.args.joints.now c.args.arc ∷ []) c.in_ok-search.search) same c.in_ok-search.ensures.found;
      closed = subst (λ (l : List Joint). IsClosed l c.in_ok-search.search.queue.items) same c.in_ok-search.ensures.closed;
      is = c.in_ok-push.ensures.items
          ∙ ap (λ (t : List Step). t ++ record { arc = c.args.arc; near = tail_at c.args.joints.now c.args.arc; far = head_at c.args.joints.now c.args.arc } ∷ []) (c.in_ok-round.ensures ∙ ap (λ (l : List Step). back_from (reverse l) (head_at c.args.joints.now c.args.arc)) c.as_slice-3.ensures.value);
    }
