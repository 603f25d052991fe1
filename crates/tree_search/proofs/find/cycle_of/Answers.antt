use Rattle.std.proofs.Common.{List, subst}
use Rattle.std.proofs.lemmas.Result.{IfOk-weaker}
use Rattle.tree_search.specs.declared.piece.Step.{Step}
use Rattle.tree_search.specs.Finding.{IsTurned, IsCycleOf}
use Rattle.tree_search.proofs.find.cycle_of.Goals as goal

pub returns : goal.returns
returns c = IfOk-weaker c.from_least.result (λ cycle. IsTurned c.as_slice.result.now cycle.items) (λ cycle. IsCycleOf c.args.joints.now c.args.nodes cycle.items) (λ cycle t. record {
  arc = c.in_ok-rest.rest;
  rest = c.in_ok-rest.ensures;
  round = c.in_ok-round.round.items;
  closes = c.in_ok-round.ensures;
  turned = subst (λ (l : List Step). IsTurned l cycle.items) c.as_slice.ensures.value t;
}) c.from_least.ensures
