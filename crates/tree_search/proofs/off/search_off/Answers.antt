use Rattle.std.proofs.Common.{◌∙◌, List, sym, subst}
use Rattle.gain_graphs.specs.Arcs.{AreDistinct}
use Rattle.tree_search.specs.declared.piece.Step.{Step}
use Rattle.tree_search.specs.Search.{AreNodesBelow, fars}
use Rattle.tree_search.specs.Finding.{CanBeginAt}
use Rattle.tree_search.proofs.off.search_off.Goals as goal

pub search_from-requires-in-Round-clause-inside : goal.search_from-requires-in-Round-clause-inside
search_from-requires-in-Round-clause-inside c =
    let begins : AreNodesBelow c.args.nodes (fars c.in-Round.cycle.items) × AreDistinct (fars c.in-Round.cycle.items) = subst (CanBeginAt c.args.nodes c.args.joints.now) c.in-Round.is c.requires.begins in
    subst (AreNodesBelow c.args.nodes) (sym (c.as_slice-in-Round.ensures.value ∙ c.in_ok-starts-in-Round.ensures))
    (subst (λ (l : List Step). AreNodesBelow c.args.nodes (fars l)) (sym c.as_slice.ensures.value) begins.0)
