use Rattle.std.proofs.Common.{List, sym, subst}
use Rattle.std.specs.List.{All}
use Rattle.tree_search.specs.declared.piece.Step.{Step}
use Rattle.tree_flows.specs.Along.{IsWithin}
use Rattle.tree_flows.specs.Walks.{CanClose}
use Rattle.tree_flows.specs.Answers.{piece_of, AreAmounts, IsOverflow}
use Rattle.tree_flows.proofs.Walked.{zeros_at}
use Rattle.tree_flows.proofs.Needs as needs
use Rattle.tree_flows.proofs.Calls.{carried, piece_answer}
use Rattle.tree_flows.proofs.pieces.piece_amounts.Goals as goal

pub amounts_on-requires-clause-gains : goal.amounts_on-requires-clause-gains
amounts_on-requires-clause-gains c = needs.gains c.requires.in_net.0 (piece_of c.args.nodes.now c.args.basics.now c.requires.in_net.1) c.requires.in_net.2 c.requires.in_net.3

pub amounts_on-requires-clause-within : goal.amounts_on-requires-clause-within
amounts_on-requires-clause-within c =
    subst (λ (steps : List Step). All (λ t. IsWithin c.args.nodes.now c.args.basics.now t) steps) (sym c.as_slice-2.ensures.value)
    (needs.steps_within c.requires.in_net.0 (piece_of c.args.nodes.now c.args.basics.now c.requires.in_net.1) c.requires.in_net.2 c.requires.in_net.3 c.args.layout.now.joints.items c.requires.laid_out.joints
    c.args.layout.now.extra _ c.args.layout.now.search c.requires.laid_out.search)

pub amounts_on-requires-clause-closes : goal.amounts_on-requires-clause-closes
amounts_on-requires-clause-closes c =
    subst (λ j. CanClose c.args.nodes.now c.args.basics.now j c.args.layout.now.extra) (sym c.as_slice.ensures.value)
    (needs.closes c.requires.in_net.0 (piece_of c.args.nodes.now c.args.basics.now c.requires.in_net.1) c.requires.in_net.2 c.requires.in_net.3 c.args.layout.now.joints.items c.requires.laid_out.joints
    c.args.layout.now.extra c.requires.laid_out.extra)

pub amounts_on-requires-clause-joined : goal.amounts_on-requires-clause-joined
amounts_on-requires-clause-joined c =
    rw (c.as_slice.ensures.value, c.as_slice-2.ensures.value)
    (needs.steps_joined c.requires.in_net.0 (piece_of c.args.nodes.now c.args.basics.now c.requires.in_net.1) c.requires.in_net.2 c.requires.in_net.3 c.args.layout.now.joints.items c.requires.laid_out.joints
    c.args.layout.now.extra _ c.args.layout.now.search c.requires.laid_out.search)

pub amounts_on-requires-clause-still : goal.amounts_on-requires-clause-still
amounts_on-requires-clause-still c = λ a v h e. zeros_at c.args.amounts.items _ c.requires.one_each c.requires.zeros a

pub returns-clause-answer : goal.returns-clause-answer
returns-clause-answer c = λ net marks d sound pulled.
    carried (λ found. found.items) (AreAmounts net (piece_of c.args.nodes.now c.args.basics.now marks) c.args.entering.now d) (IsOverflow net (piece_of c.args.nodes.now c.args.basics.now marks) c.args.entering.now d)
    c.amounts_on.result _ c.amounts_on.ensures.made
    (piece_answer c.args.nodes.now c.args.basics.now c.args.layout.now c.args.entering.now c.args.amounts.items c.args.sums.items c.as_slice.result.now c.as_slice-2.result.now c.requires.laid_out c.requires.one_each c.requires.zeros
    c.requires.each_node c.as_slice.ensures.value c.as_slice-2.ensures.value net marks d sound pulled)
