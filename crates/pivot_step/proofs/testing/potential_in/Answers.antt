use Rattle.std.proofs.Common.{◌∙◌, ap, sym, true≢false}
use Rattle.std.specs.Option.{option_copied}
use Rattle.pivot_step.proofs.Entering.{first_potential, in_second, second_potential}
use Rattle.pivot_step.proofs.testing.potential_in.Goals as goal

pub returns-then-contains : goal.returns-then-contains
returns-then-contains c = c.potential_of.ensures ∙ first_potential c.args.first.now.lists (option_copied c.args.second) c.args.node (c.contains.ensures.0 c.if-contains.true)

pub potential_of-requires-in-Some : goal.potential_of-requires-in-Some
potential_of-requires-in-Some c =
    in_second c.args.first.now.lists (option_copied c.args.second) c.in-Some.other.now c.args.node (ap (λ o. option_copied o) c.in-Some.is) (λ i. true≢false (sym (c.contains.ensures.1 i) ∙ c.if-contains.false)) c.requires

pub returns-in-Some : goal.returns-in-Some
returns-in-Some c =
    c.potential_of-in-Some.ensures
    ∙ second_potential c.args.first.now.lists (option_copied c.args.second) c.in-Some.other.now c.args.node (ap (λ o. option_copied o) c.in-Some.is) (λ i. true≢false (sym (c.contains.ensures.1 i) ∙ c.if-contains.false))
    (in_second c.args.first.now.lists (option_copied c.args.second) c.in-Some.other.now c.args.node (ap (λ o. option_copied o) c.in-Some.is) (λ i. true≢false (sym (c.contains.ensures.1 i) ∙ c.if-contains.false)) c.requires)
