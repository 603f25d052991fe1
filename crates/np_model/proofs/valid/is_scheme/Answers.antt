use Rattle.std.proofs.Common.{◌≡◌, true, refl}
use Rattle.np_model.proofs.Tested.{scheme-so, scheme-is}
use Rattle.np_model.proofs.valid.is_scheme.Goals as goal

pub returns-then-not-are_parts : goal.returns-then-not-are_parts
returns-then-not-are_parts c = (
  λ h. absurd (cc h),
  λ h. let t : c.are_parts.result ≡ true = c.are_parts.ensures.1 (scheme-is c.args.periods c.args.nodes.now c.args.supply.now c.args.flows.now h) in absurd (cc (t, c.if-not-are_parts.true)),
)

pub returns-then-not-branch : goal.returns-then-not-branch
returns-then-not-branch c =
    let distinct = c.in_ok-are_distinct.ensures in
    (λ h. absurd (cc h), λ h. let t : c.in_ok-are_distinct.field-0 ≡ true = distinct.1 h.node_names.distinct in absurd (cc (t, c.if-not-branch.true)))

pub returns-then-not-branch-2 : goal.returns-then-not-branch-2
returns-then-not-branch-2 c =
    let distinct = c.in_ok-have_distinct_names.ensures in
    (λ h. absurd (cc h), λ h. let t : c.in_ok-have_distinct_names.field-0 ≡ true = distinct.1 h.flow_names.distinct in absurd (cc (t, c.if-not-branch-2.true)))

pub returns : goal.returns
returns c =
    let nodes = c.in_ok-are_distinct.ensures in
    let flows = c.in_ok-have_distinct_names.ensures in (
      λ h. scheme-so c.args.periods c.args.nodes.now c.args.supply.now c.args.flows.now (c.are_parts.ensures.0 c.if-not-are_parts.false) (nodes.0 c.if-not-branch.false) (flows.0 c.if-not-branch-2.false),
      λ h. refl,
    )
