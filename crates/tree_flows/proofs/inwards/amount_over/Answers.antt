use Rattle.std.proofs.Common.{◌≡◌, false, Ok, ap, rules, sym, ◌∙◌}
use Rattle.tree_flows.proofs.Still.{nothing_over}
use Rattle.tree_flows.proofs.inwards.amount_over.Goals as goal

pub returns-then-not-is_reached : goal.returns-then-not-is_reached
returns-then-not-is_reached c =
    let none : c.is_reached.result ≡ false = search rules in
    ap Ok c.whole.ensures
    ∙ nothing_over c.args.rows.now.nodes.now c.args.rows.now.basics.now c.args.rows.now.joints.now c.args.rows.now.before c.args.rows.now.entering.now.ends c.args.rows.now.entering.now.amount c.args.amounts.now
    c.args.reached.now c.args.step c.requires.still (sym c.is_reached.ensures ∙ none)
