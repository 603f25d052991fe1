use Rattle.std.proofs.Common.{rules, ◌≡◌, ◌+◌, ◌-◌, ◌*◌, ◌≤◌, ◌∙◌, None, Some, get_or, arith}
use Rattle.std.proofs.lemmas.List.{length-set}
use Rattle.std.proofs.lemmas.Nat.{mul-add-lt}
use Rattle.net_csv.proofs.SupplyFacts.{last-one, none-from}
use Rattle.net_csv.proofs.supply.Amounts.take.Goals as goal

pub returns-then-is_none-clause-filled : goal.returns-then-is_none-clause-filled
returns-then-is_none-clause-filled c = λ later h.
    let a = c.args.self.now in
    let g = c.args.given.now in
    let one : g.period ≡ Some c.in-Some.period = search rules in
    let low : 1 ≤ c.in-Some.period = search rules in
    let high : c.in-Some.period ≤ a.periods = search rules in
    let no_all : get_or a.all.items g.node None ≡ None = none-from _ (search rules) in
    let no_each : get_or a.each.items ((c.in-Some.period - 1) * a.nodes + g.node) None ≡ None = none-from _ (search rules) in
    let size = h.places.each in
    let inside = mul-add-lt (c.in-Some.period - 1) a.nodes g.node a.periods (omega arith) c.requires.given.node in
    record {
      places = record { each = length-set a.each.items _ _ ∙ h.places.each; all = h.places.all; few = h.places.few };
      last = last-one a.periods a.nodes a.each.items a.all.items g c.in-Some.period later one low high c.requires.given.node (omega arith) no_all no_each h.last;
    }
