use Rattle.std.proofs.Common.{◌≡◌, ◌<◌, ◌∙◌, ap, length, arith}
use Rattle.cert_checker.specs.Walk.{goes_on_unless}
use Rattle.cert_checker.proofs.Balances.{flows_of, sums_are}
use Rattle.cert_checker.proofs.First.{as_meant}
use Rattle.cert_checker.proofs.balance.check_balance.Goals as goal

pub returns : goal.returns
returns c =
    let long : length c.deref.result.now ≡ length c.args.wanted.now = omega (arith, ap length c.deref.ensures.value, c.in_ok-sums.ensures.each) in
    as_meant c.check_sums.result _
    (c.check_sums.ensures
    ∙ ap goes_on_unless
    (sums_are c.args.by.row c.args.by.clause c.args.by.nodes c.args.wanted.now c.deref.result.now (flows_of c.args.arcs.now c.args.amounts.now) long
    (λ v d below.
    let within : v < length c.args.wanted.now = omega arith in
    rw c.deref.ensures.value (c.in_ok-sums.ensures.sums v d within))))
