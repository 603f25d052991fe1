use Rattle.std.proofs.lemmas.Result.{err_from_is_err_and}
use Rattle.cert_checker.proofs.First.{as_meant, first_part, next_part, part_holds}
use Rattle.cert_checker.proofs.walk.check_feasible.Goals as goal

pub returns-in_err-check_balance : goal.returns-in_err-check_balance
returns-in_err-check_balance c =
    let p = err_from_is_err_and c.from_residual.result c.from_residual.ensures.1 in
    rw (p.1, p.2) (first_part _ _ c.in_err-check_balance.field-0.0 c.check_balance.result c.check_balance.ensures c.in_err-check_balance.was)

pub returns : goal.returns
returns c =
    next_part _ _ c.check_bounds.result (part_holds _ c.in_ok-check_balance.field-0 c.check_balance.result c.check_balance.ensures c.in_ok-check_balance.was)
    (as_meant c.check_bounds.result _ c.check_bounds.ensures)
