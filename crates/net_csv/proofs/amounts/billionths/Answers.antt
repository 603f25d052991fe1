use Rattle.std.proofs.Common.{rules, arith, ◌≡◌, ◌*◌, ◌/◌, ◌^◌}
use Rattle.net_csv.specs.AmountText.{billionths}
use Rattle.np_frac.proofs.AmountTexts.{has_billionths}
use Rattle.net_csv.proofs.amounts.billionths.Goals as goal

pub overflow_mul-result : goal.overflow_mul-result
overflow_mul-result c =
    let is : c.unsigned_abs.result * (10 ^ 9 / c.unsigned_abs-2.result) ≡ billionths c.args.value = search rules in
    omega (arith, is, (has_billionths c.args.value c.requires).few)

pub returns-clause-few : goal.returns-clause-few
returns-clause-few c =
    let is : c.unsigned_abs.result * (10 ^ 9 / c.unsigned_abs-2.result) ≡ billionths c.args.value = search rules in
    omega (arith, is, (has_billionths c.args.value c.requires).few)
