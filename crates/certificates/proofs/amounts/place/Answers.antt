use Rattle.std.proofs.Common.{◌≤◌, ◌<◌, ◌-◌, ◌*◌, ◌^◌, length, arith}
use Rattle.std.proofs.Math.Nat.{mul-le-mul_right}
use Rattle.certificates.proofs.amounts.place.Goals as goal

pub overflow_mul-result : goal.overflow_mul-result
overflow_mul-result c =
    let names = length c.args.names.now in
    let few : names < 2 ^ 32 = c.requires.few_names in
    let within = c.in_ok-period.ensures.within in
    let last = c.requires.few in
    let most : c.in_ok-period.field-0 - 1 ≤ 20000 = omega arith in
    let product : (c.in_ok-period.field-0 - 1) * names ≤ 20000 * names = mul-le-mul_right names most in
    rw c.len.ensures (omega arith)

pub overflow_add-result : goal.overflow_add-result
overflow_add-result c =
    let names = length c.args.names.now in
    let few : names < 2 ^ 32 = c.requires.few_names in
    let within = c.in_ok-period.ensures.within in
    let last = c.requires.few in
    let number = c.requires.within in
    let most : c.in_ok-period.field-0 - 1 ≤ 20000 = omega arith in
    let product : (c.in_ok-period.field-0 - 1) * names ≤ 20000 * names = mul-le-mul_right names most in
    rw c.len.ensures (omega arith)
