use Rattle.std.proofs.Common.{◌≤◌, ◌<◌, ◌*◌, ◌^◌, length, arith}
use Rattle.std.proofs.Math.Nat.{mul-le-mul_left}
use Rattle.certificates.proofs.amounts.no_amounts.Goals as goal

pub overflow_mul-len : goal.overflow_mul-len
overflow_mul-len c =
    let names = length c.args.names.now in
    let few : names < 2 ^ 32 = c.requires.few_names in
    let product : names * c.args.periods ≤ names * 20000 = mul-le-mul_left names c.requires.few in
    rw c.len.ensures (omega arith)
