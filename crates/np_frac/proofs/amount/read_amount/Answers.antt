use Rattle.std.proofs.Common.{rules}
use Rattle.np_frac.proofs.Texts.{number_below}
use Rattle.np_frac.proofs.Amounts.{value_is_amount}
use Rattle.np_frac.proofs.amount.read_amount.Goals as goal

pub amount_parts-requires : goal.amount_parts-requires
amount_parts-requires c =
    rw c.in_ok-read_number.ensures.1 (number_below 18 _ c.in_ok-read_number.ensures.0)

pub returns-clause-amount : goal.returns-clause-amount
returns-clause-amount c = value_is_amount c.from_parts.result c.args.bytes.now (search rules) (search rules)
