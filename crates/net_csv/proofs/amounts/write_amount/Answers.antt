use Rattle.std.proofs.Common.{rules}
use Rattle.np_frac.proofs.AmountTexts.{decimal_if_not_short}
use Rattle.net_csv.proofs.amounts.write_amount.Goals as goal

pub write_decimals-requires : goal.write_decimals-requires
write_decimals-requires c = decimal_if_not_short c.args.value c.requires (search rules)
