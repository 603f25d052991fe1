use Rattle.std.proofs.Common.{rules}
use Rattle.net_csv.proofs.AmountTexts.{decimal_some}
use Rattle.net_csv.proofs.amounts.write_decimals.Goals as goal

pub slice_bounds-extend_from_slice-count : goal.slice_bounds-extend_from_slice-count
slice_bounds-extend_from_slice-count c = search (rules, decimal_some)

pub slice_bounds-extend_from_slice-start : goal.slice_bounds-extend_from_slice-start
slice_bounds-extend_from_slice-start c = search (rules, decimal_some)
