use Rattle.std.proofs.Common.{◌∙◌, not, sym, ap, arith}
use Rattle.np_model.specs.declared.arc.Upper.TheVariants.{Finite}
use Rattle.np_model.proofs.Tested.{at-most-so}
use Rattle.piece_tests.proofs.pivots.drain_between.Goals as goal

pub returns : goal.returns
returns c = record { joins = omega arith; gain = tt; bounds = at-most-so c.args.lower (Finite c.args.upper) (ap not (sym c.is_below.ensures ∙ c.if-is_below.false)) }
