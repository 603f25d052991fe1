-- The words of operations, as they are printed.
use Rattle.std.specs.Prelude.{ℕ, List, codes}
use Rattle.np_frac.specs.declared.frac.Op.{Op}
use Rattle.np_frac.specs.declared.frac.Op.TheVariants.{Plus, Minus, Times, Over}

unfoldable pub op_word : Op → List ℕ
op_word Plus = codes "plus"
op_word Minus = codes "minus"
op_word Times = codes "times"
op_word Over = codes "over"
