-- The words of faults, as they are printed.
use Rattle.std.specs.Prelude.{ℕ, List, codes}
use Rattle.net_csv.specs.declared.refused.Code.{Code}
use Rattle.net_csv.specs.declared.refused.Code.TheVariants.{Header, Unknown, FieldCount, BadName, Repeated, NoSuchName, BadNumber, BadPeriod, SameEnds, BadGain, BadBounds, NotConvex, PieceAfterInfinite, TooMany, NoEnd, AfterEnd}

unfoldable pub code_word : Code → List ℕ
code_word Header = codes "Header"
code_word Unknown = codes "Unknown"
code_word FieldCount = codes "FieldCount"
code_word BadName = codes "BadName"
code_word Repeated = codes "Repeated"
code_word NoSuchName = codes "NoSuchName"
code_word BadNumber = codes "BadNumber"
code_word BadPeriod = codes "BadPeriod"
code_word SameEnds = codes "SameEnds"
code_word BadGain = codes "BadGain"
code_word BadBounds = codes "BadBounds"
code_word NotConvex = codes "NotConvex"
code_word PieceAfterInfinite = codes "PieceAfterInfinite"
code_word TooMany = codes "TooMany"
code_word NoEnd = codes "NoEnd"
code_word AfterEnd = codes "AfterEnd"
