use Rattle.std.proofs.lemmas.Fmt.{IsAscii-from_digits}
use Rattle.std.proofs.lemmas.Str.{IsUtf8-from_ascii}
use Rattle.np_frac.proofs.digits.plain_text.Goals as goal

-- digits are a text
pub returns-in-Err : goal.returns-in-Err
returns-in-Err c = λ h. c.in-Err.ensures.cases.0 (IsUtf8-from_ascii _ (IsAscii-from_digits _ h.numeral.1))
