use Rattle.np_frac.proofs.Texts.{not_refused}
use Rattle.np_frac.proofs.digits.read_number.Goals as goal

pub returns-in-Err : goal.returns-in-Err
returns-in-Err c =
    not_refused c.args.most c.args.digits.now c.in_ok-plain_text.field-0.now c.in-Err.field-0 c.requires c.in_ok-plain_text.ensures.0 c.in-Err.ensures.value
