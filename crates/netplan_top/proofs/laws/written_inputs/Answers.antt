use Rattle.netplan_top.proofs.WrittenInput.{written-behind, texts-behind, reads-behind, same-walk}
use Rattle.netplan_top.proofs.laws.written_inputs.Goals as goal

pub returns-clause-behind : goal.returns-clause-behind
returns-clause-behind c =
    written-behind c.written_schemes_are_read.ensures.followed c.written_schemes_are_read.ensures.bytes c.written_plans_are_read.ensures.full c.written_plans_are_read.ensures.read

pub returns-clause-texts : goal.returns-clause-texts
returns-clause-texts c =
    texts-behind c.written_schemes_are_read.ensures.followed c.written_schemes_are_read.ensures.bytes c.written_plans_are_read.ensures.full c.written_plans_are_read.ensures.read

pub returns-clause-reads : goal.returns-clause-reads
returns-clause-reads c = λ scheme plan log fit has.
    reads-behind scheme _ _
    (written-behind c.written_schemes_are_read.ensures.followed c.written_schemes_are_read.ensures.bytes c.written_plans_are_read.ensures.full c.written_plans_are_read.ensures.read scheme plan log fit has)

pub returns-clause-walk : goal.returns-clause-walk
returns-clause-walk c = same-walk
