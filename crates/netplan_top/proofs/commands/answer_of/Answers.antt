use Rattle.netplan_top.proofs.commands.answer_of.Goals as goal

pub returns-in-Solve : goal.returns-in-Solve
returns-in-Solve g c = rw c.in-Solve.is c.solve_answer.ensures

pub returns-in-Check : goal.returns-in-Check
returns-in-Check g c = rw c.in-Check.is c.check_answer.ensures

pub returns-in-Expand : goal.returns-in-Expand
returns-in-Expand g c = rw c.in-Expand.is c.expand_answer.ensures
