use Rattle.std.proofs.lemmas.Result.{IfOk-weaker}
use Rattle.netplan_top.specs.Steps.Judged.{IsJudged, IsStopped}
use Rattle.netplan_top.specs.Commands.Check.{IsCheckAnswer}
use Rattle.netplan_top.specs.declared.commands.Answer.{Answer}
use Rattle.netplan_top.proofs.AnswerFacts.{answer_judged, answer_stopped}
use Rattle.netplan_top.proofs.commands.check.check_answer.Goals as goal

pub returns-in-Ok : goal.returns-in-Ok
returns-in-Ok c =
    IfOk-weaker c.judged.result (λ (a : Answer). IsJudged c.in-Ok.input.scheme c.in-Ok.input.plan a.status a.text.items) (λ (a : Answer). IsCheckAnswer c.args.bytes.now a.status a.text.items)
    (λ a judged. answer_judged c.args.bytes.now c.in-Ok.input.scheme c.in-Ok.input.plan a.status a.text.items c.in-Ok.ensures.reads judged) c.judged.ensures

pub returns-in-Err : goal.returns-in-Err
returns-in-Err c =
    IfOk-weaker c.stopped.result (λ (a : Answer). IsStopped c.in-Err.stop a.status a.text.items) (λ (a : Answer). IsCheckAnswer c.args.bytes.now a.status a.text.items)
    (λ a told. answer_stopped c.args.bytes.now c.in-Err.stop a.status a.text.items c.in-Err.ensures told) c.stopped.ensures
