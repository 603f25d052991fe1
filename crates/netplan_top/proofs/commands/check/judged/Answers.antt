use Rattle.std.proofs.lemmas.Result.{IfOk-weaker}
use Rattle.netplan_top.specs.Steps.Judged.{IsJudged, IsNotAccepted}
use Rattle.netplan_top.specs.declared.commands.Answer.{Answer}
use Rattle.netplan_top.proofs.AnswerFacts.{judged_accepted, judged_not_accepted}
use Rattle.netplan_top.proofs.commands.check.judged.Goals as goal

pub returns-in_ok-text-in-Ok : goal.returns-in_ok-text-in-Ok
returns-in_ok-text-in-Ok c =
    judged_accepted c.args.scheme.now c.args.plan.now c.in-Ok.checked c.in_ok-text-in-Ok.text.items c.in-Ok.ensures.walk c.in-Ok.ensures.proves c.in_ok-text-in-Ok.ensures

pub returns-in-Err : goal.returns-in-Err
returns-in-Err c =
    IfOk-weaker c.not_accepted.result (λ (a : Answer). IsNotAccepted c.args.scheme.now c.in-Err.why a.status a.text.items) (λ (a : Answer). IsJudged c.args.scheme.now c.args.plan.now a.status a.text.items)
    (λ a told. judged_not_accepted c.args.scheme.now c.args.plan.now c.in-Err.why a.status a.text.items c.in-Err.ensures.walk told) c.not_accepted.ensures
