use Rattle.std.proofs.Common.{◌≡◌}
use Rattle.std.proofs.lemmas.Result.{IfOk-weaker}
use Rattle.netplan_top.specs.Commands.Expand.{IsExpandAnswer}
use Rattle.netplan_top.specs.Steps.Judged.{IsStopped}
use Rattle.netplan_top.specs.Texts.Network.{net_text}
use Rattle.netplan_top.specs.Steps.Stops.{network_stop}
use Rattle.netplan_top.specs.declared.commands.Answer.{Answer}
use Rattle.netplan_top.proofs.AnswerFacts.{expand_made, expand_stopped}
use Rattle.netplan_top.proofs.commands.expand.expand_answer.Goals as goal

pub returns-in-Ok : goal.returns-in-Ok
returns-in-Ok c =
    IfOk-weaker c.expanded.result (λ (a : Answer). (a.status ≡ 0) × (a.text.items ≡ net_text c.in-Ok.read.0)) (λ (a : Answer). IsExpandAnswer c.args.bytes.now a.status a.text.items)
    (λ a made. expand_made c.args.bytes.now c.in-Ok.read.0 c.in-Ok.read.1 a.status a.text.items c.in-Ok.ensures made.0 made.1) c.expanded.ensures

pub returns-in-Err : goal.returns-in-Err
returns-in-Err c =
    IfOk-weaker c.stopped.result (λ (a : Answer). IsStopped (network_stop c.in-Err.refused) a.status a.text.items) (λ (a : Answer). IsExpandAnswer c.args.bytes.now a.status a.text.items)
    (λ a told. expand_stopped c.args.bytes.now c.in-Err.refused a.status a.text.items c.in-Err.ensures told) (rw c.network_stop.ensures at c.stopped.ensures)
