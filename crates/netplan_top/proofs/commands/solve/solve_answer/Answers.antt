use Rattle.std.proofs.lemmas.Result.{IfOk-weaker}
use Rattle.netplan_top.specs.Commands.Solve.{IsSolveAnswer}
use Rattle.netplan_top.specs.Steps.Judged.{IsStopped}
use Rattle.netplan_top.specs.Steps.Solved.{IsSolved}
use Rattle.netplan_top.specs.Steps.Stops.{network_stop}
use Rattle.netplan_top.specs.declared.commands.Answer.{Answer}
use Rattle.netplan_top.proofs.SolveFacts.{solve_read, solve_stopped}
use Rattle.netplan_top.proofs.commands.solve.solve_answer.Goals as goal

pub returns-in-Ok : goal.returns-in-Ok
returns-in-Ok g c =
    IfOk-weaker c.solved.result (λ (a : Answer). IsSolved c.args.job c.in-Ok.read.0 a.status a.text.items) (λ (a : Answer). IsSolveAnswer c.args.job c.args.bytes.now a.status a.text.items)
    (λ a solved. solve_read c.args.job c.args.bytes.now c.in-Ok.read.0 c.in-Ok.read.1 a.status a.text.items c.in-Ok.ensures solved) c.solved.ensures

pub returns-in-Err : goal.returns-in-Err
returns-in-Err g c =
    IfOk-weaker c.stopped.result (λ (a : Answer). IsStopped (network_stop c.in-Err.refused) a.status a.text.items) (λ (a : Answer). IsSolveAnswer c.args.job c.args.bytes.now a.status a.text.items)
    (λ a told. solve_stopped c.args.job c.args.bytes.now c.in-Err.refused a.status a.text.items c.in-Err.ensures told) (rw c.network_stop.ensures at c.stopped.ensures)
