-- Why reading stopped.
use Rattle.net_csv.specs.declared.refused.Refused.{Refused}
use Rattle.net_csv.specs.declared.refused.Refused.TheVariants as refused
use Rattle.certificates.specs.declared.refused.PlanRefused.{PlanRefused}
use Rattle.certificates.specs.declared.refused.PlanRefused.TheVariants as plan_refused
use Rattle.netplan_top.specs.declared.commands.stop.Stop.{Stop}
use Rattle.netplan_top.specs.declared.commands.stop.Stop.TheVariants as stop

-- a network text was not read
abbrev pub network_stop : Refused → Stop
network_stop (refused.Fault place code) = stop.Network place code
network_stop refused.Memory = stop.Memory

-- a plan text was not read
abbrev pub plan_stop : PlanRefused → Stop
plan_stop (plan_refused.Fault place code) = stop.Plan place code
plan_stop plan_refused.Memory = stop.Memory
