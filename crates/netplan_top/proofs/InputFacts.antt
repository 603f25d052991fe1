-- From the two texts of an input to the whole.
use Rattle.std.specs.Prelude.{ℕ, Ok, Err, List}
use Rattle.np_records.specs.Records.{records_of}
use Rattle.np_model.specs.declared.scheme.Scheme.{Scheme}
use Rattle.np_model.specs.declared.plan.Plan.{Plan}
use Rattle.net_csv.specs.Reading.{ReadsScheme}
use Rattle.net_csv.specs.declared.refused.Refused.{Refused}
use Rattle.net_csv.specs.declared.refused.Refused.TheVariants as refused
use Rattle.net_csv.specs.declared.refused.Tail.TheVariants as tail
use Rattle.certificates.specs.Reading.{ReadsPlan}
use Rattle.certificates.specs.declared.refused.PlanRefused.{PlanRefused}
use Rattle.certificates.specs.declared.refused.PlanRefused.TheVariants as plan_refused
use Rattle.netplan_top.specs.Commands.Check.{HasNetwork, rest_of}
use Rattle.netplan_top.specs.Steps.Judged.{IsInputRead, IsStopOf}
use Rattle.netplan_top.specs.Steps.Stops.{network_stop, plan_stop}

has-network : (bytes : List ℕ) (scheme : Scheme) (count : ℕ) → ReadsScheme tail.Plan (records_of bytes) (Ok (scheme, count)) → HasNetwork bytes scheme count
has-network bytes scheme count h = record { network = h.0; scheme_is = h.1 }

pub whole-input : (bytes : List ℕ) (scheme : Scheme) (count : ℕ) (plan : Plan) → ReadsScheme tail.Plan (records_of bytes) (Ok (scheme, count))
    → ReadsPlan count scheme (rest_of bytes count) (Ok plan) → IsInputRead bytes scheme plan
whole-input bytes scheme count plan h p = record {
  reads = record { count = count; network = has-network bytes scheme count h; whole = p.0; plan_is = p.1 };
  fits = p.2;
}

-- why the input was not read

pub stop-network : (bytes : List ℕ) (why : Refused) → ReadsScheme tail.Plan (records_of bytes) (Err why) → IsStopOf (network_stop why) bytes
stop-network bytes (refused.Fault place code) h = h
stop-network bytes refused.Memory h = tt

pub stop-plan : (bytes : List ℕ) (scheme : Scheme) (count : ℕ) (why : PlanRefused) → ReadsScheme tail.Plan (records_of bytes) (Ok (scheme, count))
    → ReadsPlan count scheme (rest_of bytes count) (Err why) → IsStopOf (plan_stop why) bytes
stop-plan bytes scheme count (plan_refused.Fault place code) h p =
    record { scheme = scheme; count = count; network = has-network bytes scheme count h; fault = p }
stop-plan bytes scheme count plan_refused.Memory h p = tt
