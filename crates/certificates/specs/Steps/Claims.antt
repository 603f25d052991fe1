-- What taking one record does to the claims.
use Rattle.std.specs.Prelude.{◌≡◌, ℕ, ◌*◌, ◌^◌, ◌<◌, ◌≤◌, ⊤, Option, Some, None, Result, Ok, Err, List, ◌++◌, length, set, codes, if◌then◌else◌}
use Rattle.np_frac.specs.Ratio.{Ratio}
use Rattle.np_records.specs.Records.{field_of}
use Rattle.np_records.specs.Rows.{is_kind, whole_in}
use Rattle.certificates.specs.declared.refused.PlanCode.{PlanCode}
use Rattle.certificates.specs.declared.refused.Stop.{Stop}
use Rattle.certificates.specs.declared.refused.Stop.TheVariants as stop
use Rattle.certificates.specs.Fields.{fraction_in, overflow_in, entry_in}
use Rattle.certificates.specs.Claims.{Outline, Claims}
use Rattle.certificates.specs.Faults.{place_named}
use Rattle.std.specs.Option.{option_to_list}
use Rattle.std.specs.List.{All}

-- there is a last period for each flow, and not too much of anything
pub record IsOutline (o : Outline) : Type 0 where
  pub few_nodes : length o.nodes < 2 ^ 32
  pub few_flows : length o.flows < 2 ^ 32
  pub one_each : length o.last ≡ length o.flows
  pub within : All (λ last. last ≤ o.periods) o.last
  pub few_periods : o.periods ≤ 20000

-- there is a place for each name in each period, and not too many pivots
pub record HasAmountPlaces (o : Outline) (claims : Claims) : Type 0 where
  pub flows : length claims.flows ≡ o.periods * length o.flows
  pub prices : length claims.prices ≡ o.periods * length o.nodes
  pub ray : length claims.ray ≡ o.periods * length o.flows
  pub few : length claims.entries ≤ 1000000

-- without a fault the value is this one now
abbrev pub Becomes : {U X : Type 0} → Result U PlanCode → Option PlanCode → X → X → Type 0
Becomes (Ok done) fault new made = (fault ≡ None) × (new ≡ made)
Becomes (Err c) fault new made = fault ≡ Some c

-- it stopped for this fault, or memory ran out
abbrev pub StopsFor : Stop → Option PlanCode → Type 0
StopsFor (stop.Fault c) fault = fault ≡ Some c
StopsFor stop.Memory fault = ⊤

-- without a fault the claims are these; else it stopped
abbrev pub ClaimsBecome : {U : Type 0} → Result U Stop → Option PlanCode → Claims → Claims → Type 0
ClaimsBecome (Ok done) fault new made = (fault ≡ None) × (new ≡ made)
ClaimsBecome (Err why) fault new made = StopsFor why fault

-- the amounts with that of a record more
abbrev pub with_amount : List (List ℕ) → List (Option Ratio) → List (List ℕ) → List (Option Ratio)
with_amount names given r = set given (place_named names r) (fraction_in (field_of r 3))

-- a part after a record, which changes it where it is of this kind
abbrev pub part_after : {X : Type 0} → List ℕ → List (List ℕ) → X → X → X
part_after word r new old = if is_kind r word then new else old

-- the claims with those of a record more
abbrev pub with_record : Outline → Claims → List (List ℕ) → Claims
with_record o claims r = record {
  cost = part_after (codes "cost") r (fraction_in (field_of r 1)) claims.cost;
  gap = part_after (codes "gap") r (fraction_in (field_of r 1)) claims.gap;
  arc = part_after (codes "arc") r (whole_in (field_of r 1)) claims.arc;
  overflow = part_after (codes "past") r (overflow_in r) claims.overflow;
  flows = part_after (codes "flow") r (with_amount o.flows claims.flows r) claims.flows;
  prices = part_after (codes "price") r (with_amount o.nodes claims.prices r) claims.prices;
  ray = part_after (codes "ray") r (with_amount o.flows claims.ray r) claims.ray;
  turned = part_after (codes "turned") r (whole_in (field_of r 1)) claims.turned;
  entries = part_after (codes "pivot") r (claims.entries ++ option_to_list (entry_in r)) claims.entries;
}
