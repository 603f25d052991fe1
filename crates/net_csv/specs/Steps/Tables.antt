-- What the reader keeps of the records of the body that it has read, and what each record adds.
use Rattle.std.specs.Prelude.{Bool, true, false, ◌≡◌, ℕ, ◌+◌, ◌*◌, ◌^◌, ◌<◌, ◌≤◌, ⊤, Option, Some, None, IfSome, Result, Ok, Err, List, [], ◌∷◌, ◌++◌, length, map, set, slice_get, codes, if◌then◌else◌}
use Rattle.std.specs.List.{All, range_with_len}
use Rattle.std.specs.Option.{option_map_or}
use Rattle.np_frac.specs.Amount.{amount_of, is_amount}
use Rattle.np_records.specs.Records.{field_of}
use Rattle.np_model.specs.declared.scheme.FlowKind.{FlowKind}
use Rattle.np_model.specs.declared.scheme.Band.{Band}
use Rattle.np_model.specs.declared.scheme.Flow.{Flow}
use Rattle.np_model.specs.declared.scheme.Scheme.{Scheme}
use Rattle.np_model.specs.Scheme.Names.{AreNames}
use Rattle.np_model.specs.Scheme.Valid.{IsSound, expanded_arcs}
use Rattle.np_model.specs.Scheme.Kinds.{periods_of}
use Rattle.net_csv.specs.declared.refused.Code.{Code}
use Rattle.net_csv.specs.declared.refused.Refused.{Refused}
use Rattle.net_csv.specs.declared.refused.Refused.TheVariants as refused
use Rattle.net_csv.specs.declared.refused.Stop.{Stop}
use Rattle.net_csv.specs.declared.refused.Stop.TheVariants as stop
use Rattle.net_csv.specs.declared.given.Given.{Given}
use Rattle.net_csv.specs.declared.draft.Head.{Head}
use Rattle.net_csv.specs.declared.numbers.Numbers.{Numbers}
use Rattle.net_csv.specs.Fields.{fields_fault, upper_of, period_of}
use Rattle.np_records.specs.Names.{place_in}
use Rattle.np_records.specs.Rows.{is_kind}
use Rattle.net_csv.specs.Network.{is_flow, kind_in, bounds_place, defined_nodes, defined_flows, supplies_of, supply_from, flows_of}
use Rattle.net_csv.specs.Faults.{record_fault, band_of}

pub record Tables : Type 0 where
  pub periods : ℕ
  pub nodes : List (List ℕ)
  pub names : List (List ℕ)
  pub supplies : List Given
  pub flows : List Flow
  pub arcs : ℕ

-- the tables of these records
unfoldable pub tables_of : ℕ → List (List (List ℕ)) → Tables
tables_of periods rows = record {
  periods = periods;
  nodes = defined_nodes rows;
  names = defined_flows rows;
  supplies = supplies_of rows;
  flows = flows_of rows;
  arcs = expanded_arcs periods (flows_of rows);
}

-- there is a name for each flow, and not too much of anything
pub record HasRoom (t : Tables) : Type 0 where
  pub one_each : length t.names ≡ length t.flows
  pub periods : t.periods ≤ 20000
  pub nodes : length t.nodes ≤ 20000
  pub arcs : t.arcs ≤ 100000

-- an amount is given to one of so many nodes, in one of so many periods or in each
pub record IsGiven (nodes periods : ℕ) (given : Given) : Type 0 where
  pub node : given.node < nodes
  pub period : IfSome given.period (λ p. (1 ≤ p) × (p ≤ periods))
  pub amount : is_amount given.amount ≡ true

-- names are names and distinct, flows sound, supplies given to nodes, and nodes few
pub record AreKept (t : Tables) : Type 0 where
  pub nodes : AreNames t.nodes
  pub flow_names : AreNames t.names
  pub same_names : map (λ (f : Flow). f.name) t.flows ≡ t.names
  pub sound : All (IsSound (length t.nodes)) t.flows
  pub supplies : All (IsGiven (length t.nodes) t.periods) t.supplies
  pub few_nodes : length t.nodes * t.periods ≤ 20000

-- and besides so many periods, flows and arcs that they are those of a scheme
pub record IsReady (t : Tables) : Type 0 where
  pub kept : AreKept t
  pub some_period : 0 < t.periods
  pub few_periods : t.periods ≤ 20000
  pub few_flows : length t.flows < 2 ^ 32
  pub few_arcs : expanded_arcs t.periods t.flows ≤ 100000

-- the scheme of these tables
pub record IsMadeOf (t : Tables) (scheme : Scheme) : Type 0 where
  pub periods : scheme.periods ≡ t.periods
  pub nodes : scheme.nodes ≡ t.nodes
  pub supply : scheme.supply ≡ map (supply_from (length t.nodes) t.supplies) (range_with_len 0 (t.periods * length t.nodes))
  pub flows : scheme.flows ≡ t.flows

-- the tables of no record
abbrev pub no_tables : ℕ → Tables
no_tables periods = record { periods = periods; nodes = []; names = []; supplies = []; flows = []; arcs = 0 }

-- ---- how a record was taken

-- it stopped for this fault, or memory ran out
abbrev pub StopsFor : Stop → Option Code → Type 0
StopsFor (stop.Fault c) fault = fault ≡ Some c
StopsFor stop.Memory fault = ⊤

-- without a fault the tables are these; else it stopped
abbrev pub TakesRecord : {U : Type 0} → Result U Stop → Option Code → Tables → Tables → Type 0
TakesRecord (Ok done) fault new made = (fault ≡ None) × (new ≡ made)
TakesRecord (Err why) fault new made = StopsFor why fault

-- ---- a record more

abbrev pub with_node : Tables → List (List ℕ) → Tables
with_node t r = record t { nodes = t.nodes ++ field_of r 1 ∷ [] }

abbrev pub supply_of : List (List ℕ) → List (List ℕ) → Given
supply_of nodes r = record { node = place_in nodes (field_of r 1); period = period_of (field_of r 2); amount = amount_of (field_of r 3) }

abbrev pub with_supply : Tables → List (List ℕ) → Tables
with_supply t r = record t { supplies = t.supplies ++ supply_of t.nodes r ∷ [] }

abbrev pub numbers_of : List (List ℕ) → ℕ → Numbers
numbers_of r place = record { lower = amount_of (field_of r place); upper = upper_of (field_of r (place + 1)); cost = amount_of (field_of r (place + 2)) }

abbrev pub head_of : List (List ℕ) → List (List ℕ) → Head
head_of nodes r = record { kind = kind_in nodes r; numbers = numbers_of r (bounds_place r) }

-- a flow without bands
abbrev pub plain_flow : List ℕ → FlowKind → Numbers → Flow
plain_flow name kind numbers = record { name = name; kind = kind; lower = numbers.lower; upper = numbers.upper; cost = numbers.cost; bands = [] }

abbrev pub flow_added : Tables → Flow → Tables
flow_added t flow =
    record t { names = t.names ++ flow.name ∷ []; flows = t.flows ++ flow ∷ []; arcs = t.arcs + periods_of t.periods flow.kind }

abbrev pub with_flow : Tables → List (List ℕ) → Tables
with_flow t r = flow_added t (plain_flow (field_of r 1) (kind_in t.nodes r) (numbers_of r (bounds_place r)))

abbrev pub banded : Flow → Band → Flow
banded flow band = record flow { bands = flow.bands ++ band ∷ [] }

abbrev pub band_added : Tables → ℕ → Band → Flow → Tables
band_added t place band flow = record t { flows = set t.flows place (banded flow band); arcs = t.arcs + periods_of t.periods flow.kind }

abbrev pub with_piece : Tables → List (List ℕ) → Tables
with_piece t r =
    let place = place_in t.names (field_of r 1) in
    option_map_or (band_added t place (band_of r)) (slice_get t.flows place) t

abbrev pub with_record : Tables → List (List ℕ) → Tables
with_record t r =
    if is_kind r (codes "node") then with_node t r
    else if is_kind r (codes "supply") then with_supply t r
    else if is_flow r then with_flow t r
    else with_piece t r

-- ---- a record of a text, which may be `end`

-- what was found at a record with this number: whether it is `end`, or the fault
abbrev pub TakesRow : Result Bool Refused → Tables → Tables → List (List ℕ) → ℕ → Type 0
TakesRow (Ok true) old new r place = (is_kind r (codes "end") ≡ true) × (fields_fault 1 r ≡ None) × (new ≡ old)
TakesRow (Ok false) old new r place =
    (is_kind r (codes "end") ≡ false) × (record_fault old.periods old.nodes old.names old.arcs old.flows r ≡ None) × (new ≡ with_record old r)
TakesRow (Err (refused.Fault at c)) old new r place =
    (at ≡ place)
    × ((if is_kind r (codes "end") then fields_fault 1 r else record_fault old.periods old.nodes old.names old.arcs old.flows r) ≡ Some c)
TakesRow (Err refused.Memory) old new r place = ⊤
