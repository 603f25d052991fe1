-- The record of a flow is taken, and adds the flow without its bands.
use Rattle.std.specs.Prelude.{◌≡◌, ℕ, ◌+◌, ◌<◌, ◌&&◌, Bool, true, false, None, List, [], ◌∷◌, ◌++◌, length, codes}
use Rattle.std.specs.List.{IsDistinct, list_all}
use Rattle.std.specs.Str.{bytes_eq}
use Rattle.std.proofs.Common.{refl}
use Rattle.np_frac.specs.Amount.{amount_of, is_amount}
use Rattle.np_records.specs.Records.{field_of}
use Rattle.np_model.specs.declared.scheme.FlowKind.{FlowKind}
use Rattle.np_model.specs.declared.scheme.FlowKind.TheVariants.{Link, Hold, Drain, Feed}
use Rattle.np_model.specs.declared.scheme.Flow.{Flow}
use Rattle.np_model.specs.Scheme.Valid.{IsSound, has_amounts, has_amount_gain, is_amount_or_infinite}
use Rattle.np_model.specs.Scheme.Kinds.{JoinsNodes, HasGain, periods_of}
use Rattle.net_csv.specs.Fields.{amount_fault, upper_fault, gain_fault, new_fault, used_fault, upper_of}
use Rattle.np_records.specs.Names.{place_in}
use Rattle.np_records.specs.Rows.{is_kind}
use Rattle.net_csv.specs.Network.{is_flow, kind_in, bounds_place}
use Rattle.net_csv.specs.Faults.{head_fault, flow_fault, arcs_fault}
use Rattle.np_model.specs.Network.Arcs.{is_at_most}
use Rattle.net_csv.specs.Steps.Tables.{Tables, with_record, flow_added}
use Rattle.net_csv.specs.AmountText.{amount_text}
use Rattle.np_model.specs.Scheme.Names.{name_at}
use Rattle.net_csv.specs.Writing.{upper_text, ends_row, flow_row}
use Rattle.net_csv.proofs.AmountTexts.{amount_text-value}
use Rattle.np_records.proofs.Places.{place-own, names-differ}
use Rattle.net_csv.proofs.WrittenFields.{amount-fine, gain-fine, upper-fine, upper-value, used-fine, at_most}
use Rattle.net_csv.proofs.Runs.{IsStep}

-- ---- a record without a fault at its head, by its fields

-- the three numbers of a flow
pub record NumbersFine (l u c : List ℕ) : Type 0 where
  pub lower : amount_fault l ≡ None
  pub upper : upper_fault u ≡ None
  pub cost : amount_fault c ≡ None
  pub bounds : is_at_most (amount_of l) (upper_of u) ≡ true

link-head : (nodes names : List (List ℕ)) (name f t g l u c : List ℕ) → new_fault names name ≡ None → used_fault nodes f ≡ None → used_fault nodes t ≡ None → gain_fault g ≡ None
    → bytes_eq f t ≡ false → NumbersFine l u c → head_fault nodes names (codes "arc" ∷ name ∷ f ∷ t ∷ g ∷ l ∷ u ∷ c ∷ []) ≡ None
link-head nodes names name f t g l u c new from to gain apart h = rw (new, from, to, gain, h.lower, h.upper, h.cost, apart, h.bounds) refl

hold-head : (nodes names : List (List ℕ)) (name f g l u c : List ℕ) → new_fault names name ≡ None → used_fault nodes f ≡ None → gain_fault g ≡ None
    → NumbersFine l u c → head_fault nodes names (codes "hold" ∷ name ∷ f ∷ g ∷ l ∷ u ∷ c ∷ []) ≡ None
hold-head nodes names name f g l u c new from gain h = rw (new, from, gain, h.lower, h.upper, h.cost, h.bounds) refl

drain-head : (nodes names : List (List ℕ)) (name f l u c : List ℕ) → new_fault names name ≡ None → used_fault nodes f ≡ None
    → NumbersFine l u c → head_fault nodes names (codes "drain" ∷ name ∷ f ∷ l ∷ u ∷ c ∷ []) ≡ None
drain-head nodes names name f l u c new from h = rw (new, from, h.lower, h.upper, h.cost, h.bounds) refl

feed-head : (nodes names : List (List ℕ)) (name f l u c : List ℕ) → new_fault names name ≡ None → used_fault nodes f ≡ None
    → NumbersFine l u c → head_fault nodes names (codes "feed" ∷ name ∷ f ∷ l ∷ u ∷ c ∷ []) ≡ None
feed-head nodes names name f l u c new from h = rw (new, from, h.lower, h.upper, h.cost, h.bounds) refl

-- ---- the record of a flow

-- what is asked of it, by its parts
pub record IsWritten (nodes names : List (List ℕ)) (name : List ℕ) (kind : FlowKind) (l u c : List ℕ) : Type 0 where
  pub distinct : IsDistinct bytes_eq nodes
  pub new : new_fault names name ≡ None
  pub joins : JoinsNodes (length nodes) kind
  pub gain : HasGain kind
  pub gain_amount : has_amount_gain kind ≡ true
  pub numbers : NumbersFine l u c

node-used : (nodes : List (List ℕ)) (k : ℕ) → IsDistinct bytes_eq nodes → k < length nodes → used_fault nodes (name_at nodes k) ≡ None
node-used nodes k d h = used-fine nodes (name_at nodes k) k (place-own nodes k d h)

node-place : (nodes : List (List ℕ)) (k : ℕ) → IsDistinct bytes_eq nodes → k < length nodes → place_in nodes (name_at nodes k) ≡ k
node-place nodes k d h = rw (place-own nodes k d h) refl

-- what the record is
pub record IsRow (nodes names : List (List ℕ)) (name : List ℕ) (kind : FlowKind) (l u c : List ℕ) (r : List (List ℕ)) : Type 0 where
  pub named : field_of r 1 ≡ name
  pub goes : is_kind r (codes "end") ≡ false
  pub no_node : is_kind r (codes "node") ≡ false
  pub no_supply : is_kind r (codes "supply") ≡ false
  pub flow : is_flow r ≡ true
  pub joins : kind_in nodes r ≡ kind
  pub lower : field_of r (bounds_place r) ≡ l
  pub upper : field_of r (bounds_place r + 1) ≡ u
  pub cost : field_of r (bounds_place r + 2) ≡ c
  pub head : head_fault nodes names r ≡ None

pub row-of : (nodes names : List (List ℕ)) (kind : FlowKind) (name l u c : List ℕ) → IsWritten nodes names name kind l u c → IsRow nodes names name kind l u c (ends_row nodes name kind ++ l ∷ u ∷ c ∷ [])
row-of nodes names (Link from to gain) name l u c h =
    let d = h.distinct in
    let joins = h.joins in
    record {
      named = refl;
      goes = refl;
      no_node = refl;
      no_supply = refl;
      flow = refl;
      joins = rw (node-place nodes from d joins.0, node-place nodes to d joins.1, amount_text-value gain h.gain_amount) refl;
      lower = refl;
      upper = refl;
      cost = refl;
      head = link-head nodes names name (name_at nodes from) (name_at nodes to) (amount_text gain) l u c h.new (node-used nodes from d joins.0) (node-used nodes to d joins.1)
          (gain-fine gain h.gain_amount h.gain) (names-differ nodes from to d joins.0 joins.1 joins.2) h.numbers;
    }
row-of nodes names (Hold node gain) name l u c h =
    record {
      named = refl;
      goes = refl;
      no_node = refl;
      no_supply = refl;
      flow = refl;
      joins = rw (node-place nodes node h.distinct h.joins, amount_text-value gain h.gain_amount) refl;
      lower = refl;
      upper = refl;
      cost = refl;
      head = hold-head nodes names name (name_at nodes node) (amount_text gain) l u c h.new (node-used nodes node h.distinct h.joins) (gain-fine gain h.gain_amount h.gain) h.numbers;
    }
row-of nodes names (Drain node) name l u c h =
    record {
      named = refl;
      goes = refl;
      no_node = refl;
      no_supply = refl;
      flow = refl;
      joins = rw (node-place nodes node h.distinct h.joins) refl;
      lower = refl;
      upper = refl;
      cost = refl;
      head = drain-head nodes names name (name_at nodes node) l u c h.new (node-used nodes node h.distinct h.joins) h.numbers;
    }
row-of nodes names (Feed node) name l u c h =
    record {
      named = refl;
      goes = refl;
      no_node = refl;
      no_supply = refl;
      flow = refl;
      joins = rw (node-place nodes node h.distinct h.joins) refl;
      lower = refl;
      upper = refl;
      cost = refl;
      head = feed-head nodes names name (name_at nodes node) l u c h.new (node-used nodes node h.distinct h.joins) h.numbers;
    }

-- ---- a flow of a scheme

pub and-true : (a b : Bool) → (a && b) ≡ true → (a ≡ true) × (b ≡ true)
and-true true b h = (refl, h)
and-true false b h = absurd (cc h)

-- the amounts of a flow, one by one
pub record AreAmounts (flow : Flow) : Type 0 where
  pub gain : has_amount_gain flow.kind ≡ true
  pub lower : is_amount flow.lower ≡ true
  pub upper : is_amount_or_infinite flow.upper ≡ true
  pub cost : is_amount flow.cost ≡ true
  pub bands : list_all (λ band. is_amount_or_infinite band.width && is_amount band.slope) flow.bands ≡ true

pub amounts-each : (flow : Flow) → has_amounts flow ≡ true → AreAmounts flow
amounts-each flow h =
    let bands = and-true _ _ h in
    let cost = and-true _ _ bands.0 in
    let upper = and-true _ _ cost.0 in
    let lower = and-true _ _ upper.0 in
    record { gain = lower.0; lower = lower.1; upper = upper.1; cost = cost.1; bands = bands.1 }

flow-written : (nodes names : List (List ℕ)) (flow : Flow) → IsDistinct bytes_eq nodes → IsSound (length nodes) flow → new_fault names flow.name ≡ None
    → IsWritten nodes names flow.name flow.kind (amount_text flow.lower) (upper_text flow.upper) (amount_text flow.cost)
flow-written nodes names flow d s new =
    let amounts = amounts-each flow s.amounts in
    record {
      distinct = d;
      new = new;
      joins = s.joins;
      gain = s.gain;
      gain_amount = amounts.gain;
      numbers = record {
        lower = amount-fine flow.lower amounts.lower;
        upper = upper-fine flow.upper amounts.upper;
        cost = amount-fine flow.cost amounts.cost;
        bounds = rw (amount_text-value flow.lower amounts.lower, upper-value flow.upper amounts.upper) (at_most flow.lower flow.upper s.bounds);
      };
    }

-- the flow without its bands
abbrev pub bare : Flow → Flow
bare flow = record flow { bands = [] }

pub flow-step : (t : Tables) (flow : Flow) → IsDistinct bytes_eq t.nodes → IsSound (length t.nodes) flow → new_fault t.names flow.name ≡ None
    → arcs_fault (t.arcs + periods_of t.periods flow.kind) ≡ None
    → IsStep t (flow_row t.nodes flow) × (with_record t (flow_row t.nodes flow) ≡ flow_added t (bare flow))
flow-step t flow d s new room =
    let amounts = amounts-each flow s.amounts in
    let r = flow_row t.nodes flow in
    let row = row-of t.nodes t.names flow.kind flow.name (amount_text flow.lower) (upper_text flow.upper) (amount_text flow.cost) (flow-written t.nodes t.names flow d s new) in
    let fault : flow_fault t.periods t.nodes t.names t.arcs r ≡ None = rw (row.head, row.joins) room in (
      record { goes = row.goes; right = rw (row.no_node, row.no_supply, row.flow) fault },
      rw (row.no_node, row.no_supply, row.flow, row.named, row.joins, row.lower, row.upper, row.cost, amount_text-value flow.lower amounts.lower, upper-value flow.upper amounts.upper, amount_text-value flow.cost amounts.cost) refl,
    )
