-- What the records of a plan text claim: each record gives a part of the plan.
use Rattle.std.specs.Prelude.{ℕ, ◌+◌, ◌-◌, ◌*◌, ◌==◌, ◌&&◌, Bool, false, Option, None, List, length, map, codes, if◌then◌else◌}
use Rattle.std.specs.List.{filter_map, range_with_len}
use Rattle.std.specs.Option.{option_map_or}
use Rattle.np_frac.specs.Ratio.{Ratio}
use Rattle.np_frac.specs.Text.{number}
use Rattle.np_records.specs.Names.{place_of}
use Rattle.np_records.specs.Records.{field_of}
use Rattle.np_model.specs.declared.scheme.Scheme.{Scheme}
use Rattle.np_model.specs.declared.log.Entry.{Entry}
use Rattle.np_model.specs.declared.rows.Overflow.{Overflow}
use Rattle.np_model.specs.Scheme.Kinds.{periods_of}
use Rattle.np_records.specs.Rows.{is_kind, whole_in}
use Rattle.certificates.specs.Fields.{fraction_in, overflow_in, entry_in}
use Rattle.np_records.specs.Faults.{found}
use Rattle.np_model.specs.Scheme.Names.{flow_names}

-- ---- what a plan may speak of

-- the periods, the names of the nodes and of the flows, and the last period of each flow
pub record Outline : Type 0 where
  pub periods : ℕ
  pub nodes : List (List ℕ)
  pub flows : List (List ℕ)
  pub last : List ℕ

-- that of a scheme
abbrev pub outline_of : Scheme → Outline
outline_of scheme = record {
  periods = scheme.periods;
  nodes = scheme.nodes;
  flows = flow_names scheme.flows;
  last = map (λ flow. periods_of scheme.periods flow.kind) scheme.flows;
}

-- ---- what one record gives

-- what a record of this kind gives
abbrev pub of_kind : {X : Type 0} → List ℕ → (List (List ℕ) → Option X) → List (List ℕ) → Option X
of_kind word reads r = if is_kind r word then reads r else None

-- the place of a name in a period: of n names, name i in period P stands at (P - 1) * n + i
abbrev pub place_with : ℕ → ℕ → ℕ → ℕ
place_with count period number = (period - 1) * count + number

-- the record names this place
abbrev pub names_place : List (List ℕ) → ℕ → List (List ℕ) → Bool
names_place names place r =
    option_map_or (λ i. place_with (length names) (number (field_of r 2)) i == place) (place_of names (field_of r 1)) false

-- the amount that a record of a kind gives for a place
abbrev pub amount_for : List ℕ → List (List ℕ) → ℕ → List (List ℕ) → Option Ratio
amount_for word names place r = if is_kind r word && names_place names place r then fraction_in (field_of r 3) else None

-- ---- what all records give

-- the amounts that records of a kind give, for each name in each period
abbrev pub amounts_given : List ℕ → List (List ℕ) → ℕ → List (List (List ℕ)) → List (Option Ratio)
amounts_given word names periods rows = map (λ place. found (amount_for word names place) rows) (range_with_len 0 (periods * length names))

-- each part once, an amount or none for each name in each period, and the pivots in order
pub record Claims : Type 0 where
  pub cost : Option Ratio
  pub gap : Option Ratio
  pub arc : Option ℕ
  pub overflow : Option Overflow
  pub flows : List (Option Ratio)
  pub prices : List (Option Ratio)
  pub ray : List (Option Ratio)
  pub turned : Option ℕ
  pub entries : List Entry

-- what these records claim
unfoldable pub claims_of : Outline → List (List (List ℕ)) → Claims
claims_of o rows = record {
  cost = found (of_kind (codes "cost") (λ r. fraction_in (field_of r 1))) rows;
  gap = found (of_kind (codes "gap") (λ r. fraction_in (field_of r 1))) rows;
  arc = found (of_kind (codes "arc") (λ r. whole_in (field_of r 1))) rows;
  overflow = found (of_kind (codes "past") overflow_in) rows;
  flows = amounts_given (codes "flow") o.flows o.periods rows;
  prices = amounts_given (codes "price") o.nodes o.periods rows;
  ray = amounts_given (codes "ray") o.flows o.periods rows;
  turned = found (of_kind (codes "turned") (λ r. whole_in (field_of r 1))) rows;
  entries = filter_map (of_kind (codes "pivot") entry_in) rows;
}
