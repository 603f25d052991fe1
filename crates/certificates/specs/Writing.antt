-- The records of the text of a plan, and what of the plan they tell.
use Rattle.std.specs.Prelude.{ℕ, ◌+◌, ◌/◌, ◌%◌, ◌||◌, Bool, None, option_map, List, [], ◌∷◌, ◌++◌, length, map, codes, decimal, IfSome, if◌then◌else◌, Option}
use Rattle.std.specs.List.{All, zip, enumerate_from}
use Rattle.std.specs.Option.{option_to_list}
use Rattle.np_frac.specs.Ratio.{Ratio}
use Rattle.np_frac.specs.Fits.{Fits}
use Rattle.np_frac.specs.Text.{printed}
use Rattle.np_model.specs.declared.scheme.Scheme.{Scheme}
use Rattle.np_model.specs.declared.plan.Verdict.{Verdict}
use Rattle.np_model.specs.declared.plan.Parts.{Parts}
use Rattle.np_model.specs.declared.rows.Place.{Place}
use Rattle.np_model.specs.declared.rows.Place.TheVariants as place
use Rattle.np_model.specs.declared.rows.Overflow.{Overflow}
use Rattle.np_model.specs.declared.log.Entry.{Entry}
use Rattle.np_model.specs.declared.log.Log.{Log}
use Rattle.np_model.specs.declared.plan.Plan.{Plan}
use Rattle.np_model.specs.Scheme.Segments.{Stage}
use Rattle.np_model.specs.Scheme.Plans.{staged}
use Rattle.np_model.specs.Scheme.Names.{name_at, flow_names}
use Rattle.np_model.specs.Scheme.Verdicts.{parts_of, verdict_word, mark_word, row_word, check_row_word}
use Rattle.np_frac.specs.Words.{op_word}

-- ---- records

-- where an operation overflowed: at a node, at an arc, at the turn to the second stage, or at a row of the checker
abbrev pub place_word : Place → List ℕ
place_word (place.Node v) = decimal v
place_word (place.Arc a) = decimal a
place_word place.Turn = codes "turn"
place_word (place.Check row) = check_row_word row

-- the two records at the head
abbrev pub head_rows : Verdict → List (List (List ℕ))
head_rows verdict = (codes "netplan-plan" ∷ codes "1" ∷ []) ∷ (codes "verdict" ∷ verdict_word verdict ∷ []) ∷ []

-- a cost or a gap
abbrev pub amount_row : List ℕ → Ratio → List (List ℕ)
amount_row word amount = word ∷ printed amount ∷ []

-- a number: the arc of a budget, or the pivots before the second stage
abbrev pub number_row : List ℕ → ℕ → List (List ℕ)
number_row word number = word ∷ decimal number ∷ []

-- an operation that overflowed, with its row and its place
abbrev pub past_row : Overflow → List (List ℕ)
past_row overflow =
    codes "past" ∷ row_word overflow.row ∷ place_word overflow.place ∷ op_word overflow.past.op ∷ printed overflow.past.left ∷ printed overflow.past.right ∷ []

-- the amount of a staged arc
abbrev pub staged_row : List ℕ → List (List ℕ) → Stage × Ratio → List (List ℕ)
staged_row word flows (arc, amount) = word ∷ name_at flows arc.flow ∷ decimal arc.period ∷ printed amount ∷ []

-- the amounts of all staged arcs, in order
abbrev pub staged_rows : List ℕ → Scheme → List Ratio → List (List (List ℕ))
staged_rows word scheme amounts = map (staged_row word (flow_names scheme.flows)) (zip (staged scheme) amounts)

-- the price at a place: with n nodes, place (P - 1) * n + i is that of node i in period P
abbrev pub price_row : List (List ℕ) → ℕ × Ratio → List (List ℕ)
price_row nodes (place, price) = codes "price" ∷ name_at nodes (place % length nodes) ∷ decimal (place / length nodes + 1) ∷ printed price ∷ []

-- all prices, in order
abbrev pub price_rows : Scheme → List Ratio → List (List (List ℕ))
price_rows scheme prices = map (price_row scheme.nodes) (enumerate_from 0 prices)

-- a pivot with its number
abbrev pub pivot_row : ℕ × Entry → List (List ℕ)
pivot_row (number, entry) =
    codes "pivot" ∷ decimal number ∷ decimal entry.enter ∷ decimal entry.leave ∷ mark_word entry.leave_at ∷ []

-- the pivots are numbered from 1
abbrev pub log_rows : Log → List (List (List ℕ))
log_rows log =
    option_to_list (option_map (number_row (codes "turned")) log.turned)
    ++ map pivot_row (enumerate_from 1 log.entries)

-- ---- the parts that a verdict prints, in this order

-- a part, where it is printed
abbrev pub part_if : {X : Type 0} → Bool → Option X → Option X
part_if printed part = if printed then part else None

-- a list, where it is printed
abbrev pub list_if : {X : Type 0} → Bool → List X → List X
list_if printed items = if printed then items else []

-- the record of a part, where it is printed
abbrev pub part_rows : {X : Type 0} → (X → List (List ℕ)) → Bool → Option X → List (List (List ℕ))
part_rows row printed part = option_to_list (option_map row (part_if printed part))

-- its cost, its gap, the arc or the operation that overflowed
abbrev pub claim_rows : Parts → Plan → List (List (List ℕ))
claim_rows parts plan =
    part_rows (amount_row (codes "cost")) parts.cost plan.amount
    ++ part_rows (amount_row (codes "gap")) parts.gap plan.amount
    ++ part_rows (number_row (codes "arc")) parts.arc plan.arc
    ++ part_rows past_row parts.overflow plan.overflow

-- its flows, its prices and its ray
abbrev pub shown_rows : Parts → Scheme → Plan → List (List (List ℕ))
shown_rows parts scheme plan =
    list_if parts.flows (staged_rows (codes "flow") scheme plan.flows)
    ++ list_if parts.prices (price_rows scheme plan.prices)
    ++ list_if parts.ray (staged_rows (codes "ray") scheme plan.ray)

-- the records between the head and `end`; the log stands there where it is asked for
abbrev pub inner_rows : Scheme → Plan → Bool → List (List (List ℕ))
inner_rows scheme plan log =
    claim_rows (parts_of plan.verdict) plan ++ shown_rows (parts_of plan.verdict) scheme plan ++ list_if log (log_rows plan.log)

-- all records of the text
abbrev pub plan_rows : Scheme → Plan → Bool → List (List (List ℕ))
plan_rows scheme plan log = head_rows plan.verdict ++ inner_rows scheme plan log ++ (codes "end" ∷ []) ∷ []

-- ---- what the text tells of a plan

-- these parts of it, and the log where it was asked for
abbrev pub told_parts : Parts → Plan → Bool → Plan
told_parts parts plan log = record plan {
  amount = part_if (parts.cost || parts.gap) plan.amount;
  flows = list_if parts.flows plan.flows;
  prices = list_if parts.prices plan.prices;
  ray = list_if parts.ray plan.ray;
  arc = part_if parts.arc plan.arc;
  overflow = part_if parts.overflow plan.overflow;
  log = record { turned = part_if log plan.log.turned; entries = list_if log plan.log.entries };
}

-- those that its verdict prints
abbrev pub told : Plan → Bool → Plan
told plan log = told_parts (parts_of plan.verdict) plan log

-- the amounts and operands of a plan fit fractions
pub record HasFractions (plan : Plan) : Type 0 where
  pub amount : IfSome plan.amount Fits
  pub flows : All Fits plan.flows
  pub prices : All Fits plan.prices
  pub ray : All Fits plan.ray
  pub operands : IfSome plan.overflow (λ overflow. Fits overflow.past.left × Fits overflow.past.right)
