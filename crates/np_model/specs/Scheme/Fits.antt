-- Which plans a scheme can have: the parts that its verdict prints are there, and each list has one entry for each place.
-- (This project's own.)
use Rattle.std.specs.Prelude.{◌≡◌, ◌≢◌, ℕ, ◌<◌, ◌≤◌, ◌||◌, ⊤, IsTrue, IsSome, IfSome, IsSomeAnd, length}
use Rattle.std.specs.List.{All}
use Rattle.np_model.specs.declared.plan.Verdict.{Verdict}
use Rattle.np_model.specs.declared.log.Mark.TheVariants as mark
use Rattle.np_model.specs.declared.rows.Row.{Row}
use Rattle.np_model.specs.declared.rows.Row.TheVariants.{A1, A2, A3, A4, A5, A6, A7, A8}
use Rattle.np_model.specs.declared.rows.Place.{Place}
use Rattle.np_model.specs.declared.rows.Place.TheVariants.{Node, Arc, Turn, Check}
use Rattle.np_model.specs.declared.log.Log.{Log}
use Rattle.np_model.specs.declared.plan.Plan.{Plan}
use Rattle.np_model.specs.declared.scheme.Scheme.{Scheme}
use Rattle.np_model.specs.Scheme.Plans.{staged}
use Rattle.np_model.specs.Scheme.Verdicts.{parts_of}

-- a number of at most nine digits, which a plan text can write
abbrev pub IsShortNumber : ℕ → Type 0
IsShortNumber n = n < 1000000000

pub record LogFits (log : Log) : Type 0 where
  pub turned : IfSome log.turned IsShortNumber
  pub few : length log.entries ≤ 1000000
  pub numbers : All (λ entry. IsShortNumber entry.enter × IsShortNumber entry.leave) log.entries
  pub at_bounds : All (λ entry. entry.leave_at ≢ mark.Basic) log.entries

-- an operation of a residual overflows at a node, one of a reduced cost at an arc, one of the walk at a row of the checker, and any
-- other at the arc that was tried, or for potentials at the turn to the second stage
abbrev pub PlaceFits : Row → Place → Type 0
PlaceFits A1 (Node v) = IsShortNumber v
PlaceFits A2 (Arc a) = IsShortNumber a
PlaceFits A3 (Arc a) = IsShortNumber a
PlaceFits A3 Turn = ⊤
PlaceFits A4 (Arc a) = IsShortNumber a
PlaceFits A5 (Arc a) = IsShortNumber a
PlaceFits A6 (Arc a) = IsShortNumber a
PlaceFits A7 (Arc a) = IsShortNumber a
PlaceFits A7 Turn = ⊤
PlaceFits A8 (Check row) = ⊤
PlaceFits _ _ = ⊥

-- the parts that this verdict prints fit the scheme
pub record FitsAs (verdict : Verdict) (scheme : Scheme) (plan : Plan) : Type 0 where
  pub amount : IsTrue ((parts_of verdict).cost || (parts_of verdict).gap) → IsSome plan.amount
  pub arc : IsTrue (parts_of verdict).arc → IsSomeAnd plan.arc IsShortNumber
  pub overflow : IsTrue (parts_of verdict).overflow → IsSomeAnd plan.overflow (λ overflow. PlaceFits overflow.row overflow.place)
  pub flows : IsTrue (parts_of verdict).flows → length plan.flows ≡ length (staged scheme)
  pub prices : IsTrue (parts_of verdict).prices → length plan.prices ≡ length scheme.supply
  pub ray : IsTrue (parts_of verdict).ray → length plan.ray ≡ length (staged scheme)
  pub log : LogFits plan.log

abbrev pub PlanFits : Scheme → Plan → Type 0
PlanFits scheme plan = FitsAs plan.verdict scheme plan
