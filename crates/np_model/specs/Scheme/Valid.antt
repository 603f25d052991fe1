-- What makes a planning problem valid. (This project's own.)
use Rattle.std.specs.Prelude.{◌≡◌, ℕ, ◌+◌, ◌*◌, ◌^◌, ◌<◌, ◌≤◌, ◌&&◌, Bool, true, length, sum_by, List}
use Rattle.std.specs.List.{All, AllPass, list_all}
use Rattle.std.proofs.Props.{props}
use Rattle.np_frac.specs.Ratio.{Ratio}
use Rattle.np_frac.specs.Amount.{is_amount}
use Rattle.np_model.specs.declared.arc.Upper.{Upper}
use Rattle.np_model.specs.declared.arc.Upper.TheVariants.{Finite, Infinite}
use Rattle.np_model.specs.declared.scheme.FlowKind.{FlowKind}
use Rattle.np_model.specs.declared.scheme.FlowKind.TheVariants.{Link, Hold, Drain, Feed}
use Rattle.np_model.specs.declared.scheme.Flow.{Flow}
use Rattle.np_model.specs.Network.Arcs.{IsAtMost, IsAtMost-prop}
use Rattle.np_model.specs.Scheme.Names.{AreNames, flow_names}
use Rattle.np_model.specs.Scheme.Kinds.{JoinsNodes, HasGain, periods_of, JoinsNodes-prop, HasGain-prop}
use Rattle.np_model.specs.Scheme.Segments.{AreReached, IsConvexFrom, AreReached-prop, IsConvexFrom-prop}

-- the numbers of a flow
abbrev pub is_amount_or_infinite : Upper → Bool
is_amount_or_infinite (Finite u) = is_amount u
is_amount_or_infinite Infinite = true

abbrev pub has_amount_gain : FlowKind → Bool
has_amount_gain (Link from to gain) = is_amount gain
has_amount_gain (Hold node gain) = is_amount gain
has_amount_gain (Drain node) = true
has_amount_gain (Feed node) = true

abbrev pub has_amounts : Flow → Bool
has_amounts flow =
    has_amount_gain flow.kind && is_amount flow.lower && is_amount_or_infinite flow.upper && is_amount flow.cost
    && list_all (λ band. is_amount_or_infinite band.width && is_amount band.slope) flow.bands

-- what is asked of a flow among n nodes
pub record IsSound (n : ℕ) (flow : Flow) : Type 0 where
  pub joins : JoinsNodes n flow.kind
  pub gain : HasGain flow.kind
  pub bounds : IsAtMost flow.lower flow.upper
  pub reached : AreReached flow.upper flow.bands
  pub convex : IsConvexFrom flow.cost flow.bands
  pub amounts : has_amounts flow ≡ true

-- how many arcs the flows have in the expanded network, one for each segment in each period
abbrev pub expanded_arcs : ℕ → List Flow → ℕ
expanded_arcs periods flows = sum_by (λ flow. (1 + length flow.bands) * periods_of periods flow.kind) flows

pub record IsScheme (periods : ℕ) (nodes : List (List ℕ)) (supply : List Ratio) (flows : List Flow) : Type 0 where
  pub some_period : 0 < periods
  pub few_periods : periods ≤ 20000
  pub node_names : AreNames nodes
  pub few_nodes : length nodes * periods ≤ 20000
  pub one_each : length supply ≡ periods * length nodes
  pub amounts : AllPass is_amount supply
  pub flow_names : AreNames (flow_names flows)
  pub sound : All (IsSound (length nodes)) flows
  pub few_flows : length flows < 2 ^ 32
  pub few_arcs : expanded_arcs periods flows ≤ 100000

-- ---- each of these facts has one proof at most

IsSound-prop : (n : ℕ) (flow : Flow) → IsProp (IsSound n flow)
IsSound-prop n flow = hlevel (props, JoinsNodes-prop, HasGain-prop, IsAtMost-prop, AreReached-prop, IsConvexFrom-prop)

pub IsScheme-prop : (periods : ℕ) (nodes : List (List ℕ)) (supply : List Ratio) (flows : List Flow) → IsProp (IsScheme periods nodes supply flows)
IsScheme-prop periods nodes supply flows = hlevel (props, IsSound-prop)
