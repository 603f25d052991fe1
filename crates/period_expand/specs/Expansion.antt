-- What holds of each expansion, whichever scheme it is of. (This project's own.)
use Rattle.std.specs.Prelude.{ℕ, ◌+◌, ◌≤◌, List, length, sum_by}
use Rattle.std.specs.List.{All}
use Rattle.std.proofs.Props.{props}
use Rattle.np_frac.specs.Ratio.{Ratio}
use Rattle.np_model.specs.Scheme.Segments.{Stage, IsValid, IsConvexFrom-prop, AreReached, AreReached-prop}
use Rattle.np_model.specs.Network.Arcs.{IsAtMost-prop, AreNodes, AreNodes-prop, IsGaining, IsGaining-prop}

-- among n nodes: its ends, its gain, its bounds and slopes, and that each band begins at a finite end
pub record IsSoundStage (n : ℕ) (s : Stage) : Type 0 where
  pub joins : AreNodes n s.ends
  pub gain : IsGaining s.ends
  pub convex : IsValid s
  pub reached : AreReached s.upper s.bands

-- how many segments a stage has
abbrev pub segment_count : Stage → ℕ
segment_count s = 1 + length s.bands

pub record IsExpansion (supply : List Ratio) (stages : List Stage) : Type 0 where
  pub few_nodes : length supply ≤ 20000
  pub few_segments : sum_by segment_count stages ≤ 100000
  pub sound : All (IsSoundStage (length supply)) stages

-- ---- each of these facts has one proof at most

IsSoundStage-prop : (n : ℕ) (s : Stage) → IsProp (IsSoundStage n s)
IsSoundStage-prop n s = hlevel (props, AreNodes-prop, IsGaining-prop, IsAtMost-prop, IsConvexFrom-prop, AreReached-prop)

pub IsExpansion-prop : (supply : List Ratio) (stages : List Stage) → IsProp (IsExpansion supply stages)
IsExpansion-prop supply stages = hlevel (props, IsSoundStage-prop)
