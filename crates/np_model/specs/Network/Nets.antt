-- What makes a plain network valid. (This project's own.)
use Rattle.std.specs.Prelude.{ℕ, ◌≤◌, length, List}
use Rattle.std.specs.List.{All}
use Rattle.std.proofs.Props.{props}
use Rattle.np_frac.specs.Ratio.{Ratio}
use Rattle.np_model.specs.declared.arc.NetArc.{NetArc}
use Rattle.np_model.specs.Network.Arcs.{AreNodes, IsGaining, IsAtMost, AreNodes-prop, IsGaining-prop, IsAtMost-prop}

-- what is asked of an arc among n nodes
pub record IsSoundArc (n : ℕ) (a : NetArc) : Type 0 where
  pub joins : AreNodes n a.ends
  pub gain : IsGaining a.ends
  pub bounds : IsAtMost a.lower a.upper

pub record IsNet (supply : List Ratio) (arcs : List NetArc) : Type 0 where
  pub few_nodes : length supply ≤ 20000
  pub few_arcs : length arcs ≤ 100000
  pub sound : All (IsSoundArc (length supply)) arcs

-- ---- each of these facts has one proof at most

IsSoundArc-prop : (n : ℕ) (a : NetArc) → IsProp (IsSoundArc n a)
IsSoundArc-prop n a = hlevel (props, AreNodes-prop, IsGaining-prop, IsAtMost-prop)

pub IsNet-prop : (supply : List Ratio) (arcs : List NetArc) → IsProp (IsNet supply arcs)
IsNet-prop supply arcs = hlevel (props, IsSoundArc-prop)
