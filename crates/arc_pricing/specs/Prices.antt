-- Tests of the arcs that may enter by their prices.
use Rattle.std.specs.Prelude.{ℕ, ◌&&◌, nat_lt, Bool, false}
use Rattle.np_frac.specs.Ratio.{Ratio, zero_ratio, is_below}
use Rattle.np_model.specs.declared.log.Mark.{Mark}
use Rattle.np_model.specs.declared.log.Mark.TheVariants.{Lower, Upper, Basic}
use Rattle.np_model.specs.Network.Arcs.{is_under}
use Rattle.np_model.specs.Network.Flows.{Network}
use Rattle.np_model.specs.Basis.Graphs.{arc_at}
use Rattle.np_model.specs.Basis.States.{Values, price}

-- the test of `Gains`
abbrev pub gains : Mark → Ratio → Bool
gains Lower r = is_below r zero_ratio
gains Upper r = is_below zero_ratio r
gains Basic r = false

-- the test of `IsOpen`
abbrev pub is_open : Network → ℕ → ℕ → Bool
is_open net real a = nat_lt a real && is_under (arc_at net.arcs a).lower (arc_at net.arcs a).upper

-- the test of `IsEligible`
abbrev pub is_eligible : Network → ℕ → Values → ℕ → Bool
is_eligible net real s a = is_open net real a && gains (s.mark a) (price s.potential (arc_at net.arcs a))
