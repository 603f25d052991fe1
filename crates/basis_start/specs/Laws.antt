-- The law of residuals.
use Rattle.std.specs.Prelude.{◌≡◌, ℕ, Ok}
use Rattle.np_frac.specs.Ratio.{Ratio}
use Rattle.np_frac.specs.Fits.{Fits}
use Rattle.np_model.specs.Network.Flows.{Network, at}
use Rattle.np_model.specs.Basis.Starts.{residual}
use Rattle.np_model.specs.Rows.Arcs.{residual_of}

-- what the operations of row A1 find is the residual, and fits
abbrev pub ResidualsAreExact : Type 0
ResidualsAreExact = (net : Network) (v : ℕ) (r : Ratio) → residual_of net.arcs v (at net.supply v) ≡ Ok r → r ≡ residual net v

abbrev pub ResidualsFitWhereFound : Type 0
ResidualsFitWhereFound =
    (net : Network) (v : ℕ) (r : Ratio) → Fits (at net.supply v) → residual_of net.arcs v (at net.supply v) ≡ Ok r → Fits r
