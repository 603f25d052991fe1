-- The balance of a node as a sum over arcs.
use Rattle.std.specs.Prelude.{◌≡◌, ℕ, List}
use Rattle.std.specs.List.{zip}
use Rattle.np_frac.specs.Ratio.{Ratio, ◌*ᵣ◌, total}
use Rattle.np_frac.proofs.Sums.{total_zip_map}
use Rattle.np_model.specs.declared.arc.NetArc.{NetArc}
use Rattle.np_model.specs.Network.Arcs.{coefficient}
use Rattle.np_model.specs.Network.Flows.{balance}

-- what amounts take out of a node, over arcs
abbrev pub taken : List NetArc → List Ratio → ℕ → Ratio
taken arcs x v = total (λ (a, amount). coefficient a.ends v *ᵣ amount) (zip arcs x)

pub balance-is : (arcs : List NetArc) (x : List Ratio) (v : ℕ) → balance arcs x v ≡ taken arcs x v
balance-is arcs x v = total_zip_map (λ (ends, amount). coefficient ends v *ᵣ amount) (λ (a : NetArc). a.ends) arcs x
