-- Row A2: the price of an arc, which is its reduced cost (Ahuja, Magnanti and Orlin, Network Flows, chapter 15).
use Rattle.std.specs.Prelude.{ℕ, Result, Ok, Err}
use Rattle.np_frac.specs.Ratio.{Ratio}
use Rattle.np_frac.specs.declared.frac.Past.{Past}
use Rattle.np_model.specs.declared.rows.Overflow.{Overflow}
use Rattle.np_model.specs.declared.rows.Place.TheVariants.{Arc}
use Rattle.np_model.specs.declared.rows.Row.TheVariants.{A2}
use Rattle.np_model.specs.Network.Arcs.{reduced_cost_of, tail_of, head_of}
use Rattle.np_model.specs.Network.Flows.{Network}
use Rattle.np_model.specs.Basis.Graphs.{ends_at, cost_at}

-- what is found, or the operation that overflows, told as one of row A2 at this arc
abbrev pub told_at : ℕ → Result Ratio Past → Result Ratio Overflow
told_at a (Ok r) = Ok r
told_at a (Err past) = Err (record { row = A2; place = Arc a; past = past })

-- the reduced cost of the arc with a number, by the potentials at its tail and at its head
abbrev pub price_at : Network → ℕ → Ratio → Ratio → Result Ratio Overflow
price_at net a first second = told_at a (reduced_cost_of (ends_at net.arcs a) (cost_at net.arcs a) first second)

-- the same, by the potentials of all nodes
abbrev pub price_of : Network → (ℕ → Ratio) → ℕ → Result Ratio Overflow
price_of net potential a = price_at net a (potential (tail_of (ends_at net.arcs a))) (potential (head_of (ends_at net.arcs a)))
