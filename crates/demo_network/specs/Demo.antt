-- The demo network: water that is stored, sent on and bought over eight periods. (This project's own.)
use Rattle.std.specs.Prelude.{ℕ, ◌+◌, ◌*◌, ◌/◌, ◌%◌, ◌==◌, pos, ◌-ℤ◌, if◌then◌else◌, List, [], ◌∷◌, ◌++◌, map, codes, decimal}
use Rattle.std.specs.List.{flat_map, range_with_len}
use Rattle.np_frac.specs.Ratio.{Ratio, whole, over_some}
use Rattle.np_model.specs.declared.arc.Upper.TheVariants.{Finite, Infinite}
use Rattle.np_model.specs.declared.scheme.Flow.{Flow}
use Rattle.np_model.specs.declared.scheme.FlowKind.TheVariants.{Link, Hold, Drain, Feed}
use Rattle.np_model.specs.declared.scheme.Scheme.{Scheme}
use Rattle.np_model.specs.Scheme.Parts.{IsOfParts}

abbrev pub amount : ℕ → Ratio
amount n = whole (pos n)

abbrev pub one_half : Ratio
one_half = over_some (pos 1) 2

-- the name of these letters and this number
abbrev pub named : List ℕ → ℕ → List ℕ
named letters k = letters ++ decimal k

-- ---- nodes and supplies

-- the nodes n0, n1 and so on
abbrev pub node_names : ℕ → List (List ℕ)
node_names n = map (named (codes "n")) (range_with_len 0 n)

-- the supply of node k in a period: from -5 to 5
abbrev pub supply_in : ℕ → ℕ → Ratio
supply_in k period = whole (pos ((7 * k + 5 * period) % 11) -ℤ pos 5)

-- that at a place among the supplies of n nodes over eight periods
abbrev pub supply_at : ℕ → ℕ → Ratio
supply_at n place = supply_in (place % n) (place / n + 1)

abbrev pub supplies : ℕ → List Ratio
supplies n = map (supply_at n) (range_with_len 0 (8 * n))

-- ---- flows

-- a link with gain 1 between two nodes, and none where they are the same
abbrev pub link_between : List ℕ → ℕ → ℕ → ℕ → ℕ → List Flow
link_between name from to most cost =
    if from == to then [] else (record { name = name; kind = Link from to (amount 1); lower = amount 0; upper = Finite (amount most); cost = amount cost; bands = [] } ∷ [])

-- half of what is held at node k is lost by the next period
abbrev pub hold_at : ℕ → Flow
hold_at k = record { name = named (codes "h") k; kind = Hold k one_half; lower = amount 0; upper = Finite (amount 8); cost = amount 0; bands = [] }

-- whatever is too much at node k drains away
abbrev pub drain_at : ℕ → Flow
drain_at k = record { name = named (codes "d") k; kind = Drain k; lower = amount 0; upper = Infinite; cost = amount 0; bands = [] }

-- up to 5 units are bought at node k for 20 each, and any more for 30 each
abbrev pub feed_at : ℕ → Flow
feed_at k =
    record { name = named (codes "f") k; kind = Feed k; lower = amount 0; upper = Finite (amount 5); cost = amount 20; bands = record { width = Infinite; slope = amount 30 } ∷ [] }

-- the flows that begin at node k of n: to the next node, to the one seven further, in a ring, and its own
abbrev pub flows_at : ℕ → ℕ → List Flow
flows_at n k =
    link_between (named (codes "a") k) k ((k + 1) % n) 10 (1 + k % 3)
    ++ (link_between (named (codes "b") k) k ((k + 7) % n) 4 2 ++ (hold_at k ∷ drain_at k ∷ feed_at k ∷ []))

abbrev pub flows : ℕ → List Flow
flows n = flat_map (flows_at n) (range_with_len 0 n)

-- ---- the whole

-- the demo network of n nodes over eight periods
abbrev pub IsDemo : ℕ → Scheme → Type 0
IsDemo n scheme = IsOfParts scheme 8 (node_names n) (supplies n) (flows n)
