-- Ends of arcs among nodes.
use Rattle.std.specs.Prelude.{◌⊎◌, ℕ, List}
use Rattle.gain_graphs.specs.Arcs.{IsIn}
use Rattle.np_model.specs.declared.arc.Ends.{Ends}
use Rattle.np_model.specs.Network.Arcs.{tail_of, head_of}

-- an end of the arc is one of these nodes
abbrev pub HasEnd : List ℕ → Ends → Type 0
HasEnd nodes ends = IsIn (tail_of ends) nodes ⊎ IsIn (head_of ends) nodes
