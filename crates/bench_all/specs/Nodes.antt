-- Nodes that supply nothing, each with an artificial drain.
use Rattle.std.specs.Prelude.{ℕ, List, map}
use Rattle.std.specs.List.{range_with_len}
use Rattle.np_frac.specs.Ratio.{Ratio, zero_ratio}
use Rattle.np_model.specs.declared.arc.Ends.{Ends}
use Rattle.np_model.specs.declared.arc.Ends.TheVariants.{Drain}

-- the supply 0 of each of n nodes
abbrev pub supplies : ℕ → List Ratio
supplies n = map (λ _. zero_ratio) (range_with_len 0 n)

-- the artificial arc of each
abbrev pub drains : ℕ → List Ends
drains n = map Drain (range_with_len 0 n)
