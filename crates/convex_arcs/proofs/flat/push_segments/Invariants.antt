use Rattle.std.proofs.Common.{◌≡◌, ◌∷◌, ◌++◌, take, map}
use Rattle.convex_arcs.specs.Segments.{first_arc, band_arc}
use Rattle.convex_arcs.proofs.flat.push_segments.Given as goal

abbrev pub invariant-loop-band : goal.invariant-loop-band
invariant-loop-band l = l.arcs.items ≡ l.fn.arcs.items ++ (first_arc l.staged ∷ map (band_arc l.staged.ends) (take l.band-index l.band-items))
