-- What shows amounts of staged arcs least, that there are none, or that none are least. (This project's own.)
use Rattle.std.specs.Prelude.{◌≡◌, length, map, List}
use Rattle.std.specs.List.{All, zip}
use Rattle.np_frac.specs.Ratio.{Ratio, zero_ratio, ◌≤ᵣ◌, ◌<ᵣ◌, total}
use Rattle.np_model.specs.declared.arc.Ends.{Ends}
use Rattle.np_model.specs.Network.Arcs.{IsAtMost, IsUnder}
use Rattle.np_model.specs.Network.Flows.{Network, Feasible}
use Rattle.np_model.specs.Network.Duality.{reduced, gap, Impossible, Ray}
use Rattle.np_model.specs.Scheme.Segments.{Stage, Segment, segments, cost_at, hull, IsValid}

abbrev pub hull_net : List Ratio → List Stage → Network
hull_net supply stages = record { supply = supply; arcs = map hull stages }

-- balance and bounds are those of the hulls
abbrev pub StagesFeasible : List Ratio → List Stage → List Ratio → Type 0
StagesFeasible supply stages x = Feasible (hull_net supply stages) x

-- the convex cost of the amounts
abbrev pub stages_cost : List Stage → List Ratio → Ratio
stages_cost stages x = total (λ (s, amount). cost_at s amount) (zip stages x)

-- no feasible list of ratios costs less
pub record StagesLeast (supply : List Ratio) (stages : List Stage) (x : List Ratio) : Type 0 where
  pub feasible : StagesFeasible supply stages x
  pub least : (y : List Ratio) → StagesFeasible supply stages y → stages_cost stages x ≤ᵣ stages_cost stages y

-- the reduced cost is not above 0 where the amount lies in the segment above its start, and not below 0 where it lies in it below its end
abbrev pub IsKink : List Ratio → Ends → Ratio → Segment → Type 0
IsKink p ends x g =
    (g.start <ᵣ x → IsAtMost x g.end → reduced p ends g.slope ≤ᵣ zero_ratio)
    × (g.start ≤ᵣ x → IsUnder x g.end → zero_ratio ≤ᵣ reduced p ends g.slope)

-- complementary slackness by segments: these potentials show these amounts optimal
pub record StagesShow (supply : List Ratio) (stages : List Stage) (p x : List Ratio) : Type 0 where
  pub one_each : length p ≡ length supply
  pub slopes : All (λ (s, amount). All (λ g. IsKink p s.ends amount g) (segments s)) (zip stages x)

-- the certificate of infeasibility and the ray of unboundedness are those of the hulls
abbrev pub StagesImpossible : List Ratio → List Stage → List Ratio → Type 0
StagesImpossible supply stages p = Impossible (hull_net supply stages) p

abbrev pub stages_gap : List Ratio → List Stage → List Ratio → Ratio
stages_gap supply stages p = gap (hull_net supply stages) p

abbrev pub StagesRay : List Ratio → List Stage → List Ratio → List Ratio → Type 0
StagesRay supply stages x d = Ray (hull_net supply stages) x d

-- weak duality for staged arcs
abbrev pub StagesDuality : Type 0
StagesDuality =
    (supply : List Ratio) (stages : List Stage) (p x : List Ratio) → All IsValid stages → StagesFeasible supply stages x → StagesShow supply stages p x
    → StagesLeast supply stages x

-- along a ray of staged arcs every cost is undercut by a feasible list of ratios, by the convex cost
abbrev pub StagesFall : Type 0
StagesFall =
    (supply : List Ratio) (stages : List Stage) (x d : List Ratio) → All IsValid stages → StagesRay supply stages x d
    → (c : Ratio) → (y : List Ratio) × StagesFeasible supply stages y × (stages_cost stages y <ᵣ c)
