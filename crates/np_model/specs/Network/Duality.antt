-- What shows that a flow is least, that there is none, or that none is least. Reduced costs and their optimality conditions are those of
-- Ahuja, Magnanti and Orlin, Network Flows, chapter 15; the certificates of the other two cases in this form are this project's own.
use Rattle.std.specs.Prelude.{◌≡◌, ℕ, ◌<◌, if◌then◌else◌, length, List}
use Rattle.std.specs.List.{All, zip, enumerate_from}
use Rattle.np_frac.specs.Ratio.{Ratio, zero_ratio, ◌≤ᵣ◌, ◌<ᵣ◌, ◌-ᵣ◌, ◌+ᵣ◌, ◌*ᵣ◌, total, is_below}
use Rattle.np_model.specs.declared.arc.Ends.{Ends}
use Rattle.np_model.specs.declared.arc.Upper.TheVariants.{Infinite}
use Rattle.np_model.specs.declared.arc.NetArc.{NetArc}
use Rattle.np_model.specs.Network.Arcs.{coefficient, tail_of, head_of, AreNodes, reduced_cost, IsFinite, IsFull, bound_of}
use Rattle.np_model.specs.Network.Flows.{Network, at, plan_cost, balance, Feasible, Least}

-- ---- potentials show a plan least

-- the potentials of these nodes, each times the arc's coefficient there
abbrev pub pull_of : List (ℕ × Ratio) → Ends → Ratio
pull_of potentials ends = total (λ (v, potential). coefficient ends v *ᵣ potential) potentials

-- those of all nodes
abbrev pub pull : List Ratio → Ends → Ratio
pull p ends = pull_of (enumerate_from 0 p) ends

-- the reduced cost of an arc with these ends and this cost
abbrev pub reduced : List Ratio → Ends → Ratio → Ratio
reduced p ends c = c -ᵣ pull p ends

-- it has a term for each end of the arc, and no other
abbrev pub ReducedByEnds : Type 0
ReducedByEnds =
    (p : List Ratio) (ends : Ends) (c : Ratio) → AreNodes (length p) ends → reduced p ends c ≡ reduced_cost ends c (at p (tail_of ends)) (at p (head_of ends))

-- an arc with a reduced cost above 0 is at its lower bound, and one with a reduced cost below 0 at a finite upper bound
abbrev pub IsSlack : List Ratio → NetArc → Ratio → Type 0
IsSlack p a amount =
    let r = reduced p a.ends a.cost in
    (zero_ratio <ᵣ r → amount ≡ a.lower) × (r <ᵣ zero_ratio → IsFull amount a.upper)

-- complementary slackness: these potentials show this plan optimal
pub record Shows (net : Network) (p x : List Ratio) : Type 0 where
  pub one_each : length p ≡ length net.supply
  pub slack : All (λ (a, amount). IsSlack p a amount) (zip net.arcs x)

-- weak duality: a feasible plan that potentials show optimal is least
abbrev pub WeakDuality : Type 0
WeakDuality = (net : Network) (p x : List Ratio) → Feasible net x → Shows net p x → Least net x

-- ---- no plan at all

-- the least that r times an amount within the arc's bounds can be: at the lower bound where r is above 0, at the upper where it is below
abbrev pub least_worth : Ratio → NetArc → Ratio
least_worth r a = if is_below zero_ratio r then r *ᵣ a.lower else (if is_below r zero_ratio then r *ᵣ bound_of a.upper else zero_ratio)

-- the supply at the potentials, and the least worth of each arc at its reduced cost for cost 0
abbrev pub gap : Network → List Ratio → Ratio
gap net p =
    total (λ (v, potential). potential *ᵣ at net.supply v) (enumerate_from 0 p) +ᵣ total (λ a. least_worth (reduced p a.ends zero_ratio) a) net.arcs

-- the certificate of infeasibility: potentials with a gap above 0
pub record Impossible (net : Network) (p : List Ratio) : Type 0 where
  pub one_each : length p ≡ length net.supply
  pub finite : All (λ a. reduced p a.ends zero_ratio <ᵣ zero_ratio → IsFinite a.upper) net.arcs
  pub gap_above : zero_ratio <ᵣ gap net p

-- where potentials certify it, no list of ratios is feasible
abbrev pub NoPlan : Type 0
NoPlan = (net : Network) (p : List Ratio) → Impossible net p → (x : List Ratio) → Feasible net x → ⊥

-- ---- a plan and a ray along which the cost falls without end

-- the ray of unboundedness: balanced at 0, on arcs without an upper bound, at a cost below 0
pub record Ray (net : Network) (x d : List Ratio) : Type 0 where
  pub feasible : Feasible net x
  pub one_each : length d ≡ length net.arcs
  pub not_negative : All (λ amount. zero_ratio ≤ᵣ amount) d
  pub unbounded : All (λ (a, amount). zero_ratio <ᵣ amount → a.upper ≡ Infinite) (zip net.arcs d)
  pub balanced : (v : ℕ) → v < length net.supply → balance net.arcs d v ≡ zero_ratio
  pub falls : plan_cost net.arcs d <ᵣ zero_ratio

-- along a ray every cost is undercut by a feasible plan
abbrev pub Falls : Type 0
Falls = (net : Network) (x d : List Ratio) → Ray net x d → (c : Ratio) → (y : List Ratio) × Feasible net y × (plan_cost net.arcs y <ᵣ c)
