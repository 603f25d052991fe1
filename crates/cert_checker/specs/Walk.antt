-- The walk of the checker over a plan: the clauses of each verdict by place, and the first of them that fails or whose arithmetic
-- overflows.
-- (This project's own.)
use Rattle.std.specs.Prelude.{◌≡◌, ℕ, ◌+◌, ◌/◌, ◌%◌, ◌==◌, ◌&&◌, ◌||◌, not, Bool, if◌then◌else◌, Option, Some, None, Result, Ok, Err, unwrap_or, List, [], ◌∷◌, length, map}
use Rattle.std.specs.List.{fold, zip, enumerate_from}
use Rattle.np_frac.specs.Ratio.{Ratio, zero_ratio, is_below}
use Rattle.np_frac.specs.Order.{ratio_eq}
use Rattle.np_frac.specs.Exact.{plus_of, minus_of, times_of, ◌▷◌}
use Rattle.np_frac.specs.declared.frac.Past.{Past}
use Rattle.np_model.specs.declared.arc.Ends.{Ends}
use Rattle.np_model.specs.declared.arc.Ends.TheVariants.{Link, Drain, Feed}
use Rattle.np_model.specs.declared.arc.Upper.{Upper}
use Rattle.np_model.specs.declared.arc.Upper.TheVariants.{Finite, Infinite}
use Rattle.np_model.specs.declared.scheme.Band.{Band}
use Rattle.np_model.specs.declared.scheme.Scheme.{Scheme}
use Rattle.np_model.specs.declared.plan.Plan.{Plan}
use Rattle.np_model.specs.declared.rows.CheckRow.{CheckRow}
use Rattle.np_model.specs.declared.plan.Verdict.{Verdict}
use Rattle.np_model.specs.declared.plan.Verdict.TheVariants as verdict
use Rattle.np_model.specs.declared.rows.CheckRow.TheVariants.{C1, C2, C3, C4, C5, C6}
use Rattle.np_model.specs.Network.Flows.{at}
use Rattle.np_model.specs.Network.Arcs.{tail_of, head_of, reduced_cost_of, bound_of, lesser, is_finite, is_at_most, is_under}
use Rattle.np_model.specs.Scheme.Segments.{Stage, Segment, segments, segments_beyond, last_end, last_slope}
use Rattle.np_model.specs.Scheme.Plans.{staged}
use Rattle.cert_checker.specs.declared.answer.Clause.{Clause}
use Rattle.cert_checker.specs.declared.answer.Clause.TheVariants.{Balance, Bound, Reduced, Cost, Gap, RaySign, RayUpper, RayBalance, RayCost, Uncertified}
use Rattle.cert_checker.specs.declared.answer.Clause.TheVariants as clauses
use Rattle.cert_checker.specs.declared.answer.Checked.{Checked}
use Rattle.cert_checker.specs.declared.answer.Checked.TheVariants.{Optimal, Infeasible, Unbounded}
use Rattle.cert_checker.specs.declared.answer.CheckRefusal.{CheckRefusal}
use Rattle.cert_checker.specs.declared.answer.CheckRefusal.TheVariants.{Reject}
use Rattle.cert_checker.specs.declared.answer.CheckRefusal.TheVariants as refusal

-- the test of what was found, or the first operation of this row that overflows
abbrev pub tested : {A : Type 0} → CheckRow → Result A Past → (A → Option CheckRefusal) → Option CheckRefusal
tested row (Ok x) test = test x
tested row (Err past) test = Some (refusal.Past row past)

-- the refusal where a test fails
abbrev pub refused_if : Bool → CheckRefusal → Option CheckRefusal
refused_if fails refusal = if fails then Some refusal else None

-- the first refusal of a list of clauses
abbrev pub or_then : Option CheckRefusal → Option CheckRefusal → Option CheckRefusal
or_then None next = next
or_then (Some refusal) next = Some refusal

abbrev pub first_refusal : {A : Type 0} → (A → Option CheckRefusal) → List A → Option CheckRefusal
first_refusal clause [] = None
first_refusal clause (x ∷ xs) = or_then (clause x) (first_refusal clause xs)

-- ---- balance, with the operations of C1

-- the running balance of a node after an arc with these ends and this flow: one that does not touch the node leaves it
abbrev pub add_flow : ℕ → Ends → Ratio → Ratio → Result Ratio Past
add_flow v (Link from to gain) x running =
    if v == from then plus_of running x else (if v == to then (times_of gain x ▷ λ gained. minus_of running gained) else Ok running)
add_flow v (Drain at) x running = if v == at then plus_of running x else Ok running
add_flow v (Feed at) x running = if v == at then minus_of running x else Ok running

-- the outflow of a node, over the ends and amounts in order
abbrev pub outflow_of : List (Ends × Ratio) → ℕ → Result Ratio Past
outflow_of pairs v = fold (λ running (ends, x). running ▷ add_flow v ends x) (Ok zero_ratio) pairs

-- with k nodes, the refusal at an expanded node
abbrev pub reject_node : Clause → ℕ → ℕ → CheckRefusal
reject_node clause k v = Reject clause (Some (v % k)) (v / k + 1)

-- the balance of a node is what is wanted there
abbrev pub node_clause : CheckRow → Clause → ℕ → List (Ends × Ratio) → ℕ × Ratio → Option CheckRefusal
node_clause row clause k pairs (v, wanted) =
    tested row (outflow_of pairs v) (λ sum. refused_if (not (ratio_eq sum wanted)) (reject_node clause k v))

-- the ends of each staged arc beside its amount
abbrev pub with_stage_ends : List Stage → List Ratio → List (Ends × Ratio)
with_stage_ends stages x = zip (map (λ s. s.ends) stages) x

-- each node balances its supply
abbrev pub balance_clauses : ℕ → List (Ends × Ratio) → List Ratio → Option CheckRefusal
balance_clauses k pairs supply = first_refusal (node_clause C1 Balance k pairs) (enumerate_from 0 supply)

-- ---- bounds, with the operations of C2

-- the end of a band of this width that begins at this end
abbrev pub band_end : Ratio → Upper → Result Upper Past
band_end end Infinite = Ok Infinite
band_end end (Finite width) = plus_of end width ▷ λ sum. Ok (Finite sum)

-- the last end of a staged arc, beginning at its upper bound
abbrev pub end_of : Upper → List Band → Result Upper Past
end_of end [] = Ok end
end_of Infinite (b ∷ bs) = Ok Infinite
end_of (Finite end) (b ∷ bs) = band_end end b.width ▷ λ next. end_of next bs

abbrev pub reject_stage : Clause → Stage → CheckRefusal
reject_stage clause s = Reject clause (Some s.flow) s.period

-- the flow is at least the lower bound and at most the last end
abbrev pub bound_clause : Stage × Ratio → Option CheckRefusal
bound_clause (s, x) = tested C2 (end_of s.upper s.bands) (λ end. refused_if (is_below x s.lower || not (is_at_most x end)) (reject_stage Bound s))

-- ---- reduced costs, with the operations of C3

-- the reduced cost at these prices of an arc with these ends and this slope
abbrev pub reduced_of : List Ratio → Ends → Ratio → Result Ratio Past
reduced_of p ends slope = reduced_cost_of ends slope (at p (tail_of ends)) (at p (head_of ends))

-- where the flow lies in the segment above its start, the reduced cost is not above 0
abbrev pub left_test : List Ratio → Stage → Ratio → Segment → Option CheckRefusal
left_test p s x g =
    if is_below g.start x && is_at_most x g.end then tested C3 (reduced_of p s.ends g.slope) (λ r. refused_if (is_below zero_ratio r) (reject_stage Reduced s))
    else None

-- where the flow lies in the segment below its end, the reduced cost is not below 0
abbrev pub right_test : List Ratio → Stage → Ratio → Segment → Option CheckRefusal
right_test p s x g =
    if not (is_below x g.start) && is_under x g.end then tested C3 (reduced_of p s.ends g.slope) (λ r. refused_if (is_below r zero_ratio) (reject_stage Reduced s))
    else None

abbrev pub reduced_clause : List Ratio → Stage × Ratio → Option CheckRefusal
reduced_clause p (s, x) = or_then (first_refusal (left_test p s x) (segments s)) (first_refusal (right_test p s x) (segments s))

-- ---- cost, with the operations of C4

-- the running cost with what the flow costs in the segments beyond the first
abbrev pub add_segments : Ratio → List Segment → Ratio → Result Ratio Past
add_segments x [] running = Ok running
add_segments x (g ∷ gs) running =
    if is_below g.start x then
    (minus_of (lesser x g.end) g.start ▷ λ part. times_of g.slope part ▷ λ cost. plus_of running cost ▷ λ sum. add_segments x gs sum)
    else add_segments x gs running

-- the running cost with that of a staged arc
abbrev pub add_cost : Stage × Ratio → Ratio → Result Ratio Past
add_cost (s, x) running =
    times_of s.cost (lesser x s.upper) ▷ λ cost. plus_of running cost ▷ add_segments x (segments_beyond s.upper s.bands)

abbrev pub cost_of : List (Stage × Ratio) → Result Ratio Past
cost_of pairs = fold (λ running pair. running ▷ add_cost pair) (Ok zero_ratio) pairs

-- the cost is the amount that the plan gives
abbrev pub cost_clause : List (Stage × Ratio) → Ratio → Option CheckRefusal
cost_clause pairs amount = tested C4 (cost_of pairs) (λ sum. refused_if (not (ratio_eq sum amount)) (Reject Cost None 0))

-- ---- no plan, with the operations of C3, C2 and C5

-- at costs of 0 the reduced cost is not below 0, or the last end is finite
abbrev pub upper_clause : List Ratio → Stage → Option CheckRefusal
upper_clause p s =
    tested C3 (reduced_of p s.ends zero_ratio) (λ r. refused_if (is_below r zero_ratio && not (is_finite (last_end s.upper s.bands))) (reject_stage clauses.Upper s))

-- the last end of a staged arc is found
abbrev pub end_clause : Stage → Option CheckRefusal
end_clause s = tested C2 (end_of s.upper s.bands) (λ end. None)

-- the running gap with the supply of a node at its price
abbrev pub add_supply : List Ratio → ℕ × Ratio → Ratio → Result Ratio Past
add_supply supply (v, price) running = times_of price (at supply v) ▷ plus_of running

-- what an amount of a staged arc is worth at least, at this reduced cost: at the lower bound where it is above 0, at the last end
-- where it is below 0
abbrev pub add_worth : Stage → Ratio → Ratio → Result Ratio Past
add_worth s r running =
    if is_below zero_ratio r then (times_of r s.lower ▷ plus_of running)
    else (if is_below r zero_ratio then (end_of s.upper s.bands ▷ λ end. times_of r (bound_of end) ▷ plus_of running) else Ok running)

-- the running gap with that of a staged arc
abbrev pub add_least : List Ratio → Stage → Ratio → Result Ratio Past
add_least p s running = reduced_of p s.ends zero_ratio ▷ λ r. add_worth s r running

-- nodes by number, then staged arcs in order
abbrev pub gap_of : List Ratio → List Stage → List Ratio → Result Ratio Past
gap_of supply stages p =
    fold (λ running s. running ▷ add_least p s) (fold (λ running node. running ▷ add_supply supply node) (Ok zero_ratio) (enumerate_from 0 p)) stages

-- the gap is above 0, and is the amount that the plan gives
abbrev pub gap_clause : List Ratio → List Stage → List Ratio → Ratio → Option CheckRefusal
gap_clause supply stages p amount =
    tested C5 (gap_of supply stages p) (λ sum. refused_if (not (is_below zero_ratio sum) || not (ratio_eq sum amount)) (Reject Gap None 0))

-- ---- no least plan, with the operations of C6

-- the amount of the ray is not below 0, and where it is above 0 the last end is infinite
abbrev pub ray_clause : Stage × Ratio → Option CheckRefusal
ray_clause (s, d) =
    or_then (refused_if (is_below d zero_ratio) (reject_stage RaySign s))
    (refused_if (is_below zero_ratio d && is_finite (last_end s.upper s.bands)) (reject_stage RayUpper s))

-- each node balances 0
abbrev pub ray_balance_clauses : ℕ → List (Ends × Ratio) → List Ratio → Option CheckRefusal
ray_balance_clauses k pairs supply = first_refusal (node_clause C6 RayBalance k pairs) (enumerate_from 0 (map (λ b. zero_ratio) supply))

-- the running cost of the ray with that of a staged arc, at the slope of its last segment
abbrev pub add_ray_cost : Stage × Ratio → Ratio → Result Ratio Past
add_ray_cost (s, d) running = times_of (last_slope s.cost s.bands) d ▷ plus_of running

abbrev pub ray_cost_of : List (Stage × Ratio) → Result Ratio Past
ray_cost_of pairs = fold (λ running pair. running ▷ add_ray_cost pair) (Ok zero_ratio) pairs

-- the cost of the ray is below 0
abbrev pub ray_cost_clause : List (Stage × Ratio) → Option CheckRefusal
ray_cost_clause pairs = tested C6 (ray_cost_of pairs) (λ sum. refused_if (not (is_below sum zero_ratio)) (Reject RayCost None 0))

-- ---- the whole walk

-- balance at each node, with k nodes in a period, then bounds at each staged arc
abbrev pub feasible_refusal : ℕ → List Ratio → List Stage → List Ratio → Option CheckRefusal
feasible_refusal k supply stages x =
    or_then (balance_clauses k (with_stage_ends stages x) supply) (first_refusal bound_clause (zip stages x))

-- reduced costs at each staged arc, then the cost
abbrev pub shown_refusal : List Stage → List Ratio → List Ratio → Ratio → Option CheckRefusal
shown_refusal stages x p amount =
    let pairs = zip stages x in
    or_then (first_refusal (reduced_clause p) pairs) (cost_clause pairs amount)

abbrev pub optimal_refusal : ℕ → List Ratio → List Stage → List Ratio → List Ratio → Ratio → Option CheckRefusal
optimal_refusal k supply stages x p amount = or_then (feasible_refusal k supply stages x) (shown_refusal stages x p amount)

-- upper bounds at each staged arc, then all ends, then the gap
abbrev pub infeasible_refusal : List Ratio → List Stage → List Ratio → Ratio → Option CheckRefusal
infeasible_refusal supply stages p amount =
    or_then (first_refusal (upper_clause p) stages)
    (or_then (first_refusal end_clause stages)
    (gap_clause supply stages p amount))

-- the ray's sign and upper bounds at each staged arc, its balance at each node, then its cost
abbrev pub falling_refusal : ℕ → List Ratio → List Stage → List Ratio → Option CheckRefusal
falling_refusal k supply stages d =
    let pairs = zip stages d in
    or_then (first_refusal ray_clause pairs)
    (or_then (ray_balance_clauses k (with_stage_ends stages d) supply)
    (ray_cost_clause pairs))

abbrev pub unbounded_refusal : ℕ → List Ratio → List Stage → List Ratio → List Ratio → Option CheckRefusal
unbounded_refusal k supply stages x d = or_then (feasible_refusal k supply stages x) (falling_refusal k supply stages d)

abbrev pub claimed_amount : Plan → Ratio
claimed_amount plan = unwrap_or plan.amount zero_ratio

abbrev pub accepted_unless : {A : Type 0} → Option CheckRefusal → A → Result A CheckRefusal
accepted_unless None x = Ok x
accepted_unless (Some refusal) x = Err refusal

-- what a part of the walk answers
abbrev pub goes_on_unless : Option CheckRefusal → Result (Unit {0}) CheckRefusal
goes_on_unless refusal = accepted_unless refusal tt

-- what the checker answers on a plan of each verdict
abbrev pub walk_as : Verdict → Scheme → Plan → Result Checked CheckRefusal
walk_as verdict.Optimal scheme plan =
    accepted_unless (optimal_refusal (length scheme.nodes) scheme.supply (staged scheme) plan.flows plan.prices (claimed_amount plan)) (Optimal (claimed_amount plan))
walk_as verdict.Infeasible scheme plan =
    accepted_unless (infeasible_refusal scheme.supply (staged scheme) plan.prices (claimed_amount plan)) (Infeasible (claimed_amount plan))
walk_as verdict.Unbounded scheme plan =
    accepted_unless (unbounded_refusal (length scheme.nodes) scheme.supply (staged scheme) plan.flows plan.ray) Unbounded
walk_as verdict.Budget scheme plan = Err (Reject Uncertified None 0)
walk_as verdict.Overflow scheme plan = Err (Reject Uncertified None 0)

-- what the checker answers: what the plan was shown to be, or the first refusal
unfoldable pub walk : Scheme → Plan → Result Checked CheckRefusal
walk scheme plan = walk_as plan.verdict scheme plan

-- ---- what an answer means

-- the answer is the one that is meant, unless memory ran out
abbrev pub UnlessMemory : {A : Type 0} → Result A CheckRefusal → Result A CheckRefusal → Type 0
UnlessMemory (Ok x) meant = Ok x ≡ meant
UnlessMemory (Err refusal.Memory) meant = Unit {0}
UnlessMemory (Err r) meant = Err r ≡ meant

-- the sum at which a walk accepts, or the refusal that it gives whatever sum is claimed
abbrev pub Sums : Result Ratio CheckRefusal → (Ratio → Option CheckRefusal) → Type 0
Sums (Ok sum) refused = refused sum ≡ None
Sums (Err refusal.Memory) refused = Unit {0}
Sums (Err r) refused = (amount : Ratio) → refused amount ≡ Some r
