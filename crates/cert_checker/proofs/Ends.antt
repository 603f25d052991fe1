-- The walk is never short of memory.
use Rattle.std.specs.Prelude.{ℕ, ⊤, Bool, true, false, not, ◌&&◌, ◌||◌, if◌then◌else◌, Option, Some, None, Result, Ok, Err, List, [], ◌∷◌, length, map}
use Rattle.std.specs.List.{zip, enumerate_from}
use Rattle.std.proofs.Common.{subst}
use Rattle.np_frac.specs.Ratio.{Ratio, zero_ratio, is_below}
use Rattle.np_frac.specs.Order.{ratio_eq}
use Rattle.np_frac.specs.declared.frac.Past.{Past}
use Rattle.np_model.specs.declared.arc.Ends.{Ends}
use Rattle.np_model.specs.declared.rows.CheckRow.{CheckRow}
use Rattle.np_model.specs.declared.rows.CheckRow.TheVariants.{C1, C2, C3, C4, C5, C6}
use Rattle.np_model.specs.declared.scheme.Scheme.{Scheme}
use Rattle.np_model.specs.declared.plan.Plan.{Plan}
use Rattle.np_model.specs.declared.plan.Verdict.{Verdict}
use Rattle.np_model.specs.declared.plan.Verdict.TheVariants as verdict
use Rattle.np_model.specs.Network.Arcs.{is_finite, is_at_most, is_under}
use Rattle.np_model.specs.Scheme.Segments.{Stage, Segment, segments, last_end}
use Rattle.np_model.specs.Scheme.Plans.{staged}
use Rattle.cert_checker.specs.Walk.{tested, refused_if, or_then, first_refusal, outflow_of, reject_node, node_clause, balance_clauses, end_of, reject_stage, bound_clause, reduced_of, left_test, right_test, reduced_clause, cost_of, cost_clause, upper_clause, end_clause, gap_of, gap_clause, ray_clause, ray_balance_clauses, ray_cost_of, ray_cost_clause, feasible_refusal, shown_refusal, optimal_refusal, infeasible_refusal, falling_refusal, unbounded_refusal, with_stage_ends, claimed_amount, accepted_unless, walk, walk_as}
use Rattle.cert_checker.specs.Laws.{WalkEnds}
use Rattle.cert_checker.specs.declared.answer.Checked.{Checked}
use Rattle.cert_checker.specs.declared.answer.Checked.TheVariants as checked
use Rattle.cert_checker.specs.declared.answer.Clause.{Clause}
use Rattle.cert_checker.specs.declared.answer.Clause.TheVariants as clauses
use Rattle.cert_checker.specs.declared.answer.CheckRefusal.{CheckRefusal}
use Rattle.cert_checker.specs.declared.answer.CheckRefusal.TheVariants as refusal

-- a refusal other than want of memory
abbrev IsOfThePlan : CheckRefusal → Type 0
IsOfThePlan (refusal.Reject clause name period) = ⊤
IsOfThePlan (refusal.Past row past) = ⊤
IsOfThePlan refusal.Memory = ⊥

abbrev OfThePlan : Option CheckRefusal → Type 0
OfThePlan None = ⊤
OfThePlan (Some refusal) = IsOfThePlan refusal

-- ---- what the walk is made of keeps this

both : (a b : Option CheckRefusal) → OfThePlan a → OfThePlan b → OfThePlan (or_then a b)
both None b h k = k
both (Some r) b h k = h

each : {A : Type 0} (f : A → Option CheckRefusal) → ((x : A) → OfThePlan (f x)) → (xs : List A) → OfThePlan (first_refusal f xs)
each f step [] = tt
each f step (x ∷ xs) = both (f x) (first_refusal f xs) (step x) (each f step xs)

test_ends : {A : Type 0} (row : CheckRow) (r : Result A Past) (test : A → Option CheckRefusal) → ((x : A) → OfThePlan (test x)) → OfThePlan (tested row r test)
test_ends row (Ok x) test h = h x
test_ends row (Err p) test h = tt

fails_ends : (fails : Bool) (r : CheckRefusal) → IsOfThePlan r → OfThePlan (refused_if fails r)
fails_ends true r h = h
fails_ends false r h = tt

only_if : (b : Bool) (o : Option CheckRefusal) → OfThePlan o → OfThePlan (if b then o else None)
only_if true o h = h
only_if false o h = tt

-- ---- the clauses

node_ends : (row : CheckRow) (clause : Clause) (k : ℕ) (pairs : List (Ends × Ratio)) (node : ℕ × Ratio) → OfThePlan (node_clause row clause k pairs node)
node_ends row clause k pairs (v, wanted) =
    test_ends row (outflow_of pairs v) (λ sum. refused_if (not (ratio_eq sum wanted)) (reject_node clause k v))
    (λ sum. fails_ends (not (ratio_eq sum wanted)) (reject_node clause k v) tt)

bound_ends : (pair : Stage × Ratio) → OfThePlan (bound_clause pair)
bound_ends (s, x) =
    test_ends C2 (end_of s.upper s.bands) (λ end. refused_if (is_below x s.lower || not (is_at_most x end)) (reject_stage clauses.Bound s))
    (λ end. fails_ends (is_below x s.lower || not (is_at_most x end)) (reject_stage clauses.Bound s) tt)

feasible_ends : (k : ℕ) (supply : List Ratio) (stages : List Stage) (x : List Ratio) → OfThePlan (feasible_refusal k supply stages x)
feasible_ends k supply stages x =
    both (balance_clauses k (with_stage_ends stages x) supply) (first_refusal bound_clause (zip stages x))
    (each (node_clause C1 clauses.Balance k (with_stage_ends stages x)) (node_ends C1 clauses.Balance k (with_stage_ends stages x)) (enumerate_from 0 supply))
    (each bound_clause bound_ends (zip stages x))

module _ (p : List Ratio) (s : Stage) (x : Ratio) where
  left_ends : (g : Segment) → OfThePlan (left_test p s x g)
  left_ends g =
      only_if (is_below g.start x && is_at_most x g.end) (tested C3 (reduced_of p s.ends g.slope) (λ r. refused_if (is_below zero_ratio r) (reject_stage clauses.Reduced s)))
      (test_ends C3 (reduced_of p s.ends g.slope) (λ r. refused_if (is_below zero_ratio r) (reject_stage clauses.Reduced s)) (λ r. fails_ends (is_below zero_ratio r) (reject_stage clauses.Reduced s) tt))

  right_ends : (g : Segment) → OfThePlan (right_test p s x g)
  right_ends g =
      only_if (not (is_below x g.start) && is_under x g.end) (tested C3 (reduced_of p s.ends g.slope) (λ r. refused_if (is_below r zero_ratio) (reject_stage clauses.Reduced s)))
      (test_ends C3 (reduced_of p s.ends g.slope) (λ r. refused_if (is_below r zero_ratio) (reject_stage clauses.Reduced s)) (λ r. fails_ends (is_below r zero_ratio) (reject_stage clauses.Reduced s) tt))

  reduced_ends : OfThePlan (reduced_clause p (s, x))
  reduced_ends =
      both (first_refusal (left_test p s x) (segments s)) (first_refusal (right_test p s x) (segments s))
      (each (left_test p s x) left_ends (segments s)) (each (right_test p s x) right_ends (segments s))

shown_ends : (stages : List Stage) (x p : List Ratio) (amount : Ratio) → OfThePlan (shown_refusal stages x p amount)
shown_ends stages x p amount =
    both (first_refusal (reduced_clause p) (zip stages x)) (cost_clause (zip stages x) amount)
    (each (reduced_clause p) (λ (s, q). reduced_ends p s q) (zip stages x))
    (test_ends C4 (cost_of (zip stages x)) (λ sum. refused_if (not (ratio_eq sum amount)) (refusal.Reject clauses.Cost None 0))
    (λ sum. fails_ends (not (ratio_eq sum amount)) (refusal.Reject clauses.Cost None 0) tt))

optimal_ends : (k : ℕ) (supply : List Ratio) (stages : List Stage) (x p : List Ratio) (amount : Ratio) → OfThePlan (optimal_refusal k supply stages x p amount)
optimal_ends k supply stages x p amount =
    both (feasible_refusal k supply stages x) (shown_refusal stages x p amount) (feasible_ends k supply stages x) (shown_ends stages x p amount)

upper_ends : (p : List Ratio) (s : Stage) → OfThePlan (upper_clause p s)
upper_ends p s =
    test_ends C3 (reduced_of p s.ends zero_ratio) (λ r. refused_if (is_below r zero_ratio && not (is_finite (last_end s.upper s.bands))) (reject_stage clauses.Upper s))
    (λ r. fails_ends (is_below r zero_ratio && not (is_finite (last_end s.upper s.bands))) (reject_stage clauses.Upper s) tt)

stage_ends : (s : Stage) → OfThePlan (end_clause s)
stage_ends s = test_ends C2 (end_of s.upper s.bands) (λ end. None) (λ end. tt)

infeasible_ends : (supply : List Ratio) (stages : List Stage) (p : List Ratio) (amount : Ratio) → OfThePlan (infeasible_refusal supply stages p amount)
infeasible_ends supply stages p amount =
    both (first_refusal (upper_clause p) stages) (or_then (first_refusal end_clause stages) (gap_clause supply stages p amount))
    (each (upper_clause p) (upper_ends p) stages)
    (both (first_refusal end_clause stages) (gap_clause supply stages p amount)
    (each end_clause stage_ends stages)
    (test_ends C5 (gap_of supply stages p) (λ sum. refused_if (not (is_below zero_ratio sum) || not (ratio_eq sum amount)) (refusal.Reject clauses.Gap None 0))
    (λ sum. fails_ends (not (is_below zero_ratio sum) || not (ratio_eq sum amount)) (refusal.Reject clauses.Gap None 0) tt)))

ray_ends : (pair : Stage × Ratio) → OfThePlan (ray_clause pair)
ray_ends (s, d) =
    both (refused_if (is_below d zero_ratio) (reject_stage clauses.RaySign s)) (refused_if (is_below zero_ratio d && is_finite (last_end s.upper s.bands)) (reject_stage clauses.RayUpper s))
    (fails_ends (is_below d zero_ratio) (reject_stage clauses.RaySign s) tt)
    (fails_ends (is_below zero_ratio d && is_finite (last_end s.upper s.bands)) (reject_stage clauses.RayUpper s) tt)

falling_ends : (k : ℕ) (supply : List Ratio) (stages : List Stage) (d : List Ratio) → OfThePlan (falling_refusal k supply stages d)
falling_ends k supply stages d =
    both (first_refusal ray_clause (zip stages d)) (or_then (ray_balance_clauses k (with_stage_ends stages d) supply) (ray_cost_clause (zip stages d)))
    (each ray_clause ray_ends (zip stages d))
    (both (ray_balance_clauses k (with_stage_ends stages d) supply) (ray_cost_clause (zip stages d))
    (each (node_clause C6 clauses.RayBalance k (with_stage_ends stages d)) (node_ends C6 clauses.RayBalance k (with_stage_ends stages d)) (enumerate_from 0 (map (λ b. zero_ratio) supply)))
    (test_ends C6 (ray_cost_of (zip stages d)) (λ sum. refused_if (not (is_below sum zero_ratio)) (refusal.Reject clauses.RayCost None 0))
    (λ sum. fails_ends (not (is_below sum zero_ratio)) (refusal.Reject clauses.RayCost None 0) tt)))

unbounded_ends : (k : ℕ) (supply : List Ratio) (stages : List Stage) (x d : List Ratio) → OfThePlan (unbounded_refusal k supply stages x d)
unbounded_ends k supply stages x d =
    both (feasible_refusal k supply stages x) (falling_refusal k supply stages d) (feasible_ends k supply stages x) (falling_ends k supply stages d)

-- ---- the whole walk

-- an answer, or a refusal other than want of memory
abbrev EndsOf : Result Checked CheckRefusal → Type 0
EndsOf (Ok answer) = ⊤
EndsOf (Err refusal) = IsOfThePlan refusal

accepted_ends : (o : Option CheckRefusal) (answer : Checked) → OfThePlan o → EndsOf (accepted_unless o answer)
accepted_ends None answer h = tt
accepted_ends (Some r) answer h = h

ends_as : (v : Verdict) (scheme : Scheme) (plan : Plan) → EndsOf (walk_as v scheme plan)
ends_as verdict.Optimal scheme plan =
    accepted_ends (optimal_refusal (length scheme.nodes) scheme.supply (staged scheme) plan.flows plan.prices (claimed_amount plan)) (checked.Optimal (claimed_amount plan))
    (optimal_ends (length scheme.nodes) scheme.supply (staged scheme) plan.flows plan.prices (claimed_amount plan))
ends_as verdict.Infeasible scheme plan =
    accepted_ends (infeasible_refusal scheme.supply (staged scheme) plan.prices (claimed_amount plan)) (checked.Infeasible (claimed_amount plan))
    (infeasible_ends scheme.supply (staged scheme) plan.prices (claimed_amount plan))
ends_as verdict.Unbounded scheme plan =
    accepted_ends (unbounded_refusal (length scheme.nodes) scheme.supply (staged scheme) plan.flows plan.ray) checked.Unbounded
    (unbounded_ends (length scheme.nodes) scheme.supply (staged scheme) plan.flows plan.ray)
ends_as verdict.Budget scheme plan = tt
ends_as verdict.Overflow scheme plan = tt

pub walk_ends : WalkEnds
unfolding walk
walk_ends scheme plan e = subst EndsOf e (ends_as plan.verdict scheme plan)
