-- A plan whose claim holds is refused only where an operation overflows.
use Rattle.std.specs.Prelude.{◌≡◌, ℕ, ◌+◌, ◌<◌, ◌&&◌, ◌||◌, not, Bool, true, false, suc, Option, Some, None, Result, Ok, Err, if◌then◌else◌, List, [], ◌∷◌, length, map, ⊤}
use Rattle.std.specs.List.{All, AllByRecursion, zip, enumerate_from}
use Rattle.std.proofs.Common.{refl, sym, ap, subst, ◌∙◌, arith, inl, inr}
use Rattle.std.proofs.lemmas.List.Elements.{recursion_from_All}
use Rattle.std.proofs.lemmas.List.{length-map}
use Rattle.np_frac.specs.Ratio.{Ratio, zero_ratio, ◌≤ᵣ◌, ◌<ᵣ◌, is_below}
use Rattle.np_frac.specs.Order.{ratio_eq, true_tests}
use Rattle.np_frac.specs.declared.frac.Past.{Past}
use Rattle.np_frac.proofs.RatioLaws.{is_below_true, is_below_false}
use Rattle.np_model.specs.declared.arc.Upper.{Upper}
use Rattle.np_model.specs.declared.arc.Upper.TheVariants.{Finite, Infinite}
use Rattle.np_model.specs.declared.arc.NetArc.{NetArc}
use Rattle.np_model.specs.declared.rows.CheckRow.{CheckRow}
use Rattle.np_model.specs.declared.rows.CheckRow.TheVariants.{C1, C2, C3, C4, C5, C6}
use Rattle.np_model.specs.Network.Duality.{reduced}
use Rattle.np_model.specs.Network.Arcs.{IsAtMost, IsWithin, IsFinite, IsUnder, is_finite, is_at_most, is_under, AreNodes}
use Rattle.np_model.specs.Network.Flows.{at, balance}
use Rattle.np_model.specs.Scheme.Segments.{Stage, Segment, segments, last_end, hull}
use Rattle.np_model.specs.Scheme.Convex.{stages_cost, stages_gap, StagesFeasible, StagesShow, StagesImpossible, StagesRay, IsKink}
use Rattle.cert_checker.specs.Walk.{tested, refused_if, or_then, first_refusal, outflow_of, node_clause, balance_clauses, bound_clause, end_of, reduced_of, left_test, right_test, reduced_clause, cost_of, cost_clause, reject_node, reject_stage, upper_clause, end_clause, gap_of, gap_clause, ray_clause, ray_balance_clauses, ray_cost_of, ray_cost_clause, feasible_refusal, shown_refusal, optimal_refusal, infeasible_refusal, falling_refusal, unbounded_refusal, accepted_unless, with_stage_ends}
use Rattle.cert_checker.specs.Laws.{AcceptsOrOverflows}
use Rattle.cert_checker.specs.declared.answer.Checked.{Checked}
use Rattle.cert_checker.specs.declared.answer.Clause.{Clause}
use Rattle.cert_checker.specs.declared.answer.Clause.TheVariants.{Balance, Reduced, RayBalance, RaySign, RayUpper}
use Rattle.cert_checker.specs.declared.answer.Clause.TheVariants as clauses
use Rattle.cert_checker.specs.declared.answer.CheckRefusal.{CheckRefusal}
use Rattle.cert_checker.specs.declared.answer.CheckRefusal.TheVariants as refusal
use Rattle.cert_checker.proofs.Exact.{balance_exact, end_exact, reduced_exact, cost_exact, gap_exact, ray_cost_exact}
use Rattle.cert_checker.proofs.Theorem.{not_so, at_most_true, at_most_so, is_below_not, is_below_so, at_zeros}

-- no refusal, or an operation that overflows
abbrev pub OverflowsAtMost : Option CheckRefusal → Type 0
OverflowsAtMost None = ⊤
OverflowsAtMost (Some (refusal.Past row past)) = ⊤
OverflowsAtMost (Some (refusal.Reject clause name period)) = ⊥
OverflowsAtMost (Some refusal.Memory) = ⊥

pub accepts : (o : Option CheckRefusal) (answer : Checked) → OverflowsAtMost o → AcceptsOrOverflows (accepted_unless o answer) answer
accepts None answer h = inl refl
accepts (Some (refusal.Past row past)) answer h = inr (row, past, refl)
accepts (Some (refusal.Reject clause name period)) answer h = absurd h
accepts (Some refusal.Memory) answer h = absurd h

-- ---- what the walk is made of keeps this

both_accept : (a b : Option CheckRefusal) → OverflowsAtMost a → OverflowsAtMost b → OverflowsAtMost (or_then a b)
both_accept None b h k = k
both_accept (Some r) b h k = h

each_accepts : {A : Type 0} (f : A → Option CheckRefusal) (xs : List A) → AllByRecursion (λ x. OverflowsAtMost (f x)) xs → OverflowsAtMost (first_refusal f xs)
each_accepts f [] h = tt
each_accepts f (x ∷ xs) h = both_accept (f x) (first_refusal f xs) h.0 (each_accepts f xs h.1)

test_accepts : {A : Type 0} (row : CheckRow) (r : Result A Past) (test : A → Option CheckRefusal) → ((x : A) → r ≡ Ok x → OverflowsAtMost (test x)) → OverflowsAtMost (tested row r test)
test_accepts row (Ok x) test h = h x refl
test_accepts row (Err p) test h = tt

holds : (fails : Bool) (r : CheckRefusal) → fails ≡ false → OverflowsAtMost (refused_if fails r)
holds true r e = absurd (cc e)
holds false r e = tt

not_true : (b : Bool) → b ≡ true → not b ≡ false
not_true true e = refl
not_true false e = absurd (cc e)

neither : (a b : Bool) → a ≡ false → b ≡ false → (a || b) ≡ false
neither true b e f = absurd (cc e)
neither false b e f = f

both_so : (a b : Bool) → (a && b) ≡ true → (a ≡ true) × (b ≡ true)
both_so true b e = (refl, e)
both_so false b e = absurd (cc e)

-- not both, where the first excludes the second
not_both : (a b : Bool) → (a ≡ true → b ≡ false) → (a && b) ≡ false
not_both true b h = h refl
not_both false b h = refl

-- ---- lists

-- each node of a numbered list
each_node : (f : ℕ × Ratio → Option CheckRefusal) (from : ℕ) (bs : List Ratio) → ((v : ℕ) → v < length bs → OverflowsAtMost (f (from + v, at bs v))) → AllByRecursion (λ z. OverflowsAtMost (f z)) (enumerate_from from bs)
each_node f from [] h = tt
each_node f from (b ∷ bs) h = (
  let e : from + 0 ≡ from = omega arith in rw e at (h 0 (omega arith)),
  each_node f (from + 1) bs (λ v below. let e : from + suc v ≡ (from + 1) + v = omega arith in rw e at (h (suc v) (omega arith))),
)

-- what holds of each hull beside its amount gives the clause of its staged arc
from_hulls : (P : NetArc × Ratio → Type 0) (f : Stage × Ratio → Option CheckRefusal) → ((s : Stage) (x : Ratio) → P (hull s, x) → OverflowsAtMost (f (s, x))) → (stages : List Stage) (xs : List Ratio) → AllByRecursion P (zip (map hull stages) xs)
    → AllByRecursion (λ z. OverflowsAtMost (f z)) (zip stages xs)
from_hulls P f step [] xs h = tt
from_hulls P f step (s ∷ stages) [] h = tt
from_hulls P f step (s ∷ stages) (x ∷ xs) h = (step s x h.0, from_hulls P f step stages xs h.1)

-- ---- balance

module _ (k : ℕ) (stages : List Stage) (x : List Ratio) where
  node_accepts : (row : CheckRow) (clause : Clause) (v : ℕ) (wanted : Ratio) → balance (map hull stages) x v ≡ wanted → OverflowsAtMost (node_clause row clause k (with_stage_ends stages x) (v, wanted))
  node_accepts row clause v wanted is =
      test_accepts row (outflow_of (with_stage_ends stages x) v) (λ sum. refused_if (not (ratio_eq sum wanted)) (reject_node clause k v))
      (λ sum found. holds (not (ratio_eq sum wanted)) (reject_node clause k v) (not_true (ratio_eq sum wanted) (true_tests sum wanted (balance_exact stages x v sum found ∙ is))))

  nodes_accept : (row : CheckRow) (clause : Clause) (wanted : List Ratio) → ((v : ℕ) → v < length wanted → balance (map hull stages) x v ≡ at wanted v)
      → OverflowsAtMost (first_refusal (node_clause row clause k (with_stage_ends stages x)) (enumerate_from 0 wanted))
  nodes_accept row clause wanted balanced =
      each_accepts (node_clause row clause k (with_stage_ends stages x)) (enumerate_from 0 wanted)
      (each_node (node_clause row clause k (with_stage_ends stages x)) 0 wanted
      (λ v below. let e : 0 + v ≡ v = omega arith in rw e (node_accepts row clause v (at wanted v) (balanced v below))))

-- ---- bounds

bound_accepts : (s : Stage) (x : Ratio) → IsWithin (hull s) x → OverflowsAtMost (bound_clause (s, x))
bound_accepts s x within =
    test_accepts C2 (end_of s.upper s.bands) (λ end. refused_if (is_below x s.lower || not (is_at_most x end)) (reject_stage clauses.Bound s))
    (λ end found. holds (is_below x s.lower || not (is_at_most x end)) (reject_stage clauses.Bound s)
    (neither (is_below x s.lower) (not (is_at_most x end)) (is_below_not x s.lower within.0) (not_true (is_at_most x end) (at_most_so x end (subst (λ (u : Upper). IsAtMost x u) (sym (end_exact s.upper s.bands end found)) within.1)))))

pub feasible_accepts : (k : ℕ) (supply : List Ratio) (stages : List Stage) (x : List Ratio) → StagesFeasible supply stages x → OverflowsAtMost (feasible_refusal k supply stages x)
feasible_accepts k supply stages x feasible =
    both_accept (balance_clauses k (with_stage_ends stages x) supply) (first_refusal bound_clause (zip stages x))
    (nodes_accept k stages x C1 Balance supply feasible.balanced)
    (each_accepts bound_clause (zip stages x)
    (from_hulls (λ (a, q). IsWithin a q) bound_clause bound_accepts stages x (recursion_from_All (λ (a, q). IsWithin a q) (zip (map hull stages) x) feasible.within)))

-- ---- reduced costs

is_under_true : (x : Ratio) (u : Upper) → is_under x u ≡ true → IsUnder x u
is_under_true x (Finite u) e = is_below_true x u e
is_under_true x Infinite e = tt

module _ (p : List Ratio) (s : Stage) (x : Ratio) (nodes : AreNodes (length p) s.ends) where
  left_accepts : (g : Segment) → IsKink p s.ends x g → OverflowsAtMost (left_test p s x g)
  left_accepts g kink =
      elim (is_below g.start x && is_at_most x g.end) as (λ b.
      (is_below g.start x && is_at_most x g.end) ≡ b
      → OverflowsAtMost (if b then tested C3 (reduced_of p s.ends g.slope) (λ r. refused_if (is_below zero_ratio r) (reject_stage Reduced s)) else None)) [
        | true ↦ λ e.
            let beside = both_so (is_below g.start x) (is_at_most x g.end) e in
            let sign : reduced p s.ends g.slope ≤ᵣ zero_ratio = kink.0 (is_below_true g.start x beside.0) (at_most_true x g.end beside.1) in
            test_accepts C3 (reduced_of p s.ends g.slope) (λ r. refused_if (is_below zero_ratio r) (reject_stage Reduced s))
            (λ r found. holds (is_below zero_ratio r) (reject_stage Reduced s) (is_below_not zero_ratio r (subst (λ (q : Ratio). q ≤ᵣ zero_ratio) (sym (reduced_exact p s.ends g.slope r nodes found)) sign)))
        | false ↦ λ e. tt
      ] refl

  right_accepts : (g : Segment) → IsKink p s.ends x g → OverflowsAtMost (right_test p s x g)
  right_accepts g kink =
      elim (not (is_below x g.start) && is_under x g.end) as (λ b.
      (not (is_below x g.start) && is_under x g.end) ≡ b
      → OverflowsAtMost (if b then tested C3 (reduced_of p s.ends g.slope) (λ r. refused_if (is_below r zero_ratio) (reject_stage Reduced s)) else None)) [
        | true ↦ λ e.
            let beside = both_so (not (is_below x g.start)) (is_under x g.end) e in
            let sign : zero_ratio ≤ᵣ reduced p s.ends g.slope = kink.1 (is_below_false x g.start (not_so (is_below x g.start) beside.0)) (is_under_true x g.end beside.1) in
            test_accepts C3 (reduced_of p s.ends g.slope) (λ r. refused_if (is_below r zero_ratio) (reject_stage Reduced s))
            (λ r found. holds (is_below r zero_ratio) (reject_stage Reduced s) (is_below_not r zero_ratio (subst (λ (q : Ratio). zero_ratio ≤ᵣ q) (sym (reduced_exact p s.ends g.slope r nodes found)) sign)))
        | false ↦ λ e. tt
      ] refl

  lefts_accept : (gs : List Segment) → AllByRecursion (IsKink p s.ends x) gs → AllByRecursion (λ g. OverflowsAtMost (left_test p s x g)) gs
  lefts_accept [] h = tt
  lefts_accept (g ∷ gs) h = (left_accepts g h.0, lefts_accept gs h.1)

  rights_accept : (gs : List Segment) → AllByRecursion (IsKink p s.ends x) gs → AllByRecursion (λ g. OverflowsAtMost (right_test p s x g)) gs
  rights_accept [] h = tt
  rights_accept (g ∷ gs) h = (right_accepts g h.0, rights_accept gs h.1)

  reduced_accepts : All (IsKink p s.ends x) (segments s) → OverflowsAtMost (reduced_clause p (s, x))
  reduced_accepts kinks =
      let each = recursion_from_All (IsKink p s.ends x) (segments s) kinks in
      both_accept (first_refusal (left_test p s x) (segments s)) (first_refusal (right_test p s x) (segments s))
      (each_accepts (left_test p s x) (segments s) (lefts_accept (segments s) each)) (each_accepts (right_test p s x) (segments s) (rights_accept (segments s) each))

slopes_accept : (p : List Ratio) (stages : List Stage) (xs : List Ratio) → AllByRecursion (λ s. AreNodes (length p) s.ends) stages → AllByRecursion (λ (s, x). All (IsKink p s.ends x) (segments s)) (zip stages xs)
    → AllByRecursion (λ z. OverflowsAtMost (reduced_clause p z)) (zip stages xs)
slopes_accept p [] xs nodes h = tt
slopes_accept p (s ∷ stages) [] nodes h = tt
slopes_accept p (s ∷ stages) (x ∷ xs) nodes h = (reduced_accepts p s x nodes.0 h.0, slopes_accept p stages xs nodes.1 h.1)

-- ---- an optimal plan

module _ (supply : List Ratio) (stages : List Stage) (p x : List Ratio) where
  cost_accepts : (amount : Ratio) → stages_cost stages x ≡ amount → OverflowsAtMost (cost_clause (zip stages x) amount)
  cost_accepts amount is =
      test_accepts C4 (cost_of (zip stages x)) (λ sum. refused_if (not (ratio_eq sum amount)) (refusal.Reject clauses.Cost None 0))
      (λ sum found. holds (not (ratio_eq sum amount)) (refusal.Reject clauses.Cost None 0) (not_true (ratio_eq sum amount) (true_tests sum amount (cost_exact stages x sum found ∙ is))))

  pub optimal_accepts : (k : ℕ) (amount : Ratio) → AllByRecursion (λ s. AreNodes (length p) s.ends) stages → StagesFeasible supply stages x → StagesShow supply stages p x → stages_cost stages x ≡ amount
      → OverflowsAtMost (optimal_refusal k supply stages x p amount)
  optimal_accepts k amount nodes feasible shows is =
      both_accept (feasible_refusal k supply stages x) (shown_refusal stages x p amount) (feasible_accepts k supply stages x feasible)
      (both_accept (first_refusal (reduced_clause p) (zip stages x)) (cost_clause (zip stages x) amount)
      (each_accepts (reduced_clause p) (zip stages x) (slopes_accept p stages x nodes (recursion_from_All (λ (s, q). All (IsKink p s.ends q) (segments s)) (zip stages x) shows.slopes)))
      (cost_accepts amount is))

-- ---- no plan

finite_true : (u : Upper) → IsFinite u → is_finite u ≡ true
finite_true (Finite u) h = refl
finite_true Infinite h = absurd h

upper_accepts : (p : List Ratio) (s : Stage) → AreNodes (length p) s.ends → (reduced p s.ends zero_ratio <ᵣ zero_ratio → IsFinite (last_end s.upper s.bands)) → OverflowsAtMost (upper_clause p s)
upper_accepts p s nodes finite =
    test_accepts C3 (reduced_of p s.ends zero_ratio) (λ r. refused_if (is_below r zero_ratio && not (is_finite (last_end s.upper s.bands))) (reject_stage clauses.Upper s))
    (λ r found. holds (is_below r zero_ratio && not (is_finite (last_end s.upper s.bands))) (reject_stage clauses.Upper s)
    (not_both (is_below r zero_ratio) (not (is_finite (last_end s.upper s.bands)))
    (λ below.
    not_true (is_finite (last_end s.upper s.bands))
    (finite_true (last_end s.upper s.bands) (finite (subst (λ (q : Ratio). q <ᵣ zero_ratio) (reduced_exact p s.ends zero_ratio r nodes found) (is_below_true r zero_ratio below)))))))

uppers_accept : (p : List Ratio) (stages : List Stage) → AllByRecursion (λ s. AreNodes (length p) s.ends) stages → AllByRecursion (λ a. reduced p a.ends zero_ratio <ᵣ zero_ratio → IsFinite a.upper) (map hull stages)
    → AllByRecursion (λ s. OverflowsAtMost (upper_clause p s)) stages
uppers_accept p [] nodes h = tt
uppers_accept p (s ∷ stages) nodes h = (upper_accepts p s nodes.0 h.0, uppers_accept p stages nodes.1 h.1)

ends_accept : (stages : List Stage) → AllByRecursion (λ s. OverflowsAtMost (end_clause s)) stages
ends_accept [] = tt
ends_accept (s ∷ stages) = (test_accepts C2 (end_of s.upper s.bands) (λ end. None) (λ end found. tt), ends_accept stages)

module _ (supply : List Ratio) (stages : List Stage) (p : List Ratio) where
  gap_accepts : (amount : Ratio) → AllByRecursion (λ s. AreNodes (length p) s.ends) stages → zero_ratio <ᵣ stages_gap supply stages p → stages_gap supply stages p ≡ amount → OverflowsAtMost (gap_clause supply stages p amount)
  gap_accepts amount nodes above is =
      test_accepts C5 (gap_of supply stages p) (λ sum. refused_if (not (is_below zero_ratio sum) || not (ratio_eq sum amount)) (refusal.Reject clauses.Gap None 0))
      (λ sum found.
      let exact = gap_exact supply stages p sum nodes found in
      holds (not (is_below zero_ratio sum) || not (ratio_eq sum amount)) (refusal.Reject clauses.Gap None 0)
      (neither (not (is_below zero_ratio sum)) (not (ratio_eq sum amount))
      (not_true (is_below zero_ratio sum) (is_below_so zero_ratio sum (subst (λ (g : Ratio). zero_ratio <ᵣ g) (sym exact) above)))
      (not_true (ratio_eq sum amount) (true_tests sum amount (exact ∙ is)))))

  pub infeasible_accepts : (amount : Ratio) → AllByRecursion (λ s. AreNodes (length p) s.ends) stages → StagesImpossible supply stages p → stages_gap supply stages p ≡ amount → OverflowsAtMost (infeasible_refusal supply stages p amount)
  infeasible_accepts amount nodes forbids is =
      both_accept (first_refusal (upper_clause p) stages) (or_then (first_refusal end_clause stages) (gap_clause supply stages p amount))
      (each_accepts (upper_clause p) stages
      (uppers_accept p stages nodes (recursion_from_All (λ a. reduced p a.ends zero_ratio <ᵣ zero_ratio → IsFinite a.upper) (map hull stages) forbids.finite)))
      (both_accept (first_refusal end_clause stages) (gap_clause supply stages p amount) (each_accepts end_clause stages (ends_accept stages)) (gap_accepts amount nodes forbids.gap_above is))

-- ---- no least plan

infinite_false : (u : Upper) → u ≡ Infinite → is_finite u ≡ false
infinite_false u e = ap is_finite e

ray_accepts : (s : Stage) (d : Ratio) → zero_ratio ≤ᵣ d → (zero_ratio <ᵣ d → last_end s.upper s.bands ≡ Infinite) → OverflowsAtMost (ray_clause (s, d))
ray_accepts s d sign free =
    both_accept (refused_if (is_below d zero_ratio) (reject_stage RaySign s)) (refused_if (is_below zero_ratio d && is_finite (last_end s.upper s.bands)) (reject_stage RayUpper s))
    (holds (is_below d zero_ratio) (reject_stage RaySign s) (is_below_not d zero_ratio sign))
    (holds (is_below zero_ratio d && is_finite (last_end s.upper s.bands)) (reject_stage RayUpper s)
    (not_both (is_below zero_ratio d) (is_finite (last_end s.upper s.bands)) (λ above. infinite_false (last_end s.upper s.bands) (free (is_below_true zero_ratio d above)))))

rays_accept : (stages : List Stage) (ds : List Ratio) → AllByRecursion (λ d. zero_ratio ≤ᵣ d) ds → AllByRecursion (λ (a, d). zero_ratio <ᵣ d → a.upper ≡ Infinite) (zip (map hull stages) ds)
    → AllByRecursion (λ z. OverflowsAtMost (ray_clause z)) (zip stages ds)
rays_accept [] ds signs free = tt
rays_accept (s ∷ stages) [] signs free = tt
rays_accept (s ∷ stages) (d ∷ ds) signs free = (ray_accepts s d signs.0 free.0, rays_accept stages ds signs.1 free.1)

module _ (k : ℕ) (supply : List Ratio) (stages : List Stage) (x d : List Ratio) where
  ray_cost_accepts : StagesRay supply stages x d → OverflowsAtMost (ray_cost_clause (zip stages d))
  ray_cost_accepts ray =
      test_accepts C6 (ray_cost_of (zip stages d)) (λ sum. refused_if (not (is_below sum zero_ratio)) (refusal.Reject clauses.RayCost None 0))
      (λ sum found.
      holds (not (is_below sum zero_ratio)) (refusal.Reject clauses.RayCost None 0)
      (not_true (is_below sum zero_ratio) (is_below_so sum zero_ratio (subst (λ (c : Ratio). c <ᵣ zero_ratio) (sym (ray_cost_exact stages d sum found)) ray.falls))))

  pub unbounded_accepts : StagesRay supply stages x d → OverflowsAtMost (unbounded_refusal k supply stages x d)
  unbounded_accepts ray =
      both_accept (feasible_refusal k supply stages x) (falling_refusal k supply stages d) (feasible_accepts k supply stages x ray.feasible)
      (both_accept (first_refusal ray_clause (zip stages d)) (or_then (ray_balance_clauses k (with_stage_ends stages d) supply) (ray_cost_clause (zip stages d)))
      (each_accepts ray_clause (zip stages d)
      (rays_accept stages d (recursion_from_All (λ q. zero_ratio ≤ᵣ q) d ray.not_negative) (recursion_from_All (λ (a, q). zero_ratio <ᵣ q → a.upper ≡ Infinite) (zip (map hull stages) d) ray.unbounded)))
      (both_accept (ray_balance_clauses k (with_stage_ends stages d) supply) (ray_cost_clause (zip stages d))
      (nodes_accept k stages d C6 RayBalance (map (λ b. zero_ratio) supply) (λ v below. ray.balanced v (omega (arith, length-map supply (λ (b : Ratio). zero_ratio))) ∙ sym (at_zeros supply v)))
      (ray_cost_accepts ray)))
