-- What a plan is that the whole walk leaves without a refusal.
use Rattle.std.specs.Prelude.{◌≡◌, ℕ, ◌+◌, ◌<◌, ◌&&◌, ◌||◌, not, Bool, true, false, suc, zero, Option, Some, None, Result, Ok, Err, List, [], ◌∷◌, length, map}
use Rattle.std.specs.List.{All, AllByRecursion, zip, enumerate_from}
use Rattle.std.proofs.Common.{refl, sym, subst, ◌∙◌, arith}
use Rattle.std.proofs.lemmas.List.Elements.{All-from_recursion}
use Rattle.std.proofs.lemmas.List.{length-map}
use Rattle.np_frac.specs.Ratio.{Ratio, zero_ratio, ◌≤ᵣ◌, ◌<ᵣ◌, is_below}
use Rattle.np_frac.specs.Order.{ratio_eq, tests_true}
use Rattle.np_frac.specs.declared.frac.Past.{Past}
use Rattle.np_frac.proofs.RatioLaws.{clash, is_below_true, is_below_false}
use Rattle.np_model.specs.declared.arc.Upper.{Upper}
use Rattle.np_model.specs.declared.arc.Upper.TheVariants.{Finite, Infinite}
use Rattle.np_model.specs.declared.arc.NetArc.{NetArc}
use Rattle.np_model.specs.declared.rows.CheckRow.{CheckRow}
use Rattle.np_model.specs.declared.rows.CheckRow.TheVariants.{C1, C2, C3, C4, C5, C6}
use Rattle.np_model.specs.Network.Duality.{reduced}
use Rattle.np_model.specs.Network.Arcs.{IsAtMost, IsWithin, IsFinite, IsUnder, is_finite, is_at_most, is_under, AreNodes}
use Rattle.np_model.specs.Network.Flows.{at, balance}
use Rattle.np_model.specs.Scheme.Segments.{Stage, Segment, segments, last_end, hull}
use Rattle.np_model.specs.Scheme.Convex.{stages_cost, stages_gap, StagesFeasible, StagesShow, StagesImpossible, StagesRay, IsKink}
use Rattle.cert_checker.specs.Walk.{tested, refused_if, or_then, first_refusal, outflow_of, node_clause, balance_clauses, bound_clause, end_of, reduced_of, left_test, right_test, reduced_clause, cost_of, cost_clause, reject_node, upper_clause, end_clause, gap_of, gap_clause, ray_clause, ray_balance_clauses, ray_cost_of, ray_cost_clause, feasible_refusal, shown_refusal, infeasible_refusal, falling_refusal, with_stage_ends}
use Rattle.cert_checker.specs.Steps.Parts.{EndsFit}
use Rattle.cert_checker.specs.declared.answer.Clause.{Clause}
use Rattle.cert_checker.specs.declared.answer.Clause.TheVariants.{Balance, RayBalance}
use Rattle.cert_checker.specs.declared.answer.CheckRefusal.{CheckRefusal}
use Rattle.cert_checker.proofs.Exact.{balance_exact, end_exact, reduced_exact, cost_exact, gap_exact, ray_cost_exact}

-- ---- clauses without a refusal

pub tested_none : {A : Type 0} (row : CheckRow) (r : Result A Past) (test : A → Option CheckRefusal) → tested row r test ≡ None → (x : A) × (r ≡ Ok x) × (test x ≡ None)
tested_none row (Ok x) test e = (x, refl, e)
tested_none row (Err p) test e = absurd (cc e)

refused_none : (b : Bool) (r : CheckRefusal) → refused_if b r ≡ None → b ≡ false
refused_none true r e = absurd (cc e)
refused_none false r e = refl

pub both_none : (a b : Option CheckRefusal) → or_then a b ≡ None → (a ≡ None) × (b ≡ None)
both_none None b e = (refl, e)
both_none (Some r) b e = absurd (cc e)

each_none : {A : Type 0} (f : A → Option CheckRefusal) (xs : List A) → first_refusal f xs ≡ None → AllByRecursion (λ x. f x ≡ None) xs
each_none f [] e = tt
each_none f (x ∷ xs) e = let both = both_none (f x) (first_refusal f xs) e in (both.0, each_none f xs both.1)

pub not_false : (b : Bool) → not b ≡ false → b ≡ true
not_false true e = refl
not_false false e = absurd (cc e)

pub not_so : (b : Bool) → not b ≡ true → b ≡ false
not_so true e = absurd (cc e)
not_so false e = refl

or_false : (a b : Bool) → (a || b) ≡ false → (a ≡ false) × (b ≡ false)
or_false true b e = absurd (cc e)
or_false false b e = (refl, e)

-- what holds at each node of a numbered list
at_node : (f : ℕ × Ratio → Option CheckRefusal) (from : ℕ) (bs : List Ratio) → AllByRecursion (λ z. f z ≡ None) (enumerate_from from bs) → (v : ℕ) → v < length bs → f (from + v, at bs v) ≡ None
at_node f from [] h v below = absurd (omega arith)
at_node f from (b ∷ bs) h zero below = let e : from + 0 ≡ from = omega arith in rw e h.0
at_node f from (b ∷ bs) h (suc v) below =
    let e : from + suc v ≡ (from + 1) + v = omega arith in rw e (at_node f (from + 1) bs h.1 v (omega arith))

-- what holds of each staged arc beside its amount holds of its hull
hulls : (P : Stage × Ratio → Type 0) (Q : Stage × Ratio → Type 0) → ((s : Stage) (x : Ratio) → P (s, x) → Q (s, x)) → (stages : List Stage) (xs : List Ratio) → AllByRecursion P (zip stages xs) → AllByRecursion Q (zip stages xs)
hulls P Q f [] xs h = tt
hulls P Q f (s ∷ stages) [] h = tt
hulls P Q f (s ∷ stages) (x ∷ xs) h = (f s x h.0, hulls P Q f stages xs h.1)

over_hulls : (P : NetArc × Ratio → Type 0) (stages : List Stage) (xs : List Ratio) → AllByRecursion (λ (s, x). P (hull s, x)) (zip stages xs) → AllByRecursion P (zip (map hull stages) xs)
over_hulls P [] xs h = tt
over_hulls P (s ∷ stages) [] h = tt
over_hulls P (s ∷ stages) (x ∷ xs) h = (h.0, over_hulls P stages xs h.1)

all_hulls : (P : NetArc → Type 0) (stages : List Stage) → AllByRecursion (λ s. P (hull s)) stages → AllByRecursion P (map hull stages)
all_hulls P [] h = tt
all_hulls P (s ∷ stages) h = (h.0, all_hulls P stages h.1)

-- ---- bounds

pub at_most_true : (x : Ratio) (u : Upper) → is_at_most x u ≡ true → IsAtMost x u
at_most_true x (Finite u) e = is_below_false u x (not_so (is_below u x) e)
at_most_true x Infinite e = tt

bound_holds : (s : Stage) (x : Ratio) → bound_clause (s, x) ≡ None → IsWithin (hull s) x
bound_holds s x e =
    let found = tested_none _ (end_of s.upper s.bands) _ e in
    let tests = or_false (is_below x s.lower) (not (is_at_most x found.0)) (refused_none _ _ found.2) in
    (is_below_false x s.lower tests.0, subst (λ (u : Upper). IsAtMost x u) (end_exact s.upper s.bands found.0 found.1) (at_most_true x found.0 (not_false (is_at_most x found.0) tests.1)))

-- ---- reduced costs

pub is_below_not : (a b : Ratio) → b ≤ᵣ a → is_below a b ≡ false
is_below_not a b k = elim (is_below a b) as (λ t. is_below a b ≡ t → t ≡ false) [ true ↦ λ e. absurd (clash (is_below_true a b e) k) | false ↦ λ e. refl ] refl

pub at_most_so : (x : Ratio) (u : Upper) → IsAtMost x u → is_at_most x u ≡ true
at_most_so x Infinite h = refl
at_most_so x (Finite u) h = rw (is_below_not u x h) refl

pub is_below_so : (a b : Ratio) → a <ᵣ b → is_below a b ≡ true
is_below_so a b k = elim (is_below a b) as (λ t. is_below a b ≡ t → t ≡ true) [ true ↦ λ e. refl | false ↦ λ e. absurd (clash k (is_below_false a b e)) ] refl

pub is_under_so : (x : Ratio) (u : Upper) → IsUnder x u → is_under x u ≡ true
is_under_so x (Finite u) h = is_below_so x u h
is_under_so x Infinite h = refl

kink_holds : (p : List Ratio) (s : Stage) (x : Ratio) (g : Segment) → AreNodes (length p) s.ends → left_test p s x g ≡ None → right_test p s x g ≡ None → IsKink p s.ends x g
kink_holds p s x g nodes left right = (
  λ above inside.
      let found = tested_none _ (reduced_of p s.ends g.slope) _ (rw (is_below_so g.start x above, at_most_so x g.end inside) at left) in
      subst (λ r. r ≤ᵣ zero_ratio) (reduced_exact p s.ends g.slope found.0 nodes found.1) (is_below_false zero_ratio found.0 (refused_none _ _ found.2)),
  λ from under.
      let found = tested_none _ (reduced_of p s.ends g.slope) _ (rw (is_below_not x g.start from, is_under_so x g.end under) at right) in
      subst (λ r. zero_ratio ≤ᵣ r) (reduced_exact p s.ends g.slope found.0 nodes found.1) (is_below_false found.0 zero_ratio (refused_none _ _ found.2)),
)

kinks_hold : (p : List Ratio) (s : Stage) (x : Ratio) (gs : List Segment) → AreNodes (length p) s.ends → AllByRecursion (λ g. left_test p s x g ≡ None) gs → AllByRecursion (λ g. right_test p s x g ≡ None) gs → AllByRecursion (IsKink p s.ends x) gs
kinks_hold p s x [] nodes left right = tt
kinks_hold p s x (g ∷ gs) nodes left right = (kink_holds p s x g nodes left.0 right.0, kinks_hold p s x gs nodes left.1 right.1)

reduced_holds : (p : List Ratio) (s : Stage) (x : Ratio) → AreNodes (length p) s.ends → reduced_clause p (s, x) ≡ None → All (IsKink p s.ends x) (segments s)
reduced_holds p s x nodes e =
    let both = both_none (first_refusal (left_test p s x) (segments s)) (first_refusal (right_test p s x) (segments s)) e in
    All-from_recursion (IsKink p s.ends x) (segments s)
    (kinks_hold p s x (segments s) nodes (each_none (left_test p s x) (segments s) both.0) (each_none (right_test p s x) (segments s) both.1))

slopes_hold : (p : List Ratio) (stages : List Stage) (xs : List Ratio) → AllByRecursion (λ s. AreNodes (length p) s.ends) stages → AllByRecursion (λ z. reduced_clause p z ≡ None) (zip stages xs)
    → AllByRecursion (λ (s, x). All (IsKink p s.ends x) (segments s)) (zip stages xs)
slopes_hold p [] xs nodes h = tt
slopes_hold p (s ∷ stages) [] nodes h = tt
slopes_hold p (s ∷ stages) (x ∷ xs) nodes h = (reduced_holds p s x nodes.0 h.0, slopes_hold p stages xs nodes.1 h.1)

-- ---- feasible

module _ (k : ℕ) (supply : List Ratio) (stages : List Stage) (x : List Ratio) where
  nodes_hold : (row : CheckRow) (clause : Clause) (wanted : List Ratio) → first_refusal (node_clause row clause k (with_stage_ends stages x)) (enumerate_from 0 wanted) ≡ None
      → (v : ℕ) → v < length wanted → balance (map hull stages) x v ≡ at wanted v
  nodes_hold row clause wanted e v below =
      let here = at_node (node_clause row clause k (with_stage_ends stages x)) 0 wanted (each_none (node_clause row clause k (with_stage_ends stages x)) (enumerate_from 0 wanted) e) v below in
      let same : 0 + v ≡ v = omega arith in
      let found = tested_none row (outflow_of (with_stage_ends stages x) v) (λ sum. refused_if (not (ratio_eq sum (at wanted v))) (reject_node clause k v)) (rw same at here) in
      sym (balance_exact stages x v found.0 found.1) ∙ tests_true found.0 (at wanted v) (not_false _ (refused_none _ _ found.2))

  pub feasible_by_walk : length x ≡ length stages → feasible_refusal k supply stages x ≡ None → StagesFeasible supply stages x
  feasible_by_walk long e =
      let parts = both_none (balance_clauses k (with_stage_ends stages x) supply) (first_refusal bound_clause (zip stages x)) e in
      let within = hulls (λ z. bound_clause z ≡ None) (λ (s, q). IsWithin (hull s) q) bound_holds stages x (each_none bound_clause (zip stages x) parts.1) in
      record {
        one_each = long ∙ sym (length-map stages hull);
        balanced = nodes_hold C1 Balance supply parts.0;
        within = All-from_recursion (λ (a, q). IsWithin a q) (zip (map hull stages) x) (over_hulls (λ (a, q). IsWithin a q) stages x within);
      }

-- the ends of a staged arc within its bounds were found
ends_hold : (stages : List Stage) (xs : List Ratio) → length xs ≡ length stages → AllByRecursion (λ z. bound_clause z ≡ None) (zip stages xs) → AllByRecursion EndsFit stages
ends_hold [] xs long h = tt
ends_hold (s ∷ stages) [] long h = absurd (omega arith)
ends_hold (s ∷ stages) (x ∷ xs) long h = (has_ends s x h.0, ends_hold stages xs (omega arith) h.1)
  where
    has_ends : (st : Stage) (q : Ratio) → bound_clause (st, q) ≡ None → EndsFit st
    has_ends st q e = let found = tested_none C2 (end_of st.upper st.bands) _ e in rw found.1 refl

pub ends_by_walk : (k : ℕ) (supply : List Ratio) (stages : List Stage) (x : List Ratio) → length x ≡ length stages → feasible_refusal k supply stages x ≡ None → All EndsFit stages
ends_by_walk k supply stages x long e =
    All-from_recursion EndsFit stages (ends_hold stages x long (each_none bound_clause (zip stages x) (both_none (balance_clauses k (with_stage_ends stages x) supply) (first_refusal bound_clause (zip stages x)) e).1))

-- ---- an optimal plan

module _ (supply : List Ratio) (stages : List Stage) (p x : List Ratio) (cost : Ratio) where
  pub shown_by_walk : length p ≡ length supply → AllByRecursion (λ s. AreNodes (length p) s.ends) stages → shown_refusal stages x p cost ≡ None → StagesShow supply stages p x
  shown_by_walk prices nodes e =
      let sloped = (both_none (first_refusal (reduced_clause p) (zip stages x)) (cost_clause (zip stages x) cost) e).0 in
      record {
        one_each = prices;
        slopes = All-from_recursion (λ (s, q). All (IsKink p s.ends q) (segments s)) (zip stages x)
            (slopes_hold p stages x nodes (each_none (reduced_clause p) (zip stages x) sloped));
      }

  pub cost_by_walk : shown_refusal stages x p cost ≡ None → stages_cost stages x ≡ cost
  cost_by_walk e =
      let costs = (both_none (first_refusal (reduced_clause p) (zip stages x)) (cost_clause (zip stages x) cost) e).1 in
      let found = tested_none C4 (cost_of (zip stages x)) (λ sum. refused_if (not (ratio_eq sum cost)) _) costs in
      sym (cost_exact stages x found.0 found.1) ∙ tests_true found.0 cost (not_false _ (refused_none _ _ found.2))

-- ---- no plan

has_finite : (u : Upper) → is_finite u ≡ true → IsFinite u
has_finite (Finite u) e = tt
has_finite Infinite e = absurd (cc e)

and_false : (a b : Bool) → a ≡ true → (a && b) ≡ false → b ≡ false
and_false true b e f = f
and_false false b e f = absurd (cc e)

upper_holds : (p : List Ratio) (s : Stage) → AreNodes (length p) s.ends → upper_clause p s ≡ None → reduced p s.ends zero_ratio <ᵣ zero_ratio → IsFinite (last_end s.upper s.bands)
upper_holds p s nodes e under =
    let found = tested_none C3 (reduced_of p s.ends zero_ratio) _ e in
    let r = reduced_exact p s.ends zero_ratio found.0 nodes found.1 in
    has_finite (last_end s.upper s.bands)
    (not_false _ (and_false (is_below found.0 zero_ratio) (not (is_finite (last_end s.upper s.bands))) (is_below_so found.0 zero_ratio (rw r under)) (refused_none _ _ found.2)))

uppers_hold : (p : List Ratio) (stages : List Stage) → AllByRecursion (λ s. AreNodes (length p) s.ends) stages → AllByRecursion (λ s. upper_clause p s ≡ None) stages
    → AllByRecursion (λ s. reduced p s.ends zero_ratio <ᵣ zero_ratio → IsFinite (last_end s.upper s.bands)) stages
uppers_hold p [] nodes h = tt
uppers_hold p (s ∷ stages) nodes h = (upper_holds p s nodes.0 h.0, uppers_hold p stages nodes.1 h.1)

module _ (supply : List Ratio) (stages : List Stage) (p : List Ratio) (amount : Ratio) where
  pub forbidden_by_walk : length p ≡ length supply → AllByRecursion (λ s. AreNodes (length p) s.ends) stages → infeasible_refusal supply stages p amount ≡ None → StagesImpossible supply stages p × (stages_gap supply stages p ≡ amount)
  forbidden_by_walk prices nodes e =
      let parts = both_none (first_refusal (upper_clause p) stages) _ e in
      let more = both_none (first_refusal end_clause stages) (gap_clause supply stages p amount) parts.1 in
      let found = tested_none C5 (gap_of supply stages p) _ more.1 in
      let exact = gap_exact supply stages p found.0 nodes found.1 in
      let tests = or_false (not (is_below zero_ratio found.0)) (not (ratio_eq found.0 amount)) (refused_none _ _ found.2) in (
        record {
          one_each = prices;
          finite = All-from_recursion (λ a. reduced p a.ends zero_ratio <ᵣ zero_ratio → IsFinite a.upper) (map hull stages)
              (all_hulls (λ a. reduced p a.ends zero_ratio <ᵣ zero_ratio → IsFinite a.upper) stages (uppers_hold p stages nodes (each_none (upper_clause p) stages parts.0)));
          gap_above = subst (λ g. zero_ratio <ᵣ g) exact (is_below_true zero_ratio found.0 (not_false _ tests.0));
        },
        sym exact ∙ tests_true found.0 amount (not_false _ tests.1),
      )

-- ---- no least plan

is_infinite : (u : Upper) → is_finite u ≡ false → u ≡ Infinite
is_infinite (Finite u) e = absurd (cc e)
is_infinite Infinite e = refl

sign_holds : (s : Stage) (d : Ratio) → ray_clause (s, d) ≡ None → zero_ratio ≤ᵣ d
sign_holds s d e = is_below_false d zero_ratio (refused_none _ _ (both_none _ _ e).0)

free_holds : (s : Stage) (d : Ratio) → ray_clause (s, d) ≡ None → zero_ratio <ᵣ d → last_end s.upper s.bands ≡ Infinite
free_holds s d e above =
    is_infinite (last_end s.upper s.bands)
    (and_false (is_below zero_ratio d) (is_finite (last_end s.upper s.bands)) (is_below_so zero_ratio d above) (refused_none _ _ (both_none _ _ e).1))

signs_hold : (stages : List Stage) (ds : List Ratio) → length ds ≡ length stages → AllByRecursion (λ z. ray_clause z ≡ None) (zip stages ds) → AllByRecursion (λ d. zero_ratio ≤ᵣ d) ds
signs_hold [] [] long h = tt
signs_hold [] (d ∷ ds) long h = absurd (omega arith)
signs_hold (s ∷ stages) [] long h = tt
signs_hold (s ∷ stages) (d ∷ ds) long h = (sign_holds s d h.0, signs_hold stages ds (omega arith) h.1)

pub at_zeros : (supply : List Ratio) (v : ℕ) → at (map (λ b. zero_ratio) supply) v ≡ zero_ratio
at_zeros [] v = refl
at_zeros (b ∷ supply) zero = refl
at_zeros (b ∷ supply) (suc v) = at_zeros supply v

module _ (k : ℕ) (supply : List Ratio) (stages : List Stage) (x d : List Ratio) where
  pub falls_by_walk : length d ≡ length stages → StagesFeasible supply stages x → falling_refusal k supply stages d ≡ None → StagesRay supply stages x d
  falls_by_walk long feasible e =
      let parts = both_none (first_refusal ray_clause (zip stages d)) _ e in
      let more = both_none (ray_balance_clauses k (with_stage_ends stages d) supply) (ray_cost_clause (zip stages d)) parts.1 in
      let rays = each_none ray_clause (zip stages d) parts.0 in
      let found = tested_none C6 (ray_cost_of (zip stages d)) _ more.1 in
      record {
        feasible = feasible;
        one_each = long ∙ sym (length-map stages hull);
        not_negative = All-from_recursion (λ q. zero_ratio ≤ᵣ q) d (signs_hold stages d long rays);
        unbounded = All-from_recursion (λ (a, q). zero_ratio <ᵣ q → a.upper ≡ Infinite) (zip (map hull stages) d)
            (over_hulls (λ (a, q). zero_ratio <ᵣ q → a.upper ≡ Infinite) stages d
            (hulls (λ z. ray_clause z ≡ None) (λ (s, q). zero_ratio <ᵣ q → last_end s.upper s.bands ≡ Infinite) free_holds stages d rays));
        balanced = λ v below.
            nodes_hold k supply stages d C6 RayBalance (map (λ b. zero_ratio) supply) more.0 v (omega (arith, length-map supply (λ (b : Ratio). zero_ratio))) ∙ at_zeros supply v;
        falls = subst (λ c. c <ᵣ zero_ratio) (ray_cost_exact stages d found.0 found.1) (is_below_true found.0 zero_ratio (not_false _ (refused_none _ _ found.2)));
      }
