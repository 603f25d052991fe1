-- The walk over a scheme and a plan that fits it, from the lists that the code reads.
use Rattle.std.specs.Prelude.{◌≡◌, ℕ, Option, None, Result, Ok, Err, List, length, map}
use Rattle.std.specs.List.{All}
use Rattle.std.proofs.Common.{refl, sym, ap, subst, ◌∙◌}
use Rattle.np_frac.specs.Ratio.{Ratio}
use Rattle.np_model.specs.declared.scheme.Scheme.{Scheme}
use Rattle.np_model.specs.declared.plan.Verdict.{Verdict}
use Rattle.np_model.specs.declared.plan.Verdict.TheVariants as verdict
use Rattle.np_model.specs.declared.plan.Plan.{Plan}
use Rattle.np_model.specs.Scheme.Segments.{Stage}
use Rattle.np_model.specs.Scheme.Plans.{staged}
use Rattle.np_model.specs.Scheme.Fits.{FitsAs, PlanFits}
use Rattle.cert_checker.specs.Walk.{walk, walk_as, claimed_amount, or_then, feasible_refusal, shown_refusal, optimal_refusal, infeasible_refusal, falling_refusal, unbounded_refusal, accepted_unless, goes_on_unless, UnlessMemory}
use Rattle.np_model.specs.Network.Arcs.{AreNodes}
use Rattle.cert_checker.specs.Steps.Parts.{EndsFit}
use Rattle.cert_checker.specs.Steps.Arcs.{as_stage}
use Rattle.cert_checker.specs.declared.staged.StagedArc.{StagedArc}
use Rattle.cert_checker.specs.declared.answer.CheckRefusal.{CheckRefusal}
use Rattle.cert_checker.specs.declared.answer.Checked.{Checked}
use Rattle.cert_checker.specs.declared.answer.Checked.TheVariants as checked
use Rattle.cert_checker.proofs.First.{first_part, next_part, whole_refused}
use Rattle.cert_checker.proofs.Arcs.{arcs_joined}
use Rattle.std.proofs.lemmas.List.{length-map}
use Rattle.cert_checker.proofs.Theorem.{ends_by_walk}

-- ---- what fits

pub optimal_fits : (scheme : Scheme) (plan : Plan) → plan.verdict ≡ verdict.Optimal → PlanFits scheme plan → FitsAs verdict.Optimal scheme plan
optimal_fits scheme plan e fits = subst (λ (v : Verdict). FitsAs v scheme plan) e fits

pub infeasible_fits : (scheme : Scheme) (plan : Plan) → plan.verdict ≡ verdict.Infeasible → PlanFits scheme plan → FitsAs verdict.Infeasible scheme plan
infeasible_fits scheme plan e fits = subst (λ (v : Verdict). FitsAs v scheme plan) e fits

pub unbounded_fits : (scheme : Scheme) (plan : Plan) → plan.verdict ≡ verdict.Unbounded → PlanFits scheme plan → FitsAs verdict.Unbounded scheme plan
unbounded_fits scheme plan e fits = subst (λ (v : Verdict). FitsAs v scheme plan) e fits

-- ---- the walk of each verdict

pub walk_optimal : (scheme : Scheme) (plan : Plan) → plan.verdict ≡ verdict.Optimal
    → walk scheme plan ≡ accepted_unless (optimal_refusal (length scheme.nodes) scheme.supply (staged scheme) plan.flows plan.prices (claimed_amount plan)) (checked.Optimal (claimed_amount plan))
unfolding walk
walk_optimal scheme plan e = ap (λ (v : Verdict). walk_as v scheme plan) e

pub walk_infeasible : (scheme : Scheme) (plan : Plan) → plan.verdict ≡ verdict.Infeasible
    → walk scheme plan ≡ accepted_unless (infeasible_refusal scheme.supply (staged scheme) plan.prices (claimed_amount plan)) (checked.Infeasible (claimed_amount plan))
unfolding walk
walk_infeasible scheme plan e = ap (λ (v : Verdict). walk_as v scheme plan) e

pub walk_unbounded : (scheme : Scheme) (plan : Plan) → plan.verdict ≡ verdict.Unbounded
    → walk scheme plan ≡ accepted_unless (unbounded_refusal (length scheme.nodes) scheme.supply (staged scheme) plan.flows plan.ray) checked.Unbounded
unfolding walk
walk_unbounded scheme plan e = ap (λ (v : Verdict). walk_as v scheme plan) e

pub walk_of : (scheme : Scheme) (plan : Plan) (v : Verdict) → plan.verdict ≡ v → walk scheme plan ≡ walk_as v scheme plan
unfolding walk
walk_of scheme plan v e = ap (λ (z : Verdict). walk_as z scheme plan) e

-- a walk of two parts
module _ (a b : Option CheckRefusal) (w : Result Checked CheckRefusal) (x : Checked) (is : w ≡ accepted_unless (or_then a b) x) where
  pub first_refuses : (r : CheckRefusal) (res : Result (Unit {0}) CheckRefusal) → UnlessMemory res (goes_on_unless a) → res ≡ Err r → UnlessMemory (Err r) w
  first_refuses r res told e = rw is (whole_refused (or_then a b) x r (Err r) (first_part a b r res told e) refl)

  pub next_refuses : (r : CheckRefusal) (res : Result (Unit {0}) CheckRefusal) → a ≡ None → UnlessMemory res (goes_on_unless b) → res ≡ Err r → UnlessMemory (Err r) w
  next_refuses r res first told e = rw is (whole_refused (or_then a b) x r res (next_part a b res first told) e)

  pub both_hold : a ≡ None → b ≡ None → Ok x ≡ w
  both_hold first last = rw (is, first, last) refl

-- and one of one part
pub one_refuses : (a : Option CheckRefusal) (w : Result Checked CheckRefusal) (x : Checked) → w ≡ accepted_unless a x → (r : CheckRefusal) (res : Result (Unit {0}) CheckRefusal) → UnlessMemory res (goes_on_unless a) → res ≡ Err r → UnlessMemory (Err r) w
one_refuses a w x is r res told e = rw is (whole_refused a x r res told e)

pub one_holds : (a : Option CheckRefusal) (w : Result Checked CheckRefusal) (x : Checked) → w ≡ accepted_unless a x → a ≡ None → Ok x ≡ w
one_holds a w x is none = rw (is, none) refl

-- ---- from the lists to the scheme and the plan

module _ (scheme : Scheme) (plan : Plan) (arcs items : List StagedArc) (listed : arcs ≡ items) (made : map as_stage items ≡ staged scheme) where
  pub stages_are : map as_stage arcs ≡ staged scheme
  stages_are = ap (map as_stage) listed ∙ made

  pub as_many : length (staged scheme) ≡ length arcs
  as_many = ap length (sym stages_are) ∙ length-map arcs as_stage

  -- the ends of all staged arcs are nodes of a list that has one entry for each supply
  pub lists_joined : (list : List Ratio) → length list ≡ length scheme.supply → All (λ arc. AreNodes (length list) (as_stage arc).ends) arcs
  lists_joined list e = subst (λ (n : ℕ). All (λ (arc : StagedArc). AreNodes n (as_stage arc).ends) arcs) (sym e) (arcs_joined scheme arcs stages_are)

  pub feasible_told : (k : ℕ) (supply x : List Ratio) (res : Result (Unit {0}) CheckRefusal) → k ≡ length scheme.nodes → supply ≡ scheme.supply → x ≡ plan.flows → UnlessMemory res (goes_on_unless (feasible_refusal k supply (map as_stage arcs) x))
      → UnlessMemory res (goes_on_unless (feasible_refusal (length scheme.nodes) scheme.supply (staged scheme) plan.flows))
  feasible_told k supply x res a b c told =
      let same : feasible_refusal k supply (map as_stage arcs) x ≡ feasible_refusal (length scheme.nodes) scheme.supply (staged scheme) plan.flows =
      λ i. feasible_refusal (a i) (b i) (stages_are i) (c i)
      in
      subst (λ (o : Option CheckRefusal). UnlessMemory res (goes_on_unless o)) same told

  pub shown_told : (x p : List Ratio) (cost : Ratio) (res : Result (Unit {0}) CheckRefusal) → x ≡ plan.flows → p ≡ plan.prices → cost ≡ claimed_amount plan → res ≡ goes_on_unless (shown_refusal (map as_stage arcs) x p cost)
      → res ≡ goes_on_unless (shown_refusal (staged scheme) plan.flows plan.prices (claimed_amount plan))
  shown_told x p cost res a b c told = rw (← a, ← b, ← c, ← stages_are) told

  pub forbidden_told : (supply p : List Ratio) (gap : Ratio) (res : Result (Unit {0}) CheckRefusal) → supply ≡ scheme.supply → p ≡ plan.prices → gap ≡ claimed_amount plan → res ≡ goes_on_unless (infeasible_refusal supply (map as_stage arcs) p gap)
      → res ≡ goes_on_unless (infeasible_refusal scheme.supply (staged scheme) plan.prices (claimed_amount plan))
  forbidden_told supply p gap res a b c told = rw (← a, ← b, ← c, ← stages_are) told

  pub falling_told : (k : ℕ) (supply d : List Ratio) (res : Result (Unit {0}) CheckRefusal) → k ≡ length scheme.nodes → supply ≡ scheme.supply → d ≡ plan.ray → UnlessMemory res (goes_on_unless (falling_refusal k supply (map as_stage arcs) d))
      → UnlessMemory res (goes_on_unless (falling_refusal (length scheme.nodes) scheme.supply (staged scheme) plan.ray))
  falling_told k supply d res a b c told =
      let same : falling_refusal k supply (map as_stage arcs) d ≡ falling_refusal (length scheme.nodes) scheme.supply (staged scheme) plan.ray =
      λ i. falling_refusal (a i) (b i) (stages_are i) (c i)
      in
      subst (λ (o : Option CheckRefusal). UnlessMemory res (goes_on_unless o)) same told

  pub ends_told : length plan.flows ≡ length (staged scheme) → feasible_refusal (length scheme.nodes) scheme.supply (staged scheme) plan.flows ≡ None → All EndsFit (map as_stage arcs)
  ends_told long none = subst (λ (z : List Stage). All EndsFit z) (sym stages_are) (ends_by_walk (length scheme.nodes) scheme.supply (staged scheme) plan.flows long none)
