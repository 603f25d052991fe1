-- No two runs contradict each other.
use Rattle.std.specs.Prelude.{◌≡◌, ℕ, zero, suc, ◌≤◌, ◌⊎◌, Some, Result, Err, List}
use Rattle.std.proofs.Common.{refl, sym, ap, subst, ◌∙◌, arith, inl, inr}
use Rattle.np_frac.specs.Ratio.{Ratio, zero_ratio, ◌≤ᵣ◌, ◌<ᵣ◌}
use Rattle.np_model.specs.declared.plan.Plan.{Plan}
use Rattle.np_model.specs.declared.scheme.Scheme.{Scheme}
use Rattle.np_model.specs.Scheme.Plans.{IsFeasiblePlan, IsLeastPlan, HasNoLeast, scheme_cost}
use Rattle.net_csv.specs.Words.{code_word}
use Rattle.net_csv.specs.declared.refused.Code.{Code}
use Rattle.net_csv.specs.declared.refused.Tail.TheVariants as tail
use Rattle.netplan_top.specs.declared.words.Job.{Job}
use Rattle.netplan_top.specs.Commands.Expand.{IsNetwork}
use Rattle.netplan_top.specs.Commands.Faults.{IsFaulty}
use Rattle.netplan_top.specs.Commands.Solve.{Solves, IsOptimal, IsInfeasible, IsUnbounded, IsSolveAnswer}
use Rattle.netplan_top.specs.Texts.Frame.{refused_text}
use Rattle.netplan_top.proofs.OneReading.{OneScheme}
use Rattle.netplan_top.proofs.RunFacts.{below}

-- what is known of the order of ratios
abbrev pub Excludes : Type 0
Excludes = (a b : Ratio) → a <ᵣ b → ¬ (b ≤ᵣ a)

abbrev pub AreAntisymmetric : Type 0
AreAntisymmetric = (a b : Ratio) → a ≤ᵣ b → b ≤ᵣ a → a ≡ b

-- ---- of one scheme

least_or_none : (scheme : Scheme) (x : List Ratio) → IsLeastPlan scheme x → ((y : List Ratio) → IsFeasiblePlan scheme y → ⊥) → ⊥
least_or_none scheme x least none = none x least.feasible

least_or_cheaper : Excludes → (scheme : Scheme) (x : List Ratio) → IsLeastPlan scheme x → HasNoLeast scheme → ⊥
least_or_cheaper order scheme x least cheaper =
    let there = cheaper (scheme_cost scheme x) in
    order (scheme_cost scheme there.0) (scheme_cost scheme x) there.2 (least.least there.0 there.1)

none_or_cheaper : (scheme : Scheme) → ((y : List Ratio) → IsFeasiblePlan scheme y → ⊥) → HasNoLeast scheme → ⊥
none_or_cheaper scheme none cheaper = let there = cheaper zero_ratio in none there.0 there.1

amount_is : (job : Job) (scheme : Scheme) (plan : Plan) → IsOptimal job scheme plan → plan.amount ≡ Some (scheme_cost scheme plan.flows)
amount_is job scheme plan h = subst (λ (p : Plan). p.amount ≡ Some (scheme_cost scheme p.flows)) (sym h.plan_is) refl

-- ---- of one input

module _ (law : OneScheme) (order : Excludes) (j k : Job) (input x y : List ℕ) where
  here : (s t : Scheme) → IsNetwork input s → IsNetwork input t → t ≡ s
  here s t a b = law _ t s b.scheme_is a.scheme_is

  optimal_or_infeasible : Solves IsOptimal j input x → Solves IsInfeasible k input y → ⊥
  optimal_or_infeasible a b =
      least_or_none a.scheme a.plan.flows a.plan_is.proved.least
      (subst (λ (s : Scheme). (z : List Ratio) → IsFeasiblePlan s z → ⊥) (here a.scheme b.scheme a.network b.network) b.plan_is.proved.none)

  optimal_or_unbounded : Solves IsOptimal j input x → Solves IsUnbounded k input y → ⊥
  optimal_or_unbounded a b =
      least_or_cheaper order a.scheme a.plan.flows a.plan_is.proved.least (subst HasNoLeast (here a.scheme b.scheme a.network b.network) b.plan_is.proved.cheaper)

  infeasible_or_unbounded : Solves IsInfeasible j input x → Solves IsUnbounded k input y → ⊥
  infeasible_or_unbounded a b =
      none_or_cheaper a.scheme a.plan_is.proved.none (subst HasNoLeast (here a.scheme b.scheme a.network b.network) b.plan_is.proved.cheaper)

pub same_cost : OneScheme → AreAntisymmetric → (j k : Job) (input x y : List ℕ) → (a : Solves IsOptimal j input x) → (b : Solves IsOptimal k input y) → a.plan.amount ≡ b.plan.amount
same_cost law order j k input x y a b =
    let same : b.scheme ≡ a.scheme = law _ b.scheme a.scheme b.network.scheme_is a.network.scheme_is in
    let other = subst (λ (s : Scheme). IsLeastPlan s b.plan.flows) same b.plan_is.proved.least in
    let own = a.plan_is.proved.least in
    let cost : scheme_cost a.scheme a.plan.flows ≡ scheme_cost a.scheme b.plan.flows =
    order (scheme_cost a.scheme a.plan.flows) (scheme_cost a.scheme b.plan.flows) (own.least b.plan.flows other.feasible) (other.least a.plan.flows own.feasible) in
    amount_is j a.scheme a.plan a.plan_is ∙ ap (λ (c : Ratio). Some c) (cost ∙ ap (λ (s : Scheme). scheme_cost s b.plan.flows) (sym same)) ∙ sym (amount_is k b.scheme b.plan b.plan_is)

-- of two numbers up to 2, each is the other
three : (s t : ℕ) → s ≤ 2 → t ≤ 2 → (s ≡ 0 → t ≡ 1 → ⊥) → (s ≡ 0 → t ≡ 2 → ⊥) → (s ≡ 1 → t ≡ 2 → ⊥) → (t ≡ 0 → s ≡ 1 → ⊥) → (t ≡ 0 → s ≡ 2 → ⊥) → (t ≡ 1 → s ≡ 2 → ⊥) → s ≡ t
three zero zero h g a b c d e f = refl
three zero (suc zero) h g a b c d e f = absurd (a refl refl)
three zero (suc (suc zero)) h g a b c d e f = absurd (b refl refl)
three (suc zero) zero h g a b c d e f = absurd (d refl refl)
three (suc zero) (suc zero) h g a b c d e f = refl
three (suc zero) (suc (suc zero)) h g a b c d e f = absurd (c refl refl)
three (suc (suc zero)) zero h g a b c d e f = absurd (e refl refl)
three (suc (suc zero)) (suc zero) h g a b c d e f = absurd (f refl refl)
three (suc (suc zero)) (suc (suc zero)) h g a b c d e f = refl
three (suc (suc (suc s))) t h g a b c d e f = absurd (omega arith)
three s (suc (suc (suc t))) h g a b c d e f = absurd (omega arith)

pub same_verdict : OneScheme → Excludes → (j k : Job) (input : List ℕ) (s t : ℕ) (x y : List ℕ) → IsSolveAnswer j input s x → IsSolveAnswer k input t y → s ≤ 2 → t ≤ 2 → s ≡ t
same_verdict law order j k input s t x y a b low few =
    three s t low few
    (λ e f. optimal_or_infeasible law order j k input x y (a.optimal e) (b.infeasible f))
    (λ e f. optimal_or_unbounded law order j k input x y (a.optimal e) (b.unbounded f))
    (λ e f. infeasible_or_unbounded law order j k input x y (a.infeasible e) (b.unbounded f))
    (λ e f. optimal_or_infeasible law order k j input y x (b.optimal e) (a.infeasible f))
    (λ e f. optimal_or_unbounded law order k j input y x (b.optimal e) (a.unbounded f))
    (λ e f. infeasible_or_unbounded law order k j input y x (b.infeasible e) (a.unbounded f))

-- ---- faults

-- where no fault is told, the input is a network text
network_read : (j : Job) (input : List ℕ) (s : ℕ) (x : List ℕ) → IsSolveAnswer j input s x → s ≤ 4 → (scheme : Scheme) × IsNetwork input scheme
network_read j input zero x a few = let h = a.optimal refl in (h.scheme, h.network)
network_read j input (suc zero) x a few = let h = a.infeasible refl in (h.scheme, h.network)
network_read j input (suc (suc zero)) x a few = let h = a.unbounded refl in (h.scheme, h.network)
network_read j input (suc (suc (suc zero))) x a few = let h = a.out_of_budget refl in (h.scheme, h.network)
network_read j input (suc (suc (suc (suc zero)))) x a few = let h = a.overflows refl in (h.scheme, h.network)
network_read j input (suc (suc (suc (suc (suc s))))) x a few = absurd (omega arith)

same_faults : (input x y : List ℕ) → IsFaulty tail.Nothing input x → IsFaulty tail.Nothing input y → x ≡ y
same_faults input x y a b =
    let told : ◌≡◌ {A = Result ℕ (ℕ × Code)} (Err (a.place, a.code)) (Err (b.place, b.code)) = sym a.fault ∙ b.fault in
    let same : ◌≡◌ {A = ℕ × Code} (a.place, a.code) (b.place, b.code) = cc told in
    a.text_is ∙ ap (λ (p : ℕ × Code). refused_text p.0 (code_word p.1)) same ∙ sym b.text_is

fault_again : (k : Job) (input : List ℕ) (t : ℕ) (x y : List ℕ) → IsFaulty tail.Nothing input x → IsSolveAnswer k input t y → (t ≤ 4) ⊎ (5 ≤ t) → t ≡ 5
fault_again k input t x y a b (inl few) = let read = network_read k input t y b few in absurd (cc (sym read.1.network ∙ a.fault))
fault_again k input t x y a b (inr more) = let known = b.known in omega arith

pub same_fault : (j k : Job) (input : List ℕ) (s t : ℕ) (x y : List ℕ) → IsSolveAnswer j input s x → IsSolveAnswer k input t y → s ≡ 5 → (t ≡ 5) × (x ≡ y)
same_fault j k input s t x y a b e =
    let again = fault_again k input t x y (a.refuses e) b (below t) in
    (again, same_faults input x y (a.refuses e) (b.refuses again))
