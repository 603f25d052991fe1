-- An input stands for at most one scheme and one plan.
use Rattle.std.specs.Prelude.{◌≡◌, ℕ, List, Result, Ok}
use Rattle.std.proofs.Common.{subst}
use Rattle.np_model.specs.declared.scheme.Scheme.{Scheme}
use Rattle.np_model.specs.declared.plan.Plan.{Plan}
use Rattle.net_csv.specs.Grammar.{IsSchemeOf}
use Rattle.net_csv.specs.declared.refused.Code.{Code}
use Rattle.certificates.specs.Grammar.{IsPlanOf}
use Rattle.netplan_top.specs.Commands.Check.{HasNetwork, StandsFor, rest_of}

-- records are those of at most one scheme, and behind it of at most one plan
abbrev pub OneScheme : Type 0
OneScheme = (rows : List (List (List ℕ))) (s t : Scheme) → IsSchemeOf rows s → IsSchemeOf rows t → s ≡ t

abbrev pub OnePlan : Type 0
OnePlan = (scheme : Scheme) (rows : List (List (List ℕ))) (p q : Plan) → IsPlanOf scheme rows p → IsPlanOf scheme rows q → p ≡ q

ok_is : (x : Result ℕ (ℕ × Code)) (k l : ℕ) → x ≡ Ok k → x ≡ Ok l → k ≡ l
ok_is x k l a b = cc

pub count_is : (input : List ℕ) (s t : Scheme) (k l : ℕ) → HasNetwork input s k → HasNetwork input t l → k ≡ l
count_is input s t k l a b = ok_is _ k l a.network b.network

pub scheme_is : OneScheme → (input : List ℕ) (s t : Scheme) (p q : Plan) → StandsFor input s p → StandsFor input t q → s ≡ t
scheme_is law input s t p q a b = law _ s t a.network.scheme_is b.network.scheme_is

pub plan_is : OneScheme → OnePlan → (input : List ℕ) (s t : Scheme) (p q : Plan) → StandsFor input s p → StandsFor input t q → p ≡ q
plan_is law plans input s t p q a b =
    let e : s ≡ t = scheme_is law input s t p q a b in
    let f : a.count ≡ b.count = count_is input s t a.count b.count a.network b.network in
    let there : IsPlanOf t (rest_of input b.count) p =
    subst (λ (u : Scheme). IsPlanOf u (rest_of input b.count) p) e (subst (λ (k : ℕ). IsPlanOf s (rest_of input k) p) f a.plan_is) in
    plans t (rest_of input b.count) p q there b.plan_is
