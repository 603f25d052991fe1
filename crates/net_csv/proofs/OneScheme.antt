-- Records are those of at most one scheme.
use Rattle.std.specs.Prelude.{◌≡◌, ℕ, List}
use Rattle.std.proofs.Common.{refl, sym, ap, ◌∙◌, subst}
use Rattle.np_frac.specs.Ratio.{Ratio}
use Rattle.np_model.specs.declared.scheme.Flow.{Flow}
use Rattle.np_model.specs.declared.scheme.Scheme.{Scheme}
use Rattle.np_model.specs.Scheme.Valid.{IsScheme, IsScheme-prop}
use Rattle.net_csv.specs.Grammar.{IsSchemeOf}

-- all of a scheme but that it is valid
abbrev Parts : Type 0
Parts = ℕ × List (List ℕ) × List Ratio × List Flow

abbrev parts : Scheme → Parts
parts s = (s.periods, s.nodes, s.supply, s.flows)

abbrev made : (p : Parts) → IsScheme p.0 p.1 p.2 p.3 → Scheme
made p v = record { periods = p.0; nodes = p.1; supply = p.2; flows = p.3; valid = v }

same-scheme : (s t : Scheme) → parts s ≡ parts t → s ≡ t
same-scheme s t e =
    subst (λ (p : Parts). (v : IsScheme p.0 p.1 p.2 p.3) → s ≡ made p v) e
    (λ v. ap (made (parts s)) (IsScheme-prop s.periods s.nodes s.supply s.flows s.valid v)) t.valid

pub one-scheme : (rows : List (List (List ℕ))) (s t : Scheme) → IsSchemeOf rows s → IsSchemeOf rows t → s ≡ t
one-scheme rows s t a b =
    let periods : s.periods ≡ t.periods = a.periods ∙ sym b.periods in
    let nodes : s.nodes ≡ t.nodes = a.nodes ∙ sym b.nodes in
    let supply : s.supply ≡ t.supply = a.supply ∙ sym b.supply in
    let flows : s.flows ≡ t.flows = a.flows ∙ sym b.flows in
    same-scheme s t (rw (periods, nodes, supply, flows) refl)
