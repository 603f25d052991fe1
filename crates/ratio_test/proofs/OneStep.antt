-- One step of a direction more.
use Rattle.std.specs.Prelude.{◌≡◌, ℕ, ◌+◌, ◌<◌, List, [], ◌∷◌, ◌++◌, length, Option, Result, Ok, Err}
use Rattle.std.specs.List.Sorted.{IsStrictlyIncreasing}
use Rattle.std.specs.Result.{IsOk}
use Rattle.std.proofs.Common.{refl, sym, ap, ◌∙◌, subst, inl, inr, get_or, take, drop}
use Rattle.std.proofs.lemmas.List.{map_more, map-append, take-append-drop, drop_more}
use Rattle.gain_graphs.specs.Arcs.{IsIn}
use Rattle.gain_graphs.proofs.Lists.{in_append, in_map, in_list}
use Rattle.np_frac.specs.Ratio.{Ratio, zero_ratio}
use Rattle.np_frac.specs.declared.frac.Past.{Past}
use Rattle.np_model.specs.declared.arc.NetArc.{NetArc}
use Rattle.np_model.specs.Basis.Pieces.{beside}
use Rattle.np_model.specs.Rows.Arcs.{all_of, limit_of}
use Rattle.np_model.specs.Rows.Moving.{numbers_of_steps}
use Rattle.ratio_test.specs.Steps.Soonest.{with_limit, IsSoonestOf}
use Rattle.ratio_test.specs.declared.stop.Stop.{Stop}
use Rattle.ratio_test.proofs.First.{one_more, first_past}
use Rattle.ratio_test.proofs.Members.{before_below, own_amount}

-- the same limit, in other words
pub limit_is : (arc : NetArc) (flow flow' amount amount' : Ratio) (r s : Result (Option Ratio) Past) → r ≡ limit_of arc flow amount → flow ≡ flow' → amount' ≡ amount → r ≡ s
    → limit_of arc flow' amount' ≡ s
limit_is arc flow flow' amount amount' r s e f g h = rw (g, ← f) (sym e ∙ h)

module _ (steps : List (ℕ × Ratio)) (i : ℕ) (x : ℕ × Ratio) (rises : IsStrictlyIncreasing (numbers_of_steps steps)) (inside : i < length steps) (read : x ≡ get_or steps i x) where
  pub amount_is : beside zero_ratio steps x.0 ≡ x.1
  amount_is = subst (λ (y : ℕ × Ratio). beside zero_ratio steps y.0 ≡ y.1) (sym read) (own_amount steps rises zero_ratio i x inside)

  pub stands : IsIn x.0 (numbers_of_steps steps)
  stands = in_map (λ (y : ℕ × Ratio). y.0) x steps (subst (λ (y : ℕ × Ratio). IsIn y steps) (sym read) (in_list steps i x inside))

  moving_more : numbers_of_steps (take (i + 1) steps) ≡ numbers_of_steps (take i steps) ++ x.0 ∷ []
  moving_more = map_more (λ (y : ℕ × Ratio). y.0) steps i x inside ∙ ap (λ (y : ℕ × Ratio). numbers_of_steps (take i steps) ++ y.0 ∷ []) (sym read)

  below : (b : ℕ) → IsIn b (numbers_of_steps (take i steps)) → b < x.0
  below b k = subst (λ (y : ℕ × Ratio). b < y.0) (sym read) (before_below steps rises b i x inside k)

  module _ (limit : ℕ → Result (Option Ratio) Past) where
    pub soonest_more : (enter : ℕ) (best : Option Stop) (m : Option Ratio) → limit x.0 ≡ Ok m
        → IsSoonestOf limit (beside zero_ratio steps) enter (numbers_of_steps (take i steps)) best → IsSoonestOf limit (beside zero_ratio steps) enter (numbers_of_steps (take (i + 1) steps)) (with_limit enter best x m)
    soonest_more enter best m e h =
        subst (λ (t : List ℕ). IsSoonestOf limit (beside zero_ratio steps) enter t (with_limit enter best x m)) (sym moving_more)
        (one_more limit (beside zero_ratio steps) enter (numbers_of_steps (take i steps)) x.0 x.1 m best amount_is e h below)

    pub fit_more : (m : Option Ratio) → limit x.0 ≡ Ok m → ((a : ℕ) → IsIn a (numbers_of_steps (take i steps)) → IsOk (limit a)) → (a : ℕ) → IsIn a (numbers_of_steps (take (i + 1) steps)) → IsOk (limit a)
    fit_more m e h a k = elim (in_append a (numbers_of_steps (take i steps)) (x.0 ∷ []) (subst (λ (t : List ℕ). IsIn a t) moving_more k)) [
      | inl l ↦ h a l
      | inr r ↦ elim r [ inl s ↦ rw (s, e) refl | inr n ↦ absurd n ]
    ]

    pub past_here : (past : Past) → limit x.0 ≡ Err past → ((a : ℕ) → IsIn a (numbers_of_steps (take i steps)) → IsOk (limit a)) → all_of limit (numbers_of_steps steps) ≡ Err past
    past_here past e h =
        let cut : steps ≡ take i steps ++ x ∷ drop (i + 1) steps = sym (take-append-drop i steps) ∙ ap (λ (t : List (ℕ × Ratio)). take i steps ++ t) (drop_more steps i x inside ∙ ap (λ (y : ℕ × Ratio). y ∷ drop (i + 1) steps) (sym read)) in
        let split : numbers_of_steps steps ≡ numbers_of_steps (take i steps) ++ x.0 ∷ numbers_of_steps (drop (i + 1) steps) = ap numbers_of_steps cut ∙ map-append (λ (y : ℕ × Ratio). y.0) (take i steps) (x ∷ drop (i + 1) steps) in
        ap (λ (t : List ℕ). all_of limit t) split ∙ first_past limit (numbers_of_steps (take i steps)) (numbers_of_steps (drop (i + 1) steps)) x.0 past h e
