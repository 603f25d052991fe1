-- Running values of many places, each a ratio or the operation that overflowed, when those at two places go on.
use Rattle.std.specs.Prelude.{◌≡◌, ◌≢◌, ℕ, ◌<◌, Result, Ok, List, length}
use Rattle.std.proofs.Common.{sym, ◌∙◌, inl, inr, arith, get_or, set}
use Rattle.std.proofs.lemmas.Bool.{cases_eq}
use Rattle.std.proofs.lemmas.Grind.{common_steps}
use Rattle.np_frac.specs.Ratio.{Ratio}
use Rattle.np_frac.specs.Exact.{◌▷◌}
use Rattle.np_frac.specs.declared.frac.Past.{Past}
use Rattle.np_frac.proofs.Folds.{bind_same, bind_ok}

abbrev pub Running : Type 0
Running = Result Ratio Past

-- an element that is there, whatever stands for one that is not
pub element_is : {A : Type 0} (xs : List A) (i : ℕ) (r d : A) → i < length xs → r ≡ get_or xs i r → get_or xs i d ≡ r
element_is xs i r d h e = grind (arith, common_steps, e)

-- those at two places go on by f and by g, and no other: each goes on by h, which is f at the one, g at the other, and nothing elsewhere
pub two_go_on : (xs : List Running) (i j v : ℕ) (f g h : Ratio → Running) (r s a b d : Running) → i < length xs → j < length xs → i ≢ j
    → r ≡ get_or xs i r → a ≡ r ▷ f → s ≡ get_or (set xs i a) j s → b ≡ s ▷ g
    → (v ≡ i → (y : Ratio) → h y ≡ f y) → (v ≢ i → v ≡ j → (y : Ratio) → h y ≡ g y) → (v ≢ i → v ≢ j → (y : Ratio) → h y ≡ Ok y)
    → v < length xs → get_or (set (set xs i a) j b) v d ≡ get_or xs v d ▷ h
two_go_on xs i j v f g h r s a b d at_i at_j differ r_is a_is s_is b_is first second neither below =
    elim (cases_eq v i) [
      | inl e ↦
          let elsewhere : v ≢ j = λ p. differ (sym e ∙ p) in
          let read : get_or xs v d ≡ r = rw e (element_is xs i r d at_i r_is) in
          let written : get_or (set (set xs i a) j b) v d ≡ a = grind (arith, common_steps) in
          written ∙ a_is ∙ sym (rw read (bind_same r h f (first e)))
      | inr n ↦ elim (cases_eq v j) [
        | inl e ↦
            let long : j < length (set xs i a) = grind (arith, common_steps) in
            let before : get_or (set xs i a) v d ≡ get_or xs v d = grind (arith, common_steps) in
            let read : get_or xs v d ≡ s = sym before ∙ rw e (element_is (set xs i a) j s d long s_is) in
            let written : get_or (set (set xs i a) j b) v d ≡ b = grind (arith, common_steps) in
            written ∙ b_is ∙ sym (rw read (bind_same s h g (second n e)))
        | inr m ↦
            let kept : get_or (set (set xs i a) j b) v d ≡ get_or xs v d = grind (arith, common_steps) in
            kept ∙ sym (bind_ok (get_or xs v d) h (neither n m))
      ]
    ]
