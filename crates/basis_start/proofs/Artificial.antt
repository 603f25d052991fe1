-- The artificial arcs of the start, as those of one node after the other are added.
use Rattle.std.specs.Prelude.{◌≡◌, ℕ, ◌+◌, ◌<◌, Bool, true, false, if◌then◌else◌, Ok, List, [], ◌∷◌, ◌++◌, length, map, is_ok}
use Rattle.std.specs.List.{range_with_len}
use Rattle.std.proofs.Common.{refl, sym, ap, ◌∙◌, inl, inr, arith}
use Rattle.std.proofs.lemmas.List.{append_assoc, length-map}
use Rattle.std.proofs.lemmas.List.FromFn.{map-range_with_len_more, get_or-map-range_with_len, length-range_with_len}
use Rattle.std.proofs.lemmas.Bool.{cases_eq}
use Rattle.np_frac.specs.Ratio.{Ratio, zero_ratio, negated, is_below}
use Rattle.np_model.specs.declared.arc.Ends.TheVariants.{Drain, Feed}
use Rattle.np_model.specs.Network.Flows.{Network, at}
use Rattle.np_model.specs.Basis.Artificial.{IsOneEndAt, AreArtificial}
use Rattle.np_model.specs.Basis.Starts.{residual, artificial_end, artificial_flow, artificial_ends, nodes_from_0}
use Rattle.np_model.specs.Rows.Arcs.{residual_of}
use Rattle.basis_start.specs.Start.{ResidualFits}

-- a list of what f makes of the numbers so far, and of the next one
pub one_more_number : {A : Type 0} (f : ℕ → A) (start : List A) (n : ℕ) (xs ys : List A) (x : A) → xs ≡ start ++ map f (range_with_len 0 n) → x ≡ f n → ys ≡ xs ++ x ∷ []
    → ys ≡ start ++ map f (range_with_len 0 (n + 1))
one_more_number f start n xs ys x before here after =
    after ∙ ap (λ t. t ++ x ∷ []) before ∙ append_assoc start (map f (range_with_len 0 n)) (x ∷ [])
    ∙ ap (λ t. start ++ t) (ap (λ z. map f (range_with_len 0 n) ++ z ∷ []) here ∙ sym (map-range_with_len_more f 0 n n (omega arith)))

-- the residuals of the nodes so far fit, and that of the next one
pub one_more_fits : (net : Network) (n : ℕ) (r : Ratio) → ((v : ℕ) → v < n → ResidualFits net v) → residual_of net.arcs n (at net.supply n) ≡ Ok r
    → (v : ℕ) → v < n + 1 → ResidualFits net v
one_more_fits net n r before here v below = elim (cases_eq v n) [
  | inl e ↦ rw e (ap is_ok here)
  | inr apart ↦ before v (omega (arith, apart))
]

-- the artificial arcs of the start are one at each node
pub artificial_valid : (net : Network) → AreArtificial (length net.supply) (artificial_ends net)
artificial_valid net = record {
  one_each = length-map (nodes_from_0 net) (artificial_end net) ∙ length-range_with_len 0 (length net.supply);
  at_nodes = λ v other below.
      rw (get_or-map-range_with_len (artificial_end net) 0 (length net.supply) v v other below (omega arith)) (either v (is_below (residual net v) zero_ratio));
}
  where
    either : (v : ℕ) (b : Bool) → IsOneEndAt v (if b then Feed v else Drain v)
    either v true = refl
    either v false = refl

-- the artificial arc and its flow, by what is left over
pub end_is : (net : Network) (v : ℕ) (r : Ratio) → r ≡ residual net v → (if is_below r zero_ratio then Feed v else Drain v) ≡ artificial_end net v
end_is net v r e = ap (λ (q : Ratio). if is_below q zero_ratio then Feed v else Drain v) e

pub flow_is : (net : Network) (v : ℕ) (r : Ratio) → r ≡ residual net v → (if is_below r zero_ratio then negated r else r) ≡ artificial_flow net v
flow_is net v r e = ap (λ (q : Ratio). if is_below q zero_ratio then negated q else q) e
