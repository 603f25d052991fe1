-- Fewer equations than unknowns have a solution that is not 0.
use Rattle.std.proofs.Common.{◌≡◌, ◌≢◌, ◌⊎◌, inl, inr, sym, ap, refl, ◌∙◌, subst, ap₂, ℕ, suc, zero, ◌<◌, List, [], ◌∷◌, length, map, arith}
use Rattle.gain_graphs.specs.Field.{Field, total}
use Rattle.gain_graphs.specs.Arcs.{IsIn, AreDistinct}
use Rattle.gain_graphs.proofs.Lists.{in_map, length_map}
use Rattle.gain_graphs.proofs.Algebra
use Rattle.gain_graphs.proofs.Sums

module _ {Scalar : Type 0} (F : Field Scalar) where
  infixl 60 ◌⊕◌
  infixl 70 ◌⊗◌
  open F use {one, ◌⊕◌, ◌⊗◌, negated, inverse, plus_comm, times_assoc, times_inverse}

  -- the product of a row and a vector over the nodes of a list
  abbrev pub dot : List ℕ → (ℕ → Scalar) → (ℕ → Scalar) → Scalar
  dot ns r q = total F (λ v. r v ⊗ q v) ns

  pub record Solution (rows : List (ℕ → Scalar)) (ns : List ℕ) : Type 0 where
    pub value : ℕ → Scalar
    pub solves : (r : ℕ → Scalar) → IsIn r rows → dot ns r value ≡ F.zero
    pub place : ℕ
    pub inside : IsIn place ns
    pub apart : value place ≢ F.zero

  -- what is left of the row `s` when `r` has been used to remove the unknown at `i`
  reduce : (r : ℕ → Scalar) → ℕ → (ℕ → Scalar) → ℕ → Scalar
  reduce r i s v = s v ⊕ negated ((s i ⊗ inverse (r i)) ⊗ r v)

  dot_reduce : (ns : List ℕ) (r : ℕ → Scalar) (i : ℕ) (s q : ℕ → Scalar) → dot ns (reduce r i s) q ≡ dot ns s q ⊕ negated ((s i ⊗ inverse (r i)) ⊗ dot ns r q)
  unfolding reduce
  dot_reduce ns r i s q =
      Sums.total_same F (λ v. (s v ⊕ negated ((s i ⊗ inverse (r i)) ⊗ r v)) ⊗ q v) (λ v. s v ⊗ q v ⊕ negated (s i ⊗ inverse (r i)) ⊗ (r v ⊗ q v)) ns
      (λ v _. Algebra.plus_times F (s v) (negated ((s i ⊗ inverse (r i)) ⊗ r v)) (q v)
      ∙ ap (λ t. s v ⊗ q v ⊕ t) (ap (λ t. t ⊗ q v) (sym (Algebra.negated_times F (s i ⊗ inverse (r i)) (r v))) ∙ times_assoc (negated (s i ⊗ inverse (r i))) (r v) (q v)))
      ∙ Sums.total_plus F (λ v. s v ⊗ q v) (λ v. negated (s i ⊗ inverse (r i)) ⊗ (r v ⊗ q v)) ns
      ∙ ap (λ t. dot ns s q ⊕ t) (Sums.total_times F (negated (s i ⊗ inverse (r i))) (λ v. r v ⊗ q v) ns ∙ Algebra.negated_times F (s i ⊗ inverse (r i)) (dot ns r q))

  -- one more row, by a solution for the other rows without the unknown at `i`
  step : (r : ℕ → Scalar) (rows : List (ℕ → Scalar)) (ns : List ℕ) (i : ℕ) (o : Sums.Out F i ns) → r i ≢ F.zero →
      Solution (map (reduce r i) rows) o.rest → Solution (r ∷ rows) ns
  step r rows ns i o h sol = record {
    value = q;
    solves = λ s. elim [ inl e ↦ subst (λ z. dot ns z q ≡ F.zero) (sym e) own | inr j ↦ other s j ];
    place = sol.place;
    inside = (o.within sol.place sol.inside).0;
    apart = λ e. sol.apart (sym (Sums.put_other F i x sol.value sol.place (o.within sol.place sol.inside).1) ∙ e);
  }
    where
      x : Scalar
      x = negated (inverse (r i) ⊗ dot o.rest r sol.value)

      q : ℕ → Scalar
      q = Sums.put F i x sol.value

      split : (s : ℕ → Scalar) → dot ns s q ≡ s i ⊗ x ⊕ dot o.rest s sol.value
      split s = o.sums (λ v. s v ⊗ q v)
          ∙ ap₂ (λ a b. s i ⊗ a ⊕ b) (Sums.put_same F i x sol.value)
          (Sums.total_same F (λ v. s v ⊗ q v) (λ v. s v ⊗ sol.value v) o.rest (λ v j. ap (λ t. s v ⊗ t) (Sums.put_other F i x sol.value v (o.within v j).1)))

      at_i : (s : ℕ → Scalar) → s i ⊗ x ≡ negated ((s i ⊗ inverse (r i)) ⊗ dot o.rest r sol.value)
      at_i s = Algebra.times_negated F (s i) (inverse (r i) ⊗ dot o.rest r sol.value) ∙ ap negated (sym (times_assoc (s i) (inverse (r i)) (dot o.rest r sol.value)))

      own : dot ns r q ≡ F.zero
      own = split r ∙ ap (λ t. t ⊕ dot o.rest r sol.value) (at_i r ∙ ap (λ t. negated (t ⊗ dot o.rest r sol.value)) (times_inverse (r i) h) ∙ ap negated (Algebra.one_times F (dot o.rest r sol.value))) ∙ Algebra.negated_plus F (dot o.rest r sol.value)

      other : (s : ℕ → Scalar) → IsIn s rows → dot ns s q ≡ F.zero
      other s j = split s ∙ ap (λ t. t ⊕ dot o.rest s sol.value) (at_i s) ∙ plus_comm (negated ((s i ⊗ inverse (r i)) ⊗ dot o.rest r sol.value)) (dot o.rest s sol.value)
          ∙ sym (dot_reduce o.rest r i s sol.value) ∙ sol.solves (reduce r i s) (in_map (reduce r i) s rows j)

  -- by the number of rows, since the rows change
  solve_rows : (k : ℕ) (rows : List (ℕ → Scalar)) (ns : List ℕ) → length rows ≡ k → AreDistinct ns → k < length ns → Solution rows ns
  solve_rows k [] [] e d l = absurd (omega arith)
  solve_rows k [] (n ∷ ns) e d l = record { value = λ v. one; solves = λ r j. absurd j; place = n; inside = inl refl; apart = F.one_is_not_zero }
  solve_rows zero (r ∷ rows) ns e d l = absurd (omega arith)
  solve_rows (suc k) (r ∷ rows) ns e d l = go (solve_rows k) (Sums.look F r ns)
    where
      go : ((rs : List (ℕ → Scalar)) (ms : List ℕ) → length rs ≡ k → AreDistinct ms → k < length ms → Solution rs ms)
          → ((v : ℕ) → IsIn v ns → r v ≡ F.zero) ⊎ ((v : ℕ) × IsIn v ns × (r v ≢ F.zero)) → Solution (r ∷ rows) ns
      go ih (inl z) =
          let sol : Solution rows ns = ih rows ns (omega arith) d (omega arith) in
          record {
            value = sol.value;
            place = sol.place;
            inside = sol.inside;
            apart = sol.apart;
            solves = λ s. elim [
              | inl e ↦ Sums.total_zero F (λ v. s v ⊗ sol.value v) ns (λ v j. ap (λ t. t ⊗ sol.value v) (ap (λ u. u v) e ∙ z v j) ∙ Algebra.zero_times F (sol.value v))
              | inr j ↦ sol.solves s j
            ];
          }
      go ih (inr w) =
          let o : Sums.Out F w.0 ns = Sums.take_out F w.0 ns d w.1 in
          let long : length ns ≡ suc (length o.rest) = o.shorter in
          step r rows ns w.0 o w.2 (ih (map (reduce r w.0) rows) o.rest (length_map (reduce r w.0) rows ∙ omega arith) o.apart (omega arith))

  pub solve : (rows : List (ℕ → Scalar)) (ns : List ℕ) → AreDistinct ns → length rows < length ns → Solution rows ns
  solve rows ns d l = solve_rows (length rows) rows ns refl d l
