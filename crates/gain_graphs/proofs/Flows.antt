-- There is a flow that takes what is asked at each node.
use Rattle.std.proofs.Common.{◌≡◌, sym, ap, refl, ◌∙◌, subst, ap₂, ℕ, List, [], ◌∷◌, ◌++◌, length, map}
use Rattle.gain_graphs.specs.Field.{Field}
use Rattle.gain_graphs.specs.Arcs.{IsIn, AreDistinct, Ends, only_at, coefficient, balance, pull}
use Rattle.gain_graphs.specs.QuasiTrees.{LiesIn}
use Rattle.gain_graphs.proofs.Lists.{in_map_of}
use Rattle.gain_graphs.proofs.Algebra
use Rattle.gain_graphs.proofs.Sums
use Rattle.gain_graphs.proofs.Equations
use Rattle.gain_graphs.proofs.Rigid
use Rattle.gain_graphs.proofs.Weights
use Rattle.gain_graphs.proofs.Weights.{combine}

module _ {Scalar : Type 0} (F : Field Scalar) (ends : ℕ → Ends Scalar) (ns arcs : List ℕ) (apart : AreDistinct ns)
    (lies : (a : ℕ) → IsIn a arcs → LiesIn F ns (ends a)) (as_many : length arcs ≡ length ns) (rigid : Rigid.IsRigid F ns (map ends arcs)) where
  infixl 60 ◌⊕◌
  infixl 70 ◌⊗◌
  open F use {zero, one, ◌⊕◌, ◌⊗◌, negated, plus_negated, times_comm, times_plus}

  weight : (before : List ℕ) (a : ℕ) (after : List ℕ) → before ++ a ∷ after ≡ arcs → ℕ → Scalar
  weight before a after e = (Weights.of_arc F ends ns arcs apart lies as_many rigid before a after e).weight

  -- the flows that take `need` at the nodes
  flows : (need : ℕ → Scalar) (before after : List ℕ) → before ++ after ≡ arcs → ℕ → Scalar
  flows need before [] e = λ a. zero
  flows need before (a ∷ after) e = Sums.put F a (Equations.dot F ns need (weight before a after e))
      (flows need (before ++ a ∷ []) after (Weights.on F ends ns arcs apart lies as_many rigid before a after e))

  column : (v : ℕ) (before after : List ℕ) → before ++ after ≡ arcs → ℕ → Scalar
  column v before after e = combine F ends ns arcs apart lies as_many rigid (λ a. coefficient F (ends a) v) before after e

  balance_of_flows : (need : ℕ → Scalar) (v : ℕ) (before after : List ℕ) (e : before ++ after ≡ arcs) → AreDistinct after →
      balance F ends (flows need before after e) after v ≡ Equations.dot F ns need (column v before after e)
  unfolding flows column combine weight
  balance_of_flows need v before [] e d = sym (Sums.total_zero F (λ u. need u ⊗ zero) ns (λ u _. Algebra.times_zero F (need u)))
  balance_of_flows need v before (a ∷ after) e d =
      ap₂ (λ x y. k ⊗ x ⊕ y) (Sums.put_same F a t rest)
      (Sums.total_same F (λ b. coefficient F (ends b) v ⊗ Sums.put F a t rest b) (λ b. coefficient F (ends b) v ⊗ rest b) after
      (λ b i. ap (λ x. coefficient F (ends b) v ⊗ x) (Sums.put_other F a t rest b (λ p. d.0 (subst (λ x. IsIn x after) p i))))
      ∙ balance_of_flows need v (before ++ a ∷ []) after e' d.1)
      ∙ ap (λ x. x ⊕ Equations.dot F ns need (column v (before ++ a ∷ []) after e')) (sym (Sums.total_times F k (λ u. need u ⊗ w u) ns)
      ∙ Sums.total_same F (λ u. k ⊗ (need u ⊗ w u)) (λ u. need u ⊗ (k ⊗ w u)) ns (λ u _. Algebra.times_left F k (need u) (w u)))
      ∙ sym (Sums.total_same F (λ u. need u ⊗ (k ⊗ w u ⊕ column v (before ++ a ∷ []) after e' u)) (λ u. need u ⊗ (k ⊗ w u) ⊕ need u ⊗ column v (before ++ a ∷ []) after e' u) ns
      (λ u _. times_plus (need u) (k ⊗ w u) (column v (before ++ a ∷ []) after e' u))
      ∙ Sums.total_plus F (λ u. need u ⊗ (k ⊗ w u)) (λ u. need u ⊗ column v (before ++ a ∷ []) after e' u) ns)
    where
      e' : (before ++ a ∷ []) ++ after ≡ arcs
      e' = Weights.on F ends ns arcs apart lies as_many rigid before a after e

      w : ℕ → Scalar
      w = weight before a after e

      t : Scalar
      t = Equations.dot F ns need w

      rest : ℕ → Scalar
      rest = flows need (before ++ a ∷ []) after e'

      k : Scalar
      k = coefficient F (ends a) v

  -- the column of a node is 1 at it and 0 at each other
  unit : (v : ℕ) → IsIn v ns → (u : ℕ) → IsIn u ns → column v [] arcs refl u ≡ only_at F v one u
  unfolding column
  unit v i u j = Algebra.same_of F (p u) (z u) (ap (λ t. p u ⊕ t) (sym (Algebra.negated_times F one (z u) ∙ ap negated (Algebra.one_times F (z u)))) ∙ rigid q flat u j)
    where
      p : ℕ → Scalar
      p = column v [] arcs refl

      z : ℕ → Scalar
      z = only_at F v one

      q : ℕ → Scalar
      q x = p x ⊕ negated one ⊗ z x

      at_unit : (a : ℕ) → IsIn a arcs → pull F (ends a) z ≡ coefficient F (ends a) v
      at_unit a k = sym (Rigid.dot_coefficient F ns (ends a) z apart (lies a k))
          ∙ Sums.total_same F (λ x. coefficient F (ends a) x ⊗ z x) (λ x. z x ⊗ coefficient F (ends a) x) ns (λ x _. times_comm (coefficient F (ends a) x) (z x))
          ∙ Rigid.dot_only_at F ns v one (coefficient F (ends a)) apart i ∙ Algebra.one_times F (coefficient F (ends a) v)

      flat : (b : Ends Scalar) → IsIn b (map ends arcs) → pull F b q ≡ zero
      flat b k =
          let r = in_map_of ends b arcs k in
          Rigid.pull_plus F b p (λ x. negated one ⊗ z x)
          ∙ ap₂ (λ x y. x ⊕ y) (ap (λ t. pull F t p) r.2 ∙ Weights.later F ends ns arcs apart lies as_many rigid (λ a. coefficient F (ends a) v) [] arcs refl r.0 r.1)
          (Rigid.pull_times F b (negated one) z ∙ ap (λ t. negated one ⊗ t) (ap (λ t. pull F t z) r.2 ∙ at_unit r.0 r.1) ∙ Algebra.negated_times F one (coefficient F (ends r.0) v) ∙ ap negated (Algebra.one_times F (coefficient F (ends r.0) v)))
          ∙ plus_negated (coefficient F (ends r.0) v)

  pub flow_exists : AreDistinct arcs → (need : ℕ → Scalar) → (x : ℕ → Scalar) × ((v : ℕ) → IsIn v ns → balance F ends x arcs v ≡ need v)
  flow_exists d need = (
    flows need [] arcs refl,
    λ v i. balance_of_flows need v [] arcs refl d
        ∙ Sums.total_same F (λ u. need u ⊗ column v [] arcs refl u) (λ u. only_at F v one u ⊗ need u) ns
        (λ u j. ap (λ t. need u ⊗ t) (unit v i u j) ∙ times_comm (need u) (only_at F v one u))
        ∙ Rigid.dot_only_at F ns v one need apart i ∙ Algebra.one_times F (need v),
  )
