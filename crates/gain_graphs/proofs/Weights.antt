-- The node weights of an arc, and the flow of each arc by them.
use Rattle.std.proofs.Common.{◌≡◌, inl, inr, sym, ap, refl, ◌∙◌, subst, ap₂, ℕ, List, [], ◌∷◌, ◌++◌, length, map, append_assoc, arith}
use Rattle.gain_graphs.specs.Field.{Field, total}
use Rattle.gain_graphs.specs.Arcs.{IsIn, AreDistinct, Ends, Link, Drain, Feed, coefficient, balance, pull}
use Rattle.gain_graphs.specs.QuasiTrees.{LiesIn, IsQuasiTree}
use Rattle.gain_graphs.proofs.Lists.{in_front, in_back, in_others, in_with, length_marked, in_map, length_map, map_append, in_map_of}
use Rattle.gain_graphs.proofs.Algebra
use Rattle.gain_graphs.proofs.Sums
use Rattle.gain_graphs.proofs.Equations
use Rattle.gain_graphs.proofs.Rigid

module _ {Scalar : Type 0} (F : Field Scalar) where
  infixl 70 ◌⊗◌
  open F use {zero, one, ◌⊗◌, inverse, decide}

  -- the node weights of the arc `a`
  pub record Weights (ns : List ℕ) (a : Ends Scalar) (others : List (Ends Scalar)) : Type 0 where
    pub weight : ℕ → Scalar
    pub own : pull F a weight ≡ one
    pub other : (b : Ends Scalar) → IsIn b others → pull F b weight ≡ zero

  -- where there are as many arcs as nodes, each arc has its node weights
  pub weights : (ns : List ℕ) (before : List (Ends Scalar)) (a : Ends Scalar) (after : List (Ends Scalar)) → AreDistinct ns
      → ((b : Ends Scalar) → IsIn b (before ++ a ∷ after) → LiesIn F ns b)
      → length (before ++ a ∷ after) ≡ length ns → Rigid.IsRigid F ns (before ++ a ∷ after) → Weights ns a (before ++ after)
  weights ns before a after d lies n r = go (decide (pull F a q) zero)
    where
      sol : Equations.Solution F (map (coefficient F) (before ++ after)) ns
      sol = Equations.solve F (map (coefficient F) (before ++ after)) ns d (rw length_map (omega (arith, length_marked before a after)))

      q : ℕ → Scalar
      q = sol.value

      flat : (b : Ends Scalar) → IsIn b (before ++ after) → pull F b q ≡ zero
      flat b i = sym (Rigid.dot_coefficient F ns b q d (lies b (in_with b before a after i))) ∙ sol.solves (coefficient F b) (in_map (coefficient F) b (before ++ after) i)

      go : Dec (pull F a q ≡ zero) → Weights ns a (before ++ after)
      go (yes z) = absurd (sol.apart (r q (λ b i. elim (in_others b before a after i) [ inl e ↦ ap (λ t. pull F t q) e ∙ z | inr j ↦ flat b j ]) sol.place sol.inside))
      go (no h) = record {
        weight = λ v. inverse (pull F a q) ⊗ q v;
        own = Rigid.pull_times F a (inverse (pull F a q)) q ∙ Algebra.inverse_times F (pull F a q) h;
        other = λ b i. Rigid.pull_times F b (inverse (pull F a q)) q ∙ ap (λ t. inverse (pull F a q) ⊗ t) (flat b i) ∙ Algebra.times_zero F (inverse (pull F a q));
      }

module _ {Scalar : Type 0} (F : Field Scalar) (ends : ℕ → Ends Scalar) where
  infixl 60 ◌⊕◌
  infixl 70 ◌⊗◌
  open F use {zero, one, ◌⊕◌, ◌⊗◌, negated, plus_zero, plus_negated, times_assoc, times_comm, times_one}

  pub weigh : (ns : List ℕ) (x : ℕ → Scalar) (arcs : List ℕ) (y : ℕ → Scalar) → AreDistinct ns → ((a : ℕ) → IsIn a arcs → LiesIn F ns (ends a))
      → Equations.dot F ns (balance F ends x arcs) y ≡ total F (λ a. pull F (ends a) y ⊗ x a) arcs
  weigh ns x arcs y d lies =
      Sums.total_same F (λ v. balance F ends x arcs v ⊗ y v) (λ v. total F (λ a. (coefficient F (ends a) v ⊗ y v) ⊗ x a) arcs) ns
      (λ v _. times_comm (balance F ends x arcs v) (y v) ∙ sym (Sums.total_times F (y v) (λ a. coefficient F (ends a) v ⊗ x a) arcs)
      ∙ Sums.total_same F (λ a. y v ⊗ (coefficient F (ends a) v ⊗ x a)) (λ a. (coefficient F (ends a) v ⊗ y v) ⊗ x a) arcs
      (λ a _. sym (times_assoc (y v) (coefficient F (ends a) v) (x a)) ∙ ap (λ t. t ⊗ x a) (times_comm (y v) (coefficient F (ends a) v))))
      ∙ Sums.total_swap F (λ v a. (coefficient F (ends a) v ⊗ y v) ⊗ x a) ns arcs
      ∙ Sums.total_same F (λ a. total F (λ v. (coefficient F (ends a) v ⊗ y v) ⊗ x a) ns) (λ a. pull F (ends a) y ⊗ x a) arcs
      (λ a i. Sums.total_same F (λ v. (coefficient F (ends a) v ⊗ y v) ⊗ x a) (λ v. x a ⊗ (coefficient F (ends a) v ⊗ y v)) ns (λ v _. times_comm (coefficient F (ends a) v ⊗ y v) (x a))
      ∙ Sums.total_times F (x a) (λ v. coefficient F (ends a) v ⊗ y v) ns
      ∙ times_comm (x a) (Equations.dot F ns (coefficient F (ends a)) y)
      ∙ ap (λ t. t ⊗ x a) (Rigid.dot_coefficient F ns (ends a) y d (lies a i)))

  -- the node weights of the arc `a`, with those of the others 0
  pub record WeightsOf (ns : List ℕ) (a : ℕ) (others : List ℕ) : Type 0 where
    pub weight : ℕ → Scalar
    pub own : pull F (ends a) weight ≡ one
    pub other : (b : ℕ) → IsIn b others → pull F (ends b) weight ≡ zero

  -- the flow of each arc by its weights, from what the arcs take at each node
  pub by_weights : (ns : List ℕ) (x : ℕ → Scalar) (before : List ℕ) (a : ℕ) (after : List ℕ) (need : ℕ → Scalar) → AreDistinct ns
      → ((b : ℕ) → IsIn b (before ++ a ∷ after) → LiesIn F ns (ends b))
      → (y : WeightsOf ns a (before ++ after))
      → ((v : ℕ) → IsIn v ns → balance F ends x (before ++ a ∷ after) v ≡ need v)
      → x a ≡ Equations.dot F ns need y.weight
  by_weights ns x before a after need d lies y meets =
      sym (Sums.total_append F f before (a ∷ after)
      ∙ ap₂ (λ p q. p ⊕ (f a ⊕ q)) (Sums.total_zero F f before (λ b i. zero_at b (in_front b before after i))) (Sums.total_zero F f after (λ b i. zero_at b (in_back b before after i)))
      ∙ Algebra.zero_plus F (f a ⊕ zero) ∙ plus_zero (f a) ∙ ap (λ t. t ⊗ x a) y.own ∙ Algebra.one_times F (x a))
      ∙ sym (weigh ns x (before ++ a ∷ after) y.weight d lies)
      ∙ Sums.total_same F (λ v. balance F ends x (before ++ a ∷ after) v ⊗ y.weight v) (λ v. need v ⊗ y.weight v) ns (λ v i. ap (λ t. t ⊗ y.weight v) (meets v i))
    where
      f : ℕ → Scalar
      f b = pull F (ends b) y.weight ⊗ x b

      zero_at : (b : ℕ) → IsIn b (before ++ after) → f b ≡ zero
      zero_at b i = ap (λ t. t ⊗ x b) (y.other b i) ∙ Algebra.zero_times F (x b)

  module _ (ns : List ℕ) (arcs : List ℕ) (apart : AreDistinct ns) (lies : (a : ℕ) → IsIn a arcs → LiesIn F ns (ends a))
      (as_many : length arcs ≡ length ns) (rigid : Rigid.IsRigid F ns (map ends arcs)) where
    -- the weights of the arc that stands between `before` and `after`
    pub of_arc : (before : List ℕ) (a : ℕ) (after : List ℕ) → before ++ a ∷ after ≡ arcs → WeightsOf ns a (before ++ after)
    of_arc before a after e =
        record { weight = w.weight; own = w.own; other = λ b i. w.other (ends b) (subst (λ t. IsIn (ends b) t) (map_append ends before after) (in_map ends b (before ++ after) i)) }
      where
        split : map ends before ++ ends a ∷ map ends after ≡ map ends arcs
        split = sym (map_append ends before (a ∷ after)) ∙ ap (map ends) e

        w : Weights F ns (ends a) (map ends before ++ map ends after)
        w = weights F ns (map ends before) (ends a) (map ends after) apart
            (λ b i. let r = in_map_of ends b arcs (subst (λ t. IsIn b t) split i) in subst (λ t. LiesIn F ns t) (sym r.2) (lies r.0 r.1))
            (ap length split ∙ length_map ends arcs ∙ as_many)
            (subst (λ t. Rigid.IsRigid F ns t) (sym split) rigid)

    pub on : (before : List ℕ) (a : ℕ) (after : List ℕ) → before ++ a ∷ after ≡ arcs → (before ++ a ∷ []) ++ after ≡ arcs
    on before a after e = append_assoc before (a ∷ []) after ∙ e

    -- the sum of the weights, each times the number of its arc
    unfoldable pub combine : (c : ℕ → Scalar) (before after : List ℕ) → before ++ after ≡ arcs → ℕ → Scalar
    combine c before [] e v = zero
    combine c before (a ∷ after) e v = c a ⊗ (of_arc before a after e).weight v ⊕ combine c (before ++ a ∷ []) after (on before a after e) v

    pull_combine : (b : Ends Scalar) (c : ℕ → Scalar) (before : List ℕ) (a : ℕ) (after : List ℕ) (e : before ++ a ∷ after ≡ arcs) →
        pull F b (combine c before (a ∷ after) e) ≡ c a ⊗ pull F b (of_arc before a after e).weight ⊕ pull F b (combine c (before ++ a ∷ []) after (on before a after e))
    unfolding combine
    pull_combine b c before a after e =
        Rigid.pull_plus F b (λ v. c a ⊗ (of_arc before a after e).weight v) (combine c (before ++ a ∷ []) after (on before a after e))
        ∙ ap (λ t. t ⊕ pull F b (combine c (before ++ a ∷ []) after (on before a after e))) (Rigid.pull_times F b (c a) (of_arc before a after e).weight)

    pull_zero : (b : Ends Scalar) → pull F b (λ v. zero) ≡ zero
    pull_zero (Link i j g) = ap (λ t. zero ⊕ negated t) (Algebra.times_zero F g) ∙ plus_negated zero
    pull_zero (Drain i) = refl
    pull_zero (Feed i) = Algebra.negated_zero F

    pub earlier : (c : ℕ → Scalar) (before after : List ℕ) (e : before ++ after ≡ arcs) (b : ℕ) → IsIn b before → pull F (ends b) (combine c before after e) ≡ zero
    unfolding combine
    earlier c before [] e b i = pull_zero (ends b)
    earlier c before (a ∷ after) e b i =
        pull_combine (ends b) c before a after e
        ∙ ap₂ (λ p q. c a ⊗ p ⊕ q) ((of_arc before a after e).other b (in_front b before after i))
        (earlier c (before ++ a ∷ []) after (on before a after e) b (in_front b before (a ∷ []) i))
        ∙ ap (λ t. t ⊕ zero) (Algebra.times_zero F (c a)) ∙ plus_zero zero

    pub later : (c : ℕ → Scalar) (before after : List ℕ) (e : before ++ after ≡ arcs) (b : ℕ) → IsIn b after → pull F (ends b) (combine c before after e) ≡ c b
    unfolding combine
    later c before [] e b i = absurd i
    later c before (a ∷ after) e b (inl p) =
        pull_combine (ends b) c before a after e
        ∙ ap₂ (λ x y. c a ⊗ x ⊕ y) (ap (λ t. pull F (ends t) (of_arc before a after e).weight) p ∙ (of_arc before a after e).own)
        (earlier c (before ++ a ∷ []) after (on before a after e) b (subst (λ t. IsIn t (before ++ a ∷ [])) (sym p) (in_back a before (a ∷ []) (inl refl))))
        ∙ plus_zero (c a ⊗ one) ∙ times_one (c a) ∙ ap c (sym p)
    later c before (a ∷ after) e b (inr i) =
        pull_combine (ends b) c before a after e
        ∙ ap₂ (λ x y. c a ⊗ x ⊕ y) ((of_arc before a after e).other b (in_back b before after i))
        (later c (before ++ a ∷ []) after (on before a after e) b i)
        ∙ ap (λ t. t ⊕ c b) (Algebra.times_zero F (c a)) ∙ Algebra.zero_plus F (c b)

    -- potentials for any costs
    pub potentials : (c : ℕ → Scalar) → (p : ℕ → Scalar) × ((b : ℕ) → IsIn b arcs → pull F (ends b) p ≡ c b)
    potentials c = (combine c [] arcs refl, λ b i. later c [] arcs refl b i)

module _ {Scalar : Type 0} (F : Field Scalar) (ends : ℕ → Ends Scalar) where
  infixl 60 ◌⊕◌
  infixl 70 ◌⊗◌
  open F use {one, ◌⊕◌, ◌⊗◌, negated, plus_negated}

  -- potentials with the same pull on each arc of a quasi-tree are the same on its nodes
  pub same_potentials : (ns own : List ℕ) → IsQuasiTree F ns (map ends own) → (p q : ℕ → Scalar)
      → ((a : ℕ) → IsIn a own → pull F (ends a) p ≡ pull F (ends a) q) → (v : ℕ) → IsIn v ns → p v ≡ q v
  same_potentials ns own tree p q same v i =
      Algebra.same_of F (p v) (q v) (ap (λ t. p v ⊕ t) (sym (Algebra.negated_times F one (q v) ∙ ap negated (Algebra.one_times F (q v))))
      ∙ Rigid.quasi_tree_rigid F ns (map ends own) tree (λ u. p u ⊕ negated one ⊗ q u)
      (λ e k. let r = in_map_of ends e own k in
      Rigid.pull_plus F e p (λ u. negated one ⊗ q u) ∙ ap (λ t. pull F e p ⊕ t) (Rigid.pull_times F e (negated one) q ∙ Algebra.negated_times F one (pull F e q) ∙ ap negated (Algebra.one_times F (pull F e q)))
      ∙ ap (λ t. t ⊕ negated (pull F e q)) (ap (λ t. pull F t p) r.2 ∙ same r.0 r.1 ∙ ap (λ t. pull F t q) (sym r.2)) ∙ plus_negated (pull F e q)) v i)
