-- Where only the weights 0 have the pull 0 on each arc.
use Rattle.std.proofs.Common.{◌≡◌, ◌≢◌, ◌⊎◌, inl, inr, sym, ap, refl, ◌∙◌, ap₂, ℕ, ◌<◌, ◌≤◌, List, [], ◌∷◌, length, map, arith}
use Rattle.gain_graphs.specs.Field.{Field}
use Rattle.gain_graphs.specs.Arcs.{IsIn, AreDistinct, Ends, Link, Drain, Feed, Step, Along, Against, HasOneEnd, IsWalk, AreJoined, product, only_at, coefficient, pull}
use Rattle.gain_graphs.specs.QuasiTrees.{LiesIn, HasExtra, IsQuasiTree}
use Rattle.gain_graphs.proofs.Lists.{in_map, length_map}
use Rattle.gain_graphs.proofs.Algebra
use Rattle.gain_graphs.proofs.Sums
use Rattle.gain_graphs.proofs.Equations
use Rattle.gain_graphs.proofs.Walks

module _ {Scalar : Type 0} (F : Field Scalar) where
  infixl 60 ◌⊕◌
  infixl 70 ◌⊗◌
  open F use {zero, one, ◌⊕◌, ◌⊗◌, negated, inverse, plus_zero, times_assoc, times_one, times_plus, times_inverse, decide}

  pub dot_only_at : (ns : List ℕ) (i : ℕ) (x : Scalar) (q : ℕ → Scalar) → AreDistinct ns → IsIn i ns → Equations.dot F ns (only_at F i x) q ≡ x ⊗ q i
  dot_only_at ns i x q d j =
      let o : Sums.Out F i ns = Sums.take_out F i ns d j in
      o.sums (λ v. only_at F i x v ⊗ q v)
      ∙ ap₂ (λ a b. a ⊗ q i ⊕ b) (Sums.put_same F i x (λ v. zero))
      (Sums.total_zero F (λ v. only_at F i x v ⊗ q v) o.rest (λ v k. ap (λ t. t ⊗ q v) (Sums.put_other F i x (λ u. zero) v (o.within v k).1) ∙ Algebra.zero_times F (q v)))
      ∙ plus_zero (x ⊗ q i)

  pub dot_coefficient : (ns : List ℕ) (a : Ends Scalar) (q : ℕ → Scalar) → AreDistinct ns → LiesIn F ns a → Equations.dot F ns (coefficient F a) q ≡ pull F a q
  dot_coefficient ns (Link i j g) q d l =
      Sums.total_same F (λ v. (only_at F i one v ⊕ only_at F j (negated g) v) ⊗ q v) (λ v. only_at F i one v ⊗ q v ⊕ only_at F j (negated g) v ⊗ q v) ns
      (λ v _. Algebra.plus_times F (only_at F i one v) (only_at F j (negated g) v) (q v))
      ∙ Sums.total_plus F (λ v. only_at F i one v ⊗ q v) (λ v. only_at F j (negated g) v ⊗ q v) ns
      ∙ ap₂ (λ a b. a ⊕ b) (dot_only_at ns i one q d l.0 ∙ Algebra.one_times F (q i)) (dot_only_at ns j (negated g) q d l.1 ∙ Algebra.negated_times F g (q j))
  dot_coefficient ns (Drain i) q d l = dot_only_at ns i one q d l ∙ Algebra.one_times F (q i)
  dot_coefficient ns (Feed i) q d l = dot_only_at ns i (negated one) q d l ∙ Algebra.negated_times F one (q i) ∙ ap negated (Algebra.one_times F (q i))

  -- only the weights 0 have the pull 0 on each arc
  abbrev pub IsRigid : List ℕ → List (Ends Scalar) → Type 0
  IsRigid ns arcs = (q : ℕ → Scalar) → ((a : Ends Scalar) → IsIn a arcs → pull F a q ≡ zero) → (v : ℕ) → IsIn v ns → q v ≡ zero

  -- along a walk over links on which the pull is 0
  pub along : (ns : List ℕ) (arcs : List (Ends Scalar)) (q : ℕ → Scalar) → ((a : Ends Scalar) → IsIn a arcs → LiesIn F ns a) → ((a : Ends Scalar) → IsIn a arcs → pull F a q ≡ zero)
      → (w : List (Step Scalar)) (u v : ℕ) → IsWalk arcs u w v → q u ≡ product F w ⊗ q v
  along ns arcs q lies flat [] u v k = ap q k ∙ sym (Algebra.one_times F (q v))
  along ns arcs q lies flat (Along i j g ∷ w) u v k =
      ap q k.0 ∙ Algebra.same_of F (q i) (g ⊗ q j) (flat (Link i j g) k.1)
      ∙ ap (λ t. g ⊗ t) (along ns arcs q lies flat w j v k.2) ∙ sym (times_assoc g (product F w) (q v))
  along ns arcs q lies flat (Against i j g ∷ w) u v k =
      ap q k.0 ∙ sym (ap (λ t. inverse g ⊗ t) (Algebra.same_of F (q i) (g ⊗ q j) (flat (Link i j g) k.1))
      ∙ sym (times_assoc (inverse g) g (q j)) ∙ ap (λ t. t ⊗ q j) (Algebra.inverse_times F g (lies (Link i j g) k.1).2) ∙ Algebra.one_times F (q j))
      ∙ ap (λ t. inverse g ⊗ t) (along ns arcs q lies flat w i v k.2) ∙ sym (times_assoc (inverse g) (product F w) (q v))

  -- a value that is a multiple of itself by another number than 1
  pub fixed : (p x : Scalar) → p ≢ one → x ≡ p ⊗ x → x ≡ zero
  fixed p x h e = go (decide x zero)
    where
      go : Dec (x ≡ zero) → x ≡ zero
      go (yes z) = z
      go (no k) = absurd (h (sym (times_one p) ∙ ap (λ t. p ⊗ t) (sym (times_inverse x k)) ∙ sym (times_assoc p x (inverse x)) ∙ ap (λ t. t ⊗ inverse x) (sym e) ∙ times_inverse x k))

  pub pull_times : (a : Ends Scalar) (c : Scalar) (q : ℕ → Scalar) → pull F a (λ v. c ⊗ q v) ≡ c ⊗ pull F a q
  pull_times (Link i j g) c q = ap (λ t. c ⊗ q i ⊕ negated t) (Algebra.times_left F g c (q j)) ∙ ap (λ t. c ⊗ q i ⊕ t) (sym (Algebra.times_negated F c (g ⊗ q j))) ∙ sym (times_plus c (q i) (negated (g ⊗ q j)))
  pull_times (Drain i) c q = refl
  pull_times (Feed i) c q = sym (Algebra.times_negated F c (q i))

  pub pull_plus : (a : Ends Scalar) (p q : ℕ → Scalar) → pull F a (λ v. p v ⊕ q v) ≡ pull F a p ⊕ pull F a q
  pull_plus (Link i j g) p q = ap (λ t. (p i ⊕ q i) ⊕ t) (ap negated (times_plus g (p j) (q j)) ∙ Algebra.negated_of_sum F (g ⊗ p j) (g ⊗ q j)) ∙ Algebra.plus_pairs F (p i) (q i) (negated (g ⊗ p j)) (negated (g ⊗ q j))
  pull_plus (Drain i) p q = refl
  pull_plus (Feed i) p q = Algebra.negated_of_sum F (p i) (q i)

  -- arcs that join the nodes, and one more
  pub record Spans (ns : List ℕ) (arcs : List (Ends Scalar)) : Type 0 where
    pub nodes_once : AreDistinct ns
    pub ends_inside : (a : Ends Scalar) → IsIn a arcs → LiesIn F ns a
    pub root : ℕ
    pub inside : IsIn root ns
    pub joined : (v : ℕ) → IsIn v ns → AreJoined arcs v root
    pub extra : HasExtra F ns arcs

  pub spans_rigid : (ns : List ℕ) (arcs : List (Ends Scalar)) → Spans ns arcs → IsRigid ns arcs
  spans_rigid ns arcs p q flat = elim p.extra [
    | inl x ↦ one_ended x.0 x.1 x.2
    | inr x ↦ spread x.0 x.2 (fixed (product F x.1) (q x.0) x.4 (along ns arcs q p.ends_inside flat x.1 x.0 x.0 x.3))
  ]
    where
      spread : (s : ℕ) → IsIn s ns → q s ≡ zero → (v : ℕ) → IsIn v ns → q v ≡ zero
      spread s i z v j =
          let w = Walks.joined_trans arcs v p.root s (p.joined v j) (Walks.joined_sym arcs s p.root (p.joined s i)) in
          along ns arcs q p.ends_inside flat w.0 v s w.1 ∙ ap (λ t. product F w.0 ⊗ t) z ∙ Algebra.times_zero F (product F w.0)

      one_ended : (a : Ends Scalar) → IsIn a arcs → HasOneEnd a → (v : ℕ) → IsIn v ns → q v ≡ zero
      one_ended (Link i j g) k h = absurd h
      one_ended (Drain i) k h = spread i (p.ends_inside (Drain i) k) (flat (Drain i) k)
      one_ended (Feed i) k h = spread i (p.ends_inside (Feed i) k) (sym (Algebra.negated_twice F (q i)) ∙ ap negated (flat (Feed i) k) ∙ Algebra.negated_zero F)

  -- so it is in a quasi-tree
  pub quasi_tree_rigid : (ns : List ℕ) (arcs : List (Ends Scalar)) → IsQuasiTree F ns arcs → IsRigid ns arcs
  quasi_tree_rigid ns arcs p = spans_rigid ns arcs (record {
    nodes_once = p.nodes_once;
    ends_inside = p.ends_inside;
    root = p.some_node.0;
    inside = p.some_node.1;
    joined = λ v i. p.joined v p.some_node.0 i p.some_node.1;
    extra = p.extra;
  })

  -- then there are at least as many arcs as nodes
  pub enough : (ns : List ℕ) (arcs : List (Ends Scalar)) → AreDistinct ns → ((a : Ends Scalar) → IsIn a arcs → LiesIn F ns a) → IsRigid ns arcs → length ns ≤ length arcs
  enough ns arcs d lies r = elim (cases (length arcs) (length ns)) [ inl l ↦ absurd (short l) | inr l ↦ l ]
    where
      cases : (m n : ℕ) → (m < n) ⊎ (n ≤ m)
      cases m n = grind arith

      short : length arcs < length ns → ⊥
      short l =
          let sol : Equations.Solution F (map (coefficient F) arcs) ns = Equations.solve F (map (coefficient F) arcs) ns d (rw (length_map (coefficient F) arcs) l) in
          sol.apart (r sol.value (λ a i. sym (dot_coefficient ns a sol.value d (lies a i)) ∙ sol.solves (coefficient F a) (in_map (coefficient F) a arcs i)) sol.place sol.inside)
