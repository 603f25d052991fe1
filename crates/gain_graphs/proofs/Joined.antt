-- Nodes that links join, with as many arcs, on which only the weights 0 have the pull 0 on each, are a quasi-tree.
use Rattle.std.proofs.Common.{◌≡◌, ◌≢◌, ◌⊎◌, inl, inr, sym, ap, refl, ◌∙◌, ℕ, List, [], ◌∷◌, ◌++◌, length}
use Rattle.gain_graphs.specs.Field.{Field}
use Rattle.gain_graphs.specs.Arcs.{IsIn, AreDistinct, Ends, Link, Drain, Feed, Step, Along, Against, IsWalk, AreJoined, product, pull}
use Rattle.gain_graphs.specs.QuasiTrees.{LiesIn, HasExtra, IsQuasiTree}
use Rattle.gain_graphs.proofs.Lists.{decide_in}
use Rattle.gain_graphs.proofs.Algebra
use Rattle.gain_graphs.proofs.Walks
use Rattle.gain_graphs.proofs.Rigid

module _ {Scalar : Type 0} (F : Field Scalar) where
  infixl 60 ◌⊕◌
  infixl 70 ◌⊗◌
  open F use {zero, one, ◌⊕◌, ◌⊗◌, negated, inverse, plus_negated, times_assoc, decide}

  product_append : (w x : List (Step Scalar)) → product F (w ++ x) ≡ product F w ⊗ product F x
  product_append [] x = sym (Algebra.one_times F (product F x))
  product_append (Along i j g ∷ w) x = ap (λ t. g ⊗ t) (product_append w x) ∙ sym (times_assoc g (product F w) (product F x))
  product_append (Against i j g ∷ w) x = ap (λ t. inverse g ⊗ t) (product_append w x) ∙ sym (times_assoc (inverse g) (product F w) (product F x))

  product_not_zero : (ns : List ℕ) (arcs : List (Ends Scalar)) → ((a : Ends Scalar) → IsIn a arcs → LiesIn F ns a) → (w : List (Step Scalar)) (u v : ℕ) → IsWalk arcs u w v → product F w ≢ zero
  product_not_zero ns arcs lies [] u v k = F.one_is_not_zero
  product_not_zero ns arcs lies (Along i j g ∷ w) u v k = Algebra.times_not_zero F g (product F w) (lies (Link i j g) k.1).2 (product_not_zero ns arcs lies w j v k.2)
  product_not_zero ns arcs lies (Against i j g ∷ w) u v k = Algebra.times_not_zero F (inverse g) (product F w) (Algebra.inverse_not_zero F g (lies (Link i j g) k.1).2) (product_not_zero ns arcs lies w i v k.2)

  -- where the pull on a link is not 0, the link and the walks to `s` and back close a walk that is not breakeven
  find_extra : (ns : List ℕ) (arcs : List (Ends Scalar)) (s : ℕ) → IsIn s ns → ((a : Ends Scalar) → IsIn a arcs → LiesIn F ns a)
      → ((u v : ℕ) → IsIn u ns → IsIn v ns → (w : List (Step Scalar)) × IsWalk arcs u w v) → Rigid.IsRigid F ns arcs → HasExtra F ns arcs
  find_extra ns arcs s i lies joined r = answer (search_arcs arcs (λ a k. k))
    where
      -- the product of a chosen walk to `s`
      q : ℕ → Scalar
      q v = elim (decide_in v ns) [ yes j ↦ product F (joined v s j i).0 | no h ↦ one ]

      -- it is the product of a walk to `s`
      to_s : (v : ℕ) → IsIn v ns → (w : List (Step Scalar)) × IsWalk arcs v w s × (product F w ≡ q v)
      to_s v j = go (decide_in v ns)
        where
          go : (d : Dec (IsIn v ns)) → (w : List (Step Scalar)) × IsWalk arcs v w s × (product F w ≡ elim d as (λ _. Scalar) [ yes j ↦ product F (joined v s j i).0 | no h ↦ one ])
          go (yes k) = ((joined v s k i).0, (joined v s k i).1, refl)
          go (no h) = absurd (h j)

      apart : (v : ℕ) → IsIn v ns → q v ≢ zero
      apart v j e = product_not_zero ns arcs lies (to_s v j).0 v s (to_s v j).1 ((to_s v j).2 ∙ e)

      -- a link that is not consistent with `q`
      at_link : (a b : ℕ) (g : Scalar) → IsIn (Link a b g) arcs → (q a ≢ g ⊗ q b) → HasExtra F ns arcs
      at_link a b g k h = go (decide (product F out ⊗ q a) one)
        where
          ia : IsIn a ns
          ia = (lies (Link a b g) k).0

          ib : IsIn b ns
          ib = (lies (Link a b g) k).1

          out : List (Step Scalar)
          out = (joined s a i ia).0

          round : List (Step Scalar)
          round = out ++ (Along a b g ∷ (to_s b ib).0)

          value : product F round ≡ product F out ⊗ (g ⊗ q b)
          value = product_append out (Along a b g ∷ (to_s b ib).0) ∙ ap (λ t. product F out ⊗ (g ⊗ t)) (to_s b ib).2

          walks : IsWalk arcs s round s
          walks = Walks.walk_append arcs out (Along a b g ∷ (to_s b ib).0) s a s (joined s a i ia).1 (refl, k, (to_s b ib).1)

          go : Dec (product F out ⊗ q a ≡ one) → HasExtra F ns arcs
          go (no n) = inr (
            s,
            out ++ (to_s a ia).0,
            i,
            Walks.walk_append arcs out (to_s a ia).0 s a s (joined s a i ia).1 (to_s a ia).1,
            λ e. n (ap (λ t. product F out ⊗ t) (sym (to_s a ia).2) ∙ sym (product_append out (to_s a ia).0) ∙ e),
          )
          go (yes y) = inr (
            s,
            round,
            i,
            walks,
            λ e. h (Algebra.times_left_cancel F (product F out) (q a) (g ⊗ q b) (product_not_zero ns arcs lies out s a (joined s a i ia).1) (y ∙ sym e ∙ value)),
          )

      search_arcs : (bs : List (Ends Scalar)) → ((a : Ends Scalar) → IsIn a bs → IsIn a arcs) → HasExtra F ns arcs ⊎ ((a : Ends Scalar) → IsIn a bs → pull F a q ≡ zero)
      search_arcs [] sub = inr (λ a k. absurd k)
      search_arcs (Drain v ∷ bs) sub = inl (inl (Drain v, sub (Drain v) (inl refl), tt))
      search_arcs (Feed v ∷ bs) sub = inl (inl (Feed v, sub (Feed v) (inl refl), tt))
      search_arcs (Link a b g ∷ bs) sub = go (search_arcs bs (λ x k. sub x (inr k))) (decide (q a) (g ⊗ q b))
        where
          go : HasExtra F ns arcs ⊎ ((x : Ends Scalar) → IsIn x bs → pull F x q ≡ zero) → Dec (q a ≡ g ⊗ q b)
              → HasExtra F ns arcs ⊎ ((x : Ends Scalar) → IsIn x (Link a b g ∷ bs) → pull F x q ≡ zero)
          go (inl x) _ = inl x
          go (inr f) (no h) = inl (at_link a b g (sub (Link a b g) (inl refl)) h)
          go (inr f) (yes e) = inr (λ x. elim [ inl p ↦ ap (λ y. pull F y q) p ∙ ap (λ t. t ⊕ negated (g ⊗ q b)) e ∙ plus_negated (g ⊗ q b) | inr k ↦ f x k ])

      answer : HasExtra F ns arcs ⊎ ((a : Ends Scalar) → IsIn a arcs → pull F a q ≡ zero) → HasExtra F ns arcs
      answer (inl x) = x
      answer (inr f) = absurd (apart s i (r q f s i))

  -- where links join as many nodes as there are arcs, and only the weights 0 have the pull 0, they are a quasi-tree
  pub quasi_tree : (ns : List ℕ) (arcs : List (Ends Scalar)) → AreDistinct ns → (v : ℕ) × IsIn v ns → ((a : Ends Scalar) → IsIn a arcs → LiesIn F ns a)
      → ((u v : ℕ) → IsIn u ns → IsIn v ns → AreJoined arcs u v) → length arcs ≡ length ns → Rigid.IsRigid F ns arcs → IsQuasiTree F ns arcs
  quasi_tree ns arcs d v lies joined n r = record { nodes_once = d; some_node = v; ends_inside = lies; joined = joined; as_many = n; extra = find_extra ns arcs v.0 v.1 lies joined r }
