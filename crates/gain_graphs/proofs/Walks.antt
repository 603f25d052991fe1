-- Walks: one after the other, back, and within a set of nodes.
use Rattle.std.proofs.Common.{◌⊎◌, inl, inr, sym, refl, subst, ℕ, List, [], ◌∷◌, ◌++◌}
use Rattle.gain_graphs.specs.Arcs.{IsIn, Ends, Link, Step, Along, Against, IsWalk, AreJoined}

module _ {Scalar : Type 0} where
  pub walk_append : (arcs : List (Ends Scalar)) (w x : List (Step Scalar)) (u v z : ℕ) → IsWalk arcs u w v → IsWalk arcs v x z → IsWalk arcs u (w ++ x) z
  walk_append arcs [] x u v z k l = subst (λ y. IsWalk arcs y x z) (sym k) l
  walk_append arcs (Along i j g ∷ w) x u v z k l = (k.0, k.1, walk_append arcs w x j v z k.2 l)
  walk_append arcs (Against i j g ∷ w) x u v z k l = (k.0, k.1, walk_append arcs w x i v z k.2 l)

  pub joined_trans : (arcs : List (Ends Scalar)) (u v z : ℕ) → AreJoined arcs u v → AreJoined arcs v z → AreJoined arcs u z
  joined_trans arcs u v z a b = (a.0 ++ b.0, walk_append arcs a.0 b.0 u v z a.1 b.1)

  back : (arcs : List (Ends Scalar)) (w : List (Step Scalar)) (u v : ℕ) → IsWalk arcs u w v → AreJoined arcs v u
  back arcs [] u v k = ([], sym k)
  back arcs (Along i j g ∷ w) u v k = joined_trans arcs v j u (back arcs w j v k.2) (Against i j g ∷ [], (refl, k.1, sym k.0))
  back arcs (Against i j g ∷ w) u v k = joined_trans arcs v i u (back arcs w i v k.2) (Along i j g ∷ [], (refl, k.1, sym k.0))

  pub joined_sym : (arcs : List (Ends Scalar)) (u v : ℕ) → AreJoined arcs u v → AreJoined arcs v u
  joined_sym arcs u v a = back arcs a.0 u v a.1

  -- a walk that begins in a set that no link leaves stays there, and runs over those of the links that touch it
  pub within : (C : ℕ → Type 0) (arcs bs : List (Ends Scalar))
      → ((i j : ℕ) (g : Scalar) → IsIn (Link i j g) arcs → C i ⊎ C j → IsIn (Link i j g) bs × C i × C j)
      → (w : List (Step Scalar)) (u v : ℕ) → C u → IsWalk arcs u w v → IsWalk bs u w v × C v
  within C arcs bs h [] u v c k = (k, subst C k c)
  within C arcs bs h (Along i j g ∷ w) u v c k =
      let r : IsIn (Link i j g) bs × C i × C j = h i j g k.1 (inl (subst C k.0 c)) in
      let s : IsWalk bs j w v × C v = within C arcs bs h w j v r.2 k.2 in
      ((k.0, r.0, s.0), s.1)
  within C arcs bs h (Against i j g ∷ w) u v c k =
      let r : IsIn (Link i j g) bs × C i × C j = h i j g k.1 (inr (subst C k.0 c)) in
      let s : IsWalk bs i w v × C v = within C arcs bs h w i v r.1 k.2 in
      ((k.0, r.0, s.0), s.1)
