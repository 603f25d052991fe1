-- Sums over a list, a node taken out of a list, and a value put at a node.
use Rattle.std.proofs.Common.{◌≡◌, ◌≢◌, ◌⊎◌, inl, inr, sym, ap, refl, ◌∙◌, subst, ap₂, ℕ, suc, List, [], ◌∷◌, ◌++◌, length, cond, nat_eq, Bool, true, false, eqb-true, eq-eqb}
use Rattle.gain_graphs.specs.Field.{Field, total}
use Rattle.gain_graphs.specs.Arcs.{IsIn, AreDistinct}
use Rattle.gain_graphs.proofs.Algebra

module _ {Scalar : Type 0} (F : Field Scalar) where
  infixl 60 ◌⊕◌
  infixl 70 ◌⊗◌
  open F use {zero, one, ◌⊕◌, ◌⊗◌, plus_assoc, plus_zero, times_plus, decide}

  pub total_same : {A : Type 0} (f g : A → Scalar) (xs : List A) → ((x : A) → IsIn x xs → f x ≡ g x) → total F f xs ≡ total F g xs
  total_same f g [] h = refl
  total_same f g (x ∷ xs) h = ap₂ (λ a b. a ⊕ b) (h x (inl refl)) (total_same f g xs (λ y i. h y (inr i)))

  pub total_zero : {A : Type 0} (f : A → Scalar) (xs : List A) → ((x : A) → IsIn x xs → f x ≡ zero) → total F f xs ≡ zero
  total_zero f [] h = refl
  total_zero f (x ∷ xs) h = ap₂ (λ a b. a ⊕ b) (h x (inl refl)) (total_zero f xs (λ y i. h y (inr i))) ∙ plus_zero zero

  pub total_plus : {A : Type 0} (f g : A → Scalar) (xs : List A) → total F (λ x. f x ⊕ g x) xs ≡ total F f xs ⊕ total F g xs
  total_plus f g [] = sym (plus_zero zero)
  total_plus f g (x ∷ xs) = ap (λ t. (f x ⊕ g x) ⊕ t) (total_plus f g xs) ∙ Algebra.plus_pairs F (f x) (g x) (total F f xs) (total F g xs)

  pub total_times : {A : Type 0} (c : Scalar) (f : A → Scalar) (xs : List A) → total F (λ x. c ⊗ f x) xs ≡ c ⊗ total F f xs
  total_times c f [] = sym (Algebra.times_zero F c)
  total_times c f (x ∷ xs) = ap (λ t. (c ⊗ f x) ⊕ t) (total_times c f xs) ∙ sym (times_plus c (f x) (total F f xs))

  pub total_append : {A : Type 0} (f : A → Scalar) (xs ys : List A) → total F f (xs ++ ys) ≡ total F f xs ⊕ total F f ys
  total_append f [] ys = sym (Algebra.zero_plus F (total F f ys))
  total_append f (x ∷ xs) ys = rw (total_append f xs ys, plus_assoc (f x) (total F f xs) (total F f ys))

  -- the exchange of sums
  pub total_swap : {A B : Type 0} (f : A → B → Scalar) (xs : List A) (ys : List B) →
      total F (λ x. total F (λ y. f x y) ys) xs ≡ total F (λ y. total F (λ x. f x y) xs) ys
  total_swap f [] ys = sym (total_zero (λ y. zero) ys (λ y i. refl))
  total_swap f (x ∷ xs) ys = ap (λ t. total F (λ y. f x y) ys ⊕ t) (total_swap f xs ys) ∙ sym (total_plus (λ y. f x y) (λ y. total F (λ z. f z y) xs) ys)

  -- a node taken out of a list
  pub record Out (v : ℕ) (ns : List ℕ) : Type 0 where
    pub rest : List ℕ
    pub shorter : length ns ≡ suc (length rest)
    pub apart : AreDistinct rest
    pub within : (u : ℕ) → IsIn u rest → IsIn u ns × (u ≢ v)
    pub only : (u : ℕ) → IsIn u ns → (u ≡ v) ⊎ IsIn u rest
    pub sums : (f : ℕ → Scalar) → total F f ns ≡ f v ⊕ total F f rest

  pub take_out : (v : ℕ) (ns : List ℕ) → AreDistinct ns → IsIn v ns → Out v ns
  take_out v [] d i = absurd i
  take_out v (n ∷ ns) d (inl e) = record {
    rest = ns;
    shorter = refl;
    apart = d.1;
    within = λ u i. (inr i, λ p. d.0 (subst (λ x. IsIn x ns) (p ∙ e) i));
    only = λ u. elim [ inl p ↦ inl (p ∙ sym e) | inr i ↦ inr i ];
    sums = λ f. ap (λ x. f x ⊕ total F f ns) (sym e);
  }
  take_out v (n ∷ ns) d (inr i) =
      let o = take_out v ns d.1 i in
      record {
        rest = n ∷ o.rest;
        shorter = ap suc o.shorter;
        apart = (λ j. d.0 (o.within n j).0, o.apart);
        within = λ u. elim [ inl p ↦ (inl p, λ q. d.0 (subst (λ x. IsIn x ns) (sym q ∙ p) i)) | inr j ↦ (inr (o.within u j).0, (o.within u j).1) ];
        only = λ u. elim [ inl p ↦ inr (inl p) | inr j ↦ elim (o.only u j) [ inl p ↦ inl p | inr k ↦ inr (inr k) ] ];
        sums = λ f. ap (λ t. f n ⊕ t) (o.sums f) ∙ Algebra.plus_left F (f n) (f v) (total F f o.rest);
      }

  -- `x` at node `i`, and `q` elsewhere
  abbrev pub put : ℕ → Scalar → (ℕ → Scalar) → ℕ → Scalar
  put i x q v = cond (nat_eq v i) x (q v)

  pub put_same : (i : ℕ) (x : Scalar) (q : ℕ → Scalar) → put i x q i ≡ x
  put_same i x q = rw (eq-eqb i i refl)

  pub put_other : (i : ℕ) (x : Scalar) (q : ℕ → Scalar) (v : ℕ) → v ≢ i → put i x q v ≡ q v
  put_other i x q v h = go (nat_eq v i) refl
    where
      go : (b : Bool) → nat_eq v i ≡ b → put i x q v ≡ q v
      go true e = absurd (h (eqb-true v i e))
      go false e = rw e

  -- the first node at which a row is not 0, if there is one
  pub look : (r : ℕ → Scalar) (ns : List ℕ) → ((v : ℕ) → IsIn v ns → r v ≡ zero) ⊎ ((v : ℕ) × IsIn v ns × (r v ≢ zero))
  look r [] = inl (λ v i. absurd i)
  look r (n ∷ ns) = go (decide (r n) zero) (look r ns)
    where
      go : Dec (r n ≡ zero) → ((v : ℕ) → IsIn v ns → r v ≡ zero) ⊎ ((v : ℕ) × IsIn v ns × (r v ≢ zero))
          → ((v : ℕ) → IsIn v (n ∷ ns) → r v ≡ zero) ⊎ ((v : ℕ) × IsIn v (n ∷ ns) × (r v ≢ zero))
      go (no h) _ = inr (n, inl refl, h)
      go (yes e) (inl z) = inl (λ v. elim [ inl p ↦ ap r p ∙ e | inr i ↦ z v i ])
      go (yes e) (inr w) = inr (w.0, inr w.1, w.2)
