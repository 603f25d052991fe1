-- What a token carries, read from the front.
use Rattle.std.proofs.Common.{◌≡◌, ℕ, ◌+◌, List, [], ◌∷◌, sym, ap, ◌∙◌, subst, refl}
use Rattle.std.specs.Prelude.{Option, Some, None, IsSome}
use Rattle.atomic_table.specs.Table.{Me, rest}
use Rattle.np_model.specs.Basis.Pieces.{PieceLists}
use Rattle.tree_table.specs.Passes.{View}
use Rattle.tree_table.specs.Kinds.{looking, taking, Took}
use Rattle.tree_table.specs.Calls.{IsGot}

module _ {T : Type 0} where
  front : List (ℕ × Option T) → Option T
  front [] = None
  front (x ∷ xs) = x.1

  -- a list that begins in two ways begins with one value
  pub one_value : (l : List (ℕ × Option T)) (k : ℕ) (x y : Option T) (xs ys : List (ℕ × Option T)) → l ≡ (k, x) ∷ xs → l ≡ (k, y) ∷ ys → x ≡ y
  unfolding front
  one_value l k x y xs ys a b = ap front (sym a ∙ b)

  or_else : T → Option T → T
  or_else d None = d
  or_else d (Some x) = x

  pub some_value : (x y : T) → Some x ≡ Some y → x ≡ y
  unfolding or_else
  some_value x y e = ap (or_else x) e

module _ {T : Type 0} (lists : T → PieceLists) where
  abbrev M : Type 0
  M = Me (Option T) View

  pub is_there : (m m1 : M) (k : ℕ) (r : Option T) → Took lists m k m1 → m1.1 ≡ (k, r) ∷ rest m1.1 → IsSome r
  is_there m m1 k r t e = subst IsSome (one_value m1.1 k (Some t.0) r m.1 (rest m1.1) (ap (λ (z : M). z.1) t.3) e) refl

  pub taken_out : (m m1 m2 : M) (k : ℕ) (r : Option T) (p : T) → Took lists m k m1 → m1.1 ≡ (k, r) ∷ rest m1.1 → m2 ≡ (m1.0, (k, None) ∷ rest m1.1) → r ≡ Some p
      → IsGot m.0 k (lists p) × (m2 ≡ (taking (looking m.0 (k + 1) 0) k (lists p), (k, None) ∷ m.1))
  taken_out m m1 m2 k r p t e e2 is =
      let same : t.0 ≡ p = some_value t.0 p (one_value m1.1 k (Some t.0) r m.1 (rest m1.1) (ap (λ (z : M). z.1) t.3) e ∙ is) in
      let F : T → Type 0 = λ q. IsGot m.0 k (lists q) × (m2 ≡ (taking (looking m.0 (k + 1) 0) k (lists q), (k, None) ∷ m.1)) in
      subst F same (record { lies = t.1; now = t.2.0; seen = t.2.1; there = t.2.2 }, e2 ∙ ap (λ (z : M). (z.0, (k, None) ∷ rest z.1)) t.3)
