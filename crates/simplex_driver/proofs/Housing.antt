-- Pieces that are put into their slots, one behind the other.
use Rattle.std.specs.Prelude.{◌≡◌, ℕ, List, [], ◌∷◌, ◌++◌, length}
use Rattle.std.specs.List.{All, flat_map}
use Rattle.std.proofs.Common.{sym, subst, ◌∙◌, arith}
use Rattle.np_model.specs.declared.piece.Hands.{Hands}
use Rattle.np_model.specs.declared.piece.Hands.TheVariants.{One, Two}
use Rattle.np_model.specs.Basis.Needed.{lists_held}
use Rattle.np_model.specs.Basis.Pieces.{PieceLists}
use Rattle.quasi_tree.specs.Store.{Store}
use Rattle.simplex_driver.specs.declared.forest.Forest.{Forest}
use Rattle.simplex_driver.specs.Store.{written, LiesWithin}
use Rattle.simplex_driver.proofs.Tables.{written_append}

pub written_two : {A : Type 0} (f : PieceLists → List (ℕ × A)) (p q : PieceLists) (xs : List A) → written (f q) (written (f p) xs) ≡ written (flat_map f (p ∷ q ∷ [])) xs
written_two f p q xs = sym (written_append (f p) (f q ++ []) xs ∙ written_append (f q) [] (written (f p) xs))

pub written_one : {A : Type 0} (f : PieceLists → List (ℕ × A)) (p : PieceLists) (xs : List A) → written (f p) xs ≡ written (flat_map f (p ∷ [])) xs
written_one f p xs = sym (written_append (f p) [] xs)

-- tables as long as before take the same writes
pub within_after : (f g : Forest) (p : PieceLists) → length g.slots.items ≡ length f.slots.items
    → length g.potentials.items ≡ length f.potentials.items → length g.flows.items ≡ length f.flows.items → LiesWithin f p → LiesWithin g p
within_after f g p e b d h = record {
  some = h.some;
  slot = let r = h.slot in omega arith;
  potentials = λ k x l. let r = h.potentials k x l in omega arith;
  flows = λ k x l. let r = h.flows k x l in omega arith;
}

pub the_one : (P : PieceLists → Type 0) (hands : Hands Store) (p : Store) → hands ≡ One p → All P (lists_held (λ (s : Store). s.lists) hands) → P p.lists
the_one P hands p e h = subst (λ x. All P (lists_held (λ (s : Store). s.lists) x)) e h 0 p.lists (omega arith)

pub the_first : (P : PieceLists → Type 0) (hands : Hands Store) (p q : Store) → hands ≡ Two p q → All P (lists_held (λ (s : Store). s.lists) hands) → P p.lists
the_first P hands p q e h = subst (λ x. All P (lists_held (λ (s : Store). s.lists) x)) e h 0 p.lists (omega arith)

pub the_second : (P : PieceLists → Type 0) (hands : Hands Store) (p q : Store) → hands ≡ Two p q → All P (lists_held (λ (s : Store). s.lists) hands) → P q.lists
the_second P hands p q e h = subst (λ x. All P (lists_held (λ (s : Store). s.lists) x)) e h 1 q.lists (omega arith)
