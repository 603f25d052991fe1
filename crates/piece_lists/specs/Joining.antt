-- The lists of several pieces in one. (This project's own.)
use Rattle.std.specs.Prelude.{◌≡◌, ◌≢◌, ◌⊎◌, ◌↔◌, ℕ, List, map}
use Rattle.std.specs.List.{flat_map}
use Rattle.std.specs.List.Sorted.{IsStrictlyIncreasing}
use Rattle.gain_graphs.specs.Arcs.{IsIn}
use Rattle.np_frac.specs.Ratio.{Ratio}
use Rattle.np_model.specs.declared.arc.Ends.{Ends}
use Rattle.np_model.specs.declared.log.Mark.{Mark}
use Rattle.np_model.specs.Basis.Pieces.{PieceLists, nodes_in, basics_in, marked_in}

-- the entries of all pieces
abbrev pub all_nodes : List PieceLists → List (ℕ × Ratio)
all_nodes pieces = flat_map (λ p. p.nodes) pieces

abbrev pub all_basics : List PieceLists → List (ℕ × Ends × Ratio)
all_basics pieces = flat_map (λ p. p.basics) pieces

abbrev pub all_marks : List PieceLists → List (ℕ × Mark)
all_marks pieces = flat_map (λ p. p.marks) pieces

-- the lists of each piece ascend, and what two of them say of one number is the same
pub record CanBeOne (pieces : List PieceLists) : Type 0 where
  pub nodes_ascend : (p : PieceLists) → IsIn p pieces → IsStrictlyIncreasing (nodes_in p)
  pub basics_ascend : (p : PieceLists) → IsIn p pieces → IsStrictlyIncreasing (basics_in p)
  pub marks_ascend : (p : PieceLists) → IsIn p pieces → IsStrictlyIncreasing (marked_in p)
  pub same_node : (p q : PieceLists) (x y : ℕ × Ratio) → IsIn p pieces → IsIn q pieces → IsIn x p.nodes → IsIn y q.nodes → x.0 ≡ y.0 → x ≡ y
  pub same_basic : (p q : PieceLists) (x y : ℕ × Ends × Ratio) → IsIn p pieces → IsIn q pieces → IsIn x p.basics → IsIn y q.basics → x.0 ≡ y.0 → x ≡ y
  pub same_mark : (p q : PieceLists) (x y : ℕ × Mark) → IsIn p pieces → IsIn q pieces → IsIn x p.marks → IsIn y q.marks → x.0 ≡ y.0 → x ≡ y

-- ascending lists of the entries of all pieces
pub record AreInOne (pieces : List PieceLists) (one : PieceLists) : Type 0 where
  pub nodes_ascend : IsStrictlyIncreasing (nodes_in one)
  pub basics_ascend : IsStrictlyIncreasing (basics_in one)
  pub marks_ascend : IsStrictlyIncreasing (marked_in one)
  pub nodes : (n : ℕ × Ratio) → IsIn n one.nodes ↔ IsIn n (all_nodes pieces)
  pub basics : (b : ℕ × Ends × Ratio) → IsIn b one.basics ↔ IsIn b (all_basics pieces)
  pub marks : (m : ℕ × Mark) → IsIn m one.marks ↔ IsIn m (all_marks pieces)

-- these marks, but that of the arc that enters, and with the arc that leaves at its bound
pub record AreMarksAfter (marks : List (ℕ × Mark)) (enter leave : ℕ) (leave_at : Mark) (after : List (ℕ × Mark)) : Type 0 where
  pub ascend : IsStrictlyIncreasing (map (λ m. m.0) after)
  pub are : (m : ℕ × Mark) → IsIn m after ↔ (((m.0 ≡ leave) × (m.1 ≡ leave_at)) ⊎ (IsIn m marks × (m.0 ≢ enter) × (m.0 ≢ leave)))
