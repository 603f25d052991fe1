-- Steps of the code: the lists of all pieces in one, changed, and the potentials of the new pieces.
use Rattle.std.specs.Prelude.{◌≡◌, ◌<◌, ℕ, List, [], ◌∷◌, length, ⊤}
use Rattle.std.specs.List.Sorted.{IsStrictlyIncreasing}
use Rattle.gain_graphs.specs.Arcs.{IsIn}
use Rattle.np_frac.specs.Ratio.{Ratio, zero_ratio}
use Rattle.np_model.specs.declared.arc.Ends.{Ends}
use Rattle.np_model.specs.declared.log.Entry.{Entry}
use Rattle.np_model.specs.declared.log.Mark.{Mark}
use Rattle.np_model.specs.declared.rows.Overflow.{Overflow}
use Rattle.np_model.specs.declared.rows.Place.TheVariants.{Arc}
use Rattle.np_model.specs.Network.Flows.{Network}
use Rattle.np_model.specs.Basis.Pieces.{PieceLists, nodes_in, basics_in, marked_in, beside}
use Rattle.np_model.specs.Basis.Sound.{AreInOrder}
use Rattle.piece_lists.specs.Flowing.{AreFlowsAfter}
use Rattle.piece_lists.specs.Joining.{all_nodes, AreMarksAfter}
use Rattle.piece_lists.specs.declared.refusal.MoveRefusal.{MoveRefusal}
use Rattle.piece_lists.specs.declared.refusal.MoveRefusal.TheVariants as refusal
use Rattle.tree_potentials.specs.declared.refusal.PotentialRefusal.{PotentialRefusal}
use Rattle.tree_potentials.specs.declared.refusal.PotentialRefusal.TheVariants as potential
use Rattle.tree_potentials.specs.Answers.{GivesPast}
use Rattle.pivot_step.specs.After.{HasRightPotentials, AreListsAfter, ArePiecesOver}

-- ---- refusals

-- where it is an overflow, it has this cause
abbrev pub OnPast : (Overflow → Type 0) → MoveRefusal → Type 0
OnPast P (refusal.Past overflow) = P overflow
OnPast P refusal.Memory = ⊤

abbrev pub of_potentials : PotentialRefusal → ℕ → MoveRefusal
of_potentials (potential.Past overflow) arc = refusal.Past (record { row = overflow.row; place = Arc arc; past = overflow.past })
of_potentials potential.Memory arc = refusal.Memory

-- ---- lists and pieces

-- the lists with the basic arcs and the marks after a pivot
pub record AreChanged (one : PieceLists) (entering : ℕ × Ends × Ratio) (entry : Entry) (steps : List (ℕ × Ratio)) (t : Ratio) (lists : PieceLists) : Type 0 where
  pub nodes : lists.nodes ≡ one.nodes
  pub flows : AreFlowsAfter one.basics entering entry.leave steps t lists.basics
  pub marks : AreMarksAfter one.marks entry.enter entry.leave entry.leave_at lists.marks

-- lists in ascending order with all basic arcs and all marks of this piece
pub record HasAllOf (lists piece : PieceLists) : Type 0 where
  pub basics_ascend : IsStrictlyIncreasing (basics_in lists)
  pub marks_ascend : IsStrictlyIncreasing (marked_in lists)
  pub own_basics_ascend : IsStrictlyIncreasing (basics_in piece)
  pub own_marks_ascend : IsStrictlyIncreasing (marked_in piece)
  pub basics : (a : ℕ) → IsIn a (basics_in piece) → IsIn a (basics_in lists)
  pub marked : (a : ℕ) → IsIn a (marked_in piece) → IsIn a (marked_in lists)
  pub some : 0 < length piece.nodes

-- the piece with its nodes as they were, and with its own basic arcs and marks as they stand in the lists
pub record IsKept (lists old new : PieceLists) : Type 0 where
  pub nodes : new.nodes ≡ old.nodes
  pub basics : basics_in new ≡ basics_in old
  pub marked : marked_in new ≡ marked_in old
  pub basics_from : (b : ℕ × Ends × Ratio) → IsIn b new.basics → IsIn b lists.basics
  pub marks_from : (m : ℕ × Mark) → IsIn m new.marks → IsIn m lists.marks

-- each of these pieces, in order
pub record AreKept (lists : PieceLists) (olds news : List PieceLists) : Type 0 where
  pub in_order : AreInOrder news
  pub each : (q : PieceLists) → IsIn q news → (p : PieceLists) × IsIn p olds × IsKept lists p q
  pub every : (p : PieceLists) → IsIn p olds → (q : PieceLists) × IsIn q news × IsKept lists p q

-- the piece with its right potentials
pub record IsSettled (net : Network) (old new : PieceLists) : Type 0 where
  pub nodes : nodes_in new ≡ nodes_in old
  pub basics : new.basics ≡ old.basics
  pub marks : new.marks ≡ old.marks
  pub potentials : HasRightPotentials net new

-- each of these pieces, in order
abbrev pub AreSettled : Network → List PieceLists → List PieceLists → Type 0
AreSettled net [] [] = ⊤
AreSettled net [] (q ∷ new) = ⊥
AreSettled net (p ∷ old) [] = ⊥
AreSettled net (p ∷ old) (q ∷ new) = IsSettled net p q × AreSettled net old new

-- an operation of row A3 or A7 overflows at the potentials of the piece, told at the entering arc
abbrev pub GivesAt : Network → PieceLists → ℕ → Overflow → Type 0
GivesAt net piece arc overflow = (overflow.place ≡ Arc arc) × GivesPast net piece overflow.row overflow.past

abbrev pub OneGivesAt : Network → List PieceLists → ℕ → Overflow → Type 0
OneGivesAt net pieces arc overflow = (p : PieceLists) × IsIn p pieces × GivesAt net p arc overflow

-- the pieces after a pivot, with the potentials of before
pub record AreFoundAfter (net : Network) (pieces : List PieceLists) (entry : Entry) (steps : List (ℕ × Ratio)) (t : Ratio) (found : List PieceLists) : Type 0 where
  pub basics : List (ℕ × Ends × Ratio)
  pub marks : List (ℕ × Mark)
  pub lists_after : AreListsAfter net pieces entry (beside zero_ratio steps) t basics marks
  pub over : ArePiecesOver net pieces basics marks found
  pub entries : (p : PieceLists) (n : ℕ × Ratio) → IsIn p found → IsIn n p.nodes → IsIn n (all_nodes pieces)
