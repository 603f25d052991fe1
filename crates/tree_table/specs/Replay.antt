-- Entries, in the order of their tickets, lead from the opening pieces to others. (This project's own.)
use Rattle.std.specs.Prelude.{◌≡◌, ℕ, suc, ◌+◌, ◌<◌, List, [], ◌∷◌, length}
use Rattle.np_model.specs.Basis.Pieces.{PieceLists}
use Rattle.np_model.specs.Basis.Phases.{with_artificial}
use Rattle.np_model.specs.Basis.Sound.{IsAfter}
use Rattle.np_model.specs.declared.log.Entry.{Entry}
use Rattle.tree_table.specs.Weights.{weigh, AreAmong, AreSame}
use Rattle.tree_table.specs.Passes.{Pivoted, Opening, View}

-- the list with its places, from n on
abbrev pub numbered : ℕ → List Pivoted → List (ℕ × Pivoted)
numbered n [] = []
numbered n (pivoted ∷ log) = (n, pivoted) ∷ numbered (suc n) log

-- each ticket is below n
abbrev pub AreBelow : ℕ → List (ℕ × Pivoted) → Type 0
AreBelow n [] = Unit {0}
AreBelow n (e ∷ es) = (e.0 < n) × AreBelow n es

-- in the network and phase that the table was set up with, pieces become others by the pivot of this entry
abbrev pub Becomes : Opening → List PieceLists → Entry → List PieceLists → Type 0
Becomes opening before entry after = IsAfter (with_artificial opening.phase opening.net opening.artificial) (length opening.net.arcs) before entry after

-- the pieces before the pivot are there, it makes those after it of them, and these come in their place
pub record Turns (opening : Opening) (pieces : List PieceLists) (pivoted : Pivoted) (next : List PieceLists) : Type 0 where
  pub there : AreAmong pivoted.before pieces
  pub becomes : Becomes opening pivoted.before pivoted.entry pivoted.after
  pub replaced : (f : PieceLists → ℕ) → weigh f next + weigh f pivoted.before ≡ weigh f pieces + weigh f pivoted.after

-- the pivots of the log, one after the other
abbrev pub LeadsTo : Opening → List PieceLists → List Pivoted → List PieceLists → Type 0
LeadsTo opening pieces [] last = AreSame pieces last
LeadsTo opening pieces (pivoted ∷ log) last = (next : List PieceLists) × Turns opening pieces pivoted next × LeadsTo opening next log last

-- the pieces at a moment of the table that the pass has seen: the entries until then, of all passes, lead to them; its own are among these, and
-- with all shares they are these
pub record HasSeen (v : View) (now : List PieceLists) : Type 0 where
  pub log : List Pivoted
  pub leads : LeadsTo v.opening v.opening.pieces log now
  pub own : AreAmong v.entries (numbered 0 log)
  pub whole : v.shares ≡ 64 → AreSame v.entries (numbered 0 log)
