-- The words of an empty table, and a list with room, in a table of its own. (This project's own.)
use Rattle.std.specs.Prelude.{◌≡◌, ℕ, ◌+◌, ◌<◌, ◌≤◌, List, length, slice_index, vec_len, vec_capacity}
use Rattle.std.specs.declared.vec.Vec.{Vec}
use mathlib.Core.Option.{some}
use lib.ListN.{get_elem?}
use Rattle.atomic_table.specs.Table.{State}

-- the one slot has an empty list with room for n items
pub record HasRoom {T A V : Type 0} (n : ℕ) (s : State (Vec T A) V) : Type 0 where
  pub list : Vec T A
  pub there : get_elem? s.homes 0 ≡ some (some list)
  pub empty : vec_len list ≡ 0
  pub room : n ≤ vec_capacity list

-- the clock shows 0, and n claim words EMPTY
pub record AreEmptyWords (n : ℕ) (words : List ℕ) : Type 0 where
  pub one_each : length words ≡ n + 1
  pub clock : slice_index words 0 ≡ 0
  pub empty : (k : ℕ) → k < n → slice_index words (k + 1) ≡ 2
