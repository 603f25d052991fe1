use Rattle.std.proofs.Common.{◌≡◌, ℕ, ◌<◌, ◌≤◌, length, slice_index_or}
use Rattle.np_frac.specs.Ratio.{Ratio, zero_ratio}
use Rattle.quasi_tree.proofs.place.put_values.Given as goal

abbrev pub invariant-loop-place : goal.invariant-loop-place
invariant-loop-place l = record {
  long : length l.entries.items ≡ length l.fn.entries.items;
  len : l.entries.len ≡ l.fn.entries.len;
  cap : l.entries.cap ≡ l.fn.entries.cap;
  done : (i : ℕ) (d : ℕ × Ratio) → i < l.place → slice_index_or l.entries.items i d ≡ ((slice_index_or l.fn.entries.items i d).0, slice_index_or l.values i zero_ratio);
  rest : (i : ℕ) (d : ℕ × Ratio) → l.place ≤ i → slice_index_or l.entries.items i d ≡ slice_index_or l.fn.entries.items i d;
}
