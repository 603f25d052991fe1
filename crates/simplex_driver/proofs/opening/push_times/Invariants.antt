use Rattle.std.proofs.Common.{◌≡◌, ℕ, ◌++◌, map}
use Rattle.std.specs.List.{range_with_len}
use Rattle.simplex_driver.proofs.opening.push_times.Given as goal

abbrev pub invariant-loop : goal.invariant-loop
invariant-loop l = l.marks.items ≡ l.fn.marks.items ++ map (λ (v : ℕ). l.mark) (range_with_len 0 l.counter)
