use Rattle.std.proofs.Common.{◌≡◌, take}
use Rattle.net_csv.proofs.draft.names_of.Given as goal

abbrev pub invariant-loop-place : goal.invariant-loop-place
invariant-loop-place l = l.items.items ≡ take l.place l.table
