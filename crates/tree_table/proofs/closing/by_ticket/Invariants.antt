use Rattle.std.proofs.Common.{◌≡◌, map, take, vec_len, vec_capacity}
use Rattle.tree_table.proofs.closing.by_ticket.Given as goal

abbrev pub invariant-loop-e : goal.invariant-loop-e
invariant-loop-e l = (l.order.items ≡ map (λ x. x.1) (take l.e-index l.e-items)) × (vec_len l.order ≡ l.e-index) × (vec_capacity l.order ≡ vec_capacity l.initial.order)
