use Rattle.std.proofs.Common.{arith, ap, sym, subst, ◌∙◌, [], ◌∷◌, ◌++◌, ◌≡◌, ℕ, vec_len, vec_capacity}
use mathlib.Core.Option.{some}
use lib.ListN.{get_elem?}
use Rattle.std.specs.Slots.{slots_filled, slots_counts}
use Rattle.tree_table.proofs.Gather.{still_full, now_empty, somes_some, somes_none}
use Rattle.tree_table.proofs.closing.gather.Goals as goal
use Rattle.tree_table.proofs.closing.gather.Goals.{in-Some, in-None}

pub loop-k-preserved : goal.loop-k-preserved
loop-k-preserved g c =
    let i = c.loop-k.invariant in let t = c.take.ensures in let k : ℕ = c.loop-k.k in
    let old = c.loop-k.closed.slots in let row = c.take.new.self.slots in
    let near = c.loop-k-test.true in let cnt = c.slot_count-count.ensures in
    let filled = t.others.1 in
    let items = t.others.0 ∙ i.0 in
    let len = t.others.2 ∙ i.1 in
    let here = subst (λ z. get_elem? z k ≡ some c.take.result) i.0 t.value in
    let full = still_full (slots_filled old) (slots_filled row) k _ filled i.2 in
    let bare = now_empty (slots_filled old) (slots_filled row) k (let a = (slots_counts old).1 in let b = i.1 in omega arith) filled i.3 in
    elim c.match-take.branch [
      | in-Some w ↦ (
        items,
        len,
        full,
        bare,
        ap (λ v. v.items) w.pieces-is ∙ (w.push_reserved.ensures.items ∙ (ap (λ l. l ++ w.in-Some.piece ∷ []) i.4 ∙ sym (somes_some _ k w.in-Some.piece (here ∙ ap some w.in-Some.is)))),
        (let a = w.push_reserved.ensures.len in let b = ap vec_len w.pieces-is in let d = i.5 in omega arith),
        ap vec_capacity w.pieces-is ∙ (w.push_reserved.ensures.capacity ∙ i.6),
      )
      | in-None w ↦ (
        items,
        len,
        full,
        bare,
        ap (λ v. v.items) w.pieces-is ∙ (i.4 ∙ sym (somes_none _ k (here ∙ ap some w.in-None.is))),
        (let b = ap vec_len w.pieces-is in let d = i.5 in omega arith),
        ap vec_capacity w.pieces-is ∙ i.6,
      )
    ]
