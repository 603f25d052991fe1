use Rattle.std.proofs.Common.{rules}
use Rattle.std.proofs.lemmas.List.Sorted.{answers_always}
use Rattle.np_model.specs.declared.log.Mark.TheVariants.{Lower}
use Rattle.quasi_tree.proofs.Places.{found_at}
use Rattle.quasi_tree.proofs.place.mark_place.Goals as goal

-- the closure gives the entry's number
pub returns : goal.returns
returns c =
    let facts = c.binary_search_by_key.ensures in
    let by_key = facts.position (λ entry. entry.0) (answers_always _ _ _ (λ f a r g called. search rules)) in
    rw c.ok.ensures.value (found_at (λ entry. entry.0) c.args.marks.now c.requires c.args.arc c.binary_search_by_key.result (0, Lower) facts.bound by_key)
