use Rattle.std.proofs.Common.{rules, ap, sym, refl, ◌∙◌, ◌≡◌, map, List}
use Rattle.std.proofs.lemmas.List.Recursion.{is_sum_by}
use Rattle.std.proofs.lemmas.List.Sorted.{IsNonDecreasingBy-from_sort_by_key, sum_by-IsPermutation}
use Rattle.std.proofs.lemmas.List.{take_all}
use Rattle.tree_table.specs.Weights.{weigh, AreSame}
use Rattle.tree_table.specs.Steps.Closing.{ticketed_from}
use Rattle.tree_table.proofs.Tickets.{Ticketed, in_ticket_order, rising, seconds}
use Rattle.tree_table.proofs.closing.by_ticket.Goals as goal

pub returns : goal.returns
returns c = λ entries same.
    let xs : List Ticketed = c.sort_unstable_by_key.new.self.items in
    let up = rising xs (IsNonDecreasingBy-from_sort_by_key (λ x. x.0) xs c.sort_unstable_by_key.ensures.sorted (λ a r q k. search rules)) in
    let is : AreSame xs (ticketed_from 0 entries) = λ f.
    is_sum_by (weigh f) f refl (λ _ _. refl) xs
    ∙ (sum_by-IsPermutation f c.args.made.items xs c.sort_unstable_by_key.ensures.permutation ∙ (sym (is_sum_by (weigh f) f refl (λ _ _. refl) c.args.made.items) ∙ same f)) in
    let all : xs ≡ ticketed_from 0 entries = in_ticket_order 0 xs entries up is in
    c.loop-e.invariant.0 ∙ (ap (map (λ (x : Ticketed). x.1)) (take_all c.loop-e.e-index c.deref-e-items.result.now c.loop-e-test.false ∙ (c.deref-e-items.ensures.value ∙ all)) ∙ seconds 0 entries)
