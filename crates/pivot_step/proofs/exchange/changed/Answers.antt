use Rattle.std.proofs.Common.{◌∙◌, ◌∷◌, ℕ, List, sym, subst, ap}
use Rattle.gain_graphs.specs.Arcs.{IsIn}
use Rattle.np_frac.specs.Ratio.{Ratio}
use Rattle.np_model.specs.declared.arc.Ends.{Ends}
use Rattle.np_model.specs.declared.log.Mark.{Mark}
use Rattle.quasi_tree.specs.Store.{Store}
use Rattle.tree_search.specs.Places.{numbers_of_arcs}
use Rattle.pivot_step.proofs.exchange.changed.Goals as goal

pub flows_after-requires-clause-own : goal.flows_after-requires-clause-own
flows_after-requires-clause-own c = λ a i. subst (λ (t : List (ℕ × Ends × Ratio)). IsIn a (c.args.entering.0 ∷ numbers_of_arcs t)) (sym (c.as_slice.ensures.value ∙ ap (λ (s : Store). s.lists.basics) c.one.view_is)) (c.requires.own a i)

pub marks_after-requires-clause-leaves : goal.marks_after-requires-clause-leaves
marks_after-requires-clause-leaves c = λ m i. c.requires.leaves m (subst (λ (t : List (ℕ × Mark)). IsIn m t) (c.as_slice-2.ensures.value ∙ ap (λ (s : Store). s.lists.marks) c.one.view_is) i)
