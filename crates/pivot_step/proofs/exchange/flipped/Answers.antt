use Rattle.std.proofs.Common.{◌≤◌, ◌<◌, ◌∷◌, [], sym, subst, ap, inl, inr, refl}
use Rattle.std.specs.Option.{option_copied}
use Rattle.std.specs.Prelude.{Option}
use Rattle.gain_graphs.specs.Arcs.{IsIn}
use Rattle.np_model.specs.Basis.Needed.{lists_of}
use Rattle.np_model.specs.Basis.Pieces.{AreApart, least_node}
use Rattle.quasi_tree.specs.Store.{Store}
use Rattle.pivot_step.specs.Steps.{AreKept}
use Rattle.pivot_step.proofs.Entering.{is_first}
use Rattle.pivot_step.proofs.Kept.{two_kept, swapped_kept}
use Rattle.pivot_step.proofs.exchange.flipped.Goals as goal

pub kept-requires : goal.kept-requires
kept-requires c = c.requires.all c.args.first.now.lists (is_first c.args.first.now.lists (option_copied c.args.second))

pub kept-requires-2 : goal.kept-requires-2
kept-requires-2 c =
    c.requires.all c.in-Some.other.now.lists (subst (λ (o : Option Store). IsIn c.in-Some.other.now.lists (lists_of (λ (s : Store). s.lists) c.args.first.now.lists o)) (sym (ap (λ o. option_copied o) c.in-Some.is)) (inr (inl refl)))

pub returns-then-least : goal.returns-then-least
returns-then-least c =
    subst (λ (o : Option Store). AreKept c.args.after.now.lists (lists_of (λ (s : Store). s.lists) c.args.first.now.lists o) (c.in_ok-piece.piece.lists ∷ c.in_ok-other_piece.other_piece.lists ∷ [])) (sym (ap (λ o. option_copied o) c.in-Some.is))
    (two_kept c.args.after.now.lists c.args.first.now.lists c.in-Some.other.now.lists c.in_ok-piece.piece.lists c.in_ok-other_piece.other_piece.lists c.in_ok-piece.ensures c.in_ok-other_piece.ensures
    (subst (λ n. least_node c.args.first.now.lists < n) c.least-2.ensures (subst (λ n. n < c.least-2.result) c.least.ensures c.if-least.true)))

pub returns : goal.returns
returns c =
    subst (λ (o : Option Store). AreKept c.args.after.now.lists (lists_of (λ (s : Store). s.lists) c.args.first.now.lists o) (c.in_ok-other_piece.other_piece.lists ∷ c.in_ok-piece.piece.lists ∷ [])) (sym (ap (λ o. option_copied o) c.in-Some.is))
    (swapped_kept c.args.after.now.lists c.args.first.now.lists c.in-Some.other.now.lists c.in_ok-piece.piece.lists c.in_ok-other_piece.other_piece.lists c.in_ok-piece.ensures c.in_ok-other_piece.ensures
    (c.requires.all c.args.first.now.lists (is_first c.args.first.now.lists (option_copied c.args.second))).some
    (c.requires.all c.in-Some.other.now.lists (subst (λ (o : Option Store). IsIn c.in-Some.other.now.lists (lists_of (λ (s : Store). s.lists) c.args.first.now.lists o)) (sym (ap (λ o. option_copied o) c.in-Some.is)) (inr (inl refl)))).some
    (subst (λ (o : Option Store). AreApart (lists_of (λ (s : Store). s.lists) c.args.first.now.lists o)) (ap (λ o. option_copied o) c.in-Some.is) c.requires.apart)
    (subst (λ n. least_node c.in-Some.other.now.lists ≤ n) c.least.ensures (subst (λ n. n ≤ c.least.result) c.least-2.ensures c.if-least.false)))
