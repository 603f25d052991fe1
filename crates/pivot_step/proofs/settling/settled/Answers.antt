use Rattle.std.proofs.Common.{sym, subst, inl, inr, refl}
use Rattle.gain_graphs.specs.Arcs.{IsIn}
use Rattle.np_model.specs.declared.piece.Hands.{Hands}
use Rattle.quasi_tree.specs.Store.{Store}
use Rattle.piece_lists.specs.Parts.{lists_in}
use Rattle.pivot_step.proofs.settling.settled.Goals as goal

pub settled_piece-requires : goal.settled_piece-requires
settled_piece-requires c = c.requires c.in-One.piece.lists (subst (λ (h : Hands Store). IsIn c.in-One.piece.lists (lists_in h)) (sym c.in-One.is) (inl refl))

pub settled_piece-requires-in-Two : goal.settled_piece-requires-in-Two
settled_piece-requires-in-Two c = c.requires c.in-Two.piece.lists (subst (λ (h : Hands Store). IsIn c.in-Two.piece.lists (lists_in h)) (sym c.in-Two.is) (inl refl))

pub settled_piece-requires-in-Two-2 : goal.settled_piece-requires-in-Two-2
settled_piece-requires-in-Two-2 c = c.requires c.in-Two.other.lists (subst (λ (h : Hands Store). IsIn c.in-Two.other.lists (lists_in h)) (sym c.in-Two.is) (inr (inl refl)))
