use Rattle.std.proofs.Common.{inl, inr, refl, sym, subst}
use Rattle.std.specs.Option.{option_copied}
use Rattle.gain_graphs.specs.Arcs.{IsIn}
use Rattle.np_model.specs.Basis.Needed.{lists_of}
use Rattle.quasi_tree.specs.Store.{Store}
use Rattle.tree_flows.proofs.pieces.steps_on.Goals as goal

pub steps_on_one-requires : goal.steps_on_one-requires
steps_on_one-requires c = record {
  in_net = (
    c.requires.in_net.0,
    c.requires.in_net.1,
    c.requires.in_net.2 c.args.first.now.lists (subst (λ o. IsIn c.args.first.now.lists (lists_of (λ (s : Store). s.lists) c.args.first.now.lists (option_copied o))) (sym c.in-None.is) (inl refl)),
  );
}

pub steps_in_order-requires : goal.steps_in_order-requires
steps_in_order-requires c = record {
  in_net = (
    c.requires.in_net.0,
    c.requires.in_net.1,
    c.requires.in_net.2 c.args.first.now.lists (subst (λ o. IsIn c.args.first.now.lists (lists_of (λ (s : Store). s.lists) c.args.first.now.lists (option_copied o))) (sym c.in-Some.is) (inl refl)),
    c.requires.in_net.2 c.in-Some.other.now.lists (subst (λ o. IsIn c.in-Some.other.now.lists (lists_of (λ (s : Store). s.lists) c.args.first.now.lists (option_copied o))) (sym c.in-Some.is) (inr (inl refl))),
  );
}

pub returns-in-None : goal.returns-in-None
returns-in-None c = rw c.in-None.is c.steps_on_one.ensures

pub returns-in-Some : goal.returns-in-Some
returns-in-Some c = rw c.in-Some.is c.steps_in_order.ensures
