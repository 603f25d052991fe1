use Rattle.std.specs.Prelude.{length}
use Rattle.std.specs.List.{flat_map}
use Rattle.std.proofs.Common.{ap, sym, ◌∙◌}
use Rattle.std.proofs.Math.ListN.{length-set}
use Rattle.np_model.specs.Basis.Needed.{lists_held}
use Rattle.quasi_tree.specs.Store.{Store}
use Rattle.simplex_driver.specs.Store.{written, potentials_of, flows_written, LiesWithin}
use Rattle.simplex_driver.proofs.Tables.{length_written}
use Rattle.simplex_driver.proofs.Housing.{written_two, within_after, the_first, the_second}
use Rattle.simplex_driver.proofs.forest.Forest.house_all.Goals as goal

pub house-requires-in-Two : goal.house-requires-in-Two
house-requires-in-Two c = the_first (LiesWithin c.args.self.now) c.args.pieces c.in-Two.piece c.in-Two.other c.in-Two.is c.requires

pub house-requires-in-Two-2 : goal.house-requires-in-Two-2
house-requires-in-Two-2 c =
    within_after c.args.self.now c.house-in-Two.new.self c.in-Two.other.lists
    (ap length c.house-in-Two.ensures.slots ∙ length-set c.args.self.now.slots.items _ _)
    (ap length c.house-in-Two.ensures.potentials ∙ length_written (potentials_of c.in-Two.piece.lists) c.args.self.now.potentials.items)
    (ap length c.house-in-Two.ensures.flows ∙ length_written (flows_written c.in-Two.piece.lists) c.args.self.now.flows.items)
    (the_second (LiesWithin c.args.self.now) c.args.pieces c.in-Two.piece c.in-Two.other c.in-Two.is c.requires)

pub returns-in-Two-clause-potentials : goal.returns-in-Two-clause-potentials
returns-in-Two-clause-potentials c =
    c.house-in-Two-2.ensures.potentials ∙ ap (written (potentials_of c.in-Two.other.lists)) c.house-in-Two.ensures.potentials
    ∙ written_two potentials_of c.in-Two.piece.lists c.in-Two.other.lists c.args.self.now.potentials.items
    ∙ ap (λ h. written (flat_map potentials_of (lists_held (λ (s : Store). s.lists) h)) c.args.self.now.potentials.items) (sym c.in-Two.is)

pub returns-in-Two-clause-flows : goal.returns-in-Two-clause-flows
returns-in-Two-clause-flows c =
    c.house-in-Two-2.ensures.flows ∙ ap (written (flows_written c.in-Two.other.lists)) c.house-in-Two.ensures.flows
    ∙ written_two flows_written c.in-Two.piece.lists c.in-Two.other.lists c.args.self.now.flows.items
    ∙ ap (λ h. written (flat_map flows_written (lists_held (λ (s : Store). s.lists) h)) c.args.self.now.flows.items) (sym c.in-Two.is)
