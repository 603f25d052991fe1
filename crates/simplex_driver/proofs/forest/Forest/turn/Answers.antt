use Rattle.std.proofs.Common.{refl, sym, ap, subst, ◌∙◌, length}
use Rattle.std.proofs.lemmas.List.{with_items_is}
use Rattle.std.specs.Vec.{with_items}
use Rattle.np_model.specs.declared.phase.Phase.TheVariants.{One, Two}
use Rattle.np_model.specs.Basis.Phases.{network_of, phase_net}
use Rattle.np_basis.proofs.Fulls.{full_net_is_sound}
use Rattle.simplex_driver.specs.Turns.{CanTurn}
use Rattle.simplex_driver.proofs.SecondStage as second
use Rattle.simplex_driver.proofs.forest.Forest.turn.Goals as goal

pub turn_pieces-requires-clause-can : goal.turn_pieces-requires-clause-can
turn_pieces-requires-clause-can c =
    subst (CanTurn (phase_net Two c.args.full.now)) (sym c.deref_mut.ensures.value)
    (second.can_turn (network_of c.args.full.now.net) c.args.full.now.artificial c.args.self.now c.requires.state c.requires.kept (full_net_is_sound One c.args.full.now))

pub returns-clause-turn : goal.returns-clause-turn
returns-clause-turn c =
    second.turn_ok c.args.full.now c.args.self.now c.requires.artificial c.requires.kept c.requires.state c.requires.none c.turn_pieces.new.slots c.deref_mut.result.now c.turn_pieces.new.table c.deref_mut-2.result.now
    c.deref_mut.ensures.value c.deref_mut-2.ensures.value c.turn_pieces.ensures.table_long
    (record { slots = with_items c.args.self.now.slots c.turn_pieces.new.slots; potentials = with_items c.args.self.now.potentials c.turn_pieces.new.table; flows = c.args.self.now.flows; marks = c.args.self.now.marks })
    (with_items_is c.args.self.now.slots c.turn_pieces.new.slots (c.turn_pieces.ensures.slots_long ∙ ap length c.deref_mut.ensures.value ∙ sym c.args.self.now.slots.ok.0))
    (with_items_is c.args.self.now.potentials c.turn_pieces.new.table (c.turn_pieces.ensures.table_long ∙ ap length c.deref_mut-2.ensures.value ∙ sym c.args.self.now.potentials.ok.0)) refl refl c.turn_pieces.result c.turn_pieces.ensures.turned

pub returns-clause-kept : goal.returns-clause-kept
returns-clause-kept c =
    second.kept_ok c.args.full.now c.args.self.now c.requires.artificial c.requires.kept c.requires.state c.requires.none c.turn_pieces.new.slots c.deref_mut.result.now c.turn_pieces.new.table c.deref_mut-2.result.now
    c.deref_mut.ensures.value c.deref_mut-2.ensures.value c.turn_pieces.ensures.table_long
    (record { slots = with_items c.args.self.now.slots c.turn_pieces.new.slots; potentials = with_items c.args.self.now.potentials c.turn_pieces.new.table; flows = c.args.self.now.flows; marks = c.args.self.now.marks })
    (with_items_is c.args.self.now.slots c.turn_pieces.new.slots (c.turn_pieces.ensures.slots_long ∙ ap length c.deref_mut.ensures.value ∙ sym c.args.self.now.slots.ok.0))
    (with_items_is c.args.self.now.potentials c.turn_pieces.new.table (c.turn_pieces.ensures.table_long ∙ ap length c.deref_mut-2.ensures.value ∙ sym c.args.self.now.potentials.ok.0)) refl refl c.turn_pieces.result c.turn_pieces.ensures.turned
