use Rattle.std.proofs.Common.{rules, ◌≡◌, length, sym, subst}
use Rattle.np_model.specs.Basis.Phases.{phase_net}
use Rattle.pivot_workers.specs.Forests.{AreForest}
use Rattle.pivot_workers.proofs.Slots.{has_slot}
use Rattle.simplex_driver.specs.Store.{lists_all}
use Rattle.simplex_driver.proofs.Seeing.{forest_taken, first_ready}
use Rattle.simplex_driver.proofs.passes.opened.Goals as goal

pub opening_slots-requires-clause-forest : goal.opening_slots-requires-clause-forest
opening_slots-requires-clause-forest c κs =
    let n : c.len-nodes.result ≡ length c.args.full.now.net.supply = search rules in
    let forest = forest_taken c.args.full.now c.args.phase c.args.forest.now c.deref_mut.result.now c.in_ok-pieces.pieces.items c.requires.kept c.requires.state c.deref_mut.ensures.value c.in_ok-pieces.ensures.pieces in
    (phase_net c.args.phase c.args.full.now, sym n, subst (λ ps. AreForest (phase_net c.args.phase c.args.full.now) (lists_all ps)) (sym c.deref.ensures.value) forest)

pub set_up-requires-clause-lie : goal.set_up-requires-clause-lie
set_up-requires-clause-lie c κs =
    has_slot (phase_net c.args.phase c.args.full.now) (lists_all c.in_ok-pieces.pieces.items)
    (forest_taken c.args.full.now c.args.phase c.args.forest.now c.deref_mut.result.now c.in_ok-pieces.pieces.items c.requires.kept c.requires.state c.deref_mut.ensures.value c.in_ok-pieces.ensures.pieces)

pub set_up-requires-clause-apart : goal.set_up-requires-clause-apart
set_up-requires-clause-apart c κs =
    (forest_taken c.args.full.now c.args.phase c.args.forest.now c.deref_mut.result.now c.in_ok-pieces.pieces.items c.requires.kept c.requires.state c.deref_mut.ensures.value c.in_ok-pieces.ensures.pieces).pieces_of.apart

pub returns-in-Ok-clause-ready : goal.returns-in-Ok-clause-ready
returns-in-Ok-clause-ready c =
    first_ready c.args.full.now c.args.phase (lists_all c.in_ok-pieces.pieces.items) c.in-Ok.pass c.in-Ok.ensures.pass.1
    (forest_taken c.args.full.now c.args.phase c.args.forest.now c.deref_mut.result.now c.in_ok-pieces.pieces.items c.requires.kept c.requires.state c.deref_mut.ensures.value c.in_ok-pieces.ensures.pieces)
