use Rattle.std.proofs.Common.{rules, ◌≡◌, map, length, subst}
use Rattle.np_model.specs.Basis.Phases.{phase_net}
use Rattle.tree_table.specs.Passes.{opening_of}
use Rattle.pivot_workers.specs.Openings.{AreOpenings}
use Rattle.pivot_workers.proofs.Slots.{has_slot}
use Rattle.pivot_workers.proofs.Rounds.{round_is}
use Rattle.pivot_workers.proofs.rounding.run_round.Goals as goal

pub set_up-requires-clause-lie : goal.set_up-requires-clause-lie
set_up-requires-clause-lie g c κs within = has_slot (phase_net c.args.phase c.args.full.now) (map g.T.Piece.lists c.args.pieces.items) c.requires.forest

pub returns-clause-round : goal.returns-clause-round
returns-clause-round g c =
    let n : c.len-nodes.result ≡ length c.args.full.now.net.supply = search rules in
    let p : c.deref.result.now ≡ c.args.pieces.items = c.deref.ensures.value in
    let o : c.in-Ok.openings ≡ c.as_slice.result.now = search rules in
    let named = subst (λ k. AreOpenings k (map g.T.Piece.lists c.args.pieces.items) c.as_slice.result.now) n
    (subst (λ z. AreOpenings c.len-nodes.result (map g.T.Piece.lists z) c.as_slice.result.now) p
    (subst (λ z. AreOpenings c.len-nodes.result (map g.T.Piece.lists c.deref.result.now) z) o c.in-Ok.ensures)) in
    round_is c.seen.ensures.one c.seen.ensures.opening c.tickets.ensures (opening_of c.args.full.now c.args.phase (map g.T.Piece.lists c.args.pieces.items)) c.as_slice.result.now
    c.in_ok-table.pass c.crew-pass.result.0 c.in_ok-table.ensures.pass.1 c.args.list.now c.args.workers c.args.quota c.crew-pass.result.1
    (map g.T.Piece.lists c.close-closed.result.pieces.items) c.close-closed.result.entries c.requires.work.0 c.crew-pass.ensures.crew c.close-closed.ensures named c.crew-pass.ensures.one
