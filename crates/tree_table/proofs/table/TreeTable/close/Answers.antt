use Rattle.std.proofs.Common.{ap, subst, ◌∙◌, map}
use Rattle.tree_table.specs.Passes.{Pivoted, PassState}
use Rattle.tree_table.specs.Weights.{AreSame}
use Rattle.tree_table.specs.Replay.{LeadsTo, numbered}
use Rattle.tree_table.proofs.Ends.{closes}
use Rattle.tree_table.proofs.Gather.{closed_gives}
use Rattle.tree_table.proofs.Tickets.{plain_same}
use Rattle.tree_table.proofs.table.TreeTable.close.Goals as goal

pub returns : goal.returns
returns g c =
    let p = c.pass.inside in
    let all = ap (λ k. k.view.shares) c.pass.view_is ∙ c.requires.shares in
    let bare = ap (λ k. k.view.hands) c.pass.view_is ∙ c.requires.bare in
    let end = closes g.T.Piece.lists _ p.seat.id p.seat.me.0 _ _ c.close_with-closed.ensures.values.2 all bare in
    let t = closed_gives g.T.Piece.lists c.gather.result.items _ end.0 c.gather.ensures end.1.1 end.1.2 in
    let seen = end.1.0 in
    let own = seen.whole all in
    record {
      log = seen.log;
      now = end.0;
      leads = subst (λ (z : PassState). LeadsTo z.view.opening z.view.opening.pieces seen.log end.0) c.pass.view_is seen.leads;
      whole = subst (λ (z : PassState). AreSame z.view.entries (numbered 0 seen.log)) c.pass.view_is own;
      entries_are = c.by_ticket.ensures (map (λ (m : Pivoted). m.entry) seen.log) (plain_same p.made.items p.seat.me.0.entries seen.log c.pass.invariant.entries_are own);
      pieces_are = t.0;
      ascend = t.1;
    }
