use Rattle.std.proofs.Common.{rules, arith, ◌+◌, ℕ, List, ap, sym, subst, ◌∙◌}
use Rattle.simplex_driver.specs.Homes.{homes_of}
use Rattle.simplex_driver.proofs.AtHome as at_home
use Rattle.simplex_driver.proofs.AtHome.{AreHomesTo}
use Rattle.simplex_driver.proofs.Tables.{written_through}
use Rattle.simplex_driver.proofs.Turned.{taken_at}
use Rattle.simplex_driver.proofs.forest.Forest.homes.Goals.{in-Some, in_default}
use Rattle.simplex_driver.proofs.forest.Forest.homes.Goals as goal

pub write_homes-requires-clause-some : goal.write_homes-requires-clause-some
write_homes-requires-clause-some c =
    at_home.some c.requires.0 c.args.self.now c.requires.1 c.loop-node.node c.loop-node.homes.items c.loop-node.invariant c.in-Some.piece
    (taken_at c.args.self.now.slots.items c.loop-node.node c.index.result.now c.index.result.now (search rules) (search rules) (search rules) ∙ c.in-Some.is)

pub write_homes-requires-clause-within : goal.write_homes-requires-clause-within
write_homes-requires-clause-within c k d l =
    let r = at_home.within c.requires.0 c.args.self.now c.requires.1 c.loop-node.node c.loop-node.homes.items c.loop-node.invariant c.in-Some.piece
    (taken_at c.args.self.now.slots.items c.loop-node.node c.index.result.now c.index.result.now (search rules) (search rules) (search rules) ∙ c.in-Some.is) k d l in
    omega (arith, r, c.deref_mut.ensures.len, c.loop-node.homes.ok.0)

pub loop-node-preserved : goal.loop-node-preserved
loop-node-preserved c =
    let at = taken_at c.args.self.now.slots.items c.loop-node.node c.index.result.now c.index.result.now (search rules) (search rules) (search rules) in
    elim c.match-index.branch [
      | in-Some w ↦ at_home.piece_more c.requires.0 c.args.self.now c.requires.1 c.loop-node.node c.loop-node.homes.items c.loop-node.invariant w.in-Some.piece (at ∙ w.in-Some.is) c.match-index.homes.items
          (ap (λ v. v.items) w.homes-is
          ∙ written_through c.loop-node.homes (homes_of w.in-Some.piece.lists) w.deref_mut.result.now w.write_homes.new.homes w.deref_mut.ensures.value w.write_homes.ensures)
      | in_default w ↦ subst (λ (t : List ℕ). AreHomesTo c.args.self.now.slots.items (c.loop-node.node + 1) t) (sym (ap (λ v. v.items) w.homes-is))
          (at_home.none_more c.requires.0 c.args.self.now c.requires.1 c.loop-node.node c.loop-node.homes.items c.loop-node.invariant (at ∙ w.in_default.is))
    ]

pub returns : goal.returns
returns c = at_home.all_home c.requires.0 c.args.self.now c.requires.1 c.loop-node.node c.loop-node.homes.items c.loop-node.invariant (search rules)
