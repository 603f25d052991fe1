use Rattle.std.proofs.Common.{◌<◌, ℕ, sym, subst, ◌∷◌, []}
use Rattle.np_model.specs.Basis.Phases.{phase_net, real_arcs}
use Rattle.simplex_driver.specs.Homes.{HaveHomes}
use Rattle.simplex_driver.proofs.Attempts as attempts
use Rattle.simplex_driver.proofs.forest.Forest.attempt.Goals as goal

pub piece_of-first-requires : goal.piece_of-first-requires
piece_of-first-requires c = (subst (HaveHomes c.args.self.now.slots.items c.args.homes.now) c.in-Link.is (attempts.have_homes (phase_net c.args.phase c.args.full.now) (real_arcs c.args.full.now) (attempts.ground c.args.phase c.args.full.now) c.args.self.now c.requires.state c.requires.kept c.args.homes.now c.requires.homes c.ends.result (attempts.joins (phase_net c.args.phase c.args.full.now) (real_arcs c.args.full.now) (attempts.ground c.args.phase c.args.full.now) c.args.self.now c.requires.state c.requires.kept c.args.homes.now c.requires.homes c.args.arc c.ends.result (subst (λ (t : ℕ). c.args.arc < t) (sym (attempts.long c.args.phase c.args.full.now)) c.requires.is_arc) (c.ends.ensures c.args.phase)))).0

pub share_home-requires-clause-one : goal.share_home-requires-clause-one
share_home-requires-clause-one c = (subst (HaveHomes c.args.self.now.slots.items c.args.homes.now) c.in-Link.is (attempts.have_homes (phase_net c.args.phase c.args.full.now) (real_arcs c.args.full.now) (attempts.ground c.args.phase c.args.full.now) c.args.self.now c.requires.state c.requires.kept c.args.homes.now c.requires.homes c.ends.result (attempts.joins (phase_net c.args.phase c.args.full.now) (real_arcs c.args.full.now) (attempts.ground c.args.phase c.args.full.now) c.args.self.now c.requires.state c.requires.kept c.args.homes.now c.requires.homes c.args.arc c.ends.result (subst (λ (t : ℕ). c.args.arc < t) (sym (attempts.long c.args.phase c.args.full.now)) c.requires.is_arc) (c.ends.ensures c.args.phase)))).0.node

pub share_home-requires-clause-another : goal.share_home-requires-clause-another
share_home-requires-clause-another c = (subst (HaveHomes c.args.self.now.slots.items c.args.homes.now) c.in-Link.is (attempts.have_homes (phase_net c.args.phase c.args.full.now) (real_arcs c.args.full.now) (attempts.ground c.args.phase c.args.full.now) c.args.self.now c.requires.state c.requires.kept c.args.homes.now c.requires.homes c.ends.result (attempts.joins (phase_net c.args.phase c.args.full.now) (real_arcs c.args.full.now) (attempts.ground c.args.phase c.args.full.now) c.args.self.now c.requires.state c.requires.kept c.args.homes.now c.requires.homes c.args.arc c.ends.result (subst (λ (t : ℕ). c.args.arc < t) (sym (attempts.long c.args.phase c.args.full.now)) c.requires.is_arc) (c.ends.ensures c.args.phase)))).1.node

pub piece_of-requires-in-Link : goal.piece_of-requires-in-Link
piece_of-requires-in-Link c = (subst (HaveHomes c.args.self.now.slots.items c.args.homes.now) c.in-Link.is (attempts.have_homes (phase_net c.args.phase c.args.full.now) (real_arcs c.args.full.now) (attempts.ground c.args.phase c.args.full.now) c.args.self.now c.requires.state c.requires.kept c.args.homes.now c.requires.homes c.ends.result (attempts.joins (phase_net c.args.phase c.args.full.now) (real_arcs c.args.full.now) (attempts.ground c.args.phase c.args.full.now) c.args.self.now c.requires.state c.requires.kept c.args.homes.now c.requires.homes c.args.arc c.ends.result (subst (λ (t : ℕ). c.args.arc < t) (sym (attempts.long c.args.phase c.args.full.now)) c.requires.is_arc) (c.ends.ensures c.args.phase)))).1

pub prepare-requires-then-share_home-clause-sound : goal.prepare-requires-then-share_home-clause-sound
prepare-requires-then-share_home-clause-sound c = attempts.sound (phase_net c.args.phase c.args.full.now) (real_arcs c.args.full.now) (attempts.ground c.args.phase c.args.full.now) c.args.self.now c.requires.state c.requires.kept c.args.homes.now c.requires.homes (c.piece_of-first.result.now.lists ∷ []) (attempts.single (phase_net c.args.phase c.args.full.now) (real_arcs c.args.full.now) (attempts.ground c.args.phase c.args.full.now) c.args.self.now c.requires.state c.requires.kept c.args.homes.now c.requires.homes c.in-Link.from c.piece_of-first.result.now c.piece_of-first.ensures)

pub prepare-requires-then-share_home-clause-needed : goal.prepare-requires-then-share_home-clause-needed
prepare-requires-then-share_home-clause-needed c = attempts.needs_same (phase_net c.args.phase c.args.full.now) (real_arcs c.args.full.now) (attempts.ground c.args.phase c.args.full.now) c.args.self.now c.requires.state c.requires.kept c.args.homes.now c.requires.homes c.args.arc c.in-Link.from c.in-Link.to c.in-Link.gain c.piece_of-first.result.now c.ends.result (subst (λ (t : ℕ). c.args.arc < t) (sym (attempts.long c.args.phase c.args.full.now)) c.requires.is_arc) (c.ends.ensures c.args.phase) c.in-Link.is (attempts.same_home c.args.homes.now c.in-Link.from c.in-Link.to c.share_home.result c.share_home.ensures c.if-share_home.true) c.piece_of-first.ensures

pub returns-then-share_home : goal.returns-then-share_home
returns-then-share_home c = record {
  pieces = c.piece_of-first.result.now.lists ∷ [];
  pieces_of = attempts.single (phase_net c.args.phase c.args.full.now) (real_arcs c.args.full.now) (attempts.ground c.args.phase c.args.full.now) c.args.self.now c.requires.state c.requires.kept c.args.homes.now c.requires.homes c.in-Link.from c.piece_of-first.result.now c.piece_of-first.ensures;
  needed = attempts.needs_same (phase_net c.args.phase c.args.full.now) (real_arcs c.args.full.now) (attempts.ground c.args.phase c.args.full.now) c.args.self.now c.requires.state c.requires.kept c.args.homes.now c.requires.homes c.args.arc c.in-Link.from c.in-Link.to c.in-Link.gain c.piece_of-first.result.now c.ends.result (subst (λ (t : ℕ). c.args.arc < t) (sym (attempts.long c.args.phase c.args.full.now)) c.requires.is_arc) (c.ends.ensures c.args.phase) c.in-Link.is (attempts.same_home c.args.homes.now c.in-Link.from c.in-Link.to c.share_home.result c.share_home.ensures c.if-share_home.true) c.piece_of-first.ensures;
  prepared = c.prepare-then-share_home.ensures;
}

pub prepare-requires-in-Link-clause-sound : goal.prepare-requires-in-Link-clause-sound
prepare-requires-in-Link-clause-sound c = attempts.sound (phase_net c.args.phase c.args.full.now) (real_arcs c.args.full.now) (attempts.ground c.args.phase c.args.full.now) c.args.self.now c.requires.state c.requires.kept c.args.homes.now c.requires.homes (c.piece_of-first.result.now.lists ∷ c.piece_of-in-Link.result.now.lists ∷ [])
    (attempts.double (phase_net c.args.phase c.args.full.now) (real_arcs c.args.full.now) (attempts.ground c.args.phase c.args.full.now) c.args.self.now c.requires.state c.requires.kept c.args.homes.now c.requires.homes c.in-Link.from c.in-Link.to c.piece_of-first.result.now c.piece_of-in-Link.result.now (attempts.other_home c.args.homes.now c.in-Link.from c.in-Link.to c.share_home.result c.share_home.ensures c.if-share_home.false) c.piece_of-first.ensures c.piece_of-in-Link.ensures)

pub prepare-requires-in-Link-clause-needed : goal.prepare-requires-in-Link-clause-needed
prepare-requires-in-Link-clause-needed c = attempts.needs_two (phase_net c.args.phase c.args.full.now) (real_arcs c.args.full.now) (attempts.ground c.args.phase c.args.full.now) c.args.self.now c.requires.state c.requires.kept c.args.homes.now c.requires.homes c.args.arc c.in-Link.from c.in-Link.to c.in-Link.gain c.piece_of-first.result.now c.piece_of-in-Link.result.now c.ends.result (subst (λ (t : ℕ). c.args.arc < t) (sym (attempts.long c.args.phase c.args.full.now)) c.requires.is_arc) (c.ends.ensures c.args.phase) c.in-Link.is c.piece_of-first.ensures c.piece_of-in-Link.ensures

pub returns-else-share_home : goal.returns-else-share_home
returns-else-share_home c = record {
  pieces = c.piece_of-first.result.now.lists ∷ c.piece_of-in-Link.result.now.lists ∷ [];
  pieces_of = attempts.double (phase_net c.args.phase c.args.full.now) (real_arcs c.args.full.now) (attempts.ground c.args.phase c.args.full.now) c.args.self.now c.requires.state c.requires.kept c.args.homes.now c.requires.homes c.in-Link.from c.in-Link.to c.piece_of-first.result.now c.piece_of-in-Link.result.now (attempts.other_home c.args.homes.now c.in-Link.from c.in-Link.to c.share_home.result c.share_home.ensures c.if-share_home.false) c.piece_of-first.ensures c.piece_of-in-Link.ensures;
  needed = attempts.needs_two (phase_net c.args.phase c.args.full.now) (real_arcs c.args.full.now) (attempts.ground c.args.phase c.args.full.now) c.args.self.now c.requires.state c.requires.kept c.args.homes.now c.requires.homes c.args.arc c.in-Link.from c.in-Link.to c.in-Link.gain c.piece_of-first.result.now c.piece_of-in-Link.result.now c.ends.result (subst (λ (t : ℕ). c.args.arc < t) (sym (attempts.long c.args.phase c.args.full.now)) c.requires.is_arc) (c.ends.ensures c.args.phase) c.in-Link.is c.piece_of-first.ensures c.piece_of-in-Link.ensures;
  prepared = c.prepare-in-Link.ensures;
}

pub piece_of-requires : goal.piece_of-requires
piece_of-requires c = subst (HaveHomes c.args.self.now.slots.items c.args.homes.now) c.in-Drain.is (attempts.have_homes (phase_net c.args.phase c.args.full.now) (real_arcs c.args.full.now) (attempts.ground c.args.phase c.args.full.now) c.args.self.now c.requires.state c.requires.kept c.args.homes.now c.requires.homes c.ends.result (attempts.joins (phase_net c.args.phase c.args.full.now) (real_arcs c.args.full.now) (attempts.ground c.args.phase c.args.full.now) c.args.self.now c.requires.state c.requires.kept c.args.homes.now c.requires.homes c.args.arc c.ends.result (subst (λ (t : ℕ). c.args.arc < t) (sym (attempts.long c.args.phase c.args.full.now)) c.requires.is_arc) (c.ends.ensures c.args.phase)))

pub prepare-requires-clause-sound : goal.prepare-requires-clause-sound
prepare-requires-clause-sound c = attempts.sound (phase_net c.args.phase c.args.full.now) (real_arcs c.args.full.now) (attempts.ground c.args.phase c.args.full.now) c.args.self.now c.requires.state c.requires.kept c.args.homes.now c.requires.homes (c.piece_of.result.now.lists ∷ []) (attempts.single (phase_net c.args.phase c.args.full.now) (real_arcs c.args.full.now) (attempts.ground c.args.phase c.args.full.now) c.args.self.now c.requires.state c.requires.kept c.args.homes.now c.requires.homes c.in-Drain.node c.piece_of.result.now c.piece_of.ensures)

pub prepare-requires-clause-needed : goal.prepare-requires-clause-needed
prepare-requires-clause-needed c = attempts.needs_drain (phase_net c.args.phase c.args.full.now) (real_arcs c.args.full.now) (attempts.ground c.args.phase c.args.full.now) c.args.self.now c.requires.state c.requires.kept c.args.homes.now c.requires.homes c.args.arc c.in-Drain.node c.piece_of.result.now c.ends.result (subst (λ (t : ℕ). c.args.arc < t) (sym (attempts.long c.args.phase c.args.full.now)) c.requires.is_arc) (c.ends.ensures c.args.phase) c.in-Drain.is c.piece_of.ensures

pub returns-in-Drain : goal.returns-in-Drain
returns-in-Drain c = record {
  pieces = c.piece_of.result.now.lists ∷ [];
  pieces_of = attempts.single (phase_net c.args.phase c.args.full.now) (real_arcs c.args.full.now) (attempts.ground c.args.phase c.args.full.now) c.args.self.now c.requires.state c.requires.kept c.args.homes.now c.requires.homes c.in-Drain.node c.piece_of.result.now c.piece_of.ensures;
  needed = attempts.needs_drain (phase_net c.args.phase c.args.full.now) (real_arcs c.args.full.now) (attempts.ground c.args.phase c.args.full.now) c.args.self.now c.requires.state c.requires.kept c.args.homes.now c.requires.homes c.args.arc c.in-Drain.node c.piece_of.result.now c.ends.result (subst (λ (t : ℕ). c.args.arc < t) (sym (attempts.long c.args.phase c.args.full.now)) c.requires.is_arc) (c.ends.ensures c.args.phase) c.in-Drain.is c.piece_of.ensures;
  prepared = c.prepare.ensures;
}

pub piece_of-requires-in-Feed : goal.piece_of-requires-in-Feed
piece_of-requires-in-Feed c = subst (HaveHomes c.args.self.now.slots.items c.args.homes.now) c.in-Feed.is (attempts.have_homes (phase_net c.args.phase c.args.full.now) (real_arcs c.args.full.now) (attempts.ground c.args.phase c.args.full.now) c.args.self.now c.requires.state c.requires.kept c.args.homes.now c.requires.homes c.ends.result (attempts.joins (phase_net c.args.phase c.args.full.now) (real_arcs c.args.full.now) (attempts.ground c.args.phase c.args.full.now) c.args.self.now c.requires.state c.requires.kept c.args.homes.now c.requires.homes c.args.arc c.ends.result (subst (λ (t : ℕ). c.args.arc < t) (sym (attempts.long c.args.phase c.args.full.now)) c.requires.is_arc) (c.ends.ensures c.args.phase)))

pub prepare-requires-in-Feed-clause-sound : goal.prepare-requires-in-Feed-clause-sound
prepare-requires-in-Feed-clause-sound c = attempts.sound (phase_net c.args.phase c.args.full.now) (real_arcs c.args.full.now) (attempts.ground c.args.phase c.args.full.now) c.args.self.now c.requires.state c.requires.kept c.args.homes.now c.requires.homes (c.piece_of-in-Feed.result.now.lists ∷ []) (attempts.single (phase_net c.args.phase c.args.full.now) (real_arcs c.args.full.now) (attempts.ground c.args.phase c.args.full.now) c.args.self.now c.requires.state c.requires.kept c.args.homes.now c.requires.homes c.in-Feed.node c.piece_of-in-Feed.result.now c.piece_of-in-Feed.ensures)

pub prepare-requires-in-Feed-clause-needed : goal.prepare-requires-in-Feed-clause-needed
prepare-requires-in-Feed-clause-needed c = attempts.needs_feed (phase_net c.args.phase c.args.full.now) (real_arcs c.args.full.now) (attempts.ground c.args.phase c.args.full.now) c.args.self.now c.requires.state c.requires.kept c.args.homes.now c.requires.homes c.args.arc c.in-Feed.node c.piece_of-in-Feed.result.now c.ends.result (subst (λ (t : ℕ). c.args.arc < t) (sym (attempts.long c.args.phase c.args.full.now)) c.requires.is_arc) (c.ends.ensures c.args.phase) c.in-Feed.is c.piece_of-in-Feed.ensures

pub returns-in-Feed : goal.returns-in-Feed
returns-in-Feed c = record {
  pieces = c.piece_of-in-Feed.result.now.lists ∷ [];
  pieces_of = attempts.single (phase_net c.args.phase c.args.full.now) (real_arcs c.args.full.now) (attempts.ground c.args.phase c.args.full.now) c.args.self.now c.requires.state c.requires.kept c.args.homes.now c.requires.homes c.in-Feed.node c.piece_of-in-Feed.result.now c.piece_of-in-Feed.ensures;
  needed = attempts.needs_feed (phase_net c.args.phase c.args.full.now) (real_arcs c.args.full.now) (attempts.ground c.args.phase c.args.full.now) c.args.self.now c.requires.state c.requires.kept c.args.homes.now c.requires.homes c.args.arc c.in-Feed.node c.piece_of-in-Feed.result.now c.ends.result (subst (λ (t : ℕ). c.args.arc < t) (sym (attempts.long c.args.phase c.args.full.now)) c.requires.is_arc) (c.ends.ensures c.args.phase) c.in-Feed.is c.piece_of-in-Feed.ensures;
  prepared = c.prepare-in-Feed.ensures;
}
