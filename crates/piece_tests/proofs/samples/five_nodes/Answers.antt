use Rattle.std.proofs.Common.{◌≡◌, ◌∙◌, true, refl, sym, ap, subst, inl}
use Rattle.quasi_tree.specs.Store.{IsHeld}
use Rattle.piece_tests.proofs.FiveNodes.{AreSuited, suits, net_is_sound, held, drains_are_artificial, is_piece, can_enter_of}
use Rattle.piece_tests.proofs.samples.five_nodes.Goals as goal

pub invariant_of-full : goal.invariant_of-full
invariant_of-full c =
    let a : c.are_gains.result ≡ true = c.if-not-are_gains.false in
    let b : c.are_apart.result ≡ true = c.if-not-are_apart.false in
    let s : AreSuited c.args.gains.now.first c.args.gains.now.second c.args.gains.now.third c.args.gains.now.fourth c.args.gains.now.fifth = suits _ _ _ _ _ (sym c.are_gains.ensures ∙ a) (c.are_apart.ensures b) in
    record {
      valid = rw (c.in_ok-supply.ensures.items, c.in_ok-arcs.ensures.items, c.whole-zero.ensures, c.link.ensures, c.link-2.ensures, c.link-3.ensures, c.link-4.ensures, c.link-5.ensures, c.link-6.ensures)
          (net_is_sound _ _ _ _ _ c.args.costs.now.first c.args.costs.now.second c.args.costs.now.third c.args.costs.now.fourth c.args.costs.now.fifth s);
    }

pub of_lists-piece-requires : goal.of_lists-piece-requires
of_lists-piece-requires c =
    let g = c.args.gains.now in
    let k = c.args.costs.now in
    let a : c.are_gains.result ≡ true = c.if-not-are_gains.false in
    let b : c.are_apart.result ≡ true = c.if-not-are_apart.false in
    subst IsHeld (sym (is_piece g.first g.second g.third g.fourth g.fifth k.first k.second k.third k.fourth k.fifth c.in_ok-links_piece.field-0.lists
    c.in_ok-links_piece.ensures.nodes c.in_ok-links_piece.ensures.basics c.in_ok-links_piece.ensures.marks))
    (held g.first g.second g.third g.fourth g.fifth k.first k.second k.third k.fourth k.fifth (suits _ _ _ _ _ (sym c.are_gains.ensures ∙ a) (c.are_apart.ensures b)))

pub invariant_of-full-2 : goal.invariant_of-full-2
invariant_of-full-2 c = record { valid = rw (c.in_ok-supply.ensures.items, c.in_ok-artificial.ensures.items) drains_are_artificial }

pub returns-clause-in_net : goal.returns-clause-in_net
returns-clause-in_net c =
    let g = c.args.gains.now in
    let k = c.args.costs.now in
    let a : c.are_gains.result ≡ true = c.if-not-are_gains.false in
    let b : c.are_apart.result ≡ true = c.if-not-are_apart.false in
    λ phase. (can_enter_of g.first g.second g.third g.fourth g.fifth k.first k.second k.third k.fourth k.fifth (suits _ _ _ _ _ (sym c.are_gains.ensures ∙ a) (c.are_apart.ensures b))
    c.in_ok-supply.supply.items c.in_ok-arcs.arcs.items c.in_ok-artificial.artificial.items c.of_lists-piece.result.lists
    (c.in_ok-supply.ensures.items ∙ rw c.whole-zero.ensures refl) (c.in_ok-arcs.ensures.items ∙ rw (c.link.ensures, c.link-2.ensures, c.link-3.ensures, c.link-4.ensures, c.link-5.ensures, c.link-6.ensures) refl)
    c.in_ok-artificial.ensures.items
    (ap (λ s. s.lists) c.of_lists-piece.ensures
    ∙ is_piece g.first g.second g.third g.fourth g.fifth k.first k.second k.third k.fourth k.fifth c.in_ok-links_piece.field-0.lists c.in_ok-links_piece.ensures.nodes c.in_ok-links_piece.ensures.basics c.in_ok-links_piece.ensures.marks)
    phase).0.in_net c.of_lists-piece.result.lists (inl refl)

pub returns-clause-parallel : goal.returns-clause-parallel
returns-clause-parallel c =
    let g = c.args.gains.now in
    let k = c.args.costs.now in
    let a : c.are_gains.result ≡ true = c.if-not-are_gains.false in
    let b : c.are_apart.result ≡ true = c.if-not-are_apart.false in
    λ phase. (can_enter_of g.first g.second g.third g.fourth g.fifth k.first k.second k.third k.fourth k.fifth (suits _ _ _ _ _ (sym c.are_gains.ensures ∙ a) (c.are_apart.ensures b))
    c.in_ok-supply.supply.items c.in_ok-arcs.arcs.items c.in_ok-artificial.artificial.items c.of_lists-piece.result.lists
    (c.in_ok-supply.ensures.items ∙ rw c.whole-zero.ensures refl) (c.in_ok-arcs.ensures.items ∙ rw (c.link.ensures, c.link-2.ensures, c.link-3.ensures, c.link-4.ensures, c.link-5.ensures, c.link-6.ensures) refl)
    c.in_ok-artificial.ensures.items
    (ap (λ s. s.lists) c.of_lists-piece.ensures
    ∙ is_piece g.first g.second g.third g.fourth g.fifth k.first k.second k.third k.fourth k.fifth c.in_ok-links_piece.field-0.lists c.in_ok-links_piece.ensures.nodes c.in_ok-links_piece.ensures.basics c.in_ok-links_piece.ensures.marks)
    phase).0

pub returns-clause-drained : goal.returns-clause-drained
returns-clause-drained c =
    let g = c.args.gains.now in
    let k = c.args.costs.now in
    let a : c.are_gains.result ≡ true = c.if-not-are_gains.false in
    let b : c.are_apart.result ≡ true = c.if-not-are_apart.false in
    λ phase. (can_enter_of g.first g.second g.third g.fourth g.fifth k.first k.second k.third k.fourth k.fifth (suits _ _ _ _ _ (sym c.are_gains.ensures ∙ a) (c.are_apart.ensures b))
    c.in_ok-supply.supply.items c.in_ok-arcs.arcs.items c.in_ok-artificial.artificial.items c.of_lists-piece.result.lists
    (c.in_ok-supply.ensures.items ∙ rw c.whole-zero.ensures refl) (c.in_ok-arcs.ensures.items ∙ rw (c.link.ensures, c.link-2.ensures, c.link-3.ensures, c.link-4.ensures, c.link-5.ensures, c.link-6.ensures) refl)
    c.in_ok-artificial.ensures.items
    (ap (λ s. s.lists) c.of_lists-piece.ensures
    ∙ is_piece g.first g.second g.third g.fourth g.fifth k.first k.second k.third k.fourth k.fifth c.in_ok-links_piece.field-0.lists c.in_ok-links_piece.ensures.nodes c.in_ok-links_piece.ensures.basics c.in_ok-links_piece.ensures.marks)
    phase).1
