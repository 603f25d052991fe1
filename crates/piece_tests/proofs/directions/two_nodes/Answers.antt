use Rattle.std.proofs.Common.{◌∙◌, refl, sym, ap, subst, arith}
use Rattle.np_frac.specs.Ratio.{zero_ratio, is_below, ◌<ᵣ◌}
use Rattle.np_frac.proofs.RatioLaws.{is_below_true}
use Rattle.np_model.specs.declared.arc.Ends.TheVariants.{Drain, Feed}
use Rattle.quasi_tree.specs.Store.{IsHeld}
use Rattle.piece_tests.proofs.TwoNodes.{added_are_artificial, alone, alone_held, both, both_held, net_is_sound, is_piece, can_all_of}
use Rattle.piece_tests.proofs.directions.two_nodes.Goals as goal

pub invariant_of-full : goal.invariant_of-full
invariant_of-full c =
    let p : zero_ratio <ᵣ c.args.there = is_below_true zero_ratio c.args.there (ap (λ z. is_below z c.args.there) (sym c.whole-zero.ensures) ∙ sym c.is_below.ensures ∙ c.if-not-is_below.false) in
    let q : zero_ratio <ᵣ c.args.back = is_below_true zero_ratio c.args.back (ap (λ z. is_below z c.args.back) (sym c.whole-zero.ensures) ∙ sym c.is_below-else-not-is_below.ensures ∙ c.if-not-is_below-2.false) in
    record { valid = rw (c.in_ok-supply.ensures.items, c.in_ok-arcs.ensures.items, c.link.ensures, c.link-2.ensures, c.whole-zero.ensures) (net_is_sound c.args.there c.args.back p q) }

pub invariant_of-full-2 : goal.invariant_of-full-2
invariant_of-full-2 c = record { valid = rw (c.in_ok-supply.ensures.items, c.in_ok-artificial.ensures.items) added_are_artificial }

pub of_lists-left-requires : goal.of_lists-left-requires
of_lists-left-requires c =
    subst IsHeld
    (sym (is_piece c.in_ok-lists_of.field-0.lists (alone 0 2 (Feed 0)) (c.in_ok-lists_of.ensures.nodes ∙ rw c.whole-zero.ensures refl)
    (c.in_ok-lists_of.ensures.basics ∙ rw c.whole-zero.ensures refl) c.in_ok-lists_of.ensures.marks))
    (alone_held 0 2 (Feed 0) refl (omega arith))

pub of_lists-right-requires : goal.of_lists-right-requires
of_lists-right-requires c =
    subst IsHeld
    (sym (is_piece c.in_ok-lists_of-2.field-0.lists (alone 1 3 (Drain 1)) (c.in_ok-lists_of-2.ensures.nodes ∙ rw c.whole-zero.ensures refl)
    (c.in_ok-lists_of-2.ensures.basics ∙ rw c.whole-zero.ensures refl) c.in_ok-lists_of-2.ensures.marks))
    (alone_held 1 3 (Drain 1) refl (omega arith))

pub of_lists-both-requires : goal.of_lists-both-requires
of_lists-both-requires c =
    let p : zero_ratio <ᵣ c.args.there = is_below_true zero_ratio c.args.there (ap (λ z. is_below z c.args.there) (sym c.whole-zero.ensures) ∙ sym c.is_below.ensures ∙ c.if-not-is_below.false) in
    let q : zero_ratio <ᵣ c.args.back = is_below_true zero_ratio c.args.back (ap (λ z. is_below z c.args.back) (sym c.whole-zero.ensures) ∙ sym c.is_below-else-not-is_below.ensures ∙ c.if-not-is_below-2.false) in
    subst IsHeld
    (sym (is_piece c.in_ok-lists_of-3.field-0.lists (both c.args.there c.args.back) (c.in_ok-lists_of-3.ensures.nodes ∙ rw c.whole-zero.ensures refl)
    (c.in_ok-lists_of-3.ensures.basics ∙ rw (c.whole-zero.ensures, c.link-3.ensures) refl) c.in_ok-lists_of-3.ensures.marks))
    (both_held c.args.there c.args.back p q)

pub returns-clause-apart : goal.returns-clause-apart
returns-clause-apart c =
    let p : zero_ratio <ᵣ c.args.there = is_below_true zero_ratio c.args.there (ap (λ z. is_below z c.args.there) (sym c.whole-zero.ensures) ∙ sym c.is_below.ensures ∙ c.if-not-is_below.false) in
    let q : zero_ratio <ᵣ c.args.back = is_below_true zero_ratio c.args.back (ap (λ z. is_below z c.args.back) (sym c.whole-zero.ensures) ∙ sym c.is_below-else-not-is_below.ensures ∙ c.if-not-is_below-2.false) in
    λ phase. (can_all_of c.args.there c.args.back p q c.in_ok-supply.supply.items c.in_ok-arcs.arcs.items c.in_ok-artificial.artificial.items
    c.of_lists-left.result.lists c.of_lists-right.result.lists c.of_lists-both.result.lists
    (c.in_ok-supply.ensures.items ∙ rw c.whole-zero.ensures refl) (c.in_ok-arcs.ensures.items ∙ rw (c.link.ensures, c.link-2.ensures, c.whole-zero.ensures) refl) c.in_ok-artificial.ensures.items
    (ap (λ s. s.lists) c.of_lists-left.ensures ∙ is_piece c.in_ok-lists_of.field-0.lists (alone 0 2 (Feed 0)) (c.in_ok-lists_of.ensures.nodes ∙ rw c.whole-zero.ensures refl)
    (c.in_ok-lists_of.ensures.basics ∙ rw c.whole-zero.ensures refl) c.in_ok-lists_of.ensures.marks)
    (ap (λ s. s.lists) c.of_lists-right.ensures ∙ is_piece c.in_ok-lists_of-2.field-0.lists (alone 1 3 (Drain 1)) (c.in_ok-lists_of-2.ensures.nodes ∙ rw c.whole-zero.ensures refl)
    (c.in_ok-lists_of-2.ensures.basics ∙ rw c.whole-zero.ensures refl) c.in_ok-lists_of-2.ensures.marks)
    (ap (λ s. s.lists) c.of_lists-both.ensures ∙ is_piece c.in_ok-lists_of-3.field-0.lists (both c.args.there c.args.back) (c.in_ok-lists_of-3.ensures.nodes ∙ rw c.whole-zero.ensures refl)
    (c.in_ok-lists_of-3.ensures.basics ∙ rw (c.whole-zero.ensures, c.link-3.ensures) refl) c.in_ok-lists_of-3.ensures.marks)
    phase).apart

pub returns-clause-turned : goal.returns-clause-turned
returns-clause-turned c =
    let p : zero_ratio <ᵣ c.args.there = is_below_true zero_ratio c.args.there (ap (λ z. is_below z c.args.there) (sym c.whole-zero.ensures) ∙ sym c.is_below.ensures ∙ c.if-not-is_below.false) in
    let q : zero_ratio <ᵣ c.args.back = is_below_true zero_ratio c.args.back (ap (λ z. is_below z c.args.back) (sym c.whole-zero.ensures) ∙ sym c.is_below-else-not-is_below.ensures ∙ c.if-not-is_below-2.false) in
    λ phase. (can_all_of c.args.there c.args.back p q c.in_ok-supply.supply.items c.in_ok-arcs.arcs.items c.in_ok-artificial.artificial.items
    c.of_lists-left.result.lists c.of_lists-right.result.lists c.of_lists-both.result.lists
    (c.in_ok-supply.ensures.items ∙ rw c.whole-zero.ensures refl) (c.in_ok-arcs.ensures.items ∙ rw (c.link.ensures, c.link-2.ensures, c.whole-zero.ensures) refl) c.in_ok-artificial.ensures.items
    (ap (λ s. s.lists) c.of_lists-left.ensures ∙ is_piece c.in_ok-lists_of.field-0.lists (alone 0 2 (Feed 0)) (c.in_ok-lists_of.ensures.nodes ∙ rw c.whole-zero.ensures refl)
    (c.in_ok-lists_of.ensures.basics ∙ rw c.whole-zero.ensures refl) c.in_ok-lists_of.ensures.marks)
    (ap (λ s. s.lists) c.of_lists-right.ensures ∙ is_piece c.in_ok-lists_of-2.field-0.lists (alone 1 3 (Drain 1)) (c.in_ok-lists_of-2.ensures.nodes ∙ rw c.whole-zero.ensures refl)
    (c.in_ok-lists_of-2.ensures.basics ∙ rw c.whole-zero.ensures refl) c.in_ok-lists_of-2.ensures.marks)
    (ap (λ s. s.lists) c.of_lists-both.ensures ∙ is_piece c.in_ok-lists_of-3.field-0.lists (both c.args.there c.args.back) (c.in_ok-lists_of-3.ensures.nodes ∙ rw c.whole-zero.ensures refl)
    (c.in_ok-lists_of-3.ensures.basics ∙ rw (c.whole-zero.ensures, c.link-3.ensures) refl) c.in_ok-lists_of-3.ensures.marks)
    phase).turned

pub returns-clause-joined : goal.returns-clause-joined
returns-clause-joined c =
    let p : zero_ratio <ᵣ c.args.there = is_below_true zero_ratio c.args.there (ap (λ z. is_below z c.args.there) (sym c.whole-zero.ensures) ∙ sym c.is_below.ensures ∙ c.if-not-is_below.false) in
    let q : zero_ratio <ᵣ c.args.back = is_below_true zero_ratio c.args.back (ap (λ z. is_below z c.args.back) (sym c.whole-zero.ensures) ∙ sym c.is_below-else-not-is_below.ensures ∙ c.if-not-is_below-2.false) in
    λ phase. (can_all_of c.args.there c.args.back p q c.in_ok-supply.supply.items c.in_ok-arcs.arcs.items c.in_ok-artificial.artificial.items
    c.of_lists-left.result.lists c.of_lists-right.result.lists c.of_lists-both.result.lists
    (c.in_ok-supply.ensures.items ∙ rw c.whole-zero.ensures refl) (c.in_ok-arcs.ensures.items ∙ rw (c.link.ensures, c.link-2.ensures, c.whole-zero.ensures) refl) c.in_ok-artificial.ensures.items
    (ap (λ s. s.lists) c.of_lists-left.ensures ∙ is_piece c.in_ok-lists_of.field-0.lists (alone 0 2 (Feed 0)) (c.in_ok-lists_of.ensures.nodes ∙ rw c.whole-zero.ensures refl)
    (c.in_ok-lists_of.ensures.basics ∙ rw c.whole-zero.ensures refl) c.in_ok-lists_of.ensures.marks)
    (ap (λ s. s.lists) c.of_lists-right.ensures ∙ is_piece c.in_ok-lists_of-2.field-0.lists (alone 1 3 (Drain 1)) (c.in_ok-lists_of-2.ensures.nodes ∙ rw c.whole-zero.ensures refl)
    (c.in_ok-lists_of-2.ensures.basics ∙ rw c.whole-zero.ensures refl) c.in_ok-lists_of-2.ensures.marks)
    (ap (λ s. s.lists) c.of_lists-both.ensures ∙ is_piece c.in_ok-lists_of-3.field-0.lists (both c.args.there c.args.back) (c.in_ok-lists_of-3.ensures.nodes ∙ rw c.whole-zero.ensures refl)
    (c.in_ok-lists_of-3.ensures.basics ∙ rw (c.whole-zero.ensures, c.link-3.ensures) refl) c.in_ok-lists_of-3.ensures.marks)
    phase).together

pub returns-clause-fed : goal.returns-clause-fed
returns-clause-fed c =
    let p : zero_ratio <ᵣ c.args.there = is_below_true zero_ratio c.args.there (ap (λ z. is_below z c.args.there) (sym c.whole-zero.ensures) ∙ sym c.is_below.ensures ∙ c.if-not-is_below.false) in
    let q : zero_ratio <ᵣ c.args.back = is_below_true zero_ratio c.args.back (ap (λ z. is_below z c.args.back) (sym c.whole-zero.ensures) ∙ sym c.is_below-else-not-is_below.ensures ∙ c.if-not-is_below-2.false) in
    λ phase. (can_all_of c.args.there c.args.back p q c.in_ok-supply.supply.items c.in_ok-arcs.arcs.items c.in_ok-artificial.artificial.items
    c.of_lists-left.result.lists c.of_lists-right.result.lists c.of_lists-both.result.lists
    (c.in_ok-supply.ensures.items ∙ rw c.whole-zero.ensures refl) (c.in_ok-arcs.ensures.items ∙ rw (c.link.ensures, c.link-2.ensures, c.whole-zero.ensures) refl) c.in_ok-artificial.ensures.items
    (ap (λ s. s.lists) c.of_lists-left.ensures ∙ is_piece c.in_ok-lists_of.field-0.lists (alone 0 2 (Feed 0)) (c.in_ok-lists_of.ensures.nodes ∙ rw c.whole-zero.ensures refl)
    (c.in_ok-lists_of.ensures.basics ∙ rw c.whole-zero.ensures refl) c.in_ok-lists_of.ensures.marks)
    (ap (λ s. s.lists) c.of_lists-right.ensures ∙ is_piece c.in_ok-lists_of-2.field-0.lists (alone 1 3 (Drain 1)) (c.in_ok-lists_of-2.ensures.nodes ∙ rw c.whole-zero.ensures refl)
    (c.in_ok-lists_of-2.ensures.basics ∙ rw c.whole-zero.ensures refl) c.in_ok-lists_of-2.ensures.marks)
    (ap (λ s. s.lists) c.of_lists-both.ensures ∙ is_piece c.in_ok-lists_of-3.field-0.lists (both c.args.there c.args.back) (c.in_ok-lists_of-3.ensures.nodes ∙ rw c.whole-zero.ensures refl)
    (c.in_ok-lists_of-3.ensures.basics ∙ rw (c.whole-zero.ensures, c.link-3.ensures) refl) c.in_ok-lists_of-3.ensures.marks)
    phase).fed
