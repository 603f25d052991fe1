use Rattle.std.proofs.Common.{◌∙◌, ℕ, ap, sym, subst, length}
use Rattle.gain_graphs.proofs.Lists.{length_map}
use Rattle.np_frac.specs.Ratio.{Ratio}
use Rattle.np_model.specs.Basis.Phases.{phase_net}
use Rattle.np_model.specs.Basis.Pieces.{nodes_in}
use Rattle.tree_potentials.specs.Answers.{ArePotentials, HasPotentials, IsCause}
use Rattle.tree_potentials.proofs.Settings.{of_lists, same_piece, has_potentials, not_both, zip_nodes}
use Rattle.tree_potentials.proofs.setting.potentials.Goals as goal

pub set_potentials-requires : goal.set_potentials-requires
set_potentials-requires c =
    let net = phase_net c.args.phase c.args.full.now in
    let same = same_piece c.as_slice.result.now c.lists.inside.nodes.items.items c.as_slice-2.result.now c.lists.inside.basics.items.items c.lists.inside.marks.items.items c.args.piece.now.lists
    c.as_slice.ensures.value c.as_slice-2.ensures.value (ap (λ s. s.lists) (c.lists.view_is ∙ c.lists-lists.ensures.lists)) in
    ap length c.as_slice-in-Ok.ensures.value
    ∙ (of_lists (λ p. ArePotentials net p c.in-Ok.values.items) net c.as_slice.result.now c.as_slice-2.result.now c.lists.inside.marks.items.items c.args.piece.now.lists same c.requires.in_net c.in-Ok.ensures).one_each

pub returns-in-Ok-clause-answer : goal.returns-in-Ok-clause-answer
returns-in-Ok-clause-answer c =
    let net = phase_net c.args.phase c.args.full.now in
    let same = same_piece c.as_slice.result.now c.lists.inside.nodes.items.items c.as_slice-2.result.now c.lists.inside.basics.items.items c.lists.inside.marks.items.items c.args.piece.now.lists
    c.as_slice.ensures.value c.as_slice-2.ensures.value (ap (λ s. s.lists) (c.lists.view_is ∙ c.lists-lists.ensures.lists)) in
    let are : ArePotentials net c.args.piece.now.lists c.in-Ok.values.items =
    of_lists (λ p. ArePotentials net p c.in-Ok.values.items) net c.as_slice.result.now c.as_slice-2.result.now c.lists.inside.marks.items.items c.args.piece.now.lists same c.requires.in_net c.in-Ok.ensures in
    subst (HasPotentials net) (sym c.set_potentials.ensures.lists)
    (has_potentials net c.args.piece.now.lists c.requires.in_net c.as_slice-in-Ok.result.now (subst (ArePotentials net c.args.piece.now.lists) (sym c.as_slice-in-Ok.ensures.value) are))

pub returns-in-Ok-clause-exact : goal.returns-in-Ok-clause-exact
returns-in-Ok-clause-exact c = λ row past given.
    let net = phase_net c.args.phase c.args.full.now in
    let same = same_piece c.as_slice.result.now c.lists.inside.nodes.items.items c.as_slice-2.result.now c.lists.inside.basics.items.items c.lists.inside.marks.items.items c.args.piece.now.lists
    c.as_slice.ensures.value c.as_slice-2.ensures.value (ap (λ s. s.lists) (c.lists.view_is ∙ c.lists-lists.ensures.lists)) in
    not_both net c.args.piece.now.lists c.requires.in_net c.in-Ok.values.items row past
    (of_lists (λ p. ArePotentials net p c.in-Ok.values.items) net c.as_slice.result.now c.as_slice-2.result.now c.lists.inside.marks.items.items c.args.piece.now.lists same c.requires.in_net c.in-Ok.ensures) given

pub returns-in-Ok-clause-nodes : goal.returns-in-Ok-clause-nodes
returns-in-Ok-clause-nodes c =
    let net = phase_net c.args.phase c.args.full.now in
    let same = same_piece c.as_slice.result.now c.lists.inside.nodes.items.items c.as_slice-2.result.now c.lists.inside.basics.items.items c.lists.inside.marks.items.items c.args.piece.now.lists
    c.as_slice.ensures.value c.as_slice-2.ensures.value (ap (λ s. s.lists) (c.lists.view_is ∙ c.lists-lists.ensures.lists)) in
    ap nodes_in c.set_potentials.ensures.lists
    ∙ zip_nodes (nodes_in c.args.piece.now.lists) c.as_slice-in-Ok.result.now
    (ap length c.as_slice-in-Ok.ensures.value
    ∙ (of_lists (λ p. ArePotentials net p c.in-Ok.values.items) net c.as_slice.result.now c.as_slice-2.result.now c.lists.inside.marks.items.items c.args.piece.now.lists same c.requires.in_net c.in-Ok.ensures).one_each
    ∙ sym (length_map (λ (n : ℕ × Ratio). n.0) c.args.piece.now.lists.nodes))

pub returns-in-Err-clause-answer : goal.returns-in-Err-clause-answer
returns-in-Err-clause-answer c =
    let net = phase_net c.args.phase c.args.full.now in
    let same = same_piece c.as_slice.result.now c.lists.inside.nodes.items.items c.as_slice-2.result.now c.lists.inside.basics.items.items c.lists.inside.marks.items.items c.args.piece.now.lists
    c.as_slice.ensures.value c.as_slice-2.ensures.value (ap (λ s. s.lists) (c.lists.view_is ∙ c.lists-lists.ensures.lists)) in
    of_lists (λ p. IsCause net p c.in-Err.refusal) net c.as_slice.result.now c.as_slice-2.result.now c.lists.inside.marks.items.items c.args.piece.now.lists same c.requires.in_net c.in-Err.ensures
