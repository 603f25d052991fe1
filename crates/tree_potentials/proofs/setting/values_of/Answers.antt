use Rattle.std.proofs.Common.{◌<◌, ◌∙◌, ℕ, List, sym, subst, length, slice_index_or}
use Rattle.tree_search.specs.declared.piece.Step.{Step}
use Rattle.tree_search.specs.Places.{numbers_of_nodes, AreJoints}
use Rattle.tree_potentials.specs.Along.{IsWithin}
use Rattle.tree_potentials.proofs.Settings.{inside, stand_at, is_tree, walkable, begins, steps_inside, answered, on_ok, on_err}
use Rattle.tree_potentials.proofs.setting.values_of.Goals as goal

pub costs_of-requires : goal.costs_of-requires
costs_of-requires c = record { inside = inside c.args.full.now c.args.phase c.args.nodes.now c.args.basics.now c.requires.in_net.0 c.requires.in_net.1 }

pub joints_of-requires-clause-stand : goal.joints_of-requires-clause-stand
joints_of-requires-clause-stand c = stand_at c.args.full.now c.args.phase c.args.nodes.now c.args.basics.now c.requires.in_net.0 c.requires.in_net.1

pub find_extra-requires-clause-tree : goal.find_extra-requires-clause-tree
find_extra-requires-clause-tree c = is_tree c.args.full.now c.args.phase c.args.nodes.now c.args.basics.now c.requires.in_net.0 c.requires.in_net.1

pub off_extra-requires-clause-walkable : goal.off_extra-requires-clause-walkable
off_extra-requires-clause-walkable c =
    walkable c.args.full.now c.args.phase c.args.nodes.now c.args.basics.now c.requires.in_net.0 c.requires.in_net.1 c.as_slice-costs.result.now (c.as_slice-costs.ensures.value ∙ c.in_ok-cost_list.ensures)

pub off_extra-requires-clause-begins : goal.off_extra-requires-clause-begins
off_extra-requires-clause-begins c =
    begins c.args.full.now c.args.phase c.args.nodes.now c.args.basics.now c.requires.in_net.0 c.requires.in_net.1 c.as_slice-joints.result.now
    (subst (AreJoints (numbers_of_nodes c.args.nodes.now) c.args.basics.now) (sym c.as_slice-joints.ensures.value) c.in_ok-joint_list.ensures.joints) c.in_ok-extra.extra c.in_ok-extra.ensures.found

pub off_extra-requires-clause-within : goal.off_extra-requires-clause-within
off_extra-requires-clause-within c =
    subst (λ (steps : List Step). (k : ℕ) (d : Step) → k < length steps → IsWithin c.args.nodes.now c.args.basics.now (slice_index_or steps k d)) (sym c.as_slice.ensures.value)
    (steps_inside c.args.full.now c.args.phase c.args.nodes.now c.args.basics.now c.requires.in_net.0 c.requires.in_net.1 c.as_slice-joints.result.now
    (subst (AreJoints (numbers_of_nodes c.args.nodes.now) c.args.basics.now) (sym c.as_slice-joints.ensures.value) c.in_ok-joint_list.ensures.joints) c.in_ok-extra.extra _ c.in_ok-search.search c.in_ok-search.ensures.found)

pub returns-in-Ok : goal.returns-in-Ok
returns-in-Ok c = λ marks h.
    on_ok _ _ _ c.in-Ok.found.items
    (answered c.args.full.now c.args.phase c.args.nodes.now c.args.basics.now marks h c.as_slice-joints.result.now c.as_slice-costs.result.now c.as_slice.result.now c.in_ok-extra.extra _ c.in_ok-search.search c.in_ok-start.start.items
    (c.as_slice-costs.ensures.value ∙ c.in_ok-cost_list.ensures) c.as_slice.ensures.value (subst (AreJoints (numbers_of_nodes c.args.nodes.now) c.args.basics.now) (sym c.as_slice-joints.ensures.value) c.in_ok-joint_list.ensures.joints)
    c.in_ok-extra.ensures.found c.in_ok-search.ensures.found c.in_ok-search.ensures.closed c.in_ok-start.ensures.long c.in-Ok.ensures.fits) c.in-Ok.ensures.walked

pub returns : goal.returns
returns c = λ marks h.
    on_err _ _ _ c.in-Err.overflow
    (answered c.args.full.now c.args.phase c.args.nodes.now c.args.basics.now marks h c.as_slice-joints.result.now c.as_slice-costs.result.now c.as_slice.result.now c.in_ok-extra.extra _ c.in_ok-search.search c.in_ok-start.start.items
    (c.as_slice-costs.ensures.value ∙ c.in_ok-cost_list.ensures) c.as_slice.ensures.value (subst (AreJoints (numbers_of_nodes c.args.nodes.now) c.args.basics.now) (sym c.as_slice-joints.ensures.value) c.in_ok-joint_list.ensures.joints)
    c.in_ok-extra.ensures.found c.in_ok-search.ensures.found c.in_ok-search.ensures.closed c.in_ok-start.ensures.long c.in-Err.ensures.fits) c.in-Err.ensures.walked
