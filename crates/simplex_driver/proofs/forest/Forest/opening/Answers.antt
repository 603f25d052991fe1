use Rattle.std.proofs.Common.{rules}
use Rattle.np_model.specs.Basis.Phases.{network_of}
use Rattle.simplex_driver.specs.Store.{state_of}
use Rattle.simplex_driver.proofs.Opened.{is_start_state, is_kept}
use Rattle.simplex_driver.proofs.forest.Forest.opening.Goals as goal

pub returns-clause-state : goal.returns-clause-state
returns-clause-state c =
    is_start_state (network_of c.args.start.now.full.net) c.args.start.now.full.artificial
    (state_of record { slots = c.in_ok-singles.field-0; potentials = c.in_ok-potentials_by.field-0; flows = c.in_ok-from_slice.field-0; marks = c.in_ok-start_marks.field-0 })
    (c.starts.ensures.potentials c.args.start.now.full c.requires.artificial) (search rules) (search rules) (search rules)

pub returns-clause-kept : goal.returns-clause-kept
returns-clause-kept c =
    is_kept (network_of c.args.start.now.full.net)
    (record { slots = c.in_ok-singles.field-0; potentials = c.in_ok-potentials_by.field-0; flows = c.in_ok-from_slice.field-0; marks = c.in_ok-start_marks.field-0 })
    (is_start_state (network_of c.args.start.now.full.net) c.args.start.now.full.artificial
    (state_of record { slots = c.in_ok-singles.field-0; potentials = c.in_ok-potentials_by.field-0; flows = c.in_ok-from_slice.field-0; marks = c.in_ok-start_marks.field-0 })
    (c.starts.ensures.potentials c.args.start.now.full c.requires.artificial) (search rules) (search rules) (search rules))
    c.in_ok-singles.ensures
