use Rattle.ratio_test.proofs.laws.moves.Goals as goal

pub returns-clause-flip : goal.returns-clause-flip
returns-clause-flip c = λ net pieces direction step is h.
    record { direction = is; within = h.within; greatest = h.greatest; leaves = h.leaves; stops = h.stops; first = h.first }

pub returns-clause-leave : goal.returns-clause-leave
returns-clause-leave c = λ net pieces direction arc leave_at step is h.
    record { direction = is; within = h.1.within; greatest = h.1.greatest; leaves = h.1.leaves; stops = h.1.stops; first = h.1.first }
