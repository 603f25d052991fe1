-- The laws of the ratio test.
use Rattle.std.specs.Prelude.{◌≡◌, ℕ, List}
use Rattle.np_frac.specs.Ratio.{Ratio, zero_ratio}
use Rattle.np_model.specs.declared.log.Mark.{Mark}
use Rattle.np_model.specs.declared.piece.Direction.{Direction}
use Rattle.np_model.specs.Network.Flows.{Network}
use Rattle.np_model.specs.Basis.Moves.{sign}
use Rattle.np_model.specs.Basis.Pieces.{PieceLists, beside}
use Rattle.np_model.specs.Basis.Sound.{values_in}
use Rattle.np_model.specs.Basis.Needed.{IsDirectionOf, IsMoveOf}
use Rattle.ratio_test.specs.declared.answer.RatioAnswer.{RatioAnswer}
use Rattle.ratio_test.specs.declared.answer.RatioAnswer.TheVariants.{Flip, Leave}
use Rattle.ratio_test.specs.Answers.{IsRatio}
use Rattle.ratio_test.specs.Asked.{far_bound}

-- the steps are the direction of the entering arc from its bound
abbrev pub AreDirection : Network → List PieceLists → Direction → Type 0
AreDirection net pieces direction =
    IsDirectionOf net pieces direction.enter (sign ((values_in net pieces).mark direction.enter)) (beside zero_ratio direction.steps)

-- then an answer with a step is the move of a pivot: in a flip the entering arc leaves, and comes to rest at its far bound
abbrev pub FlipIsMove : Type 0
FlipIsMove = (net : Network) (pieces : List PieceLists) (direction : Direction) (step : Ratio) → AreDirection net pieces direction
    → IsRatio net pieces direction (Flip step)
    → IsMoveOf net pieces (record { enter = direction.enter; leave = direction.enter; leave_at = far_bound direction.up })
    (beside zero_ratio direction.steps) step

-- and else the arc of the answer
abbrev pub LeaveIsMove : Type 0
LeaveIsMove = (net : Network) (pieces : List PieceLists) (direction : Direction) (arc : ℕ) (leave_at : Mark) (step : Ratio)
    → AreDirection net pieces direction → IsRatio net pieces direction (Leave arc leave_at step)
    → IsMoveOf net pieces (record { enter = direction.enter; leave = arc; leave_at = leave_at }) (beside zero_ratio direction.steps) step

-- no two answers hold of one direction
abbrev pub AnswerIsUnique : Type 0
AnswerIsUnique = (net : Network) (pieces : List PieceLists) (direction : Direction) (a b : RatioAnswer)
    → IsRatio net pieces direction a → IsRatio net pieces direction b → a ≡ b
