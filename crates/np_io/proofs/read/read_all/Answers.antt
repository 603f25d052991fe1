use Rattle.std.proofs.Common.{arith, ◌++◌, take}
use Rattle.std.proofs.lemmas.Grind.{common_steps}
use Rattle.np_io.proofs.KnownFacts.{prepend_known-then}
use Rattle.np_io.proofs.read.read_all.Goals as goal

pub returns-in_err-extend_from_slice-clause-stops : goal.returns-in_err-extend_from_slice-clause-stops
returns-in_err-extend_from_slice-clause-stops g c =
    let all = c.loop-all.all.items in
    let piece = take c.in_ok-count.count c.take.new.into in (
      all ++ piece,
      grind (arith, common_steps),
      prepend_known-then _ _ _ all piece c.loop-all.invariant.moved c.in_ok-count.ensures.moved,
    )

pub returns-then-len-gt-LONGEST_INPUT-clause-too_long :
    goal.returns-then-len-gt-LONGEST_INPUT-clause-too_long
returns-then-len-gt-LONGEST_INPUT-clause-too_long g c _ =
    let all = c.loop-all.all.items in
    let piece = take c.in_ok-count.count c.take.new.into in (
      all ++ piece,
      grind (arith, common_steps),
      prepend_known-then _ _ _ all piece c.loop-all.invariant.moved c.in_ok-count.ensures.moved,
    )
