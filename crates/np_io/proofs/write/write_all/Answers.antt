use Rattle.std.proofs.Common.{arith}
use Rattle.std.proofs.lemmas.List.{length-drop, take_rest}
use Rattle.np_io.proofs.KnownFacts.{append_known-take}
use Rattle.np_io.proofs.write.write_all.Goals as goal

pub loop-given-preserved : goal.loop-given-preserved
loop-given-preserved g c =
    let so_far = c.loop-given.invariant in
    record {
      within = omega (arith, length-drop c.loop-given.given c.args.bytes.now, c.in_ok-given.ensures.fits);
      appended = append_known-take _ _ _ c.args.bytes.now c.loop-given.given c.in_ok-given.field-0
          so_far.appended (rw take_rest at c.in_ok-given.ensures.appended);
      never_falls = omega (arith, c.give.ensures.never_falls);
      sure_of_the_rest = omega (arith, c.in_ok-given.ensures.sure_of_the_rest);
    }
