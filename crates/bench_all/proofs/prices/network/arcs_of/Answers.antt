use Rattle.std.specs.Prelude.{pos}
use Rattle.std.proofs.Common.{arith}
use Rattle.std.proofs.lemmas.Int.{ints}
use Rattle.std.proofs.lemmas.List.Elements.{All-push, All-same}
use Rattle.np_model.specs.declared.arc.NetArc.{NetArc}
use Rattle.np_model.specs.declared.arc.Upper.TheVariants.{Finite}
use Rattle.np_model.specs.Network.Nets.{IsSoundArc}
use Rattle.np_frac.proofs.Field.{whole_at_least}
use Rattle.bench_all.proofs.prices.network.arcs_of.Goals as goal

pub loop-number-preserved : goal.loop-number-preserved
loop-number-preserved c =
    let arc : NetArc = record { ends = c.ends_of-ends.result; lower = c.whole.result; upper = Finite c.whole-in-loop-number.result; cost = c.whole-in-loop-number-2.result } in
    let sound : IsSoundArc 1000 arc = record { joins = c.ends_of-ends.ensures.joins; gain = c.ends_of-ends.ensures.gains; bounds = rw (c.whole.ensures, c.whole-in-loop-number.ensures) (whole_at_least (pos 10) (omega (arith, ints))) } in
    record {
      many = omega (arith, c.in_ok-push.ensures.len, c.loop-number.invariant.many);
      sound = All-same (IsSoundArc 1000) c.push.new.self.items _ c.in_ok-push.ensures.items (All-push (IsSoundArc 1000) c.loop-number.list.items arc c.loop-number.invariant.sound sound);
    }
