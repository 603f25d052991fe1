use Rattle.std.proofs.Common.{◌≡◌, ◌≢◌, ◌∙◌, sym, not, Bool, true, false, true≢false}
use Rattle.std.specs.Prelude.{IsTrue, ◌↔◌}
use Rattle.np_frac.specs.Ratio.{Ratio, ◌*ᵣ◌}
use Rattle.np_frac.proofs.Exactness.{times_exact}
use Rattle.piece_tests.proofs.samples.are_apart.Goals as goal

differs : (b : Bool) (x y z : Ratio) → x ≡ z → (IsTrue b ↔ (x ≡ y)) → not b ≡ true → z ≢ y
differs true x y z e same n d = true≢false (sym n)
differs false x y z e same n d = absurd (true≢false (sym (same.1 (e ∙ d))))

pub returns-in-Ok : goal.returns-in-Ok
returns-in-Ok c = λ n.
    differs c.is_same.result c.in-Ok.product c.args.gains.now.second (c.args.gains.now.first *ᵣ c.args.gains.now.third) (times_exact c.args.gains.now.first c.args.gains.now.third c.in-Ok.product (sym c.in-Ok.ensures)) c.is_same.ensures.same n
