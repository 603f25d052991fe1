use Rattle.std.proofs.Common.{arith, rules, subst, get_or, ℕ, ◌≡◌, ◌≤◌}
use Rattle.std.proofs.lemmas.List.Elements.{All-more}
use Rattle.np_frac.specs.Ratio.{Ratio, zero_ratio}
use Rattle.np_model.proofs.Logs.{all-end}
use Rattle.np_model.specs.declared.arc.Ends.{Ends}
use Rattle.piece_tests.proofs.pivots.are_idle.Goals as goal

pub loop-place-preserved : goal.loop-place-preserved
loop-place-preserved c =
    let basic = c.index-basics-place.result in
    let stands : basic ≡ get_or c.args.basics.now c.loop-place.place basic = search rules in
    All-more (λ (b : ℕ × Ends × Ratio). c.args.real ≤ b.0 → b.2 ≡ zero_ratio) c.args.basics.now c.loop-place.place basic (omega arith) c.loop-place.invariant
    (subst (λ (b : ℕ × Ends × Ratio). c.args.real ≤ b.0 → b.2 ≡ zero_ratio) stands (c.is_idle.ensures c.if-not-is_idle.false))

pub returns : goal.returns
returns c = λ h. all-end (λ (b : ℕ × Ends × Ratio). c.args.real ≤ b.0 → b.2 ≡ zero_ratio) c.args.basics.now c.loop-place.place (omega arith) c.loop-place.invariant
