use Rattle.std.proofs.Common.{rules, ◌≡◌, ◌⊎◌, ◌<◌, ◌≤◌, ◌+◌, ◌++◌, length, drop, inl, inr, sym, subst, ap, ap₂, ◌∙◌, arith}
use Rattle.std.proofs.lemmas.List.{take_rest}
use Rattle.gain_graphs.specs.Arcs.{IsIn}
use Rattle.piece_lists.specs.Merged.{IsMerged}
use Rattle.piece_lists.proofs.Merging.{Turned, at_in, turn_first, turn_second, turn_both, finished, ascending}
use Rattle.piece_lists.proofs.numbered.merged.Goals as goal
use Rattle.piece_lists.proofs.numbered.merged.Goals.{then-loop-i-test+else-j-ys, else-loop-i-test}

pub loop-i-preserved-then-a-b : goal.loop-i-preserved-then-a-b
loop-i-preserved-then-a-b g c =
    let i : c.loop-i.i < length c.args.xs.now = c.loop-i-test.true in
    let j : c.loop-i.j < length c.args.ys.now = c.if-j-ys.true in
    let key = g.T.Numbered.number_of in (
      omega arith,
      omega arith,
      subst (λ s. Turned key c.args.xs.now c.args.ys.now (c.loop-i.i + 1) c.loop-i.j s) (sym c.in_ok-push.ensures.items)
          (turn_first key c.args.xs.now c.args.ys.now c.loop-i.both.items c.index-xs-i.result c.index-ys-j.result c.loop-i.i c.loop-i.j (ascending key c.args.xs.now c.requires.first_ascends) (ascending key c.args.ys.now c.requires.second_ascends) i j c.index-xs-i.is c.index-ys-j.is (search rules) c.loop-i.invariant.2),
    )

pub loop-i-preserved-then-b-a : goal.loop-i-preserved-then-b-a
loop-i-preserved-then-b-a g c =
    let i : c.loop-i.i < length c.args.xs.now = c.loop-i-test.true in
    let j : c.loop-i.j < length c.args.ys.now = c.if-j-ys.true in
    let key = g.T.Numbered.number_of in (
      omega arith,
      omega arith,
      subst (λ s. Turned key c.args.xs.now c.args.ys.now c.loop-i.i (c.loop-i.j + 1) s) (sym c.in_ok-push-2.ensures.items)
          (turn_second key c.args.xs.now c.args.ys.now c.loop-i.both.items c.index-xs-i.result c.index-ys-j.result c.loop-i.i c.loop-i.j (ascending key c.args.xs.now c.requires.first_ascends) (ascending key c.args.ys.now c.requires.second_ascends) i j c.index-xs-i.is c.index-ys-j.is (search rules) c.loop-i.invariant.2),
    )

pub loop-i-preserved : goal.loop-i-preserved
loop-i-preserved g c =
    let i : c.loop-i.i < length c.args.xs.now = c.loop-i-test.true in
    let j : c.loop-i.j < length c.args.ys.now = c.if-j-ys.true in
    let key = g.T.Numbered.number_of in
    let e : key c.index-xs-i.result ≡ key c.index-ys-j.result = search rules in
    let same : c.index-xs-i.result ≡ c.index-ys-j.result =
    c.requires.same c.index-xs-i.result c.index-ys-j.result (subst (λ s. IsIn s c.args.xs.now) (sym c.index-xs-i.is) (at_in c.args.xs.now c.loop-i.i c.index-xs-i.result i)) (subst (λ s. IsIn s c.args.ys.now) (sym c.index-ys-j.is) (at_in c.args.ys.now c.loop-i.j c.index-ys-j.result j)) e in (
      omega arith,
      omega arith,
      subst (λ s. Turned key c.args.xs.now c.args.ys.now (c.loop-i.i + 1) (c.loop-i.j + 1) s) (sym c.in_ok-push-3.ensures.items)
          (turn_both key c.args.xs.now c.args.ys.now c.loop-i.both.items c.index-xs-i.result c.index-ys-j.result c.loop-i.i c.loop-i.j (ascending key c.args.xs.now c.requires.first_ascends) (ascending key c.args.ys.now c.requires.second_ascends) i j c.index-xs-i.is c.index-ys-j.is same c.loop-i.invariant.2),
    )

pub returns : goal.returns
returns g c =
    let key = g.T.Numbered.number_of in
    let over : (length c.args.xs.now ≤ c.loop-i.i) ⊎ (length c.args.ys.now ≤ c.loop-i.j) = elim c.loop-i-test.branch [ then-loop-i-test+else-j-ys w ↦ inr w.if-j-ys.false | else-loop-i-test w ↦ inl w.loop-i-test.false ] in
    let items : c.extend_from_slice-2.new.self.items ≡ (c.loop-i.both.items ++ drop c.loop-i.i c.args.xs.now) ++ drop c.loop-i.j c.args.ys.now =
    c.in_ok-extend_from_slice-2.ensures.items ∙ ap₂ (λ s t. s ++ t) (c.in_ok-extend_from_slice.ensures.items ∙ ap (λ s. c.loop-i.both.items ++ s) (take_rest c.args.xs.now c.loop-i.i)) (take_rest c.args.ys.now c.loop-i.j) in
    subst (λ s. IsMerged g.T.Numbered.number_of c.args.xs.now c.args.ys.now s) (sym items)
    (finished g.T.Numbered.number_of c.args.xs.now c.args.ys.now c.loop-i.both.items c.loop-i.i c.loop-i.j (ascending key c.args.xs.now c.requires.first_ascends) (ascending key c.args.ys.now c.requires.second_ascends) c.loop-i.invariant.2 over)
