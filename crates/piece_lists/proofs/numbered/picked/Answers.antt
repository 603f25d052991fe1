use Rattle.std.proofs.Common.{rules, ◌≡◌, ℕ, length, sym, subst, ◌+◌, true≢false, ◌∙◌}
use Rattle.piece_lists.specs.Merged.{StandsAtPlace}
use Rattle.piece_lists.proofs.Merging.{ascending}
use Rattle.piece_lists.proofs.Picking.{Picked, begun, taken, passed, finished}
use Rattle.piece_lists.proofs.numbered.picked.Goals as goal
use Rattle.piece_lists.proofs.numbered.picked.Goals.{then-stands_at+in_ok-push, else-stands_at}

pub loop-x-init : goal.loop-x-init
loop-x-init g c = subst (Picked g.T.Numbered.number_of c.args.xs.now c.args.like.now 0) (sym c.in_ok-picked.ensures.items) (begun g.T.Numbered.number_of c.args.xs.now c.args.like.now c.requires.has)

pub loop-x-preserved : goal.loop-x-preserved
loop-x-preserved g c =
    let key = g.T.Numbered.number_of in
    let xs = c.args.xs.now in
    let like = c.args.like.now in
    let i = c.loop-x.x-index in
    let x = c.x-item.result in
    let out = c.loop-x.picked.items in
    let rising = ascending key xs c.requires.ascends in
    let like_rising = ascending key like c.requires.like_ascends in
    let count : c.len.result ≡ length c.loop-x.picked.items = search rules in
    elim c.if-stands_at.branch [
      | then-stands_at+in_ok-push w ↦ (
          let s : StandsAtPlace key like (length out) c.number.result = subst (λ (n : ℕ). StandsAtPlace key like n c.number.result) count (c.stands_at.ensures.0 w.if-stands_at.true) in
          subst (Picked key xs like (i + 1)) (sym (search rules)) (taken key xs like rising like_rising i x out c.loop-x-test.true c.x-item.is c.loop-x.invariant s.0 (s.1 ∙ c.number.ensures)))
      | else-stands_at w ↦ subst (Picked key xs like (i + 1)) (sym (search rules))
          (passed key xs like rising like_rising i x out c.loop-x-test.true c.x-item.is c.loop-x.invariant
          (λ l e. true≢false (sym (c.stands_at.ensures.1 (subst (λ (n : ℕ). StandsAtPlace key like n c.number.result) (sym count) (l, e ∙ sym c.number.ensures))) ∙ w.if-stands_at.false)))
    ]

pub returns : goal.returns
returns g c = finished g.T.Numbered.number_of c.args.xs.now c.args.like.now c.loop-x.x-index c.loop-x.picked.items c.loop-x-test.false c.loop-x.invariant
