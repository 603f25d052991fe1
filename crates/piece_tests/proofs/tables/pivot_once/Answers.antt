use Rattle.std.proofs.Common.{◌≡◌, [], ◌∷◌, sym, subst, ◌∙◌}
use Rattle.np_frac.specs.Ratio.{Ratio}
use Rattle.tree_table.specs.Passes.{View, first_view}
use Rattle.tree_table.specs.Replay.{Becomes}
use Rattle.tree_table.specs.Calls.{with_one}
use Rattle.piece_tests.specs.Passes.{drained_by, artificial_opening}
use Rattle.piece_tests.proofs.OnePivot.{dear, entry, becomes, first_piece}
use Rattle.piece_tests.proofs.tables.pivot_once.Goals as goal

pub commit-requires-clause-pivot : goal.commit-requires-clause-pivot
commit-requires-clause-pivot c κs =
    let p = c.in-Piece.field-0 in
    let got = c.in-Piece.ensures.answer in
    let is = first_piece c.args.pass.now.view (drained_by p.potential p.arc p.other) c.requires.view got.0 in
    let view : c.take.new.pass.view ≡ with_one (first_view artificial_opening) 0 dear = got.1 ∙ (λ i. with_one (c.requires.view i) 0 (is i)) in
    let after : Becomes artificial_opening (dear ∷ []) entry (drained_by c.whole.result 0 1 ∷ []) =
    subst (λ (potential : Ratio). Becomes artificial_opening (dear ∷ []) entry (drained_by potential 0 1 ∷ [])) (sym c.whole.ensures) (becomes c.examples.ensures.pivot c.pivots.ensures.of_pieces) in
    subst (λ (v : View). Becomes v.opening v.hands entry (drained_by c.whole.result 0 1 ∷ [])) (sym view) after
