use Rattle.std.proofs.Common.{◌≡◌, ◌∙◌, ◌<◌, ◌-◌, ℕ, suc, length, get_or, arith, sym, subst, slice_index_or}
use Rattle.std.proofs.lemmas.List.{length-set}
use Rattle.tree_search.specs.Search.{IsFirstFrom}
use Rattle.tree_search.specs.Places.{loose}
use Rattle.tree_search.specs.declared.piece.Joint.{Joint}
use Rattle.tree_search.proofs.Searches.{default, first_more, after_more}
use Rattle.tree_search.proofs.search.arcs_at_nodes.Goals as goal

pub loop-left-preserved : goal.loop-left-preserved
loop-left-preserved c =
    let i : ℕ = c.loop-left.left - 1 in
    let j : Joint = slice_index_or c.args.joints.now (c.loop-left.left - 1) loose in
    let v = c.loop-left.invariant in
    let is : c.loop-left.left ≡ suc (c.loop-left.left - 1) = omega (arith, c.loop-left-test.true) in
    let inside : c.loop-left.left - 1 < length c.args.joints.now = omega (arith, c.loop-left-test.true, v.3) in
    let e = c.requires.ends (c.loop-left.left - 1) loose inside in
    let firsts : (u : ℕ) → u < c.args.nodes → IsFirstFrom c.args.joints.now u (suc (c.loop-left.left - 1)) (get_or c.loop-left.first.items u 0) = λ u b. subst (λ t. IsFirstFrom c.args.joints.now u t (get_or c.loop-left.first.items u 0)) is (v.4 u b) in
    let from_is : c.index.result.now ≡ get_or c.loop-left.first.items j.from 0 = c.index.ensures ∙ default c.loop-left.first.items j.from _ 0 (subst (λ t. j.from < t) (sym v.0) e.0) in
    let to_is : c.index-in-loop-left.result.now ≡ get_or c.loop-left.first.items j.to 0 = c.index-in-loop-left.ensures ∙ default c.loop-left.first.items j.to _ 0 (subst (λ t. j.to < t) (sym v.0) e.1) in (
      length-set _ _ _ ∙ length-set c.loop-left.first.items _ _ ∙ v.0,
      length-set c.loop-left.after_from.items _ _ ∙ v.1,
      length-set c.loop-left.after_to.items _ _ ∙ v.2,
      omega (arith, v.3),
      first_more c.args.joints.now c.loop-left.first.items c.args.nodes (c.loop-left.left - 1) inside v.0 e.0 e.1 firsts,
      after_more c.args.joints.now (λ k. k.from) c.loop-left.after_from.items (c.loop-left.left - 1) c.index.result.now v.1 inside
          (subst (λ t. IsFirstFrom c.args.joints.now j.from (suc (c.loop-left.left - 1)) t) (sym from_is) (firsts j.from e.0)) (λ a l b. v.5 a (omega arith) b),
      after_more c.args.joints.now (λ k. k.to) c.loop-left.after_to.items (c.loop-left.left - 1) c.index-in-loop-left.result.now v.2 inside
          (subst (λ t. IsFirstFrom c.args.joints.now j.to (suc (c.loop-left.left - 1)) t) (sym to_is) (firsts j.to e.1)) (λ a l b. v.6 a (omega arith) b),
    )
