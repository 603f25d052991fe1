use Rattle.std.proofs.Common.{rules, ◌≡◌, ◌∙◌, ◌<◌, ◌+◌, [], ◌∷◌, ◌++◌, get_or, take, sym, ap, subst, true, add-one}
use Rattle.std.proofs.lemmas.List.{length-set}
use Rattle.std.proofs.Math.Seq.{take-suc}
use Rattle.tree_search.proofs.Searches.{take_all, at_in, begun, marked_more}
use Rattle.tree_search.proofs.search.begin.Goals as goal

pub index_mut-requires : goal.index_mut-requires
index_mut-requires c = subst (λ t. get_or c.args.starts.now c.loop-start.start-index 0 < t) (sym c.loop-start.invariant.0 ∙ search rules) (c.requires.inside _ (at_in c.args.starts.now c.loop-start.start-index c.loop-start-test.true))

pub loop-start-preserved : goal.loop-start-preserved
loop-start-preserved c =
    let more : take (c.loop-start.start-index + 1) c.args.starts.now ≡ take c.loop-start.start-index c.args.starts.now ++ get_or c.args.starts.now c.loop-start.start-index 0 ∷ [] = ap (λ n. take n c.args.starts.now) (add-one c.loop-start.start-index) ∙ take-suc c.args.starts.now c.loop-start.start-index 0 c.loop-start-test.true in (
      length-set c.loop-start.seen.items _ true ∙ c.loop-start.invariant.0,
      c.in_ok-push-2.ensures.items ∙ ap (λ t. t ++ get_or c.args.starts.now c.loop-start.start-index 0 ∷ []) c.loop-start.invariant.1 ∙ sym more,
      marked_more c.loop-start.seen.items c.loop-start.queue.items _ c.args.nodes _ c.loop-start.invariant.0 (c.requires.inside _ (at_in c.args.starts.now c.loop-start.start-index c.loop-start-test.true)) c.loop-start.invariant.2 c.in_ok-push-2.ensures.items,
    )

pub returns : goal.returns
returns c = λ joints.
    let whole : take c.loop-start.start-index c.args.starts.now ≡ c.args.starts.now = take_all c.args.starts.now c.loop-start.start-index c.loop-start-test.false in
    begun joints c.args.nodes c.args.starts.now _ c.loop-start.invariant.0 c.loop-start.invariant.2 (c.loop-start.invariant.1 ∙ whole) c.in_ok-steps.ensures.items c.requires.inside
