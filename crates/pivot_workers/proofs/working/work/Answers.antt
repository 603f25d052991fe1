use Rattle.std.proofs.Common.{arith, ◌≡◌, ◌+◌, ◌-◌, ℕ, List, [], drop, sym, subst, refl, append-nil}
use Rattle.std.proofs.lemmas.Bool.{false≢true}
use Rattle.pivot_workers.specs.Sweeps.{dealt}
use Rattle.pivot_workers.specs.Work.{HasTried}
use Rattle.pivot_workers.proofs.Dealt.{dealt_first, next_part}
use Rattle.pivot_workers.proofs.Several.{tried_none, tried_both}
use Rattle.pivot_workers.proofs.working.work.Goals as goal
use Rattle.pivot_workers.proofs.working.work.Goals.{in-Pivoted, in-Passed}

pub loop-place-init : goal.loop-place-init
loop-place-init g c = (
  ([], dealt_first (c.args.workers - 1) (c.args.worker - 1) c.args.list.now, tried_none c.args.openings.now c.args.pass.now c.requires.ready.2),
  (omega arith),
  (omega arith),
)

pub returns-in-Memory : goal.returns-in-Memory
returns-in-Memory g c =
    let i = c.loop-place.invariant in
    let T : List ℕ → ℕ → Type 0 = λ arcs k. HasTried c.args.openings.now c.args.pass.now c.try_arc.new.pass arcs k in
    let d = tried_both c.args.openings.now c.args.pass.now c.loop-place.pass c.try_arc.new.pass i.0.0 [] c.loop-place.pivots 0 i.0.2 c.in-Memory.ensures in
    record {
      worked = record {
        tried = i.0.0;
        left = dealt (c.args.workers - 1) 0 (drop c.loop-place.place c.args.list.now);
        parts = i.0.1;
        has_tried = subst (λ (z : List ℕ × ℕ). T z.0 z.1) (λ j. (append-nil i.0.0 j, (let e : c.loop-place.pivots + 0 ≡ c.loop-place.pivots = omega arith in e) j)) d;
        few = i.1;
        ends = λ e. absurd (false≢true (sym e));
      };
    }

pub loop-place-preserved : goal.loop-place-preserved
loop-place-preserved g c =
    let i = c.loop-place.invariant in
    let T : List ℕ → ℕ → Type 0 = λ arcs k. HasTried c.args.openings.now c.args.pass.now c.try_arc.new.pass arcs k in
    let both = tried_both c.args.openings.now c.args.pass.now c.loop-place.pass c.try_arc.new.pass i.0.0 in
    let parts = next_part (dealt (c.args.workers - 1) (c.args.worker - 1) c.args.list.now) i.0.0 (c.args.workers - 1) c.args.workers c.loop-place.place _ c.args.list.now (omega arith) c.loop-place-test.true refl i.0.1 in
    elim c.match-try_arc.branch [
      | in-Pivoted w ↦ (
        (_, parts, subst (T _) (sym w.pivots-is) (both _ c.loop-place.pivots 1 i.0.2 w.in-Pivoted.ensures)),
        (let a = c.if-pivots-quota.true in let b = w.pivots-is in omega arith),
        (let a = i.2 in omega arith),
      )
      | in-Passed w ↦ (
        (_, parts, subst (T _) (let e : c.loop-place.pivots + 0 ≡ c.match-try_arc.pivots = (let b = w.pivots-is in omega arith) in e) (both _ c.loop-place.pivots 0 i.0.2 w.in-Passed.ensures)),
        (let a = i.1 in let b = w.pivots-is in omega arith),
        (let a = i.2 in omega arith),
      )
    ]
