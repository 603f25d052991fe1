-- The work of a worker with all shares is the sweep of its arcs.
use Rattle.std.proofs.Common.{◌≡◌, inl, inr, ⊎_elim, ℕ, List, [], length, ◌∙◌, false, arith}
use lib.ListN.{length-map}
use Rattle.np_model.specs.Basis.Pieces.{PieceLists}
use Rattle.tree_table.specs.Passes.{Pivoted, PassState}
use Rattle.tree_table.specs.Replay.{HasSeen}
use Rattle.pivot_workers.specs.declared.report.Report.{Report}
use Rattle.pivot_workers.specs.Sweeps.{IsSweep}
use Rattle.pivot_workers.specs.Work.{pivots_of, HasWorked}

pub swept : (openings : List ℕ) (p q : PassState) (own : List ℕ) (quota : ℕ) (report : Report) (w : HasWorked openings p q own quota report) → p.view.shares ≡ 64 → report.memory ≡ false
    → (now : List PieceLists) → HasSeen p.view now
    → (last : List PieceLists) × IsSweep p.view.opening openings now own quota (pivots_of w.has_tried.has_added.added) last × HasSeen q.view last
swept openings p q own quota report w all memory now s =
    let a = w.has_tried.alone all now s in
    let long : length (pivots_of w.has_tried.has_added.added) ≡ report.pivots = length-map w.has_tried.has_added.added (λ (e : ℕ × Pivoted). e.1) ∙ w.has_tried.has_added.count in (
      a.0,
      record {
        tried = w.tried;
        left = w.left;
        parts = w.parts;
        visits = a.1;
        few = (let f = w.few in omega arith);
        ends = ⊎_elim (λ (x : w.left ≡ []). inl x) (λ (x : report.pivots ≡ quota). inr (long ∙ x)) (w.ends memory);
      },
      a.2,
    )
