-- What a round of workers gives. (This project's own.)
use Rattle.std.specs.Prelude.{◌≡◌, ℕ, ◌*◌, ◌≤◌, false, List, map, length}
use Rattle.std.specs.List.Sorted.{IsStrictlyIncreasing}
use Rattle.np_model.specs.declared.log.Entry.{Entry}
use Rattle.np_model.specs.Basis.Pieces.{PieceLists, least_node}
use Rattle.tree_table.specs.Passes.{Opening, Pivoted}
use Rattle.tree_table.specs.Replay.{LeadsTo}
use Rattle.tree_table.specs.Weights.{AreAmong, AreSame}
use Rattle.pivot_workers.specs.declared.report.Report.{Report}
use Rattle.pivot_workers.specs.Openings.{AreOpenings}
use Rattle.pivot_workers.specs.Sweeps.{IsSweep}

-- 1 to 16 workers, with at most 1,000,000 pivots in all
abbrev pub CanWork : ℕ → ℕ → Type 0
CanWork workers quota = (1 ≤ workers) × (workers ≤ 16) × (workers * quota ≤ 1000000)

-- the entries lead, in order, from the pieces that there were to these, by ascending least node; they enter arcs of the list, each at most as often
-- as it stands there, and at most the quota for each worker; and with one worker and memory they are those of the sweep
pub record IsRound (opening : Opening) (list : List ℕ) (workers quota : ℕ) (pieces : List PieceLists) (entries : List Entry) (report : Report) : Type 0 where
  pub log : List Pivoted
  pub now : List PieceLists
  pub leads : LeadsTo opening opening.pieces log now
  pub pieces_are : AreSame now pieces
  pub ascend : IsStrictlyIncreasing (map least_node pieces)
  pub entries_are : entries ≡ map (λ pivoted. pivoted.entry) log
  pub count : report.pivots ≡ length log
  pub few : report.pivots ≤ workers * quota
  pub enters : AreAmong (map (λ pivoted. pivoted.entry.enter) log) list
  pub openings : List ℕ
  pub are_openings : AreOpenings (length opening.net.supply) opening.pieces openings
  pub sweep : workers ≡ 1 → report.memory ≡ false → (made : List Pivoted) × (last : List PieceLists) × IsSweep opening openings opening.pieces list quota made last
      × (entries ≡ map (λ pivoted. pivoted.entry) made) × AreSame last pieces
