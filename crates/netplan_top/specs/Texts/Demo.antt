-- The summary of a demo: its number, the size of its network, and the least cost.
use Rattle.std.specs.Prelude.{ℕ, List, [], ◌∷◌, codes}
use Rattle.std.specs.Fmt.{decimal}
use Rattle.np_frac.specs.Ratio.{Ratio}
use Rattle.np_frac.specs.Text.{printed}
use Rattle.np_records.specs.Texts.{records_text}
use Rattle.netplan_top.specs.Texts.Frame.{end_record}

unfoldable pub summary_text : ℕ → ℕ → ℕ → Ratio → List ℕ
summary_text n nodes arcs cost =
    records_text ((codes "netplan-demo" ∷ codes "1" ∷ []) ∷ (codes "demo" ∷ decimal n ∷ []) ∷ (codes "size" ∷ decimal nodes ∷ decimal arcs ∷ []) ∷ (codes "verdict" ∷ codes "optimal" ∷ [])
    ∷ (codes "cost" ∷ printed cost ∷ []) ∷ end_record ∷ [])
