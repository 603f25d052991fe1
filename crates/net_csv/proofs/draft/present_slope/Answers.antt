use Rattle.std.proofs.Common.{rules, ◌≡◌, ◌-◌, Some, length}
use Rattle.std.specs.Prelude.{slice_get}
use Rattle.net_csv.proofs.LastSlopes.{last_slope-get}
use Rattle.net_csv.proofs.draft.present_slope.Goals as goal

pub returns-in-Some : goal.returns-in-Some
returns-in-Some c =
    let bands = c.args.flow.now.bands in
    let found : slice_get bands (length bands - 1) ≡ Some c.in-Some.band.now = search rules in
    rw found at (last_slope-get c.args.flow.now.cost bands)
