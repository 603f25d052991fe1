use Rattle.np_basis.proofs.StageOne.{no_ray_at_nonnegative_costs, no_ray_in_stage_one, move_in_stage_one}
use Rattle.np_basis.proofs.laws.no_ray_in_stage_one.Goals as goal

pub returns-clause-costs : goal.returns-clause-costs
returns-clause-costs c = no_ray_at_nonnegative_costs

pub returns-clause-stage : goal.returns-clause-stage
returns-clause-stage c = no_ray_in_stage_one

pub returns-clause-moves : goal.returns-clause-moves
returns-clause-moves c = move_in_stage_one
