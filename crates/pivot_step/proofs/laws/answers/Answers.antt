use Rattle.pivot_step.proofs.Excluding.{answers_exclude, no_ray_in_stage_one}
use Rattle.pivot_step.proofs.laws.answers.Goals as goal

pub returns-clause-exclude : goal.returns-clause-exclude
returns-clause-exclude c = answers_exclude

pub returns-clause-no_ray : goal.returns-clause-no_ray
returns-clause-no_ray c = no_ray_in_stage_one
