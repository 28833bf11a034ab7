-- Plans whose lists fit together and can be numbered (this project's).
use Rattle.std.specs.Prelude.{◌≡◌, ◌+◌, ◌^◌, ◌<◌, length}
use Rattle.gcx_model.specs.declared.plan.Plan.{Plan}

-- each variable has its flag and its fsa, and the numbers of variables and roles fit 32 bits
pub record IsSized (plan : Plan) : Type 0 where
  pub straight : length plan.straight ≡ length plan.vars
  pub fsa : length plan.fsa ≡ length plan.vars
  pub vars : length plan.vars + 1 < 2 ^ 32
  pub roles : length plan.roles < 2 ^ 32
