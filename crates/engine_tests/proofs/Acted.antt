-- Behind a call the machine stands beside its buffer again.
use Rattle.std.proofs.Common.{ℕ, suc, List}
use Rattle.gcx_model.specs.Past.{Past, past_acted}
use Rattle.gcx_model.specs.Run as run
use Rattle.buf_tree.specs.View.{View}
use Rattle.pull_eval.specs.Acting.{Beside, TakesAction}
use Rattle.pull_eval.specs.declared.machine.Acted.{Acted}
use Rattle.pull_eval.specs.declared.machine.Acted.TheVariants.{Wrote, SignedOff, Blocked, Finished}
use Rattle.pull_eval.specs.declared.position.Position.{Position}

pub beside_on : (past : Past) (k : ℕ) (m : Position) (v w : View) (before after : List ℕ) (a : Acted) → TakesAction past k m v w before after a → (p : Past) × (j : ℕ) × Beside m w p j
beside_on past k m v w before after (Wrote n) t = (past_acted (run.Wrote t.0) past, suc k, t.5)
beside_on past k m v w before after (SignedOff s r) t = (past_acted (run.Offed t.0 s.0) past, suc k, t.6)
beside_on past k m v w before after Blocked t = (past, k, t.3)
beside_on past k m v w before after Finished t = (past, k, t.3)
