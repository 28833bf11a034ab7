use Rattle.std.proofs.Common.{◌≡◌, take, false}
use Rattle.gcx_model.specs.Paths.{any}
use Rattle.buf_tree.proofs.upward.has_flag.Given as goal

abbrev pub invariant-loop-flag : goal.invariant-loop-flag
invariant-loop-flag l = any (λ flag. flag) (take l.flag-index l.flags) ≡ false
