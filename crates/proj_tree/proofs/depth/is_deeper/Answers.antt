use Rattle.std.proofs.Common.{ℕ, ◌+◌, ap, ◌∙◌}
use Rattle.std.specs.Prelude.{nat_lt}
use Rattle.proj_tree.specs.Depths.{capped, descendants}
use Rattle.proj_tree.proofs.Falls.{below_cap}
use Rattle.proj_tree.proofs.depth.is_deeper.Goals as goal

pub returns : goal.returns
returns c =
    ap (nat_lt c.args.most) (c.depth_behind.ensures ∙ ap (λ (n : ℕ). capped (n + descendants c.args.tail.now)) c.depth_at.ensures) ∙ below_cap c.args.most _ c.requires
