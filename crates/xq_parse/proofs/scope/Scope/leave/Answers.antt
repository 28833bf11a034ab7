use Rattle.std.proofs.Common.{ℕ, ◌≡◌, ◌∙◌, ap, length, drop, ◌-◌, arith}
use Rattle.std.proofs.lemmas.List.{length-drop, drop-drop}
use Rattle.xq_parse.proofs.scope.Scope.leave.Goals as goal

pub loop-self-preserved : goal.loop-self-preserved
loop-self-preserved c =
    let was = c.loop-self.invariant in
    let now : length c.unbind.new.self ≡ length c.loop-self.self - 1 = ap length c.unbind.ensures ∙ length-drop 1 c.loop-self.self in
    record {
      down = omega arith;
      left = c.unbind.ensures ∙ ap (drop 1) was.left ∙ drop-drop 1 (length c.args.self.now - length c.loop-self.self) c.args.self.now ∙ ap (λ (n : ℕ). drop n c.args.self.now) (omega arith);
      within = omega arith;
    }
