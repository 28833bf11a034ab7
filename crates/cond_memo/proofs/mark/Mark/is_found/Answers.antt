use Rattle.std.proofs.Common.{◌∙◌, ap}
use Rattle.cond_memo.specs.declared.mark.Mark.{Mark}
use Rattle.cond_memo.proofs.MarkTrees.{not_empty}
use Rattle.cond_memo.proofs.MarkBack.{found_after, upto_either}
use Rattle.cond_memo.proofs.mark.Mark.is_found.Goals as goal

pub returns-clause-upto : goal.returns-clause-upto
returns-clause-upto g c =
    upto_either c.args.buffer.now.nodes c.args.self.now.upto.0 c.look_back.new.self.upto.0 c.look_on.new.self.upto.0 c.look_on.result (ap (λ (x : Mark). x.upto.0) c.in_ok-look_back.ensures.frame) c.look_on.ensures.upto

pub returns-clause-found : goal.returns-clause-found
returns-clause-found g c =
    found_after c.args.buffer.now.rows c.args.buffer.now.nodes c.args.node.0 c.args.self.now c.look_back.new.self c.look_back.new.self.waiting c.in_ok-look_back.field-0 c.in_ok-look_back.ensures.frame c.if-branch.false
    (λ e. not_empty c.items.result.now c.is_empty.result c.is_empty.ensures c.if-is_empty.false (c.items.ensures ∙ e)) c.in_ok-look_back.ensures.searched c.look_on.new.self.waiting c.look_back.new.self.upto.0 c.look_on.new.self.upto.0 c.look_on.result c.look_on.ensures.searched c.look_on.ensures.upto
