use Rattle.std.proofs.Common.{◌∙◌, ap}
use Rattle.cond_memo.specs.declared.mark.Mark.{Mark}
use Rattle.cond_memo.proofs.MarkBack.{does_as, back_found, back_goes, back_ends, above_as}
use Rattle.cond_memo.proofs.mark.Mark.look_back.Goals as goal

pub returns-then-branch-clause-searched : goal.returns-then-branch-clause-searched
returns-then-branch-clause-searched g c P keep n a t =
    let m = c.args.self.now in
    let same = ap (λ (x : Mark). x.ask) c.up.invariant.frame in
    back_found c.args.buffer.now.rows c.args.buffer.now.nodes m.steps m.ask c.args.node.0 P keep n a c.up.self.waiting m.upto.0 (c.up.invariant.tried P keep n a t) c.in-Some.place.0 c.in-Some.ensures c.in_ok-does.field-0
    (does_as c.args.buffer.now.rows c.in-Some.place.0 c.in_ok-does.field-0 c.up.self.ask m.ask same c.in_ok-does.ensures) c.if-branch.true

pub up-preserved : goal.up-preserved
up-preserved g c = record {
  frame = ap (λ (x : Mark). record x { waiting = c.in_ok-self.field-0 }) c.up.invariant.frame;
  tried = λ P keep n a t.
      let m = c.args.self.now in
      let asks = ap (λ (x : Mark). x.ask) c.up.invariant.frame in
      let steps = ap (λ (x : Mark). x.steps) c.up.invariant.frame in
      back_goes c.args.buffer.now.rows c.args.buffer.now.nodes m.steps m.ask c.args.node.0 P keep n a c.up.self.waiting m.upto.0 c.requires.steps (c.up.invariant.tried P keep n a t) c.in-Some.place.0 c.in-Some.ensures c.in_ok-does.field-0
      (does_as c.args.buffer.now.rows c.in-Some.place.0 c.in_ok-does.field-0 c.up.self.ask m.ask asks c.in_ok-does.ensures) c.if-branch.false c.in_ok-self.field-0
      (above_as c.args.buffer.now.rows c.args.node.0 c.in-Some.place.0 c.items-steps.result.now m.steps c.in_ok-self.field-0 (c.items-steps.ensures ∙ steps) c.requires.steps c.in_ok-self.ensures.above P keep n a.at);
}

pub returns-clause-searched : goal.returns-clause-searched
returns-clause-searched g c P keep n a t =
    let m = c.args.self.now in
    let tried = c.up.invariant.tried P keep n a t in
    (tried, back_ends c.args.buffer.now.rows c.args.buffer.now.nodes m.steps m.ask c.args.node.0 P keep n a c.up.self.waiting m.upto.0 tried c.in_default.ensures)
