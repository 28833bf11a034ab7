use Rattle.std.proofs.Common.{◌<◌, suc, List, length, get_or, inl, inr, sym, subst, arith}
use Rattle.std.proofs.lemmas.List.Elements.{All-set}
use Rattle.gcx_base.specs.declared.ids.Role.{Role}
use Rattle.trace_check.specs.Wanting.{AreBelow}
use Rattle.trace_check.proofs.Entries.{none_far, so_far}
use Rattle.trace_check.proofs.Roles.{below_with, given_none, given_one, given_range}
use Rattle.trace_check.proofs.given.give_range.Goals as goal

pub loop-node-init : goal.loop-node-init
loop-node-init c = record {
  given = given_none c.args.role (so_far c.args.range.first c.args.range.first) c.args.given.now (λ k l. none_far c.args.range.first k);
  below = c.requires;
  from = omega arith;
  most = omega arith;
}

pub add-requires : goal.add-requires
add-requires c = c.loop-node.invariant.below c.loop-node.node c.index-given-node.result (let l = c.if-node-given.true in let e = c.loop-node.auto.given in omega (arith, l, e))

pub loop-node-preserved : goal.loop-node-preserved
loop-node-preserved c =
    let l : c.loop-node.node < length c.loop-node.given = c.if-node-given.true in
    let here : List Role = get_or c.loop-node.given c.loop-node.node c.index-given-node.result in
    record {
      given = given_one c.args.role c.args.range.first c.loop-node.node c.args.given.now c.loop-node.given c.index-given-node.result c.add.new.given l c.loop-node.invariant.from
          c.loop-node.invariant.given c.in_ok-add.ensures;
      below = All-set (AreBelow (suc c.args.role.0)) c.loop-node.given c.loop-node.node c.add.new.given
          (subst (AreBelow (suc c.args.role.0)) (sym c.in_ok-add.ensures) (below_with c.args.role here (c.loop-node.invariant.below c.loop-node.node c.index-given-node.result l)))
          c.loop-node.invariant.below;
      from = (let a = c.loop-node.invariant.from in omega (arith, a));
      most = (let a = c.loop-node-test.true in omega (arith, a));
    }

pub returns-else-node-given-clause-given : goal.returns-else-node-given-clause-given
returns-else-node-given-clause-given c = given_range c.args.range c.loop-node.node c.args.role c.args.given.now c.loop-node.given c.loop-node.invariant.most
    (inr (let f = c.if-node-given.false in let e = c.loop-node.auto.given in omega (arith, f, e))) c.loop-node.invariant.given

pub returns-after-loop-node-clause-given : goal.returns-after-loop-node-clause-given
returns-after-loop-node-clause-given c = given_range c.args.range c.loop-node.node c.args.role c.args.given.now c.loop-node.given c.loop-node.invariant.most
    (inl (let f = c.loop-node-test.false in omega (arith, f))) c.loop-node.invariant.given
