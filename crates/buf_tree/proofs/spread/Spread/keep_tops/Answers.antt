use Rattle.std.proofs.Common.{◌∙◌, sym, ap, subst, List, Option}
use Rattle.std.specs.Prelude.{vec_capacity}
use Rattle.gcx_model.specs.declared.item.Off.{Off}
use Rattle.gcx_model.specs.Tree.{Under}
use Rattle.buf_tree.specs.Shape.{cells}
use Rattle.buf_tree.specs.Spread.{SpreadView}
use Rattle.buf_tree.specs.Tops.{HasTopRoom, OwnApart, StaysAt}
use Rattle.buf_tree.proofs.KeepingTops.{none_meets, room_grows}
use Rattle.buf_tree.proofs.spread.Spread.keep_tops.Goals as goal

pub returns-then-not-meets-clause-held : goal.returns-then-not-meets-clause-held
returns-then-not-meets-clause-held g c p k u l stays t =
    let same = ap (λ (s : SpreadView). s.tops) (sym c.self.view_is) in
    none_meets _ _ _ stays _ c.if-not-meets.true c.meets.ensures c.self.invariant.0 (rw same at t.others)

pub keep_tops-requires-clause-room : goal.keep_tops-requires-clause-room
keep_tops-requires-clause-room g c = subst (λ (ts : List (Option Off)). HasTopRoom ts (vec_capacity c.self.inside.flags)) (sym c.deref.ensures.value) c.self.invariant.1

pub keep_tops-requires-clause-own : goal.keep_tops-requires-clause-own
keep_tops-requires-clause-own g c = subst (λ (ts : List (Option Off)). OwnApart ts) (sym (c.deref.ensures.value ∙ ap (λ (s : SpreadView). s.tops) c.self.view_is)) c.requires.own

pub invariant_of-self : goal.invariant_of-self
invariant_of-self g c = (c.self.invariant.0, room_grows _ _ _ c.keep_tops.ensures.room c.self.invariant.1)

pub returns-clause-held : goal.returns-clause-held
returns-clause-held g c p k u l stays t =
    c.keep_tops.ensures.held p k u l stays
    (subst (λ (ts : List (Option Off)). StaysAt (cells (g.N.NodeStore.rows c.args.nodes.now)) ts c.args.roles.now.held p (Under p k c.args.kind.now) stays)
    (sym (c.deref.ensures.value ∙ ap (λ (s : SpreadView). s.tops) c.self.view_is)) t)
