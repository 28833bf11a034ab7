use Rattle.std.proofs.Common.{◌≡◌, ◌+◌, Option, Some, None, sym, ◌∙◌, ap, subst}
use Rattle.gcx_model.specs.declared.item.Off.{Off}
use Rattle.buf_tree.specs.Shape.{cells}
use Rattle.buf_tree.specs.Withdraw.{Taking, TakingFrom}
use Rattle.buf_tree.proofs.Seeking.{used_there}
use Rattle.buf_tree.proofs.Withdrawing.{own_swept, own_count}
use Rattle.buf_tree.proofs.statements.take.Goals as goal

pub take_own-requires : goal.take_own-requires
take_own-requires g c =
    let t : Taking (cells (g.N.NodeStore.rows c.args.nodes.now)) c.args.place.0 c.args.off.now c.args.others = subst (λ (x : Option Off). TakingFrom x (cells (g.N.NodeStore.rows c.args.nodes.now)) c.args.place.0 c.args.off.now c.args.others) (c.is_alone_own.ensures.top c.if-is_alone_own.true) c.requires.taking in
    record { there = used_there _ c.requires.shape t.base t.among _ t.place }

pub returns-then-is_alone_own-clause-swept : goal.returns-then-is_alone_own-clause-swept
returns-then-is_alone_own-clause-swept g c none t = own_swept _ _ _ _ t.base t.loses _ _ c.requires.shape c.requires.tidy t.among t.place (t.each.own (c.is_alone_own.ensures.own c.if-is_alone_own.true))
    c.take_own.ensures.taken c.take_own.ensures.rows

pub returns-then-is_alone_own-clause-spread : goal.returns-then-is_alone_own-clause-spread
returns-then-is_alone_own-clause-spread g c top is_for t =
    let none : Some top ≡ None = sym is_for ∙ c.is_alone_own.ensures.top c.if-is_alone_own.true in
    absurd (cc)

pub returns-then-is_alone_own-clause-count : goal.returns-then-is_alone_own-clause-count
returns-then-is_alone_own-clause-count g c =
    let none = c.is_alone_own.ensures.top c.if-is_alone_own.true in
    let t : Taking (cells (g.N.NodeStore.rows c.args.nodes.now)) c.args.place.0 c.args.off.now c.args.others = subst (λ (x : Option Off). TakingFrom x (cells (g.N.NodeStore.rows c.args.nodes.now)) c.args.place.0 c.args.off.now c.args.others) none c.requires.taking in
    ap (λ n. c.args.gone.now.len + n) (own_count _ _ _ _ _ _ _ (returns-then-is_alone_own-clause-swept g c none t))
