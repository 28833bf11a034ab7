use Rattle.std.proofs.Common.{ap, Some}
use Rattle.node_store.specs.declared.store.Place.{Place}
use Rattle.pull_eval.proofs.Tags.{parent_read, parent_there, other_place}
use Rattle.pull_eval.proofs.copies.above.Goals as goal

pub returns-then-copying-clause-below : goal.returns-then-copying-clause-below
returns-then-copying-clause-below g c = λ n d t i j l e f low child. absurd (other_place _ c.args.buffer.now.kept c.args.buffer.now.rows c.at-node.ensures.store c.at-node.ensures.alike c.args.copying.now.node.0 c.args.copying.now.top.0 n t i l e f low c.if-copying.true)

pub returns-in-Some-clause-below : goal.returns-in-Some-clause-below
returns-in-Some-clause-below g c = λ n d t i j l e f low child.
    ap (λ (p : Place). Some (record { top = c.args.copying.now.top; node = p; present = Some c.args.copying.now.node }))
    (parent_read _ c.args.buffer.now.kept c.args.buffer.now.rows c.at-node.ensures.store c.at-node.ensures.alike c.args.copying.now.node c.at-node.result.place c.at-node.ensures.place c.in-Some.parent.place c.in-Some.ensures.place n d i j e child)

pub returns-in-None-clause-below : goal.returns-in-None-clause-below
returns-in-None-clause-below g c = λ n d t i j l e f low child. absurd (parent_there _ c.args.buffer.now.kept c.args.buffer.now.rows c.at-node.ensures.store c.at-node.ensures.alike c.args.copying.now.node c.at-node.result.place c.at-node.ensures.place c.in-None.ensures.place n d i e child)
