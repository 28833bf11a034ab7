use Rattle.std.proofs.Common.{sym, ◌∙◌, ap}
use Rattle.node_store.specs.Rows.{parent_of}
use Rattle.node_store.specs.declared.store.Place.{Place}
use Rattle.buf_tree.proofs.KeptReading.{seen_stand_apart}
use Rattle.cond_memo.proofs.MarkRows.{no_parent_row, parent_row_at}
use Rattle.cond_memo.proofs.waiting.parent_at.Goals as goal

pub returns-in-Some-clause-parent : goal.returns-in-Some-clause-parent
returns-in-Some-clause-parent g c =
    let m = g.N.NodeStore.rows c.at.result.store.now in
    parent_row_at m c.args.buffer.now.kept c.args.buffer.now.rows c.at.ensures.store c.at.ensures.alike c.args.place.0 c.in-Some.row.place.0 c.requires
    (ap (λ (q : Place). parent_of m q.0) (sym c.at.ensures.place) ∙ sym c.in-Some.ensures.place)

pub returns-in-None-clause-parent : goal.returns-in-None-clause-parent
returns-in-None-clause-parent g c =
    let m = g.N.NodeStore.rows c.at.result.store.now in
    no_parent_row m c.args.buffer.now.kept c.args.buffer.now.rows c.at.ensures.store c.at.ensures.alike c.args.place.0
    (ap (λ (q : Place). parent_of m q.0) (sym c.at.ensures.place) ∙ sym c.in-None.ensures.place)

pub returns-in-Some-clause-apart : goal.returns-in-Some-clause-apart
returns-in-Some-clause-apart g c = seen_stand_apart (g.N.NodeStore.rows c.at.result.store.now) c.args.buffer.now.kept c.args.buffer.now.rows c.at.ensures.store c.at.ensures.alike

pub returns-in-None-clause-apart : goal.returns-in-None-clause-apart
returns-in-None-clause-apart g c = seen_stand_apart (g.N.NodeStore.rows c.at.result.store.now) c.args.buffer.now.kept c.args.buffer.now.rows c.at.ensures.store c.at.ensures.alike
