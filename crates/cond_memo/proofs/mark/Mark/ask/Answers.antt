use Rattle.std.proofs.Common.{◌∙◌}
use Rattle.cond_eval.proofs.Rows.{closed_told, at_node}
use Rattle.cond_memo.proofs.MarkTold.{rows_below, turned_mark, asked_told}
use Rattle.cond_memo.proofs.mark.Mark.ask.Goals as goal

pub is_found-requires-clause-below : goal.is_found-requires-clause-below
is_found-requires-clause-below g c = let r = c.requires in rows_below c.args.buffer.now.rows r.tree r.keep r.asks.at.rows_of c.args.buffer.now.nodes r.asks.count

pub returns-clause-told : goal.returns-clause-told
returns-clause-told g c P keep n a e k =
    let t = turned_mark c.args.buffer.now.rows P keep a.at.rows_of n a.at.among c.args.of e c.args.self.now c.turn_to.new.self c.turn_to.ensures.same c.turn_to.ensures.other k in
    asked_told c.args.buffer.now.rows c.args.buffer.now.nodes c.args.node.0 P keep n c.args.of e c.args.self.now c.turn_to.new.self c.is_found.new.self c.keep.new.self a t c.in_default.is
    c.in_ok-found.found c.is_closed-over.result c.in_ok-found.ensures.frame c.in_ok-found.ensures.upto c.in_ok-found.ensures.found
    (c.is_closed-over.ensures a.at.cell a.at.cell_among a.at.at ∙ closed_told c.args.buffer.now.rows P keep a.at.rows_of a.at.cell n (at_node c.args.buffer.now.rows P keep c.args.node.0 n a.at))
    c.keep.ensures.kept c.keep.result c.keep.ensures.value
