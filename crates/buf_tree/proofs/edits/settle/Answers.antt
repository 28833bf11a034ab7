use Rattle.std.proofs.Common.{arith, ◌∙◌, sym}
use Rattle.buf_tree.proofs.Keeping.{kept_cleared, length_serials}
use Rattle.buf_tree.proofs.edits.settle.Goals as goal

pub purge-requires-clause-shape : goal.purge-requires-clause-shape
purge-requires-clause-shape g c = c.requires.1.shape

pub purge-requires-clause-there : goal.purge-requires-clause-there
purge-requires-clause-there g c = c.requires.1.there

pub purge-requires-clause-tidy : goal.purge-requires-clause-tidy
purge-requires-clause-tidy g c = c.requires.1.tidy

pub purge-requires-clause-room : goal.purge-requires-clause-room
purge-requires-clause-room g c = omega (arith, c.requires.1.held, c.requires.1.room, c.args.gone.now.ok.0, length_serials c.args.gone.now.items)

pub overflow_sub-result-2 : goal.overflow_sub-result-2
overflow_sub-result-2 g c = omega (arith, c.requires.1.held, c.purge.ensures.count, c.len.ensures, c.len-before.ensures)

pub returns-clause-kept : goal.returns-clause-kept
returns-clause-kept g c n r = rw (c.len.ensures, c.len-before.ensures) (kept_cleared _ _ _ _ _ _ _ _ _ _ _ r c.purge.ensures.cleared c.purge.ensures.count (c.args.gone.now.ok.0 ∙ sym (length_serials _)) (c.purge.new.gone.ok.0 ∙ sym (length_serials _)) c.purge.ensures.capacity)
