use Rattle.std.proofs.Common.{sym, ◌∙◌, ap, ◌+◌}
use Rattle.std.specs.FinMap.{get}
use Rattle.buf_tree.specs.Shape.{cells, entry_in}
use Rattle.buf_tree.proofs.Shaping.{get_of}
use Rattle.buf_tree.proofs.Seeking.{used_there}
use Rattle.buf_tree.proofs.Withdrawing.{own_swept, own_count, few_own}
use Rattle.buf_tree.proofs.statements.take_back.Goals as goal

pub take_own-requires : goal.take_own-requires
take_own-requires g c = let t = c.requires.taking in record { there = used_there _ c.requires.shape t.base t.among _ t.place }

pub returns-then-is_own-clause-swept : goal.returns-then-is_own-clause-swept
returns-then-is_own-clause-swept g c t = own_swept _ _ _ _ t.base t.loses _ _ c.requires.shape c.requires.tidy t.among t.place (t.each.own (sym c.is_own.ensures ∙ c.if-is_own.true))
    c.take_own.ensures.taken c.take_own.ensures.rows

pub returns-then-is_own-clause-count : goal.returns-then-is_own-clause-count
returns-then-is_own-clause-count g c = ap (λ n. c.args.gone.now.len + n) (own_count _ _ _ _ _ _ _ (returns-then-is_own-clause-swept g c c.requires.taking))

pub returns-then-is_own-clause-few : goal.returns-then-is_own-clause-few
returns-then-is_own-clause-few g c =
    let t = c.requires.taking in
    few_own _ t.base _ _ t.among (c.take_own.ensures.taken (entry_in (cells (g.N.NodeStore.rows c.args.nodes.now)) t.base) (ap (get (g.N.NodeStore.rows c.args.nodes.now)) (sym t.place) ∙ get_of _ _ c.requires.shape t.base t.among))

pub sweep-requires-clause-there : goal.sweep-requires-clause-there
sweep-requires-clause-there g c = let t = c.requires.taking in used_there _ c.requires.shape t.base t.among _ t.place
