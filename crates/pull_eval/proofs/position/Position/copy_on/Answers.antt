use Rattle.std.proofs.Common.{◌≡◌, refl, sym, ◌∙◌, true, false}
use Rattle.gcx_model.specs.Tree.{is_closed}
use Rattle.pull_eval.proofs.Inside.{the_copy, behind, node_used, found_used, next_found, none_next, closed_there, is_over}
use Rattle.pull_eval.proofs.CopyGoes.{copy_blocked}
use Rattle.pull_eval.proofs.position.Position.copy_on.Goals as goal

pub next_child-requires : goal.next_child-requires
next_child-requires g c = let b = c.requires.beside in (behind c.args.self.now c.args.buffer.now b.0 b.1 b.2 c.args.copying c.requires.copying).from

pub copy_child-requires-clause-used : goal.copy_child-requires-clause-used
copy_child-requires-clause-used g c = let b = c.requires.beside in found_used c.args.self.now c.args.buffer.now b.0 b.1 b.2 c.args.copying c.requires.copying c.in-Some.child c.in-Some.ensures

pub copy_child-requires-clause-next : goal.copy_child-requires-clause-next
copy_child-requires-clause-next g c = λ past k b. next_found c.args.self.now c.args.buffer.now past k b c.args.copying c.requires.copying c.in-Some.child c.in-Some.ensures

pub is_closed-requires : goal.is_closed-requires
is_closed-requires g c = let b = c.requires.beside in node_used c.args.self.now c.args.buffer.now b.0 b.1 b.2 c.args.copying c.requires.copying

pub returns-then-not-is_closed-clause-moved : goal.returns-then-not-is_closed-clause-moved
returns-then-not-is_closed-clause-moved g c = λ past k b.
    let copy = the_copy c.args.self.now c.args.buffer.now past k b c.args.copying c.requires.copying in
    let told = closed_there c.args.self.now c.args.buffer.now past k b c.args.copying c.requires.copying c.is_closed.result c.is_closed.ensures in
    let is_open : is_closed past.tree copy.node ≡ false = sym told ∙ c.if-not-is_closed.true in
    (copy_blocked c.args.self.now c.args.self.now c.args.buffer.now past k b c.args.copying c.requires.copying c.requires.begun (none_next c.args.self.now c.args.buffer.now past k b c.args.copying c.requires.copying c.in-None.ensures) is_open, refl, refl, b)

pub end_copy-requires-clause-used : goal.end_copy-requires-clause-used
end_copy-requires-clause-used g c = let b = c.requires.beside in node_used c.args.self.now c.args.buffer.now b.0 b.1 b.2 c.args.copying c.requires.copying

pub end_copy-requires-clause-over : goal.end_copy-requires-clause-over
end_copy-requires-clause-over g c = λ past k b.
    let copy = the_copy c.args.self.now c.args.buffer.now past k b c.args.copying c.requires.copying in
    let told = closed_there c.args.self.now c.args.buffer.now past k b c.args.copying c.requires.copying c.is_closed.result c.is_closed.ensures in
    let closed : is_closed past.tree copy.node ≡ true = sym told ∙ c.if-not-is_closed.false in
    is_over c.args.self.now c.args.buffer.now past k b c.args.copying c.requires.copying c.in-None.ensures closed
