use Rattle.std.proofs.Common.{List, refl, sym, ◌∙◌, ap, subst}
use Rattle.std.specs.Prelude.{slice_get}
use Rattle.cond_eval.specs.declared.sets.Member.{Member}
use Rattle.cond_eval.proofs.Comparisons.{row_used}
use Rattle.pull_eval.specs.Listing.{AreNodeRows, ListsAll}
use Rattle.pull_eval.proofs.TurnsListed.{used_rows}
use Rattle.pull_eval.proofs.TurnsChosen.{turns_other, turns_same}
use Rattle.pull_eval.proofs.turns.Turns.turn_to.Goals as goal

pub serial-of-requires : goal.serial-of-requires
serial-of-requires g c = row_used c.args.buffer.now.rows c.args.context.0 c.requires

pub entries_of-requires : goal.entries_of-requires
entries_of-requires g c =
    subst (λ (z : List Member). AreNodeRows c.args.buffer.now.rows z) (sym c.deref.ensures.value)
    (used_rows c.args.buffer.now.rows c.args.context.0 c.requires c.in_ok-matches.matches.items c.in_ok-matches.ensures.used)

pub returns-then-is_that-clause-turned : goal.returns-then-is_that-clause-turned
returns-then-is_that-clause-turned g c =
    turns_same c.args.buffer.now.rows c.args.self.now c.args.context.0 c.serial-of.result (c.is_that.ensures.0 c.if-is_that.true) c.serial-of.ensures.row

pub returns-clause-turned : goal.returns-clause-turned
returns-clause-turned g c =
    turns_other c.args.buffer.now.rows c.args.self.now _ c.args.context.0 c.serial-of.result c.from_ref.result.now c.from_ref.ensures.value c.in_ok-matches.matches.items c.in_ok-matches.ensures.closed c.in_ok-entries.entries.items
    (subst (λ (z : List Member). ListsAll c.args.buffer.now.rows c.args.self.now.own.now z c.in_ok-entries.entries.items) c.deref.ensures.value c.in_ok-entries.ensures)
    refl refl refl refl (c.copied-self.ensures ∙ (c.first.ensures.value ∙ ap (λ (z : List Member). slice_get z 0) c.deref-2.ensures.value)) c.in_ok-self.ensures.same c.in_ok-self.ensures.sorted c.serial-of.ensures.row
