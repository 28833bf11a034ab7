use Rattle.std.proofs.Common.{ℕ, refl, sym, ◌∙◌, subst, inl}
use Rattle.cond_eval.specs.Searches.{Finds}
use Rattle.cond_eval.proofs.Finding.{finds}
use Rattle.cond_memo.proofs.mark.Mark.first_new.Goals as goal

pub match_behind-requires : goal.match_behind-requires
match_behind-requires g c = record { top = c.requires.used; from = c.requires.used; way = inl refl }

pub returns-then-self-serial : goal.returns-then-self-serial
returns-then-self-serial g c d i e =
    let rows = c.args.buffer.now.rows in
    let last = c.args.self.now.last in
    subst (λ (k : ℕ). Finds rows d last k c.match_behind.result) (c.serial.ensures.row d i e ∙ sym c.if-self-serial.true)
    (finds rows d last d.row.serial c.match_behind.result (c.match_behind.ensures.found d d i i e e) c.match_behind.ensures.serial)
