use Rattle.std.proofs.Common.{◌-◌, ℕ, refl, subst, inl, inr, arith}
use Rattle.cond_eval.specs.Searches.{Finds}
use Rattle.cond_eval.proofs.Finding.{finds}
use Rattle.cond_memo.proofs.taken.Taken.first_row.Goals as goal

pub match_behind-requires : goal.match_behind-requires
match_behind-requires g c = record { top = c.requires.used; from = c.requires.used; way = inl refl }

pub returns-then-self-serial : goal.returns-then-self-serial
returns-then-self-serial g c =
    let rows = c.args.buffer.now.rows in
    let last = c.args.self.now.last in
    record {
      after = c.serial.result.0;
      finds = λ d i e. subst (λ (k : ℕ). Finds rows d last k c.match_behind.result) (c.serial.ensures.row d i e) (finds rows d last d.row.serial c.match_behind.result (c.match_behind.ensures.found d d i i e e) c.match_behind.ensures.serial);
      from = inr (omega (arith, c.if-self-serial.true), λ d i e. c.serial.ensures.row d i e);
    }

pub returns-else-self-serial : goal.returns-else-self-serial
returns-else-self-serial g c = record { after = c.args.self.now.below - 1; finds = c.new_match.ensures; from = inl (omega (arith, c.if-self-serial.false)) }
