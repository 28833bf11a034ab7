use Rattle.std.proofs.Common.{◌≡◌, ◌≤◌, arith, rules}
use Rattle.gcx_gen.proofs.Written.{written_all, written_end, written_first, written_front, written_on, written_part}
use Rattle.gcx_gen.proofs.pieces.write_document.Goals as goal

pub returns-in_err-write_all-clause-owes : goal.returns-in_err-write_all-clause-owes
returns-in_err-write_all-clause-owes g c = λ failed. written_first _ _ _ _ c.in_err-write_all.ensures.owes

pub returns-in_err-write_items-clause-owes : goal.returns-in_err-write_items-clause-owes
returns-in_err-write_items-clause-owes g c = λ failed.
    let low : c.pieces.from ≤ c.piece_end-to.result = let m = c.piece_end-to.ensures.more in omega arith in
    written_part _ _ _ _ _ _ _ low c.piece_end-to.ensures.within c.pieces.invariant.written (c.in_err-write_items.ensures.owes (search rules))

pub returns-in_err-write_items-clause-front : goal.returns-in_err-write_items-clause-front
returns-in_err-write_items-clause-front g c = λ lack.
    let low : c.pieces.from ≤ c.piece_end-to.result = let m = c.piece_end-to.ensures.more in omega arith in
    written_front _ _ _ _ _ _ _ low c.piece_end-to.ensures.within c.pieces.invariant.written (c.in_err-write_items.ensures.untouched (search rules))

pub pieces-preserved : goal.pieces-preserved
pieces-preserved g c =
    let low : c.pieces.from ≤ c.piece_end-to.result = let m = c.piece_end-to.ensures.more in omega arith in
    record {
      within = c.piece_end-to.ensures.within;
      written = written_on _ _ _ _ _ _ low c.pieces.invariant.written c.in_ok-write_items.ensures.takes;
      later = let a = c.pieces.invariant.later in let b = c.in_ok-write_items.ensures.later in omega arith;
    }

pub returns-in_err-write_all-2-clause-owes : goal.returns-in_err-write_all-2-clause-owes
returns-in_err-write_all-2-clause-owes g c = λ failed.
    let end : c.pieces.from ≡ c.args.count = let a = c.pieces.invariant.within in let b = c.pieces-test.false in omega arith in
    written_end _ _ _ _ _ _ end c.pieces.invariant.written c.in_err-write_all-2.ensures.owes

pub returns-clause-takes : goal.returns-clause-takes
returns-clause-takes g c =
    let end : c.pieces.from ≡ c.args.count = let a = c.pieces.invariant.within in let b = c.pieces-test.false in omega arith in
    written_all _ _ _ _ _ _ end c.pieces.invariant.written c.in_ok-write_all-2.ensures.takes
