use Rattle.std.proofs.Common.{sym, ap, ◌∙◌, subst, drop, length, List, ℕ, ◌+◌, ◌-◌}
use Rattle.std.proofs.lemmas.Result.{err_from_is_err_and}
use Rattle.doc_machine.specs.Machine.{scan_state}
use Rattle.doc_parts.specs.Reading.{IsFirstChar}
use Rattle.doc_parts.proofs.Texts.{rest_all}
use Rattle.doc_parts.proofs.Wholes.{first_all}
use Rattle.doc_reader.proofs.Reading.{reached_stops, reached_moves, reached_first, reached_stop, reached_all}
use Rattle.doc_reader.proofs.machine.read.read.Goals as goal

pub returns-in_err-judge-in-Some-clause-judged : goal.returns-in_err-judge-in-Some-clause-judged
returns-in_err-judge-in-Some-clause-judged c =
    let p = err_from_is_err_and c.from_residual-in_err-judge-in-Some.result c.from_residual-in_err-judge-in-Some.ensures.1 in
    let lim = c.args.limits in
    let old = scan_state c.args.m.now in
    let text = c.args.text.now in
    let now = scan_state c.read_front.new.m in
    let r = reached_moves lim c.args.place old text c.loop-n.at (scan_state c.loop-n.m) now c.loop-n.rest.now c.in_ok-n.n c.loop-n.invariant.2 c.in_ok-n.ensures.moves in
    let behind = subst (λ (l : List ℕ). IsFirstChar c.in-Some.c c.in-Some.after.now l) c.split_at.ensures.back c.in-Some.ensures in
    rw (p.1, p.2) (reached_stop lim c.args.place old text (c.loop-n.at + c.in_ok-n.n) now (scan_state c.judge.new.m) c.in-Some.c (drop c.in_ok-n.n c.loop-n.rest.now) c.in-Some.after.now c.in_err-judge-in-Some.field-0.0 r behind c.in_err-judge-in-Some.ensures)

pub loop-n-preserved : goal.loop-n-preserved
loop-n-preserved c =
    let lim = c.args.limits in
    let old = scan_state c.args.m.now in
    let text = c.args.text.now in
    let now = scan_state c.read_front.new.m in
    let r = reached_moves lim c.args.place old text c.loop-n.at (scan_state c.loop-n.m) now c.loop-n.rest.now c.in_ok-n.n c.loop-n.invariant.2 c.in_ok-n.ensures.moves in
    let behind = subst (λ (l : List ℕ). IsFirstChar c.in-Some.c c.in-Some.after.now l) c.split_at.ensures.back c.in-Some.ensures in
    let at = c.loop-n.at + c.in_ok-n.n in
    (behind.utf8, first_all c.in-Some.c c.in-Some.after.now (drop c.in_ok-n.n c.loop-n.rest.now) (rest_all c.loop-n.rest.now c.in_ok-n.n c.loop-n.invariant.1 c.in_ok-n.ensures.moves.boundary) behind, reached_first lim c.args.place old text at (at + (length c.split_at.result.1.now - length c.in-Some.after.now)) now (scan_state c.judge.new.m) c.in-Some.c (drop c.in_ok-n.n c.loop-n.rest.now) c.in-Some.after.now r behind c.in_ok-judge-in-Some.ensures (ap (λ (l : List ℕ). at + (length l - length c.in-Some.after.now)) c.split_at.ensures.back))

pub returns-in-None-clause-judged : goal.returns-in-None-clause-judged
returns-in-None-clause-judged c =
    let lim = c.args.limits in
    let old = scan_state c.args.m.now in
    let text = c.args.text.now in
    let now = scan_state c.read_front.new.m in
    let r = reached_moves lim c.args.place old text c.loop-n.at (scan_state c.loop-n.m) now c.loop-n.rest.now c.in_ok-n.n c.loop-n.invariant.2 c.in_ok-n.ensures.moves in
    reached_all lim c.args.place old text (c.loop-n.at + c.in_ok-n.n) now (drop c.in_ok-n.n c.loop-n.rest.now) r (sym c.split_at.ensures.back ∙ c.in-None.ensures)

pub returns-in_err-n-clause-judged : goal.returns-in_err-n-clause-judged
returns-in_err-n-clause-judged c =
    let p = err_from_is_err_and c.from_residual.result c.from_residual.ensures.1 in
    rw (p.1, p.2) (reached_stops c.args.limits c.args.place (scan_state c.args.m.now) c.args.text.now c.loop-n.at (scan_state c.loop-n.m) c.loop-n.rest.now (scan_state c.read_front.new.m) c.loop-n.invariant.2 c.in_err-n.ensures.tokens)
