use Rattle.std.proofs.Common.{◌≡◌, ◌∙◌, ◌≤◌, ◌++◌, ℕ, List, false, true, [], ◌∷◌, None, length, take, rules, refl, sym, ap, subst, arith}
use Rattle.std.specs.Prelude.{is_err}
use Rattle.std.specs.declared.result.Result.TheVariants.{Err, Ok}
use Rattle.std.proofs.lemmas.List.{append-nil, length-append, length-take-le}
use Rattle.gcx_io.specs.Views.{ShelfView}
use Rattle.gcx_io.specs.Writing.{joined}
use Rattle.gcx_io.proofs.Written.{joined_push}
use Rattle.gcx_model.specs.declared.plan.Plan.{Plan}
use Rattle.run_words.proofs.Sourcing.{on_clean, on_piece}
use Rattle.run_words.specs.Ends.{AtEnd, LastPiece}
use Rattle.run_words.specs.Stops.{EndAnswered, More}
use Rattle.doc_reader.specs.Standing.{Answers}
use Rattle.engine.specs.Engine.{OnAnswer}
use Rattle.engine.specs.declared.report.Ended.TheVariants as ended
use Rattle.engine.proofs.CallsOfTurns.{err_not_ok, err_of, ok_none, ok_of}
use Rattle.many_run.specs.Each.{OfEach}
use Rattle.many_run.specs.Many.{ManyKept, ManyLost, ManyStand}
use Rattle.many_run.specs.Runs.{MayWrite, RanMany}
use Rattle.many_run.proofs.Resting.{gave_end, gave_fault, gave_more, read_rest, read_sink, rest_on, rest_wider}
use Rattle.many_run.proofs.RunOn.{call_ends, call_goes, end_lasts, fresh_now, gave_now, read_fails, stand_now, write_fails}
use Rattle.many_run.proofs.Turns.{called_same, may_go, may_later, plans_of_same, written_same}
use Rattle.many_run.proofs.Writing.{apart_on, goes_written, only_bytes}
use Rattle.many_run.proofs.running.turn.Goals as goal

pub returns-then-is_err-clause-goes : goal.returns-then-is_err-clause-goes
returns-then-is_err-clause-goes g c = λ lim begun h.
    let failed : is_err c.write_waiting.result ≡ true = cc in
    let e = c.args.many.now in
    let d = c.write_waiting.new.many in
    let only = c.write_waiting.ensures.only in
    subst (λ (z : List Plan). RanMany z lim ended.WriteFault d.bytes c.args.doc c.args.outs.now begun (g.F.Shelf.seen c.write_waiting.new.files)) (sym (plans_of_same e d (written_same e d only)))
    (write_fails g.C.Conds.stands lim c.args.doc c.args.outs.now e d begun (g.F.Shelf.seen c.args.files.now) (g.F.Shelf.seen c.write_waiting.new.files) c.requires.may h only c.write_waiting.ensures.others c.write_waiting.ensures.reads
    (err_of c.write_waiting.result failed c.write_waiting.ensures.stops))

pub returns-then-is_err-clause-may : goal.returns-then-is_err-clause-may
returns-then-is_err-clause-may g c =
    may_later (λ k. ⊥) c.args.many.now c.write_waiting.new.many (g.F.Shelf.seen c.args.files.now) (g.F.Shelf.seen c.write_waiting.new.files) c.args.doc c.args.outs.now c.requires.may
    (written_same c.args.many.now c.write_waiting.new.many c.write_waiting.ensures.only) c.write_waiting.ensures.others

pub returns-then-is_err-clause-plans : goal.returns-then-is_err-clause-plans
returns-then-is_err-clause-plans g c = plans_of_same c.args.many.now c.write_waiting.new.many (written_same c.args.many.now c.write_waiting.new.many c.write_waiting.ensures.only)

pub read-requires-clause-given : goal.read-requires-clause-given
read-requires-clause-given g c =
    let b = c.write_waiting.new.files in
    let count : length (g.F.Shelf.seen b).given ≡ g.F.Shelf.handles b = ap (λ (v : ShelfView). length v.given) (g.met.F.Shelf.sees b) ∙ g.met.F.Shelf.counts b in
    let same = c.write_waiting.ensures.others.count in
    let few = c.requires.may.apart.doc_given in
    omega (arith, count, same, few)

pub returns-in_default-clause-goes : goal.returns-in_default-clause-goes
returns-in_default-clause-goes g c = λ lim begun h.
    let failed : is_err c.write_waiting.result ≡ false = cc in
    let e = c.args.many.now in
    let d = c.write_waiting.new.many in
    let s = g.F.Shelf.seen c.args.files.now in
    let k = g.F.Shelf.seen c.write_waiting.new.files in
    let r = g.F.Shelf.seen c.read.new.self in
    let only = c.write_waiting.ensures.only in
    let once = c.in_default.ensures.reads in
    let rest = c.write_waiting.ensures.others in
    let still = c.write_waiting.ensures.reads in
    subst (λ (z : List Plan). RanMany z lim ended.ReadFault d.bytes c.args.doc c.args.outs.now begun r) (sym (plans_of_same e d (written_same e d only)))
    (read_fails g.C.Conds.stands lim c.args.doc c.args.outs.now e d begun s k c.requires.may h only rest still (ok_of c.write_waiting.result failed c.write_waiting.ensures.wrote) r
    (λ o other. read_sink c.args.doc.0 k r _ _ once o other) (read_rest c.args.doc.0 k r _ _ once c.args.outs.now) once.write_faults
    (gave_fault c.args.doc.0 begun k r h.pieces (gave_now g.C.Conds.stands lim c.args.doc c.args.outs.now e d begun s k c.requires.may h only rest still) _ _ once))

pub returns-in_default-clause-may : goal.returns-in_default-clause-may
returns-in_default-clause-may g c =
    let k = g.F.Shelf.seen c.write_waiting.new.files in
    let r = g.F.Shelf.seen c.read.new.self in
    let outs = c.args.outs.now in
    may_later (λ n. n ≡ c.args.doc.0) c.args.many.now c.write_waiting.new.many (g.F.Shelf.seen c.args.files.now) r c.args.doc outs c.requires.may (written_same c.args.many.now c.write_waiting.new.many c.write_waiting.ensures.only)
    (rest_on outs (λ n. n ≡ c.args.doc.0) (g.F.Shelf.seen c.args.files.now) k r
    (rest_wider outs (λ n. ⊥) (λ n. n ≡ c.args.doc.0) (g.F.Shelf.seen c.args.files.now) k (λ n no. absurd no) c.write_waiting.ensures.others)
    (read_rest c.args.doc.0 k r _ _ c.in_default.ensures.reads outs))

pub returns-in_default-clause-plans : goal.returns-in_default-clause-plans
returns-in_default-clause-plans g c = plans_of_same c.args.many.now c.write_waiting.new.many (written_same c.args.many.now c.write_waiting.new.many c.write_waiting.ensures.only)

pub finish-answer-requires : goal.finish-answer-requires
finish-answer-requires g c =
    let q = c.requires.stands in
    let w = goes_written g.C.Conds.stands q.0 c.args.many.now c.write_waiting.new.many c.write_waiting.ensures.only q.1 in
    (false, may_go g.C.Conds.stands q.0 c.write_waiting.new.many w.read false w.of w.fresh)

pub end_with-requires : goal.end_with-requires
end_with-requires g c =
    let q = c.requires.stands in
    let e = c.args.many.now in
    let d = c.write_waiting.new.many in
    let outs = c.args.outs.now in
    let s = g.F.Shelf.seen c.args.files.now in
    let k = g.F.Shelf.seen c.write_waiting.new.files in
    let r = g.F.Shelf.seen c.read.new.self in
    let only = c.write_waiting.ensures.only in
    let w = goes_written g.C.Conds.stands q.0 e d only q.1 in
    let f = c.finish-answer.new.self in
    let first = may_later (λ n. ⊥) e d s k c.args.doc outs c.requires.may (written_same e d only) c.write_waiting.ensures.others in
    let same = called_same g.C.Conds.stands q.0 d f w.read false w.read true c.finish-answer.result (c.finish-answer.ensures.ended q.0 w.read false w.of w.fresh) in
    let then : MayWrite f r c.args.doc outs = may_later (λ n. n ≡ c.args.doc.0) d f k r c.args.doc outs first same (read_rest c.args.doc.0 k r _ _ c.in-Ok.ensures.reads outs) in
    (c.args.doc, then)

pub end_with-requires-in-Err : goal.end_with-requires-in-Err
end_with-requires-in-Err g c =
    let q = c.requires.stands in
    let e = c.args.many.now in
    let d = c.write_waiting.new.many in
    let outs = c.args.outs.now in
    let s = g.F.Shelf.seen c.args.files.now in
    let k = g.F.Shelf.seen c.write_waiting.new.files in
    let r = g.F.Shelf.seen c.read.new.self in
    let only = c.write_waiting.ensures.only in
    let w = goes_written g.C.Conds.stands q.0 e d only q.1 in
    let f = c.feed.new.self in
    let piece = take c.in-Ok.n c.read.new.buf in
    let first = may_later (λ n. ⊥) e d s k c.args.doc outs c.requires.may (written_same e d only) c.write_waiting.ensures.others in
    let same = called_same g.C.Conds.stands q.0 d f w.read false (w.read ++ piece) false (Err c.in-Err.fault) (c.in-Err.ensures.fed q.0 w.read w.of w.fresh) in
    let then : MayWrite f r c.args.doc outs = may_later (λ n. n ≡ c.args.doc.0) d f k r c.args.doc outs first same (read_rest c.args.doc.0 k r _ _ c.in-Ok.ensures.reads outs) in
    (c.args.doc, then)

pub feed-requires : goal.feed-requires
feed-requires g c =
    let q = c.requires.stands in
    let e = c.args.many.now in
    let d = c.write_waiting.new.many in
    let outs = c.args.outs.now in
    let s = g.F.Shelf.seen c.args.files.now in
    let k = g.F.Shelf.seen c.write_waiting.new.files in
    let r = g.F.Shelf.seen c.read.new.self in
    let only = c.write_waiting.ensures.only in
    let w = goes_written g.C.Conds.stands q.0 e d only q.1 in
    may_go g.C.Conds.stands q.0 d w.read false w.of w.fresh

pub returns-then-n-eq0-clause-may : goal.returns-then-n-eq0-clause-may
returns-then-n-eq0-clause-may g c =
    let q = c.requires.stands in
    let e = c.args.many.now in
    let d = c.write_waiting.new.many in
    let outs = c.args.outs.now in
    let s = g.F.Shelf.seen c.args.files.now in
    let k = g.F.Shelf.seen c.write_waiting.new.files in
    let r = g.F.Shelf.seen c.read.new.self in
    let only = c.write_waiting.ensures.only in
    let w = goes_written g.C.Conds.stands q.0 e d only q.1 in
    let f = c.finish-answer.new.self in
    let first = may_later (λ n. ⊥) e d s k c.args.doc outs c.requires.may (written_same e d only) c.write_waiting.ensures.others in
    let same = called_same g.C.Conds.stands q.0 d f w.read false w.read true c.finish-answer.result (c.finish-answer.ensures.ended q.0 w.read false w.of w.fresh) in
    let then : MayWrite f r c.args.doc outs = may_later (λ n. n ≡ c.args.doc.0) d f k r c.args.doc outs first same (read_rest c.args.doc.0 k r _ _ c.in-Ok.ensures.reads outs) in
    may_later (λ n. ⊥) f c.end_with.new.many r (g.F.Shelf.seen c.end_with.new.files) c.args.doc outs then (written_same f c.end_with.new.many c.end_with.ensures.only) c.end_with.ensures.others

pub returns-then-n-eq0-clause-plans : goal.returns-then-n-eq0-clause-plans
returns-then-n-eq0-clause-plans g c =
    let q = c.requires.stands in
    let e = c.args.many.now in
    let d = c.write_waiting.new.many in
    let outs = c.args.outs.now in
    let s = g.F.Shelf.seen c.args.files.now in
    let k = g.F.Shelf.seen c.write_waiting.new.files in
    let r = g.F.Shelf.seen c.read.new.self in
    let only = c.write_waiting.ensures.only in
    let w = goes_written g.C.Conds.stands q.0 e d only q.1 in
    let f = c.finish-answer.new.self in
    let first = may_later (λ n. ⊥) e d s k c.args.doc outs c.requires.may (written_same e d only) c.write_waiting.ensures.others in
    let same = called_same g.C.Conds.stands q.0 d f w.read false w.read true c.finish-answer.result (c.finish-answer.ensures.ended q.0 w.read false w.of w.fresh) in
    let then : MayWrite f r c.args.doc outs = may_later (λ n. n ≡ c.args.doc.0) d f k r c.args.doc outs first same (read_rest c.args.doc.0 k r _ _ c.in-Ok.ensures.reads outs) in
    plans_of_same f c.end_with.new.many (written_same f c.end_with.new.many c.end_with.ensures.only) ∙ (plans_of_same d f same ∙ plans_of_same e d (written_same e d only))

pub returns-in-Err-clause-may : goal.returns-in-Err-clause-may
returns-in-Err-clause-may g c =
    let q = c.requires.stands in
    let e = c.args.many.now in
    let d = c.write_waiting.new.many in
    let outs = c.args.outs.now in
    let s = g.F.Shelf.seen c.args.files.now in
    let k = g.F.Shelf.seen c.write_waiting.new.files in
    let r = g.F.Shelf.seen c.read.new.self in
    let only = c.write_waiting.ensures.only in
    let w = goes_written g.C.Conds.stands q.0 e d only q.1 in
    let f = c.feed.new.self in
    let piece = take c.in-Ok.n c.read.new.buf in
    let first = may_later (λ n. ⊥) e d s k c.args.doc outs c.requires.may (written_same e d only) c.write_waiting.ensures.others in
    let same = called_same g.C.Conds.stands q.0 d f w.read false (w.read ++ piece) false (Err c.in-Err.fault) (c.in-Err.ensures.fed q.0 w.read w.of w.fresh) in
    let then : MayWrite f r c.args.doc outs = may_later (λ n. n ≡ c.args.doc.0) d f k r c.args.doc outs first same (read_rest c.args.doc.0 k r _ _ c.in-Ok.ensures.reads outs) in
    may_later (λ n. ⊥) f c.end_with-in-Err.new.many r (g.F.Shelf.seen c.end_with-in-Err.new.files) c.args.doc outs then (written_same f c.end_with-in-Err.new.many c.end_with-in-Err.ensures.only) c.end_with-in-Err.ensures.others

pub returns-in-Err-clause-plans : goal.returns-in-Err-clause-plans
returns-in-Err-clause-plans g c =
    let q = c.requires.stands in
    let e = c.args.many.now in
    let d = c.write_waiting.new.many in
    let outs = c.args.outs.now in
    let s = g.F.Shelf.seen c.args.files.now in
    let k = g.F.Shelf.seen c.write_waiting.new.files in
    let r = g.F.Shelf.seen c.read.new.self in
    let only = c.write_waiting.ensures.only in
    let w = goes_written g.C.Conds.stands q.0 e d only q.1 in
    let f = c.feed.new.self in
    let piece = take c.in-Ok.n c.read.new.buf in
    let first = may_later (λ n. ⊥) e d s k c.args.doc outs c.requires.may (written_same e d only) c.write_waiting.ensures.others in
    let same = called_same g.C.Conds.stands q.0 d f w.read false (w.read ++ piece) false (Err c.in-Err.fault) (c.in-Err.ensures.fed q.0 w.read w.of w.fresh) in
    let then : MayWrite f r c.args.doc outs = may_later (λ n. n ≡ c.args.doc.0) d f k r c.args.doc outs first same (read_rest c.args.doc.0 k r _ _ c.in-Ok.ensures.reads outs) in
    plans_of_same f c.end_with-in-Err.new.many (written_same f c.end_with-in-Err.new.many c.end_with-in-Err.ensures.only) ∙ (plans_of_same d f same ∙ plans_of_same e d (written_same e d only))

pub returns-in-Ok-feed-clause-may : goal.returns-in-Ok-feed-clause-may
returns-in-Ok-feed-clause-may g c =
    let q = c.requires.stands in
    let e = c.args.many.now in
    let d = c.write_waiting.new.many in
    let outs = c.args.outs.now in
    let s = g.F.Shelf.seen c.args.files.now in
    let k = g.F.Shelf.seen c.write_waiting.new.files in
    let r = g.F.Shelf.seen c.read.new.self in
    let only = c.write_waiting.ensures.only in
    let w = goes_written g.C.Conds.stands q.0 e d only q.1 in
    let f = c.feed.new.self in
    let piece = take c.in-Ok.n c.read.new.buf in
    let first = may_later (λ n. ⊥) e d s k c.args.doc outs c.requires.may (written_same e d only) c.write_waiting.ensures.others in
    let same = called_same g.C.Conds.stands q.0 d f w.read false (w.read ++ piece) false (Ok tt) (c.in-Ok-feed.ensures.fed q.0 w.read w.of w.fresh) in
    let then : MayWrite f r c.args.doc outs = may_later (λ n. n ≡ c.args.doc.0) d f k r c.args.doc outs first same (read_rest c.args.doc.0 k r _ _ c.in-Ok.ensures.reads outs) in
    then

pub returns-in-Ok-feed-clause-plans : goal.returns-in-Ok-feed-clause-plans
returns-in-Ok-feed-clause-plans g c =
    let q = c.requires.stands in
    let e = c.args.many.now in
    let d = c.write_waiting.new.many in
    let outs = c.args.outs.now in
    let s = g.F.Shelf.seen c.args.files.now in
    let k = g.F.Shelf.seen c.write_waiting.new.files in
    let r = g.F.Shelf.seen c.read.new.self in
    let only = c.write_waiting.ensures.only in
    let w = goes_written g.C.Conds.stands q.0 e d only q.1 in
    let f = c.feed.new.self in
    let piece = take c.in-Ok.n c.read.new.buf in
    let first = may_later (λ n. ⊥) e d s k c.args.doc outs c.requires.may (written_same e d only) c.write_waiting.ensures.others in
    let same = called_same g.C.Conds.stands q.0 d f w.read false (w.read ++ piece) false (Ok tt) (c.in-Ok-feed.ensures.fed q.0 w.read w.of w.fresh) in
    let then : MayWrite f r c.args.doc outs = may_later (λ n. n ≡ c.args.doc.0) d f k r c.args.doc outs first same (read_rest c.args.doc.0 k r _ _ c.in-Ok.ensures.reads outs) in
    plans_of_same d f same ∙ plans_of_same e d (written_same e d only)

pub returns-in-Ok-feed-clause-stands : goal.returns-in-Ok-feed-clause-stands
returns-in-Ok-feed-clause-stands g c = λ goes lim s.
    let d = c.write_waiting.new.many in
    let f = c.feed.new.self in
    let w = goes_written g.C.Conds.stands lim c.args.many.now d c.write_waiting.ensures.only s in
    let piece = take c.in-Ok.n c.read.new.buf in
    record {
      read = w.read ++ piece;
      of = (c.in-Ok-feed.ensures.fed lim w.read w.of w.fresh).of;
      fresh = ok_none f.refused c.in-Ok-feed.ensures.answer;
    }

pub returns-in-Ok-feed-clause-fewer : goal.returns-in-Ok-feed-clause-fewer
returns-in-Ok-feed-clause-fewer g c = λ goes.
    let q = c.requires.stands in
    let e = c.args.many.now in
    let d = c.write_waiting.new.many in
    let w = goes_written g.C.Conds.stands q.0 e d c.write_waiting.ensures.only q.1 in
    let piece = take c.in-Ok.n c.read.new.buf in
    let some : 1 ≤ c.in-Ok.n = omega arith in
    let fits : c.in-Ok.n ≤ length c.read.new.buf = search rules in
    let n = length-take-le c.in-Ok.n c.read.new.buf fits in
    let more = c.feed.ensures.bytes w.fresh in
    let same = only_bytes e d c.write_waiting.ensures.only in
    omega (arith, n, more, same, some)

pub returns-then-n-eq0-clause-goes : goal.returns-then-n-eq0-clause-goes
returns-then-n-eq0-clause-goes g c = λ lim begun h.
    let failed : is_err c.write_waiting.result ≡ false = cc in
    let e = c.args.many.now in
    let d = c.write_waiting.new.many in
    let outs = c.args.outs.now in
    let doc = c.args.doc in
    let s = g.F.Shelf.seen c.args.files.now in
    let k = g.F.Shelf.seen c.write_waiting.new.files in
    let r = g.F.Shelf.seen c.read.new.self in
    let b = joined h.pieces in
    let only = c.write_waiting.ensures.only in
    let rest = c.write_waiting.ensures.others in
    let still = c.write_waiting.ensures.reads in
    let wrote = ok_of c.write_waiting.result failed c.write_waiting.ensures.wrote in
    let empty : OfEach (λ p. p.out ≡ []) d.parts = ok_of c.write_waiting.result failed c.write_waiting.ensures.empty in
    let stand : ManyStand g.C.Conds.stands lim d b false = stand_now g.C.Conds.stands lim doc outs e d begun s k c.requires.may h only rest still in
    let fresh : d.refused ≡ None = fresh_now g.C.Conds.stands lim doc outs e d begun s k c.requires.may h only rest still in
    let once = c.in-Ok.ensures.reads in
    let gave = gave_now g.C.Conds.stands lim doc outs e d begun s k c.requires.may h only rest still in
    let apart = apart_on (λ n. n ≡ doc.0) k r doc outs (read_rest doc.0 k r _ _ once outs) (apart_on (λ n. ⊥) s k doc outs rest c.requires.may.apart) in
    let f = c.finish-answer.new.self in
    let u = c.end_with.new.many in
    let z = g.F.Shelf.seen c.end_with.new.files in
    let res = c.finish-answer.result in
    let n : b ≡ b ++ [] = sym (append-nil b) in
    let size : length c.read.new.buf ≡ 65536 = search rules in
    let call : OnAnswer res (ManyLost lim d f b false b true) (ManyKept g.C.Conds.stands lim d f b false b true) = c.finish-answer.ensures.ended lim b false stand fresh in
    let plans = plans_of_same f u (written_same f u c.end_with.ensures.only) ∙ (plans_of_same d f (called_same g.C.Conds.stands lim d f b false b true res call) ∙ plans_of_same e d (written_same e d only)) in
    subst (λ (y : List Plan). RanMany y lim c.end_with.result u.bytes doc outs begun z) (sym plans)
    (call_ends g.C.Conds.stands lim doc outs e d begun s k c.requires.may h only rest still wrote r (λ o other. read_sink doc.0 k r _ _ once o other) (read_rest doc.0 k r _ _ once outs) once.write_faults empty
    z f u [] h.pieces EndAnswered res c.end_with.result tt (gave_end doc.0 begun k r h.pieces gave _ _ once c.if-n-eq0.true size) (on_clean lim h.pieces EndAnswered h.clean) n (λ S text is. AtEnd refl is)
    (subst (λ (y : List ℕ). OnAnswer res (ManyLost lim d f b false y true) (ManyKept g.C.Conds.stands lim d f b false y true)) n call)
    (subst (λ (y : List ℕ). Answers res lim y true) n (c.finish-answer.ensures.exact lim b false stand fresh)) (λ ok. refl) c.end_with.ensures.only
    (c.finish-answer.ensures.bytes ∙ (stand.bytes ∙ ap length n)) c.end_with.ensures.ends c.end_with.ensures.others c.end_with.ensures.reads apart)

pub returns-in-Ok-feed-clause-goes : goal.returns-in-Ok-feed-clause-goes
returns-in-Ok-feed-clause-goes g c = λ lim begun h.
    let failed : is_err c.write_waiting.result ≡ false = cc in
    let e = c.args.many.now in
    let d = c.write_waiting.new.many in
    let outs = c.args.outs.now in
    let doc = c.args.doc in
    let s = g.F.Shelf.seen c.args.files.now in
    let k = g.F.Shelf.seen c.write_waiting.new.files in
    let r = g.F.Shelf.seen c.read.new.self in
    let b = joined h.pieces in
    let only = c.write_waiting.ensures.only in
    let rest = c.write_waiting.ensures.others in
    let still = c.write_waiting.ensures.reads in
    let wrote = ok_of c.write_waiting.result failed c.write_waiting.ensures.wrote in
    let empty : OfEach (λ p. p.out ≡ []) d.parts = ok_of c.write_waiting.result failed c.write_waiting.ensures.empty in
    let stand : ManyStand g.C.Conds.stands lim d b false = stand_now g.C.Conds.stands lim doc outs e d begun s k c.requires.may h only rest still in
    let fresh : d.refused ≡ None = fresh_now g.C.Conds.stands lim doc outs e d begun s k c.requires.may h only rest still in
    let once = c.in-Ok.ensures.reads in
    let gave = gave_now g.C.Conds.stands lim doc outs e d begun s k c.requires.may h only rest still in
    let apart = apart_on (λ n. n ≡ doc.0) k r doc outs (read_rest doc.0 k r _ _ once outs) (apart_on (λ n. ⊥) s k doc outs rest c.requires.may.apart) in
    let f = c.feed.new.self in
    let piece = take c.in-Ok.n c.read.new.buf in
    let some : 1 ≤ c.in-Ok.n = omega arith in
    let fits : c.in-Ok.n ≤ length c.read.new.buf = search rules in
    let short : length piece ≤ 65536 = search rules in
    let size : length c.read.new.buf ≡ 65536 = search rules in
    let none : f.refused ≡ None = ok_none f.refused c.in-Ok-feed.ensures.answer in
    call_goes g.C.Conds.stands lim doc outs e d begun s k c.requires.may h only rest still wrote r (λ o other. read_sink doc.0 k r _ _ once o other) (read_rest doc.0 k r _ _ once outs) once.write_faults empty
    f piece (gave_more doc.0 begun k r h.pieces gave _ _ once some fits size) short none (c.in-Ok-feed.ensures.fed lim b stand fresh)

pub returns-in-Err-clause-goes : goal.returns-in-Err-clause-goes
returns-in-Err-clause-goes g c = λ lim begun h.
    let failed : is_err c.write_waiting.result ≡ false = cc in
    let e = c.args.many.now in
    let d = c.write_waiting.new.many in
    let outs = c.args.outs.now in
    let doc = c.args.doc in
    let s = g.F.Shelf.seen c.args.files.now in
    let k = g.F.Shelf.seen c.write_waiting.new.files in
    let r = g.F.Shelf.seen c.read.new.self in
    let b = joined h.pieces in
    let only = c.write_waiting.ensures.only in
    let rest = c.write_waiting.ensures.others in
    let still = c.write_waiting.ensures.reads in
    let wrote = ok_of c.write_waiting.result failed c.write_waiting.ensures.wrote in
    let empty : OfEach (λ p. p.out ≡ []) d.parts = ok_of c.write_waiting.result failed c.write_waiting.ensures.empty in
    let stand : ManyStand g.C.Conds.stands lim d b false = stand_now g.C.Conds.stands lim doc outs e d begun s k c.requires.may h only rest still in
    let fresh : d.refused ≡ None = fresh_now g.C.Conds.stands lim doc outs e d begun s k c.requires.may h only rest still in
    let once = c.in-Ok.ensures.reads in
    let gave = gave_now g.C.Conds.stands lim doc outs e d begun s k c.requires.may h only rest still in
    let apart = apart_on (λ n. n ≡ doc.0) k r doc outs (read_rest doc.0 k r _ _ once outs) (apart_on (λ n. ⊥) s k doc outs rest c.requires.may.apart) in
    let f = c.feed.new.self in
    let u = c.end_with-in-Err.new.many in
    let z = g.F.Shelf.seen c.end_with-in-Err.new.files in
    let res = Err c.in-Err.fault in
    let piece = take c.in-Ok.n c.read.new.buf in
    let some : 1 ≤ c.in-Ok.n = omega arith in
    let fits : c.in-Ok.n ≤ length c.read.new.buf = search rules in
    let short : length piece ≤ 65536 = search rules in
    let size : length c.read.new.buf ≡ 65536 = search rules in
    let bytes : f.bytes ≡ length (b ++ piece) = let n = c.feed.ensures.bytes fresh in let y = stand.bytes in let l = length-append b piece in omega arith in
    let call : OnAnswer res (ManyLost lim d f b false (b ++ piece) false) (ManyKept g.C.Conds.stands lim d f b false (b ++ piece) false) = c.in-Err.ensures.fed lim b stand fresh in
    let plans = plans_of_same f u (written_same f u c.end_with-in-Err.ensures.only) ∙ (plans_of_same d f (called_same g.C.Conds.stands lim d f b false (b ++ piece) false res call) ∙ plans_of_same e d (written_same e d only)) in
    subst (λ (y : List Plan). RanMany y lim c.end_with-in-Err.result u.bytes doc outs begun z) (sym plans)
    (call_ends g.C.Conds.stands lim doc outs e d begun s k c.requires.may h only rest still wrote r (λ o other. read_sink doc.0 k r _ _ once o other) (read_rest doc.0 k r _ _ once outs) once.write_faults empty
    z f u piece (h.pieces ++ piece ∷ []) More res c.end_with-in-Err.result tt (gave_more doc.0 begun k r h.pieces gave _ _ once some fits size) (on_piece lim h.pieces piece h.clean short) (joined_push h.pieces piece)
    (λ S text is. LastPiece h.pieces piece refl refl is) call (c.in-Err.ensures.exact lim b stand fresh) (λ ok. absurd (err_not_ok c.in-Err.fault res refl ok)) c.end_with-in-Err.ensures.only
    bytes c.end_with-in-Err.ensures.ends c.end_with-in-Err.ensures.others c.end_with-in-Err.ensures.reads apart)

pub returns-then-n-eq0-clause-memory : goal.returns-then-n-eq0-clause-memory
returns-then-n-eq0-clause-memory g c = λ f is lacks.
    let end : c.end_with.result ≡ ended.Refused f = cc in
    end_lasts c.finish-answer.result c.end_with.result c.finish-answer.new.self c.args.outs.now (g.F.Shelf.seen c.read.new.self) (g.F.Shelf.seen c.end_with.new.files) c.end_with.ensures.ends f end lacks

pub returns-in-Err-clause-memory : goal.returns-in-Err-clause-memory
returns-in-Err-clause-memory g c = λ f is lacks.
    let end : c.end_with-in-Err.result ≡ ended.Refused f = cc in
    end_lasts (Err c.in-Err.fault) c.end_with-in-Err.result c.feed.new.self c.args.outs.now (g.F.Shelf.seen c.read.new.self) (g.F.Shelf.seen c.end_with-in-Err.new.files) c.end_with-in-Err.ensures.ends f end lacks
