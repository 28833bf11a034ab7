use Rattle.std.proofs.Common.{◌≡◌, ◌≤◌, ◌++◌, ℕ, List, true, false, [], ◌∷◌, None, length, take, rules, refl, sym, ◌∙◌, ap, subst, arith}
use Rattle.std.specs.Prelude.{is_err}
use Rattle.std.specs.declared.result.Result.TheVariants.{Err}
use Rattle.std.proofs.lemmas.List.{append-nil, length-append}
use Rattle.gcx_io.specs.Writing.{joined}
use Rattle.gcx_io.proofs.Written.{joined_push}
use Rattle.gcx_model.specs.PlanView.{plan_tree}
use Rattle.run_words.proofs.Sourcing.{on_clean, on_piece, source_end, source_fault, source_more}
use Rattle.run_words.specs.Ends.{AtEnd, LastPiece}
use Rattle.run_words.specs.Stops.{More, EndAnswered}
use Rattle.doc_reader.specs.Standing.{Answers}
use Rattle.engine.specs.declared.report.Ended.TheVariants as ended
use Rattle.engine.specs.Engine.{IsSilent, Kept, Lost, OnAnswer, StandsOf, TraceGrewBy, TraceGrewWithin}
use Rattle.engine.specs.Runs.{TellsBy, is_traced, sinks}
use Rattle.engine.proofs.Answering.{ok_by}
use Rattle.engine.proofs.CallsOfTurns.{balance_written, err_not_ok, err_of, may_go, ok_none, ok_of, plan_called, plan_on, plan_written}
use Rattle.engine.proofs.Most.{most_ends, most_written}
use Rattle.engine.proofs.ReadingOn.{called_balance, stands_balance}
use Rattle.engine.proofs.Streaming.{goes_written}
use Rattle.engine.proofs.RunOn.{call_ends, call_goes, read_fails, stand_now, tells_on, tells_silent, tells_told, tells_written, write_fails}
use Rattle.engine.specs.Calls.{IsEmptied}
use Rattle.engine.proofs.running.turn.Goals as goal

pub returns-then-is_err-clause-goes : goal.returns-then-is_err-clause-goes
returns-then-is_err-clause-goes g c = λ lim t left before h.
    let failed : is_err c.write_waiting.result ≡ true = cc in
    write_fails g.C.Conds.stands lim t c.args.engine.now c.write_waiting.new.engine left (g.D.Source.seen c.args.doc.now) before _ _ h
    c.write_waiting.ensures.rest (err_of c.write_waiting.result failed c.write_waiting.ensures.stops)

pub returns-then-is_err-clause-balance : goal.returns-then-is_err-clause-balance
returns-then-is_err-clause-balance g c =
    let q = c.requires.stands in
    let w = goes_written g.C.Conds.stands q.0 c.args.engine.now c.write_waiting.new.engine c.write_waiting.ensures.rest q.1 in
    stands_balance g.C.Conds.stands q.0 c.write_waiting.new.engine w.read false w.of

pub returns-in_default-clause-goes : goal.returns-in_default-clause-goes
returns-in_default-clause-goes g c = λ lim t left before h.
    let failed : is_err c.write_waiting.result ≡ false = cc in
    read_fails g.C.Conds.stands lim t c.args.engine.now c.write_waiting.new.engine left (g.D.Source.seen c.args.doc.now) before _ _ h
    c.write_waiting.ensures.rest (ok_of c.write_waiting.result failed c.write_waiting.ensures.wrote)
    (λ isnt. ap g.E.Sink.seen (c.write_waiting.ensures.silent (tells_silent t _ h.tells isnt)).1)
    (g.D.Source.seen c.read.new.self) (source_fault _ _ _ h.pieces _ _ h.gave c.in_default.ensures.reads)

pub returns-in_default-clause-balance : goal.returns-in_default-clause-balance
returns-in_default-clause-balance g c =
    let q = c.requires.stands in
    let w = goes_written g.C.Conds.stands q.0 c.args.engine.now c.write_waiting.new.engine c.write_waiting.ensures.rest q.1 in
    stands_balance g.C.Conds.stands q.0 c.write_waiting.new.engine w.read false w.of

pub finish-answer-requires : goal.finish-answer-requires
finish-answer-requires g c =
    let q = c.requires.stands in
    let w = goes_written g.C.Conds.stands q.0 c.args.engine.now c.write_waiting.new.engine c.write_waiting.ensures.rest q.1 in
    (false, may_go g.C.Conds.stands q.0 c.write_waiting.new.engine w.read false w.of w.fresh)

pub returns-then-n-eq0-clause-goes : goal.returns-then-n-eq0-clause-goes
returns-then-n-eq0-clause-goes g c = λ lim t left before h.
    let failed : is_err c.write_waiting.result ≡ false = cc in
    let e = c.args.engine.now in
    let d = c.write_waiting.new.engine in
    let f = c.finish-answer.new.self in
    let r = c.finish-answer.result in
    let b = joined h.pieces in
    let rest = c.write_waiting.ensures.rest in
    let wrote = ok_of c.write_waiting.result failed c.write_waiting.ensures.wrote in
    let empty : (d.out ≡ []) × (d.trace ≡ []) = ok_of c.write_waiting.result failed c.write_waiting.ensures.empty in
    let s : StandsOf g.C.Conds.stands lim d b false = stand_now g.C.Conds.stands lim t e d left _ before _ (sinks (g.O.Sink.seen c.write_waiting.new.out) (g.E.Sink.seen c.write_waiting.new.err)) h rest in
    let fresh : d.refused ≡ None = ap (λ z. z.refused) rest ∙ h.fresh in
    let tells : TellsBy t d = tells_written t e d h.tells rest (λ silent. (c.write_waiting.ensures.silent silent).0) in
    let n : b ≡ b ++ [] = sym (append-nil b) in
    let size : length c.read.new.buf ≡ 65536 = search rules in
    let silent : is_traced t ≡ false → IsSilent f = λ isnt. c.finish-answer.ensures.same.silent (tells_silent t d tells isnt) in
    call_ends g.C.Conds.stands lim t e d left _ before _ _ h rest wrote
    (λ isnt. ap g.E.Sink.seen (c.write_waiting.ensures.silent (tells_silent t e h.tells isnt)).1) empty
    (g.D.Source.seen c.read.new.self) _ f c.end_with.new.engine [] h.pieces EndAnswered r c.end_with.result tt
    (source_end _ _ _ h.pieces _ _ h.gave c.in-Ok.ensures.reads c.if-n-eq0.true size) (on_clean lim h.pieces EndAnswered h.clean) n
    (λ S text is. AtEnd refl is)
    (subst (λ (z : List ℕ). OnAnswer r (Lost lim d f b false z true) (Kept g.C.Conds.stands lim d f b false z true)) n (c.finish-answer.ensures.ended lim b false s fresh))
    (λ is. subst (λ (z : List ℕ). OnAnswer r (TraceGrewWithin (plan_tree d.plan) lim b false (b ++ []) true z f.trace) (TraceGrewBy (plan_tree d.plan) lim b false (b ++ []) true z f.trace)) empty.1
    (subst (λ (z : List ℕ). OnAnswer r (TraceGrewWithin (plan_tree d.plan) lim b false z true d.trace f.trace) (TraceGrewBy (plan_tree d.plan) lim b false z true d.trace f.trace)) n
    (c.finish-answer.ensures.traced lim b false s fresh (tells_told t d tells is))))
    (subst (λ (z : List ℕ). Answers r lim z true) n (c.finish-answer.ensures.exact lim b false s fresh)) (λ ok. refl) c.end_with.ensures.rest
    c.finish-answer.ensures.same.plan (c.finish-answer.ensures.bytes ∙ s.bytes ∙ ap length n) (λ isnt. (silent isnt).empty) c.end_with.ensures.ends
    (λ isnt. ap g.E.Sink.seen (c.end_with.ensures.silent (silent isnt)).1)

pub returns-then-n-eq0-clause-balance : goal.returns-then-n-eq0-clause-balance
returns-then-n-eq0-clause-balance g c =
    let q = c.requires.stands in
    let d = c.write_waiting.new.engine in
    let f = c.finish-answer.new.self in
    let w = goes_written g.C.Conds.stands q.0 c.args.engine.now c.write_waiting.new.engine c.write_waiting.ensures.rest q.1 in
    let b = w.read in
    balance_written g.C.Conds.stands q.0 f c.end_with.new.engine c.end_with.ensures.rest
    (called_balance g.C.Conds.stands q.0 d f b false b true c.finish-answer.result (c.finish-answer.ensures.ended q.0 b false w.of w.fresh))

pub returns-then-n-eq0-clause-balanced : goal.returns-then-n-eq0-clause-balanced
returns-then-n-eq0-clause-balanced g c = λ e.
    let f = c.finish-answer.new.self in
    let ends : c.end_with.result ≡ ended.Ok = cc in
    let b : IsEmptied f = ok_by c.finish-answer.result c.end_with.result _ _ _ _ (IsEmptied f) c.end_with.ensures.ends ends c.finish-answer.ensures.empty in
    subst (λ z. z.actors.counts.given ≡ z.actors.buffer.taken) (sym c.end_with.ensures.rest) b.balance

pub feed-requires : goal.feed-requires
feed-requires g c =
    let q = c.requires.stands in
    let w = goes_written g.C.Conds.stands q.0 c.args.engine.now c.write_waiting.new.engine c.write_waiting.ensures.rest q.1 in
    may_go g.C.Conds.stands q.0 c.write_waiting.new.engine w.read false w.of w.fresh

pub returns-in-Ok-feed-clause-goes : goal.returns-in-Ok-feed-clause-goes
returns-in-Ok-feed-clause-goes g c = λ lim t left before h.
    let failed : is_err c.write_waiting.result ≡ false = cc in
    let e = c.args.engine.now in
    let d = c.write_waiting.new.engine in
    let f = c.feed.new.self in
    let b = joined h.pieces in
    let piece = take c.in-Ok.n c.read.new.buf in
    let some : 1 ≤ c.in-Ok.n = omega arith in
    let fits : c.in-Ok.n ≤ length c.read.new.buf = search rules in
    let short : length piece ≤ 65536 = search rules in
    let size : length c.read.new.buf ≡ 65536 = search rules in
    let rest = c.write_waiting.ensures.rest in
    let wrote = ok_of c.write_waiting.result failed c.write_waiting.ensures.wrote in
    let empty : (d.out ≡ []) × (d.trace ≡ []) = ok_of c.write_waiting.result failed c.write_waiting.ensures.empty in
    let s : StandsOf g.C.Conds.stands lim d b false = stand_now g.C.Conds.stands lim t e d left _ before _ (sinks (g.O.Sink.seen c.write_waiting.new.out) (g.E.Sink.seen c.write_waiting.new.err)) h rest in
    let fresh : d.refused ≡ None = ap (λ z. z.refused) rest ∙ h.fresh in
    let tells : TellsBy t d = tells_written t e d h.tells rest (λ silent. (c.write_waiting.ensures.silent silent).0) in
    let none : f.refused ≡ None = ok_none f.refused c.in-Ok-feed.ensures.answer in
    call_goes g.C.Conds.stands lim t e d left _ before _ _ h rest wrote
    (λ isnt. ap g.E.Sink.seen (c.write_waiting.ensures.silent (tells_silent t e h.tells isnt)).1) empty
    (g.D.Source.seen c.read.new.self) f piece (source_more _ _ _ h.pieces _ _ h.gave c.in-Ok.ensures.reads some fits size) short c.feed.ensures.same.plan none
    (tells_on t d f tells c.feed.ensures.same.tracing c.feed.ensures.same.silent) (c.in-Ok-feed.ensures.fed lim b s fresh)
    (λ is. subst (λ (z : List ℕ). TraceGrewBy (plan_tree d.plan) lim b false (b ++ piece) false z f.trace) empty.1
    (c.in-Ok-feed.ensures.traced lim b s fresh (tells_told t d tells is)))

pub returns-in-Ok-feed-clause-balance : goal.returns-in-Ok-feed-clause-balance
returns-in-Ok-feed-clause-balance g c =
    let q = c.requires.stands in
    let d = c.write_waiting.new.engine in
    let f = c.feed.new.self in
    let w = goes_written g.C.Conds.stands q.0 c.args.engine.now c.write_waiting.new.engine c.write_waiting.ensures.rest q.1 in
    let b = w.read in
    let piece = take c.in-Ok.n c.read.new.buf in
    stands_balance g.C.Conds.stands q.0 f (b ++ piece) false (c.in-Ok-feed.ensures.fed q.0 b w.of w.fresh).of

pub returns-in-Err-clause-goes : goal.returns-in-Err-clause-goes
returns-in-Err-clause-goes g c = λ lim t left before h.
    let failed : is_err c.write_waiting.result ≡ false = cc in
    let e = c.args.engine.now in
    let d = c.write_waiting.new.engine in
    let f = c.feed.new.self in
    let b = joined h.pieces in
    let piece = take c.in-Ok.n c.read.new.buf in
    let some : 1 ≤ c.in-Ok.n = omega arith in
    let fits : c.in-Ok.n ≤ length c.read.new.buf = search rules in
    let short : length piece ≤ 65536 = search rules in
    let size : length c.read.new.buf ≡ 65536 = search rules in
    let rest = c.write_waiting.ensures.rest in
    let wrote = ok_of c.write_waiting.result failed c.write_waiting.ensures.wrote in
    let empty : (d.out ≡ []) × (d.trace ≡ []) = ok_of c.write_waiting.result failed c.write_waiting.ensures.empty in
    let s : StandsOf g.C.Conds.stands lim d b false = stand_now g.C.Conds.stands lim t e d left _ before _ (sinks (g.O.Sink.seen c.write_waiting.new.out) (g.E.Sink.seen c.write_waiting.new.err)) h rest in
    let fresh : d.refused ≡ None = ap (λ z. z.refused) rest ∙ h.fresh in
    let tells : TellsBy t d = tells_written t e d h.tells rest (λ silent. (c.write_waiting.ensures.silent silent).0) in
    let silent : is_traced t ≡ false → IsSilent f = λ isnt. c.feed.ensures.same.silent (tells_silent t d tells isnt) in
    let bytes : f.bytes ≡ length (b ++ piece) = let k = c.feed.ensures.bytes fresh in let y = s.bytes in let l = length-append b piece in omega arith in
    let r = Err c.in-Err.fault in
    call_ends g.C.Conds.stands lim t e d left _ before _ _ h rest wrote
    (λ isnt. ap g.E.Sink.seen (c.write_waiting.ensures.silent (tells_silent t e h.tells isnt)).1) empty
    (g.D.Source.seen c.read.new.self) _ f c.end_with-in-Err.new.engine piece (h.pieces ++ piece ∷ []) More r c.end_with-in-Err.result tt
    (source_more _ _ _ h.pieces _ _ h.gave c.in-Ok.ensures.reads some fits size) (on_piece lim h.pieces piece h.clean short) (joined_push h.pieces piece)
    (λ S text is. LastPiece h.pieces piece refl refl is)
    (c.in-Err.ensures.fed lim b s fresh)
    (λ is. subst (λ (z : List ℕ). OnAnswer r (TraceGrewWithin (plan_tree d.plan) lim b false (b ++ piece) false z f.trace) (TraceGrewBy (plan_tree d.plan) lim b false (b ++ piece) false z f.trace)) empty.1
    (c.in-Err.ensures.traced lim b s fresh (tells_told t d tells is)))
    (c.in-Err.ensures.exact lim b s fresh) (λ ok. absurd (err_not_ok c.in-Err.fault r refl ok)) c.end_with-in-Err.ensures.rest
    c.feed.ensures.same.plan bytes (λ isnt. (silent isnt).empty) c.end_with-in-Err.ensures.ends
    (λ isnt. ap g.E.Sink.seen (c.end_with-in-Err.ensures.silent (silent isnt)).1)

pub returns-in-Err-clause-balance : goal.returns-in-Err-clause-balance
returns-in-Err-clause-balance g c =
    let q = c.requires.stands in
    let d = c.write_waiting.new.engine in
    let f = c.feed.new.self in
    let w = goes_written g.C.Conds.stands q.0 c.args.engine.now c.write_waiting.new.engine c.write_waiting.ensures.rest q.1 in
    let b = w.read in
    let piece = take c.in-Ok.n c.read.new.buf in
    balance_written g.C.Conds.stands q.0 f c.end_with-in-Err.new.engine c.end_with-in-Err.ensures.rest
    (called_balance g.C.Conds.stands q.0 d f b false (b ++ piece) false (Err c.in-Err.fault) (c.in-Err.ensures.fed q.0 b w.of w.fresh))

pub returns-then-is_err-clause-most : goal.returns-then-is_err-clause-most
returns-then-is_err-clause-most g c = most_written c.args.engine.now c.write_waiting.new.engine c.write_waiting.ensures.rest

pub returns-in_default-clause-most : goal.returns-in_default-clause-most
returns-in_default-clause-most g c = most_written c.args.engine.now c.write_waiting.new.engine c.write_waiting.ensures.rest

pub returns-then-n-eq0-clause-most : goal.returns-then-n-eq0-clause-most
returns-then-n-eq0-clause-most g c = λ lent h.
    let q = c.requires.stands in
    let d = c.write_waiting.new.engine in
    let w = goes_written g.C.Conds.stands q.0 c.args.engine.now c.write_waiting.new.engine c.write_waiting.ensures.rest q.1 in
    let b = w.read in
    most_ends g.C.Conds.stands q.0 d c.finish-answer.new.self c.end_with.new.engine b false b true c.finish-answer.result c.end_with.result _ _ _ _
    c.end_with.ensures.ends (c.finish-answer.ensures.ended q.0 b false w.of w.fresh) c.end_with.ensures.rest lent
    (most_written c.args.engine.now d c.write_waiting.ensures.rest lent h)

pub returns-in-Ok-feed-clause-most : goal.returns-in-Ok-feed-clause-most
returns-in-Ok-feed-clause-most g c = λ lent h.
    let q = c.requires.stands in
    let d = c.write_waiting.new.engine in
    let w = goes_written g.C.Conds.stands q.0 c.args.engine.now c.write_waiting.new.engine c.write_waiting.ensures.rest q.1 in
    let b = w.read in
    (c.in-Ok-feed.ensures.fed q.0 b w.of w.fresh).most lent (most_written c.args.engine.now d c.write_waiting.ensures.rest lent h)

pub returns-in-Err-clause-most : goal.returns-in-Err-clause-most
returns-in-Err-clause-most g c = λ lent h.
    let q = c.requires.stands in
    let d = c.write_waiting.new.engine in
    let w = goes_written g.C.Conds.stands q.0 c.args.engine.now c.write_waiting.new.engine c.write_waiting.ensures.rest q.1 in
    let b = w.read in
    let piece = take c.in-Ok.n c.read.new.buf in
    most_ends g.C.Conds.stands q.0 d c.feed.new.self c.end_with-in-Err.new.engine b false (b ++ piece) false (Err c.in-Err.fault) c.end_with-in-Err.result _ _ _ _
    c.end_with-in-Err.ensures.ends (c.in-Err.ensures.fed q.0 b w.of w.fresh) c.end_with-in-Err.ensures.rest lent
    (most_written c.args.engine.now d c.write_waiting.ensures.rest lent h)

pub returns-in-Ok-feed-clause-stands : goal.returns-in-Ok-feed-clause-stands
returns-in-Ok-feed-clause-stands g c = λ goes lim s.
    let d = c.write_waiting.new.engine in
    let f = c.feed.new.self in
    let w = goes_written g.C.Conds.stands lim c.args.engine.now d c.write_waiting.ensures.rest s in
    let piece = take c.in-Ok.n c.read.new.buf in
    record {
      read = w.read ++ piece;
      of = (c.in-Ok-feed.ensures.fed lim w.read w.of w.fresh).of;
      fresh = ok_none f.refused c.in-Ok-feed.ensures.answer;
    }

pub returns-then-is_err-clause-same : goal.returns-then-is_err-clause-same
returns-then-is_err-clause-same g c = plan_written c.args.engine.now c.write_waiting.new.engine c.write_waiting.ensures.rest

pub returns-then-is_err-clause-ports : goal.returns-then-is_err-clause-ports
returns-then-is_err-clause-ports g c = record {
  kept = g.met.D.Source.keeps_same c.args.doc.now;
  read_count = omega arith;
  write_count = let w = c.write_waiting.ensures.write_count in omega arith;
  trace_count = let w = c.write_waiting.ensures.trace_count in omega arith;
}

pub returns-in_default-clause-same : goal.returns-in_default-clause-same
returns-in_default-clause-same g c = plan_written c.args.engine.now c.write_waiting.new.engine c.write_waiting.ensures.rest

pub returns-in_default-clause-ports : goal.returns-in_default-clause-ports
returns-in_default-clause-ports g c = record {
  kept = c.read.ensures.kept;
  read_count = let r = c.read.ensures.cause.later in omega arith;
  write_count = let w = c.write_waiting.ensures.write_count in omega arith;
  trace_count = let w = c.write_waiting.ensures.trace_count in omega arith;
}

pub returns-then-n-eq0-clause-same : goal.returns-then-n-eq0-clause-same
returns-then-n-eq0-clause-same g c =
    let called = plan_on c.args.engine.now c.write_waiting.new.engine c.finish-answer.new.self (plan_written c.args.engine.now c.write_waiting.new.engine c.write_waiting.ensures.rest) (plan_called c.write_waiting.new.engine c.finish-answer.new.self c.finish-answer.ensures.same) in
    plan_on c.args.engine.now c.finish-answer.new.self c.end_with.new.engine called (plan_written c.finish-answer.new.self c.end_with.new.engine c.end_with.ensures.rest)

pub returns-then-n-eq0-clause-ports : goal.returns-then-n-eq0-clause-ports
returns-then-n-eq0-clause-ports g c = record {
  kept = c.read.ensures.kept;
  read_count = let r = c.read.ensures.cause.later in omega arith;
  write_count = let w = c.write_waiting.ensures.write_count in let v = c.end_with.ensures.write_count in omega arith;
  trace_count = let w = c.write_waiting.ensures.trace_count in let v = c.end_with.ensures.trace_count in omega arith;
}

pub returns-in-Ok-feed-clause-same : goal.returns-in-Ok-feed-clause-same
returns-in-Ok-feed-clause-same g c = plan_on c.args.engine.now c.write_waiting.new.engine c.feed.new.self (plan_written c.args.engine.now c.write_waiting.new.engine c.write_waiting.ensures.rest) (plan_called c.write_waiting.new.engine c.feed.new.self c.feed.ensures.same)

pub returns-in-Ok-feed-clause-ports : goal.returns-in-Ok-feed-clause-ports
returns-in-Ok-feed-clause-ports g c = record {
  kept = c.read.ensures.kept;
  read_count = let r = c.read.ensures.cause.later in omega arith;
  write_count = let w = c.write_waiting.ensures.write_count in omega arith;
  trace_count = let w = c.write_waiting.ensures.trace_count in omega arith;
}

pub returns-in-Err-clause-same : goal.returns-in-Err-clause-same
returns-in-Err-clause-same g c =
    let called = plan_on c.args.engine.now c.write_waiting.new.engine c.feed.new.self (plan_written c.args.engine.now c.write_waiting.new.engine c.write_waiting.ensures.rest) (plan_called c.write_waiting.new.engine c.feed.new.self c.feed.ensures.same) in
    plan_on c.args.engine.now c.feed.new.self c.end_with-in-Err.new.engine called (plan_written c.feed.new.self c.end_with-in-Err.new.engine c.end_with-in-Err.ensures.rest)

pub returns-in-Err-clause-ports : goal.returns-in-Err-clause-ports
returns-in-Err-clause-ports g c = record {
  kept = c.read.ensures.kept;
  read_count = let r = c.read.ensures.cause.later in omega arith;
  write_count = let w = c.write_waiting.ensures.write_count in let v = c.end_with-in-Err.ensures.write_count in omega arith;
  trace_count = let w = c.write_waiting.ensures.trace_count in let v = c.end_with-in-Err.ensures.trace_count in omega arith;
}
