use Rattle.std.proofs.Common.{◌∙◌, ◌+◌, ◌++◌, ℕ, false, [], List, length, ap, subst, refl, arith, append_assoc, sym}
use Rattle.std.proofs.lemmas.List.{length-append}
use Rattle.engine.specs.View.{EngineView}
use Rattle.gcx_model.specs.PlanView.{plan_tree}
use Rattle.engine.specs.Engine.{IsTold, Kept, Lost, OnRefusal, TraceGrewBy, TraceGrewWithin}
use Rattle.engine.proofs.Courses.{bytes_small, piece_begins, piece_ends, piece_on, piece_some}
use Rattle.engine.proofs.TellingCalls.{trace_begins, trace_ends, trace_goes}
use Rattle.engine.proofs.Waiting.{from_none}
use Rattle.engine.proofs.Forms.{same_none, same_on}
use Rattle.engine.specs.Calls.{FeedsPiece, SameRun, TellsPiece}
use Rattle.engine.proofs.engine.Engine.feed_piece.Goals as goal

pub slices-init : goal.slices-init
slices-init g c = record {
  done = [];
  parts = refl;
  fed = λ lim b s. piece_begins g.C.Conds.stands lim b c.args.self.now c.requires.fresh s;
  traced = λ lim b s told. trace_begins g.C.Conds.stands lim b c.args.self.now c.requires.fresh s;
  bytes = omega arith;
  same = same_none c.args.self.now;
}

pub feed_slice-requires-clause-stands : goal.feed_slice-requires-clause-stands
feed_slice-requires-clause-stands g c =
    let s = c.requires.stands in
    let inv = c.slices.invariant in
    let fresh = (c.wants.ensures.left c.slices-test.true).0 in
    piece_some g.C.Conds.stands s.limits s.read c.args.self.now c.slices.self inv.done fresh (inv.fed s.limits s.read s.of)

pub feed_slice-requires-clause-fresh : goal.feed_slice-requires-clause-fresh
feed_slice-requires-clause-fresh g c = (c.wants.ensures.left c.slices-test.true).0

pub slices-preserved : goal.slices-preserved
slices-preserved g c =
    let inv = c.slices.invariant in
    let old = c.args.self.now in
    let e = c.slices.self in
    let d = c.feed_slice.new.self in
    let o = c.feed_slice.ensures in
    let slice = c.cut.result.0.now in
    let fresh = (c.wants.ensures.left c.slices-test.true).0 in
    let l = length-append inv.done slice in
    let n = inv.bytes in
    let m = o.bytes in
    record {
      done = inv.done ++ slice;
      parts = append_assoc inv.done slice c.cut.result.1.now ∙ (ap (λ (z : List ℕ). inv.done ++ z) c.cut.ensures.parts ∙ inv.parts);
      fed = λ lim b s. piece_on g.C.Conds.stands lim b old e d inv.done slice inv.same.plan fresh (inv.fed lim b s) (λ x y. o.fed lim x y fresh);
      traced = λ lim b s told.
          let k : Kept g.C.Conds.stands lim old e b false (b ++ inv.done) false = from_none e.refused (Lost lim old e b false (b ++ inv.done) false) (Kept g.C.Conds.stands lim old e b false (b ++ inv.done) false) fresh (inv.fed lim b s) in
          let told' : IsTold e = inv.same.tracing ∙ told in
          trace_goes g.C.Conds.stands lim b old e d inv.done slice inv.same.plan fresh (inv.traced lim b s told) (o.traced lim (b ++ inv.done) k.of fresh told');
      bytes = omega arith;
      same = same_on old e d inv.same o.same;
    }

pub slices-smaller : goal.slices-smaller
slices-smaller g c = c.cut.ensures.fewer (c.wants.ensures.left c.slices-test.true).1

pub pass-requires : goal.pass-requires
pass-requires g c =
    let s = c.requires.stands in
    let inv = c.slices.invariant in
    let n = bytes_small g.C.Conds.stands s.limits c.args.self.now s.read false s.of c.requires.fresh in
    let l = ap length inv.parts in
    let m = length-append inv.done c.slices.rest.now in
    let k = inv.bytes in
    omega arith

pub returns-clause-fed : goal.returns-clause-fed
returns-clause-fed g c =
    subst (λ (z : EngineView g.row.C.Denot). FeedsPiece g.C.Conds.stands (OnRefusal z.refused) c.args.self.now z c.args.piece.now) (sym c.pass.ensures)
    (λ lim b s fresh.
    let inv = c.slices.invariant in
    let old = c.args.self.now in
    let e = c.slices.self in
    let rest = c.slices.rest.now in
    let d : EngineView g.row.C.Denot = record e { bytes = e.bytes + length rest } in
    subst (λ (z : List ℕ). OnRefusal d.refused (Lost lim old d b false (b ++ z) false) (Kept g.C.Conds.stands lim old d b false (b ++ z) false)) inv.parts
    (piece_ends g.C.Conds.stands lim b old e d inv.done rest inv.same.plan refl (c.wants.ensures.over c.slices-test.false) (inv.fed lim b s)))

pub returns-clause-bytes : goal.returns-clause-bytes
returns-clause-bytes g c =
    let inv = c.slices.invariant in
    let l = ap length inv.parts in
    let m = length-append inv.done c.slices.rest.now in
    let k = inv.bytes in
    let b = ap (λ (z : EngineView g.row.C.Denot). z.bytes) c.pass.ensures in
    omega arith

pub returns-clause-same : goal.returns-clause-same
returns-clause-same g c =
    let h = c.slices.invariant.same in
    subst (λ (z : EngineView g.row.C.Denot). SameRun c.args.self.now z) (sym c.pass.ensures)
    (record { plan = h.plan; ahead = h.ahead; tracing = h.tracing; silent = λ s. let t = h.silent s in record { untold = t.untold; empty = t.empty }; loans = h.loans })

pub returns-clause-traced : goal.returns-clause-traced
returns-clause-traced g c =
    subst (λ (z : EngineView g.row.C.Denot). TellsPiece g.C.Conds.stands (OnRefusal z.refused) c.args.self.now z c.args.piece.now) (sym c.pass.ensures)
    (λ lim b s fresh told.
    let inv = c.slices.invariant in
    let old = c.args.self.now in
    let e = c.slices.self in
    let rest = c.slices.rest.now in
    let pl = plan_tree old.plan in
    subst (λ (z : List ℕ). OnRefusal e.refused (TraceGrewWithin pl lim b false (b ++ z) false old.trace e.trace) (TraceGrewBy pl lim b false (b ++ z) false old.trace e.trace)) inv.parts
    (trace_ends g.C.Conds.stands lim b old e inv.done rest (c.wants.ensures.over c.slices-test.false) (inv.fed lim b s) (inv.traced lim b s told)))
