-- The numbers of a run over DOC, and the answer that a run wrote.
use Rattle.std.proofs.Common.{◌≡◌, inl, inr, ℕ, ◌+◌, Bool, true, false, List, [], length, Option, Some, None, Ok, Err, refl, sym, ap, subst, ◌∙◌, arith}
use Rattle.std.proofs.lemmas.Bool.{false≢true}
use Rattle.std.specs.Io.KnownBytes.{Consumes}
use Rattle.gcx_base.specs.Limits.{full_limits}
use Rattle.gcx_gen.specs.Generated.{document}
use Rattle.gcx_io.specs.Bytes.{Grows}
use Rattle.gcx_io.specs.Causes.{Rose}
use Rattle.gcx_io.specs.Shelf.{content_of}
use Rattle.gcx_io.specs.Views.{ShelfView, SinkView, SourceView}
use Rattle.gcx_io.specs.Writing.{Takes, joined}
use Rattle.gcx_model.specs.Answer.{answer}
use Rattle.gcx_model.specs.Document.{Nodes}
use Rattle.gcx_model.specs.Faults.{FaultIs}
use Rattle.gcx_model.specs.Query.{ExprTree}
use Rattle.gcx_model.specs.Seen.{SeenIs}
use Rattle.run_words.specs.Ends.{StopsWriting}
use Rattle.run_words.specs.Stops.{Stop}
use Rattle.tree_read.specs.Document.{BytesSpell}
use Rattle.xq_parse.specs.Faults.{HasOnlyQuery}
use Rattle.xq_parse.specs.Spelling.{QuerySpells}
use Rattle.engine.specs.Runs.{sinks}
use Rattle.engine.specs.declared.report.Ended.{Ended}
use Rattle.engine.specs.declared.report.Ended.TheVariants as end
use Rattle.engine.specs.declared.report.Report.{Report}
use Rattle.gcx_cmd.proofs.Answering.{answer_of}
use Rattle.gcx_cmd.proofs.Documents.{SeenWhole, seen_document}
use Rattle.gcx_cmd.proofs.FileRead.{FileRead}
use Rattle.gcx_cmd.proofs.Says.{given_all, read_all}
use Rattle.gcx_cmd.specs.DocumentDoes.{OverDoc, IsClean}
use Rattle.gcx_cmd.specs.Main.{Accepts}
use Rattle.gcx_cmd.specs.World.{World, StoreView}
use Rattle.gcx_cmd.specs.Reads.{Reads}
use Rattle.gcx_cmd.specs.RunDoes.{EndsBy, HoldsSeen, RunDoes}
use Rattle.gcx_cmd.specs.Running.{Settles, UnlessOutOfMemory}
use Rattle.gcx_cmd.specs.Runs.{DocumentMeasures, NumbersIn, SelfRuns, SourceRuns, StopsMeasure}
use Rattle.gcx_cmd.specs.Status.{ended_status}
use Rattle.gcx_cmd.specs.Texts.{self_query}
use Rattle.gcx_cmd.specs.Tracing.{IsQueryTrace}
use Rattle.gcx_cmd.specs.declared.status.Status.TheVariants as status

-- ---- the answer

-- of `run`: at Ok the answer of each query and document that the bytes spell
pub run_written : (tracing : Bool) (ahead : ℕ) (q d query_bytes document_bytes : List ℕ) (x : List ExprTree) (doc : Nodes) (a b : World)
    → content_of a.shelf.names q ≡ Some query_bytes → content_of a.shelf.names d ≡ Some document_bytes → Accepts query_bytes x → BytesSpell document_bytes doc
    → RunDoes tracing ahead q d status.Ok a b → Takes a.out b.out (answer x doc)
run_written tracing ahead q d query_bytes document_bytes x doc a b told_q told_d accepted spelled (r, empty, w) =
    let q_is : query_bytes ≡ joined r.over.query.pieces = read_all q query_bytes (length a.shelf.given) a.shelf b.shelf r.over.query.pieces told_q r.over.query.reads in
    let same : x ≡ r.x = r.over.query.only.once x (subst (λ (l : List ℕ). QuerySpells l x) q_is accepted.spells) in
    let d_is : document_bytes ≡ joined r.pieces = read_all d document_bytes (length a.shelf.given + 1) a.shelf b.shelf r.pieces told_d
    (subst (λ (z : Stop). Reads d (length a.shelf.given + 1) a.shelf b.shelf r.pieces z) r.ends.0 r.over.doc) in
    let one : doc ≡ w.doc = w.spells.only doc (subst (λ (l : List ℕ). BytesSpell l doc) d_is spelled) in
    subst (λ (l : List ℕ). Takes a.out b.out l) (ap (λ (y : List ExprTree). answer y w.doc) (sym same) ∙ ap (answer x) (sym one)) w.wrote

-- ---- a report of DOC

-- the status is Ok at the end of an input without faults alone
pub ended_ok : (y : Ended) → ended_status y ≡ status.Ok → y ≡ end.Ok
ended_ok end.Ok is = refl
ended_ok (end.Refused f) is = cc
ended_ok end.ReadFault is = cc
ended_ok end.WriteFault is = cc
ended_ok end.Memory is = cc

module _ (q : List ExprTree) (d : List ℕ) (a b : ShelfView) (s t : SourceView) (f : FileRead d a b s t) (o p e g : SinkView) (before after : StoreView) (r : Report)
    (w : SourceRuns false 1 q r s t o p e g after) (quiet : p.faults ≡ 0) where
  ends_as : (y : Ended) → r.ended ≡ y → EndsBy q false (ended_status y) w.pieces w.stop (sinks o e) (sinks p g)
  ends_as y is = subst (λ (z : Ended). EndsBy q false (ended_status z) w.pieces w.stop (sinks o e) (sinks p g)) is w.ends

  holds_as : (y : Ended) → r.ended ≡ y → UnlessOutOfMemory (ended_status y) (HoldsSeen q 1 w.pieces w.stop after)
  holds_as y is = subst (λ (z : Ended). UnlessOutOfMemory (ended_status z) (HoldsSeen q 1 w.pieces w.stop after)) is w.holds

  over : (Says : List (List ℕ) → Stop → Type 0) → Says w.pieces w.stop → OverDoc d Says a b
  over Says says = record {
    pieces = w.pieces;
    stop = w.stop;
    one = f.opens;
    doc = f.reads w.pieces w.stop w.gave;
    reads_on = w.reads_on;
    says = says;
  }

  pub measures_ok : r.ended ≡ end.Ok → DocumentMeasures q d (Ok r) a b before after
  measures_ok is =
      let ends = ends_as end.Ok is in
      over (λ pieces stop. IsClean pieces stop × NumbersIn q pieces r × HoldsSeen q 1 pieces stop after)
      (record { at_end = ends.0; clean = ends.1 }, w.numbers refl is, holds_as end.Ok is)

  -- the sink that keeps nothing never fails
  never : StopsWriting (Settles q) (IsQueryTrace q) false w.pieces w.stop (sinks o e) (sinks p g) → ⊥
  never stops = elim stops.stops [
    | inl output ↦ (let rose : Rose o.faults p.faults = output.0.faults in absurd (omega (arith, rose, quiet)))
    | inr trace ↦ false≢true trace.0
  ]

  pub measures_stop : (y : Ended) → r.ended ≡ y → (y ≡ end.Ok → ⊥) → DocumentMeasures q d (Err (ended_status y)) a b before after
  measures_stop end.Ok is other = absurd (other refl)
  measures_stop (end.Refused h) is other =
      let ends = ends_as (end.Refused h) is in
      over (λ pieces stop. StopsMeasure q (status.DocumentRefused h) pieces stop after) (record { calm = ends.0; fault = ends.1 }, holds_as (end.Refused h) is)
  measures_stop end.ReadFault is other =
      let ends = ends_as end.ReadFault is in
      inr (over (λ pieces stop. StopsMeasure q status.ReadFault pieces stop after) (record { at_fault = ends.0; clean = ends.1 }, holds_as end.ReadFault is))
  measures_stop end.WriteFault is other = absurd (never (ends_as end.WriteFault is).1)
  measures_stop end.Memory is other = inr (over (λ pieces stop. StopsMeasure q status.Memory pieces stop after) (ends_as end.Memory is).0)

-- ---- selfrun

-- a run over the whole document whose answer was kept
pub self_runs : (seed count : ℕ) (source : List ℕ) (q : List ExprTree) (report : Report) (s t : SourceView) (o p e g : SinkView) (store : StoreView) (written : List ℕ)
    → Accepts self_query q → HasOnlyQuery self_query q → source ≡ document seed count → s.left ≡ Some source → o.taken ≡ Some [] → p.taken ≡ Some written → report.ended ≡ end.Ok
    → SourceRuns false 1 q report s t o p e g store → SelfRuns seed count (length written) report
self_runs seed count source q report s t o p e g store written accepted only made told none all ok w =
    let ends = subst (λ (z : Ended). EndsBy q false (ended_status z) w.pieces w.stop (sinks o e) (sinks p g)) ok w.ends in
    let whole : source ≡ joined w.pieces = given_all source (joined w.pieces) t.left (subst (λ (l : Option (List ℕ)). Consumes l t.left (joined w.pieces)) told w.gave.told) (w.gave.at_end ends.0) in
    let is : joined w.pieces ≡ document seed count = sym whole ∙ made in
    let n = w.numbers refl ok in
    let m : SeenWhole (joined w.pieces) n.tokens = seen_document full_limits (joined w.pieces) n.tokens ends.1 n.seen in
    let answered : ends.2.settled ≡ answer q m.document = answer_of q (joined w.pieces) ends.2.settled m.document accepted.sound ends.1 ends.2.is m.spells in
    let grew : Grows (Some []) (Some written) ends.2.settled = subst (λ (l : Option (List ℕ)). Grows l (Some written) ends.2.settled) none
    (subst (λ (l : Option (List ℕ)). Grows o.taken l ends.2.settled) all ends.2.wrote.told) in
    let kept : written ≡ answer q m.document = grew ∙ answered in (
      record {
        query = q;
        accepted = accepted;
        only = only;
        nodes = m.document;
        spelled = subst (λ (l : List ℕ). BytesSpell l m.document) is m.spells;
        tokens = n.tokens;
        seen = subst (λ (l : List ℕ). SeenIs full_limits l true n.tokens) is n.seen;
      },
      ap length kept,
      n.numbers,
    )
