-- Which status must come, where the shelf tells its names and no count rose.
use Rattle.std.proofs.Common.{◌≡◌, ◌⊎◌, inl, inr, ℕ, suc, ◌+◌, Bool, true, List, [], ◌∷◌, ◌++◌, length, map, slice_get, Option, Some, None, refl, sym, ap, subst, ◌∙◌, arith, length-append}
use Rattle.std.proofs.lemmas.List.{same_from_push}
use Rattle.gcx_base.specs.Limits.{full_limits}
use Rattle.gcx_io.specs.Causes.{Rose}
use Rattle.gcx_io.specs.Shelf.{IsMissing, IsTelling, Names, content_of}
use Rattle.gcx_io.specs.Views.{Miss, ShelfView, SinkView, missed}
use Rattle.gcx_io.specs.Writing.{joined}
use Rattle.gcx_model.specs.Faults.{FaultIs}
use Rattle.gcx_model.specs.Members.{In}
use Rattle.gcx_model.specs.Query.{ExprTree}
use Rattle.gcx_model.specs.declared.fault.DocFault.{DocFault}
use Rattle.gcx_model.specs.declared.fault.QueryFault.{QueryFault}
use Rattle.gcx_words.proofs.Within.{asked_within}
use Rattle.gcx_words.specs.Pairs.{are_apart}
use Rattle.gcx_words.specs.Within.{IsWithin}
use Rattle.gcx_words.specs.declared.pairs.Pair.{Pair}
use Rattle.run_words.specs.Ends.{Refused, Completed}
use Rattle.gcx_cmd.proofs.Manies.{queries_keep, queries_refuse}
use Rattle.gcx_cmd.proofs.ManyBytes.{accepted_there, at_split, doc_refused, doc_whole, out_holds, refused_one, stopped_there}
use Rattle.gcx_words.specs.declared.command.Command.{Command}
use Rattle.gcx_words.specs.declared.command.Command.TheVariants.{Run, Whole, Explain, Peak, Gen, Selfrun, Many, Check}
use Rattle.doc_laws.proofs.Unique.{fault_one}
use Rattle.gcx_cmd.proofs.Complete.{complete_from, document_refused_from, one_refusal, refused_from, refused_not, there}
use Rattle.gcx_cmd.proofs.Says.{DocIsClean, DocSays, QuerySays, check_doc_says, check_query_says, clean_document, explain_query_says, one_query, peak_doc_says, peak_query_says, run_doc_says, run_query_says, says_of_document, says_of_query, whole_doc_says, whole_query_says}
use Rattle.gcx_cmd.specs.CheckDoes.{CheckDoes}
use Rattle.gcx_cmd.specs.Commands.{LacksFile, document_of, queries_of, query_of, trace_file}
use Rattle.gcx_cmd.specs.Completes.{AreQueries, Completes, CompletesFor, Ends, HoldsSuch, ReadsWell, WritesWell}
use Rattle.gcx_cmd.specs.Does.{Diagnoses, Does, DoesIf, Obeys, Tells}
use Rattle.gcx_cmd.specs.ExplainDoes.{ExplainDoes}
use Rattle.gcx_cmd.specs.GenDoes.{GenDoes}
use Rattle.gcx_cmd.specs.Keeps.{HasCauses, Keeps}
use Rattle.gcx_cmd.specs.ManyAnswers.{AnswersMany}
use Rattle.gcx_cmd.specs.ManyDoes.{AcceptsQueries, ManyDoes, ManyEnds, StopsAtQuery}
use Rattle.gcx_cmd.specs.Main.{IsDocument, IsQuery, QueryFaultOf}
use Rattle.gcx_cmd.specs.World.{World}
use Rattle.gcx_cmd.specs.PeakDoes.{PeakDoes}
use Rattle.gcx_cmd.specs.QueryDoes.{AcceptsQuery, FailsInText}
use Rattle.gcx_cmd.specs.Reads.{Misses, Opens}
use Rattle.gcx_cmd.specs.RunDoes.{RunDoes}
use Rattle.gcx_cmd.specs.SelfrunDoes.{SelfrunDoes}
use Rattle.gcx_cmd.specs.WholeDoes.{WholeDoes}
use Rattle.gcx_cmd.specs.declared.status.Status.{Status}
use Rattle.gcx_cmd.specs.declared.status.Status.TheVariants as status

some_same : (x y : List ℕ) → Some x ≡ Some y → x ≡ y
some_same x y e = cc

none_some : (y : List ℕ) → None ≡ Some y → ⊥
none_some y e = cc

rose_twice : (a b c : ℕ) → Rose a b → Rose b c → Rose a c
rose_twice a b c first second = omega (arith, first, second)

-- ---- QUERY at a read fault: it failed, or it is accepted

abbrev pub QueryStage : List ℕ → ShelfView → ShelfView → Type 0
QueryStage q a b = FailsInText q a b ⊎ ((x : List ExprTree) × AcceptsQuery q a b x)

run_stage : (tracing : Bool) (ahead : ℕ) (q d : List ℕ) (a b : World) → RunDoes tracing ahead q d status.ReadFault a b → QueryStage q a.shelf b.shelf
run_stage tracing ahead q d a b (inl (same, inl fails)) = inl fails
run_stage tracing ahead q d a b (inl (same, inr (n, e, gone, x, accepted))) = inr (x, accepted)
run_stage tracing ahead q d a b (inr r) = inr (r.x, r.over.query)

whole_stage : (q d : List ℕ) (a b : World) → WholeDoes q d status.ReadFault a b → QueryStage q a.shelf b.shelf
whole_stage q d a b (inl (same, inl fails)) = inl fails
whole_stage q d a b (inl (same, inr (n, e, gone, x, accepted))) = inr (x, accepted)
whole_stage q d a b (inr r) = inr (r.x, r.over.query)

peak_stage : (q d : List ℕ) (a b : World) → PeakDoes q d status.ReadFault a b → QueryStage q a.shelf b.shelf
peak_stage q d a b (inl (same, inl fails)) = inl fails
peak_stage q d a b (inl (same, inr (n, e, gone, x, accepted))) = inr (x, accepted)
peak_stage q d a b (inr r) = inr (r.x, r.over.query)

explain_stage : (q : List ℕ) (a b : World) → ExplainDoes q status.ReadFault a b → QueryStage q a.shelf b.shelf
explain_stage q a b (same, inl fails) = inl fails
explain_stage q a b (same, inr (n, e, gone, x, accepted)) = inr (x, accepted)

check_stage : (q d t : List ℕ) (a b : World) → CheckDoes q d t status.ReadFault a b → QueryStage q a.shelf b.shelf
check_stage q d t a b (inl (same, inl fails)) = inl fails
check_stage q d t a b (inl (same, inr (n, e, gone, x, accepted))) = inr (x, accepted)
check_stage q d t a b (inr (inl r)) = inr (r.x, r.over.query)
check_stage q d t a b (inr (inr (inl r))) = inr (r.x, r.query)
check_stage q d t a b (inr (inr (inr r))) = inr (r.x, r.over.query)

-- ---- a file that is there isn't lacked

-- the one whose attach failed is this one
missed_there : (c : Command) (name bytes : List ℕ) (n : ℕ) (a b : ShelfView) → content_of a.names name ≡ Some bytes → Misses n name a b → LacksFile c a b → ⊥
missed_there c name bytes n a b told gone lacks =
    let same : missed lacks.name lacks.behind ≡ missed name (length a.given + n) = (same_from_push a.refused a.refused _ _ (sym lacks.listed ∙ gone.refused)).1 in
    let is : lacks.name ≡ name = ap (λ (m : Miss). m.name) same in
    there a.names lacks.name bytes (ap (content_of a.names) is ∙ told) lacks.missing

-- no attach failed
opened_all : (c : Command) (n : ℕ) (a b : ShelfView) → Opens n a b → LacksFile c a b → ⊥
opened_all c n a b opens lacks =
    let longer : a.refused ≡ a.refused ++ missed lacks.name lacks.behind ∷ [] = sym opens.refused ∙ lacks.listed in
    absurd (omega (arith, ap length longer, length-append a.refused (missed lacks.name lacks.behind ∷ [])))

-- a refused query doesn't fail where it is there
stage_not : (c : Command) (q bytes : List ℕ) (f : QueryFault) (a b : ShelfView) → content_of a.names q ≡ Some bytes → QueryFaultOf bytes f → QueryStage q a b → LacksFile c a b → ⊥
stage_not c q bytes f a b told fault (inl (inl gone)) lacks = missed_there c q bytes 0 a b told gone lacks
stage_not c q bytes f a b told fault (inl (inr (one, ps, reads, within))) lacks = opened_all c 1 a b one lacks
stage_not c q bytes f a b told fault (inr (x, accepted)) lacks =
    let one = one_query q bytes a b told x accepted in
    refused_not bytes f fault (one.0, one.1)

-- a document with a fault isn't whole
whole_not : (d bytes : List ℕ) (f : DocFault) (a b : ShelfView) → content_of a.names d ≡ Some bytes → FaultIs full_limits bytes true (Some f) → DocIsClean d a b → ⊥
whole_not d bytes f a b told fault clean = none_fault f (fault_one full_limits bytes true None (Some f) (clean_document d bytes a b told clean) fault)
  where
    none_fault : (g : DocFault) → None ≡ Some g → ⊥
    none_fault g e = cc

-- `check` with QUERY and a refused DOC that are there lacks no file: TRACE isn't opened
document_not : (c : Command) (q d t query bytes : List ℕ) (f : DocFault) (a b : World) → content_of a.shelf.names q ≡ Some query → content_of a.shelf.names d ≡ Some bytes
    → FaultIs full_limits bytes true (Some f) → CheckDoes q d t status.ReadFault a b → LacksFile c a.shelf b.shelf → ⊥
document_not c q d t query bytes f a b told_q told_d fault (inl (same, inl (inl gone))) lacks = missed_there c q query 0 a.shelf b.shelf told_q gone lacks
document_not c q d t query bytes f a b told_q told_d fault (inl (same, inl (inr (one, ps, reads, within)))) lacks = opened_all c 1 a.shelf b.shelf one lacks
document_not c q d t query bytes f a b told_q told_d fault (inl (same, inr (n, e, gone, x, accepted))) lacks =
    missed_there c n bytes 1 a.shelf b.shelf (ap (content_of a.shelf.names) (sym (some_same d n e)) ∙ told_d) gone lacks
document_not c q d t query bytes f a b told_q told_d fault (inr (inl r)) lacks = opened_all c 2 a.shelf b.shelf r.over.two lacks
document_not c q d t query bytes f a b told_q told_d fault (inr (inr (inl r))) lacks =
    whole_not d bytes f a.shelf b.shelf told_d fault (r.pieces, r.doc, r.clean.clean)
document_not c q d t query bytes f a b told_q told_d fault (inr (inr (inr r))) lacks =
    whole_not d bytes f a.shelf b.shelf told_d fault (r.over.doc_pieces, r.over.doc, r.over.tokens.clean.clean)

-- a command of one QUERY has no others
no_queries : (c : Command) (q : List ℕ) → query_of c ≡ Some q → (n : List ℕ) → In n (queries_of c) → ⊥
no_queries (Run trace ahead q d) r is n among = among
no_queries (Whole q d) r is n among = among
no_queries (Explain q) r is n among = among
no_queries (Peak q d) r is n among = among
no_queries (Gen seed count) r is n among = among
no_queries (Selfrun seed count) r is n among = among
no_queries (Many d ps) r is n among = none_some r is
no_queries (Check q d t) r is n among = among

-- ---- what no count that stays lets come

module _ (c : Command) (s : Status) (a m b : World) (keeps : Keeps c s a m) (diag : Diagnoses s m b) where
  rose_shelf : Rose a.shelf.faults m.shelf.faults → Rose a.shelf.faults b.shelf.faults
  rose_shelf rose = subst (λ (v : ShelfView). Rose a.shelf.faults v.faults) (sym diag.shelf) rose

  rose_writes : Rose a.shelf.write_faults m.shelf.write_faults → Rose a.shelf.write_faults b.shelf.write_faults
  rose_writes rose = subst (λ (v : ShelfView). Rose a.shelf.write_faults v.write_faults) (sym diag.shelf) rose

  rose_out : Rose a.out.faults m.out.faults → Rose a.out.faults b.out.faults
  rose_out rose = subst (λ (v : SinkView). Rose a.out.faults v.faults) (sym diag.out) rose

  rose_err : s ≡ status.WriteFault → Rose a.err.faults m.err.faults → Rose a.err.faults b.err.faults
  rose_err is rose = elim (subst (λ (t : Status). Tells t m.err b.err) is diag.line) [
    | inl took ↦ subst (λ (k : ℕ). Rose a.err.faults k) (sym took.faults) rose
    | inr owes ↦ rose_twice a.err.faults m.err.faults b.err.faults rose owes.faults
  ]

  no_write : WritesWell c a b → s ≡ status.WriteFault → ⊥
  no_write well is = elim (subst (λ (t : Status). HasCauses c t a m) is keeps.causes) [
    | inl rose ↦ well.out (rose_out rose)
    | inr others ↦ elim others [
      | inl traced ↦ well.err traced.0 (rose_err is traced.1)
      | inr many ↦ well.outs many.0 (rose_writes many.1)
    ]
  ]

  no_read : ReadsWell a b → (s ≡ status.ReadFault → LacksFile c a.shelf m.shelf → ⊥) → s ≡ status.ReadFault → ⊥
  no_read well there_is is = elim (subst (λ (t : Status). HasCauses c t a m) is keeps.causes) [
    | inl rose ↦ well (rose_shelf rose)
    | inr lacks ↦ there_is is lacks
  ]

  -- each file of the command is there
  lacks_none : (q : List ℕ) (P : List ℕ → Type 0) → query_of c ≡ Some q → HoldsSuch a.shelf.names q P
      → ((d : List ℕ) → document_of c ≡ Some d → (bytes : List ℕ) × (content_of a.shelf.names d ≡ Some bytes))
      → ((t : List ℕ) → trace_file c ≡ Some t → (bytes : List ℕ) × (content_of a.shelf.names t ≡ Some bytes)) → LacksFile c a.shelf m.shelf → ⊥
  lacks_none q P file holds docs traces lacks = elim lacks.is_file [
    | inl is ↦ there a.shelf.names lacks.name holds.0 (ap (content_of a.shelf.names) (sym (some_same q lacks.name (sym file ∙ is))) ∙ holds.1) lacks.missing
    | inr others ↦ elim others [
      | inl is ↦ (let doc = docs lacks.name is in there a.shelf.names lacks.name doc.0 doc.1 lacks.missing)
      | inr more ↦ elim more [
        | inl is ↦ (let trace = traces lacks.name is in there a.shelf.names lacks.name trace.0 trace.1 lacks.missing)
        | inr among ↦ no_queries c q file lacks.name among
      ]
    ]
  ]

  -- of a command with QUERY
  refused_if : (q : List ℕ) (f : QueryFault) → QuerySays q s a.shelf m.shelf → (s ≡ status.ReadFault → QueryStage q a.shelf m.shelf)
      → (s ≡ status.Usage → ⊥) → HoldsSuch a.shelf.names q (λ bytes. QueryFaultOf bytes f) → ReadsWell a b → Ends (status.QueryRefused f) s
  refused_if q f says stage not_usage holds well =
      refused_from s holds.0 f (says_of_query q holds.0 a.shelf m.shelf holds.1 s says) holds.2 not_usage
      (no_read well (λ is lacks. stage_not c q holds.0 f a.shelf m.shelf holds.1 holds.2 (stage is) lacks))

  -- of a command with QUERY and DOC
  module _ (q d : List ℕ) (query : query_of c ≡ Some q) (doc : document_of c ≡ Some d) (says : QuerySays q s a.shelf m.shelf) (says_doc : DocSays d s a.shelf m.shelf) where
    docs : (P : List ℕ → Type 0) → HoldsSuch a.shelf.names d P → (n : List ℕ) → document_of c ≡ Some n → (bytes : List ℕ) × (content_of a.shelf.names n ≡ Some bytes)
    docs P holds n is = (holds.0, ap (content_of a.shelf.names) (sym (some_same d n (sym doc ∙ is))) ∙ holds.1)

    ends_if : HoldsSuch a.shelf.names q IsQuery → HoldsSuch a.shelf.names d IsDocument
        → ((t : List ℕ) → trace_file c ≡ Some t → (bytes : List ℕ) × (content_of a.shelf.names t ≡ Some bytes))
        → ReadsWell a b → WritesWell c a b → ((n : ℕ) × (s ≡ status.TraceRefused n)) ⊎ Ends status.Ok s
    ends_if hq hd traces reads writes =
        complete_from s hq.0 hd.0 (says_of_query q hq.0 a.shelf m.shelf hq.1 s says) (says_of_document d hd.0 a.shelf m.shelf hd.1 s says_doc) hq.2 hd.2
        (no_read reads (λ is. lacks_none q IsQuery query hq (docs IsDocument hd) traces)) (no_write writes)

    refused_document_by : (f : DocFault) → (hq : HoldsSuch a.shelf.names q IsQuery) → (hd : HoldsSuch a.shelf.names d (λ bytes. FaultIs full_limits bytes true (Some f)))
        → (s ≡ status.ReadFault → LacksFile c a.shelf m.shelf → ⊥) → ReadsWell a b → WritesWell c a b → Ends (status.DocumentRefused f) s
    refused_document_by f hq hd none reads writes =
        document_refused_from s hq.0 hd.0 f (says_of_query q hq.0 a.shelf m.shelf hq.1 s says) (says_of_document d hd.0 a.shelf m.shelf hd.1 s says_doc) hq.2 hd.2
        (no_read reads none) (no_write writes)

    -- and no other file
    module _ (alone : trace_file c ≡ None) (not_judged : (n : ℕ) → s ≡ status.TraceRefused n → ⊥) where
      traces : (t : List ℕ) → trace_file c ≡ Some t → (bytes : List ℕ) × (content_of a.shelf.names t ≡ Some bytes)
      traces t is = absurd (none_some t (sym alone ∙ is))

      well_if : HoldsSuch a.shelf.names q IsQuery → HoldsSuch a.shelf.names d IsDocument → ReadsWell a b → WritesWell c a b → Ends status.Ok s
      well_if hq hd reads writes = elim (ends_if hq hd traces reads writes) [
        | inl judged ↦ absurd (not_judged judged.0 judged.1)
        | inr ends ↦ ends
      ]

      refused_document_if : (f : DocFault) → HoldsSuch a.shelf.names q IsQuery → HoldsSuch a.shelf.names d (λ bytes. FaultIs full_limits bytes true (Some f))
          → ReadsWell a b → WritesWell c a b → Ends (status.DocumentRefused f) s
      refused_document_if f hq hd reads writes =
          refused_document_by f hq hd (λ is. lacks_none q IsQuery query hq (docs (λ bytes. FaultIs full_limits bytes true (Some f)) hd) traces) reads writes

-- ---- commands without DOC

explain_well : (q bytes : List ℕ) (s : Status) (a m : World) → ExplainDoes q s a m → content_of a.shelf.names q ≡ Some bytes → IsQuery bytes
    → (s ≡ status.ReadFault → ⊥) → (s ≡ status.WriteFault → ⊥) → Ends status.Ok s
explain_well q bytes status.Ok a m r told good not_read not_write = inl refl
explain_well q bytes status.Usage a m r told good not_read not_write = absurd r
explain_well q bytes (status.QueryRefused f) a m r told good not_read not_write =
    absurd (refused_not bytes f (says_of_query q bytes a.shelf m.shelf told (status.QueryRefused f) r.1) good)
explain_well q bytes (status.DocumentRefused f) a m r told good not_read not_write = absurd r
explain_well q bytes status.ReadFault a m r told good not_read not_write = absurd (not_read refl)
explain_well q bytes status.WriteFault a m r told good not_read not_write = absurd (not_write refl)
explain_well q bytes status.Memory a m r told good not_read not_write = inr refl
explain_well q bytes (status.TraceRefused n) a m r told good not_read not_write = absurd r

gen_well : (seed count : ℕ) (s : Status) (a m : World) → GenDoes seed count s a m → (s ≡ status.WriteFault → ⊥) → Ends status.Ok s
gen_well seed count status.Ok a m r not_write = inl refl
gen_well seed count status.Usage a m r not_write = absurd r
gen_well seed count (status.QueryRefused f) a m r not_write = absurd r
gen_well seed count (status.DocumentRefused f) a m r not_write = absurd r
gen_well seed count status.ReadFault a m r not_write = absurd r
gen_well seed count status.WriteFault a m r not_write = absurd (not_write refl)
gen_well seed count status.Memory a m r not_write = inr refl
gen_well seed count (status.TraceRefused n) a m r not_write = absurd r

self_well : (seed count : ℕ) (s : Status) (a m : World) → SelfrunDoes seed count s a m → (s ≡ status.WriteFault → ⊥) → Ends status.Ok s
self_well seed count status.Ok a m r not_write = inl refl
self_well seed count status.Usage a m r not_write = absurd r
self_well seed count (status.QueryRefused f) a m r not_write = absurd r
self_well seed count (status.DocumentRefused f) a m r not_write = absurd r
self_well seed count status.ReadFault a m r not_write = absurd r
self_well seed count status.WriteFault a m r not_write = absurd (not_write refl)
self_well seed count status.Memory a m r not_write = inr refl
self_well seed count (status.TraceRefused n) a m r not_write = absurd r

-- `many` ends well
many_well : (d : List ℕ) (ps : List Pair) → are_apart d ps ≡ true → (s : Status) (a m : World) → ManyDoes d ps s a m → AreQueries a.shelf.names ps
    → HoldsSuch a.shelf.names d IsDocument → IsTelling m.shelf.names → (s ≡ status.ReadFault → ⊥) → (s ≡ status.WriteFault → ⊥) → Ends status.Ok s
many_well d ps apart status.Ok a m o hq hd telling not_read not_write = inl refl
many_well d ps apart status.Usage a m o hq hd telling not_read not_write = absurd o.1
many_well d ps apart (status.QueryRefused f) a m o hq hd telling not_read not_write =
    let h = hq (length o.1.before) o.1.pair (stopped_there ps f a.shelf m.shelf o.1) in
    absurd (refused_not h.0 f (refused_one ps f a.shelf m.shelf o.1 h.0 h.1) h.2)
many_well d ps apart (status.DocumentRefused f) a m o hq hd telling not_read not_write =
    absurd (none_fault f (fault_one full_limits hd.0 true None (Some f) hd.2 (doc_refused d ps apart (Refused f) a.shelf m.shelf o.1 telling f o.1.run.stops hd.0 hd.1)))
  where
    none_fault : (g : DocFault) → None ≡ Some g → ⊥
    none_fault g e = cc
many_well d ps apart status.ReadFault a m o hq hd telling not_read not_write = absurd (not_read refl)
many_well d ps apart status.WriteFault a m o hq hd telling not_read not_write = absurd (not_write refl)
many_well d ps apart status.Memory a m o hq hd telling not_read not_write = inr refl
many_well d ps apart (status.TraceRefused n) a m o hq hd telling not_read not_write = absurd o.1

-- ---- what of `many` is refused

-- of two splits of a list, the second's element lies in the first part of the first, or is its element, or the first's lies so
abbrev Place : {X : Type 0} → (before : List X) (x : X) (earlier : List X) (y : X) → Type 0
Place before x earlier y = ((i : ℕ) × (slice_get before i ≡ Some y)) ⊎ ((y ≡ x) ⊎ ((i : ℕ) × (slice_get earlier i ≡ Some x)))

place : {X : Type 0} (before : List X) (x : X) (behind earlier : List X) (y : X) (later : List X) → before ++ x ∷ behind ≡ earlier ++ y ∷ later → Place before x earlier y
place [] x behind [] y later e = let same : y ≡ x = cc in inr (inl same)
place [] x behind (z ∷ earlier) y later e = let same : z ≡ x = cc in inr (inr (0, ap Some same))
place (z ∷ before) x behind [] y later e = let same : z ≡ y = cc in inl (0, ap Some same)
place (z ∷ before) x behind (u ∷ earlier) y later e =
    let rest : before ++ x ∷ behind ≡ earlier ++ y ∷ later = cc in
    elim (place before x behind earlier y later rest) [
      | inl b ↦ inl (suc b.0, b.1)
      | inr others ↦ elim others [
        | inl same ↦ inr (inl same)
        | inr e ↦ inr (inr (suc e.0, e.1))
      ]
    ]

-- a QUERY that is there doesn't fail for want of its file
query_there : (c : Command) (ps : List Pair) (a b : ShelfView) (o : StopsAtQuery ps status.ReadFault a b) (bytes : List ℕ) → content_of a.names o.pair.query ≡ Some bytes → LacksFile c a b → ⊥
query_there c ps a b o bytes told lacks =
    let keeps = (queries_keep o.before o.xs a o.m o.accepted).0 in
    let refused = queries_refuse o.before o.xs a o.m o.accepted in
    let moved : LacksFile c o.m b = record {
      name = lacks.name;
      is_file = lacks.is_file;
      missing = subst (λ (n : Names). IsMissing n lacks.name) (sym keeps.names) lacks.missing;
      behind = lacks.behind;
      listed = lacks.listed ∙ ap (λ (l : List Miss). l ++ missed lacks.name lacks.behind ∷ []) (sym refused);
    } in
    elim o.stops [
      | inl gone ↦ missed_there c o.pair.query bytes 0 o.m b (ap (λ (n : Names). content_of n o.pair.query) keeps.names ∙ told) gone moved
      | inr opened ↦ opened_all c 1 o.m b opened.0 moved
    ]

module _ (c : Command) (d : List ℕ) (ps before : List Pair) (p : Pair) (behind : List Pair) (f : QueryFault) (split : ps ≡ before ++ p ∷ behind) (a m : ShelfView)
    (hq : AreQueries a.names before) (h : HoldsSuch a.names p.query (λ bytes. QueryFaultOf bytes f)) where
  -- it isn't accepted
  not_all : (xs : List (List ExprTree)) (v : ShelfView) → AcceptsQueries ps a v xs → ⊥
  not_all xs v accepts =
      refused_not h.0 f h.2 (accepted_there ps xs a v accepts (length before) p (subst (λ (l : List Pair). slice_get l (length before) ≡ Some p) (sym split) (at_split before p behind)) h.0 h.1)

  not_before : (earlier : List Pair) (xs : List (List ExprTree)) (v : ShelfView) → AcceptsQueries earlier a v xs → (i : ℕ) × (slice_get earlier i ≡ Some p) → ⊥
  not_before earlier xs v accepts (i, at) = refused_not h.0 f h.2 (accepted_there earlier xs a v accepts i p at h.0 h.1)

  refused_there : (g : QueryFault) → StopsAtQuery ps (status.QueryRefused g) a m → g ≡ f
  refused_there g o = elim (place before p behind o.before o.pair o.behind (sym split ∙ o.split)) [
    | inl b ↦ (let q = hq b.0 o.pair b.1 in absurd (refused_not q.0 g (refused_one ps g a m o q.0 q.1) q.2))
    | inr others ↦ elim others [
      | inl same ↦ one_refusal h.0 g f (refused_one ps g a m o h.0 (ap (λ (q : Pair). content_of a.names q.query) same ∙ h.1)) h.2
      | inr e ↦ absurd (not_before o.before o.xs o.m o.accepted e)
    ]
  ]

  no_file_lacks : ManyEnds d ps status.ReadFault a m → LacksFile c a m → ⊥
  no_file_lacks (inl (inl o)) lacks = elim (place before p behind o.before o.pair o.behind (sym split ∙ o.split)) [
    | inl b ↦ (let q = hq b.0 o.pair b.1 in query_there c ps a m o q.0 q.1 lacks)
    | inr others ↦ elim others [
      | inl same ↦ query_there c ps a m o h.0 (ap (λ (q : Pair). content_of a.names q.query) same ∙ h.1) lacks
      | inr e ↦ not_before o.before o.xs o.m o.accepted e
    ]
  ]
  no_file_lacks (inl (inr o)) lacks = not_all o.made.xs o.made.m o.made.accepted
  no_file_lacks (inr r) lacks = not_all r.xs r.accepted r.accepts

  many_refuses : (s : Status) → ManyEnds d ps s a m → (s ≡ status.ReadFault → ⊥) → Ends (status.QueryRefused f) s
  many_refuses status.Ok o not_read = absurd (not_all o.0.xs o.0.accepted o.0.accepts)
  many_refuses status.Usage o not_read = absurd o
  many_refuses (status.QueryRefused g) o not_read = inl (ap status.QueryRefused (refused_there g o))
  many_refuses (status.DocumentRefused g) o not_read = absurd (not_all o.xs o.accepted o.accepts)
  many_refuses status.ReadFault o not_read = absurd (not_read refl)
  many_refuses status.WriteFault (inl o) not_read = absurd (not_all o.made.xs o.made.m o.made.accepted)
  many_refuses status.WriteFault (inr r) not_read = absurd (not_all r.xs r.accepted r.accepts)
  many_refuses status.Memory o not_read = inr refl
  many_refuses (status.TraceRefused n) o not_read = absurd o

-- DOC is refused, and no QUERY is
many_refuses_doc : (d : List ℕ) (ps : List Pair) → are_apart d ps ≡ true → (f : DocFault) (s : Status) (a m : ShelfView) → ManyEnds d ps s a m → AreQueries a.names ps
    → HoldsSuch a.names d (λ bytes. FaultIs full_limits bytes true (Some f)) → IsTelling m.names → (s ≡ status.ReadFault → ⊥) → (s ≡ status.WriteFault → ⊥) → Ends (status.DocumentRefused f) s
many_refuses_doc d ps apart f status.Ok a m o hq hd telling not_read not_write =
    let whole : hd.0 ≡ joined o.0.run.pieces = doc_whole d ps apart Completed a m o.0 telling hd.0 hd.1 o.0.run.stops.0 in
    absurd (none_fault f (fault_one full_limits hd.0 true None (Some f) (subst (λ (l : List ℕ). FaultIs full_limits l true None) (sym whole) o.0.run.stops.1) hd.2))
  where
    none_fault : (g : DocFault) → None ≡ Some g → ⊥
    none_fault g e = cc
many_refuses_doc d ps apart f status.Usage a m o hq hd telling not_read not_write = absurd o
many_refuses_doc d ps apart f (status.QueryRefused g) a m o hq hd telling not_read not_write =
    let h = hq (length o.before) o.pair (stopped_there ps g a m o) in
    absurd (refused_not h.0 g (refused_one ps g a m o h.0 h.1) h.2)
many_refuses_doc d ps apart f (status.DocumentRefused g) a m o hq hd telling not_read not_write =
    inl (ap status.DocumentRefused (same_fault g f (fault_one full_limits hd.0 true (Some g) (Some f) (doc_refused d ps apart (Refused g) a m o telling g o.run.stops hd.0 hd.1) hd.2)))
  where
    same_fault : (g f : DocFault) → Some g ≡ Some f → g ≡ f
    same_fault g f e = cc
many_refuses_doc d ps apart f status.ReadFault a m o hq hd telling not_read not_write = absurd (not_read refl)
many_refuses_doc d ps apart f status.WriteFault a m o hq hd telling not_read not_write = absurd (not_write refl)
many_refuses_doc d ps apart f status.Memory a m o hq hd telling not_read not_write = inr refl
many_refuses_doc d ps apart f (status.TraceRefused n) a m o hq hd telling not_read not_write = absurd o

-- ---- each command

never_usage : (c : Command) (s : Status) (a m : World) → Obeys c s a m → s ≡ status.Usage → ⊥
never_usage (Run trace ahead q d) s a m o is = subst (λ (t : Status). RunDoes trace ahead q d t a m) is o
never_usage (Whole q d) s a m o is = subst (λ (t : Status). WholeDoes q d t a m) is o
never_usage (Explain q) s a m o is = subst (λ (t : Status). ExplainDoes q t a m) is o
never_usage (Peak q d) s a m o is = subst (λ (t : Status). PeakDoes q d t a m) is o
never_usage (Gen seed count) s a m o is = subst (λ (t : Status). GenDoes seed count t a m) is o
never_usage (Selfrun seed count) s a m o is = subst (λ (t : Status). SelfrunDoes seed count t a m) is o
never_usage (Many d ps) s a m o is = (subst (λ (t : Status). ManyDoes d ps t a m) is o).1
never_usage (Check q d t) s a m o is = subst (λ (z : Status). CheckDoes q d t z a m) is o

completes_for : (c : Command) → IsWithin c → (s : Status) (a m b : World) → Keeps c s a m → Obeys c s a m → Diagnoses s m b → CompletesFor c s a b
completes_for (Run trace ahead q d) within s a m b keeps o diag =
    let not_judged : (n : ℕ) → s ≡ status.TraceRefused n → ⊥ = λ n is. subst (λ (t : Status). RunDoes trace ahead q d t a m) is o in
    let says = run_query_says trace ahead q d s a m o in
    let says_doc = run_doc_says trace ahead q d s a m o in
    record {
      well = well_if (Run trace ahead q d) s a m b keeps diag q d refl refl says says_doc refl not_judged;
      refused = λ n f is. subst (λ (k : List ℕ). HoldsSuch a.shelf.names k (λ bytes. QueryFaultOf bytes f) → ReadsWell a b → Ends (status.QueryRefused f) s) (some_same q n is)
          (refused_if (Run trace ahead q d) s a m b keeps diag q f says (λ e. run_stage trace ahead q d a m (subst (λ (t : Status). RunDoes trace ahead q d t a m) e o))
          (never_usage (Run trace ahead q d) s a m o));
      refused_document = λ n k f query doc. refused_document_if (Run trace ahead q d) s a m b keeps diag n k query doc
          (subst (λ (l : List ℕ). QuerySays l s a.shelf m.shelf) (some_same q n query) says) (subst (λ (l : List ℕ). DocSays l s a.shelf m.shelf) (some_same d k doc) says_doc) refl not_judged f;
      refused_many = tt;
    }
completes_for (Whole q d) within s a m b keeps o diag =
    let not_judged : (n : ℕ) → s ≡ status.TraceRefused n → ⊥ = λ n is. subst (λ (t : Status). WholeDoes q d t a m) is o in
    let says = whole_query_says q d s a m o in
    let says_doc = whole_doc_says q d s a m o in
    record {
      well = well_if (Whole q d) s a m b keeps diag q d refl refl says says_doc refl not_judged;
      refused = λ n f is. subst (λ (k : List ℕ). HoldsSuch a.shelf.names k (λ bytes. QueryFaultOf bytes f) → ReadsWell a b → Ends (status.QueryRefused f) s) (some_same q n is)
          (refused_if (Whole q d) s a m b keeps diag q f says (λ e. whole_stage q d a m (subst (λ (t : Status). WholeDoes q d t a m) e o)) (never_usage (Whole q d) s a m o));
      refused_document = λ n k f query doc. refused_document_if (Whole q d) s a m b keeps diag n k query doc
          (subst (λ (l : List ℕ). QuerySays l s a.shelf m.shelf) (some_same q n query) says) (subst (λ (l : List ℕ). DocSays l s a.shelf m.shelf) (some_same d k doc) says_doc) refl not_judged f;
      refused_many = tt;
    }
completes_for (Peak q d) within s a m b keeps o diag =
    let not_judged : (n : ℕ) → s ≡ status.TraceRefused n → ⊥ = λ n is. subst (λ (t : Status). PeakDoes q d t a m) is o in
    let says = peak_query_says q d s a m o in
    let says_doc = peak_doc_says q d s a m o in
    record {
      well = well_if (Peak q d) s a m b keeps diag q d refl refl says says_doc refl not_judged;
      refused = λ n f is. subst (λ (k : List ℕ). HoldsSuch a.shelf.names k (λ bytes. QueryFaultOf bytes f) → ReadsWell a b → Ends (status.QueryRefused f) s) (some_same q n is)
          (refused_if (Peak q d) s a m b keeps diag q f says (λ e. peak_stage q d a m (subst (λ (t : Status). PeakDoes q d t a m) e o)) (never_usage (Peak q d) s a m o));
      refused_document = λ n k f query doc. refused_document_if (Peak q d) s a m b keeps diag n k query doc
          (subst (λ (l : List ℕ). QuerySays l s a.shelf m.shelf) (some_same q n query) says) (subst (λ (l : List ℕ). DocSays l s a.shelf m.shelf) (some_same d k doc) says_doc) refl not_judged f;
      refused_many = tt;
    }
completes_for (Explain q) within s a m b keeps o diag = record {
  well = λ holds reads writes. explain_well q holds.0 s a m o holds.1 holds.2
      (no_read (Explain q) s a m b keeps diag reads (λ is. lacks_none (Explain q) s a m b keeps diag q IsQuery refl holds (λ d none. absurd (none_some d none)) (λ t none. absurd (none_some t none))))
      (no_write (Explain q) s a m b keeps diag writes);
  refused = λ n f is. subst (λ (k : List ℕ). HoldsSuch a.shelf.names k (λ bytes. QueryFaultOf bytes f) → ReadsWell a b → Ends (status.QueryRefused f) s) (some_same q n is)
      (refused_if (Explain q) s a m b keeps diag q f (explain_query_says q s a m o) (λ e. explain_stage q a m (subst (λ (t : Status). ExplainDoes q t a m) e o))
      (never_usage (Explain q) s a m o));
  refused_document = λ n k f query doc. absurd (none_some k doc);
  refused_many = tt;
}
completes_for (Gen seed count) within s a m b keeps o diag = record {
  well = λ writes. gen_well seed count s a m o (no_write (Gen seed count) s a m b keeps diag writes);
  refused = λ n f is. absurd (none_some n is);
  refused_document = λ n k f query doc. absurd (none_some n query);
  refused_many = tt;
}
completes_for (Selfrun seed count) within s a m b keeps o diag = record {
  well = λ writes. self_well seed count s a m o (no_write (Selfrun seed count) s a m b keeps diag writes);
  refused = λ n f is. absurd (none_some n is);
  refused_document = λ n k f query doc. absurd (none_some n query);
  refused_many = tt;
}
completes_for (Many d ps) within s a m b keeps o diag = record {
  well = λ hq hd telling reads writes. many_well d ps within.1 s a m o hq hd (subst (λ (v : ShelfView). IsTelling v.names) diag.shelf telling)
      (no_read (Many d ps) s a m b keeps diag reads (λ is. many_there IsDocument hq hd)) (no_write (Many d ps) s a m b keeps diag writes);
  refused = λ n f is. absurd (none_some n is);
  refused_document = λ n k f query doc. absurd (none_some n query);
  refused_many = record {
    query = λ before p behind f split hq h reads. many_refuses (Many d ps) d ps before p behind f split a.shelf m.shelf hq h s o.1
        (no_read (Many d ps) s a m b keeps diag reads
        (λ is. no_file_lacks (Many d ps) d ps before p behind f split a.shelf m.shelf hq h (subst (λ (t : Status). ManyEnds d ps t a.shelf m.shelf) is o.1)));
    document = λ f hq hd telling reads writes. many_refuses_doc d ps within.1 f s a.shelf m.shelf o.1 hq hd (subst (λ (v : ShelfView). IsTelling v.names) diag.shelf telling)
        (no_read (Many d ps) s a m b keeps diag reads (λ is. many_there (λ bytes. FaultIs full_limits bytes true (Some f)) hq hd)) (no_write (Many d ps) s a m b keeps diag writes);
  };
}
  where
    -- each file is there
    many_there : (P : List ℕ → Type 0) → AreQueries a.shelf.names ps → HoldsSuch a.shelf.names d P → LacksFile (Many d ps) a.shelf m.shelf → ⊥
    many_there P hq hd lacks = elim lacks.is_file [
      | inl is ↦ none_some lacks.name is
      | inr others ↦ elim others [
        | inl is ↦ there a.shelf.names lacks.name hd.0 (ap (content_of a.shelf.names) (sym (some_same d lacks.name is)) ∙ hd.1) lacks.missing
        | inr more ↦ elim more [
          | inl is ↦ none_some lacks.name is
          | inr among ↦ (let h = found ps hq among in there a.shelf.names lacks.name h.0 h.1 lacks.missing)
        ]
      ]
    ]
      where
        found : (xs : List Pair) → AreQueries a.shelf.names xs → In lacks.name (map (λ p. p.query) xs) → (bytes : List ℕ) × (content_of a.shelf.names lacks.name ≡ Some bytes)
        found [] each among = absurd among
        found (x ∷ xs) each (inl same) = let h = each 0 x refl in (h.0, ap (content_of a.shelf.names) (sym same) ∙ h.1)
        found (x ∷ xs) each (inr more) = found xs (λ i p is. each (suc i) p is) more
completes_for (Check q d t) within s a m b keeps o diag =
    let says = check_query_says q d t s a m o in
    let says_doc = check_doc_says q d t s a m o in
    record {
      well = λ hq hd ht. ends_if (Check q d t) s a m b keeps diag q d refl refl says says_doc hq hd
          (λ n is. (ht.0, ap (content_of a.shelf.names) (sym (some_same t n is)) ∙ ht.1));
      refused = λ n f is. subst (λ (k : List ℕ). HoldsSuch a.shelf.names k (λ bytes. QueryFaultOf bytes f) → ReadsWell a b → Ends (status.QueryRefused f) s) (some_same q n is)
          (refused_if (Check q d t) s a m b keeps diag q f says (λ e. check_stage q d t a m (subst (λ (z : Status). CheckDoes q d t z a m) e o))
          (never_usage (Check q d t) s a m o));
      refused_document = λ n k f query doc hq hd. refused_document_by (Check q d t) s a m b keeps diag n k query doc
          (subst (λ (l : List ℕ). QuerySays l s a.shelf m.shelf) (some_same q n query) says) (subst (λ (l : List ℕ). DocSays l s a.shelf m.shelf) (some_same d k doc) says_doc) f hq hd
          (λ is. document_not (Check q d t) q d t hq.0 hd.0 f a m (ap (content_of a.shelf.names) (some_same q n query) ∙ hq.1)
          (ap (content_of a.shelf.names) (some_same d k doc) ∙ hd.1) hd.2 (subst (λ (z : Status). CheckDoes q d t z a m) is o));
      refused_many = tt;
    }

-- what a command line does says which status must come
pub completes : (words : List (List ℕ)) (s : Status) (a b : World) → Does words s a b → Completes words s a b
completes words s a b does = λ c asked.
    let done : DoesIf (Some c) s a does.between = subst (λ (o : Option Command). DoesIf o s a does.between) asked does.done in
    completes_for c (asked_within words c asked) s a does.between b done.0 done.1 does.diagnosed

-- at Ok each OUT of `many` holds the answer of its QUERY
pub answers_many : (words : List (List ℕ)) (s : Status) (a b : World) → Does words s a b → AnswersMany words s a b
answers_many words s a b does d ps asked ok telling i p query_bytes document_bytes is_p told_q told_d q doc accepted spelled =
    let done : DoesIf (Some (Many d ps)) s a does.between = subst (λ (o : Option Command). DoesIf o s a does.between) asked does.done in
    let r : ManyDoes d ps status.Ok a does.between = subst (λ (t : Status). ManyDoes d ps t a does.between) ok done.1 in
    let shelf = does.diagnosed.shelf in
    ap (λ (v : ShelfView). content_of v.names p.out) shelf
    ∙ out_holds d ps (asked_within words (Many d ps) asked).1 a.shelf does.between.shelf r.1.0 r.1.1 (subst (λ (v : ShelfView). IsTelling v.names) shelf telling) i p query_bytes document_bytes is_p told_q told_d q doc accepted spelled
