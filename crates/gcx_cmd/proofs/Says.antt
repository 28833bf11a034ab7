-- What a command says of the bytes of QUERY and of DOC, where the shelf tells them.
use Rattle.std.proofs.Common.{◌≡◌, inl, inr, ℕ, ◌+◌, ◌<◌, Bool, true, List, ◌++◌, length, Option, Some, None, refl, sym, ap, subst, ◌∙◌, arith, append-nil, length-append}
use Rattle.std.specs.Io.KnownBytes.{Consumes, IsAtEnd}
use Rattle.std.specs.Prelude.{⊤}
use Rattle.gcx_base.specs.Limits.{full_limits}
use Rattle.gcx_io.specs.Shelf.{content_of}
use Rattle.gcx_io.specs.Views.{ShelfView}
use Rattle.gcx_io.specs.Writing.{joined}
use Rattle.gcx_model.specs.Faults.{FaultIs}
use Rattle.gcx_model.specs.Query.{ExprTree}
use Rattle.gcx_model.specs.declared.fault.DocFault.{DocFault}
use Rattle.gcx_model.specs.declared.fault.QueryFault.{QueryFault}
use Rattle.gcx_model.specs.declared.fault.QueryFault.TheVariants.{Utf8, Lex, Syntax, UnknownVar, TagMismatch, DescendantNotLast, IntegerWide, TooLarge, Memory}
use Rattle.gcx_model.specs.declared.fault.What.{What}
use Rattle.gcx_model.specs.declared.fault.What.TheVariants.{Text}
use Rattle.doc_laws.proofs.Pieces.{fault_stays}
use Rattle.run_words.specs.Stops.{Stop, More, EndAnswered, FaultAnswered}
use Rattle.xq_parse.specs.Faults.{TextFaultOf, HasOnlyQuery}
use Rattle.gcx_cmd.specs.CheckDoes.{CheckDoes}
use Rattle.gcx_cmd.specs.DocumentDoes.{HasFault}
use Rattle.gcx_cmd.specs.ExplainDoes.{ExplainDoes}
use Rattle.gcx_cmd.specs.Main.{Accepts, IsDocument, IsOneQuery, QueryFaultOf, SaysOfDocument, SaysOfQuery}
use Rattle.gcx_cmd.specs.World.{World}
use Rattle.gcx_cmd.specs.PeakDoes.{PeakDoes}
use Rattle.gcx_cmd.specs.QueryDoes.{AcceptsQuery, RefusesText}
use Rattle.gcx_cmd.specs.Reads.{Reads, ReadsAsking, most_of_query}
use Rattle.gcx_cmd.specs.RunDoes.{RunDoes}
use Rattle.gcx_cmd.specs.WholeDoes.{WholeDoes}
use Rattle.gcx_cmd.specs.declared.status.Status.{Status}
use Rattle.gcx_cmd.specs.declared.status.Status.TheVariants as status

-- ---- bytes that are told

pub given_all : (bytes b : List ℕ) (left : Option (List ℕ)) → Consumes (Some bytes) left b → IsAtEnd left → bytes ≡ b
given_all bytes b None m e = absurd m
given_all bytes b (Some rest) m e = m ∙ ap (λ (l : List ℕ). b ++ l) e ∙ append-nil b

pub given_part : (bytes b : List ℕ) (left : Option (List ℕ)) → Consumes (Some bytes) left b → (rest : List ℕ) × (bytes ≡ b ++ rest)
given_part bytes b None m = absurd m
given_part bytes b (Some rest) m = (rest, m)

module _ (name bytes : List ℕ) (h : ℕ) (a b : ShelfView) (ps : List (List ℕ)) (told : content_of a.names name ≡ Some bytes) where
  pub read_all : {asked : ℕ} → ReadsAsking asked name h a b ps EndAnswered → bytes ≡ joined ps
  read_all r = given_all bytes (joined ps) r.handle.left (subst (λ (o : Option (List ℕ)). Consumes o r.handle.left (joined ps)) told r.told) (r.at_end refl)

  pub read_part : {asked : ℕ} (stop : Stop) → ReadsAsking asked name h a b ps stop → (rest : List ℕ) × (bytes ≡ joined ps ++ rest)
  read_part stop r = given_part bytes (joined ps) r.handle.left (subst (λ (o : Option (List ℕ)). Consumes o r.handle.left (joined ps)) told r.told)

-- ---- too many bytes

too_large : (bytes : List ℕ) → most_of_query < length bytes → TextFaultOf bytes (TooLarge Text most_of_query)
too_large bytes long = inl (refl, refl, long)

-- the one fault of bytes that are too many
same_fault : (bytes : List ℕ) (f : QueryFault) → most_of_query < length bytes → TextFaultOf bytes f → f ≡ TooLarge Text most_of_query
same_fault bytes f long (inr h) = absurd (let s = h.lexed.short in omega arith)
same_fault bytes (Utf8 at) long (inl h) = absurd (let s = h.0 in omega arith)
same_fault bytes (Lex at) long (inl h) = absurd (let s = h.short in omega arith)
same_fault bytes (IntegerWide at) long (inl h) = absurd (let s = h.short in omega arith)
same_fault bytes (Syntax at) long (inl h) = absurd h
same_fault bytes (TagMismatch at) long (inl h) = absurd h
same_fault bytes (UnknownVar at) long (inl h) = absurd h
same_fault bytes (DescendantNotLast at) long (inl h) = absurd h
same_fault bytes (TooLarge what limit) long (inl h) =
    subst (λ (w : What). TooLarge w limit ≡ TooLarge Text most_of_query) (sym h.0) (ap (λ (n : ℕ). TooLarge Text n) h.1)
same_fault bytes Memory long (inl h) = absurd h

long_query : (bytes : List ℕ) → most_of_query < length bytes → QueryFaultOf bytes (TooLarge Text most_of_query)
long_query bytes long =
    inl (too_large bytes long, record { once = λ f k. same_fault bytes f long k; no_query = λ q s _. let short = s.lexed.short in let over = long in omega arith })

-- ---- QUERY

abbrev pub QuerySays : List ℕ → Status → ShelfView → ShelfView → Type 0
QuerySays q status.Ok a b = (x : List ExprTree) × AcceptsQuery q a b x
QuerySays q status.Usage a b = ⊥
QuerySays q (status.QueryRefused f) a b = RefusesText q f a b
QuerySays q (status.DocumentRefused f) a b = (x : List ExprTree) × AcceptsQuery q a b x
QuerySays q status.ReadFault a b = ⊤
QuerySays q status.WriteFault a b = (x : List ExprTree) × AcceptsQuery q a b x
QuerySays q status.Memory a b = ⊤
QuerySays q (status.TraceRefused n) a b = (x : List ExprTree) × AcceptsQuery q a b x

pub run_query_says : (tracing : Bool) (ahead : ℕ) (q d : List ℕ) (s : Status) (a b : World) → RunDoes tracing ahead q d s a b → QuerySays q s a.shelf b.shelf
run_query_says tracing ahead q d status.Ok a b r = (r.0.x, r.0.over.query)
run_query_says tracing ahead q d status.Usage a b r = r
run_query_says tracing ahead q d (status.QueryRefused f) a b r = r.1
run_query_says tracing ahead q d (status.DocumentRefused f) a b r = (r.x, r.over.query)
run_query_says tracing ahead q d status.ReadFault a b r = tt
run_query_says tracing ahead q d status.WriteFault a b r = (r.x, r.over.query)
run_query_says tracing ahead q d status.Memory a b r = tt
run_query_says tracing ahead q d (status.TraceRefused n) a b r = absurd r

pub whole_query_says : (q d : List ℕ) (s : Status) (a b : World) → WholeDoes q d s a b → QuerySays q s a.shelf b.shelf
whole_query_says q d status.Ok a b r = (r.x, r.over.query)
whole_query_says q d status.Usage a b r = r
whole_query_says q d (status.QueryRefused f) a b r = r.1
whole_query_says q d (status.DocumentRefused f) a b r = (r.x, r.over.query)
whole_query_says q d status.ReadFault a b r = tt
whole_query_says q d status.WriteFault a b r = (r.x, r.over.query)
whole_query_says q d status.Memory a b r = tt
whole_query_says q d (status.TraceRefused n) a b r = absurd r

pub peak_query_says : (q d : List ℕ) (s : Status) (a b : World) → PeakDoes q d s a b → QuerySays q s a.shelf b.shelf
peak_query_says q d status.Ok a b r = (r.0.x, r.0.over.query)
peak_query_says q d status.Usage a b r = r
peak_query_says q d (status.QueryRefused f) a b r = r.1
peak_query_says q d (status.DocumentRefused f) a b r = (r.x, r.over.query)
peak_query_says q d status.ReadFault a b r = tt
peak_query_says q d status.WriteFault a b r = (r.x, r.over.query)
peak_query_says q d status.Memory a b r = tt
peak_query_says q d (status.TraceRefused n) a b r = absurd r

pub explain_query_says : (q : List ℕ) (s : Status) (a b : World) → ExplainDoes q s a b → QuerySays q s a.shelf b.shelf
explain_query_says q status.Ok a b r = (r.x, r.query)
explain_query_says q status.Usage a b r = r
explain_query_says q (status.QueryRefused f) a b r = r.1
explain_query_says q (status.DocumentRefused f) a b r = absurd r
explain_query_says q status.ReadFault a b r = tt
explain_query_says q status.WriteFault a b r = (r.x, r.query)
explain_query_says q status.Memory a b r = tt
explain_query_says q (status.TraceRefused n) a b r = absurd r

pub check_query_says : (q d t : List ℕ) (s : Status) (a b : World) → CheckDoes q d t s a b → QuerySays q s a.shelf b.shelf
check_query_says q d t status.Ok a b r = (r.x, r.over.query)
check_query_says q d t status.Usage a b r = r
check_query_says q d t (status.QueryRefused f) a b r = r.1
check_query_says q d t (status.DocumentRefused f) a b r = (r.x, r.over.query)
check_query_says q d t status.ReadFault a b r = tt
check_query_says q d t status.WriteFault a b r = (r.x, r.over.query)
check_query_says q d t status.Memory a b r = tt
check_query_says q d t (status.TraceRefused n) a b r = (r.x, r.over.query)

module _ (q bytes : List ℕ) (a b : ShelfView) (told : content_of a.names q ≡ Some bytes) where
  pub one_query : (x : List ExprTree) → AcceptsQuery q a b x → IsOneQuery bytes
  one_query x w =
      let all = sym (read_all q bytes (length a.given) a b w.pieces told w.reads) in
      (x, subst (λ (l : List ℕ). Accepts l x) all w.accepts, subst (λ (l : List ℕ). HasOnlyQuery l x) all w.only)

  pub refused_query : (f : QueryFault) → RefusesText q f a b → QueryFaultOf bytes f
  refused_query f w = elim w.why [
    | inl whole ↦ subst (λ (l : List ℕ). QueryFaultOf l f) (sym (read_all q bytes (length a.given) a b w.pieces told whole.0)) whole.2
    | inr long ↦ (
        let part = read_part q bytes (length a.given) a b w.pieces told More long.0 in
        subst (λ (g : QueryFault). QueryFaultOf bytes g) (sym long.2) (long_query bytes (omega (arith, long.1.past, ap length part.1, length-append (joined w.pieces) part.0))))
  ]

  pub says_of_query : (s : Status) → QuerySays q s a b → SaysOfQuery s bytes
  says_of_query status.Ok w = one_query w.0 w.1
  says_of_query status.Usage w = w
  says_of_query (status.QueryRefused f) w = refused_query f w
  says_of_query (status.DocumentRefused f) w = one_query w.0 w.1
  says_of_query status.ReadFault w = tt
  says_of_query status.WriteFault w = one_query w.0 w.1
  says_of_query status.Memory w = tt
  says_of_query (status.TraceRefused n) w = one_query w.0 w.1

-- ---- DOC

-- all of DOC was read, and it has no fault
abbrev pub DocIsClean : List ℕ → ShelfView → ShelfView → Type 0
DocIsClean d a b = (ps : List (List ℕ)) × Reads d (length a.given + 1) a b ps EndAnswered × FaultIs full_limits (joined ps) true None

abbrev pub DocSays : List ℕ → Status → ShelfView → ShelfView → Type 0
DocSays d status.Ok a b = DocIsClean d a b
DocSays d (status.TraceRefused n) a b = DocIsClean d a b
DocSays d (status.DocumentRefused f) a b = (ps : List (List ℕ)) × (stop : Stop) × Reads d (length a.given + 1) a b ps stop × HasFault f ps stop
DocSays d s a b = ⊤

pub run_doc_says : (tracing : Bool) (ahead : ℕ) (q d : List ℕ) (s : Status) (a b : World) → RunDoes tracing ahead q d s a b → DocSays d s a.shelf b.shelf
run_doc_says tracing ahead q d status.Ok a b r =
    (r.0.pieces, subst (λ (z : Stop). Reads d (length a.shelf.given + 1) a.shelf b.shelf r.0.pieces z) r.0.ends.0 r.0.over.doc, r.0.ends.1)
run_doc_says tracing ahead q d status.Usage a b r = absurd r
run_doc_says tracing ahead q d (status.QueryRefused f) a b r = tt
run_doc_says tracing ahead q d (status.DocumentRefused f) a b r = (r.pieces, r.stop, r.over.doc, record { calm = r.ends.0; fault = r.ends.1 })
run_doc_says tracing ahead q d status.ReadFault a b r = tt
run_doc_says tracing ahead q d status.WriteFault a b r = tt
run_doc_says tracing ahead q d status.Memory a b r = tt
run_doc_says tracing ahead q d (status.TraceRefused n) a b r = absurd r

pub whole_doc_says : (q d : List ℕ) (s : Status) (a b : World) → WholeDoes q d s a b → DocSays d s a.shelf b.shelf
whole_doc_says q d status.Ok a b r =
    let clean = r.ends.1.clean in
    (r.pieces, subst (λ (z : Stop). Reads d (length a.shelf.given + 1) a.shelf b.shelf r.pieces z) clean.at_end r.over.doc, clean.clean)
whole_doc_says q d status.Usage a b r = absurd r
whole_doc_says q d (status.QueryRefused f) a b r = tt
whole_doc_says q d (status.DocumentRefused f) a b r = (r.pieces, r.stop, r.over.doc, r.ends.0)
whole_doc_says q d status.ReadFault a b r = tt
whole_doc_says q d status.WriteFault a b r = tt
whole_doc_says q d status.Memory a b r = tt
whole_doc_says q d (status.TraceRefused n) a b r = absurd r

pub peak_doc_says : (q d : List ℕ) (s : Status) (a b : World) → PeakDoes q d s a b → DocSays d s a.shelf b.shelf
peak_doc_says q d status.Ok a b r =
    let clean = r.0.ends.1.clean in
    (r.0.pieces, subst (λ (z : Stop). Reads d (length a.shelf.given + 1) a.shelf b.shelf r.0.pieces z) clean.at_end r.0.over.doc, clean.clean)
peak_doc_says q d status.Usage a b r = absurd r
peak_doc_says q d (status.QueryRefused f) a b r = tt
peak_doc_says q d (status.DocumentRefused f) a b r = (r.pieces, r.stop, r.over.doc, r.ends.0)
peak_doc_says q d status.ReadFault a b r = tt
peak_doc_says q d status.WriteFault a b r = tt
peak_doc_says q d status.Memory a b r = tt
peak_doc_says q d (status.TraceRefused n) a b r = absurd r

pub check_doc_says : (q d t : List ℕ) (s : Status) (a b : World) → CheckDoes q d t s a b → DocSays d s a.shelf b.shelf
check_doc_says q d t status.Ok a b r = (r.over.doc_pieces, r.over.doc, r.over.tokens.clean.clean)
check_doc_says q d t status.Usage a b r = absurd r
check_doc_says q d t (status.QueryRefused f) a b r = tt
check_doc_says q d t (status.DocumentRefused f) a b r = (r.pieces, r.stop, r.over.doc, r.says)
check_doc_says q d t status.ReadFault a b r = tt
check_doc_says q d t status.WriteFault a b r = tt
check_doc_says q d t status.Memory a b r = tt
check_doc_says q d t (status.TraceRefused n) a b r = (r.over.doc_pieces, r.over.doc, r.over.tokens.clean.clean)

module _ (d bytes : List ℕ) (a b : ShelfView) (told : content_of a.names d ≡ Some bytes) where
  faulted : (f : DocFault) (ps : List (List ℕ)) (stop : Stop) → Reads d (length a.given + 1) a b ps stop → HasFault f ps stop → FaultIs full_limits bytes true (Some f)
  faulted f ps EndAnswered r w = subst (λ (l : List ℕ). FaultIs full_limits l true (Some f)) (sym (read_all d bytes (length a.given + 1) a b ps told r)) w.fault
  faulted f ps More r w =
      let part = read_part d bytes (length a.given + 1) a b ps told More r in
      subst (λ (l : List ℕ). FaultIs full_limits l true (Some f)) (sym part.1) (fault_stays full_limits (joined ps) part.0 true f w.fault)
  faulted f ps FaultAnswered r w = absurd w.calm

  pub clean_document : DocIsClean d a b → IsDocument bytes
  clean_document w = subst (λ (l : List ℕ). FaultIs full_limits l true None) (sym (read_all d bytes (length a.given + 1) a b w.0 told w.1)) w.2

  pub says_of_document : (s : Status) → DocSays d s a b → SaysOfDocument s bytes
  says_of_document status.Ok w = clean_document w
  says_of_document status.Usage w = tt
  says_of_document (status.QueryRefused f) w = tt
  says_of_document (status.DocumentRefused f) w = faulted f w.0 w.1 w.2 w.3
  says_of_document status.ReadFault w = tt
  says_of_document status.WriteFault w = tt
  says_of_document status.Memory w = tt
  says_of_document (status.TraceRefused n) w = clean_document w
