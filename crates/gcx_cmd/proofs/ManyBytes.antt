-- What the bytes of the QUERYs and of DOC say of how `many` ends, and what the OUTs hold then.
use Rattle.std.proofs.Common.{◌≡◌, ◌∙◌, inl, inr, ℕ, zero, suc, true, List, [], ◌∷◌, ◌++◌, length, map, slice_get, Option, Some, None, refl, sym, ap, subst, arith}
use Rattle.std.specs.Io.KnownBytes.{Consumes}
use Rattle.std.specs.Prelude.{unwrap_or}
use Rattle.gcx_base.specs.Limits.{full_limits}
use Rattle.gcx_io.specs.Bytes.{Grows}
use Rattle.gcx_io.specs.Calls.{fresh}
use Rattle.gcx_io.specs.Shelf.{IsTelling, Maps, Names, content_of}
use Rattle.gcx_io.specs.Views.{HandleView, ShelfView}
use Rattle.gcx_io.specs.Writing.{joined}
use Rattle.gcx_io.specs.declared.shelf.Handle.{Handle}
use Rattle.gcx_model.specs.Answer.{answer}
use Rattle.gcx_model.specs.Document.{Nodes}
use Rattle.gcx_model.specs.Faults.{FaultIs}
use Rattle.gcx_model.specs.Members.{In}
use Rattle.gcx_model.specs.Query.{ExprTree}
use Rattle.gcx_model.specs.declared.fault.DocFault.{DocFault}
use Rattle.gcx_model.specs.declared.fault.QueryFault.{QueryFault}
use Rattle.gcx_words.specs.Pairs.{are_apart}
use Rattle.gcx_words.proofs.Apart.{apart_others}
use Rattle.gcx_words.specs.declared.pairs.Pair.{Pair}
use Rattle.doc_laws.proofs.Pieces.{fault_stays}
use Rattle.run_words.specs.Ends.{RunEnd, Completed}
use Rattle.run_words.specs.Stops.{EndAnswered, FaultAnswered, IsCalm, More, Stop, is_end}
use Rattle.tree_read.specs.Document.{BytesSpell}
use Rattle.xq_parse.specs.Spelling.{QuerySpells}
use Rattle.many_run.specs.Files.{HaveOtherNames, NamesStay, bytes_in, name_of_handle}
use Rattle.many_run.proofs.Filing.{telling_back}
use Rattle.many_run.proofs.Walking.{not_there, some_is, there}
use Rattle.gcx_cmd.proofs.Manies.{MadeOuts, doc_is_none, doc_there, made_outs, outs_named, queries_count, queries_keep}
use Rattle.gcx_cmd.proofs.Says.{given_all, given_part, one_query, read_all, refused_query}
use Rattle.gcx_cmd.specs.Main.{Accepts, IsQuery, QueryFaultOf}
use Rattle.gcx_cmd.specs.ManyDoes.{AcceptsQueries, MakesOuts, RunsMany, StopsAtQuery, TakeAnswers}
use Rattle.gcx_cmd.specs.declared.status.Status.TheVariants as status

-- a name that stays holds what it held
content_stays : (P : List ℕ → Type 0) (x y : Names) (n : List ℕ) → NamesStay P x y → P n → IsTelling y → content_of y n ≡ content_of x n
content_stays P None None n stay p telling = absurd telling
content_stays P None (Some y) n stay p telling = absurd stay
content_stays P (Some x) None n stay p telling = absurd telling
content_stays P (Some x) (Some y) n stay p telling = stay.1 n p

-- ---- QUERYs

pub at_split : {X : Type 0} (before : List X) (x : X) (behind : List X) → slice_get (before ++ x ∷ behind) (length before) ≡ Some x
at_split [] x behind = refl
at_split (y ∷ before) x behind = at_split before x behind

-- the refused one has the fault of its bytes
pub refused_one : (ps : List Pair) (f : QueryFault) (a b : ShelfView) (h : StopsAtQuery ps (status.QueryRefused f) a b) → (bytes : List ℕ) → content_of a.names h.pair.query ≡ Some bytes → QueryFaultOf bytes f
refused_one ps f a b h bytes told =
    let k = (queries_keep h.before h.xs a h.m h.accepted).0 in
    refused_query h.pair.query bytes h.m b (ap (λ (n : Names). content_of n h.pair.query) k.names ∙ told) f h.stops

pub stopped_there : (ps : List Pair) (f : QueryFault) (a b : ShelfView) (h : StopsAtQuery ps (status.QueryRefused f) a b) → slice_get ps (length h.before) ≡ Some h.pair
stopped_there ps f a b h = subst (λ (l : List Pair). slice_get l (length h.before) ≡ Some h.pair) (sym h.split) (at_split h.before h.pair h.behind)

one_pair : (x y : Pair) → Some x ≡ Some y → x ≡ y
one_pair x y same = cc

one_of : (x y : List ExprTree) → Some x ≡ Some y → x ≡ y
one_of x y same = cc

-- the query of an accepted QUERY's bytes
pub accepted_there : (ps : List Pair) (xs : List (List ExprTree)) (a b : ShelfView) → AcceptsQueries ps a b xs → (i : ℕ) (p : Pair) → slice_get ps i ≡ Some p
    → (bytes : List ℕ) → content_of a.names p.query ≡ Some bytes → IsQuery bytes
accepted_there [] xs a b h i p at bytes told = let no : ⊥ = cc in absurd no
accepted_there (y ∷ ps) [] a b h i p at bytes told = absurd h
accepted_there (y ∷ ps) (z ∷ xs) a b (m, one, accepted, k, rest) zero p at bytes told =
    let w = one_query y.query bytes a m (ap (λ (r : Pair). content_of a.names r.query) (one_pair y p at) ∙ told) z accepted in (w.0, w.1)
accepted_there (y ∷ ps) (z ∷ xs) a b (m, one, accepted, k, rest) (suc i) p at bytes told =
    accepted_there ps xs m b rest i p at bytes (ap (λ (n : Names). content_of n p.query) k.names ∙ told)

-- the query of a QUERY's bytes is the one that was read
pub read_as : (ps : List Pair) (xs : List (List ExprTree)) (a b : ShelfView) → AcceptsQueries ps a b xs → (i : ℕ) (p : Pair) (x : List ExprTree) → slice_get ps i ≡ Some p → slice_get xs i ≡ Some x
    → (bytes : List ℕ) → content_of a.names p.query ≡ Some bytes → (q : List ExprTree) → QuerySpells bytes q → q ≡ x
read_as [] xs a b h i p x is_p is_x bytes told q spells = let no : ⊥ = cc in absurd no
read_as (y ∷ ps) [] a b h i p x is_p is_x bytes told q spells = absurd h
read_as (y ∷ ps) (z ∷ xs) a b (m, one, accepted, k, rest) zero p x is_p is_x bytes told q spells =
    let name : content_of a.names y.query ≡ Some bytes = ap (λ (r : Pair). content_of a.names r.query) (one_pair y p is_p) ∙ told in
    let all = read_all y.query bytes (length a.given) a m accepted.pieces name accepted.reads in
    accepted.only.once q (subst (λ (l : List ℕ). QuerySpells l q) all spells) ∙ one_of z x is_x
read_as (y ∷ ps) (z ∷ xs) a b (m, one, accepted, k, rest) (suc i) p x is_p is_x bytes told q spells =
    read_as ps xs m b rest i p x is_p is_x bytes (ap (λ (n : Names). content_of n p.query) k.names ∙ told) q spells

-- ---- DOC

module _ (d : List ℕ) (ps : List Pair) (apart : are_apart d ps ≡ true) (end : RunEnd) (a b : ShelfView) (r : RunsMany d ps end a b) (telling : IsTelling b.names) where
  outs : MadeOuts ps r.accepted r.made r.outs
  outs = made_outs ps r.outs r.accepted r.made r.makes

  telling_begun : IsTelling r.begun.names
  telling_begun = telling_back (HaveOtherNames r.begun r.outs) r.begun.names b.names r.run.others.names telling

  pub telling_made : IsTelling r.made.names
  telling_made = subst (λ (n : Names). IsTelling n) r.opens.1 telling_begun

  -- what DOC holds is what it held
  doc_held : content_of r.made.names d ≡ content_of a.names d
  doc_held =
      content_stays (λ name. In name (map (λ p. p.out) ps) → ⊥) r.accepted.names r.made.names d outs.names (doc_is_none d ps apart) telling_made
      ∙ ap (λ (n : Names). content_of n d) (queries_keep ps r.xs a r.accepted r.accepts).0.names

  -- the bytes that were read are a front of it
  doc_left : (bytes : List ℕ) → content_of a.names d ≡ Some bytes → Consumes (Some bytes) r.run.gave.new.left (joined r.run.pieces)
  doc_left bytes told =
      let opened = doc_there d ps apart r.outs r.accepted r.made r.begun r.makes r.doc r.opens.0 in
      let same : r.run.gave.old ≡ fresh d (content_of r.made.names d) = some_is (slice_get r.begun.given r.doc.0) r.run.gave.old (fresh d (content_of r.made.names d)) r.run.gave.was opened in
      subst (λ (o : Option (List ℕ)). Consumes o r.run.gave.new.left (joined r.run.pieces)) (ap (λ (v : HandleView). v.left) same ∙ (doc_held ∙ told)) (r.run.gave.told telling)

  pub doc_whole : (bytes : List ℕ) → content_of a.names d ≡ Some bytes → r.run.stop ≡ EndAnswered → bytes ≡ joined r.run.pieces
  doc_whole bytes told at_end = given_all bytes (joined r.run.pieces) r.run.gave.new.left (doc_left bytes told) (r.run.gave.at_end telling at_end)

  -- a refusal is of the bytes of DOC
  pub doc_refused : (f : DocFault) → IsCalm r.run.stop × FaultIs full_limits (joined r.run.pieces) (is_end r.run.stop) (Some f) → (bytes : List ℕ) → content_of a.names d ≡ Some bytes → FaultIs full_limits bytes true (Some f)
  doc_refused f why bytes told = go r.run.stop refl why
    where
      go : (stop : Stop) → r.run.stop ≡ stop → IsCalm stop × FaultIs full_limits (joined r.run.pieces) (is_end stop) (Some f) → FaultIs full_limits bytes true (Some f)
      go EndAnswered is w = subst (λ (l : List ℕ). FaultIs full_limits l true (Some f)) (sym (doc_whole bytes told is)) w.1
      go More is w =
          let part = given_part bytes (joined r.run.pieces) r.run.gave.new.left (doc_left bytes told) in
          subst (λ (l : List ℕ). FaultIs full_limits l true (Some f)) (sym part.1) (fault_stays full_limits (joined r.run.pieces) part.0 true f w.1)
      go FaultAnswered is w = absurd w.0

-- ---- the OUTs of a run that ended well

mapped_to : (x y : Names) (n bytes : List ℕ) → Maps x y n bytes → IsTelling y → content_of y n ≡ Some bytes
mapped_to None None n bytes maps telling = absurd telling
mapped_to None (Some y) n bytes maps telling = absurd maps
mapped_to (Some x) None n bytes maps telling = absurd maps
mapped_to (Some x) (Some y) n bytes maps telling = maps.0

-- each OUT holds no bytes where it is made
made_empty : (ps : List Pair) (os : List Handle) (a b : ShelfView) → MakesOuts ps a b os → ((i j : ℕ) (p q : Pair) → slice_get ps i ≡ Some p → slice_get ps j ≡ Some q → (i ≡ j → ⊥) → p.out ≡ q.out → ⊥) → IsTelling b.names
    → (i : ℕ) (p : Pair) → slice_get ps i ≡ Some p → content_of b.names p.out ≡ Some []
made_empty [] os a b makes apart telling i p at = let no : ⊥ = cc in absurd no
made_empty (q ∷ ps) [] a b makes apart telling i p at = absurd makes
made_empty (q ∷ ps) (o ∷ os) a b (m, first, rest) apart telling zero p at =
    let r = made_outs ps os m b rest in
    let here : IsTelling m.names = telling_back (λ name. In name (map (λ x. x.out) ps) → ⊥) m.names b.names r.names telling in
    subst (λ (x : Pair). content_of b.names x.out ≡ Some []) (one_pair q p at)
    (content_stays (λ name. In name (map (λ x. x.out) ps) → ⊥) m.names b.names q.out r.names (λ among. alone ps among (λ j x is same. apart 0 (suc j) q x refl is (λ e. absurd (omega (arith, e))) (sym same))) telling ∙ mapped_to a.names m.names q.out [] first.1 here)
  where
    alone : (xs : List Pair) → In q.out (map (λ x. x.out) xs) → ((j : ℕ) (x : Pair) → slice_get xs j ≡ Some x → x.out ≡ q.out → ⊥) → ⊥
    alone [] among other = among
    alone (x ∷ xs) (inl same) other = other 0 x refl same
    alone (x ∷ xs) (inr more) other = alone xs more (λ j y is same. other (suc j) y is same)
made_empty (q ∷ ps) (o ∷ os) a b (m, first, rest) apart telling (suc i) p at =
    made_empty ps os m b rest (λ j k x y is_x is_y other same. apart (suc j) (suc k) x y is_x is_y (λ e. other (less j k e)) same) telling i p at
  where
    less : (j k : ℕ) → suc j ≡ suc k → j ≡ k
    less j k e = omega (arith, e)

-- what took a text from nothing holds it
holds_text : (x y : Names) (n text : List ℕ) (P : List ℕ → Type 0) → NamesStay P x y → content_of x n ≡ Some [] → Grows (bytes_in x (Some n)) (bytes_in y (Some n)) text → IsTelling y → content_of y n ≡ Some text
holds_text None None n text P stay empty grew telling = absurd telling
holds_text None (Some y) n text P stay empty grew telling = absurd stay
holds_text (Some x) None n text P stay empty grew telling = absurd telling
holds_text (Some x) (Some y) n text P stay empty grew telling = go (y n) refl
  where
    nothing : unwrap_or (x n) [] ≡ []
    nothing = ap (λ (o : Option (List ℕ)). unwrap_or o []) empty

    go : (o : Option (List ℕ)) → y n ≡ o → y n ≡ Some text
    go None is =
        let none : x n ≡ None = stay.0 n is in
        let some : x n ≡ Some [] = empty in
        let no : ⊥ = cc in
        absurd no
    go (Some z) is = is ∙ ap Some (sym (ap (λ (o : Option (List ℕ)). unwrap_or o []) is) ∙ (grew ∙ ap (λ (l : List ℕ). l ++ text) nothing))

module _ (d : List ℕ) (ps : List Pair) (apart : are_apart d ps ≡ true) (a b : ShelfView) (r : RunsMany d ps Completed a b) (w : TakeAnswers r.xs r.outs r.run.pieces r.begun b) (telling : IsTelling b.names) where
  -- at Ok each OUT holds the answer of its QUERY
  pub out_holds : (i : ℕ) (p : Pair) (query_bytes document_bytes : List ℕ) → slice_get ps i ≡ Some p → content_of a.names p.query ≡ Some query_bytes → content_of a.names d ≡ Some document_bytes
      → (q : List ExprTree) (doc : Nodes) → Accepts query_bytes q → BytesSpell document_bytes doc → content_of b.names p.out ≡ Some (answer q doc)
  out_holds i p query_bytes document_bytes is_p told_q told_d q doc accepted spelled =
      let made = made_outs ps r.outs r.accepted r.made r.makes in
      let few = not_there ps i p is_p in
      let n = made.count in
      let count = queries_count ps r.xs a r.accepted r.accepts in
      let o = there r.outs i (omega (arith, few, n)) in
      let x = there r.xs i (omega (arith, few, count)) in
      let text = answer x.0 w.doc in
      let took = w.each i o.0 x.0 o.1 x.1 in
      let same : q ≡ x.0 = read_as ps r.xs a r.accepted r.accepts i p x.0 is_p x.1 query_bytes told_q q accepted.spells in
      let whole : document_bytes ≡ joined r.run.pieces = doc_whole d ps apart Completed a b r telling document_bytes told_d r.run.stops.0 in
      let one : doc ≡ w.doc = w.spells.only doc (subst (λ (l : List ℕ). BytesSpell l doc) whole spelled) in
      let named = outs_named d ps apart r.outs r.accepted r.made r.begun r.makes r.doc r.opens.0 i o.0 o.1 in
      let name : name_of_handle r.begun.given o.0.0 ≡ Some p.out = named.2 ∙ ap (λ (y : Pair). Some y.out) (some_is (slice_get ps i) named.0 p named.1 is_p) in
      let empty : content_of r.begun.names p.out ≡ Some []
      = ap (λ (z : Names). content_of z p.out) r.opens.1 ∙ made_empty ps r.outs r.accepted r.made r.makes (λ j k y z is_y is_z other same. apart_others d ps apart j k y z is_y is_z other same) (telling_made d ps apart Completed a b r telling) i p is_p in
      let grew : Grows (bytes_in r.begun.names (Some p.out)) (bytes_in b.names (Some p.out)) text
      = subst (λ (m : Option (List ℕ)). Grows (bytes_in r.begun.names (Some p.out)) (bytes_in b.names m) text) (r.run.others.names_of o.0.0 ∙ name)
      (subst (λ (m : Option (List ℕ)). Grows (bytes_in r.begun.names m) (bytes_in b.names (name_of_handle b.given o.0.0)) text) name took.told) in
      holds_text r.begun.names b.names p.out text (HaveOtherNames r.begun r.outs) r.run.others.names empty grew telling
      ∙ ap Some (ap (λ (y : List ExprTree). answer y w.doc) (sym same) ∙ ap (answer q) (sym one))
