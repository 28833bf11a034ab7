-- At the end of a document nothing is held, and all roles that were given are taken back.
use Rattle.std.proofs.Common.{◌≡◌, ℕ, true, List, [], ◌∷◌, ◌++◌, map, refl, sym, ◌∙◌, ap, subst, None, Option}
use Rattle.std.specs.Prelude.{Result, ⊤, OnOk}
use Rattle.std.proofs.lemmas.List.{map-append}
use Rattle.gcx_base.specs.declared.limits.Limits.{Limits}
use Rattle.gcx_model.specs.declared.fault.DocFault.{DocFault}
use Rattle.gcx_model.specs.Document.{Nodes, tokens, tree_of}
use Rattle.gcx_model.specs.Tree.{Tree, TreeToken as Said, End}
use Rattle.gcx_model.specs.PlanView.{plan_tree}
use Rattle.gcx_model.specs.Held.{held, sum_given, sum_taken}
use Rattle.gcx_model.specs.Points.{actions, so_far}
use Rattle.gcx_model.specs.Past.{Past}
use Rattle.gcx_model.specs.Run.{Action}
use Rattle.gcx_model.specs.Seen.{SeenIs, seen_tree}
use Rattle.tree_laws.specs.Growth.{AllClosed}
use Rattle.tree_laws.proofs.Documents.{documents_grow}
use Rattle.placed_laws.proofs.Balances.{empty_law}
use Rattle.run_laws.proofs.Summing.{taken_is_given}
use Rattle.doc_laws.proofs.LastTag.{seen_one}
use Rattle.doc_reader.specs.Standing.{Token, EndOfDocument, ReaderView, Stands, Accepted, GivesBy, Gives, answer_by, waiting, given_token, reader_tokens, said_of}
use Rattle.doc_reader.proofs.Givings.{said-map}
use Rattle.buf_tree.specs.Shape.{Cell}
use Rattle.buf_tree.specs.View.{capped}
use Rattle.buf_tree.specs.Stands.{seen, told}
use Rattle.engine.specs.View.{EngineView}
use Rattle.engine.specs.Engine.{StandsOf}
use Rattle.run_part.specs.Actors.{past_at, all_of}
use Rattle.run_part.proofs.Writing.{all_is}

document_tokens : (d : Nodes) → map said_of (reader_tokens d) ≡ tokens d ++ End ∷ []
document_tokens d = map-append said_of (map given_token (tokens d)) (EndOfDocument ∷ []) ∙ ap (λ (z : List Said). z ++ End ∷ []) (said-map (tokens d))

-- the tokens seen at the end of an accepted document are its own
pub document_seen : (r : ReaderView) (lim : Limits) (b : List ℕ) (given : List Token) → Stands r lim b true given → r.refused ≡ None → (a : Accepted b (given ++ waiting r)) → (us : List Said) → SeenIs lim b true us → us ≡ tokens a.document ++ End ∷ []
document_seen r lim b given s fresh a us h =
    let g : Gives lim b true (given ++ waiting r) = subst (λ (o : Option DocFault). GivesBy o lim b true (given ++ waiting r)) fresh s.gives in
    seen_one lim b true us (map said_of (given ++ waiting r)) h g.seen ∙ (ap (map said_of) a.tokens_are ∙ document_tokens a.document)

-- so the tree is that of the document, all closed
pub document_closed : (us : List Said) (d : Nodes) → us ≡ tokens d ++ End ∷ [] → seen_tree us ≡ tree_of d
document_closed us d e = ap seen_tree e

no_rows : (past : Past) (xs : List Cell) → map seen xs ≡ map (told past) [] → xs ≡ []
no_rows past [] e = refl
no_rows past (x ∷ xs) e = absurd (cc)

module _ {C : Type 0} (stands : C → Tree → Type 0) (lim : Limits) (d : EngineView C) (b : List ℕ) (s : StandsOf stands lim d b true) (doc : Nodes) (is : map said_of s.given ≡ tokens doc ++ End ∷ [])
    (closed : AllClosed (tree_of doc)) where
  abbrev P : Tree
  P = seen_tree (map said_of s.given)

  all_closed : AllClosed P
  all_closed = subst (λ (T : Tree). AllClosed T) (sym (document_closed (map said_of s.given) doc is)) closed

  pub nothing_held : d.actors.buffer.rows ≡ []
  nothing_held =
      let a = s.parts.actors in
      let p = a.beside.buffer.is_past in
      let plan = plan_tree d.plan in
      let none : held plan P (actions plan P) ≡ [] = empty_law p.core p.good plan p.placed P p.grown all_closed in
      let none' : held plan P (so_far plan P (all_of plan P)) ≡ [] = ap (λ (A : List Action). held plan P A) (all_is plan P) ∙ none in
      no_rows (past_at plan P (all_of plan P) a.fed) d.actors.buffer.rows (a.beside.buffer.rows ∙ ap (map (told (past_at plan P (all_of plan P) a.fed))) none')

  pub all_taken_back : d.actors.counts.given ≡ d.actors.buffer.taken
  all_taken_back =
      let a = s.parts.actors in
      let p = a.beside.buffer.is_past in
      let plan = plan_tree d.plan in
      let same : sum_taken plan P (actions plan P) ≡ sum_given plan P = taken_is_given.0 p.core p.good plan p.placed P p.grown all_closed in
      s.parts.counts.given ∙ (ap capped (sym same) ∙ (ap (λ (A : List Action). capped (sum_taken plan P A)) (sym (all_is plan P)) ∙ sym a.beside.taken))

-- what the reader accepted
pub accepted_at : (r : ReaderView) (a : Result ⊤ DocFault) (b : List ℕ) (ts : List Token) → a ≡ answer_by r.refused → r.refused ≡ None → OnOk a (Accepted b ts) → Accepted b ts
accepted_at r a b ts e fresh h = subst (λ (z : Result ⊤ DocFault). OnOk z (Accepted b ts)) (e ∙ ap answer_by fresh) h

module _ {C : Type 0} (stands : C → Tree → Type 0) (lim : Limits) (d : EngineView C) (b : List ℕ) (s : StandsOf stands lim d b true) (r : ReaderView) (given : List Token) (h : Stands r lim b true given) (fresh : r.refused ≡ None)
    (a : Accepted b (given ++ waiting r)) where
  pub end_empty : d.actors.buffer.rows ≡ []
  end_empty = nothing_held stands lim d b s a.document (document_seen r lim b given h fresh a (map said_of s.given) s.seen) (documents_grow a.document a.is_document).1

  pub end_balance : d.actors.counts.given ≡ d.actors.buffer.taken
  end_balance = all_taken_back stands lim d b s a.document (document_seen r lim b given h fresh a (map said_of s.given) s.seen) (documents_grow a.document a.is_document).1
