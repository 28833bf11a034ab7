-- What is seen is a growing open tree, and more bytes give more tokens.
use Rattle.std.proofs.Common.{ℕ, ◌≡◌, ◌⊎◌, inl, inr, Bool, true, false, List, [], ◌∷◌, ◌++◌, length, None, refl, sym, ap, ◌∙◌, subst, append_assoc, append-nil, arith, length-append}
use Rattle.std.specs.List.{All}
use Rattle.std.proofs.lemmas.Bool.{true≢false, false≢true, and_parts, and_from}
use Rattle.std.proofs.lemmas.List.Elements.{All-nil, All-cons, All-head, All-tail, All-append}
use lib.Utf8.{encodes}
use Rattle.gcx_base.specs.declared.limits.Limits.{Limits}
use Rattle.gcx_model.specs.Document.{Nodes, none, element, text, AreNodes, IsDocument, tokens}
use Rattle.gcx_model.specs.Tree.{Tree, TreeToken, Start, Chars, End, opening, grow}
use Rattle.gcx_model.specs.Growth.{Leads, may_come, may_all}
use Rattle.gcx_model.specs.Grammar.{SpellsDocument}
use Rattle.gcx_model.specs.Fronts.{bottom, no_piece}
use Rattle.gcx_model.specs.Faults.{FaultWithin, by_character, by_sequence, by_cut, by_end, none_yet, none_whole, FaultIs, within_limit, before_limit, past_limit}
use Rattle.gcx_model.specs.Seen.{SeenIn, IsLongest, DocumentEnds, closes, stays_open, SeenIs, seen_tree, open_ends, LastTag}
use Rattle.tree_laws.proofs.Documents.{document_comes}
use Rattle.tree_laws.proofs.Growing.{leads}
use Rattle.doc_laws.specs.Laws.{IsNamed}
use Rattle.doc_laws.specs.Machine.{State}
use Rattle.doc_laws.specs.States.{state_of, Fronts}
use Rattle.doc_laws.proofs.Fronts.{some_is}
use Rattle.doc_laws.proofs.Theorems.{fronts_lead, spells_leads}
use Rattle.doc_laws.proofs.Unique.{front_no_char}
use Rattle.doc_laws.proofs.Documents.{spells_document}
use Rattle.doc_laws.proofs.Seen.{fronts_after}
use Rattle.doc_laws.proofs.LastTag.{opens_front, last_tag, longest_is, longest_one}

-- the first of tokens that may come
may_first : (ts us : List TreeToken) (P : Tree) → may_all (ts ++ us) P ≡ true → may_all ts P ≡ true
may_first [] us P h = refl
may_first (t ∷ ts) us P h = let a = and_parts (may_come t P) (may_all (ts ++ us) (grow t P)) h in and_from _ _ a.0 (may_first ts us (grow t P) a.1)

-- the tokens are the first of a document's
record BeginsDocument (ts : List TreeToken) : Type 0 where
  document : Nodes
  is_document : IsDocument document
  rest : List TreeToken
  parts : tokens document ++ (End ∷ []) ≡ ts ++ rest

-- a document whose whole text is read
whole_document : (lim : Limits) (b : List ℕ) → FaultIs lim b true None → (cs : List ℕ) × (d : Nodes) × IsLongest lim b cs × SpellsDocument cs d
whole_document lim b (before_limit f k w e) = absurd (cc)
whole_document lim b (past_limit k w e) = absurd (cc)
whole_document lim b (within_limit k w) = by w
  where
    by : FaultWithin lim b true None → (cs : List ℕ) × (d : Nodes) × IsLongest lim b cs × SpellsDocument cs d
    by (by_character cs rest f s e c o) = absurd (cc)
    by (by_sequence cs i c o) = absurd (cc)
    by (by_cut cs tail d c n e o) = absurd (cc)
    by (by_end cs d c n e o) = absurd (cc)
    by (none_yet cs tail d c e o) = absurd (true≢false e)
    by (none_whole cs n d c s e o) = (
      cs,
      n,
      record {
        rest = [];
        chars = d.chars;
        parts = d.parts;
        within = omega (arith, k, ap length d.parts, length-append (encodes cs) []);
        clean = c;
        most = λ a more sc q l cl. front_no_char [] d.part a more sc q;
      },
      s,
    )

-- the tokens that are seen where a document is whole
whole_tokens : (cs : List ℕ) (d : Nodes) (ts : List TreeToken) → SpellsDocument cs d → SeenIn cs ts → ts ≡ tokens d
whole_tokens cs d ts s h =
    let e : state_of h.frames h.content h.piece ≡ state_of bottom s.content no_piece = some_is _ _ (sym (fronts_lead cs (state_of h.frames h.content h.piece) (opens_front cs h.frames h.content h.piece h.opens)) ∙ spells_leads cs d s) in
    h.tokens_are ∙ ap (λ (u : State). u.tokens) e ∙ ap tokens s.tree

-- what is seen is nothing, or the first tokens of a document
begins_document : (lim : Limits) (b : List ℕ) (over : Bool) (ts : List TreeToken) → SeenIs lim b over ts → (ts ≡ []) ⊎ BeginsDocument ts
begins_document lim b over ts h = by h.ends h.document_ends h.tokens_are
  where
    t : LastTag h.chars h.seen.frames h.seen.content
    t = last_tag h.chars h.seen.frames h.seen.content h.seen.piece h.seen.opens

    open_still : ts ≡ h.tags → (ts ≡ []) ⊎ BeginsDocument ts
    open_still e = elim (last_tag h.chars h.seen.frames h.seen.content h.seen.piece h.seen.opens).by_tag [
      | inl q ↦ inl (e ∙ h.seen.tokens_are ∙ q.1)
      | inr q ↦ inr (record {
        document = q.1;
        is_document = spells_document _ q.1 q.2;
        rest = open_ends q.0.frames ++ (End ∷ []);
        parts = ap (λ l. l ++ (End ∷ [])) (q.3 ∙ ap (λ l. l ++ open_ends q.0.frames) (sym (e ∙ h.seen.tokens_are))) ∙ append_assoc ts (open_ends q.0.frames) (End ∷ []);
      })
    ]

    by : (ends : List TreeToken) → DocumentEnds lim b over ends → ts ≡ h.tags ++ ends → (ts ≡ []) ⊎ BeginsDocument ts
    by ends (stays_open n e) k = open_still (k ∙ ap (λ l. h.tags ++ l) e ∙ append-nil h.tags)
    by ends (closes i f e) k =
        let w = whole_document lim b f in
        let same = longest_one lim b h.chars w.0 h.longest w.2 in
        let tags_are = whole_tokens w.0 w.1 h.tags w.3 (subst (λ l. SeenIn l h.tags) same h.seen) in
        inr (record {
          document = w.1;
          is_document = spells_document w.0 w.1 w.3;
          rest = [];
          parts = ap (λ l. l ++ (End ∷ [])) (sym tags_are) ∙ sym (k ∙ ap (λ l. h.tags ++ l) e) ∙ sym (append-nil ts);
        })

-- the tokens that are seen may come one by one
pub seen_comes : (lim : Limits) (b : List ℕ) (over : Bool) (ts : List TreeToken) → SeenIs lim b over ts → may_all ts opening ≡ true
seen_comes lim b over ts h = elim (begins_document lim b over ts h) [
  | inl e ↦ ap (λ l. may_all l opening) e
  | inr d ↦ may_first ts d.rest opening (ap (λ l. may_all l opening) (sym d.parts) ∙ document_comes d.document d.is_document)
]

pub seen_leads : (lim : Limits) (b : List ℕ) (over : Bool) (ts : List TreeToken) → SeenIs lim b over ts → Leads opening (seen_tree ts)
seen_leads lim b over ts h = leads ts opening (seen_comes lim b over ts h)

-- each start has a name
nodes_named : (d : Nodes) → AreNodes d → All IsNamed (tokens d)
nodes_named none g = All-nil IsNamed
nodes_named (element before n inner) g =
    All-append IsNamed (tokens before) (Start n ∷ (tokens inner ++ (End ∷ []))) (nodes_named before g.0)
    (All-cons IsNamed (Start n) (tokens inner ++ (End ∷ [])) g.1 (All-append IsNamed (tokens inner) (End ∷ []) (nodes_named inner g.2) (All-cons IsNamed End [] tt (All-nil IsNamed))))
nodes_named (text before t) g = All-append IsNamed (tokens before) (Chars t ∷ []) (nodes_named before g.0) (All-cons IsNamed (Chars t) [] tt (All-nil IsNamed))

document_nodes : (d : Nodes) → IsDocument d → AreNodes d
document_nodes none g = absurd g
document_nodes (element none n inner) g = g
document_nodes (element (element b m c) n inner) g = absurd g
document_nodes (element (text b t) n inner) g = absurd g
document_nodes (text before t) g = absurd g

named_first : (ts us : List TreeToken) → All IsNamed (ts ++ us) → All IsNamed ts
named_first [] us h = All-nil IsNamed
named_first (t ∷ ts) us h = All-cons IsNamed t ts (All-head IsNamed t (ts ++ us) h) (named_first ts us (All-tail IsNamed t (ts ++ us) h))

pub seen_named : (lim : Limits) (b : List ℕ) (over : Bool) (ts : List TreeToken) → SeenIs lim b over ts → All IsNamed ts
seen_named lim b over ts h = elim (begins_document lim b over ts h) [
  | inl e ↦ subst (All IsNamed) (sym e) (All-nil IsNamed)
  | inr d ↦ named_first ts d.rest (subst (All IsNamed) d.parts (All-append IsNamed (tokens d.document) (End ∷ []) (nodes_named d.document (document_nodes d.document d.is_document)) (All-cons IsNamed End [] tt (All-nil IsNamed))))
]

-- more bytes give more tokens
pub seen_more : (lim : Limits) (b more : List ℕ) (over : Bool) (ts us : List TreeToken) → SeenIs lim b false ts → SeenIs lim (b ++ more) over us → (rest : List TreeToken) × (us ≡ ts ++ rest)
seen_more lim b more over ts us h k =
    let l = h.longest in
    let m = longest_is lim (b ++ more) k.chars h.chars (l.rest ++ more) k.longest l.chars (ap (λ z. z ++ more) l.parts ∙ append_assoc (encodes h.chars) l.rest more) l.within l.clean in
    let s = state_of h.seen.frames h.seen.content h.seen.piece in
    let t = state_of k.seen.frames k.seen.content k.seen.piece in
    let a = fronts_after h.chars m.0 s t (opens_front h.chars h.seen.frames h.seen.content h.seen.piece h.seen.opens) (subst (λ z. Fronts z t) m.1 (opens_front k.chars k.seen.frames k.seen.content k.seen.piece k.seen.opens)) in
    let tags_are : k.tags ≡ h.tags ++ a.more = k.seen.tokens_are ∙ a.tokens_are ∙ ap (λ z. z ++ a.more) (sym h.seen.tokens_are) in
    let ts_are : ts ≡ h.tags = h.tokens_are ∙ ap (λ z. h.tags ++ z) (no_end h.ends h.document_ends) ∙ append-nil h.tags in
    (a.more ++ k.ends, k.tokens_are ∙ ap (λ z. z ++ k.ends) (tags_are ∙ ap (λ z. z ++ a.more) (sym ts_are)) ∙ append_assoc ts a.more k.ends)
  where
    no_end : (ends : List TreeToken) → DocumentEnds lim b false ends → ends ≡ []
    no_end ends (closes i f e) = absurd (false≢true i)
    no_end ends (stays_open n e) = e
