-- The front up to its last tag, and the tags that are seen in bytes.
use Rattle.std.proofs.Common.{ℕ, ◌≡◌, ◌+◌, ◌<◌, ◌≤◌, ◌⊎◌, inl, inr, Bool, true, false, ◌||◌, List, [], ◌∷◌, ◌++◌, length, Err, Some, None, refl, sym, ap, ◌∙◌, subst, append_assoc, append-nil, arith, length-append}
use Rattle.std.proofs.lemmas.Bool.{true≢false, false≢true, and_parts, and_from, cases_lt}
use Rattle.std.proofs.lemmas.Str.{encode_same, encodes-append}
use lib.Utf8.{scalar, scalars, encode, encodes}
use Rattle.gcx_base.specs.Characters.{is_white}
use Rattle.gcx_base.specs.declared.limits.Limits.{Limits}
use Rattle.gcx_model.specs.Document.{Nodes, tokens}
use Rattle.gcx_model.specs.Tree.{TreeToken, Start, End}
use Rattle.gcx_model.specs.Attributes.{is_blank_text, Attributes, no_attribute, attribute, attributes_spelling}
use Rattle.gcx_model.specs.Grammar.{Content, nothing, mark, space, char, reference, cdata, comment, bare, instruction, doctype, single, tagged, spelling, has_element, text_run, with_run, attribute_nodes, nodes, SpellsDocument}
use Rattle.gcx_model.specs.Fronts.{Frames, bottom, frame, no_part, spaced, Piece, no_piece, started, tag, slashed, ending, ended, IsFrames, IsFront, OpensFrames, front_spelling, frames_spelling, piece_spelling, inside, text_of, frames_tokens, seen_tokens}
use Rattle.gcx_model.specs.declared.fault.DocFault.{DocFault}
use Rattle.gcx_model.specs.Faults.{DocumentRefusal, Comes, Clean, size, IsBad, FaultIs}
use Rattle.gcx_model.specs.Seen.{DocumentEnds, SeenIn, IsLongest, SeenIs, closes as document_closes, stays_open, up_to_tag, ends_in_tag, EndsWithTag, end_tags, open_ends, LastTag}
use Rattle.doc_laws.specs.Machine.{State}
use Rattle.doc_laws.specs.States.{rooted, state_of, Fronts}
use Rattle.doc_laws.specs.Judging.{judged}
use Rattle.doc_laws.proofs.Moves.{tokens-with_run, closed_tokens}
use Rattle.doc_laws.proofs.Faults.{fronts_one, Reads, refusal_comes}
use Rattle.doc_laws.proofs.Pieces.{Stands, meet}
use Rattle.doc_laws.proofs.Unique.{front_no_char, chars_meet, clean_front, fault_one}
use Rattle.doc_laws.proofs.Seen.{IsAfter, fronts_after, up_good, up_nodes, up_element, up_run, up_ends, up_rest, close_all, closes, closes_tokens, close_run}

-- What stands before the last character of a tag has fewer tokens.
record TagBefore (fs : Frames) (x : Content) : Type 0 where
  before : List ℕ
  last : ℕ
  parts : front_spelling fs x no_piece ≡ before ++ (last ∷ [])
  state : State
  fronts : Fronts before state
  fewer : length state.tokens < length (seen_tokens fs x)

module _ (fs : Frames) (y : Content) (n : List ℕ) (ats : Attributes) (sp : List ℕ) where
  start_before : (p : Piece) → IsFront fs y p → piece_spelling p ≡ 60 ∷ (n ++ (attributes_spelling ats ++ sp)) → TagBefore (frame fs y n ats sp) nothing
  start_before p g e = record {
    before = front_spelling fs y p;
    last = 62;
    parts = (simp (append_assoc, append-nil)) ∙ ap (λ l. frames_spelling fs ++ (spelling y ++ (l ++ (62 ∷ [])))) (sym e) ∙ (simp append_assoc);
    state = state_of fs y p;
    fronts = record { frames = fs; content = y; piece = p; good = g; spelled = refl; state = refl };
    fewer =
        let tail = Start (encodes n) ∷ tokens (attribute_nodes ats) in
        omega (arith, length-append (seen_tokens fs y) (text_of (text_run y) ++ tail), length-append (text_of (text_run y)) tail, length-append (frames_tokens (frame fs y n ats sp)) []);
  }

  single_before : IsFront fs y (slashed n ats sp) → TagBefore fs (single y n ats sp)
  single_before g = record {
    before = front_spelling fs y (slashed n ats sp);
    last = 62;
    parts = simp (append_assoc, append-nil);
    state = state_of fs y (slashed n ats sp);
    fronts = record { frames = fs; content = y; piece = slashed n ats sp; good = g; spelled = refl; state = refl };
    fewer =
        let tail = Start (encodes n) ∷ (tokens (attribute_nodes ats) ++ (End ∷ [])) in
        let with = tokens (with_run (nodes y) (text_run y)) in
        omega (arith, length-append (frames_tokens fs) (tokens (nodes y)), length-append (frames_tokens fs) (with ++ tail), length-append with tail, ap length (tokens-with_run (nodes y) (text_run y)), length-append (tokens (nodes y)) (text_of (text_run y)));
  }

  end_before : (k : Content) (sp2 : List ℕ) (p : Piece) → IsFront (frame fs y n ats sp) k p → piece_spelling p ≡ 60 ∷ (47 ∷ (n ++ sp2)) → TagBefore fs (tagged y n ats sp k sp2)
  end_before k sp2 p g e = record {
    before = front_spelling (frame fs y n ats sp) k p;
    last = 62;
    parts = (simp (append_assoc, append-nil)) ∙ ap (λ l. frames_spelling fs ++ (spelling y ++ (60 ∷ (n ++ (attributes_spelling ats ++ (sp ++ (62 ∷ (spelling k ++ (l ++ (62 ∷ [])))))))))) (sym e) ∙ (simp append_assoc);
    state = state_of (frame fs y n ats sp) k p;
    fronts = record { frames = frame fs y n ats sp; content = k; piece = p; good = g; spelled = refl; state = refl };
    fewer = omega (arith, ap length (closed_tokens fs y k n ats sp sp2), length-append (seen_tokens (frame fs y n ats sp) k) (text_of (text_run k) ++ (End ∷ [])), length-append (text_of (text_run k)) (End ∷ []));
  }

pub unsnoc : (l : List ℕ) → (l ≡ []) ⊎ ((a : List ℕ) × (d : ℕ) × (l ≡ a ++ (d ∷ [])))
unsnoc [] = inl refl
unsnoc (c ∷ l) = elim (unsnoc l) [ inl e ↦ inr ([], c, ap (λ l. c ∷ l) e) | inr q ↦ inr (c ∷ q.0, q.1, ap (λ l. c ∷ l) q.2) ]

pub blank_parts : (a : List ℕ) (d : ℕ) → is_blank_text (a ++ (d ∷ [])) ≡ true → (is_blank_text a ≡ true) × (is_white d ≡ true)
blank_parts [] d h = (refl, (and_parts (is_white d) true h).0)
blank_parts (c ∷ a) d h = let both = and_parts (is_white c) _ h in let k = blank_parts a d both.1 in (and_from (is_white c) _ both.0 k.0, k.1)

tag_before : (fs : Frames) (x : Content) → IsFront fs x no_piece → ends_in_tag fs x ≡ true → TagBefore fs x
tag_before bottom nothing g e = absurd (false≢true e)
tag_before (frame fs y n no_attribute []) nothing g e = start_before fs y n no_attribute [] (started n) (g.0.0, g.0.1, (g.0.2, g.0.3)) (ap (λ l. 60 ∷ l) (sym (append-nil n)))
tag_before (frame fs y n (attribute ats h v) []) nothing g e = start_before fs y n (attribute ats h v) [] (tag n (attribute ats h v) no_part) (g.0.0, g.0.1, (g.0.2, g.0.3, g.0.5, refl)) refl
tag_before (frame fs y n ats (c ∷ sp)) nothing g e = start_before fs y n ats (c ∷ sp) (tag n ats (spaced (c ∷ sp))) (g.0.0, g.0.1, (g.0.2, g.0.3, g.0.5, g.0.4)) refl
tag_before fs (single y n ats sp) g e = single_before fs y n ats sp (g.0, g.1.0, (g.1.1, g.1.2, g.1.4, g.1.3))
tag_before fs (tagged y n ats sp k sp2) g e =
    let frames : IsFrames (frame fs y n ats sp) = (g.0, g.1.0, g.1.1, g.1.2, g.1.3, g.1.6) in
    elim (unsnoc sp2) [
      | inl q ↦ end_before fs y n ats sp k sp2 (ending n []) (frames, g.1.4, append-nil n) (ap (λ l. 60 ∷ (47 ∷ l)) (sym (append-nil n) ∙ ap (λ l. n ++ l) (sym q)))
      | inr q ↦
          let blank = blank_parts q.0 q.1 (ap is_blank_text (sym q.2) ∙ g.1.5) in
          end_before fs y n ats sp k sp2 (ended n q.0 q.1) (frames, g.1.4, (refl, blank.0, blank.1)) (ap (λ l. 60 ∷ (47 ∷ (n ++ l))) (sym q.2))
    ]
tag_before fs mark g e = absurd (false≢true e)
tag_before fs (space y c) g e = absurd (false≢true e)
tag_before fs (char y c) g e = absurd (false≢true e)
tag_before fs (reference y r) g e = absurd (false≢true e)
tag_before fs (cdata y d) g e = absurd (false≢true e)
tag_before fs (comment y r) g e = absurd (false≢true e)
tag_before fs (bare y n) g e = absurd (false≢true e)
tag_before fs (instruction y n c d) g e = absurd (false≢true e)
tag_before fs (doctype y q c d) g e = absurd (false≢true e)

after_longer : (s t : State) → IsAfter s t → length s.tokens ≤ length t.tokens
after_longer s t a = omega (arith, ap length a.tokens_are, length-append s.tokens a.more)

pub opens_front : (c : List ℕ) (fs : Frames) (x : Content) (p : Piece) → OpensFrames c fs x p → Fronts c (state_of fs x p)
opens_front c fs x p o = record { frames = fs; content = x; piece = p; good = o.good; spelled = o.spelled; state = refl }

up_nothing : (x : Content) → has_element x ≡ false → up_to_tag x ≡ nothing
up_nothing nothing h = refl
up_nothing mark h = refl
up_nothing (space y c) h = up_nothing y h
up_nothing (char y c) h = up_nothing y h
up_nothing (reference y r) h = up_nothing y h
up_nothing (cdata y d) h = up_nothing y h
up_nothing (comment y r) h = up_nothing y h
up_nothing (bare y n) h = up_nothing y h
up_nothing (instruction y n c d) h = up_nothing y h
up_nothing (doctype y q c d) h = up_nothing y h
up_nothing (single y n ats sp) h = absurd (true≢false h)
up_nothing (tagged y n ats sp k sp2) h = absurd (true≢false h)

-- every front has a last tag, or none
pub last_tag : (cs : List ℕ) (fs : Frames) (x : Content) (p : Piece) → OpensFrames cs fs x p → LastTag cs fs x
last_tag cs fs x p o = record {
  front = front;
  rest = (up_rest x).0 ++ piece_spelling p;
  parts = sym o.spelled ∙ ap (λ l. (frames_spelling fs ++ l) ++ piece_spelling p) (up_rest x).1 ∙ (simp append_assoc);
  by_tag = by (rooted fs x) refl;
  longest = longest;
}
  where
    front : List ℕ
    front = frames_spelling fs ++ spelling (up_to_tag x)

    good : IsFront fs (up_to_tag x) no_piece
    good = (o.good.0, up_good (inside fs) x o.good.1, tt)

    same_seen : seen_tokens fs (up_to_tag x) ≡ seen_tokens fs x
    same_seen = ap (λ ns. frames_tokens fs ++ tokens ns) (up_nodes x)

    opens : OpensFrames (frames_spelling fs ++ spelling (up_to_tag x)) fs (up_to_tag x) no_piece
    opens = record { good = good; spelled = append-nil (frames_spelling fs ++ spelling (up_to_tag x)) }

    tokens_of : tokens (nodes (close_all fs (up_to_tag x))) ≡ seen_tokens fs x ++ open_ends fs
    tokens_of =
        ap (λ r. tokens (with_run (nodes (close_all fs (up_to_tag x))) r)) (sym (close_run fs (up_to_tag x) (up_run x)))
        ∙ closes_tokens fs (up_to_tag x)
        ∙ ap (λ r. seen_tokens fs (up_to_tag x) ++ (text_of r ++ open_ends fs)) (up_run x)
        ∙ ap (λ l. l ++ open_ends fs) same_seen

    none : (gs : Frames) → rooted gs x ≡ false → (frames_spelling gs ++ spelling (up_to_tag x) ≡ []) × (seen_tokens gs x ≡ [])
    none bottom h =
        let e = up_nothing x (left (has_element x) h) in
        (ap spelling e, ap tokens (sym (up_nodes x) ∙ ap nodes e))
      where
        left : (b : Bool) → b || false ≡ false → b ≡ false
        left true h = h
        left false h = h
    none (frame fs y n ats sp) h = absurd (true≢false (sym (right (has_element x)) ∙ h))
      where
        right : (b : Bool) → b || true ≡ true
        right true = refl
        right false = refl

    by : (b : Bool) → rooted fs x ≡ b → ((frames_spelling fs ++ spelling (up_to_tag x) ≡ []) × (seen_tokens fs x ≡ [])) ⊎ ((w : EndsWithTag (frames_spelling fs ++ spelling (up_to_tag x))) × (d : Nodes) × SpellsDocument ((frames_spelling fs ++ spelling (up_to_tag x)) ++ end_tags w.frames) d × (tokens d ≡ seen_tokens fs x ++ open_ends w.frames))
    by true e = inr (
      record { frames = fs; content = up_to_tag x; opens = opens; tag = up_ends fs x e },
      nodes (close_all fs (up_to_tag x)),
      closes fs (up_to_tag x) good.0 good.1 (ap (λ b. b || inside fs) (up_element x) ∙ e),
      tokens_of,
    )
    by false e = inl (none fs e)

    longest : (c r : List ℕ) → cs ≡ c ++ r → EndsWithTag c → length c ≤ length (frames_spelling fs ++ spelling (up_to_tag x))
    longest c r e w = elim (cases_lt (length f) (length c)) [ inr k ↦ k | inl k ↦ absurd (never k) ]
      where
        f : List ℕ
        f = frames_spelling fs ++ spelling (up_to_tag x)

        never : length (frames_spelling fs ++ spelling (up_to_tag x)) < length c → ⊥
        never k =
            let f = frames_spelling fs ++ spelling (up_to_tag x) in
            let t = tag_before w.frames w.content w.opens.good w.tag in
            let c_is : c ≡ t.before ++ (t.last ∷ []) = sym w.opens.spelled ∙ t.parts in
            let all : f ++ ((up_rest x).0 ++ piece_spelling p) ≡ t.before ++ (t.last ∷ r) = sym (sym o.spelled ∙ ap (λ l. (frames_spelling fs ++ l) ++ piece_spelling p) (up_rest x).1 ∙ (simp append_assoc)) ∙ e ∙ ap (λ l. l ++ r) c_is ∙ append_assoc t.before (t.last ∷ []) r in
            let long : (m : List ℕ) × (t.before ≡ f ++ m) = elim (meet f ((up_rest x).0 ++ piece_spelling p) t.before (t.last ∷ r) all) [
              | inl q ↦ (q.0, q.1)
              | inr q ↦
                  let none : q.0 ≡ [] = empty q.0 (omega (arith, ap length q.1, length-append t.before q.0, ap length c_is, length-append t.before (t.last ∷ []))) in
                  ([], sym (append-nil t.before) ∙ ap (λ l. t.before ++ l) (sym none) ∙ sym q.1 ∙ sym (append-nil f))
            ] in
            let one = after_longer (state_of fs (up_to_tag x) no_piece) t.state (fronts_after f long.0 (state_of fs (up_to_tag x) no_piece) t.state (opens_front f fs (up_to_tag x) no_piece opens) (subst (λ l. Fronts l t.state) long.1 t.fronts)) in
            let two = after_longer (state_of w.frames w.content no_piece) (state_of fs x p) (fronts_after c r (state_of w.frames w.content no_piece) (state_of fs x p) (opens_front c w.frames w.content no_piece w.opens) (subst (λ l. Fronts l (state_of fs x p)) e (opens_front cs fs x p o))) in
            omega (arith, one, two, t.fewer, ap length same_seen)
          where
            empty : (m : List ℕ) → length m < 1 → m ≡ []
            empty [] h = refl
            empty (a ∷ m) h = absurd (omega arith)

-- characters in which no fault comes are the first of the most of them
pub longest_is : (lim : Limits) (b cs ds r : List ℕ) → (h : IsLongest lim b cs) → scalars ds ≡ true → b ≡ encodes ds ++ r → length (encodes ds) ≤ lim.bytes → Clean lim ds → (m : List ℕ) × (cs ≡ ds ++ m)
longest_is lim b cs ds r h s e k cl =
    elim (chars_meet ds r cs h.rest (sym e ∙ h.parts)) [
      | inl q ↦ (q.0, q.1)
      | inr q ↦ by q.0 q.1 q.2
    ]
  where
    past : (cs m : List ℕ) → scalars (cs ++ m) ≡ true → scalars m ≡ true
    past [] m h = h
    past (c ∷ cs) m h = past cs m (and_parts (scalar c) (scalars (cs ++ m)) h).1

    by : (m : List ℕ) → ds ≡ cs ++ m → h.rest ≡ encodes m ++ r → (m : List ℕ) × (cs ≡ ds ++ m)
    by [] e2 f = ([], sym (append-nil cs) ∙ sym e2 ∙ sym (append-nil ds))
    by (c ∷ m) e2 f =
        let one : ds ≡ (cs ++ c ∷ []) ++ m = e2 ∙ sym (append_assoc cs (c ∷ []) m) in
        let sc = (and_parts (scalar c) (scalars m) (past cs (c ∷ m) (ap scalars (sym e2) ∙ s))).0 in
        let len : length (encodes ds) ≡ length (encodes (cs ++ c ∷ [])) + length (encodes m) = ap (λ l. length (encodes l)) one ∙ ap length (encodes-append (cs ++ c ∷ []) m) ∙ length-append (encodes (cs ++ c ∷ [])) (encodes m) in
        absurd (h.most c (encodes m ++ r) sc (f ∙ append_assoc (encode c) (encodes m) r) (omega (arith, len, k)) (clean_front lim (cs ++ c ∷ []) m (subst (Clean lim) one cl)))

-- where no fault came, and where one came
pub longest_so_far : (lim : Limits) (b tail : List ℕ) (s : State) (h : Stands lim b tail s) → length b ≤ lim.bytes → IsLongest lim b h.chars
longest_so_far lim b tail s h k = record {
  rest = tail;
  chars = h.decodes.chars;
  parts = h.decodes.parts;
  within = omega (arith, ap length h.decodes.parts, length-append (encodes h.chars) tail, k);
  clean = h.reads.clean;
  most = λ c more sc e l cl. front_no_char tail h.decodes.part c more sc e;
}

pub longest_at_fault : (lim : Limits) (b cs rest : List ℕ) (s : State) (c : ℕ) (f : DocumentRefusal) → Reads lim cs s → judged lim (size cs) s c ≡ Err f → scalars cs ≡ true → b ≡ encodes cs ++ (encode c ++ rest) → length (encodes cs) ≤ lim.bytes → IsLongest lim b cs
longest_at_fault lim b cs rest s c f r e sc parts k = record {
  rest = encode c ++ rest;
  chars = sc;
  parts = parts;
  within = k;
  clean = r.clean;
  most = λ d more sd q l cl.
      let is = (encode_same c d rest more q).0 in
      cl cs d [] f refl (subst (λ a. Comes lim cs a f) is (refusal_comes lim cs c s f r.front r.short e));
}

pub longest_at_bad : (lim : Limits) (b cs : List ℕ) (s : State) → Reads lim cs s → (h : IsBad b cs) → length (encodes cs) ≤ lim.bytes → IsLongest lim b cs
longest_at_bad lim b cs s r h k = record { rest = h.rest; chars = h.chars; parts = h.parts; within = k; clean = r.clean; most = λ c more sc e l cl. h.bad.no_char c more sc e }

-- where more bytes come than may be
pub longest_at_limit : (lim : Limits) (b more tail : List ℕ) (s : State) (h : Stands lim b tail s) → length b ≡ lim.bytes → IsLongest lim (b ++ more) h.chars
longest_at_limit lim b more tail s h k = record {
  rest = tail ++ more;
  chars = h.decodes.chars;
  parts = ap (λ l. l ++ more) h.decodes.parts ∙ append_assoc (encodes h.chars) tail more;
  within = omega (arith, ap length h.decodes.parts, length-append (encodes h.chars) tail, k);
  clean = h.reads.clean;
  most = λ c m sc e l cl. elim (meet tail more (encode c) m e) [
    | inl q ↦
        let len : length (encodes (h.chars ++ c ∷ [])) ≡ length (encodes h.chars) + (length (encode c) + 0) = ap length (encodes-append h.chars (c ∷ [])) ∙ length-append (encodes h.chars) (encode c ++ []) ∙ ap (λ n. length (encodes h.chars) + n) (length-append (encode c) []) in
        let none : q.0 ≡ [] = empty q.0 (omega (arith, len, l, k, ap length q.1, length-append tail q.0, ap length h.decodes.parts, length-append (encodes h.chars) tail)) in
        front_no_char tail h.decodes.part c [] sc (sym (append-nil tail) ∙ ap (λ z. tail ++ z) (sym none) ∙ sym q.1 ∙ sym (append-nil (encode c)))
    | inr q ↦ front_no_char tail h.decodes.part c q.0 sc q.1
  ];
}
  where
    empty : (m : List ℕ) → length m < 1 → m ≡ []
    empty [] h = refl
    empty (a ∷ m) h = absurd (omega arith)

-- the tokens of a machine are those of the whole tags
pub state_seen : (cs : List ℕ) (s : State) → Fronts cs s → SeenIn cs s.tokens
state_seen cs s f = record { frames = f.frames; content = f.content; piece = f.piece; opens = record { good = f.good; spelled = f.spelled }; tokens_are = ap (λ (u : State). u.tokens) (sym f.state) }

-- what is seen: before the end, behind a fault, and where the document is whole
pub seen_so_far : (lim : Limits) (b cs : List ℕ) (s : State) → Fronts cs s → IsLongest lim b cs → SeenIs lim b false s.tokens
seen_so_far lim b cs s f l = record { chars = cs; longest = l; tags = s.tokens; seen = state_seen cs s f; ends = []; document_ends = stays_open (λ e h. false≢true e) refl; tokens_are = sym (append-nil s.tokens) }

pub seen_at_fault : (lim : Limits) (b cs : List ℕ) (over : Bool) (s : State) (f : DocFault) → Fronts cs s → IsLongest lim b cs → FaultIs lim b true (Some f) → SeenIs lim b over s.tokens
seen_at_fault lim b cs over s f g l h = record { chars = cs; longest = l; tags = s.tokens; seen = state_seen cs s g; ends = []; document_ends = stays_open (λ e k. some_none (fault_one lim b true (Some f) None h k)) refl; tokens_are = sym (append-nil s.tokens) }
  where
    some_none : Some f ≡ None → ⊥
    some_none e = cc

pub seen_whole : (lim : Limits) (b cs : List ℕ) (s : State) → Fronts cs s → IsLongest lim b cs → FaultIs lim b true None → SeenIs lim b true (s.tokens ++ (End ∷ []))
seen_whole lim b cs s f l h = record { chars = cs; longest = l; tags = s.tokens; seen = state_seen cs s f; ends = End ∷ []; document_ends = document_closes refl h refl; tokens_are = refl }

-- what is seen is one list of tokens
seen_in_one : (cs : List ℕ) (ts us : List TreeToken) → SeenIn cs ts → SeenIn cs us → ts ≡ us
seen_in_one cs ts us h k =
    h.tokens_are
    ∙ ap (λ (u : State). u.tokens) (fronts_one cs (state_of h.frames h.content h.piece) (state_of k.frames k.content k.piece) (opens_front cs h.frames h.content h.piece h.opens) (opens_front cs k.frames k.content k.piece k.opens))
    ∙ sym k.tokens_are

both_front : (cs ds m n : List ℕ) → cs ≡ ds ++ m → ds ≡ cs ++ n → cs ≡ ds
both_front cs ds [] n e f = e ∙ append-nil ds
both_front cs ds (c ∷ m) n e f = absurd (omega (arith, ap length e, ap length f, length-append ds (c ∷ m), length-append cs n))

pub longest_one : (lim : Limits) (b cs ds : List ℕ) → IsLongest lim b cs → IsLongest lim b ds → cs ≡ ds
longest_one lim b cs ds h k =
    let p = longest_is lim b cs ds k.rest h k.chars k.parts k.within k.clean in
    let q = longest_is lim b ds cs h.rest k h.chars h.parts h.within h.clean in
    both_front cs ds p.0 q.0 p.1 q.1

ends_one : (lim : Limits) (b : List ℕ) (over : Bool) (ts us : List TreeToken) → DocumentEnds lim b over ts → DocumentEnds lim b over us → ts ≡ us
ends_one lim b over ts us (document_closes i f e) (document_closes j g k) = e ∙ sym k
ends_one lim b over ts us (document_closes i f e) (stays_open n k) = absurd (n i f)
ends_one lim b over ts us (stays_open n k) (document_closes i f e) = absurd (n i f)
ends_one lim b over ts us (stays_open n e) (stays_open m k) = e ∙ sym k

pub seen_one : (lim : Limits) (b : List ℕ) (over : Bool) (ts us : List TreeToken) → SeenIs lim b over ts → SeenIs lim b over us → ts ≡ us
seen_one lim b over ts us h k =
    let same = longest_one lim b h.chars k.chars h.longest k.longest in
    h.tokens_are
    ∙ ap (λ l. l ++ h.ends) (seen_in_one k.chars h.tags k.tags (subst (λ l. SeenIn l h.tags) same h.seen) k.seen)
    ∙ ap (λ l. k.tags ++ l) (ends_one lim b over h.ends k.ends h.document_ends k.document_ends)
    ∙ sym k.tokens_are
