-- How the machine moves over each piece.
use Rattle.std.proofs.Common.{ℕ, ◌≡◌, Bool, true, false, not, ◌&&◌, ◌||◌, eqb, cond, List, [], ◌∷◌, ◌++◌, length, replicate, Option, Some, None, refl, sym, ap, ◌∙◌, append_assoc, append-nil, arith, eq-eqb, eqb-true}
use Rattle.std.specs.List.{list_all}
use Rattle.std.proofs.lemmas.Bool.{true≢false, false≢true, and_parts, and_from, and_right, false_from_ne_true, cond-true, cond-false}
use Rattle.std.proofs.lemmas.Str.{length-encode, len_utf8_bounds}
use lib.Utf8.{encode, encodes}
use Rattle.std.proofs.Math.Bool.{or-true}
use Rattle.gcx_base.specs.Characters.{is_char, is_white, is_start_char, is_part_char}
use Rattle.gcx_model.specs.Document.{Nodes, none, element, text, is_blank, tokens}
use Rattle.gcx_model.specs.Tree.{Start, End, Chars}
use Rattle.gcx_model.specs.References.{Reference, reference_char, BegunReference, letters}
use Rattle.gcx_model.specs.Attributes.{is_text_char, is_blank_text, is_gap, is_quote, is_fresh, AttributeValue, blank_value, value_char, value_reference, Head, Attributes, no_attribute, attribute, attribute_names, is_value_char, value_run}
use Rattle.gcx_model.specs.Markup.{CommentText, blank_comment, plain, dashed, CDSect, blank_cdsect, further, InstructionData, blank_data, data_char, marks, ends_data, Declaration, blank_declaration, doc_char, literal, doc_word, is_doc_char, is_literal_char, cdata_word, brackets, one_more, ends_cdsect, settled}
use Rattle.gcx_model.specs.Grammar.{Content, nothing, mark, space, char, reference, cdata, comment, bare, instruction, doctype, single, tagged, has_element, has_type, may_type, may_open, text_run, with_run, joined, attribute_nodes, nodes}
use Rattle.gcx_model.specs.Fronts.{Frames, bottom, frame, Part, no_part, spaced, part_name, name_spaced, equals, value_part, value_amp, Piece, no_piece, less, started, tag, slashed, ending, ended, question, target, target_mark, in_instruction, doc_wording, doc_gap, doc, doc_literal, bang, bang_dash, in_comment, comment_dash, comment_end, cdsect_word, in_cdsect, amp, names, inside, text_of, frames_tokens, seen_tokens}
use Rattle.doc_laws.specs.Machine.{More, Done, MachineMode, Opening, Between, InValue, InValueReference, DocWord, DocSpace, CDSectWord, InCDSect, InReference, State, opened, closed, to_mode, refer, on_between, on_referred, behind, to_end_name, on_end, on_word, step, steps, go_on}
use Rattle.doc_laws.specs.States.{referring, is_opening, is_nothing, typed, tag_tokens, state_of}
use Rattle.doc_laws.proofs.Tests.{space_not_name, not_start, quote_not_space, not_amp, start_not_space, quote_not_doc, quote_not_greater, not_literal, not_value}

-- steps over joined texts: chunking
pub steps_append : (s : State) (a b : List ℕ) → steps s (a ++ b) ≡ go_on (steps s a) (λ t. steps t b)
steps_append s [] b = refl
steps_append s (c ∷ cs) b =
    elim (step s c) as (λ (o : Option State). go_on o (λ t. steps t (cs ++ b)) ≡ go_on (go_on o (λ t. steps t cs)) (λ t. steps t b))
    [ None ↦ refl | Some t ↦ steps_append t cs b ]

pub steps_on_to : (s t : State) (a b : List ℕ) (o : Option State) → steps s a ≡ Some t → steps t b ≡ o → steps s (a ++ b) ≡ o
steps_on_to s t a b o e f = steps_append s a b ∙ ap (λ o. go_on o (λ u. steps u b)) e ∙ f

pub step_to : (s t : State) (c : ℕ) (cs : List ℕ) (o : Option State) → step s c ≡ Some t → steps t cs ≡ o → steps s (c ∷ cs) ≡ o
step_to s t c cs o e f = ap (λ o. go_on o (λ u. steps u cs)) e ∙ f

pub step_end : (s t : State) (c : ℕ) → step s c ≡ Some t → steps s (c ∷ []) ≡ Some t
step_end s t c e = step_to s t c [] _ e refl

pub may_rooted : (b e : Bool) → may_open b (e || b) ≡ may_open b e
may_rooted true true = refl
may_rooted true false = refl
may_rooted false true = refl
may_rooted false false = refl

-- the tokens of nodes before others
pub tokens-joined : (a b : Nodes) → tokens (joined a b) ≡ tokens a ++ tokens b
tokens-joined a none = sym (append-nil (tokens a))
tokens-joined a (element before n inner) = ap (λ l. l ++ (Start n ∷ (tokens inner ++ (End ∷ [])))) (tokens-joined a before) ∙ append_assoc (tokens a) (tokens before) _
tokens-joined a (text before t) = ap (λ l. l ++ (Chars t ∷ [])) (tokens-joined a before) ∙ append_assoc (tokens a) (tokens before) _

-- the tokens of nodes with a run
pub tokens-with_run : (ns : Nodes) (r : List ℕ) → tokens (with_run ns r) ≡ tokens ns ++ text_of r
tokens-with_run ns r =
    elim (is_blank r) as (λ (b : Bool). tokens (cond b ns (text ns r)) ≡ tokens ns ++ cond b [] (Chars r ∷ []))
    [ true ↦ sym (append-nil _) | false ↦ refl ]

-- the next character of a word
pub word_on : (s : State) (c : ℕ) (mk : List ℕ → MachineMode) (r : List ℕ) (after : Option State) → on_word s c mk (c ∷ r) after ≡ to_mode s (mk r)
word_on s c mk r after = cond-true (eqb c c) _ _ (eq-eqb c c refl)

-- a character takes some bytes
pub some_bytes : (c : ℕ) → (x : ℕ) × (xs : List ℕ) × (encode c ≡ x ∷ xs)
some_bytes c = by (encode c) refl
  where
    by : (l : List ℕ) → encode c ≡ l → (x : ℕ) × (xs : List ℕ) × (encode c ≡ x ∷ xs)
    by [] e = let n = (len_utf8_bounds c).0 in absurd (omega (arith, n, length-encode c, ap length e))
    by (x ∷ xs) e = (x, xs, e)

pub behind_self : (xs rest : List ℕ) → behind xs (xs ++ rest) ≡ Some rest
behind_self [] rest = refl
behind_self (x ∷ xs) rest = cond-true (eqb x x) _ _ (eq-eqb x x refl) ∙ behind_self xs rest

-- within a name
pub end_within : (s : State) (c : ℕ) (d : ℕ) (rest : List ℕ) → on_end s (encode d ++ rest) c ≡ to_end_name s (behind (encode c) (encode d ++ rest))
end_within s c d rest = let b = some_bytes d in ap (λ l. on_end s (l ++ rest) c) b.2 ∙ ap (λ l. to_end_name s (behind (encode c) (l ++ rest))) (sym b.2)

pub end_on : (s : State) (c : ℕ) (rest : List ℕ) → on_end s (encode c ++ rest) c ≡ to_end_name s (Some rest)
end_on s c rest = end_within s c c rest ∙ ap (to_end_name s) (behind_self (encode c) rest)

pub encodes-more : (m : List ℕ) (c : ℕ) → encodes (m ++ (c ∷ [])) ≡ encodes m ++ encode c
encodes-more [] c = append-nil (encode c)
encodes-more (d ∷ m) c = ap (λ l. encode d ++ l) (encodes-more m c) ∙ sym (append_assoc (encode d) (encodes m) (encode c))

-- along a word
pub walk : (at : List ℕ → List ℕ → State) → ((m : List ℕ) (c : ℕ) (r : List ℕ) → step (at m (c ∷ r)) c ≡ Some (at (m ++ c ∷ []) r)) → (m a r : List ℕ) → steps (at m (a ++ r)) a ≡ Some (at (m ++ a) r)
walk at h m [] r = ap (λ l. Some (at l r)) (sym (append-nil m))
walk at h m (c ∷ a) r =
    step_to (at m (c ∷ (a ++ r))) (at (m ++ c ∷ []) (a ++ r)) c a _ (h m c (a ++ r))
    (walk at h (m ++ c ∷ []) a r ∙ ap (λ l. Some (at l r)) (append_assoc m (c ∷ []) a))

white_not_mark : (c : ℕ) → is_white c ≡ true → eqb c 65279 ≡ false
white_not_mark c h = false_from_ne_true (eqb c 65279) (λ e. false≢true (sym (ap is_white (eqb-true c 65279 e)) ∙ h))

-- over white space, then one character
pub over_space : (s : State) → ((d : ℕ) → is_white d ≡ true → step s d ≡ Some s) → (sp : List ℕ) → is_blank_text sp ≡ true → steps s sp ≡ Some s
over_space s h [] b = refl
over_space s h (c ∷ sp) b =
    let both = and_parts (is_white c) (list_all is_white sp) b in
    step_to s s c sp _ (h c both.0) (over_space s h sp both.1)

pub over_gap : (s0 s1 : State) → ((d : ℕ) → is_white d ≡ true → step s0 d ≡ Some s1) → ((d : ℕ) → is_white d ≡ true → step s1 d ≡ Some s1) → (g : List ℕ) → is_gap g ≡ true → steps s0 g ≡ Some s1
over_gap s0 s1 h k [] b = absurd (false≢true b)
over_gap s0 s1 h k (c ∷ g) b =
    let both = and_parts (is_white c) (list_all is_white g) b in
    step_to s0 s1 c g _ (h c both.0) (over_space s1 k g both.1)

pub behind_space : (s0 s1 t : State) (cs : List ℕ) → ((d : ℕ) → is_white d ≡ true → step s0 d ≡ Some s1) → ((d : ℕ) → is_white d ≡ true → step s1 d ≡ Some s1) → steps s0 cs ≡ Some t → steps s1 cs ≡ Some t → (sp : List ℕ) → is_blank_text sp ≡ true → steps s0 (sp ++ cs) ≡ Some t
behind_space s0 s1 t cs h k e f [] b = e
behind_space s0 s1 t cs h k e f (c ∷ sp) b =
    let both = and_parts (is_white c) (list_all is_white sp) b in
    step_to s0 s1 c (sp ++ cs) _ (h c both.0) (steps_on_to s1 s1 sp cs _ (over_space s1 k sp both.1) f)

-- the piece behind a name and attributes
abbrev pub tag_piece : List ℕ → Attributes → Piece
tag_piece n no_attribute = started n
tag_piece n (attribute ats h v) = tag n (attribute ats h v) no_part

abbrev tag_state : Frames → Content → List ℕ → Attributes → Part → State
tag_state fs x n ats p = state_of fs x (tag n ats p)

module _ (fs : Frames) (x : Content) where
  -- at rest: no character but a byte order mark tells whether anything was read
  rest_step : (c : ℕ) → eqb c 65279 ≡ false → step (state_of fs x no_piece) c ≡ on_between (state_of fs x no_piece) c
  rest_step c h =
      let s = state_of fs x no_piece in
      elim (is_opening fs x) as (λ (b : Bool). step (record s { mode = cond b Opening Between }) c ≡ on_between (record s { mode = cond b Opening Between }) c) [
        | true ↦ cond-false (eqb c 65279) _ _ h
        | false ↦ refl
      ]

  pub m_char : (c : ℕ) → is_text_char c ≡ true → inside fs ≡ true → step (state_of fs x no_piece) c ≡ Some (state_of fs (char x c) no_piece)
  m_char c h i = resting (is_opening fs x) (ap (λ b. is_nothing x && not b) i ∙ none (is_nothing x))
    where
      none : (b : Bool) → b && false ≡ false
      none true = refl
      none false = refl

      resting : (b : Bool) → b ≡ false → step (record (state_of fs x no_piece) { mode = cond b Opening Between }) c ≡ Some (state_of fs (char x c) no_piece)
      resting true e = absurd (true≢false e)
      resting false e = cond-true (is_text_char c && inside fs) _ _ (and_from (is_text_char c) _ h i)

  pub m_space_out : (c : ℕ) → is_white c ≡ true → inside fs ≡ false → step (state_of fs x no_piece) c ≡ Some (state_of fs (space x c) no_piece)
  m_space_out c h i =
      rest_step c (white_not_mark c h)
      ∙ cond-false (is_text_char c && inside fs) _ _ (and_right (is_text_char c) (inside fs) i)
      ∙ cond-true (is_white c && not (inside fs)) _ _ (and_from (is_white c) _ h (ap not i))

  pub m_less : step (state_of fs x no_piece) 60 ≡ Some (state_of fs x less)
  m_less = rest_step 60 refl

  pub m_amp : inside fs ≡ true → step (state_of fs x no_piece) 38 ≡ Some (state_of fs x (amp (letters [])))
  m_amp h = rest_step 38 refl ∙ cond-true (inside fs) _ _ h

  pub m_refer : (r q : BegunReference) (c : ℕ) → refer (referring r) c ≡ More (referring q) → step (state_of fs x (amp r)) c ≡ Some (state_of fs x (amp q))
  m_refer r q c e = ap (on_referred (state_of fs x (amp r)) InReference Between) e

  pub m_referred : (r : BegunReference) (t : Reference) (c : ℕ) → refer (referring r) c ≡ Done (reference_char t) → step (state_of fs x (amp r)) c ≡ Some (state_of fs (reference x t) no_piece)
  m_referred r t c e = ap (on_referred (state_of fs x (amp r)) InReference Between) e

  pub m_started : (c : ℕ) → is_start_char c ≡ true → may_open (inside fs) (has_element x) ≡ true → step (state_of fs x less) c ≡ Some (state_of fs x (started (c ∷ [])))
  m_started c h k = cond-true _ _ _ (and_from (is_start_char c) _ h (may_rooted (inside fs) (has_element x) ∙ k)) ∙ ap (λ l. Some (record (state_of fs x (started (c ∷ []))) { name = l })) (sym (append-nil (encode c)))

  pub m_bang : step (state_of fs x less) 33 ≡ Some (state_of fs x bang)
  m_bang = refl

  pub m_name : (n : List ℕ) (c : ℕ) → is_part_char c ≡ true → step (state_of fs x (started n)) c ≡ Some (state_of fs x (started (n ++ c ∷ [])))
  m_name n c h = cond-true _ _ _ h ∙ ap (λ l. Some (record (state_of fs x (started n)) { name = l })) (sym (encodes-more n c))

  pub m_space1 : (n g : List ℕ) (c : ℕ) → is_white c ≡ true → step (state_of fs x (started n)) c ≡ Some (state_of fs x (tag n no_attribute (spaced g)))
  m_space1 n g c h = cond-false _ _ _ (space_not_name c h) ∙ cond-true _ _ _ h

  pub m_space2 : (n : List ℕ) (ats : Attributes) (g g2 : List ℕ) (c : ℕ) → is_white c ≡ true → step (state_of fs x (tag n ats (spaced g))) c ≡ Some (state_of fs x (tag n ats (spaced g2)))
  m_space2 n ats g g2 c h = cond-false _ _ _ (not_start c (space_not_name c h)) ∙ cond-true _ _ _ h

  pub m_space3 : (n : List ℕ) (ats : Attributes) (g : List ℕ) (c : ℕ) → is_white c ≡ true → step (state_of fs x (tag n ats no_part)) c ≡ Some (state_of fs x (tag n ats (spaced g)))
  m_space3 n ats g c h = cond-true _ _ _ h

  opened_state : (n : List ℕ) (ats : Attributes) (sp : List ℕ) → opened (tag_state fs x n ats no_part) ≡ state_of (frame fs x n ats sp) nothing no_piece
  opened_state n ats sp = ap (λ ts. record (state_of (frame fs x n ats sp) nothing no_piece) { tokens = ts }) (sym (append-nil (frames_tokens (frame fs x n ats sp))))

  pub m_open1 : (n sp : List ℕ) → step (state_of fs x (started n)) 62 ≡ Some (state_of (frame fs x n no_attribute sp) nothing no_piece)
  m_open1 n sp = ap Some (opened_state n no_attribute sp)

  pub m_open2 : (n : List ℕ) (ats : Attributes) (g sp : List ℕ) → step (state_of fs x (tag n ats (spaced g))) 62 ≡ Some (state_of (frame fs x n ats sp) nothing no_piece)
  m_open2 n ats g sp = ap Some (opened_state n ats sp)

  pub m_open3 : (n : List ℕ) (ats : Attributes) (sp : List ℕ) → step (state_of fs x (tag n ats no_part)) 62 ≡ Some (state_of (frame fs x n ats sp) nothing no_piece)
  m_open3 n ats sp = ap Some (opened_state n ats sp)

  pub m_slash1 : (n sp : List ℕ) → step (state_of fs x (started n)) 47 ≡ Some (state_of fs x (slashed n no_attribute sp))
  m_slash1 n sp = refl

  pub m_slash2 : (n : List ℕ) (ats : Attributes) (g sp : List ℕ) → step (state_of fs x (tag n ats (spaced g))) 47 ≡ Some (state_of fs x (slashed n ats sp))
  m_slash2 n ats g sp = refl

  pub m_slash3 : (n : List ℕ) (ats : Attributes) (sp : List ℕ) → step (state_of fs x (tag n ats no_part)) 47 ≡ Some (state_of fs x (slashed n ats sp))
  m_slash3 n ats sp = refl

  emptied_tokens : (n : List ℕ) (ats : Attributes) (sp : List ℕ) → seen_tokens fs x ++ (tag_tokens x n ats ++ (End ∷ [])) ≡ seen_tokens fs (single x n ats sp)
  emptied_tokens n ats sp = rw (tokens-with_run (nodes x) (text_run x)) (simp append_assoc)

  pub m_single : (n : List ℕ) (ats : Attributes) (sp : List ℕ) → step (state_of fs x (slashed n ats sp)) 62 ≡ Some (state_of fs (single x n ats sp) no_piece)
  m_single n ats sp = ap (λ ts. Some (record (state_of fs (single x n ats sp) no_piece) { tokens = ts })) (emptied_tokens n ats sp)

  -- behind the name or a value
  pub m_space : (n : List ℕ) (ats : Attributes) (g : List ℕ) (c : ℕ) → is_white c ≡ true → step (state_of fs x (tag_piece n ats)) c ≡ Some (state_of fs x (tag n ats (spaced g)))
  m_space n no_attribute g c h = m_space1 n g c h
  m_space n (attribute ats k v) g c h = m_space3 n (attribute ats k v) g c h

  pub m_open : (n : List ℕ) (ats : Attributes) (sp : List ℕ) → step (state_of fs x (tag_piece n ats)) 62 ≡ Some (state_of (frame fs x n ats sp) nothing no_piece)
  m_open n no_attribute sp = m_open1 n sp
  m_open n (attribute ats k v) sp = m_open3 n (attribute ats k v) sp

  pub m_slash : (n : List ℕ) (ats : Attributes) (sp : List ℕ) → step (state_of fs x (tag_piece n ats)) 47 ≡ Some (state_of fs x (slashed n ats sp))
  m_slash n no_attribute sp = m_slash1 n sp
  m_slash n (attribute ats k v) sp = m_slash3 n (attribute ats k v) sp

  -- an attribute
  pub m_attr : (n : List ℕ) (ats : Attributes) (g : List ℕ) (c : ℕ) → is_start_char c ≡ true → step (state_of fs x (tag n ats (spaced g))) c ≡ Some (state_of fs x (tag n ats (part_name g (c ∷ []))))
  m_attr n ats g c h = cond-true _ _ _ h ∙ ap (λ l. Some (record (state_of fs x (tag n ats (part_name g (c ∷ [])))) { attr = l })) (sym (append-nil (encode c)))

  pub m_attr_name : (n : List ℕ) (ats : Attributes) (g m : List ℕ) (c : ℕ) → is_part_char c ≡ true → step (state_of fs x (tag n ats (part_name g m))) c ≡ Some (state_of fs x (tag n ats (part_name g (m ++ c ∷ []))))
  m_attr_name n ats g m c h = cond-true _ _ _ h ∙ ap (λ l. Some (record (state_of fs x (tag n ats (part_name g m))) { attr = l })) (sym (encodes-more m c))

  pub m_attr_space1 : (n : List ℕ) (ats : Attributes) (g m sp : List ℕ) (c : ℕ) → is_fresh (encodes m) (attribute_names ats) ≡ true → is_white c ≡ true → step (state_of fs x (tag n ats (part_name g m))) c ≡ Some (state_of fs x (tag n ats (name_spaced g m sp)))
  m_attr_space1 n ats g m sp c f h = cond-false _ _ _ (space_not_name c h) ∙ cond-true _ _ _ f ∙ cond-true _ _ _ h

  pub m_attr_space2 : (n : List ℕ) (ats : Attributes) (g m sp sp2 : List ℕ) (c : ℕ) → is_white c ≡ true → step (state_of fs x (tag n ats (name_spaced g m sp))) c ≡ Some (state_of fs x (tag n ats (name_spaced g m sp2)))
  m_attr_space2 n ats g m sp sp2 c h = cond-true _ _ _ h

  pub m_equals1 : (n : List ℕ) (ats : Attributes) (g m sp sp2 : List ℕ) → is_fresh (encodes m) (attribute_names ats) ≡ true → step (state_of fs x (tag n ats (part_name g m))) 61 ≡ Some (state_of fs x (tag n ats (equals g m sp sp2)))
  m_equals1 n ats g m sp sp2 f = cond-true _ _ _ f

  pub m_equals2 : (n : List ℕ) (ats : Attributes) (g m sp sp2 sp3 : List ℕ) → step (state_of fs x (tag n ats (name_spaced g m sp))) 61 ≡ Some (state_of fs x (tag n ats (equals g m sp2 sp3)))
  m_equals2 n ats g m sp sp2 sp3 = refl

  pub m_equals_space : (n : List ℕ) (ats : Attributes) (g m sp sp2 sp3 : List ℕ) (c : ℕ) → is_white c ≡ true → step (state_of fs x (tag n ats (equals g m sp sp2))) c ≡ Some (state_of fs x (tag n ats (equals g m sp sp3)))
  m_equals_space n ats g m sp sp2 sp3 c h = cond-true _ _ _ h

  pub m_quote : (n : List ℕ) (ats : Attributes) (h : Head) → is_quote h.quote ≡ true → step (state_of fs x (tag n ats (equals h.gap h.name h.before h.behind))) h.quote ≡ Some (state_of fs x (tag n ats (value_part h blank_value)))
  m_quote n ats h k = cond-false _ _ _ (quote_not_space h.quote k) ∙ cond-true _ _ _ k

  pub m_value : (n : List ℕ) (ats : Attributes) (h : Head) (v : AttributeValue) (c : ℕ) → is_value_char h.quote c ≡ true → step (state_of fs x (tag n ats (value_part h v))) c ≡ Some (state_of fs x (tag n ats (value_part h (value_char v c))))
  m_value n ats h v c k = cond-true _ _ _ k

  pub m_value_amp : (n : List ℕ) (ats : Attributes) (h : Head) (v : AttributeValue) → is_quote h.quote ≡ true → step (state_of fs x (tag n ats (value_part h v))) 38 ≡ Some (state_of fs x (tag n ats (value_amp h v (letters []))))
  m_value_amp n ats h v k = cond-false (eqb 38 h.quote) _ _ (not_amp h.quote k)

  pub m_value_refer : (n : List ℕ) (ats : Attributes) (h : Head) (v : AttributeValue) (r q : BegunReference) (c : ℕ) → refer (referring r) c ≡ More (referring q) → step (state_of fs x (tag n ats (value_amp h v r))) c ≡ Some (state_of fs x (tag n ats (value_amp h v q)))
  m_value_refer n ats h v r q c e = ap (on_referred (tag_state fs x n ats (value_amp h v r)) (InValueReference h.quote) (InValue h.quote)) e

  pub m_value_referred : (n : List ℕ) (ats : Attributes) (h : Head) (v : AttributeValue) (r : BegunReference) (t : Reference) (c : ℕ) → refer (referring r) c ≡ Done (reference_char t) → step (state_of fs x (tag n ats (value_amp h v r))) c ≡ Some (state_of fs x (tag n ats (value_part h (value_reference v t))))
  m_value_referred n ats h v r t c e = ap (on_referred (tag_state fs x n ats (value_amp h v r)) (InValueReference h.quote) (InValue h.quote)) e

  valued_tokens : (n : List ℕ) (ats : Attributes) (h : Head) (v : AttributeValue) → tag_tokens x n ats ++ (Start (encodes h.name) ∷ (text_of (value_run v) ++ (End ∷ []))) ≡ tag_tokens x n (attribute ats h v)
  valued_tokens n ats h v = rw (tokens-with_run none (value_run v)) (simp append_assoc)

  pub m_valued : (n : List ℕ) (ats : Attributes) (h : Head) (v : AttributeValue) → step (state_of fs x (tag n ats (value_part h v))) h.quote ≡ Some (state_of fs x (tag n (attribute ats h v) no_part))
  m_valued n ats h v =
      cond-false _ _ _ (not_value h.quote)
      ∙ cond-true _ _ _ (eq-eqb h.quote h.quote refl)
      ∙ ap (λ ts. Some (record (tag_state fs x n (attribute ats h v) no_part) { pending = ts })) (valued_tokens n ats h v)

  -- a processing instruction
  pub m_question : step (state_of fs x less) 63 ≡ Some (state_of fs x question)
  m_question = refl

  pub m_target : (c : ℕ) → is_start_char c ≡ true → step (state_of fs x question) c ≡ Some (state_of fs x (target (c ∷ [])))
  m_target c h = cond-true _ _ _ h

  pub m_target_name : (n : List ℕ) (c : ℕ) → is_part_char c ≡ true → step (state_of fs x (target n)) c ≡ Some (state_of fs x (target (n ++ c ∷ [])))
  m_target_name n c h = cond-true _ _ _ h

  pub m_target_mark : (n : List ℕ) → step (state_of fs x (target n)) 63 ≡ Some (state_of fs x (target_mark n))
  m_target_mark n = refl

  pub m_bare : (n : List ℕ) → step (state_of fs x (target_mark n)) 62 ≡ Some (state_of fs (bare x n) no_piece)
  m_bare n = refl

  pub m_instruction_start : (n : List ℕ) (c : ℕ) → is_white c ≡ true → step (state_of fs x (target n)) c ≡ Some (state_of fs x (in_instruction n c blank_data))
  m_instruction_start n c h = cond-false _ _ _ (space_not_name c h) ∙ cond-true _ _ _ h

  pub m_in_instruction : (n : List ℕ) (a : ℕ) (d : InstructionData) (c : ℕ) → is_char c ≡ true → ends_data d c ≡ false → step (state_of fs x (in_instruction n a d)) c ≡ Some (state_of fs x (in_instruction n a (data_char d c)))
  m_in_instruction n a d c h k = cond-false _ _ _ k ∙ cond-true _ _ _ h

  pub m_instruction_end : (n : List ℕ) (a : ℕ) (d : InstructionData) → marks d ≡ 1 → step (state_of fs x (in_instruction n a d)) 62 ≡ Some (state_of fs (instruction x n a d) no_piece)
  m_instruction_end n a d h = cond-true (eqb (marks d) 1) _ _ (eq-eqb (marks d) 1 h)

  -- a document type declaration
  pub m_doc_word : may_type (inside fs) (has_type x) ≡ true → step (state_of fs x bang) 68 ≡ Some (state_of fs x (doc_wording [] doc_word))
  m_doc_word h = cond-true (not (typed fs x)) _ _ h

  pub m_doc_wording : (m : List ℕ) (c : ℕ) (r : List ℕ) → step (state_of fs x (doc_wording m (c ∷ r))) c ≡ Some (state_of fs x (doc_wording (m ++ c ∷ []) r))
  m_doc_wording m c r = word_on (state_of fs x (doc_wording m (c ∷ r))) c DocWord r (cond (is_white c) (to_mode (state_of fs x (doc_wording m (c ∷ r))) DocSpace) None)

  pub m_doc_gap1 : (m g : List ℕ) (c : ℕ) → is_white c ≡ true → step (state_of fs x (doc_wording m [])) c ≡ Some (state_of fs x (doc_gap g))
  m_doc_gap1 m g c h = cond-true (is_white c) _ _ h

  pub m_doc_gap2 : (g g2 : List ℕ) (c : ℕ) → is_white c ≡ true → step (state_of fs x (doc_gap g)) c ≡ Some (state_of fs x (doc_gap g2))
  m_doc_gap2 g g2 c h = cond-true _ _ _ h

  pub m_doc_name : (g : List ℕ) (c : ℕ) → is_start_char c ≡ true → step (state_of fs x (doc_gap g)) c ≡ Some (state_of fs x (doc g c blank_declaration))
  m_doc_name g c h = cond-false _ _ _ (start_not_space c h) ∙ cond-true _ _ _ h

  pub m_doc_char : (g : List ℕ) (a : ℕ) (d : Declaration) (c : ℕ) → is_doc_char c ≡ true → step (state_of fs x (doc g a d)) c ≡ Some (state_of fs x (doc g a (doc_char d c)))
  m_doc_char g a d c h = cond-true _ _ _ h

  pub m_doc_quote : (g : List ℕ) (a : ℕ) (d : Declaration) (q : ℕ) → is_quote q ≡ true → step (state_of fs x (doc g a d)) q ≡ Some (state_of fs x (doc_literal g a d q []))
  m_doc_quote g a d q h = cond-false _ _ _ (quote_not_doc q h) ∙ cond-false _ _ _ (quote_not_greater q h) ∙ cond-true _ _ _ h

  pub m_doc_literal : (g : List ℕ) (a : ℕ) (d : Declaration) (q : ℕ) (l : List ℕ) (c : ℕ) → is_literal_char q c ≡ true → step (state_of fs x (doc_literal g a d q l)) c ≡ Some (state_of fs x (doc_literal g a d q (l ++ c ∷ [])))
  m_doc_literal g a d q l c h = cond-true _ _ _ h

  pub m_doc_unquote : (g : List ℕ) (a : ℕ) (d : Declaration) (q : ℕ) (l : List ℕ) → step (state_of fs x (doc_literal g a d q l)) q ≡ Some (state_of fs x (doc g a (literal d q l)))
  m_doc_unquote g a d q l = cond-false _ _ _ (not_literal q) ∙ cond-true _ _ _ (eq-eqb q q refl)

  pub m_doctype : (g : List ℕ) (a : ℕ) (d : Declaration) → step (state_of fs x (doc g a d)) 62 ≡ Some (state_of fs (doctype x g a d) no_piece)
  m_doctype g a d = refl

  pub m_bang_dash : step (state_of fs x bang) 45 ≡ Some (state_of fs x bang_dash)
  m_bang_dash = refl

  pub m_in_comment : step (state_of fs x bang_dash) 45 ≡ Some (state_of fs x (in_comment blank_comment))
  m_in_comment = refl

  pub m_plain : (r : CommentText) (c : ℕ) → is_char c ≡ true → eqb c 45 ≡ false → step (state_of fs x (in_comment r)) c ≡ Some (state_of fs x (in_comment (plain r c)))
  m_plain r c h k = cond-false (eqb c 45) _ _ k ∙ cond-true _ _ _ h

  pub m_dash : (r : CommentText) → step (state_of fs x (in_comment r)) 45 ≡ Some (state_of fs x (comment_dash r))
  m_dash r = refl

  pub m_dashed : (r : CommentText) (c : ℕ) → is_char c ≡ true → eqb c 45 ≡ false → step (state_of fs x (comment_dash r)) c ≡ Some (state_of fs x (in_comment (dashed r c)))
  m_dashed r c h k = cond-false (eqb c 45) _ _ k ∙ cond-true _ _ _ h

  pub m_dashes : (r : CommentText) → step (state_of fs x (comment_dash r)) 45 ≡ Some (state_of fs x (comment_end r))
  m_dashes r = refl

  pub m_comment : (r : CommentText) → step (state_of fs x (comment_end r)) 62 ≡ Some (state_of fs (comment x r) no_piece)
  m_comment r = refl

  pub m_cdsect_word : inside fs ≡ true → step (state_of fs x bang) 91 ≡ Some (state_of fs x (cdsect_word [] cdata_word))
  m_cdsect_word h = cond-true (inside fs) _ _ h

  pub m_word : (m : List ℕ) (c : ℕ) (r : List ℕ) → step (state_of fs x (cdsect_word m (c ∷ r))) c ≡ Some (state_of fs x (cdsect_word (m ++ c ∷ []) r))
  m_word m c r = word_on (state_of fs x (cdsect_word m (c ∷ r))) c CDSectWord r (cond (eqb c 91) (to_mode (state_of fs x (cdsect_word m (c ∷ r))) (InCDSect 0)) None)

  pub m_cdsect_start : (m : List ℕ) → step (state_of fs x (cdsect_word m [])) 91 ≡ Some (state_of fs x (in_cdsect blank_cdsect))
  m_cdsect_start m = ap (λ r. Some (record (state_of fs x (in_cdsect blank_cdsect)) { run = r })) (sym (append-nil (text_run x)))

  cdsect_run : (r s : List ℕ) (b : Bool) → cond b ((r ++ s) ++ (93 ∷ [])) (r ++ s) ≡ r ++ cond b (s ++ (93 ∷ [])) s
  cdsect_run r s true = append_assoc r s (93 ∷ [])
  cdsect_run r s false = refl

  pub m_in_cdsect : (d : CDSect) (c : ℕ) → is_char c ≡ true → ends_cdsect d c ≡ false → step (state_of fs x (in_cdsect d)) c ≡ Some (state_of fs x (in_cdsect (further d c)))
  m_in_cdsect d c h k =
      let r = text_run x in
      let s = settled d in
      let n = brackets d in
      let put : ℕ → List ℕ → State = λ m l. record (state_of fs x (in_cdsect d)) { mode = InCDSect m; run = l } in
      elim (eqb c 93) as (λ (b : Bool). cond b (Some (put (one_more n) (cond (eqb n 2) ((r ++ s) ++ (93 ∷ [])) (r ++ s))))
      (cond (ends_cdsect d c) (to_mode (state_of fs x (in_cdsect d)) Between) (cond (is_char c) (Some (put 0 ((r ++ s) ++ (replicate n 93 ++ encode c)))) None))
      ≡ Some (put (cond b (one_more n) 0) (r ++ cond b (cond (eqb n 2) (s ++ (93 ∷ [])) s) (s ++ (replicate n 93 ++ encode c))))) [
        | true ↦ ap (λ l. Some (put (one_more n) l)) (cdsect_run r s (eqb n 2))
        | false ↦ cond-false (ends_cdsect d c) _ _ k ∙ cond-true (is_char c) _ _ h ∙ ap (λ l. Some (put 0 l)) (append_assoc r s (replicate n 93 ++ encode c))
      ]

  pub m_cdsect_end : (d : CDSect) → brackets d ≡ 2 → step (state_of fs x (in_cdsect d)) 62 ≡ Some (state_of fs (cdata x d) no_piece)
  m_cdsect_end d h = cond-true (eqb (brackets d) 2) _ _ (eq-eqb (brackets d) 2 h)

module _ (fs : Frames) (y k : Content) (n : List ℕ) (ats : Attributes) (sp : List ℕ) where
  pub m_end : step (state_of (frame fs y n ats sp) k less) 47 ≡ Some (state_of (frame fs y n ats sp) k (ending [] n))
  m_end = refl

  pub m_ending : (m : List ℕ) (c : ℕ) (r : List ℕ) → step (state_of (frame fs y n ats sp) k (ending m (c ∷ r))) c ≡ Some (state_of (frame fs y n ats sp) k (ending (m ++ c ∷ []) r))
  m_ending m c r = end_on (state_of (frame fs y n ats sp) k (ending m (c ∷ r))) c (encodes r)

  pub closed_tokens : (sp2 : List ℕ) → seen_tokens (frame fs y n ats sp) k ++ (text_of (text_run k) ++ (End ∷ [])) ≡ seen_tokens fs (tagged y n ats sp k sp2)
  closed_tokens sp2 = rw (tokens-joined (attribute_nodes ats) (with_run (nodes k) (text_run k)), tokens-with_run (nodes y) (text_run y), tokens-with_run (nodes k) (text_run k)) (simp append_assoc)

  closed_state : (sp2 : List ℕ) → closed (state_of (frame fs y n ats sp) k no_piece) (names fs) ≡ state_of fs (tagged y n ats sp k sp2) no_piece
  closed_state sp2 =
      ap (λ b. record (closed (state_of (frame fs y n ats sp) k no_piece) (names fs)) { rooted = b }) (or-true (has_element k))
      ∙ ap (λ b. record (closed (state_of (frame fs y n ats sp) k no_piece) (names fs)) { rooted = true; typed = b }) (or-true (has_type k))
      ∙ ap (λ ts. record (state_of fs (tagged y n ats sp k sp2) no_piece) { tokens = ts }) (closed_tokens sp2)

  pub m_end_space1 : (m : List ℕ) (c : ℕ) → is_white c ≡ true → step (state_of (frame fs y n ats sp) k (ending m [])) c ≡ Some (state_of (frame fs y n ats sp) k (ended m [] c))
  m_end_space1 m c h = cond-true _ _ _ h

  pub m_end_space2 : (m a : List ℕ) (d c : ℕ) → is_white c ≡ true → step (state_of (frame fs y n ats sp) k (ended m a d)) c ≡ Some (state_of (frame fs y n ats sp) k (ended m (a ++ d ∷ []) c))
  m_end_space2 m a d c h = cond-true _ _ _ h

  pub m_close1 : (m sp2 : List ℕ) → step (state_of (frame fs y n ats sp) k (ending m [])) 62 ≡ Some (state_of fs (tagged y n ats sp k sp2) no_piece)
  m_close1 m sp2 = ap Some (closed_state sp2)

  pub m_close2 : (m sp2 a : List ℕ) (d : ℕ) → step (state_of (frame fs y n ats sp) k (ended m a d)) 62 ≡ Some (state_of fs (tagged y n ats sp k sp2) no_piece)
  m_close2 m sp2 a d = ap Some (closed_state sp2)

-- a byte order mark
pub m_mark : step (state_of bottom nothing no_piece) 65279 ≡ Some (state_of bottom mark no_piece)
m_mark = refl
