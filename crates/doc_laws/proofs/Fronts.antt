-- What is read is the front of a document.
use Rattle.std.specs.Prelude.{bytes_eq}
use Rattle.std.proofs.Common.{ℕ, ◌≡◌, ◌+◌, ◌<◌, ◌⊎◌, inl, inr, Bool, true, false, not, ◌&&◌, eqb, cond, List, [], ◌∷◌, ◌++◌, length, Option, Some, None, refl, sym, ap, ◌∙◌, subst, append_assoc, append-nil, arith, eqb-true, ◌≤◌, zero, suc, length-append}
use Rattle.std.specs.List.{list_all}
use Rattle.std.proofs.lemmas.Bool.{false≢true, not-true, and_parts, and_from}
use Rattle.std.proofs.lemmas.Str.{cons_from_encodes, length-le-encodes}
use lib.Utf8.{encode, encodes}
use Rattle.gcx_base.specs.Characters.{is_char, is_white, is_start_char, is_part_char}
use Rattle.gcx_model.specs.References.{letters}
use Rattle.gcx_model.specs.Attributes.{is_text_char, is_name, is_blank_text, is_gap, is_quote, is_fresh, AttributeValue, blank_value, value_char, value_reference, Head, Attributes, no_attribute, attribute, value_spelling, head_spelling, attributes_spelling, attribute_names, is_value_char, IsValue, IsHead, IsAttributes}
use Rattle.gcx_model.specs.Markup.{CommentText, blank_comment, plain, dashed, CDSect, blank_cdsect, further, blank_data, data_char, data_spelling, marks, ends_data, blank_declaration, doc_char, literal, doc_word, doc_start, is_doc_char, is_literal_char, declaration_spelling, comment_spelling, comment_start, cdata_word, cdata_start, cdsect_spelling, IsCommentText, brackets, one_more, ends_cdsect, IsCDSect}
use Rattle.gcx_model.specs.Grammar.{Content, nothing, mark, space, char, reference, cdata, comment, bare, instruction, doctype, single, tagged, single_tag, end_tag_spelling, spelling, has_element, may_open, IsContent, nodes, Viable}
use Rattle.gcx_model.specs.Fronts.{Frames, bottom, frame, Part, no_part, spaced, part_name, name_spaced, equals, value_part, value_amp, Piece, no_piece, less, started, tag, slashed, ending, ended, question, target, target_mark, in_instruction, doc_wording, doc_gap, doc, doc_literal, bang, bang_dash, in_comment, comment_dash, comment_end, cdsect_word, in_cdsect, amp, frames_spelling, piece_spelling, names, inside, IsFrames, IsPart, IsPiece, part_spelling, front_spelling, IsFront}
use Rattle.doc_laws.specs.Machine.{MachineMode, State, begun, on_between, on_tag, on_named, on_ended, on_referred, InReference, InValueReference, Between, InValue, behind, to_end_name, on_end, on_word, step, to_mode, DocWord, DocSpace, CDSectWord, InCDSect}
use Rattle.doc_laws.specs.States.{rooted, typed, Fronts, state_of}
use Rattle.doc_laws.proofs.Tests.{not_true, chosen, at, all_more, name_more, name_append, blank_more, gap_blank, gap_more}
use Rattle.doc_laws.proofs.References.{completes, Refers, goes_on, is_done, is_bad, refers}
use Rattle.doc_laws.proofs.Moves.{may_rooted, end_within, m_char, m_space_out, m_mark, m_less, m_amp, m_refer, m_referred, m_started, m_bang, m_name, m_space1, m_space2, m_space3, m_open1, m_open2, m_open3, m_slash1, m_slash2, m_slash3, m_single, m_attr, m_attr_name, m_attr_space1, m_attr_space2, m_equals1, m_equals2, m_equals_space, m_quote, m_value, m_value_amp, m_value_refer, m_value_referred, m_valued, m_question, m_target, m_target_name, m_target_mark, m_bare, m_instruction_start, m_in_instruction, m_instruction_end, m_doc_word, m_doc_wording, m_doc_gap1, m_doc_gap2, m_doc_name, m_doc_char, m_doc_quote, m_doc_literal, m_doc_unquote, m_doctype, m_bang_dash, m_in_comment, m_plain, m_dash, m_dashed, m_dashes, m_comment, m_cdsect_word, m_word, m_cdsect_start, m_in_cdsect, m_cdsect_end, m_end, m_ending, m_end_space1, m_end_space2, m_close1, m_close2}

pub some_is : (s t : State) → Some s ≡ Some t → s ≡ t
some_is s t e = cc

pub none_some : {X : Type 0} (s : State) → None ≡ Some s → X
none_some s e = let no : ⊥ = cc in absurd no

pub cond_some : (b : Bool) (x s : State) → cond b (Some x) None ≡ Some s → (b ≡ true) × (x ≡ s)
cond_some true x s e = (refl, some_is x s e)
cond_some false x s e = none_some s e

-- the first test holds and s is this state, or the first fails
pub first : (b : Bool) (x s : State) (y : Option State) → cond b (Some x) y ≡ Some s → (b ≡ true) ⊎ ((b ≡ false) × (y ≡ Some s))
first true x s y e = inl refl
first false x s y e = inr (refl, e)

pub last : (b : Bool) (x s : State) → cond b (Some x) None ≡ Some s → b ≡ true
last b x s e = (cond_some b x s e).0

-- a document that begins with frames and content
pub record Closing (fs : Frames) (x : Content) : Type 0 where
  more : List ℕ
  content : Content
  good : IsContent false content
  root : has_element content ≡ true
  spelled : spelling content ≡ (frames_spelling fs ++ spelling x) ++ more

finish : (fs : Frames) (x : Content) → IsFrames fs → IsContent (inside fs) x → Closing fs x
finish bottom x g h =
    elim (has_element x) as (λ (b : Bool). has_element x ≡ b → Closing bottom x) [
      | true ↦ λ e. record { more = []; content = x; good = h; root = e; spelled = sym (append-nil (spelling x)) }
      | false ↦ λ e. record { more = single_tag (97 ∷ []) no_attribute []; content = single x (97 ∷ []) no_attribute []; good = (h, ap not e, refl, refl, tt); root = refl; spelled = refl }
    ] refl
finish (frame fs y n ats sp) x g h =
    let c = finish fs (tagged y n ats sp x []) g.0 (g.1, g.2, g.3, g.4, h, refl, g.5) in
    record { more = end_tag_spelling n [] ++ c.more; content = c.content; good = c.good; root = c.root; spelled = c.spelled ∙ simp append_assoc }

-- a front without a piece that begins with a front
pub record Whole (fs : Frames) (x : Content) (p : Piece) : Type 0 where
  frames : Frames
  content : Content
  more : List ℕ
  good_frames : IsFrames frames
  good : IsContent (inside frames) content
  spelled : frames_spelling frames ++ spelling content ≡ front_spelling fs x p ++ more

-- a remark, a section
comment_whole : (fs : Frames) (x : Content) (r : CommentText) (tail more : List ℕ) (p : Piece) → IsFrames fs → IsContent (inside fs) x → IsCommentText r → (piece_spelling p ++ more ≡ comment_start ++ (comment_spelling r ++ (45 ∷ (45 ∷ (62 ∷ []))))) → Whole fs x p
comment_whole fs x r tail more p g h k e = record { frames = fs; content = comment x r; more = more; good_frames = g; good = (h, k); spelled = sym (append_assoc (frames_spelling fs ++ spelling x) (piece_spelling p) more ∙ ap (λ l. (frames_spelling fs ++ spelling x) ++ l) e ∙ append_assoc (frames_spelling fs) (spelling x) _) }

-- brackets that complete a section
cdsect_whole : (fs : Frames) (x : Content) (d : CDSect) (more : List ℕ) (p : Piece) → IsFrames fs → IsContent (inside fs) x → inside fs ≡ true → IsCDSect d → piece_spelling p ++ more ≡ cdata_start ++ (cdsect_spelling d ++ (93 ∷ (93 ∷ (62 ∷ [])))) → Whole fs x p
cdsect_whole fs x d more p g h i k e =
    let d1 = further d 93 in
    let d2 = further d1 93 in
    let two : (n : ℕ) → (n ≤ 2) → one_more (one_more n) ≡ 2 = two_more in
    record {
      frames = fs;
      content = cdata x d2;
      more = more;
      good_frames = g;
      good = (h, i, ((k, refl, refl), refl, refl), two (brackets d) (at_most d));
      spelled = sym (append_assoc (frames_spelling fs ++ spelling x) (piece_spelling p) more ∙ ap (λ l. (frames_spelling fs ++ spelling x) ++ l) (e ∙ simp append_assoc) ∙ append_assoc (frames_spelling fs) (spelling x) _);
    }
  where
    two_more : (n : ℕ) → n ≤ 2 → one_more (one_more n) ≡ 2
    two_more zero h = refl
    two_more (suc zero) h = refl
    two_more (suc (suc zero)) h = refl
    two_more (suc (suc (suc n))) h = absurd (omega arith)

    at_most : (d : CDSect) → brackets d ≤ 2
    at_most blank_cdsect = omega arith
    at_most (further d c) = bounded (eqb c 93) (brackets d) (at_most d)
      where
        bounded : (b : Bool) (n : ℕ) → n ≤ 2 → cond b (one_more n) 0 ≤ 2
        bounded false n h = omega arith
        bounded true n h = elim (eqb n 0) as (λ (q : Bool). cond q 1 2 ≤ 2) [ true ↦ omega arith | false ↦ omega arith ]

-- a name longer than others together is none of them
abbrev total : List (List ℕ) → ℕ
total [] = 0
total (n ∷ ns) = length n + total ns

same_length : (m n : List ℕ) → bytes_eq m n ≡ true → length m ≡ length n
same_length [] [] h = refl
same_length (a ∷ m) (b ∷ n) h = omega (arith, same_length m n (and_parts (eqb a b) (bytes_eq m n) h).1)
same_length [] (b ∷ n) h = absurd (false≢true h)
same_length (a ∷ m) [] h = absurd (false≢true h)

long_fresh : (m : List ℕ) (ns : List (List ℕ)) → total ns < length m → is_fresh m ns ≡ true
long_fresh m [] h = refl
long_fresh m (n ∷ ns) h =
    and_from (not (bytes_eq m n)) _
    (not_true (bytes_eq m n) (λ e. let l = same_length m n e in absurd (omega arith)))
    (long_fresh m ns (omega arith))

abbrev many : ℕ → List ℕ
many zero = []
many (suc k) = 97 ∷ many k

many_length : (k : ℕ) → length (many k) ≡ k
many_length zero = refl
many_length (suc k) = omega (arith, many_length k)

many_name : (k : ℕ) → list_all is_part_char (many k) ≡ true
many_name zero = refl
many_name (suc k) = many_name k

-- each name begins one that is none of these
fresh_more : (m : List ℕ) (ns : List (List ℕ)) → is_fresh (encodes (m ++ many (total ns + 1))) ns ≡ true
fresh_more m ns = long_fresh (encodes (m ++ many (total ns + 1))) ns (omega (arith, length-append m (many (total ns + 1)), many_length (total ns + 1), length-le-encodes (m ++ many (total ns + 1))))

module _ (fs : Frames) (x : Content) (n : List ℕ) (ats : Attributes) where
  -- a piece of an attribute that one completes
  attribute_whole : (h : Head) (v : AttributeValue) (p : Part) (more : List ℕ) → IsFrames fs → IsContent (inside fs) x → may_open (inside fs) (has_element x) ≡ true → is_name n ≡ true → IsAttributes ats → IsHead (attribute_names ats) h → IsValue h.quote v → part_spelling p ++ more ≡ head_spelling h ++ (value_spelling v ++ (h.quote ∷ (62 ∷ []))) → Whole fs x (tag n ats p)
  attribute_whole h v p more g k may name ga gh gv e = record {
    frames = frame fs x n (attribute ats h v) [];
    content = nothing;
    more = more;
    good_frames = (g, k, may, name, refl, (ga, gh, gv));
    good = tt;
    spelled = (simp (append_assoc, append-nil)) ∙ ap (λ l. frames_spelling fs ++ (spelling x ++ (60 ∷ (n ++ (attributes_spelling ats ++ l))))) (sym e) ∙ (simp append_assoc);
  }

  tag_whole : (p : Part) → IsFrames fs → IsContent (inside fs) x → may_open (inside fs) (has_element x) ≡ true → is_name n ≡ true → IsAttributes ats → IsPart ats p → Whole fs x (tag n ats p)
  tag_whole no_part g k may name ga q =
      record { frames = frame fs x n ats []; content = nothing; more = 62 ∷ []; good_frames = (g, k, may, name, refl, ga); good = tt; spelled = simp (append_assoc, append-nil) }
  tag_whole (spaced sp) g k may name ga q =
      record { frames = frame fs x n ats sp; content = nothing; more = 62 ∷ []; good_frames = (g, k, may, name, gap_blank sp q, ga); good = tt; spelled = simp (append_assoc, append-nil) }
  tag_whole (part_name sp m) g k may name ga q =
      let r = many (total (attribute_names ats) + 1) in
      let h : Head = record { gap = sp; name = m ++ r; before = []; behind = []; quote = 34 } in
      attribute_whole h blank_value (part_name sp m) (r ++ (61 ∷ (34 ∷ (34 ∷ (62 ∷ []))))) g k may name ga
      (q.0, name_append m r q.1 (many_name (total (attribute_names ats) + 1)), fresh_more m (attribute_names ats), refl, refl, refl) tt (simp append_assoc)
  tag_whole (name_spaced sp m sp1) g k may name ga q =
      let h : Head = record { gap = sp; name = m; before = sp1; behind = []; quote = 34 } in
      attribute_whole h blank_value (name_spaced sp m sp1) (61 ∷ (34 ∷ (34 ∷ (62 ∷ [])))) g k may name ga (q.0, q.1, q.2, gap_blank sp1 q.3, refl, refl) tt (simp append_assoc)
  tag_whole (equals sp m sp1 sp2) g k may name ga q =
      let h : Head = record { gap = sp; name = m; before = sp1; behind = sp2; quote = 34 } in
      attribute_whole h blank_value (equals sp m sp1 sp2) (34 ∷ (34 ∷ (62 ∷ []))) g k may name ga (q.0, q.1, q.2, q.3, q.4, refl) tt (simp append_assoc)
  tag_whole (value_part h v) g k may name ga q = attribute_whole h v (value_part h v) (h.quote ∷ (62 ∷ [])) g k may name ga q.0 q.1 (simp append_assoc)
  tag_whole (value_amp h v r) g k may name ga q =
      let t = completes r q.2 in
      attribute_whole h (value_reference v t.reference) (value_amp h v r) (t.more ++ (h.quote ∷ (62 ∷ []))) g k may name ga q.0 (q.1, t.good)
      ((simp append_assoc) ∙ ap (λ l. head_spelling h ++ (value_spelling v ++ (l ++ (h.quote ∷ (62 ∷ []))))) (sym t.spelled) ∙ (simp append_assoc))

-- content that completes a piece
content_whole : (fs : Frames) (x y : Content) (p : Piece) (more : List ℕ) → IsFrames fs → IsContent (inside fs) y → spelling y ≡ spelling x ++ (piece_spelling p ++ more) → Whole fs x p
content_whole fs x y p more g h e = record { frames = fs; content = y; more = more; good_frames = g; good = h; spelled = ap (λ l. frames_spelling fs ++ l) e ∙ (simp append_assoc) }

whole : (fs : Frames) (x : Content) (p : Piece) → IsFront fs x p → Whole fs x p
whole fs x no_piece g = record { frames = fs; content = x; more = []; good_frames = g.0; good = g.1; spelled = simp append-nil }
whole fs x less g = comment_whole fs x blank_comment [] (33 ∷ (45 ∷ (45 ∷ (45 ∷ (45 ∷ (62 ∷ [])))))) less g.0 g.1 tt refl
whole fs x (started n) g =
    record { frames = frame fs x n no_attribute []; content = nothing; more = 62 ∷ []; good_frames = (g.0, g.1, g.2.0, g.2.1, refl, tt); good = tt; spelled = simp (append_assoc, append-nil) }
whole fs x (tag n ats p) g = tag_whole fs x n ats p g.0 g.1 g.2.0 g.2.1 g.2.2 g.2.3
whole fs x (slashed n ats sp) g =
    record { frames = fs; content = single x n ats sp; more = 62 ∷ []; good_frames = g.0; good = (g.1, g.2.0, g.2.1, g.2.3, g.2.2); spelled = simp append_assoc }
whole bottom x (ending m r) g = absurd g.2
whole (frame fs y n ats sp) x (ending m r) g =
    record { frames = fs; content = tagged y n ats sp x []; more = r ++ (62 ∷ []); good_frames = g.0.0; good = (g.0.1, g.0.2, g.0.3, g.0.4, g.1, refl, g.0.5); spelled = rw (← g.2) (simp append_assoc) }
whole bottom x (ended m sp2 c) g = absurd g.2.0
whole (frame fs y n ats sp) x (ended m sp2 c) g =
    subst (λ l. Whole (frame fs y n ats sp) x (ended l sp2 c)) (sym g.2.0)
    (record { frames = fs; content = tagged y n ats sp x (sp2 ++ c ∷ []); more = 62 ∷ []; good_frames = g.0.0; good = (g.0.1, g.0.2, g.0.3, g.0.4, g.1, blank_more sp2 c g.2.1 g.2.2, g.0.5); spelled = simp append_assoc })
whole fs x question g = content_whole fs x (bare x (97 ∷ [])) question (97 ∷ (63 ∷ (62 ∷ []))) g.0 (g.1, refl) refl
whole fs x (target n) g = content_whole fs x (bare x n) (target n) (63 ∷ (62 ∷ [])) g.0 (g.1, g.2) refl
whole fs x (target_mark n) g = content_whole fs x (bare x n) (target_mark n) (62 ∷ []) g.0 (g.1, g.2) (simp append_assoc)
whole fs x (in_instruction n c d) g = content_whole fs x (instruction x n c (data_char d 63)) (in_instruction n c d) (63 ∷ (62 ∷ [])) g.0 (g.1, g.2.0, g.2.1, (g.2.2, refl, refl), refl) (simp append_assoc)
whole fs x (doc_wording m r) g =
    content_whole fs x (doctype x (32 ∷ []) 97 blank_declaration) (doc_wording m r) (r ++ (32 ∷ (97 ∷ (62 ∷ [])))) g.0 (g.1, g.2.0, refl, refl, tt)
    (ap (λ l. spelling x ++ (60 ∷ (33 ∷ (68 ∷ (l ++ (32 ∷ (97 ∷ (62 ∷ [])))))))) (sym g.2.1) ∙ (simp append_assoc))
whole fs x (doc_gap b) g = content_whole fs x (doctype x b 97 blank_declaration) (doc_gap b) (97 ∷ (62 ∷ [])) g.0 (g.1, g.2.0, g.2.1, refl, tt) (simp append_assoc)
whole fs x (doc b a d) g = content_whole fs x (doctype x b a d) (doc b a d) (62 ∷ []) g.0 (g.1, g.2.0, g.2.1, g.2.2, g.2.3) (simp append_assoc)
whole fs x (doc_literal b a d q l) g = content_whole fs x (doctype x b a (literal d q l)) (doc_literal b a d q l) (q ∷ (62 ∷ [])) g.0 (g.1, g.2.0, g.2.1, g.2.2, (g.2.3, g.2.4, g.2.5)) (simp append_assoc)
whole fs x bang g = comment_whole fs x blank_comment [] (45 ∷ (45 ∷ (45 ∷ (45 ∷ (62 ∷ []))))) bang g.0 g.1 tt refl
whole fs x bang_dash g = comment_whole fs x blank_comment [] (45 ∷ (45 ∷ (45 ∷ (62 ∷ [])))) bang_dash g.0 g.1 tt refl
whole fs x (in_comment r) g = comment_whole fs x r [] (45 ∷ (45 ∷ (62 ∷ []))) (in_comment r) g.0 g.1 g.2 refl
whole fs x (comment_dash r) g = comment_whole fs x r [] (45 ∷ (62 ∷ [])) (comment_dash r) g.0 g.1 g.2 (simp append_assoc)
whole fs x (comment_end r) g = comment_whole fs x r [] (62 ∷ []) (comment_end r) g.0 g.1 g.2 (simp append_assoc)
whole fs x (cdsect_word m r) g = cdsect_whole fs x blank_cdsect (r ++ (91 ∷ (93 ∷ (93 ∷ (62 ∷ []))))) (cdsect_word m r) g.0 g.1 g.2.0 tt (ap (λ l. 60 ∷ (33 ∷ (91 ∷ l))) (sym (append_assoc m r _) ∙ ap (λ l. l ++ (91 ∷ (93 ∷ (93 ∷ (62 ∷ []))))) g.2.1))
whole fs x (in_cdsect d) g = cdsect_whole fs x d (93 ∷ (93 ∷ (62 ∷ []))) (in_cdsect d) g.0 g.1 g.2.0 g.2.1 refl
whole fs x (amp r) g = let t = completes r g.2.1 in content_whole fs x (reference x t.reference) (amp r) t.more g.0 (g.1, g.2.0, t.good) (ap (λ l. spelling x ++ l) t.spelled)

pub front_viable : (fs : Frames) (x : Content) (p : Piece) → IsFront fs x p → Viable (front_spelling fs x p)
front_viable fs x p g =
    let w = whole fs x p g in
    let c = finish w.frames w.content w.good_frames w.good in
    record {
      more = w.more ++ c.more;
      document = nodes c.content;
      spelled = record {
        content = c.content;
        good = c.good;
        root = c.root;
        tree = refl;
        spelled = c.spelled ∙ ap (λ l. l ++ c.more) w.spelled ∙ append_assoc (front_spelling fs x p) w.more c.more;
      };
    }

module _ (fs : Frames) (x : Content) (c : ℕ) (s : State) where
  -- the front that a piece leads to
  to_piece : (p q : Piece) → IsFrames fs → IsContent (inside fs) x → IsPiece fs x q → piece_spelling q ≡ piece_spelling p ++ (c ∷ []) → state_of fs x q ≡ s → Fronts (front_spelling fs x p ++ (c ∷ [])) s
  to_piece p q g h k e f = record { frames = fs; content = x; piece = q; good = (g, h, k); spelled = ap (λ l. (frames_spelling fs ++ spelling x) ++ l) e ∙ sym (append_assoc (frames_spelling fs ++ spelling x) (piece_spelling p) (c ∷ [])); state = f }

  -- the content that a piece completes
  to_content : (p : Piece) (y : Content) → IsFrames fs → IsContent (inside fs) y → spelling y ≡ spelling x ++ (piece_spelling p ++ (c ∷ [])) → state_of fs y no_piece ≡ s → Fronts (front_spelling fs x p ++ (c ∷ [])) s
  to_content p y g h e f = record { frames = fs; content = y; piece = no_piece; good = (g, h, tt); spelled = ap (λ l. (frames_spelling fs ++ l) ++ []) e ∙ simp (append_assoc, append-nil); state = f }

moved : (s t : State) (o : Option State) → o ≡ Some t → o ≡ Some s → t ≡ s
moved s t o e f = some_is t s (sym e ∙ f)

-- the character of a step is this one
by_at : (s t : State) (st : State) (c n : ℕ) → c ≡ n → step st n ≡ Some t → step st c ≡ Some s → t ≡ s
by_at s t st c n is e f = some_is t s (sym e ∙ ap (step st) (sym is) ∙ f)

between_on : (fs : Frames) (x : Content) (c : ℕ) (s : State) → IsFrames fs → IsContent (inside fs) x → on_between (state_of fs x no_piece) c ≡ Some s → step (state_of fs x no_piece) c ≡ Some s → Fronts (front_spelling fs x no_piece ++ (c ∷ [])) s
between_on fs x c s g h f e =
    elim (first (is_text_char c && inside fs) _ s _ f) [
      | inl b ↦
          let both = and_parts (is_text_char c) (inside fs) b in
          to_content fs x c s no_piece (char x c) g (h, both.1, both.0) refl (moved s _ _ (m_char fs x c both.0 both.1) e)
      | inr k ↦ elim (first (is_white c && not (inside fs)) _ s _ k.1) [
        | inl b ↦
            let both = and_parts (is_white c) (not (inside fs)) b in
            let out = not-true (inside fs) both.1 in
            to_content fs x c s no_piece (space x c) g (h, out, both.0) refl (moved s _ _ (m_space_out fs x c both.0 out) e)
        | inr k1 ↦ elim (first (eqb c 60) _ s _ k1.1) [
          | inl b ↦ to_piece fs x c s no_piece less g h tt (ap (λ d. d ∷ []) (sym (at c 60 b))) (by_at s _ (state_of fs x no_piece) c 60 (at c 60 b) (m_less fs x) e)
          | inr k2 ↦
              let b = and_parts (eqb c 38) (inside fs) (last (eqb c 38 && inside fs) _ s k2.1) in
              to_piece fs x c s no_piece (amp (letters [])) g h (b.1, refl) (ap (λ d. d ∷ []) (sym (at c 38 b.0))) (by_at s _ (state_of fs x no_piece) c 38 (at c 38 b.0) (m_amp fs x b.1) e)
        ]
      ]
    ]

between_front : (fs : Frames) (x : Content) (c : ℕ) (s : State) → IsFrames fs → IsContent (inside fs) x → step (state_of fs x no_piece) c ≡ Some s → Fronts (front_spelling fs x no_piece ++ (c ∷ [])) s
between_front bottom nothing c s g h e =
    elim (first (eqb c 65279) _ s _ e) [
      | inl b ↦ to_content bottom nothing c s no_piece mark g refl (ap (λ d. d ∷ []) (sym (at c 65279 b))) (by_at s _ (state_of bottom nothing no_piece) c 65279 (at c 65279 b) m_mark e)
      | inr k ↦ between_on bottom nothing c s g h k.1 e
    ]
between_front (frame fs y n ats sp) nothing c s g h e = between_on (frame fs y n ats sp) nothing c s g h e e
between_front fs x c s g h e = between_on fs x c s g h e e

less_front : (fs : Frames) (x : Content) (c : ℕ) (s : State) → IsFrames fs → IsContent (inside fs) x → step (state_of fs x less) c ≡ Some s → Fronts (front_spelling fs x less ++ (c ∷ [])) s
less_front fs x c s g h e =
    elim (first (is_start_char c && may_open (inside fs) (rooted fs x)) _ s _ e) [
      | inl b ↦
          let both = and_parts (is_start_char c) (may_open (inside fs) (rooted fs x)) b in
          let may = sym (may_rooted (inside fs) (has_element x)) ∙ both.1 in
          to_piece fs x c s less (started (c ∷ [])) g h (may, and_from (is_start_char c) true both.0 refl) refl (moved s _ _ (m_started fs x c both.0 may) e)
      | inr k ↦ elim (first (eqb c 47 && inside fs) _ s _ k.1) [
        | inl b ↦ let both = and_parts (eqb c 47) (inside fs) b in slash fs x c s g h (at c 47 both.0) both.1 e
        | inr k2 ↦
            elim (first (eqb c 33) _ s _ k2.1) [
              | inl b ↦ to_piece fs x c s less bang g h tt (ap (λ d. 60 ∷ (d ∷ [])) (sym (at c 33 b))) (by_at s _ (state_of fs x less) c 33 (at c 33 b) (m_bang fs x) e)
              | inr k3 ↦
                  let is = at c 63 (last (eqb c 63) _ s k3.1) in
                  to_piece fs x c s less question g h tt (ap (λ d. 60 ∷ (d ∷ [])) (sym is)) (by_at s _ (state_of fs x less) c 63 is (m_question fs x) e)
            ]
      ]
    ]
  where
    slash : (fs : Frames) (x : Content) (c : ℕ) (s : State) → IsFrames fs → IsContent (inside fs) x → c ≡ 47 → inside fs ≡ true → step (state_of fs x less) c ≡ Some s → Fronts (front_spelling fs x less ++ (c ∷ [])) s
    slash bottom x c s g h is i e = absurd (false≢true i)
    slash (frame fs y n ats sp) x c s g h is i e = to_piece (frame fs y n ats sp) x c s less (ending [] n) g h refl (ap (λ d. 60 ∷ (d ∷ [])) (sym is)) (by_at s _ (state_of (frame fs y n ats sp) x less) c 47 is (m_end fs y x n ats sp) e)

-- behind the name of a start tag, or behind a value
tag_front : (fs : Frames) (x : Content) (n : List ℕ) (ats : Attributes) (sp : List ℕ) (p : Piece) (c : ℕ) (s : State) → IsFrames fs → IsContent (inside fs) x → (may_open (inside fs) (has_element x) ≡ true) → (is_name n ≡ true) → IsAttributes ats → is_blank_text sp ≡ true → piece_spelling p ≡ 60 ∷ (n ++ (attributes_spelling ats ++ sp))
    → (is_white c ≡ true → step (state_of fs x p) c ≡ Some (state_of fs x (tag n ats (spaced (sp ++ (c ∷ []))))))
    → step (state_of fs x p) 62 ≡ Some (state_of (frame fs x n ats sp) nothing no_piece)
    → step (state_of fs x p) 47 ≡ Some (state_of fs x (slashed n ats sp))
    → (u : State) → on_tag u c ≡ Some s → step (state_of fs x p) c ≡ Some s → Fronts (front_spelling fs x p ++ (c ∷ [])) s
tag_front fs x n ats sp p c s g h may name ga b spelled m1 m2 m3 u f e =
    elim (first (is_white c) _ s _ f) [
      | inl k ↦ to_piece fs x c s p (tag n ats (spaced (sp ++ (c ∷ [])))) g h (may, name, ga, gap_more sp c b k) ((simp append_assoc) ∙ ap (λ l. l ++ (c ∷ [])) (sym spelled)) (moved s _ _ (m1 k) e)
      | inr k ↦ elim (first (eqb c 62) _ s _ k.1) [
        | inl k2 ↦ record { frames = frame fs x n ats sp; content = nothing; piece = no_piece; good = ((g, h, may, name, b, ga), tt, tt); spelled = rw (spelled, at c 62 k2) (simp (append_assoc, append-nil)); state = by_at s _ (state_of fs x p) c 62 (at c 62 k2) m2 e }
        | inr k2 ↦
            let is = at c 47 (last (eqb c 47) _ s k2.1) in
            to_piece fs x c s p (slashed n ats sp) g h (may, name, ga, b) (ap (λ d. 60 ∷ (n ++ (attributes_spelling ats ++ (sp ++ (d ∷ []))))) (sym is) ∙ (simp append_assoc) ∙ ap (λ l. l ++ (c ∷ [])) (sym spelled)) (by_at s _ (state_of fs x p) c 47 is m3 e)
      ]
    ]

word_next : (st s : State) (c : ℕ) (mk : List ℕ → MachineMode) (after : Option State) (d : ℕ) (r : List ℕ) → on_word st c mk (d ∷ r) after ≡ Some s → c ≡ d
word_next st s c mk after d r e = eqb-true c d (last (eqb c d) _ s e)

behind_is : (xs ys rest : List ℕ) → behind xs ys ≡ Some rest → ys ≡ xs ++ rest
behind_is [] ys rest e = cc
behind_is (x ∷ xs) [] rest e = let no : ⊥ = cc in absurd no
behind_is (x ∷ xs) (y ∷ ys) rest e = by (eqb x y) refl (λ k. behind_is xs ys rest k) e
  where
    by : (b : Bool) → eqb x y ≡ b → (behind xs ys ≡ Some rest → ys ≡ xs ++ rest) → cond b (behind xs ys) None ≡ Some rest → y ∷ ys ≡ x ∷ (xs ++ rest)
    by true q h k = ap (λ l. y ∷ l) (h k) ∙ ap (λ a. a ∷ (xs ++ rest)) (sym (eqb-true x y q))
    by false q h k = let no : ⊥ = cc in absurd no

-- the next character of a name is this one
end_next : (st s : State) (c d : ℕ) (r : List ℕ) → on_end st (encodes (d ∷ r)) c ≡ Some s → c ≡ d
end_next st s c d r e = by (behind (encode c) (encodes (d ∷ r))) refl (sym (end_within st c d (encodes r)) ∙ e)
  where
    by : (o : Option (List ℕ)) → behind (encode c) (encodes (d ∷ r)) ≡ o → to_end_name st o ≡ Some s → c ≡ d
    by None q k = none_some s k
    by (Some rest) q k =
        let h = cons_from_encodes (d ∷ r) rest c (behind_is (encode c) (encodes (d ∷ r)) rest q) in
        let e1 = h.1 in
        cc

module _ (fs : Frames) (x : Content) (n : List ℕ) (ats : Attributes) (c : ℕ) (s : State) (g : IsFrames fs) (gx : IsContent (inside fs) x) (may : may_open (inside fs) (has_element x) ≡ true) (name : is_name n ≡ true) (ga : IsAttributes ats) where
  -- the piece of an attribute that a piece leads to
  to_part : (p q : Part) → IsPart ats q → part_spelling q ≡ part_spelling p ++ (c ∷ []) → state_of fs x (tag n ats q) ≡ s → Fronts (front_spelling fs x (tag n ats p) ++ (c ∷ [])) s
  to_part p q k e f = to_piece fs x c s (tag n ats p) (tag n ats q) g gx (may, name, ga, k) (ap (λ l. 60 ∷ (n ++ (attributes_spelling ats ++ l))) e ∙ (simp append_assoc)) f

  -- behind the name of an attribute
  named_front : (sp m sp1 : List ℕ) (p : Part) → is_gap sp ≡ true → is_name m ≡ true → is_fresh (encodes m) (attribute_names ats) ≡ true → is_blank_text sp1 ≡ true → part_spelling p ≡ sp ++ (m ++ sp1)
      → (is_white c ≡ true → step (state_of fs x (tag n ats p)) c ≡ Some (state_of fs x (tag n ats (name_spaced sp m (sp1 ++ (c ∷ []))))))
      → step (state_of fs x (tag n ats p)) 61 ≡ Some (state_of fs x (tag n ats (equals sp m sp1 [])))
      → (u : State) → on_named u c ≡ Some s → step (state_of fs x (tag n ats p)) c ≡ Some s → Fronts (front_spelling fs x (tag n ats p) ++ (c ∷ [])) s
  named_front sp m sp1 p b h f b1 spelled m1 m2 u k e =
      elim (first (is_white c) _ s _ k) [
        | inl i ↦ to_part p (name_spaced sp m (sp1 ++ (c ∷ []))) (b, h, f, gap_more sp1 c b1 i) ((simp append_assoc) ∙ ap (λ l. l ++ (c ∷ [])) (sym spelled)) (moved s _ _ (m1 i) e)
        | inr i ↦
            let is = at c 61 (last (eqb c 61) _ s i.1) in
            to_part p (equals sp m sp1 []) (b, h, f, b1, refl) (ap (λ d. sp ++ (m ++ (sp1 ++ (d ∷ [])))) (sym is) ∙ (simp append_assoc) ∙ ap (λ l. l ++ (c ∷ [])) (sym spelled)) (by_at s _ (state_of fs x (tag n ats p)) c 61 is m2 e)
      ]

  part_front : (p : Part) → IsPart ats p → step (state_of fs x (tag n ats p)) c ≡ Some s → Fronts (front_spelling fs x (tag n ats p) ++ (c ∷ [])) s
  part_front no_part k e =
      tag_front fs x n ats [] (tag n ats no_part) c s g gx may name ga refl refl (m_space3 fs x n ats (c ∷ []) c) (m_open3 fs x n ats []) (m_slash3 fs x n ats []) (state_of fs x (tag n ats no_part)) e e
  part_front (spaced sp) k e =
      elim (first (is_start_char c) _ s _ e) [
        | inl i ↦ to_part (spaced sp) (part_name sp (c ∷ [])) (k, and_from (is_start_char c) true i refl) refl (moved s _ _ (m_attr fs x n ats sp c i) e)
        | inr i ↦ tag_front fs x n ats sp (tag n ats (spaced sp)) c s g gx may name ga (gap_blank sp k) refl (m_space2 fs x n ats sp (sp ++ (c ∷ [])) c) (m_open2 fs x n ats sp sp) (m_slash2 fs x n ats sp sp) (state_of fs x (tag n ats (spaced sp))) i.1 e
      ]
  part_front (part_name sp m) k e =
      elim (first (is_part_char c) _ s _ e) [
        | inl i ↦ to_part (part_name sp m) (part_name sp (m ++ (c ∷ []))) (k.0, name_more m c k.1 i) (simp append_assoc) (moved s _ _ (m_attr_name fs x n ats sp m c i) e)
        | inr i ↦ elim (chosen (is_fresh (encodes m) (attribute_names ats)) _ _ _ i.1) [
          | inl f ↦ named_front sp m [] (part_name sp m) k.0 k.1 f.0 refl (simp append-nil) (m_attr_space1 fs x n ats sp m (c ∷ []) c f.0) (m_equals1 fs x n ats sp m [] [] f.0) (state_of fs x (tag n ats (part_name sp m))) f.1 e
          | inr f ↦ none_some s f.1
        ]
      ]
  part_front (name_spaced sp m sp1) k e =
      named_front sp m sp1 (name_spaced sp m sp1) k.0 k.1 k.2 (gap_blank sp1 k.3) refl (m_attr_space2 fs x n ats sp m sp1 (sp1 ++ (c ∷ [])) c) (m_equals2 fs x n ats sp m sp1 sp1 []) (state_of fs x (tag n ats (name_spaced sp m sp1))) e e
  part_front (equals sp m sp1 sp2) k e =
      elim (first (is_white c) _ s _ e) [
        | inl i ↦ to_part (equals sp m sp1 sp2) (equals sp m sp1 (sp2 ++ (c ∷ []))) (k.0, k.1, k.2, k.3, blank_more sp2 c k.4 i) (simp append_assoc) (moved s _ _ (m_equals_space fs x n ats sp m sp1 sp2 (sp2 ++ (c ∷ [])) c i) e)
        | inr i ↦
            let q = last (is_quote c) _ s i.1 in
            let h : Head = record { gap = sp; name = m; before = sp1; behind = sp2; quote = c } in
            to_part (equals sp m sp1 sp2) (value_part h blank_value) ((k.0, k.1, k.2, k.3, k.4, q), tt) (simp (append_assoc, append-nil)) (moved s _ _ (m_quote fs x n ats h q) e)
      ]
  part_front (value_part h v) k e =
      elim (first (is_value_char h.quote c) _ s _ e) [
        | inl i ↦ to_part (value_part h v) (value_part h (value_char v c)) (k.0, (k.1, i)) (simp append_assoc) (moved s _ _ (m_value fs x n ats h v c i) e)
        | inr i ↦ elim (first (eqb c h.quote) _ s _ i.1) [
          | inl j ↦
              let is = at c h.quote j in
              to_piece fs x c s (tag n ats (value_part h v)) (tag n (attribute ats h v) no_part) g gx (may, name, (ga, k.0, k.1), refl) (ap (λ d. 60 ∷ (n ++ ((attributes_spelling ats ++ (head_spelling h ++ (value_spelling v ++ (d ∷ [])))) ++ []))) (sym is) ∙ (simp (append_assoc, append-nil))) (by_at s _ (state_of fs x (tag n ats (value_part h v))) c h.quote is (m_valued fs x n ats h v) e)
          | inr j ↦
              let is = at c 38 (last (eqb c 38) _ s j.1) in
              to_part (value_part h v) (value_amp h v (letters [])) (k.0, k.1, refl) (ap (λ d. head_spelling h ++ (value_spelling v ++ (d ∷ []))) (sym is) ∙ (simp append_assoc)) (by_at s _ (state_of fs x (tag n ats (value_part h v))) c 38 is (m_value_amp fs x n ats h v k.0.5) e)
        ]
      ]
  part_front (value_amp h v r) k e =
      by (refers r c k.2)
    where
      by : Refers r c → Fronts (front_spelling fs x (tag n ats (value_amp h v r)) ++ (c ∷ [])) s
      by (goes_on q g1 sp e1) = to_part (value_amp h v r) (value_amp h v q) (k.0, k.1, g1) (ap (λ l. head_spelling h ++ (value_spelling v ++ l)) sp ∙ (simp append_assoc)) (moved s _ _ (m_value_refer fs x n ats h v r q c e1) e)
      by (is_done t g1 sp e1) = to_part (value_amp h v r) (value_part h (value_reference v t)) (k.0, (k.1, g1)) (ap (λ l. head_spelling h ++ (value_spelling v ++ l)) sp ∙ (simp append_assoc)) (moved s _ _ (m_value_referred fs x n ats h v r t c e1) e)
      by (is_bad e1) = none_some s (sym (ap (on_referred (state_of fs x (tag n ats (value_amp h v r))) (InValueReference h.quote) (InValue h.quote)) e1) ∙ e)

ended_front : (fs : Frames) (y x : Content) (n : List ℕ) (ats : Attributes) (sp sp2 : List ℕ) (p : Piece) (c : ℕ) (s : State) → IsFrames (frame fs y n ats sp) → IsContent true x → is_blank_text sp2 ≡ true → piece_spelling p ≡ 60 ∷ (47 ∷ (n ++ sp2))
    → (is_white c ≡ true → step (state_of (frame fs y n ats sp) x p) c ≡ Some (state_of (frame fs y n ats sp) x (ended n sp2 c)))
    → step (state_of (frame fs y n ats sp) x p) 62 ≡ Some (state_of fs (tagged y n ats sp x sp2) no_piece)
    → on_ended (state_of (frame fs y n ats sp) x p) c (encodes n ∷ names fs) ≡ Some s → step (state_of (frame fs y n ats sp) x p) c ≡ Some s → Fronts (front_spelling (frame fs y n ats sp) x p ++ (c ∷ [])) s
ended_front fs y x n ats sp sp2 p c s g h b spelled m1 m2 f e =
    elim (first (is_white c) _ s _ f) [
      | inl k ↦ to_piece (frame fs y n ats sp) x c s p (ended n sp2 c) g h (refl, b, k) ((simp append_assoc) ∙ ap (λ l. l ++ (c ∷ [])) (sym spelled)) (moved s _ _ (m1 k) e)
      | inr k ↦
          let is = at c 62 (last (eqb c 62) _ s k.1) in
          record { frames = fs; content = tagged y n ats sp x sp2; piece = no_piece; good = (g.0, (g.1, g.2, g.3, g.4, h, b, g.5), tt); spelled = rw (spelled, is) (simp (append_assoc, append-nil)); state = by_at s _ (state_of (frame fs y n ats sp) x p) c 62 is m2 e }
    ]

cdsect_front : (fs : Frames) (x : Content) (d : CDSect) (c : ℕ) (s : State) → IsFrames fs → IsContent (inside fs) x → inside fs ≡ true → IsCDSect d → step (state_of fs x (in_cdsect d)) c ≡ Some s → Fronts (front_spelling fs x (in_cdsect d) ++ (c ∷ [])) s
cdsect_front fs x d c s g h i k e =
    elim (first (eqb c 93) _ s _ e) [
      | inl b ↦
          let is = at c 93 b in
          let good : is_char c ≡ true = ap is_char is in
          let not_end : ends_cdsect d c ≡ false = ap (λ a. ends_cdsect d a) is in
          go good not_end
      | inr q ↦ elim (first (ends_cdsect d c) _ s _ q.1) [
        | inl b ↦
            let both = and_parts (eqb c 62) (eqb (brackets d) 2) b in
            let is = at c 62 both.0 in
            let two = at (brackets d) 2 both.1 in
            to_content fs x c s (in_cdsect d) (cdata x d) g (h, i, k, two) (ap (λ a. spelling x ++ (cdata_start ++ (cdsect_spelling d ++ (a ∷ [])))) (sym is) ∙ simp append_assoc) (by_at s _ (state_of fs x (in_cdsect d)) c 62 is (m_cdsect_end fs x d two) e)
        | inr q2 ↦ go (last (is_char c) _ s q2.1) q2.0
      ]
    ]
  where
    go : is_char c ≡ true → ends_cdsect d c ≡ false → Fronts (front_spelling fs x (in_cdsect d) ++ (c ∷ [])) s
    go good not_end = to_piece fs x c s (in_cdsect d) (in_cdsect (further d c)) g h (i, (k, good, not_end)) (simp append_assoc) (moved s _ _ (m_in_cdsect fs x d c good not_end) e)

pub step_front : (fs : Frames) (x : Content) (p : Piece) (c : ℕ) (s : State) → IsFront fs x p → step (state_of fs x p) c ≡ Some s → Fronts (front_spelling fs x p ++ (c ∷ [])) s
step_front fs x no_piece c s g e = between_front fs x c s g.0 g.1 e
step_front fs x less c s g e = less_front fs x c s g.0 g.1 e
step_front fs x (started n) c s g e =
    elim (first (is_part_char c) _ s _ e) [
      | inl b ↦ to_piece fs x c s (started n) (started (n ++ (c ∷ []))) g.0 g.1 (g.2.0, name_more n c g.2.1 b) refl (moved s _ _ (m_name fs x n c b) e)
      | inr k ↦ tag_front fs x n no_attribute [] (started n) c s g.0 g.1 g.2.0 g.2.1 tt refl (ap (λ l. 60 ∷ l) (sym (append-nil n))) (m_space1 fs x n (c ∷ []) c) (m_open1 fs x n []) (m_slash1 fs x n []) (begun (state_of fs x (started n))) k.1 e
    ]
step_front fs x (tag n ats p) c s g e = part_front fs x n ats c s g.0 g.1 g.2.0 g.2.1 g.2.2 p g.2.3 e
step_front fs x (slashed n ats sp) c s g e =
    let is = at c 62 (last (eqb c 62) _ s e) in
    to_content fs x c s (slashed n ats sp) (single x n ats sp) g.0 (g.1, g.2.0, g.2.1, g.2.3, g.2.2) (ap (λ a. spelling x ++ (60 ∷ (n ++ (attributes_spelling ats ++ (sp ++ (47 ∷ (a ∷ []))))))) (sym is) ∙ simp append_assoc) (by_at s _ (state_of fs x (slashed n ats sp)) c 62 is (m_single fs x n ats sp) e)
step_front bottom x (ending m r) c s g e = absurd g.2
step_front (frame fs y n ats sp) x (ending m []) c s g e =
    let is : m ≡ n = sym (append-nil m) ∙ g.2 in
    ended_front fs y x n ats sp [] (ending m []) c s g.0 g.1 refl (ap (λ l. 60 ∷ (47 ∷ l)) (is ∙ sym (append-nil n)))
    (λ k. m_end_space1 fs y x n ats sp m c k) (m_close1 fs y x n ats sp m []) e e
step_front (frame fs y n ats sp) x (ending m (d ∷ r)) c s g e =
    let is = end_next (state_of (frame fs y n ats sp) x (ending m (d ∷ r))) s c d r e in
    to_piece (frame fs y n ats sp) x c s (ending m (d ∷ r)) (ending (m ++ (d ∷ [])) r) g.0 g.1 (append_assoc m (d ∷ []) r ∙ g.2) (ap (λ a. 60 ∷ (47 ∷ (m ++ (a ∷ [])))) (sym is)) (by_at s _ (state_of (frame fs y n ats sp) x (ending m (d ∷ r))) c d is (m_ending fs y x n ats sp m d r) e)
step_front bottom x (ended m sp2 d) c s g e = absurd g.2.0
step_front (frame fs y n ats sp) x (ended m sp2 d) c s g e =
    ended_front fs y x n ats sp (sp2 ++ (d ∷ [])) (ended m sp2 d) c s g.0 g.1 (blank_more sp2 d g.2.1 g.2.2) (ap (λ l. 60 ∷ (47 ∷ (l ++ (sp2 ++ (d ∷ []))))) g.2.0)
    (λ k. m_end_space2 fs y x n ats sp m sp2 d c k) (m_close2 fs y x n ats sp m (sp2 ++ (d ∷ [])) sp2 d) e e
step_front fs x question c s g e =
    let b = last (is_start_char c) _ s e in
    to_piece fs x c s question (target (c ∷ [])) g.0 g.1 (and_from (is_start_char c) true b refl) refl (moved s _ _ (m_target fs x c b) e)
step_front fs x (target n) c s g e =
    elim (first (is_part_char c) _ s _ e) [
      | inl b ↦ to_piece fs x c s (target n) (target (n ++ (c ∷ []))) g.0 g.1 (name_more n c g.2 b) refl (moved s _ _ (m_target_name fs x n c b) e)
      | inr k ↦ elim (first (is_white c) _ s _ k.1) [
        | inl b ↦ to_piece fs x c s (target n) (in_instruction n c blank_data) g.0 g.1 (g.2, b, tt) refl (moved s _ _ (m_instruction_start fs x n c b) e)
        | inr k2 ↦
            let is = at c 63 (last (eqb c 63) _ s k2.1) in
            to_piece fs x c s (target n) (target_mark n) g.0 g.1 g.2 (ap (λ d. 60 ∷ (63 ∷ (n ++ (d ∷ [])))) (sym is)) (by_at s _ (state_of fs x (target n)) c 63 is (m_target_mark fs x n) e)
      ]
    ]
step_front fs x (target_mark n) c s g e =
    let is = at c 62 (last (eqb c 62) _ s e) in
    to_content fs x c s (target_mark n) (bare x n) g.0 (g.1, g.2) (ap (λ a. spelling x ++ (60 ∷ (63 ∷ (n ++ (63 ∷ (a ∷ [])))))) (sym is) ∙ simp append_assoc) (by_at s _ (state_of fs x (target_mark n)) c 62 is (m_bare fs x n) e)
step_front fs x (in_instruction n a d) c s g e =
    elim (first (ends_data d c) _ s _ e) [
      | inl b ↦
          let both = and_parts (eqb c 62) (eqb (marks d) 1) b in
          let is = at c 62 both.0 in
          let one = at (marks d) 1 both.1 in
          to_content fs x c s (in_instruction n a d) (instruction x n a d) g.0 (g.1, g.2.0, g.2.1, g.2.2, one) (ap (λ q. spelling x ++ (60 ∷ (63 ∷ (n ++ (a ∷ (data_spelling d ++ (q ∷ []))))))) (sym is) ∙ simp append_assoc) (by_at s _ (state_of fs x (in_instruction n a d)) c 62 is (m_instruction_end fs x n a d one) e)
      | inr k ↦
          let b = last (is_char c) _ s k.1 in
          to_piece fs x c s (in_instruction n a d) (in_instruction n a (data_char d c)) g.0 g.1 (g.2.0, g.2.1, (g.2.2, b, k.0)) (simp append_assoc) (moved s _ _ (m_in_instruction fs x n a d c b k.0) e)
    ]
step_front fs x (doc_wording m []) c s g e =
    let b = last (is_white c) _ s e in
    let word : m ≡ doc_word = sym (append-nil m) ∙ g.2.1 in
    to_piece fs x c s (doc_wording m []) (doc_gap (c ∷ [])) g.0 g.1 (g.2.0, gap_more [] c refl b) (ap (λ l. 60 ∷ (33 ∷ (68 ∷ (l ++ (c ∷ []))))) (sym word)) (moved s _ _ (m_doc_gap1 fs x m (c ∷ []) c b) e)
step_front fs x (doc_wording m (d ∷ r)) c s g e =
    let is = word_next (state_of fs x (doc_wording m (d ∷ r))) s c DocWord (cond (is_white c) (to_mode (state_of fs x (doc_wording m (d ∷ r))) DocSpace) None) d r e in
    to_piece fs x c s (doc_wording m (d ∷ r)) (doc_wording (m ++ (d ∷ [])) r) g.0 g.1 (g.2.0, append_assoc m (d ∷ []) r ∙ g.2.1) (ap (λ a. 60 ∷ (33 ∷ (68 ∷ (m ++ (a ∷ []))))) (sym is)) (by_at s _ (state_of fs x (doc_wording m (d ∷ r))) c d is (m_doc_wording fs x m d r) e)
step_front fs x (doc_gap b) c s g e =
    elim (first (is_white c) _ s _ e) [
      | inl i ↦ to_piece fs x c s (doc_gap b) (doc_gap (b ++ (c ∷ []))) g.0 g.1 (g.2.0, gap_more b c (gap_blank b g.2.1) i) (simp append_assoc) (moved s _ _ (m_doc_gap2 fs x b (b ++ (c ∷ [])) c i) e)
      | inr k ↦
          let i = last (is_start_char c) _ s k.1 in
          to_piece fs x c s (doc_gap b) (doc b c blank_declaration) g.0 g.1 (g.2.0, g.2.1, i, tt) (simp append_assoc) (moved s _ _ (m_doc_name fs x b c i) e)
    ]
step_front fs x (doc b a d) c s g e =
    elim (first (is_doc_char c) _ s _ e) [
      | inl i ↦ to_piece fs x c s (doc b a d) (doc b a (doc_char d c)) g.0 g.1 (g.2.0, g.2.1, g.2.2, (g.2.3, i)) (simp append_assoc) (moved s _ _ (m_doc_char fs x b a d c i) e)
      | inr k ↦ elim (first (eqb c 62) _ s _ k.1) [
        | inl i ↦
            let is = at c 62 i in
            to_content fs x c s (doc b a d) (doctype x b a d) g.0 (g.1, g.2.0, g.2.1, g.2.2, g.2.3) (ap (λ q. spelling x ++ (doc_start ++ (b ++ (a ∷ (declaration_spelling d ++ (q ∷ [])))))) (sym is) ∙ (simp append_assoc)) (by_at s _ (state_of fs x (doc b a d)) c 62 is (m_doctype fs x b a d) e)
        | inr k2 ↦
            let q = last (is_quote c) _ s k2.1 in
            to_piece fs x c s (doc b a d) (doc_literal b a d c []) g.0 g.1 (g.2.0, g.2.1, g.2.2, g.2.3, q, refl) (simp append_assoc) (moved s _ _ (m_doc_quote fs x b a d c q) e)
      ]
    ]
step_front fs x (doc_literal b a d q l) c s g e =
    elim (first (is_literal_char q c) _ s _ e) [
      | inl i ↦ to_piece fs x c s (doc_literal b a d q l) (doc_literal b a d q (l ++ (c ∷ []))) g.0 g.1 (g.2.0, g.2.1, g.2.2, g.2.3, g.2.4, all_more (is_literal_char q) l c g.2.5 i) (simp append_assoc) (moved s _ _ (m_doc_literal fs x b a d q l c i) e)
      | inr k ↦
          let is = at c q (last (eqb c q) _ s k.1) in
          to_piece fs x c s (doc_literal b a d q l) (doc b a (literal d q l)) g.0 g.1 (g.2.0, g.2.1, g.2.2, (g.2.3, g.2.4, g.2.5)) (ap (λ r. doc_start ++ (b ++ (a ∷ (declaration_spelling d ++ (q ∷ (l ++ (r ∷ []))))))) (sym is) ∙ (simp append_assoc)) (by_at s _ (state_of fs x (doc_literal b a d q l)) c q is (m_doc_unquote fs x b a d q l) e)
    ]
step_front fs x bang c s g e =
    elim (first (eqb c 45) _ s _ e) [
      | inl b ↦ to_piece fs x c s bang bang_dash g.0 g.1 tt (ap (λ d. 60 ∷ (33 ∷ (d ∷ []))) (sym (at c 45 b))) (by_at s _ (state_of fs x bang) c 45 (at c 45 b) (m_bang_dash fs x) e)
      | inr k ↦
          elim (first (eqb c 91 && inside fs) _ s _ k.1) [
            | inl q ↦
                let b = and_parts (eqb c 91) (inside fs) q in
                to_piece fs x c s bang (cdsect_word [] cdata_word) g.0 g.1 (b.1, refl) (ap (λ d. 60 ∷ (33 ∷ (d ∷ []))) (sym (at c 91 b.0))) (by_at s _ (state_of fs x bang) c 91 (at c 91 b.0) (m_cdsect_word fs x b.1) e)
            | inr k2 ↦
                let b = and_parts (eqb c 68) (not (typed fs x)) (last (eqb c 68 && not (typed fs x)) _ s k2.1) in
                to_piece fs x c s bang (doc_wording [] doc_word) g.0 g.1 (b.1, refl) (ap (λ d. 60 ∷ (33 ∷ (d ∷ []))) (sym (at c 68 b.0))) (by_at s _ (state_of fs x bang) c 68 (at c 68 b.0) (m_doc_word fs x b.1) e)
          ]
    ]
step_front fs x bang_dash c s g e =
    let is = at c 45 (last (eqb c 45) _ s e) in
    to_piece fs x c s bang_dash (in_comment blank_comment) g.0 g.1 tt (ap (λ d. 60 ∷ (33 ∷ (45 ∷ (d ∷ [])))) (sym is)) (by_at s _ (state_of fs x bang_dash) c 45 is (m_in_comment fs x) e)
step_front fs x (in_comment r) c s g e =
    elim (first (eqb c 45) _ s _ e) [
      | inl b ↦ to_piece fs x c s (in_comment r) (comment_dash r) g.0 g.1 g.2 (ap (λ d. comment_start ++ (comment_spelling r ++ (d ∷ []))) (sym (at c 45 b)) ∙ simp append_assoc) (by_at s _ (state_of fs x (in_comment r)) c 45 (at c 45 b) (m_dash fs x r) e)
      | inr k ↦
          let b = last (is_char c) _ s k.1 in
          to_piece fs x c s (in_comment r) (in_comment (plain r c)) g.0 g.1 (g.2, b, k.0) (simp append_assoc) (moved s _ _ (m_plain fs x r c b k.0) e)
    ]
step_front fs x (comment_dash r) c s g e =
    elim (first (eqb c 45) _ s _ e) [
      | inl b ↦ to_piece fs x c s (comment_dash r) (comment_end r) g.0 g.1 g.2 (ap (λ d. comment_start ++ (comment_spelling r ++ (45 ∷ (d ∷ [])))) (sym (at c 45 b)) ∙ simp append_assoc) (by_at s _ (state_of fs x (comment_dash r)) c 45 (at c 45 b) (m_dashes fs x r) e)
      | inr k ↦
          let b = last (is_char c) _ s k.1 in
          to_piece fs x c s (comment_dash r) (in_comment (dashed r c)) g.0 g.1 (g.2, b, k.0) (simp append_assoc) (moved s _ _ (m_dashed fs x r c b k.0) e)
    ]
step_front fs x (comment_end r) c s g e =
    let is = at c 62 (last (eqb c 62) _ s e) in
    to_content fs x c s (comment_end r) (comment x r) g.0 (g.1, g.2) (ap (λ a. spelling x ++ (comment_start ++ (comment_spelling r ++ (45 ∷ (45 ∷ (a ∷ [])))))) (sym is) ∙ simp append_assoc) (by_at s _ (state_of fs x (comment_end r)) c 62 is (m_comment fs x r) e)
step_front fs x (cdsect_word m []) c s g e =
    let is = at c 91 (last (eqb c 91) _ s e) in
    let word : m ≡ cdata_word = sym (append-nil m) ∙ g.2.1 in
    to_piece fs x c s (cdsect_word m []) (in_cdsect blank_cdsect) g.0 g.1 (g.2.0, tt) (ap (λ l. 60 ∷ (33 ∷ (91 ∷ (l ++ (91 ∷ []))))) (sym word) ∙ ap (λ a. 60 ∷ (33 ∷ (91 ∷ (m ++ (a ∷ []))))) (sym is)) (by_at s _ (state_of fs x (cdsect_word m [])) c 91 is (m_cdsect_start fs x m) e)
step_front fs x (cdsect_word m (d ∷ r)) c s g e =
    let is = word_next (state_of fs x (cdsect_word m (d ∷ r))) s c CDSectWord (cond (eqb c 91) (to_mode (state_of fs x (cdsect_word m (d ∷ r))) (InCDSect 0)) None) d r e in
    to_piece fs x c s (cdsect_word m (d ∷ r)) (cdsect_word (m ++ (d ∷ [])) r) g.0 g.1 (g.2.0, append_assoc m (d ∷ []) r ∙ g.2.1) (ap (λ a. 60 ∷ (33 ∷ (91 ∷ (m ++ (a ∷ []))))) (sym is)) (by_at s _ (state_of fs x (cdsect_word m (d ∷ r))) c d is (m_word fs x m d r) e)
step_front fs x (in_cdsect d) c s g e = cdsect_front fs x d c s g.0 g.1 g.2.0 g.2.1 e
step_front fs x (amp r) c s g e = by (refers r c g.2.1)
  where
    by : Refers r c → Fronts (front_spelling fs x (amp r) ++ (c ∷ [])) s
    by (goes_on q g1 sp e1) = to_piece fs x c s (amp r) (amp q) g.0 g.1 (g.2.0, g1) sp (moved s _ _ (m_refer fs x r q c e1) e)
    by (is_done t g1 sp e1) = to_content fs x c s (amp r) (reference x t) g.0 (g.1, g.2.0, g1) (ap (λ l. spelling x ++ l) sp) (moved s _ _ (m_referred fs x r t c e1) e)
    by (is_bad e1) = none_some s (sym (ap (on_referred (state_of fs x (amp r)) InReference Between) e1) ∙ e)
