-- Which whole documents are within limits, in the words of their grammar.
use Rattle.std.proofs.Common.{ℕ, ◌≡◌, ◌+◌, ◌<◌, ◌≤◌, inl, inr, Bool, true, false, ◌&&◌, cond, List, [], ◌∷◌, ◌++◌, length, Option, Some, None, Result, Ok, Err, refl, sym, ap, ◌∙◌, subst, append_assoc, append-nil, arith, length-append, ltb-false, leb-false, ◌↔◌}
use Rattle.std.specs.Prelude.{nat_lt, nat_le}
use Rattle.std.specs.List.{list_all}
use Rattle.std.proofs.lemmas.Bool.{true≢false, false≢true, and_parts, and_right}
use lib.Utf8.{scalars, encode, encodes}
use Rattle.gcx_base.specs.Characters.{is_start_char, is_part_char, is_white}
use Rattle.gcx_base.specs.declared.limits.Limits.{Limits}
use Rattle.gcx_model.specs.Document.{Nodes}
use Rattle.gcx_model.specs.Attributes.{is_name, is_blank_text, is_gap, AttributeValue, Head, Attributes, no_attribute, attribute, value_spelling, head_spelling, attributes_spelling, IsAttributes, value_run}
use Rattle.gcx_model.specs.Markup.{comment_spelling, comment_start, cdata_start, cdsect_spelling, settled, data_spelling, doc_start, declaration_spelling}
use Rattle.gcx_model.specs.References.{reference_spelling, reference_char}
use Rattle.gcx_model.specs.Grammar.{Content, nothing, mark, space, char, reference, cdata, comment, bare, instruction, doctype, single, tagged, start_tag_spelling, single_tag, end_tag_spelling, spelling, has_element, may_open, IsContent, text_run, SpellsDocument}
use Rattle.gcx_model.specs.Fronts.{Frames, bottom, frame, no_part, spaced, part_name, value_part, Piece, no_piece, less, started, tag, slashed, ending, ended, frames_spelling, piece_spelling, front_spelling, IsFrames, IsPiece, IsFront, inside, names, depth, piece_run}
use Rattle.gcx_model.specs.Faults.{DocumentRefusal, size, Clean, FaultWithin, by_character, by_sequence, by_cut, by_end, none_yet, none_whole, FaultIs, within_limit, before_limit, past_limit}
use Rattle.gcx_model.specs.Within.{AreAttributesWithin, IsTagWithin, IsContentWithin, IsWithin}
use Rattle.doc_laws.specs.Machine.{State, start, step, steps, go_on}
use Rattle.doc_laws.specs.States.{piece_mode, state_of, Fronts}
use Rattle.doc_laws.specs.Judging.{naming_by, begins_deep, is_deep, judged, judged_by}
use Rattle.doc_laws.proofs.Moves.{steps_append, tag_piece}
use Rattle.doc_laws.proofs.Reached.{front_steps}
use Rattle.doc_laws.proofs.Theorems.{step_more}
use Rattle.doc_laws.proofs.Faults.{fronts_one, depth_names, Reads, start_reads, refusal_comes, err_ok}
use Rattle.doc_laws.proofs.Unique.{front_no_char, clean_reads, clean_front, longest}
use Rattle.doc_laws.proofs.LastTag.{unsnoc, blank_parts}
use Rattle.doc_laws.proofs.Documents.{no_run}
use Rattle.doc_laws.proofs.Words.{no_front}
use Rattle.doc_laws.proofs.Segments.{weight, IsShort, one_reads, reads_along}

-- the steps from a front to one that is longer
steps_between : (fs gs : Frames) (x y : Content) (p q : Piece) (m : List ℕ) → IsFront fs x p → IsFront gs y q → front_spelling gs y q ≡ front_spelling fs x p ++ m → steps (state_of fs x p) m ≡ Some (state_of gs y q)
steps_between fs gs x y p q m g h e =
    sym (ap (λ o. go_on o (λ u. steps u m)) (front_steps fs x p g)) ∙ sym (steps_append start (front_spelling fs x p) m) ∙ ap (steps start) (sym e) ∙ front_steps gs y q h

fronts_of : (fs : Frames) (x : Content) (p : Piece) → IsFront fs x p → Fronts (front_spelling fs x p) (state_of fs x p)
fronts_of fs x p g = record { frames = fs; content = x; piece = p; good = g; spelled = refl; state = refl }

one_step : (s t : State) (c : ℕ) → steps s (c ∷ []) ≡ Some t → step s c ≡ Some t
one_step s t c e = by (step s c) e
  where
    by : (o : Option State) → go_on o (λ u. steps u []) ≡ Some t → o ≡ Some t
    by None e = e
    by (Some u) e = e

-- the piece behind a tag's name and attributes
tag_spelled : (n : List ℕ) (ats : Attributes) → piece_spelling (tag_piece n ats) ≡ 60 ∷ (n ++ attributes_spelling ats)
tag_spelled n no_attribute = ap (λ l. 60 ∷ l) (sym (append-nil n))
tag_spelled n (attribute ats h v) = ap (λ l. 60 ∷ (n ++ l)) (append-nil (attributes_spelling (attribute ats h v)))

tag_good : (fs : Frames) (x : Content) (n : List ℕ) (ats : Attributes) → may_open (inside fs) (has_element x) ≡ true → is_name n ≡ true → IsAttributes ats → IsPiece fs x (tag_piece n ats)
tag_good fs x n no_attribute m h g = (m, h)
tag_good fs x n (attribute ats k v) m h g = (m, h, g, refl)

module _ (lim : Limits) where
  plain_deep : (s : State) (c : ℕ) → is_start_char c ≡ false → is_deep lim s c ≡ false
  plain_deep s c e = ap (λ b. b && begins_deep lim s s.mode) e

  tag_deep : (fs : Frames) (x : Content) (n : List ℕ) (ats : Attributes) (c : ℕ) → is_deep lim (state_of fs x (tag_piece n ats)) c ≡ false
  tag_deep fs x n no_attribute c = and_right (is_start_char c) false refl
  tag_deep fs x n (attribute ats h v) c = and_right (is_start_char c) false refl

  abbrev ReadsTo : Frames → Content → Piece → Type 0
  ReadsTo fs x p = Reads lim (front_spelling fs x p) (state_of fs x p)

  on_along : (fs gs : Frames) (x y : Content) (p q : Piece) (m : List ℕ) → IsFront fs x p → IsFront gs y q → front_spelling gs y q ≡ front_spelling fs x p ++ m → weight (state_of fs x p) ≡ weight (state_of gs y q) → IsShort lim (state_of gs y q) → ReadsTo fs x p → ReadsTo gs y q
  on_along fs gs x y p q m g h e w k r =
      subst (λ l. Reads lim l (state_of gs y q)) (sym e) (reads_along lim (front_spelling fs x p) m (state_of fs x p) (state_of gs y q) r (steps_between fs gs x y p q m g h e) w k)

  on_one : (fs gs : Frames) (x y : Content) (p q : Piece) (c : ℕ) → IsFront fs x p → IsFront gs y q → front_spelling gs y q ≡ front_spelling fs x p ++ (c ∷ []) → is_deep lim (state_of fs x p) c ≡ false → length (piece_run y q) ≤ lim.text → length (naming_by (piece_mode gs y q) (state_of gs y q)) ≤ lim.name → ReadsTo fs x p → ReadsTo gs y q
  on_one fs gs x y p q c g h e d k n r =
      subst (λ l. Reads lim l (state_of gs y q)) (sym e)
      (one_reads lim (front_spelling fs x p) c (state_of fs x p) (state_of gs y q) r (one_step (state_of fs x p) (state_of gs y q) c (steps_between fs gs x y p q (c ∷ []) g h e)) k d n)

  -- over a name and attributes
  module _ (fs : Frames) (x : Content) (n : List ℕ) (frames : IsFrames fs) (content : IsContent (inside fs) x) (may : may_open (inside fs) (has_element x) ≡ true) (name : is_name n ≡ true) where
    name_reads : length (text_run x) ≤ lim.text → depth fs + 1 ≤ lim.depth → length (encodes n) ≤ lim.name → ReadsTo fs x no_piece → ReadsTo fs x (started n)
    name_reads t d k r =
        on_along fs fs x x no_piece (started n) (60 ∷ n) (frames, content, tt) (frames, content, (may, name)) (ap (λ l. l ++ (60 ∷ n)) (sym (append-nil (frames_spelling fs ++ spelling x)))) refl
        (record { run_short = t; name_short = k; attr_short = omega arith; element = inr (omega (arith, d, depth_names fs)); attribute = inl refl }) r

    gap_reads : (ats : Attributes) (c : ℕ) → IsAttributes ats → is_white c ≡ true → ReadsTo fs x (tag_piece n ats) → ReadsTo fs x (tag n ats (spaced (c ∷ [])))
    gap_reads ats c g w r =
        on_one fs fs x x (tag_piece n ats) (tag n ats (spaced (c ∷ []))) c (frames, content, tag_good fs x n ats may name g) (frames, content, (may, name, g, ap (λ b. b && true) w))
        (ap (λ l. (frames_spelling fs ++ spelling x) ++ l) (ap (λ l. 60 ∷ l) (sym (append_assoc n (attributes_spelling ats) (c ∷ []))) ∙ ap (λ l. l ++ (c ∷ [])) (sym (tag_spelled n ats))) ∙ sym (append_assoc (frames_spelling fs ++ spelling x) (piece_spelling (tag_piece n ats)) (c ∷ [])))
        (tag_deep fs x n ats c) (omega arith) (omega arith) r

    attribute_reads : (ats : Attributes) (h : Head) (v : AttributeValue) (c : ℕ) (gap : List ℕ) → h.gap ≡ c ∷ gap → IsAttributes (attribute ats h v) → AreAttributesWithin lim (depth fs + 1) (attribute ats h v) → depth fs + 1 ≤ lim.depth → length (encodes n) ≤ lim.name → ReadsTo fs x (tag_piece n ats) → ReadsTo fs x (tag_piece n (attribute ats h v))
    attribute_reads ats h v c gap e g k d m r =
        let white : is_white c ≡ true = (and_parts (is_white c) (list_all is_white gap) (ap is_gap (sym e) ∙ g.1.0)).0 in
        let r1 = gap_reads ats c g.0 white r in
        let good : IsFront fs x (tag n ats (value_part h v)) = (frames, content, (may, name, g.0, (g.1, g.2))) in
        let r2 = on_along fs fs x x (tag n ats (spaced (c ∷ []))) (tag n ats (value_part h v)) (gap ++ (h.name ++ (h.before ++ (61 ∷ (h.behind ++ (h.quote ∷ value_spelling v)))))) (frames, content, (may, name, g.0, ap (λ b. b && true) white)) good
        (ap (λ l. (frames_spelling fs ++ spelling x) ++ (60 ∷ (n ++ (attributes_spelling ats ++ ((l ++ (h.name ++ (h.before ++ (61 ∷ (h.behind ++ (h.quote ∷ [])))))) ++ value_spelling v))))) e ∙ (simp append_assoc))
        refl
        (record { run_short = k.3; name_short = m; attr_short = k.2; element = inr (omega (arith, d, depth_names fs)); attribute = inr (omega (arith, k.1, depth_names fs)) }) r1 in
        on_one fs fs x x (tag n ats (value_part h v)) (tag n (attribute ats h v) no_part) h.quote good (frames, content, (may, name, g, refl))
        (simp (append_assoc, append-nil)) (and_right (is_start_char h.quote) false refl) (omega arith) (omega arith) r2

    attributes_read : (ats : Attributes) → IsAttributes ats → AreAttributesWithin lim (depth fs + 1) ats → depth fs + 1 ≤ lim.depth → length (encodes n) ≤ lim.name → ReadsTo fs x (started n) → ReadsTo fs x (tag_piece n ats)
    attributes_read no_attribute g k d m r = r
    attributes_read (attribute ats h v) g k d m r =
        elim h.gap as (λ (l : List ℕ). h.gap ≡ l → is_gap l ≡ true → ReadsTo fs x (tag_piece n (attribute ats h v))) [
          | [] ↦ λ e b. absurd (false≢true b)
          | c ∷ gap ↦ λ e b. attribute_reads ats h v c gap e g k d m (attributes_read ats g.0 k.0 d m r)
        ] refl g.1.0

    -- and the last of its white space
    tag_reads : (ats : Attributes) → IsAttributes ats → IsTagWithin lim (depth fs + 1) x n ats → ReadsTo fs x no_piece → ReadsTo fs x (tag_piece n ats)
    tag_reads ats g k r = attributes_read ats g k.3 k.1 k.2 (name_reads k.0 k.1 k.2 r)

    space_reads : (ats : Attributes) (c : ℕ) (sp : List ℕ) → IsAttributes ats → is_blank_text (c ∷ sp) ≡ true → depth fs + 1 ≤ lim.depth → length (encodes n) ≤ lim.name → ReadsTo fs x (tag_piece n ats) → ReadsTo fs x (tag n ats (spaced (c ∷ sp)))
    space_reads ats c sp g b d m r =
        let white : is_white c ≡ true = (and_parts (is_white c) (list_all is_white sp) b).0 in
        on_along fs fs x x (tag n ats (spaced (c ∷ []))) (tag n ats (spaced (c ∷ sp))) sp (frames, content, (may, name, g, ap (λ b. b && true) white)) (frames, content, (may, name, g, b))
        (simp append_assoc) refl
        (record { run_short = omega arith; name_short = m; attr_short = omega arith; element = inr (omega (arith, d, depth_names fs)); attribute = inl refl }) (gap_reads ats c g white r)

    -- a start tag's end, and an empty-element tag's
    open_reads : (ats : Attributes) (sp : List ℕ) → IsAttributes ats → is_blank_text sp ≡ true → IsTagWithin lim (depth fs + 1) x n ats → ReadsTo fs x (tag_piece n ats) → ReadsTo (frame fs x n ats sp) nothing no_piece
    open_reads ats [] g b k r =
        on_one fs (frame fs x n ats []) x nothing (tag_piece n ats) no_piece 62 (frames, content, tag_good fs x n ats may name g) ((frames, content, may, name, b, g), tt, tt)
        ((simp (append_assoc, append-nil)) ∙ ap (λ l. frames_spelling fs ++ (spelling x ++ (l ++ (62 ∷ [])))) (sym (tag_spelled n ats)) ∙ (simp append_assoc))
        (plain_deep (state_of fs x (tag_piece n ats)) 62 refl) (omega arith) (omega arith) r
    open_reads ats (c ∷ sp) g b k r =
        on_one fs (frame fs x n ats (c ∷ sp)) x nothing (tag n ats (spaced (c ∷ sp))) no_piece 62 (frames, content, (may, name, g, b)) ((frames, content, may, name, b, g), tt, tt)
        (simp (append_assoc, append-nil)) (plain_deep (state_of fs x (tag n ats (spaced (c ∷ sp)))) 62 refl) (omega arith) (omega arith) (space_reads ats c sp g b k.1 k.2 r)

    slash_reads : (ats : Attributes) (sp : List ℕ) → IsAttributes ats → is_blank_text sp ≡ true → IsTagWithin lim (depth fs + 1) x n ats → ReadsTo fs x (tag_piece n ats) → ReadsTo fs x (slashed n ats sp)
    slash_reads ats [] g b k r =
        on_one fs fs x x (tag_piece n ats) (slashed n ats []) 47 (frames, content, tag_good fs x n ats may name g) (frames, content, (may, name, g, b))
        (ap (λ l. (frames_spelling fs ++ spelling x) ++ (60 ∷ l)) (sym (append_assoc n (attributes_spelling ats) (47 ∷ []))) ∙ ap (λ l. (frames_spelling fs ++ spelling x) ++ (l ++ (47 ∷ []))) (sym (tag_spelled n ats)) ∙ (simp append_assoc))
        (plain_deep (state_of fs x (tag_piece n ats)) 47 refl) (omega arith) (omega arith) r
    slash_reads ats (c ∷ sp) g b k r =
        on_one fs fs x x (tag n ats (spaced (c ∷ sp))) (slashed n ats (c ∷ sp)) 47 (frames, content, (may, name, g, b)) (frames, content, (may, name, g, b))
        (simp append_assoc) (plain_deep (state_of fs x (tag n ats (spaced (c ∷ sp)))) 47 refl) (omega arith) (omega arith) (space_reads ats c sp g b k.1 k.2 r)

    single_reads : (ats : Attributes) (sp : List ℕ) → IsAttributes ats → is_blank_text sp ≡ true → IsTagWithin lim (depth fs + 1) x n ats → ReadsTo fs x no_piece → ReadsTo fs (single x n ats sp) no_piece
    single_reads ats sp g b k r =
        on_one fs fs x (single x n ats sp) (slashed n ats sp) no_piece 62 (frames, content, (may, name, g, b)) (frames, (content, may, name, b, g), tt)
        (simp (append_assoc, append-nil)) (plain_deep (state_of fs x (slashed n ats sp)) 62 refl) (omega arith) (omega arith) (slash_reads ats sp g b k (tag_reads ats g k r))

  -- over content
  quiet_short : (fs : Frames) (x : Content) → length (text_run x) ≤ lim.text → IsShort lim (state_of fs x no_piece)
  quiet_short fs x h = record { run_short = h; name_short = omega arith; attr_short = omega arith; element = inl refl; attribute = inl refl }

  quiet_reads : (fs : Frames) (x y : Content) (m : List ℕ) → IsFrames fs → IsContent (inside fs) y → IsContent (inside fs) x → spelling x ≡ spelling y ++ m → weight (state_of fs y no_piece) ≡ weight (state_of fs x no_piece) → length (text_run x) ≤ lim.text → ReadsTo fs y no_piece → ReadsTo fs x no_piece
  quiet_reads fs x y m f g h e w k r =
      on_along fs fs y x no_piece no_piece m (f, g, tt) (f, h, tt) (ap (λ l. (frames_spelling fs ++ l) ++ []) e ∙ (simp (append_assoc, append-nil))) w (quiet_short fs x k) r

  -- over an end tag
  close_reads : (fs : Frames) (y k : Content) (n : List ℕ) (ats : Attributes) (sp sp2 : List ℕ) → IsFrames fs → IsContent (inside fs) (tagged y n ats sp k sp2) → length (text_run k) ≤ lim.text → ReadsTo (frame fs y n ats sp) k no_piece → ReadsTo fs (tagged y n ats sp k sp2) no_piece
  close_reads fs y k n ats sp sp2 f g h r = elim (unsnoc sp2) [
    | inl q ↦
        on_one (frame fs y n ats sp) fs k (tagged y n ats sp k sp2) (ending n []) no_piece 62 (frames, g.4, append-nil n) (f, g, tt)
        (ap (λ l. (frames_spelling fs ++ (spelling y ++ (start_tag_spelling n ats sp ++ (spelling k ++ (60 ∷ (47 ∷ (n ++ (l ++ (62 ∷ []))))))))) ++ []) q ∙ (simp (append_assoc, append-nil)))
        (plain_deep (state_of (frame fs y n ats sp) k (ending n [])) 62 refl) (omega arith) (omega arith) (up_to (ending n []) (60 ∷ (47 ∷ n)) (append-nil n) refl refl (record { run_short = h; name_short = omega arith; attr_short = omega arith; element = inl refl; attribute = inl refl }))
    | inr q ↦
        let blank = blank_parts q.0 q.1 (ap is_blank_text (sym q.2) ∙ g.5) in
        let p = ended n q.0 q.1 in
        on_one (frame fs y n ats sp) fs k (tagged y n ats sp k sp2) p no_piece 62 (frames, g.4, (refl, blank.0, blank.1)) (f, g, tt)
        (ap (λ l. (frames_spelling fs ++ (spelling y ++ (start_tag_spelling n ats sp ++ (spelling k ++ (60 ∷ (47 ∷ (n ++ (l ++ (62 ∷ []))))))))) ++ []) q.2 ∙ (simp (append_assoc, append-nil)))
        (plain_deep (state_of (frame fs y n ats sp) k p) 62 refl) (omega arith) (omega arith) (up_to p (piece_spelling p) (refl, blank.0, blank.1) refl refl (record { run_short = h; name_short = omega arith; attr_short = omega arith; element = inl refl; attribute = inl refl }))
  ]
    where
      frames : IsFrames (frame fs y n ats sp)
      frames = (f, g.0, g.1, g.2, g.3, g.6)

      up_to : (p : Piece) (m : List ℕ) → IsPiece (frame fs y n ats sp) k p → piece_spelling p ≡ m → weight (state_of (frame fs y n ats sp) k no_piece) ≡ weight (state_of (frame fs y n ats sp) k p) → IsShort lim (state_of (frame fs y n ats sp) k p) → ReadsTo (frame fs y n ats sp) k p
      up_to p m b e w s =
          on_along (frame fs y n ats sp) (frame fs y n ats sp) k k no_piece p m (frames, g.4, tt) (frames, g.4, b)
          (ap (λ l. (frames_spelling (frame fs y n ats sp) ++ spelling k) ++ l) e ∙ ap (λ l. l ++ m) (sym (append-nil (frames_spelling (frame fs y n ats sp) ++ spelling k)))) w s r

  content_reads : (fs : Frames) (x : Content) → IsFrames fs → IsContent (inside fs) x → IsContentWithin lim (depth fs + 1) x → length (text_run x) ≤ lim.text → ReadsTo fs nothing no_piece → ReadsTo fs x no_piece
  content_reads fs nothing f g k h r = r
  content_reads fs mark f g k h r = quiet_reads fs mark nothing (65279 ∷ []) f tt g refl refl h r
  content_reads fs (space y c) f g k h r = quiet_reads fs (space y c) y _ f g.0 g refl refl h (content_reads fs y f g.0 k h r)
  content_reads fs (char y c) f g k h r = quiet_reads fs (char y c) y _ f g.0 g refl refl h (content_reads fs y f g.0 k (omega (arith, h, length-append (text_run y) (encode c))) r)
  content_reads fs (reference y t) f g k h r = quiet_reads fs (reference y t) y _ f g.0 g refl refl h (content_reads fs y f g.0 k (omega (arith, h, length-append (text_run y) (encode (reference_char t)))) r)
  content_reads fs (cdata y d) f g k h r = quiet_reads fs (cdata y d) y _ f g.0 g refl refl h (content_reads fs y f g.0 k (omega (arith, h, length-append (text_run y) (settled d))) r)
  content_reads fs (comment y t) f g k h r = quiet_reads fs (comment y t) y _ f g.0 g refl refl h (content_reads fs y f g.0 k h r)
  content_reads fs (bare y n) f g k h r = quiet_reads fs (bare y n) y _ f g.0 g refl refl h (content_reads fs y f g.0 k h r)
  content_reads fs (instruction y n c d) f g k h r = quiet_reads fs (instruction y n c d) y _ f g.0 g refl refl h (content_reads fs y f g.0 k h r)
  content_reads fs (doctype y b a d) f g k h r = quiet_reads fs (doctype y b a d) y _ f g.0 g refl refl h (content_reads fs y f g.0 k h r)
  content_reads fs (single y n ats sp) f g k h r = single_reads fs y n f g.0 g.1 g.2 ats sp g.4 g.3 k.1 (content_reads fs y f g.0 k.0 k.1.0 r)
  content_reads fs (tagged y n ats sp inner sp2) f g k h r =
      let before = content_reads fs y f g.0 k.0 k.1.0 r in
      let opened = open_reads fs y n f g.0 g.1 g.2 ats sp g.6 g.3 k.1 (tag_reads fs y n f g.0 g.1 g.2 ats g.6 k.1 before) in
      let frames : IsFrames (frame fs y n ats sp) = (f, g.0, g.1, g.2, g.3, g.6) in
      close_reads fs y inner n ats sp sp2 f g k.3 (content_reads (frame fs y n ats sp) inner frames g.4 k.2 k.3 opened)

  -- content outside the root has no run
  document_reads : (x : Content) → IsContent false x → has_element x ≡ true → IsWithin lim x → Clean lim (spelling x)
  document_reads x g e k =
      let none : length (text_run x) ≡ 0 = ap length (no_run x g) in
      subst (Clean lim) (append-nil (spelling x)) (content_reads bottom x tt g k (omega arith) (start_reads lim)).clean

  -- the other way: the tests of the last character
  last_tests : (b : List ℕ) (c : ℕ) (s t : State) → Clean lim (b ++ (c ∷ [])) → Fronts b s → Fronts (b ++ (c ∷ [])) t → (is_deep lim s c ≡ false) × (length (naming_by t.mode t) ≤ lim.name)
  last_tests b c s t h f g =
      elim (judged lim (size b) s c) as (λ (r : Result State DocumentRefusal). judged lim (size b) s c ≡ r → (is_deep lim s c ≡ false) × (length (naming_by t.mode t) ≤ lim.name)) [
        | Err e ↦ λ d. absurd (h b c [] e refl (refusal_comes lim b c s e f short d))
        | Ok u ↦ λ d. by (step s c) refl u d
      ] refl
    where
      short : length s.run ≤ lim.text
      short = let r = clean_reads lim b (clean_front lim b (c ∷ []) h) in subst (λ (z : State). length z.run ≤ lim.text) (fronts_one b r.0 s r.1.front f) r.1.short

      tests : (k : ℕ) (v : State) (p q r : Bool) (e i o : DocumentRefusal) (u : State) → cond p (Err e) (cond q (Err i) (cond r (Err o) (Ok v))) ≡ Ok u → (q ≡ false) × (r ≡ false)
      tests k v true q r e i o u d = err_ok e u d
      tests k v false true r e i o u d = err_ok i u d
      tests k v false false true e i o u d = err_ok o u d
      tests k v false false false e i o u d = (refl, refl)

      by : (o : Option State) → step s c ≡ o → (u : State) → judged_by lim (size b) s c o ≡ Ok u → (is_deep lim s c ≡ false) × (length (naming_by t.mode t) ≤ lim.name)
      by None e u d = err_ok _ u d
      by (Some v) e u d =
          let k = tests (size b) v (nat_lt lim.text (length v.run)) (is_deep lim s c) (nat_lt lim.name (length (naming_by v.mode v))) _ _ _ u d in
          (k.0, subst (λ (z : State). length (naming_by z.mode z) ≤ lim.name) (fronts_one (b ++ (c ∷ [])) v t (step_more b s v c f e) g) (ltb-false lim.name (length (naming_by v.mode v)) k.1))

  run_within : (fs : Frames) (x : Content) (p : Piece) (rest : List ℕ) → IsFront fs x p → Clean lim (front_spelling fs x p ++ rest) → length (piece_run x p) ≤ lim.text
  run_within fs x p rest g h =
      let b = front_spelling fs x p in
      let r = clean_reads lim b (clean_front lim b rest h) in
      subst (λ (z : State). length z.run ≤ lim.text) (fronts_one b r.0 (state_of fs x p) r.1.front (fronts_of fs x p g)) r.1.short

  deep_within : (fs : Frames) (x : Content) (p q : Piece) (c : ℕ) (rest : List ℕ) → IsFront fs x p → IsFront fs x q → front_spelling fs x q ≡ front_spelling fs x p ++ (c ∷ []) → Clean lim (front_spelling fs x q ++ rest) → is_deep lim (state_of fs x p) c ≡ false
  deep_within fs x p q c rest g k e h =
      let b = front_spelling fs x p in
      let both = last_tests b c (state_of fs x p) (state_of fs x q) (subst (Clean lim) e (clean_front lim (front_spelling fs x q) rest h)) (fronts_of fs x p g) (subst (λ l. Fronts l (state_of fs x q)) e (fronts_of fs x q k)) in
      both.0

  name_within : (fs : Frames) (x : Content) (p : Piece) (b : List ℕ) (c : ℕ) (rest : List ℕ) → IsFront fs x p → front_spelling fs x p ≡ b ++ (c ∷ []) → Clean lim (front_spelling fs x p ++ rest) → length (naming_by (piece_mode fs x p) (state_of fs x p)) ≤ lim.name
  name_within fs x p b c rest g e h =
      let all : Clean lim (b ++ (c ∷ [])) = subst (Clean lim) e (clean_front lim (front_spelling fs x p) rest h) in
      let r = clean_reads lim b (clean_front lim b (c ∷ []) all) in
      let both = last_tests b c r.0 (state_of fs x p) all r.1.front (subst (λ l. Fronts l (state_of fs x p)) e (fronts_of fs x p g)) in
      both.1

  not_deep : (c : ℕ) (m : ℕ) → is_start_char c ≡ true → is_start_char c && nat_le lim.depth m ≡ false → m < lim.depth
  not_deep c m b e = leb-false lim.depth m (sym (ap (λ a. a && nat_le lim.depth m) b) ∙ e)

  -- a name's last character
  last_of : (n : List ℕ) → is_name n ≡ true → (m : List ℕ) × (c : ℕ) × (n ≡ m ++ (c ∷ []))
  last_of n h = elim (unsnoc n) [ inl e ↦ absurd (false≢true (ap is_name (sym e) ∙ h)) | inr q ↦ q ]

  module _ (fs : Frames) (x : Content) (n : List ℕ) (frames : IsFrames fs) (content : IsContent (inside fs) x) (may : may_open (inside fs) (has_element x) ≡ true) (name : is_name n ≡ true) where
    element_within : (rest : List ℕ) → Clean lim ((frames_spelling fs ++ spelling x) ++ (60 ∷ (n ++ rest))) → (length (text_run x) ≤ lim.text) × (depth fs + 1 ≤ lim.depth) × (length (encodes n) ≤ lim.name)
    element_within rest h = (
      run_within fs x less (n ++ rest) (frames, content, tt) (subst (Clean lim) (sym (append_assoc (frames_spelling fs ++ spelling x) (60 ∷ []) (n ++ rest))) h),
      deep n name h,
      let l = last_of n name in
          name_within fs x (started n) ((frames_spelling fs ++ spelling x) ++ (60 ∷ l.0)) l.1 rest (frames, content, (may, name))
          (ap (λ z. (frames_spelling fs ++ spelling x) ++ (60 ∷ z)) l.2 ∙ sym (append_assoc (frames_spelling fs ++ spelling x) (60 ∷ l.0) (l.1 ∷ [])))
          (subst (Clean lim) (sym (append_assoc (frames_spelling fs ++ spelling x) (60 ∷ n) rest)) h),
    )
      where
        deep : (m : List ℕ) → is_name m ≡ true → Clean lim ((frames_spelling fs ++ spelling x) ++ (60 ∷ (m ++ rest))) → depth fs + 1 ≤ lim.depth
        deep [] b h = absurd (false≢true b)
        deep (c ∷ m) b h =
            let starts = (and_parts (is_start_char c) (list_all is_part_char m) b).0 in
            let d = deep_within fs x less (started (c ∷ [])) c (m ++ rest) (frames, content, tt) (frames, content, (may, ap (λ z. z && true) starts)) (sym (append_assoc (frames_spelling fs ++ spelling x) (60 ∷ []) (c ∷ []))) (subst (Clean lim) (sym (append_assoc (frames_spelling fs ++ spelling x) (60 ∷ (c ∷ [])) (m ++ rest))) h) in
            omega (arith, not_deep c (length (names fs)) starts d, depth_names fs)

    attribute_within : (ats : Attributes) (k : Head) (v : AttributeValue) (rest : List ℕ) → IsAttributes (attribute ats k v) → Clean lim ((frames_spelling fs ++ spelling x) ++ (60 ∷ (n ++ (attributes_spelling ats ++ (head_spelling k ++ (value_spelling v ++ rest)))))) → (depth fs + 1 + 1 ≤ lim.depth) × (length (encodes k.name) ≤ lim.name) × (length (value_run v) ≤ lim.text)
    attribute_within ats k v rest g h = (
      deep k.name g.1.1 refl,
      let l = last_of k.name g.1.1 in
          name_within fs x (tag n ats (part_name k.gap k.name)) ((frames_spelling fs ++ spelling x) ++ (60 ∷ (n ++ (attributes_spelling ats ++ (k.gap ++ l.0))))) l.1 behind (frames, content, (may, name, g.0, (g.1.0, g.1.1)))
          (ap (λ z. (frames_spelling fs ++ spelling x) ++ (60 ∷ (n ++ (attributes_spelling ats ++ (k.gap ++ z))))) l.2 ∙ (simp append_assoc))
          (subst (Clean lim) (simp append_assoc) h),
      run_within fs x (tag n ats (value_part k v)) rest (frames, content, (may, name, g.0, (g.1, g.2))) (subst (Clean lim) (simp append_assoc) h),
    )
      where
        behind : List ℕ
        behind = k.before ++ (61 ∷ (k.behind ++ (k.quote ∷ (value_spelling v ++ rest))))

        deep : (m : List ℕ) → is_name m ≡ true → k.name ≡ m → depth fs + 1 + 1 ≤ lim.depth
        deep [] b e = absurd (false≢true b)
        deep (c ∷ m) b e =
            let starts = (and_parts (is_start_char c) (list_all is_part_char m) b).0 in
            let p = tag n ats (spaced k.gap) in
            let q = tag n ats (part_name k.gap (c ∷ [])) in
            let d = deep_within fs x p q c (m ++ (k.before ++ (61 ∷ (k.behind ++ (k.quote ∷ (value_spelling v ++ rest)))))) (frames, content, (may, name, g.0, g.1.0)) (frames, content, (may, name, g.0, (g.1.0, ap (λ z. z && true) starts))) (simp append_assoc)
            (subst (Clean lim) (ap (λ z. (frames_spelling fs ++ spelling x) ++ (60 ∷ (n ++ (attributes_spelling ats ++ ((k.gap ++ (z ++ (k.before ++ (61 ∷ (k.behind ++ (k.quote ∷ [])))))) ++ (value_spelling v ++ rest)))))) e ∙ (simp append_assoc)) h) in
            omega (arith, not_deep c (length (names fs) + 1) starts d, depth_names fs)

    attributes_within : (ats : Attributes) (rest : List ℕ) → IsAttributes ats → Clean lim ((frames_spelling fs ++ spelling x) ++ (60 ∷ (n ++ (attributes_spelling ats ++ rest)))) → AreAttributesWithin lim (depth fs + 1) ats
    attributes_within no_attribute rest g h = tt
    attributes_within (attribute ats k v) rest g h =
        let all : Clean lim ((frames_spelling fs ++ spelling x) ++ (60 ∷ (n ++ (attributes_spelling ats ++ (head_spelling k ++ (value_spelling v ++ (k.quote ∷ rest))))))) = subst (Clean lim) (simp append_assoc) h in
        let one = attribute_within ats k v (k.quote ∷ rest) g all in
        (attributes_within ats (head_spelling k ++ (value_spelling v ++ (k.quote ∷ rest))) g.0 all, one.0, one.1, one.2)

    pub tag_within : (ats : Attributes) (rest : List ℕ) → IsAttributes ats → Clean lim ((frames_spelling fs ++ spelling x) ++ (60 ∷ (n ++ (attributes_spelling ats ++ rest)))) → IsTagWithin lim (depth fs + 1) x n ats
    tag_within ats rest g h = let e = element_within (attributes_spelling ats ++ rest) h in (e.0, e.1, e.2, attributes_within ats rest g h)

  before : (fs : Frames) (y : Content) (m rest : List ℕ) → Clean lim ((frames_spelling fs ++ (spelling y ++ m)) ++ rest) → Clean lim ((frames_spelling fs ++ spelling y) ++ (m ++ rest))
  before fs y m rest h = subst (Clean lim) (simp append_assoc) h

  pub content_within : (fs : Frames) (x : Content) (rest : List ℕ) → IsFrames fs → IsContent (inside fs) x → Clean lim ((frames_spelling fs ++ spelling x) ++ rest) → IsContentWithin lim (depth fs + 1) x
  content_within fs nothing rest f g h = tt
  content_within fs mark rest f g h = tt
  content_within fs (space y c) rest f g h = content_within fs y ((c ∷ []) ++ rest) f g.0 (before fs y (c ∷ []) rest h)
  content_within fs (char y c) rest f g h = content_within fs y ((c ∷ []) ++ rest) f g.0 (before fs y (c ∷ []) rest h)
  content_within fs (reference y t) rest f g h = content_within fs y (reference_spelling t ++ rest) f g.0 (before fs y (reference_spelling t) rest h)
  content_within fs (cdata y d) rest f g h = content_within fs y _ f g.0 (before fs y (cdata_start ++ (cdsect_spelling d ++ (62 ∷ []))) rest h)
  content_within fs (comment y t) rest f g h = content_within fs y _ f g.0 (before fs y (comment_start ++ (comment_spelling t ++ (45 ∷ (45 ∷ (62 ∷ []))))) rest h)
  content_within fs (bare y n) rest f g h = content_within fs y _ f g.0 (before fs y (60 ∷ (63 ∷ (n ++ (63 ∷ (62 ∷ []))))) rest h)
  content_within fs (instruction y n c d) rest f g h = content_within fs y _ f g.0 (before fs y (60 ∷ (63 ∷ (n ++ (c ∷ (data_spelling d ++ (62 ∷ [])))))) rest h)
  content_within fs (doctype y b c d) rest f g h = content_within fs y _ f g.0 (before fs y (doc_start ++ (b ++ (c ∷ (declaration_spelling d ++ (62 ∷ []))))) rest h)
  content_within fs (single y n ats sp) rest f g h =
      let all = before fs y (single_tag n ats sp) rest h in
      (content_within fs y _ f g.0 all, tag_within fs y n f g.0 g.1 g.2 ats (sp ++ (47 ∷ (62 ∷ rest))) g.4 (subst (Clean lim) (simp append_assoc) all))
  content_within fs (tagged y n ats sp k sp2) rest f g h =
      let all = before fs y (start_tag_spelling n ats sp ++ (spelling k ++ end_tag_spelling n sp2)) rest h in
      let frames : IsFrames (frame fs y n ats sp) = (f, g.0, g.1, g.2, g.3, g.6) in
      let inner : Clean lim ((frames_spelling (frame fs y n ats sp) ++ spelling k) ++ (end_tag_spelling n sp2 ++ rest)) = subst (Clean lim) (simp append_assoc) all in (
        content_within fs y _ f g.0 all,
        tag_within fs y n f g.0 g.1 g.2 ats (sp ++ (62 ∷ (spelling k ++ (end_tag_spelling n sp2 ++ rest)))) g.6 (subst (Clean lim) (simp append_assoc) all),
        content_within (frame fs y n ats sp) k (end_tag_spelling n sp2 ++ rest) frames g.4 inner,
        run_within (frame fs y n ats sp) k less (47 ∷ (n ++ (sp2 ++ (62 ∷ rest)))) (frames, g.4, tt) (subst (Clean lim) (simp append_assoc) inner),
      )

  -- a whole document is within limits exactly where no fault comes
  pub within_limits : (cs : List ℕ) (d : Nodes) (s : SpellsDocument cs d) → Clean lim cs ↔ IsWithin lim s.content
  within_limits cs d s = (
    λ h. content_within bottom s.content [] tt s.good (subst (Clean lim) (sym (append-nil (spelling s.content) ∙ s.spelled)) h),
    λ k. subst (Clean lim) s.spelled (document_reads s.content s.good s.root k),
  )

  -- bytes that spell a document have no fault exactly where they are few enough and the document is within limits
  pub no_fault_within : (cs : List ℕ) (d : Nodes) (s : SpellsDocument cs d) → scalars cs ≡ true → FaultIs lim (encodes cs) true None ↔ ((length (encodes cs) ≤ lim.bytes) × IsWithin lim s.content)
  no_fault_within cs d s sc = (to, λ k. within_limit k.0 (none_whole cs d (record { chars = sc; parts = sym (append-nil (encodes cs)); part = no_front }) ((within_limits cs d s).1 k.1) s refl refl))
    where
      clean : FaultWithin lim (encodes cs) true None → Clean lim cs
      clean (by_character ds rest f k e c o) = absurd (cc)
      clean (by_sequence ds i c o) = absurd (cc)
      clean (by_cut ds tail d c n e o) = absurd (cc)
      clean (by_end ds d c n e o) = absurd (cc)
      clean (none_yet ds tail d c e o) = absurd (true≢false e)
      clean (none_whole ds n d c t e o) =
          let k = longest (encodes cs) cs [] ds [] (sym (append-nil (encodes cs))) d.parts sc (front_no_char [] d.part) in
          clean_front lim cs k.0 (subst (Clean lim) k.1 c)

      to : FaultIs lim (encodes cs) true None → (length (encodes cs) ≤ lim.bytes) × IsWithin lim s.content
      to (within_limit k w) = (k, (within_limits cs d s).0 (clean w))
      to (before_limit f k w e) = absurd (cc)
      to (past_limit k w e) = absurd (cc)
