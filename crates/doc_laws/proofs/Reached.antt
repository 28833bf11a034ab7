-- Each front is read.
use Rattle.std.proofs.Common.{ℕ, ◌≡◌, true, List, [], ◌∷◌, ◌++◌, Option, Some, refl, sym, ap, ◌∙◌, subst, append_assoc, append-nil}
use Rattle.std.specs.List.{list_all}
use Rattle.std.proofs.lemmas.Bool.{true≢false, false≢true, and_parts}
use lib.Utf8.{encodes}
use Rattle.gcx_base.specs.Characters.{is_white, is_start_char, is_part_char}
use Rattle.gcx_model.specs.References.{Reference, reference_spelling, IsReference, BegunReference, begun_spelling, IsBegun}
use Rattle.gcx_model.specs.Attributes.{is_name, is_blank_text, is_gap, is_quote, is_fresh, AttributeValue, blank_value, value_char, value_reference, Head, Attributes, no_attribute, attribute, value_spelling, head_spelling, attributes_spelling, attribute_names, IsValue, IsHead, IsAttributes}
use Rattle.gcx_model.specs.Markup.{CommentText, blank_comment, plain, dashed, CDSect, blank_cdsect, further, InstructionData, blank_data, data_char, data_spelling, IsInstructionData, Declaration, blank_declaration, doc_char, literal, doc_word, doc_start, is_literal_char, declaration_spelling, IsDeclaration, comment_spelling, comment_start, cdata_word, cdata_start, cdsect_spelling, IsCommentText, brackets, IsCDSect}
use Rattle.gcx_model.specs.Grammar.{Content, nothing, mark, space, char, reference, cdata, comment, bare, instruction, doctype, single, tagged, start_tag_spelling, single_tag, end_tag_spelling, spelling, has_element, has_type, may_type, may_open, IsContent}
use Rattle.gcx_model.specs.Fronts.{Frames, bottom, frame, Part, no_part, spaced, part_name, name_spaced, equals, value_part, value_amp, Piece, no_piece, less, started, tag, slashed, ending, ended, question, target, target_mark, in_instruction, doc_wording, doc_gap, doc, doc_literal, bang, bang_dash, in_comment, comment_dash, comment_end, cdsect_word, in_cdsect, amp, frames_spelling, piece_spelling, inside, IsFrames, IsPart, IsPiece, part_spelling, front_spelling, IsFront}
use Rattle.doc_laws.specs.Machine.{State, start, steps}
use Rattle.doc_laws.specs.States.{state_of}
use Rattle.doc_laws.proofs.Referred.{begun_steps, referred_steps}
use Rattle.doc_laws.proofs.Moves.{steps_on_to, step_to, step_end, walk, over_space, over_gap, behind_space, tag_piece, m_char, m_space_out, m_mark, m_less, m_amp, m_refer, m_referred, m_started, m_bang, m_name, m_space, m_space2, m_open, m_open2, m_slash, m_slash2, m_single, m_attr, m_attr_name, m_attr_space1, m_attr_space2, m_equals1, m_equals2, m_equals_space, m_quote, m_value, m_value_amp, m_value_refer, m_value_referred, m_valued, m_question, m_target, m_target_name, m_target_mark, m_bare, m_instruction_start, m_in_instruction, m_instruction_end, m_doc_word, m_doc_wording, m_doc_gap1, m_doc_gap2, m_doc_name, m_doc_char, m_doc_quote, m_doc_literal, m_doc_unquote, m_doctype, m_bang_dash, m_in_comment, m_plain, m_dash, m_dashed, m_dashes, m_comment, m_cdsect_word, m_word, m_cdsect_start, m_in_cdsect, m_cdsect_end, m_end, m_ending, m_end_space1, m_end_space2, m_close1, m_close2}

module _ (fs : Frames) (x : Content) where
  name_steps : (m cs : List ℕ) → list_all is_part_char cs ≡ true → steps (state_of fs x (started m)) cs ≡ Some (state_of fs x (started (m ++ cs)))
  name_steps m [] h = ap (λ l. Some (state_of fs x (started l))) (sym (append-nil m))
  name_steps m (c ∷ cs) h =
      let both = and_parts (is_part_char c) (list_all is_part_char cs) h in
      step_to (state_of fs x (started m)) (state_of fs x (started (m ++ c ∷ []))) c cs _ (m_name fs x m c both.0)
      (name_steps (m ++ c ∷ []) cs both.1 ∙ ap (λ l. Some (state_of fs x (started l))) (append_assoc m (c ∷ []) cs))

  -- up to the name of a start tag
  start_name : (n : List ℕ) → may_open (inside fs) (has_element x) ≡ true → is_name n ≡ true → steps (state_of fs x no_piece) (60 ∷ n) ≡ Some (state_of fs x (started n))
  start_name [] k h = absurd (false≢true h)
  start_name (c ∷ cs) k h =
      let both = and_parts (is_start_char c) (list_all is_part_char cs) h in
      step_to (state_of fs x no_piece) (state_of fs x less) 60 (c ∷ cs) _ (m_less fs x)
      (step_to (state_of fs x less) (state_of fs x (started (c ∷ []))) c cs _ (m_started fs x c both.0 k) (name_steps (c ∷ []) cs both.1))

  -- white space behind a name or a value
  gap_steps : (n : List ℕ) (ats : Attributes) (g : List ℕ) → is_gap g ≡ true → steps (state_of fs x (tag_piece n ats)) g ≡ Some (state_of fs x (tag n ats (spaced g)))
  gap_steps n ats g b = over_gap (state_of fs x (tag_piece n ats)) (state_of fs x (tag n ats (spaced g))) (λ d h. m_space fs x n ats g d h) (λ d h. m_space2 fs x n ats g g d h) g b

  attr_more : (n : List ℕ) (ats : Attributes) (g m cs : List ℕ) → list_all is_part_char cs ≡ true → steps (state_of fs x (tag n ats (part_name g m))) cs ≡ Some (state_of fs x (tag n ats (part_name g (m ++ cs))))
  attr_more n ats g m [] h = ap (λ l. Some (state_of fs x (tag n ats (part_name g l)))) (sym (append-nil m))
  attr_more n ats g m (c ∷ cs) h =
      let both = and_parts (is_part_char c) (list_all is_part_char cs) h in
      step_to (state_of fs x (tag n ats (part_name g m))) (state_of fs x (tag n ats (part_name g (m ++ c ∷ [])))) c cs _ (m_attr_name fs x n ats g m c both.0)
      (attr_more n ats g (m ++ c ∷ []) cs both.1 ∙ ap (λ l. Some (state_of fs x (tag n ats (part_name g l)))) (append_assoc m (c ∷ []) cs))

  attr_steps : (n : List ℕ) (ats : Attributes) (g m : List ℕ) → is_name m ≡ true → steps (state_of fs x (tag n ats (spaced g))) m ≡ Some (state_of fs x (tag n ats (part_name g m)))
  attr_steps n ats g [] h = absurd (false≢true h)
  attr_steps n ats g (c ∷ cs) h =
      let both = and_parts (is_start_char c) (list_all is_part_char cs) h in
      step_to (state_of fs x (tag n ats (spaced g))) (state_of fs x (tag n ats (part_name g (c ∷ [])))) c cs _ (m_attr fs x n ats g c both.0) (attr_more n ats g (c ∷ []) cs both.1)

  -- up to the name of an attribute
  named_steps : (n : List ℕ) (ats : Attributes) (g m : List ℕ) → is_gap g ≡ true → is_name m ≡ true → steps (state_of fs x (tag_piece n ats)) (g ++ m) ≡ Some (state_of fs x (tag n ats (part_name g m)))
  named_steps n ats g m b h = steps_on_to (state_of fs x (tag_piece n ats)) (state_of fs x (tag n ats (spaced g))) g m _ (gap_steps n ats g b) (attr_steps n ats g m h)

  name_spaced_steps : (n : List ℕ) (ats : Attributes) (g m sp : List ℕ) → is_gap g ≡ true → is_name m ≡ true → is_fresh (encodes m) (attribute_names ats) ≡ true → is_gap sp ≡ true → steps (state_of fs x (tag_piece n ats)) (g ++ (m ++ sp)) ≡ Some (state_of fs x (tag n ats (name_spaced g m sp)))
  name_spaced_steps n ats g m sp b h f b2 =
      steps_on_to (state_of fs x (tag_piece n ats)) (state_of fs x (tag n ats (spaced g))) g (m ++ sp) _ (gap_steps n ats g b)
      (steps_on_to (state_of fs x (tag n ats (spaced g))) (state_of fs x (tag n ats (part_name g m))) m sp _ (attr_steps n ats g m h)
      (over_gap (state_of fs x (tag n ats (part_name g m))) (state_of fs x (tag n ats (name_spaced g m sp))) (λ d k. m_attr_space1 fs x n ats g m sp d f k) (λ d k. m_attr_space2 fs x n ats g m sp sp d k) sp b2))

  equals_steps : (n : List ℕ) (ats : Attributes) (g m sp sp2 cs : List ℕ) (o : Option State) → is_gap g ≡ true → is_name m ≡ true → is_fresh (encodes m) (attribute_names ats) ≡ true → is_blank_text sp ≡ true → is_blank_text sp2 ≡ true → steps (state_of fs x (tag n ats (equals g m sp sp2))) cs ≡ o → steps (state_of fs x (tag_piece n ats)) (g ++ (m ++ (sp ++ (61 ∷ (sp2 ++ cs))))) ≡ o
  equals_steps n ats g m sp sp2 cs o b h f b1 b2 e =
      let s1 = state_of fs x (tag n ats (spaced g)) in
      let s2 = state_of fs x (tag n ats (part_name g m)) in
      let s3 = state_of fs x (tag n ats (name_spaced g m sp)) in
      let s4 = state_of fs x (tag n ats (equals g m sp sp2)) in
      let behind : steps s4 sp2 ≡ Some s4 = over_space s4 (λ d k. m_equals_space fs x n ats g m sp sp2 sp2 d k) sp2 b2 in
      let sign : steps s2 (sp ++ (61 ∷ [])) ≡ Some s4 = behind_space s2 s3 s4 (61 ∷ []) (λ d k. m_attr_space1 fs x n ats g m sp d f k) (λ d k. m_attr_space2 fs x n ats g m sp sp d k) (step_end s2 s4 61 (m_equals1 fs x n ats g m sp sp2 f)) (step_end s3 s4 61 (m_equals2 fs x n ats g m sp sp sp2)) sp b1 in
      steps_on_to (state_of fs x (tag_piece n ats)) s1 g (m ++ (sp ++ (61 ∷ (sp2 ++ cs)))) o (gap_steps n ats g b)
      (steps_on_to s1 s2 m (sp ++ (61 ∷ (sp2 ++ cs))) o (attr_steps n ats g m h)
      (ap (steps s2) (sym (append_assoc sp (61 ∷ []) (sp2 ++ cs))) ∙ steps_on_to s2 s4 (sp ++ (61 ∷ [])) (sp2 ++ cs) o sign (steps_on_to s4 s4 sp2 cs o behind e)))

  head_steps : (n : List ℕ) (ats : Attributes) (h : Head) → IsHead (attribute_names ats) h → steps (state_of fs x (tag_piece n ats)) (head_spelling h) ≡ Some (state_of fs x (tag n ats (value_part h blank_value)))
  head_steps n ats h g =
      equals_steps n ats h.gap h.name h.before h.behind (h.quote ∷ []) _ g.0 g.1 g.2 g.3 g.4
      (step_end (state_of fs x (tag n ats (equals h.gap h.name h.before h.behind))) (state_of fs x (tag n ats (value_part h blank_value))) h.quote (m_quote fs x n ats h g.5))

  value_amp_steps : (n : List ℕ) (ats : Attributes) (h : Head) (v : AttributeValue) (r : BegunReference) → is_quote h.quote ≡ true → IsBegun r → steps (state_of fs x (tag n ats (value_part h v))) (begun_spelling r) ≡ Some (state_of fs x (tag n ats (value_amp h v r)))
  value_amp_steps n ats h v r q g = begun_steps (λ r. state_of fs x (tag n ats (value_amp h v r))) (m_value_refer fs x n ats h v) (state_of fs x (tag n ats (value_part h v))) (m_value_amp fs x n ats h v q) r g

  value_steps : (n : List ℕ) (ats : Attributes) (h : Head) (v : AttributeValue) → is_quote h.quote ≡ true → IsValue h.quote v → steps (state_of fs x (tag n ats (value_part h blank_value))) (value_spelling v) ≡ Some (state_of fs x (tag n ats (value_part h v)))
  value_steps n ats h blank_value q g = refl
  value_steps n ats h (value_char v c) q g =
      steps_on_to (state_of fs x (tag n ats (value_part h blank_value))) (state_of fs x (tag n ats (value_part h v))) (value_spelling v) (c ∷ []) _ (value_steps n ats h v q g.0)
      (step_end (state_of fs x (tag n ats (value_part h v))) _ c (m_value fs x n ats h v c g.1))
  value_steps n ats h (value_reference v t) q g =
      steps_on_to (state_of fs x (tag n ats (value_part h blank_value))) (state_of fs x (tag n ats (value_part h v))) (value_spelling v) (reference_spelling t) _ (value_steps n ats h v q g.0)
      (referred_steps (λ r. state_of fs x (tag n ats (value_amp h v r))) (m_value_refer fs x n ats h v) (state_of fs x (tag n ats (value_part h v))) (state_of fs x (tag n ats (value_part h (value_reference v t)))) (m_value_amp fs x n ats h v q) t g.1
      (λ r e. m_value_referred fs x n ats h v r t 59 e))

  in_value_steps : (n : List ℕ) (ats : Attributes) (h : Head) (v : AttributeValue) → IsHead (attribute_names ats) h → IsValue h.quote v → steps (state_of fs x (tag_piece n ats)) (head_spelling h ++ value_spelling v) ≡ Some (state_of fs x (tag n ats (value_part h v)))
  in_value_steps n ats h v g k = steps_on_to (state_of fs x (tag_piece n ats)) (state_of fs x (tag n ats (value_part h blank_value))) (head_spelling h) (value_spelling v) _ (head_steps n ats h g) (value_steps n ats h v g.5 k)

  behind_head : (n : List ℕ) (ats : Attributes) (h : Head) (v : AttributeValue) (cs : List ℕ) (o : Option State) → IsHead (attribute_names ats) h → IsValue h.quote v → steps (state_of fs x (tag n ats (value_part h v))) cs ≡ o → steps (state_of fs x (tag_piece n ats)) (head_spelling h ++ (value_spelling v ++ cs)) ≡ o
  behind_head n ats h v cs o g k e =
      steps_on_to (state_of fs x (tag_piece n ats)) (state_of fs x (tag n ats (value_part h blank_value))) (head_spelling h) (value_spelling v ++ cs) o (head_steps n ats h g)
      (steps_on_to (state_of fs x (tag n ats (value_part h blank_value))) (state_of fs x (tag n ats (value_part h v))) (value_spelling v) cs o (value_steps n ats h v g.5 k) e)

  attributes_steps : (n : List ℕ) (ats : Attributes) → IsAttributes ats → steps (state_of fs x (started n)) (attributes_spelling ats) ≡ Some (state_of fs x (tag_piece n ats))
  attributes_steps n no_attribute g = refl
  attributes_steps n (attribute ats h v) g =
      steps_on_to (state_of fs x (started n)) (state_of fs x (tag_piece n ats)) (attributes_spelling ats) (head_spelling h ++ (value_spelling v ++ (h.quote ∷ []))) _ (attributes_steps n ats g.0)
      (behind_head n ats h v (h.quote ∷ []) _ g.1 g.2 (step_end (state_of fs x (tag n ats (value_part h v))) _ h.quote (m_valued fs x n ats h v)))

  part_steps : (n : List ℕ) (ats : Attributes) (p : Part) → IsPart ats p → steps (state_of fs x (tag_piece n ats)) (part_spelling p) ≡ Some (state_of fs x (tag n ats p))
  part_steps n no_attribute no_part g = absurd (false≢true g)
  part_steps n (attribute ats h v) no_part g = refl
  part_steps n ats (spaced g) k = gap_steps n ats g k
  part_steps n ats (part_name g m) k = named_steps n ats g m k.0 k.1
  part_steps n ats (name_spaced g m sp) k = name_spaced_steps n ats g m sp k.0 k.1 k.2 k.3
  part_steps n ats (equals g m sp sp2) k =
      ap (λ l. steps (state_of fs x (tag_piece n ats)) (g ++ (m ++ (sp ++ (61 ∷ l))))) (sym (append-nil sp2))
      ∙ equals_steps n ats g m sp sp2 [] _ k.0 k.1 k.2 k.3 k.4 refl
  part_steps n ats (value_part h v) k = in_value_steps n ats h v k.0 k.1
  part_steps n ats (value_amp h v r) k = behind_head n ats h v (begun_spelling r) _ k.0 k.1 (value_amp_steps n ats h v r k.0.5 k.2)

  -- over a start tag's name and attributes
  tag_steps : (n : List ℕ) (ats : Attributes) (cs : List ℕ) (o : Option State) → may_open (inside fs) (has_element x) ≡ true → is_name n ≡ true → IsAttributes ats → steps (state_of fs x (tag_piece n ats)) cs ≡ o → steps (state_of fs x no_piece) (60 ∷ (n ++ (attributes_spelling ats ++ cs))) ≡ o
  tag_steps n ats cs o k h g e =
      steps_on_to (state_of fs x no_piece) (state_of fs x (started n)) (60 ∷ n) (attributes_spelling ats ++ cs) o (start_name n k h)
      (steps_on_to (state_of fs x (started n)) (state_of fs x (tag_piece n ats)) (attributes_spelling ats) cs o (attributes_steps n ats g) e)

  -- behind white space
  behind_tag : (n : List ℕ) (ats : Attributes) (sp cs : List ℕ) (t : State) → is_blank_text sp ≡ true → steps (state_of fs x (tag_piece n ats)) cs ≡ Some t → steps (state_of fs x (tag n ats (spaced []))) cs ≡ Some t → steps (state_of fs x (tag_piece n ats)) (sp ++ cs) ≡ Some t
  behind_tag n ats sp cs t b e f = behind_space (state_of fs x (tag_piece n ats)) (state_of fs x (tag n ats (spaced []))) t cs (λ d h. m_space fs x n ats [] d h) (λ d h. m_space2 fs x n ats [] [] d h) e f sp b

  start_steps : (n : List ℕ) (ats : Attributes) (sp : List ℕ) → may_open (inside fs) (has_element x) ≡ true → is_name n ≡ true → is_blank_text sp ≡ true → IsAttributes ats → steps (state_of fs x no_piece) (start_tag_spelling n ats sp) ≡ Some (state_of (frame fs x n ats sp) nothing no_piece)
  start_steps n ats sp k h b g =
      tag_steps n ats (sp ++ (62 ∷ [])) _ k h g
      (behind_tag n ats sp (62 ∷ []) _ b (step_end (state_of fs x (tag_piece n ats)) _ 62 (m_open fs x n ats sp)) (step_end (state_of fs x (tag n ats (spaced []))) _ 62 (m_open2 fs x n ats [] sp)))

  slash_steps : (n : List ℕ) (ats : Attributes) (sp : List ℕ) → may_open (inside fs) (has_element x) ≡ true → is_name n ≡ true → is_blank_text sp ≡ true → IsAttributes ats → steps (state_of fs x no_piece) (60 ∷ (n ++ (attributes_spelling ats ++ (sp ++ (47 ∷ []))))) ≡ Some (state_of fs x (slashed n ats sp))
  slash_steps n ats sp k h b g =
      tag_steps n ats (sp ++ (47 ∷ [])) _ k h g
      (behind_tag n ats sp (47 ∷ []) _ b (step_end (state_of fs x (tag_piece n ats)) _ 47 (m_slash fs x n ats sp)) (step_end (state_of fs x (tag n ats (spaced []))) _ 47 (m_slash2 fs x n ats [] sp)))

  single_steps : (n : List ℕ) (ats : Attributes) (sp : List ℕ) → may_open (inside fs) (has_element x) ≡ true → is_name n ≡ true → is_blank_text sp ≡ true → IsAttributes ats → steps (state_of fs x no_piece) (single_tag n ats sp) ≡ Some (state_of fs (single x n ats sp) no_piece)
  single_steps n ats sp k h b g =
      let last = step_end (state_of fs x (slashed n ats sp)) _ 62 (m_single fs x n ats sp) in
      tag_steps n ats (sp ++ (47 ∷ (62 ∷ []))) _ k h g
      (behind_tag n ats sp (47 ∷ (62 ∷ [])) _ b
      (step_to (state_of fs x (tag_piece n ats)) (state_of fs x (slashed n ats sp)) 47 (62 ∷ []) _ (m_slash fs x n ats sp) last)
      (step_to (state_of fs x (tag n ats (spaced []))) (state_of fs x (slashed n ats sp)) 47 (62 ∷ []) _ (m_slash2 fs x n ats [] sp) last))

  target_more : (m cs : List ℕ) → list_all is_part_char cs ≡ true → steps (state_of fs x (target m)) cs ≡ Some (state_of fs x (target (m ++ cs)))
  target_more m [] h = ap (λ l. Some (state_of fs x (target l))) (sym (append-nil m))
  target_more m (c ∷ cs) h =
      let both = and_parts (is_part_char c) (list_all is_part_char cs) h in
      step_to (state_of fs x (target m)) (state_of fs x (target (m ++ c ∷ []))) c cs _ (m_target_name fs x m c both.0)
      (target_more (m ++ c ∷ []) cs both.1 ∙ ap (λ l. Some (state_of fs x (target l))) (append_assoc m (c ∷ []) cs))

  question_steps : steps (state_of fs x no_piece) (60 ∷ (63 ∷ [])) ≡ Some (state_of fs x question)
  question_steps = step_to (state_of fs x no_piece) (state_of fs x less) 60 (63 ∷ []) _ (m_less fs x) (step_end (state_of fs x less) _ 63 (m_question fs x))

  target_steps : (n : List ℕ) → is_name n ≡ true → steps (state_of fs x no_piece) (60 ∷ (63 ∷ n)) ≡ Some (state_of fs x (target n))
  target_steps [] h = absurd (false≢true h)
  target_steps (c ∷ cs) h =
      let both = and_parts (is_start_char c) (list_all is_part_char cs) h in
      steps_on_to (state_of fs x no_piece) (state_of fs x question) (60 ∷ (63 ∷ [])) (c ∷ cs) _ question_steps
      (step_to (state_of fs x question) (state_of fs x (target (c ∷ []))) c cs _ (m_target fs x c both.0) (target_more (c ∷ []) cs both.1))

  target_mark_steps : (n : List ℕ) → is_name n ≡ true → steps (state_of fs x no_piece) (60 ∷ (63 ∷ (n ++ (63 ∷ [])))) ≡ Some (state_of fs x (target_mark n))
  target_mark_steps n h = steps_on_to (state_of fs x no_piece) (state_of fs x (target n)) (60 ∷ (63 ∷ n)) (63 ∷ []) _ (target_steps n h) (step_end (state_of fs x (target n)) _ 63 (m_target_mark fs x n))

  bare_steps : (n : List ℕ) → is_name n ≡ true → steps (state_of fs x no_piece) (60 ∷ (63 ∷ (n ++ (63 ∷ (62 ∷ []))))) ≡ Some (state_of fs (bare x n) no_piece)
  bare_steps n h =
      steps_on_to (state_of fs x no_piece) (state_of fs x (target n)) (60 ∷ (63 ∷ n)) (63 ∷ (62 ∷ [])) _ (target_steps n h)
      (step_to (state_of fs x (target n)) (state_of fs x (target_mark n)) 63 (62 ∷ []) _ (m_target_mark fs x n) (step_end (state_of fs x (target_mark n)) _ 62 (m_bare fs x n)))

  instruction_walk : (n : List ℕ) (c : ℕ) (d : InstructionData) → IsInstructionData d → steps (state_of fs x (in_instruction n c blank_data)) (data_spelling d) ≡ Some (state_of fs x (in_instruction n c d))
  instruction_walk n c blank_data g = refl
  instruction_walk n c (data_char d e) g =
      steps_on_to (state_of fs x (in_instruction n c blank_data)) (state_of fs x (in_instruction n c d)) (data_spelling d) (e ∷ []) _ (instruction_walk n c d g.0) (step_end (state_of fs x (in_instruction n c d)) _ e (m_in_instruction fs x n c d e g.1 g.2))

  instruction_steps : (n : List ℕ) (c : ℕ) (d : InstructionData) (cs : List ℕ) (o : Option State) → is_name n ≡ true → is_white c ≡ true → IsInstructionData d → steps (state_of fs x (in_instruction n c d)) cs ≡ o → steps (state_of fs x no_piece) (60 ∷ (63 ∷ (n ++ (c ∷ (data_spelling d ++ cs))))) ≡ o
  instruction_steps n c d cs o h k g e =
      steps_on_to (state_of fs x no_piece) (state_of fs x (target n)) (60 ∷ (63 ∷ n)) (c ∷ (data_spelling d ++ cs)) o (target_steps n h)
      (step_to (state_of fs x (target n)) (state_of fs x (in_instruction n c blank_data)) c (data_spelling d ++ cs) o (m_instruction_start fs x n c k)
      (steps_on_to (state_of fs x (in_instruction n c blank_data)) (state_of fs x (in_instruction n c d)) (data_spelling d) cs o (instruction_walk n c d g) e))

  doc_wording_steps : may_type (inside fs) (has_type x) ≡ true → (a r : List ℕ) → a ++ r ≡ doc_word → steps (state_of fs x no_piece) (60 ∷ (33 ∷ (68 ∷ a))) ≡ Some (state_of fs x (doc_wording a r))
  doc_wording_steps i a r e =
      step_to (state_of fs x no_piece) (state_of fs x less) 60 (33 ∷ (68 ∷ a)) _ (m_less fs x)
      (step_to (state_of fs x less) (state_of fs x bang) 33 (68 ∷ a) _ (m_bang fs x)
      (step_to (state_of fs x bang) (state_of fs x (doc_wording [] doc_word)) 68 a _ (m_doc_word fs x i)
      (ap (λ w. steps (state_of fs x (doc_wording [] w)) a) (sym e) ∙ walk (λ m r. state_of fs x (doc_wording m r)) (m_doc_wording fs x) [] a r)))

  doc_gap_steps : (g : List ℕ) → may_type (inside fs) (has_type x) ≡ true → is_gap g ≡ true → steps (state_of fs x no_piece) (doc_start ++ g) ≡ Some (state_of fs x (doc_gap g))
  doc_gap_steps g i b =
      steps_on_to (state_of fs x no_piece) (state_of fs x (doc_wording doc_word [])) doc_start g _ (doc_wording_steps i doc_word [] refl)
      (over_gap (state_of fs x (doc_wording doc_word [])) (state_of fs x (doc_gap g)) (λ d h. m_doc_gap1 fs x doc_word g d h) (λ d h. m_doc_gap2 fs x g g d h) g b)

  literal_walk : (g : List ℕ) (a : ℕ) (d : Declaration) (q : ℕ) (l m : List ℕ) → list_all (is_literal_char q) m ≡ true → steps (state_of fs x (doc_literal g a d q l)) m ≡ Some (state_of fs x (doc_literal g a d q (l ++ m)))
  literal_walk g a d q l [] h = ap (λ r. Some (state_of fs x (doc_literal g a d q r))) (sym (append-nil l))
  literal_walk g a d q l (c ∷ m) h =
      let both = and_parts (is_literal_char q c) (list_all (is_literal_char q) m) h in
      step_to (state_of fs x (doc_literal g a d q l)) (state_of fs x (doc_literal g a d q (l ++ c ∷ []))) c m _ (m_doc_literal fs x g a d q l c both.0)
      (literal_walk g a d q (l ++ c ∷ []) m both.1 ∙ ap (λ r. Some (state_of fs x (doc_literal g a d q r))) (append_assoc l (c ∷ []) m))

  in_literal : (g : List ℕ) (a : ℕ) (d : Declaration) (q : ℕ) (l : List ℕ) → is_quote q ≡ true → list_all (is_literal_char q) l ≡ true → steps (state_of fs x (doc g a d)) (q ∷ l) ≡ Some (state_of fs x (doc_literal g a d q l))
  in_literal g a d q l h k = step_to (state_of fs x (doc g a d)) (state_of fs x (doc_literal g a d q [])) q l _ (m_doc_quote fs x g a d q h) (literal_walk g a d q [] l k)

  declaration_walk : (g : List ℕ) (a : ℕ) (d : Declaration) → IsDeclaration d → steps (state_of fs x (doc g a blank_declaration)) (declaration_spelling d) ≡ Some (state_of fs x (doc g a d))
  declaration_walk g a blank_declaration k = refl
  declaration_walk g a (doc_char d c) k =
      steps_on_to (state_of fs x (doc g a blank_declaration)) (state_of fs x (doc g a d)) (declaration_spelling d) (c ∷ []) _ (declaration_walk g a d k.0) (step_end (state_of fs x (doc g a d)) _ c (m_doc_char fs x g a d c k.1))
  declaration_walk g a (literal d q l) k =
      steps_on_to (state_of fs x (doc g a blank_declaration)) (state_of fs x (doc g a d)) (declaration_spelling d) (q ∷ (l ++ (q ∷ []))) _ (declaration_walk g a d k.0)
      (steps_on_to (state_of fs x (doc g a d)) (state_of fs x (doc_literal g a d q l)) (q ∷ l) (q ∷ []) _ (in_literal g a d q l k.1 k.2)
      (step_end (state_of fs x (doc_literal g a d q l)) _ q (m_doc_unquote fs x g a d q l)))

  doc_steps : (g : List ℕ) (a : ℕ) (d : Declaration) (cs : List ℕ) (o : Option State) → may_type (inside fs) (has_type x) ≡ true → is_gap g ≡ true → is_start_char a ≡ true → IsDeclaration d → steps (state_of fs x (doc g a d)) cs ≡ o → steps (state_of fs x no_piece) (doc_start ++ (g ++ (a ∷ (declaration_spelling d ++ cs)))) ≡ o
  doc_steps g a d cs o i b h k e =
      ap (steps (state_of fs x no_piece)) (sym (append_assoc doc_start g (a ∷ (declaration_spelling d ++ cs))))
      ∙ steps_on_to (state_of fs x no_piece) (state_of fs x (doc_gap g)) (doc_start ++ g) (a ∷ (declaration_spelling d ++ cs)) o (doc_gap_steps g i b)
      (step_to (state_of fs x (doc_gap g)) (state_of fs x (doc g a blank_declaration)) a (declaration_spelling d ++ cs) o (m_doc_name fs x g a h)
      (steps_on_to (state_of fs x (doc g a blank_declaration)) (state_of fs x (doc g a d)) (declaration_spelling d) cs o (declaration_walk g a d k) e))

  bang_dash_steps : steps (state_of fs x no_piece) (60 ∷ (33 ∷ (45 ∷ []))) ≡ Some (state_of fs x bang_dash)
  bang_dash_steps =
      step_to (state_of fs x no_piece) (state_of fs x less) 60 (33 ∷ (45 ∷ [])) _ (m_less fs x)
      (step_to (state_of fs x less) (state_of fs x bang) 33 (45 ∷ []) _ (m_bang fs x) (step_end (state_of fs x bang) _ 45 (m_bang_dash fs x)))

  in_comment_steps : (r : CommentText) → IsCommentText r → steps (state_of fs x no_piece) (comment_start ++ comment_spelling r) ≡ Some (state_of fs x (in_comment r))
  in_comment_steps blank_comment g = steps_on_to (state_of fs x no_piece) (state_of fs x bang_dash) (60 ∷ (33 ∷ (45 ∷ []))) (45 ∷ []) _ bang_dash_steps (step_end (state_of fs x bang_dash) _ 45 (m_in_comment fs x))
  in_comment_steps (plain r c) g =
      steps_on_to (state_of fs x no_piece) (state_of fs x (in_comment r)) (comment_start ++ comment_spelling r) (c ∷ []) _ (in_comment_steps r g.0) (step_end (state_of fs x (in_comment r)) _ c (m_plain fs x r c g.1 g.2))
  in_comment_steps (dashed r c) g =
      steps_on_to (state_of fs x no_piece) (state_of fs x (in_comment r)) (comment_start ++ comment_spelling r) (45 ∷ (c ∷ [])) _ (in_comment_steps r g.0)
      (step_to (state_of fs x (in_comment r)) (state_of fs x (comment_dash r)) 45 (c ∷ []) _ (m_dash fs x r) (step_end (state_of fs x (comment_dash r)) _ c (m_dashed fs x r c g.1 g.2)))

  dash_steps : (r : CommentText) → IsCommentText r → steps (state_of fs x no_piece) (comment_start ++ (comment_spelling r ++ (45 ∷ []))) ≡ Some (state_of fs x (comment_dash r))
  dash_steps r g = steps_on_to (state_of fs x no_piece) (state_of fs x (in_comment r)) (comment_start ++ comment_spelling r) (45 ∷ []) _ (in_comment_steps r g) (step_end (state_of fs x (in_comment r)) _ 45 (m_dash fs x r))

  dashes_steps : (r : CommentText) → IsCommentText r → steps (state_of fs x no_piece) (comment_start ++ (comment_spelling r ++ (45 ∷ (45 ∷ [])))) ≡ Some (state_of fs x (comment_end r))
  dashes_steps r g =
      steps_on_to (state_of fs x no_piece) (state_of fs x (in_comment r)) (comment_start ++ comment_spelling r) (45 ∷ (45 ∷ [])) _ (in_comment_steps r g)
      (step_to (state_of fs x (in_comment r)) (state_of fs x (comment_dash r)) 45 (45 ∷ []) _ (m_dash fs x r) (step_end (state_of fs x (comment_dash r)) _ 45 (m_dashes fs x r)))

  comment_steps : (r : CommentText) → IsCommentText r → steps (state_of fs x no_piece) (comment_start ++ (comment_spelling r ++ (45 ∷ (45 ∷ (62 ∷ []))))) ≡ Some (state_of fs (comment x r) no_piece)
  comment_steps r g =
      steps_on_to (state_of fs x no_piece) (state_of fs x (in_comment r)) (comment_start ++ comment_spelling r) (45 ∷ (45 ∷ (62 ∷ []))) _ (in_comment_steps r g)
      (step_to (state_of fs x (in_comment r)) (state_of fs x (comment_dash r)) 45 (45 ∷ (62 ∷ [])) _ (m_dash fs x r)
      (step_to (state_of fs x (comment_dash r)) (state_of fs x (comment_end r)) 45 (62 ∷ []) _ (m_dashes fs x r) (step_end (state_of fs x (comment_end r)) _ 62 (m_comment fs x r))))

  word_steps : inside fs ≡ true → (a r : List ℕ) → a ++ r ≡ cdata_word → steps (state_of fs x no_piece) (60 ∷ (33 ∷ (91 ∷ a))) ≡ Some (state_of fs x (cdsect_word a r))
  word_steps i a r e =
      step_to (state_of fs x no_piece) (state_of fs x less) 60 (33 ∷ (91 ∷ a)) _ (m_less fs x)
      (step_to (state_of fs x less) (state_of fs x bang) 33 (91 ∷ a) _ (m_bang fs x)
      (step_to (state_of fs x bang) (state_of fs x (cdsect_word [] cdata_word)) 91 a _ (m_cdsect_word fs x i)
      (ap (λ w. steps (state_of fs x (cdsect_word [] w)) a) (sym e) ∙ walk (λ m r. state_of fs x (cdsect_word m r)) (m_word fs x) [] a r)))

  in_cdsect_steps : inside fs ≡ true → (d : CDSect) → IsCDSect d → steps (state_of fs x no_piece) (cdata_start ++ cdsect_spelling d) ≡ Some (state_of fs x (in_cdsect d))
  in_cdsect_steps i blank_cdsect g =
      steps_on_to (state_of fs x no_piece) (state_of fs x (cdsect_word cdata_word [])) (60 ∷ (33 ∷ (91 ∷ cdata_word))) (91 ∷ []) _ (word_steps i cdata_word [] refl)
      (step_end (state_of fs x (cdsect_word cdata_word [])) _ 91 (m_cdsect_start fs x cdata_word))
  in_cdsect_steps i (further d c) g =
      steps_on_to (state_of fs x no_piece) (state_of fs x (in_cdsect d)) (cdata_start ++ cdsect_spelling d) (c ∷ []) _ (in_cdsect_steps i d g.0) (step_end (state_of fs x (in_cdsect d)) _ c (m_in_cdsect fs x d c g.1 g.2))

  cdata_steps : inside fs ≡ true → (d : CDSect) → IsCDSect d → brackets d ≡ 2 → steps (state_of fs x no_piece) (cdata_start ++ (cdsect_spelling d ++ (62 ∷ []))) ≡ Some (state_of fs (cdata x d) no_piece)
  cdata_steps i d g e = steps_on_to (state_of fs x no_piece) (state_of fs x (in_cdsect d)) (cdata_start ++ cdsect_spelling d) (62 ∷ []) _ (in_cdsect_steps i d g) (step_end (state_of fs x (in_cdsect d)) _ 62 (m_cdsect_end fs x d e))

  amp_steps : inside fs ≡ true → (r : BegunReference) → IsBegun r → steps (state_of fs x no_piece) (begun_spelling r) ≡ Some (state_of fs x (amp r))
  amp_steps i r g = begun_steps (λ r. state_of fs x (amp r)) (m_refer fs x) (state_of fs x no_piece) (m_amp fs x i) r g

  reference_steps : inside fs ≡ true → (t : Reference) → IsReference t → steps (state_of fs x no_piece) (reference_spelling t) ≡ Some (state_of fs (reference x t) no_piece)
  reference_steps i t g = referred_steps (λ r. state_of fs x (amp r)) (m_refer fs x) (state_of fs x no_piece) (state_of fs (reference x t) no_piece) (m_amp fs x i) t g (λ r e. m_referred fs x r t 59 e)

module _ (fs : Frames) (y k : Content) (n : List ℕ) (ats : Attributes) (sp : List ℕ) where
  end_name : (a r : List ℕ) → a ++ r ≡ n → steps (state_of (frame fs y n ats sp) k no_piece) (60 ∷ (47 ∷ a)) ≡ Some (state_of (frame fs y n ats sp) k (ending a r))
  end_name a r e =
      step_to (state_of (frame fs y n ats sp) k no_piece) (state_of (frame fs y n ats sp) k less) 60 (47 ∷ a) _ (m_less (frame fs y n ats sp) k)
      (step_to (state_of (frame fs y n ats sp) k less) (state_of (frame fs y n ats sp) k (ending [] n)) 47 a _ (m_end fs y k n ats sp)
      (ap (λ w. steps (state_of (frame fs y n ats sp) k (ending [] w)) a) (sym e) ∙ walk (λ m r. state_of (frame fs y n ats sp) k (ending m r)) (m_ending fs y k n ats sp) [] a r))

  behind_end : (sp2 cs : List ℕ) (t : State) → is_blank_text sp2 ≡ true → steps (state_of (frame fs y n ats sp) k (ending n [])) cs ≡ Some t → steps (state_of (frame fs y n ats sp) k (ended n [] 32)) cs ≡ Some t → steps (state_of (frame fs y n ats sp) k (ending n [])) (sp2 ++ cs) ≡ Some t
  behind_end sp2 cs t b e f = behind_space (state_of (frame fs y n ats sp) k (ending n [])) (state_of (frame fs y n ats sp) k (ended n [] 32)) t cs (λ d h. m_end_space1 fs y k n ats sp n d h) (λ d h. m_end_space2 fs y k n ats sp n [] 32 d h) e f sp2 b

  end_steps : (sp2 : List ℕ) → is_blank_text sp2 ≡ true → steps (state_of (frame fs y n ats sp) k no_piece) (end_tag_spelling n sp2) ≡ Some (state_of fs (tagged y n ats sp k sp2) no_piece)
  end_steps sp2 b =
      steps_on_to (state_of (frame fs y n ats sp) k no_piece) (state_of (frame fs y n ats sp) k (ending n [])) (60 ∷ (47 ∷ n)) (sp2 ++ (62 ∷ [])) _ (end_name n [] (append-nil n))
      (behind_end sp2 (62 ∷ []) _ b (step_end (state_of (frame fs y n ats sp) k (ending n [])) _ 62 (m_close1 fs y k n ats sp n sp2)) (step_end (state_of (frame fs y n ats sp) k (ended n [] 32)) _ 62 (m_close2 fs y k n ats sp n sp2 [] 32)))

  ended_steps : (sp2 : List ℕ) (c : ℕ) → is_blank_text sp2 ≡ true → is_white c ≡ true → steps (state_of (frame fs y n ats sp) k no_piece) (60 ∷ (47 ∷ (n ++ (sp2 ++ (c ∷ []))))) ≡ Some (state_of (frame fs y n ats sp) k (ended n sp2 c))
  ended_steps sp2 c b e =
      steps_on_to (state_of (frame fs y n ats sp) k no_piece) (state_of (frame fs y n ats sp) k (ending n [])) (60 ∷ (47 ∷ n)) (sp2 ++ (c ∷ [])) _ (end_name n [] (append-nil n))
      (behind_end sp2 (c ∷ []) _ b (step_end (state_of (frame fs y n ats sp) k (ending n [])) _ c (m_end_space1 fs y k n ats sp n c e)) (step_end (state_of (frame fs y n ats sp) k (ended n [] 32)) _ c (m_end_space2 fs y k n ats sp n [] 32 c e)))

-- over content
pub content_steps : (fs : Frames) (x : Content) → IsContent (inside fs) x → steps (state_of fs nothing no_piece) (spelling x) ≡ Some (state_of fs x no_piece)
content_steps fs nothing g = refl
content_steps bottom mark g = step_end (state_of bottom nothing no_piece) _ 65279 m_mark
content_steps (frame fs y n ats sp) mark g = absurd (true≢false g)
content_steps fs (space y c) g = steps_on_to (state_of fs nothing no_piece) (state_of fs y no_piece) (spelling y) _ _ (content_steps fs y g.0) (step_end (state_of fs y no_piece) _ c (m_space_out fs y c g.2 g.1))
content_steps fs (char y c) g = steps_on_to (state_of fs nothing no_piece) (state_of fs y no_piece) (spelling y) _ _ (content_steps fs y g.0) (step_end (state_of fs y no_piece) _ c (m_char fs y c g.2 g.1))
content_steps fs (reference y t) g = steps_on_to (state_of fs nothing no_piece) (state_of fs y no_piece) (spelling y) _ _ (content_steps fs y g.0) (reference_steps fs y g.1 t g.2)
content_steps fs (cdata y d) g = steps_on_to (state_of fs nothing no_piece) (state_of fs y no_piece) (spelling y) _ _ (content_steps fs y g.0) (cdata_steps fs y g.1 d g.2 g.3)
content_steps fs (comment y r) g = steps_on_to (state_of fs nothing no_piece) (state_of fs y no_piece) (spelling y) _ _ (content_steps fs y g.0) (comment_steps fs y r g.1)
content_steps fs (bare y n) g = steps_on_to (state_of fs nothing no_piece) (state_of fs y no_piece) (spelling y) _ _ (content_steps fs y g.0) (bare_steps fs y n g.1)
content_steps fs (instruction y n c d) g = steps_on_to (state_of fs nothing no_piece) (state_of fs y no_piece) (spelling y) _ _ (content_steps fs y g.0) (instruction_steps fs y n c d (62 ∷ []) _ g.1 g.2 g.3 (step_end (state_of fs y (in_instruction n c d)) _ 62 (m_instruction_end fs y n c d g.4)))
content_steps fs (doctype y b a d) g = steps_on_to (state_of fs nothing no_piece) (state_of fs y no_piece) (spelling y) _ _ (content_steps fs y g.0) (doc_steps fs y b a d (62 ∷ []) _ g.1 g.2 g.3 g.4 (step_end (state_of fs y (doc b a d)) _ 62 (m_doctype fs y b a d)))
content_steps fs (single y n ats sp) g = steps_on_to (state_of fs nothing no_piece) (state_of fs y no_piece) (spelling y) _ _ (content_steps fs y g.0) (single_steps fs y n ats sp g.1 g.2 g.3 g.4)
content_steps fs (tagged y n ats sp k sp2) g =
    steps_on_to (state_of fs nothing no_piece) (state_of fs y no_piece) (spelling y) (start_tag_spelling n ats sp ++ (spelling k ++ end_tag_spelling n sp2)) _ (content_steps fs y g.0)
    (steps_on_to (state_of fs y no_piece) (state_of (frame fs y n ats sp) nothing no_piece) (start_tag_spelling n ats sp) (spelling k ++ end_tag_spelling n sp2) _ (start_steps fs y n ats sp g.1 g.2 g.3 g.6)
    (steps_on_to (state_of (frame fs y n ats sp) nothing no_piece) (state_of (frame fs y n ats sp) k no_piece) (spelling k) (end_tag_spelling n sp2) _ (content_steps (frame fs y n ats sp) k g.4)
    (end_steps fs y k n ats sp sp2 g.5)))

pub frames_steps : (fs : Frames) → IsFrames fs → steps start (frames_spelling fs) ≡ Some (state_of fs nothing no_piece)
frames_steps bottom g = refl
frames_steps (frame fs x n ats sp) g =
    steps_on_to start (state_of fs nothing no_piece) (frames_spelling fs) (spelling x ++ start_tag_spelling n ats sp) _ (frames_steps fs g.0)
    (steps_on_to (state_of fs nothing no_piece) (state_of fs x no_piece) (spelling x) (start_tag_spelling n ats sp) _ (content_steps fs x g.1)
    (start_steps fs x n ats sp g.2 g.3 g.4 g.5))

piece_steps : (fs : Frames) (x : Content) (p : Piece) → IsPiece fs x p → steps (state_of fs x no_piece) (piece_spelling p) ≡ Some (state_of fs x p)
piece_steps fs x no_piece g = refl
piece_steps fs x less g = step_end (state_of fs x no_piece) _ 60 (m_less fs x)
piece_steps fs x (started n) g = start_name fs x n g.0 g.1
piece_steps fs x (tag n ats p) g = tag_steps fs x n ats (part_spelling p) _ g.0 g.1 g.2 (part_steps fs x n ats p g.3)
piece_steps fs x (slashed n ats sp) g = slash_steps fs x n ats sp g.0 g.1 g.3 g.2
piece_steps bottom x (ending m r) g = absurd g
piece_steps (frame fs y n ats sp) x (ending m r) g = end_name fs y x n ats sp m r g
piece_steps bottom x (ended m sp2 c) g = absurd g.0
piece_steps (frame fs y n ats sp) x (ended m sp2 c) g = subst (λ l. steps (state_of (frame fs y n ats sp) x no_piece) (piece_spelling (ended l sp2 c)) ≡ Some (state_of (frame fs y n ats sp) x (ended l sp2 c))) (sym g.0) (ended_steps fs y x n ats sp sp2 c g.1 g.2)
piece_steps fs x question g = question_steps fs x
piece_steps fs x (target n) g = target_steps fs x n g
piece_steps fs x (target_mark n) g = target_mark_steps fs x n g
piece_steps fs x (in_instruction n c d) g =
    ap (λ l. steps (state_of fs x no_piece) (60 ∷ (63 ∷ (n ++ (c ∷ l))))) (sym (append-nil (data_spelling d)))
    ∙ instruction_steps fs x n c d [] _ g.0 g.1 g.2 refl
piece_steps fs x (doc_wording m r) g = doc_wording_steps fs x g.0 m r g.1
piece_steps fs x (doc_gap b) g = doc_gap_steps fs x b g.0 g.1
piece_steps fs x (doc b a d) g =
    ap (λ l. steps (state_of fs x no_piece) (doc_start ++ (b ++ (a ∷ l)))) (sym (append-nil (declaration_spelling d)))
    ∙ doc_steps fs x b a d [] _ g.0 g.1 g.2 g.3 refl
piece_steps fs x (doc_literal b a d q l) g = doc_steps fs x b a d (q ∷ l) _ g.0 g.1 g.2 g.3 (in_literal fs x b a d q l g.4 g.5)
piece_steps fs x bang g = step_to (state_of fs x no_piece) (state_of fs x less) 60 (33 ∷ []) _ (m_less fs x) (step_end (state_of fs x less) _ 33 (m_bang fs x))
piece_steps fs x bang_dash g = bang_dash_steps fs x
piece_steps fs x (in_comment r) g = in_comment_steps fs x r g
piece_steps fs x (comment_dash r) g = dash_steps fs x r g
piece_steps fs x (comment_end r) g = dashes_steps fs x r g
piece_steps fs x (cdsect_word m r) g = word_steps fs x g.0 m r g.1
piece_steps fs x (in_cdsect d) g = in_cdsect_steps fs x g.0 d g.1
piece_steps fs x (amp r) g = amp_steps fs x g.0 r g.1

-- every front of a document is read
pub front_steps : (fs : Frames) (x : Content) (p : Piece) → IsFront fs x p → steps start (front_spelling fs x p) ≡ Some (state_of fs x p)
front_steps fs x p g =
    steps_on_to start (state_of fs x no_piece) (frames_spelling fs ++ spelling x) (piece_spelling p) _
    (steps_on_to start (state_of fs nothing no_piece) (frames_spelling fs) (spelling x) _ (frames_steps fs g.0) (content_steps fs x g.1))
    (piece_steps fs x p g.2)
