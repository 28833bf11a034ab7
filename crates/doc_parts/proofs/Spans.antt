-- Characters of a span and of an end tag's name are read as a whole.
use Rattle.std.proofs.Common.{ℕ, zero, suc, ◌≡◌, ◌+◌, ◌-◌, ◌<◌, ◌≤◌, Bool, true, false, not, ◌&&◌, ◌||◌, eqb, List, [], ◌∷◌, ◌++◌, length, take, drop, get_or, Some, Ok, refl, sym, ap, ◌∙◌, subst, append_assoc, append-nil, arith, length-append, length-take, length-drop, eq-eqb, ltb-true, inl, inr}
use Rattle.std.specs.Prelude.{nat_lt}
use Rattle.std.specs.Char.{len_utf8}
use Rattle.std.specs.List.{list_all}
use Rattle.std.specs.Str.{chars, IsUtf8, IsAscii, IsCharBoundary}
use Rattle.std.proofs.lemmas.Bool.{true≢false, false≢true, le-ltb, cases_lt, not-true, cond-false, cond-true, and_right, and_parts, and_from}
use Rattle.std.proofs.lemmas.Bool.Decides.{nat_tests}
use Rattle.std.proofs.lemmas.List.{take-append-drop, drop-drop, take_all, take-take, get_or-take}
use Rattle.std.proofs.lemmas.List.Folds.{list_all-append}
use Rattle.std.proofs.lemmas.Str.{chars-IsAscii, IsCharBoundary-before_ascii, encode_ascii, length-encode, len_utf8_bounds}
use lib.Utf8.{encode, encodes}
use Rattle.gcx_base.specs.Characters.{is_char, is_start_char, is_part_char}
use Rattle.gcx_base.specs.declared.limits.Limits.{Limits}
use Rattle.gcx_model.specs.Attributes.{is_text_char, is_value_char}
use Rattle.gcx_model.specs.Faults.{size}
use Rattle.gcx_model.specs.Fronts.{is_inside}
use Rattle.doc_chars.specs.Stream.{AreChars}
use Rattle.doc_chars.proofs.Streams.{are_text as text_of}
use Rattle.doc_laws.specs.Machine as laws
use Rattle.doc_laws.specs.Machine.{MachineMode, State, on_mode, step}
use Rattle.doc_laws.specs.Judging.{naming_by, begins_deep, is_deep, judged_by, judged, judged_steps, on_ok}
use Rattle.doc_machine.specs.declared.mode.Quote.TheVariants.{Single, Double}
use Rattle.doc_machine.specs.Machine.{quote_of}
use Rattle.doc_parts.specs.declared.span.Span.{Span}
use Rattle.doc_parts.specs.declared.span.Span.TheVariants as spans
use Rattle.doc_parts.specs.Spans.{is_name_span, stands, is_stop, IsStop, IsFrontOf, IsSpanFront, is_ascii_byte, IsSameFront, spread, HasRoom, Allows}
use Rattle.doc_parts.specs.Reading.{Moves}
use Rattle.doc_parts.proofs.Texts.{front_all, front_bytes, front_size, moves_text, ascii_boundary}

-- ---- a span

-- a step that passes no limit
pub quiet : (lim : Limits) (place : ℕ) (s t : State) (c : ℕ) → step s c ≡ Some t → length t.run ≤ lim.text → begins_deep lim s s.mode ≡ false → length (naming_by t.mode t) ≤ lim.name → judged lim place s c ≡ Ok t
quiet lim place s t c e r d n =
    ap (judged_by lim place s c) e
    ∙ cond-false (nat_lt lim.text (length t.run)) _ _ (le-ltb lim.text (length t.run) r)
    ∙ cond-false (is_deep lim s c) _ _ (and_right (is_start_char c) (begins_deep lim s s.mode) d)
    ∙ cond-false (nat_lt lim.name (length (naming_by t.mode t))) _ _ (le-ltb lim.name (length (naming_by t.mode t)) n)

-- what one character needs
pub record One (lim : Limits) (s t : State) (c : ℕ) : Type 0 where
  pub steps : step s c ≡ Some t
  pub run : length t.run ≤ lim.text
  pub deep : begins_deep lim s s.mode ≡ false
  pub name : length (naming_by t.mode t) ≤ lim.name

pub one_judged : (lim : Limits) (place : ℕ) (s t : State) (c : ℕ) → One lim s t c → judged lim place s c ≡ Ok t
one_judged lim place s t c o = quiet lim place s t c o.steps o.run o.deep o.name

-- at a mode that is known
pub at_mode : (P : State → Type 0) (s : State) (m : MachineMode) → s.mode ≡ m → P (record s { mode = m }) → P s
at_mode P s m e h = subst P (ap (λ k. record s { mode = k }) (sym e)) h

one_text : (lim : Limits) (s : State) (most c : ℕ) → len_utf8 c ≤ most → length s.run ≤ lim.text → is_inside s.names ≡ true → most ≤ lim.text - length s.run → is_text_char c ≡ true → One lim (record s { mode = laws.Between }) (record s { mode = laws.Between; run = s.run ++ encode c }) c
one_text lim s most c p run i room is = record {
  steps = cond-true (is_text_char c && is_inside s.names) _ _ (and_from (is_text_char c) _ is i);
  run = omega (arith, length-append s.run (encode c), length-encode c);
  deep = refl;
  name = omega arith;
}

one_value : (lim : Limits) (s : State) (q most c : ℕ) → len_utf8 c ≤ most → length s.run ≤ lim.text → most ≤ lim.text - length s.run → is_value_char q c ≡ true → One lim (record s { mode = laws.InValue q }) (record s { mode = laws.InValue q; run = s.run ++ encode c }) c
one_value lim s q most c p run room is = record {
  steps = cond-true (is_value_char q c) _ _ is;
  run = omega (arith, length-append s.run (encode c), length-encode c);
  deep = refl;
  name = omega arith;
}

one_name : (lim : Limits) (s : State) (most c : ℕ) → len_utf8 c ≤ most → length s.run ≤ lim.text → most ≤ lim.name - length s.name → is_part_char c ≡ true → One lim (record s { mode = laws.StartName }) (record s { mode = laws.StartName; name = s.name ++ encode c }) c
one_name lim s most c p run room is = record {
  steps = cond-true (is_part_char c) _ _ is;
  run = run;
  deep = refl;
  name = let some = (len_utf8_bounds c).0 in omega (arith, length-append s.name (encode c), length-encode c, some);
}

one_attribute : (lim : Limits) (s : State) (most c : ℕ) → len_utf8 c ≤ most → length s.run ≤ lim.text → most ≤ lim.name - length s.attr → is_part_char c ≡ true → One lim (record s { mode = laws.AttributeName }) (record s { mode = laws.AttributeName; attr = s.attr ++ encode c }) c
one_attribute lim s most c p run room is = record {
  steps = cond-true (is_part_char c) _ _ is;
  run = run;
  deep = refl;
  name = let some = (len_utf8_bounds c).0 in omega (arith, length-append s.attr (encode c), length-encode c, some);
}

one_comment : (lim : Limits) (s : State) (c : ℕ) → length s.run ≤ lim.text → is_char c && not (eqb c 45) ≡ true → One lim (record s { mode = laws.Comment }) (record s { mode = laws.Comment }) c
one_comment lim s c run h =
    let both = and_parts (is_char c) (not (eqb c 45)) h in
    record {
      steps = cond-false (eqb c 45) _ _ (not-true (eqb c 45) both.1) ∙ cond-true (is_char c) _ _ both.0;
      run = run;
      deep = refl;
      name = omega arith;
    }

one_instruction : (lim : Limits) (s : State) (c : ℕ) → length s.run ≤ lim.text → is_char c && not (eqb c 63) ≡ true → One lim (record s { mode = laws.InInstruction 0 }) (record s { mode = laws.InInstruction 0 }) c
one_instruction lim s c run h =
    let both = and_parts (is_char c) (not (eqb c 63)) h in
    record {
      steps = cond-false (eqb c 62 && false) _ _ (and_right (eqb c 62) false refl) ∙ cond-true (is_char c) _ _ both.0 ∙ ap (λ k. Some (record s { mode = laws.InInstruction k })) (cond-false (eqb c 63) 1 0 (not-true (eqb c 63) both.1));
      run = run;
      deep = refl;
      name = omega arith;
    }

one_cdsect : (lim : Limits) (s : State) (most c : ℕ) → len_utf8 c ≤ most → length s.run ≤ lim.text → most ≤ lim.text - length s.run → is_char c && not (eqb c 93) ≡ true → One lim (record s { mode = laws.InCDSect 0 }) (record s { mode = laws.InCDSect 0; run = s.run ++ encode c }) c
one_cdsect lim s most c p run room h =
    let both = and_parts (is_char c) (not (eqb c 93)) h in
    record {
      steps = cond-false (eqb c 93) _ _ (not-true (eqb c 93) both.1) ∙ cond-false (eqb c 62 && false) _ _ (and_right (eqb c 62) false refl) ∙ cond-true (is_char c) _ _ both.0;
      run = omega (arith, length-append s.run (encode c), length-encode c);
      deep = refl;
      name = omega arith;
    }

one_char : (lim : Limits) (s : State) (span : Span) (most c : ℕ) → len_utf8 c ≤ most → Allows lim most span s → stands span c ≡ true → One lim s (spread span s (encode c)) c
one_char lim s spans.Text most c p a h = at_mode (λ s. One lim s (spread spans.Text s (encode c)) c) s laws.Between a.room.0 (one_text lim s most c p a.run a.room.1 a.room.2 h)
one_char lim s (spans.Value q) most c p a h = at_mode (λ s. One lim s (spread (spans.Value q) s (encode c)) c) s (laws.InValue (quote_of q)) a.room.0 (one_value lim s (quote_of q) most c p a.run a.room.1 h)
one_char lim s spans.TagName most c p a h = at_mode (λ s. One lim s (spread spans.TagName s (encode c)) c) s laws.StartName a.room.0 (one_name lim s most c p a.run a.room.1 h)
one_char lim s spans.AttributeName most c p a h = at_mode (λ s. One lim s (spread spans.AttributeName s (encode c)) c) s laws.AttributeName a.room.0 (one_attribute lim s most c p a.run a.room.1 h)
one_char lim s spans.Comment most c p a h = at_mode (λ s. One lim s (spread spans.Comment s (encode c)) c) s laws.Comment a.room (one_comment lim s c a.run h)
one_char lim s spans.Instruction most c p a h = at_mode (λ s. One lim s (spread spans.Instruction s (encode c)) c) s (laws.InInstruction 0) a.room (one_instruction lim s c a.run h)
one_char lim s spans.CDSect most c p a h = at_mode (λ s. One lim s (spread spans.CDSect s (encode c)) c) s (laws.InCDSect 0) a.room.0 (one_cdsect lim s most c p a.run a.room.1 h)

spread_none : (span : Span) (s : State) → spread span s [] ≡ s
spread_none spans.Text s = ap (λ r. record s { run = r }) (append-nil s.run)
spread_none (spans.Value q) s = ap (λ r. record s { run = r }) (append-nil s.run)
spread_none spans.TagName s = ap (λ r. record s { name = r }) (append-nil s.name)
spread_none spans.AttributeName s = ap (λ r. record s { attr = r }) (append-nil s.attr)
spread_none spans.Comment s = refl
spread_none spans.Instruction s = refl
spread_none spans.CDSect s = ap (λ r. record s { run = r }) (append-nil s.run)

spread_more : (span : Span) (s : State) (xs ys : List ℕ) → spread span (spread span s xs) ys ≡ spread span s (xs ++ ys)
spread_more spans.Text s xs ys = ap (λ r. record s { run = r }) (append_assoc s.run xs ys)
spread_more (spans.Value q) s xs ys = ap (λ r. record s { run = r }) (append_assoc s.run xs ys)
spread_more spans.TagName s xs ys = ap (λ r. record s { name = r }) (append_assoc s.name xs ys)
spread_more spans.AttributeName s xs ys = ap (λ r. record s { attr = r }) (append_assoc s.attr xs ys)
spread_more spans.Comment s xs ys = refl
spread_more spans.Instruction s xs ys = refl
spread_more spans.CDSect s xs ys = ap (λ r. record s { run = r }) (append_assoc s.run xs ys)

room_next : (lim : Limits) (span : Span) (s : State) (most c : ℕ) → HasRoom lim most span s → HasRoom lim (most - len_utf8 c) span (spread span s (encode c))
room_next lim spans.Text s most c h = let room = h.2 in (h.0, h.1, omega (arith, length-append s.run (encode c), length-encode c))
room_next lim (spans.Value q) s most c h = let room = h.1 in (h.0, omega (arith, length-append s.run (encode c), length-encode c))
room_next lim spans.TagName s most c h = let room = h.1 in (h.0, omega (arith, length-append s.name (encode c), length-encode c))
room_next lim spans.AttributeName s most c h = let room = h.1 in (h.0, omega (arith, length-append s.attr (encode c), length-encode c))
room_next lim spans.Comment s most c h = h
room_next lim spans.Instruction s most c h = h
room_next lim spans.CDSect s most c h = let room = h.1 in (h.0, omega (arith, length-append s.run (encode c), length-encode c))

pub span_read : (lim : Limits) (span : Span) (s : State) (most : ℕ) (cs : List ℕ) → Allows lim most span s → list_all (stands span) cs ≡ true → size cs ≤ most → (place : ℕ) → judged_steps lim place s cs ≡ Ok (spread span s (encodes cs))
span_read lim span s most [] a h l place = ap Ok (sym (spread_none span s))
span_read lim span s most (c ∷ cs) a h l place =
    let both = and_parts (stands span c) (list_all (stands span) cs) h in
    let t : State = spread span s (encode c) in
    let one = one_char lim s span most c (omega arith) a both.0 in
    ap (λ r. on_ok r (λ u. judged_steps lim (place + len_utf8 c) u cs)) (one_judged lim place s t c one)
    ∙ span_read lim span t (most - len_utf8 c) cs (record { run = one.run; room = room_next lim span s most c a.room }) both.1 (omega arith) (place + len_utf8 c)
    ∙ ap Ok (spread_more span s (encode c) (encodes cs))

-- characters of a span at the front of a text
pub span_moves : (lim : Limits) (span : Span) (s t : State) (text : List ℕ) (n most : ℕ) → IsUtf8 text → Allows lim most span s → IsSpanFront n most span text → t ≡ spread span s (take n text) → Moves lim s text n t
span_moves lim span s t text n most u a f e =
    let few = f.few in
    let boundary = f.front.boundary in
    moves_text lim s t text n u boundary
    (λ place. span_read lim span s most (chars (take n text)) a f.front.inside (omega (arith, front_size text n u boundary)) place ∙ ap Ok (ap (spread span s) (front_bytes text n u boundary) ∙ sym e))

-- ---- where a span ends

stop_high : (span : Span) (c : ℕ) → 128 ≤ c → is_stop span c ≡ false
stop_high spans.Text c l = grind (arith, nat_tests)
stop_high (spans.Value Single) c l = grind (arith, nat_tests)
stop_high (spans.Value Double) c l = grind (arith, nat_tests)
stop_high spans.TagName c l = refl
stop_high spans.AttributeName c l = refl
stop_high spans.Comment c l = grind (arith, nat_tests)
stop_high spans.Instruction c l = grind (arith, nat_tests)
stop_high spans.CDSect c l = grind (arith, nat_tests)

by_text : (a x y : Bool) → a ≡ true → x || y ≡ false → a && (not x && not y) ≡ true
by_text true false false e f = refl
by_text a true y e f = absurd (true≢false f)
by_text a false true e f = absurd (true≢false f)
by_text false x y e f = absurd (false≢true e)

by_value : (a x y z : Bool) → a ≡ true → (x || y) || z ≡ false → (a && (not x && not y)) && not z ≡ true
by_value true false false false e f = refl
by_value a true y z e f = absurd (true≢false f)
by_value a false true z e f = absurd (true≢false f)
by_value a false false true e f = absurd (true≢false f)
by_value false x y z e f = absurd (false≢true e)

by_one : (a x : Bool) → a ≡ true → x ≡ false → a && not x ≡ true
by_one true false e f = refl
by_one a true e f = absurd (true≢false f)
by_one false x e f = absurd (false≢true e)

one_stands : (span : Span) (c : ℕ) → is_name_span span ≡ false → is_char c ≡ true → is_stop span c ≡ false → stands span c ≡ true
one_stands spans.Text c m h f = by_text (is_char c) (eqb c 60) (eqb c 38) h f
one_stands (spans.Value q) c m h f = by_value (is_char c) (eqb c 60) (eqb c 38) (eqb c (quote_of q)) h f
one_stands spans.Comment c m h f = by_one (is_char c) (eqb c 45) h f
one_stands spans.Instruction c m h f = by_one (is_char c) (eqb c 63) h f
one_stands spans.TagName c m h f = absurd (true≢false m)
one_stands spans.AttributeName c m h f = absurd (true≢false m)
one_stands spans.CDSect c m h f = by_one (is_char c) (eqb c 93) h f

each_stands : (span : Span) (cs : List ℕ) → is_name_span span ≡ false → list_all is_char cs ≡ true → list_all (λ b. not (is_stop span b)) (encodes cs) ≡ true → list_all (stands span) cs ≡ true
each_stands span [] m h f = refl
each_stands span (c ∷ cs) m h f =
    let both = and_parts (is_char c) (list_all is_char cs) h in
    let parts = and_parts (list_all (λ b. not (is_stop span b)) (encode c)) (list_all (λ b. not (is_stop span b)) (encodes cs)) (sym (list_all-append (λ b. not (is_stop span b)) (encode c) (encodes cs)) ∙ f) in
    let none : is_stop span c ≡ false =
    elim (cases_lt c 128) [
      | inl l ↦ not-true (is_stop span c) (and_parts (not (is_stop span c)) true (sym (ap (list_all (λ b. not (is_stop span b))) (encode_ascii c l)) ∙ parts.0)).0
      | inr l ↦ stop_high span c l
    ] in
    and_from (stands span c) (list_all (stands span) cs) (one_stands span c m both.0 none) (each_stands span cs m both.1 parts.1)

-- a test that no byte passes
none_pass : (p : ℕ → Bool) (xs : List ℕ) → ((k : ℕ) → k < length xs → p (get_or xs k 0) ≡ true → ⊥) → list_all (λ b. not (p b)) xs ≡ true
none_pass p [] h = refl
none_pass p (x ∷ xs) h = and_from (not (p x)) (list_all (λ b. not (p b)) xs) (by (p x) refl) (none_pass p xs (λ k l e. h (suc k) (omega arith) e))
  where
    by : (b : Bool) → p x ≡ b → not b ≡ true
    by true e = absurd (h 0 (omega arith) e)
    by false e = refl

small_stop : (span : Span) (c : ℕ) → is_stop span c ≡ true → c < 128
small_stop span c e = elim (cases_lt c 128) [ inl l ↦ l | inr l ↦ absurd (true≢false (sym e ∙ stop_high span c l)) ]

-- characters before the first byte at which the span may end
pub stop_front : (span : Span) (text : List ℕ) (most end n : ℕ) → is_name_span span ≡ false → AreChars text → end ≤ most → IsCharBoundary text end → IsStop n span (take end text) → IsSpanFront n most span text
stop_front span text most end n m h few b s =
    let within = s.within in
    let inside = b.0 in
    let least : n ≤ end = omega (arith, length-take end text) in
    let size : length (take end text) ≡ end = omega (arith, length-take end text) in
    let boundary : IsCharBoundary text n =
    elim (cases_lt n end) [
      | inl l ↦ IsCharBoundary-before_ascii text n (omega arith) (subst (λ x. x < 128) (get_or-take end text n 0 l) (small_stop span (get_or (take end text) n 0) (s.found (omega (arith, size)))))
      | inr l ↦ (let same : end ≡ n = omega arith in subst (IsCharBoundary text) same b)
    ] in
    let none : list_all (λ b. not (is_stop span b)) (take n text) ≡ true =
    none_pass (is_stop span) (take n text) (λ k l e.
    let low : k < n = omega (arith, length-take n text, l) in
    s.before k (omega arith) low (ap (is_stop span) (get_or-take end text k 0 (omega arith) ∙ sym (get_or-take n text k 0 low)) ∙ e)) in
    record {
      few = omega arith;
      front = record {
        boundary = boundary;
        inside = each_stands span (chars (take n text)) m (front_all text n h boundary) (ap (list_all (λ b. not (is_stop span b))) (front_bytes text n (text_of text h) boundary) ∙ none);
      };
    }

-- a place in a front is one in the text
pub inner_boundary : (text : List ℕ) (end n : ℕ) → IsCharBoundary text end → IsCharBoundary (take end text) n → IsCharBoundary text n
inner_boundary text end n b i =
    let within = i.0 in
    let least : n ≤ end = omega (arith, length-take end text) in
    elim (cases_lt n end) [
      | inl l ↦ (omega (arith, length-take end text), λ below high. subst (λ x. 192 ≤ x) (get_or-take end text n 0 l) (i.1 (omega (arith, length-take end text)) (subst (λ x. 128 ≤ x) (sym (get_or-take end text n 0 l)) high)))
      | inr l ↦ (let same : end ≡ n = omega arith in subst (IsCharBoundary text) same b)
    ]

-- characters of a name at the front
pub name_span_front : (span : Span) (text : List ℕ) (most end n : ℕ) → is_name_span span ≡ true → end ≤ most → IsCharBoundary text end → IsFrontOf is_part_char n (take end text) → IsSpanFront n most span text
name_span_front span text most end n m few b f = by span m
  where
    boundary : IsCharBoundary text n
    boundary = inner_boundary text end n b f.boundary

    short : n ≤ end
    short = let within = f.boundary.0 in omega (arith, length-take end text)

    inside : list_all is_part_char (chars (take n text)) ≡ true
    inside = ap (λ l. list_all is_part_char (chars l)) (sym (take-take n end text short)) ∙ f.inside

    by : (span : Span) → is_name_span span ≡ true → IsSpanFront n most span text
    by spans.TagName m = record { few = omega (arith, short); front = record { boundary = boundary; inside = inside } }
    by spans.AttributeName m = record { few = omega (arith, short); front = record { boundary = boundary; inside = inside } }
    by spans.Text m = absurd (false≢true m)
    by (spans.Value q) m = absurd (false≢true m)
    by spans.Comment m = absurd (false≢true m)
    by spans.Instruction m = absurd (false≢true m)
    by spans.CDSect m = absurd (false≢true m)

-- ---- the name of an end tag

ascii_byte_below : (b : ℕ) → nat_lt b 128 ≡ true → b < 128
ascii_byte_below b e = ltb-true b 128 e

pub ascii_all : (p : ℕ → Bool) → ((b : ℕ) → p b ≡ true → b < 128) → (bs : List ℕ) → list_all p bs ≡ true → IsAscii bs
ascii_all p h [] e i = omega arith
ascii_all p h (b ∷ bs) e zero = h b (and_parts (p b) (list_all p bs) e).0
ascii_all p h (b ∷ bs) e (suc i) = ascii_all p h bs (and_parts (p b) (list_all p bs) e).1 i

one_end : (lim : Limits) (s : State) (b : ℕ) (left : List ℕ) → length s.run ≤ lim.text → b < 128 → One lim (record s { mode = laws.EndName (b ∷ left) }) (record s { mode = laws.EndName left }) b
one_end lim s b left run l = record {
  steps = ap (λ c. laws.to_end_name s (laws.behind c (b ∷ left))) (encode_ascii b l) ∙ ap (laws.to_end_name s) (cond-true (eqb b b) _ _ (eq-eqb b b refl));
  run = run;
  deep = refl;
  name = omega arith;
}

end_read : (lim : Limits) (s : State) (bs left : List ℕ) → length s.run ≤ lim.text → list_all is_ascii_byte bs ≡ true → (place : ℕ) → judged_steps lim place (record s { mode = laws.EndName (bs ++ left) }) bs ≡ Ok (record s { mode = laws.EndName left })
end_read lim s [] left run h place = refl
end_read lim s (b ∷ bs) left run h place =
    let both = and_parts (is_ascii_byte b) (list_all is_ascii_byte bs) h in
    ap (λ r. on_ok r (λ u. judged_steps lim (place + len_utf8 b) u bs)) (one_judged lim place (record s { mode = laws.EndName (b ∷ (bs ++ left)) }) (record s { mode = laws.EndName (bs ++ left) }) b (one_end lim s b (bs ++ left) run (ascii_byte_below b both.0)))
    ∙ end_read lim s bs left run both.1 (place + len_utf8 b)

pub tail_is : (xs : List ℕ) (k : ℕ) → k ≤ length xs → take (length xs - k) (drop k xs) ≡ drop k xs
tail_is xs k h = take_all (length xs - k) (drop k xs) (omega (arith, length-drop k xs))

-- so many bytes of the innermost element's name at the front of a text
pub end_moves : (lim : Limits) (s t : State) (name text : List ℕ) (i n : ℕ) → IsUtf8 text → length s.run ≤ lim.text → s.mode ≡ laws.EndName (drop i name) → IsSameFront n (drop i name) text → t ≡ record s { mode = laws.EndName (drop (i + n) name) } → Moves lim s text n t
end_moves lim s t name text i n u run m f e =
    let left : drop n (drop i name) ≡ drop (i + n) name = drop-drop n i name in
    let parts : drop i name ≡ take n text ++ drop (i + n) name = sym (take-append-drop n (drop i name)) ∙ ap (λ l. l ++ drop n (drop i name)) f.same ∙ ap (λ l. take n text ++ l) left in
    let ascii = ascii_all is_ascii_byte ascii_byte_below (take n text) f.ascii in
    moves_text lim s t text n u (ascii_boundary text n u f.within ascii)
    (λ place. ap (judged_steps lim place s) (chars-IsAscii (take n text) ascii) ∙ ap (λ k. judged_steps lim place (record s { mode = k }) (take n text)) (m ∙ ap laws.EndName parts) ∙ end_read lim s (take n text) (drop (i + n) name) run f.ascii place ∙ ap Ok (sym e))
