-- Parts that are read as a whole.
use Rattle.std.proofs.Common.{ℕ, ◌≡◌, ◌+◌, ◌<◌, ◌≤◌, Bool, true, false, ◌&&◌, eqb, List, [], ◌∷◌, ◌++◌, length, take, drop, get_or, Some, Ok, refl, sym, ap, ◌∙◌, subst, append_assoc, append-nil, arith, length-append, length-take, inl, inr}
use Rattle.std.specs.Prelude.{nat_lt, ◌⊎◌}
use Rattle.std.specs.Char.{len_utf8}
use Rattle.std.specs.List.{list_all}
use Rattle.std.specs.Str.{chars, IsUtf8, IsCharBoundary}
use Rattle.std.proofs.lemmas.Bool.{false≢true, lt-leb, le-ltb, and_parts, and_from, cond-true, cond-false}
use Rattle.std.proofs.lemmas.List.{drop-drop, take-append-drop, take_more, get_or-append-add}
use Rattle.std.proofs.lemmas.Str.{chars-nil, chars-append, chars_past_char, IsUtf8-append, IsUtf8-nil, IsUtf8-take, IsUtf8-past_char, IsCharBoundary-before_ascii, IsCharBoundary-after_ascii, IsCharBoundary-from_take, IsCharBoundary-from_rest, encode_ascii, encodes-chars, length-encode, len_utf8_bounds}
use Rattle.std.proofs.Math.Seq.{take-append_seam}
use lib.Utf8.{scalar, encode, encodes, low_scalar}
use Rattle.gcx_base.specs.Characters.{is_char, is_white, is_start_char, is_part_char}
use Rattle.gcx_base.specs.Name.{is_name}
use Rattle.gcx_base.specs.declared.limits.Limits.{Limits}
use Rattle.gcx_model.specs.Attributes.{is_quote, is_fresh}
use Rattle.gcx_model.specs.Faults.{size}
use Rattle.gcx_model.specs.Fronts.{is_inside}
use Rattle.gcx_model.specs.Grammar.{may_open}
use Rattle.doc_chars.specs.Stream.{AreChars}
use Rattle.doc_chars.proofs.Streams.{are_text as utf8_of}
use Rattle.doc_laws.specs.Machine as laws
use Rattle.doc_laws.specs.Machine.{MachineMode, ReferenceRead, Letters, State, Between, Less, StartName, StartSpace, AttributeName, Equals, InValue, InValueReference, InReference, ValueEnd, Slash, EndName, innermost, begun, opened, emptied, valued, behind, refer, on_referred, on_ended, to_end_name, step}
use Rattle.doc_laws.specs.Judging.{naming_by, begins_deep, is_deep, judged_by, judged, judged_steps, on_ok}
use Rattle.doc_laws.proofs.Pieces.{size_is}
use Rattle.doc_laws.proofs.Moves.{behind_self}
use Rattle.doc_machine.specs.declared.mode.Quote.{Quote}
use Rattle.doc_machine.specs.declared.mode.Quote.TheVariants.{Single, Double}
use Rattle.doc_machine.specs.Machine.{quote_of}
use Rattle.doc_machine.specs.Steps.{ClosedBy}
use Rattle.doc_parts.specs.declared.reference.Entity.{Entity}
use Rattle.doc_parts.specs.declared.reference.Entity.TheVariants as entities
use Rattle.doc_parts.specs.declared.span.Span.TheVariants as spans
use Rattle.doc_parts.specs.Reading.{IsFirstChar, Moves}
use Rattle.doc_parts.specs.Spans.{IsNameFront}
use Rattle.doc_parts.specs.Wholes.{named, in_value, IsBetween, MayRefer, reference_of, character_of}
use Rattle.doc_machine.proofs.Behind.{inside_name}
use Rattle.doc_parts.proofs.Reading.{size_append, judged_on}
use Rattle.doc_parts.proofs.Spans.{quiet, at_mode, span_read}
use Rattle.doc_parts.proofs.Texts.{all_chars, moves_text}

-- ---- moves one after another

pub moves_on : (lim : Limits) (s t u : State) (text : List ℕ) (n k : ℕ) → Moves lim s text n t → Moves lim t (drop n text) k u → Moves lim s text (n + k) u
moves_on lim s t u text n k a b =
    let within = a.boundary.0 in
    record {
      front = a.front ++ b.front;
      parts = a.parts ∙ ap (λ l. a.front ++ l) (b.parts ∙ ap (λ l. b.front ++ chars l) (drop-drop k n text)) ∙ sym (append_assoc a.front b.front (chars (drop (n + k) text)));
      size_is = omega (arith, size_append a.front b.front, a.size_is, b.size_is);
      boundary = IsCharBoundary-from_rest text n k within b.boundary;
      read = λ place. judged_on lim place s t u a.front b.front (a.read place) (b.read (place + size a.front));
      sound = λ h. b.sound (a.sound h);
    }

pub first_all : (c : ℕ) (rest text : List ℕ) → AreChars text → IsFirstChar c rest text → AreChars rest
first_all c rest text h f = record {
  cs = chars rest;
  chars = (and_parts (is_char c) (list_all is_char (chars rest)) (ap (list_all is_char) (sym f.first) ∙ all_chars text h)).1;
  bytes = encodes-chars rest f.utf8;
}

-- ---- ASCII in front

pub ascii_cons : (a : ℕ) (xs : List ℕ) → a < 128 → IsUtf8 xs → IsUtf8 (a ∷ xs) × (chars (a ∷ xs) ≡ a ∷ chars xs)
ascii_cons a xs l u =
    let one = encode_ascii a l in
    let utf8 : IsUtf8 (a ∷ xs) = (a ∷ u.0, (and_from (scalar a) _ (low_scalar a (omega arith)) u.1.0, ap (λ h. h ++ encodes u.0) one ∙ ap (λ t. a ∷ t) u.1.1)) in
    (utf8, chars_past_char (a ∷ xs) xs a utf8 (ap (λ h. h ++ xs) (sym one)))

pub ascii_one : (a : ℕ) → a < 128 → IsUtf8 (a ∷ []) × (chars (a ∷ []) ≡ a ∷ [])
ascii_one a l = let c = ascii_cons a [] l IsUtf8-nil in (c.0, c.1 ∙ ap (λ t. a ∷ t) chars-nil)

pub first_boundary : (text after : List ℕ) (b : ℕ) → b < 128 → IsUtf8 text → text ≡ b ∷ after → IsCharBoundary text 1
first_boundary text after b l u e = IsCharBoundary-after_ascii text 0 u (omega (arith, ap length e)) (subst (λ x. x < 128) (sym (ap (λ t. get_or t 0 0) e)) l)

-- a front whose characters are these
pub moves_split : (lim : Limits) (s t : State) (text front after cs : List ℕ) (n : ℕ) → IsUtf8 text → text ≡ front ++ after → IsUtf8 front → chars front ≡ cs → n ≡ length front → ((place : ℕ) → judged_steps lim place s cs ≡ Ok t) → Moves lim s text n t
moves_split lim s t text front after cs n u e f c l r =
    let taken : take n text ≡ front = ap (take n) e ∙ ap (λ k. take k (front ++ after)) l ∙ take-append_seam front after in
    let within : n ≤ length text = omega (arith, ap length e, length-append front after, l) in
    moves_text lim s t text n u (IsCharBoundary-from_take text n u within (subst IsUtf8 (sym taken) f))
    (λ place. ap (judged_steps lim place s) (ap chars taken ∙ c) ∙ r place)

-- ---- steps

pub step_on : (lim : Limits) (place : ℕ) (s t u : State) (c : ℕ) (cs : List ℕ) → judged lim place s c ≡ Ok t → judged_steps lim (place + len_utf8 c) t cs ≡ Ok u → judged_steps lim place s (c ∷ cs) ≡ Ok u
step_on lim place s t u c cs e f = ap (λ r. on_ok r (λ v. judged_steps lim (place + len_utf8 c) v cs)) e ∙ f

step_last : (lim : Limits) (place : ℕ) (s t : State) (c : ℕ) → judged lim place s c ≡ Ok t → judged_steps lim place s (c ∷ []) ≡ Ok t
step_last lim place s t c e = step_on lim place s t t c [] e refl

-- ---- start tags

record Begins (lim : Limits) (s : State) (name : List ℕ) : Type 0 where
  pub mode : s.mode ≡ Between
  pub inside : is_inside s.names ≡ true
  pub run : length s.run ≤ lim.text
  pub depth : length s.names < lim.depth
  pub name_is : is_name name ≡ true
  pub short : size name ≤ lim.name

opens : (b : Bool) → b ≡ true → (c r : Bool) → c ≡ true → c && may_open b r ≡ true
opens true e true r f = refl
opens b e false r f = absurd (false≢true f)
opens false e true r f = absurd (false≢true e)

less_step : (lim : Limits) (place : ℕ) (s : State) → length s.run ≤ lim.text → judged lim place (record s { mode = Between }) 60 ≡ Ok (record s { mode = Less })
less_step lim place s run = quiet lim place (record s { mode = Between }) (record s { mode = Less }) 60 refl run refl (omega arith)

name_step : (lim : Limits) (place : ℕ) (s : State) (c : ℕ) → is_inside s.names ≡ true → length s.run ≤ lim.text → length s.names < lim.depth → is_start_char c ≡ true → len_utf8 c ≤ lim.name → judged lim place (record s { mode = Less }) c ≡ Ok (record s { mode = StartName; name = encode c })
name_step lim place s c i run d is l =
    quiet lim place (record s { mode = Less }) (record s { mode = StartName; name = encode c }) c
    (cond-true (is_start_char c && may_open (is_inside s.names) s.rooted) _ _ (opens (is_inside s.names) i (is_start_char c) s.rooted is))
    run (lt-leb lim.depth (length s.names) d) (omega (arith, length-encode c))

begin_at : (lim : Limits) (s : State) (name : List ℕ) → is_inside s.names ≡ true → length s.run ≤ lim.text → length s.names < lim.depth → is_name name ≡ true → size name ≤ lim.name → (place : ℕ) → judged_steps lim place (record s { mode = Between }) (60 ∷ name) ≡ Ok (named s (encodes name))
begin_at lim s [] i run d n l place = absurd (false≢true n)
begin_at lim s (c ∷ cs) i run d n l place =
    let both = and_parts (is_start_char c) (list_all is_part_char cs) n in
    let t : State = record s { mode = StartName; name = encode c } in
    let here = place + len_utf8 60 in
    step_on lim place (record s { mode = Between }) (record s { mode = Less }) (named s (encodes (c ∷ cs))) 60 (c ∷ cs) (less_step lim place s run)
    (step_on lim here (record s { mode = Less }) t (named s (encodes (c ∷ cs))) c cs (name_step lim here s c i run d both.0 (omega arith))
    (span_read lim spans.TagName t (size cs) cs (record { run = run; room = (refl, omega (arith, length-encode c)) }) both.1 (omega arith) (here + len_utf8 c)))

begin_read : (lim : Limits) (s : State) (name : List ℕ) → Begins lim s name → (place : ℕ) → judged_steps lim place s (60 ∷ name) ≡ Ok (named s (encodes name))
begin_read lim s name b place =
    at_mode (λ s. judged_steps lim place s (60 ∷ name) ≡ Ok (named s (encodes name))) s Between b.mode (begin_at lim s name b.inside b.run b.depth b.name_is b.short place)

end_step : (lim : Limits) (place : ℕ) (s : State) (name : List ℕ) → judged lim place (named s name) 62 ≡ Ok (opened (begun (named s name)))
end_step lim place s name = quiet lim place (named s name) (opened (begun (named s name))) 62 refl (omega arith) refl (omega arith)

space_step : (lim : Limits) (place : ℕ) (s : State) (name : List ℕ) → judged lim place (named s name) 32 ≡ Ok (record (begun (named s name)) { mode = StartSpace })
space_step lim place s name = quiet lim place (named s name) (record (begun (named s name)) { mode = StartSpace }) 32 refl (omega arith) refl (omega arith)

slash_step : (lim : Limits) (place : ℕ) (s : State) (name : List ℕ) → judged lim place (named s name) 47 ≡ Ok (record (begun (named s name)) { mode = Slash })
slash_step lim place s name = quiet lim place (named s name) (record (begun (named s name)) { mode = Slash }) 47 refl (omega arith) refl (omega arith)

empty_step : (lim : Limits) (place : ℕ) (s : State) (name : List ℕ) → judged lim place (record (begun (named s name)) { mode = Slash }) 62 ≡ Ok (emptied (begun (named s name)))
empty_step lim place s name = quiet lim place (record (begun (named s name)) { mode = Slash }) (emptied (begun (named s name))) 62 refl (omega arith) refl (omega arith)

-- what stands behind '<' in a text: a name, and what comes behind it
pub record StartFront (text : List ℕ) (n : ℕ) (name tail after : List ℕ) : Type 0 where
  pub parts : text ≡ 60 ∷ (name ++ (tail ++ after))
  pub size_is : length name ≡ n
  pub utf8 : IsUtf8 name
  pub name_is : is_name (chars name) ≡ true

pub start_front : (text behind tail after : List ℕ) (n : ℕ) → text ≡ 60 ∷ behind → IsUtf8 behind → 0 < n → IsNameFront n behind → drop n behind ≡ tail ++ after → StartFront text n (take n behind) tail after
start_front text behind tail after n e u some f d =
    let within = f.boundary.0 in
    record {
      parts = e ∙ ap (λ l. 60 ∷ l) (sym (take-append-drop n behind) ∙ ap (λ l. take n behind ++ l) d);
      size_is = omega (arith, length-take n behind);
      utf8 = IsUtf8-take behind n u f.boundary;
      name_is = f.name some;
    }

-- the front of a start tag, up to some ASCII behind its name
start_moves : (lim : Limits) (s t : State) (text : List ℕ) (n k : ℕ) (name tail after : List ℕ) → IsBetween lim s text → StartFront text n name tail after → n ≤ lim.name → length s.names < lim.depth → IsUtf8 tail → chars tail ≡ tail → k ≡ (n + 1) + length tail
    → ((place : ℕ) → judged_steps lim place (named s name) tail ≡ Ok t) → Moves lim s text k t
start_moves lim s t text n k name tail after b f l d u c e r =
    let bytes : encodes (chars name) ≡ name = encodes-chars name f.utf8 in
    let joined = IsUtf8-append name tail f.utf8 u in
    let cons = ascii_cons 60 (name ++ tail) (omega arith) joined in
    let begins : Begins lim s (chars name) = record { mode = b.mode; inside = b.inside; run = b.run; depth = d; name_is = f.name_is; short = omega (arith, name_size name f.utf8, f.size_is) } in
    moves_split lim s t text (60 ∷ (name ++ tail)) after (60 ∷ (chars name ++ tail)) k (utf8_of text b.chars)
    (f.parts ∙ ap (λ l. 60 ∷ l) (sym (append_assoc name tail after)))
    cons.0
    (cons.1 ∙ ap (λ l. 60 ∷ l) (chars-append name tail f.utf8 ∙ ap (λ l. chars name ++ l) c))
    (omega (arith, e, f.size_is, length-append name tail))
    (λ place. judged_on lim place s (named s name) t (60 ∷ chars name) tail (begin_read lim s (chars name) begins place ∙ ap (λ m. Ok (named s m)) bytes) (r (place + size (60 ∷ chars name))))
  where
    name_size : (name : List ℕ) → IsUtf8 name → size (chars name) ≡ length name
    name_size name u = size_is (chars name) ∙ ap length (encodes-chars name u)

pub open_moves : (lim : Limits) (s t : State) (text : List ℕ) (n : ℕ) (name after : List ℕ) → IsBetween lim s text → StartFront text n name (62 ∷ []) after → n ≤ lim.name → length s.names < lim.depth → t ≡ opened (begun (named s name)) → Moves lim s text (n + 2) t
open_moves lim s t text n name after b f l d e =
    let one = ascii_one 62 (omega arith) in
    start_moves lim s t text n (n + 2) name (62 ∷ []) after b f l d one.0 one.1 (omega arith)
    (λ place. step_last lim place (named s name) t 62 (end_step lim place s name ∙ ap Ok (sym e)))

pub space_moves : (lim : Limits) (s t : State) (text : List ℕ) (n : ℕ) (name after : List ℕ) → IsBetween lim s text → StartFront text n name (32 ∷ []) after → n ≤ lim.name → length s.names < lim.depth → t ≡ record (begun (named s name)) { mode = StartSpace } → Moves lim s text (n + 2) t
space_moves lim s t text n name after b f l d e =
    let one = ascii_one 32 (omega arith) in
    start_moves lim s t text n (n + 2) name (32 ∷ []) after b f l d one.0 one.1 (omega arith)
    (λ place. step_last lim place (named s name) t 32 (space_step lim place s name ∙ ap Ok (sym e)))

pub empty_moves : (lim : Limits) (s t : State) (text : List ℕ) (n : ℕ) (name after : List ℕ) → IsBetween lim s text → StartFront text n name (47 ∷ (62 ∷ [])) after → n ≤ lim.name → length s.names < lim.depth → t ≡ emptied (begun (named s name)) → Moves lim s text (n + 3) t
empty_moves lim s t text n name after b f l d e =
    let one = ascii_one 62 (omega arith) in
    let two = ascii_cons 47 (62 ∷ []) (omega arith) one.0 in
    start_moves lim s t text n (n + 3) name (47 ∷ (62 ∷ [])) after b f l d two.0 (two.1 ∙ ap (λ l. 47 ∷ l) one.1) (omega arith)
    (λ place. step_on lim place (named s name) (record (begun (named s name)) { mode = Slash }) t 47 (62 ∷ []) (slash_step lim place s name)
    (step_last lim (place + len_utf8 47) (record (begun (named s name)) { mode = Slash }) t 62 (empty_step lim (place + len_utf8 47) s name ∙ ap Ok (sym e))))

-- ---- end tags

close_step : (lim : Limits) (place : ℕ) (s : State) (c : ℕ) (left : List ℕ) → length s.run ≤ lim.text → judged lim place (record s { mode = EndName (encode c ++ left) }) c ≡ Ok (record s { mode = EndName left })
close_step lim place s c left run =
    let t : State = record s { mode = EndName (encode c ++ left) } in
    let some = (len_utf8_bounds c).0 in
    quiet lim place t (record s { mode = EndName left }) c
    (inside_name t (encode c ++ left) c (omega (arith, length-append (encode c) left, length-encode c, some)) ∙ ap (to_end_name t) (behind_self (encode c) left))
    run refl (omega arith)

close_read : (lim : Limits) (s : State) (cs left : List ℕ) → length s.run ≤ lim.text → (place : ℕ) → judged_steps lim place (record s { mode = EndName (encodes cs ++ left) }) cs ≡ Ok (record s { mode = EndName left })
close_read lim s [] left run place = refl
close_read lim s (c ∷ cs) left run place =
    let parts : (encode c ++ encodes cs) ++ left ≡ encode c ++ (encodes cs ++ left) = append_assoc (encode c) (encodes cs) left in
    ap (λ l. judged_steps lim place (record s { mode = EndName l }) (c ∷ cs)) parts
    ∙ step_on lim place (record s { mode = EndName (encode c ++ (encodes cs ++ left)) }) (record s { mode = EndName (encodes cs ++ left) }) (record s { mode = EndName left }) c cs
    (close_step lim place s c (encodes cs ++ left) run)
    (close_read lim s cs left run (place + len_utf8 c))

-- a step with a character that begins no name
calm : (lim : Limits) (place : ℕ) (s t : State) (c : ℕ) → step s c ≡ Some t → length t.run ≤ lim.text → is_start_char c ≡ false → length (naming_by t.mode t) ≤ lim.name → judged lim place s c ≡ Ok t
calm lim place s t c e r d n =
    ap (judged_by lim place s c) e
    ∙ cond-false (nat_lt lim.text (length t.run)) _ _ (le-ltb lim.text (length t.run) r)
    ∙ cond-false (is_deep lim s c) _ _ (ap (λ b. b && begins_deep lim s s.mode) d)
    ∙ cond-false (nat_lt lim.name (length (naming_by t.mode t))) _ _ (le-ltb lim.name (length (naming_by t.mode t)) n)

mark_step : (lim : Limits) (place : ℕ) (s : State) → is_inside s.names ≡ true → length s.run ≤ lim.text → judged lim place (record s { mode = Less }) 47 ≡ Ok (record s { mode = EndName (innermost s.names) })
mark_step lim place s i run =
    calm lim place (record s { mode = Less }) (record s { mode = EndName (innermost s.names) }) 47
    (cond-true (eqb 47 47 && is_inside s.names) _ _ i)
    run refl (omega arith)

last_step : (lim : Limits) (place : ℕ) (s t : State) (ns : List (List ℕ)) → s.names ≡ ns → is_inside ns ≡ true → ClosedBy ns s t → judged lim place (record s { mode = EndName [] }) 62 ≡ Ok t
last_step lim place s t [] e i c = absurd (false≢true i)
last_step lim place s t (n ∷ rest) e i c =
    calm lim place (record s { mode = EndName [] }) t 62
    (ap (on_ended (record s { mode = EndName [] }) 62) e ∙ ap Some (sym c))
    (subst (λ (t : State). length t.run ≤ lim.text) (sym c) (omega arith))
    refl
    (subst (λ (t : State). length (naming_by t.mode t) ≤ lim.name) (sym c) (omega arith))

plus_none : (k : ℕ) → k ≡ k + 0
plus_none k = omega arith

-- the name in an end tag is UTF-8
name_in_end : (text name after : List ℕ) → IsUtf8 text → text ≡ 60 ∷ (47 ∷ (name ++ (62 ∷ after))) → IsUtf8 name
name_in_end text name after u e =
    let head : List ℕ = 60 ∷ (47 ∷ name) in
    let below : length head < length text = omega (arith, ap length e, length-append name (62 ∷ after)) in
    let next : get_or text (length head) 0 ≡ 62 =
    ap (λ l. get_or l (length head) 0) e
    ∙ ap (λ k. get_or (head ++ (62 ∷ after)) k 0) (plus_none (length head))
    ∙ get_or-append-add head (62 ∷ after) 0 0 in
    let boundary = IsCharBoundary-before_ascii text (length head) below (subst (λ x. x < 128) (sym next) (omega arith)) in
    let taken : take (length head) text ≡ head = ap (take (length head)) e ∙ take-append_seam head (62 ∷ after) in
    let whole : IsUtf8 head = subst IsUtf8 taken (IsUtf8-take text (length head) u boundary) in
    IsUtf8-past_char (47 ∷ name) name 47
    (IsUtf8-past_char head (47 ∷ name) 60 whole (ap (λ h. h ++ (47 ∷ name)) (sym (encode_ascii 60 (omega arith)))))
    (ap (λ h. h ++ name) (sym (encode_ascii 47 (omega arith))))

end_tag_read : (lim : Limits) (s t : State) (name : List ℕ) → IsUtf8 name → innermost s.names ≡ name → is_inside s.names ≡ true → length s.run ≤ lim.text → ClosedBy s.names s t → (place : ℕ)
    → judged_steps lim place (record s { mode = Between }) (60 ∷ (47 ∷ (chars name ++ (62 ∷ [])))) ≡ Ok t
end_tag_read lim s t name u is i run c place =
    let second = place + len_utf8 60 in
    let third = second + len_utf8 47 in
    let last = third + size (chars name) in
    step_on lim place (record s { mode = Between }) (record s { mode = Less }) t 60 (47 ∷ (chars name ++ (62 ∷ []))) (less_step lim place s run)
    (step_on lim second (record s { mode = Less }) (record s { mode = EndName name }) t 47 (chars name ++ (62 ∷ [])) (mark_step lim second s i run ∙ ap (λ l. Ok (record s { mode = EndName l })) is)
    (judged_on lim third (record s { mode = EndName name }) (record s { mode = EndName [] }) t (chars name) (62 ∷ [])
    (ap (λ l. judged_steps lim third (record s { mode = EndName l }) (chars name)) (sym (append-nil (encodes (chars name)) ∙ encodes-chars name u)) ∙ close_read lim s (chars name) [] run third)
    (step_last lim last (record s { mode = EndName [] }) t 62 (last_step lim last s t s.names refl i c))))

pub closes_is : (bytes name : List ℕ) (n : ℕ) → length name ≡ n → n < length bytes → get_or bytes n 0 ≡ 62 → take n bytes ≡ name → bytes ≡ name ++ (62 ∷ drop (n + 1) bytes)
closes_is bytes name n e l byte same =
    sym (take-append-drop (n + 1) bytes)
    ∙ ap (λ l. l ++ drop (n + 1) bytes) (take_more bytes n 0 l)
    ∙ append_assoc (take n bytes) (get_or bytes n 0 ∷ []) (drop (n + 1) bytes)
    ∙ (λ i. same i ++ (byte i ∷ drop (n + 1) bytes))

-- an end tag without white space
pub end_tag_moves : (lim : Limits) (s t : State) (text name after : List ℕ) (n : ℕ) → IsBetween lim s text → innermost s.names ≡ name → text ≡ 60 ∷ (47 ∷ (name ++ (62 ∷ after))) → n ≡ length name + 3 → ClosedBy s.names s t → Moves lim s text n t
end_tag_moves lim s t text name after n b is e l c =
    let utf8 = utf8_of text b.chars in
    let u = name_in_end text name after utf8 e in
    let one = ascii_one 62 (omega arith) in
    let two = ascii_cons 47 (name ++ (62 ∷ [])) (omega arith) (IsUtf8-append name (62 ∷ []) u one.0) in
    let three = ascii_cons 60 (47 ∷ (name ++ (62 ∷ []))) (omega arith) two.0 in
    moves_split lim s t text (60 ∷ (47 ∷ (name ++ (62 ∷ [])))) after (60 ∷ (47 ∷ (chars name ++ (62 ∷ [])))) n utf8
    (e ∙ ap (λ l. 60 ∷ (47 ∷ l)) (sym (append_assoc name (62 ∷ []) after)))
    three.0
    (three.1 ∙ ap (λ l. 60 ∷ l) (two.1 ∙ ap (λ l. 47 ∷ l) (chars-append name (62 ∷ []) u ∙ ap (λ l. chars name ++ l) one.1)))
    (omega (arith, l, length-append name (62 ∷ [])))
    (λ place. ap (λ m. judged_steps lim place (record s { mode = m }) (60 ∷ (47 ∷ (chars name ++ (62 ∷ []))))) b.mode ∙ end_tag_read lim s t name u is b.inside b.run c place)

-- ---- attributes

quote_is : (q : Quote) → (is_quote (quote_of q) ≡ true) × (is_white (quote_of q) ≡ false) × (quote_of q < 128) × (is_start_char (quote_of q) ≡ false)
quote_is Single = (refl, refl, omega arith, refl)
quote_is Double = (refl, refl, omega arith, refl)

attribute_at : (lim : Limits) (s : State) (name : List ℕ) (q : Quote) → s.run ≡ [] → length s.names + 1 < lim.depth → is_name name ≡ true → size name ≤ lim.name → is_fresh (encodes name) s.attrs ≡ true → (place : ℕ)
    → judged_steps lim place (record s { mode = StartSpace }) (name ++ (61 ∷ (quote_of q ∷ []))) ≡ Ok (in_value s (encodes name) (quote_of q))
attribute_at lim s [] q run d n l f place = absurd (false≢true n)
attribute_at lim s (c ∷ cs) q run d n l f place =
    let both = and_parts (is_start_char c) (list_all is_part_char cs) n in
    let none : length s.run ≤ lim.text = omega (arith, ap length run) in
    let first : State = record s { mode = StartSpace } in
    let t : State = record s { mode = AttributeName; attr = encode c } in
    let m = encodes (c ∷ cs) in
    let u : State = record s { mode = AttributeName; attr = m } in
    let v : State = record s { mode = Equals; attr = m } in
    let w = in_value s m (quote_of q) in
    let quote = quote_is q in
    let here = place + size (c ∷ cs) in
    judged_on lim place first u w (c ∷ cs) (61 ∷ (quote_of q ∷ []))
    (step_on lim place first t u c cs
    (quiet lim place first t c (cond-true (is_start_char c) _ _ both.0) none (lt-leb lim.depth (length s.names + 1) d) (omega (arith, length-encode c)))
    (span_read lim spans.AttributeName t (size cs) cs (record { run = none; room = (refl, omega (arith, length-encode c)) }) both.1 (omega arith) (place + len_utf8 c)))
    (step_on lim here u v w 61 (quote_of q ∷ [])
    (calm lim here u v 61 (cond-true (is_fresh m s.attrs) _ _ f) none refl (omega arith))
    (step_last lim (here + len_utf8 61) v w (quote_of q)
    (calm lim (here + len_utf8 61) v w (quote_of q) (cond-false (is_white (quote_of q)) _ _ quote.1 ∙ cond-true (is_quote (quote_of q)) _ _ quote.0) none quote.3 (omega arith))))

pub name_length : (text : List ℕ) (n : ℕ) → IsCharBoundary text n → length (take n text) ≡ n
name_length text n b = let within = b.0 in omega (arith, length-take n text)

-- the front of an attribute, up to the quote
pub attribute_moves : (lim : Limits) (s t : State) (text name after : List ℕ) (n : ℕ) (q : Quote) → AreChars text → s.mode ≡ StartSpace → s.run ≡ [] → text ≡ name ++ (61 ∷ (quote_of q ∷ after)) → length name ≡ n → IsUtf8 name → is_name (chars name) ≡ true
    → n ≤ lim.name → length s.names + 1 < lim.depth → is_fresh name s.attrs ≡ true → t ≡ in_value s name (quote_of q) → Moves lim s text (n + 2) t
attribute_moves lim s t text name after n q h m run e len u is l d f same =
    let quote = quote_is q in
    let tail : List ℕ = 61 ∷ (quote_of q ∷ []) in
    let bytes : encodes (chars name) ≡ name = encodes-chars name u in
    let one = ascii_one (quote_of q) quote.2 in
    let two = ascii_cons 61 (quote_of q ∷ []) (omega arith) one.0 in
    let short : size (chars name) ≤ lim.name = omega (arith, size_is (chars name) ∙ ap length bytes, len) in
    moves_split lim s t text (name ++ tail) after (chars name ++ tail) (n + 2) (utf8_of text h)
    (e ∙ sym (append_assoc name tail after))
    (IsUtf8-append name tail u two.0)
    (chars-append name tail u ∙ ap (λ l. chars name ++ l) (two.1 ∙ ap (λ l. 61 ∷ l) one.1))
    (omega (arith, len, length-append name tail))
    (λ place. ap (λ m. judged_steps lim place (record s { mode = m }) (chars name ++ tail)) m
    ∙ attribute_at lim s (chars name) q run d is short (ap (λ m. is_fresh m s.attrs) bytes ∙ f) place
    ∙ ap (λ m. Ok (in_value s m (quote_of q))) bytes ∙ ap Ok (sym same))

value_step : (lim : Limits) (place : ℕ) (s : State) (q : Quote) → judged lim place (record s { mode = InValue (quote_of q) }) (quote_of q) ≡ Ok (valued s)
value_step lim place s Single = calm lim place (record s { mode = InValue 39 }) (valued s) 39 refl (omega arith) refl (omega arith)
value_step lim place s Double = calm lim place (record s { mode = InValue 34 }) (valued s) 34 refl (omega arith) refl (omega arith)

-- the quote behind a value
pub value_moves : (lim : Limits) (s t : State) (text after : List ℕ) (q : Quote) → IsUtf8 text → s.mode ≡ InValue (quote_of q) → text ≡ quote_of q ∷ after → t ≡ valued s → Moves lim s text 1 t
value_moves lim s t text after q u m e same =
    let one = ascii_one (quote_of q) (quote_is q).2 in
    moves_split lim s t text (quote_of q ∷ []) after (quote_of q ∷ []) 1 u e one.0 one.1 (omega arith)
    (λ place. ap (λ m. judged_steps lim place (record s { mode = m }) (quote_of q ∷ [])) m
    ∙ step_last lim place (record s { mode = InValue (quote_of q) }) (valued s) (quote_of q) (value_step lim place s q) ∙ ap Ok (sym same))

-- ---- behind a value

pub white_moves : (lim : Limits) (s t : State) (text after : List ℕ) → IsUtf8 text → s.mode ≡ ValueEnd → s.run ≡ [] → text ≡ 32 ∷ after → t ≡ record s { mode = StartSpace } → Moves lim s text 1 t
white_moves lim s t text after u m run e same =
    let one = ascii_one 32 (omega arith) in
    moves_split lim s t text (32 ∷ []) after (32 ∷ []) 1 u e one.0 one.1 (omega arith)
    (λ place. ap (λ m. judged_steps lim place (record s { mode = m }) (32 ∷ [])) m
    ∙ step_last lim place (record s { mode = ValueEnd }) (record s { mode = StartSpace }) 32 (calm lim place (record s { mode = ValueEnd }) (record s { mode = StartSpace }) 32 refl (omega (arith, ap length run)) refl (omega arith)) ∙ ap Ok (sym same))

pub closing_moves : (lim : Limits) (s t : State) (text after : List ℕ) → IsUtf8 text → s.mode ≡ ValueEnd → s.run ≡ [] → text ≡ 62 ∷ after → t ≡ opened s → Moves lim s text 1 t
closing_moves lim s t text after u m run e same =
    let one = ascii_one 62 (omega arith) in
    moves_split lim s t text (62 ∷ []) after (62 ∷ []) 1 u e one.0 one.1 (omega arith)
    (λ place. ap (λ m. judged_steps lim place (record s { mode = m }) (62 ∷ [])) m
    ∙ step_last lim place (record s { mode = ValueEnd }) (opened s) 62 (calm lim place (record s { mode = ValueEnd }) (opened s) 62 refl (omega (arith, ap length run)) refl (omega arith)) ∙ ap Ok (sym same))

pub slash_moves : (lim : Limits) (s t : State) (text after : List ℕ) → IsUtf8 text → s.mode ≡ ValueEnd → s.run ≡ [] → text ≡ 47 ∷ (62 ∷ after) → t ≡ emptied s → Moves lim s text 2 t
slash_moves lim s t text after u m run e same =
    let one = ascii_one 62 (omega arith) in
    let two = ascii_cons 47 (62 ∷ []) (omega arith) one.0 in
    let none : length s.run ≤ lim.text = omega (arith, ap length run) in
    moves_split lim s t text (47 ∷ (62 ∷ [])) after (47 ∷ (62 ∷ [])) 2 u e two.0 (two.1 ∙ ap (λ l. 47 ∷ l) one.1) (omega arith)
    (λ place. ap (λ m. judged_steps lim place (record s { mode = m }) (47 ∷ (62 ∷ []))) m
    ∙ step_on lim place (record s { mode = ValueEnd }) (record s { mode = Slash }) (emptied s) 47 (62 ∷ []) (calm lim place (record s { mode = ValueEnd }) (record s { mode = Slash }) 47 refl none refl (omega arith))
    (step_last lim (place + len_utf8 47) (record s { mode = Slash }) (emptied s) 62 (calm lim (place + len_utf8 47) (record s { mode = Slash }) (emptied s) 62 refl none refl (omega arith))) ∙ ap Ok (sym same))

-- ---- references

-- where a reference stands: the mode in it, and the one before and behind it
record Refers (lim : Limits) (s : State) (mk : ReferenceRead → MachineMode) (mode : MachineMode) : Type 0 where
  pub run : length s.run < lim.text
  pub begins : step (record s { mode = mode }) 38 ≡ Some (record s { mode = mk (Letters []) })
  pub goes_on : (r : ReferenceRead) (c : ℕ) → step (record s { mode = mk r }) c ≡ on_referred (record s { mode = mk r }) mk mode (refer r c)
  pub deep : (r : ReferenceRead) → begins_deep lim (record s { mode = mk r }) (mk r) ≡ false
  pub here : begins_deep lim (record s { mode = mode }) mode ≡ false
  pub named_in : (r : ReferenceRead) (t : State) → naming_by (mk r) t ≡ []
  pub named_at : (t : State) → naming_by mode t ≡ []

-- the letters are read behind others, and the semicolon ends them
abbrev Spelled : List ℕ → List ℕ → ℕ → Type 0
Spelled read [] d = refer (Letters read) 59 ≡ laws.Done d
Spelled read (c ∷ left) d = (refer (Letters read) c ≡ laws.More (Letters (read ++ (c ∷ [])))) × Spelled (read ++ (c ∷ [])) left d

letters_read : (lim : Limits) (s : State) (mk : ReferenceRead → MachineMode) (mode : MachineMode) (read left : List ℕ) (d : ℕ) → Refers lim s mk mode → d < 128 → Spelled read left d → (place : ℕ)
    → judged_steps lim place (record s { mode = mk (Letters read) }) (left ++ (59 ∷ [])) ≡ Ok (record s { mode = mode; run = s.run ++ encode d })
letters_read lim s mk mode read [] d f l h place =
    let r = Letters read in
    let t : State = record s { mode = mode; run = s.run ++ encode d } in
    let run = f.run in
    step_last lim place (record s { mode = mk r }) t 59
    (quiet lim place (record s { mode = mk r }) t 59
    (f.goes_on r 59 ∙ ap (on_referred (record s { mode = mk r }) mk mode) h)
    (omega (arith, run, length-append s.run (encode d), ap length (encode_ascii d l))) (f.deep r) (omega (arith, ap length (f.named_at t))))
letters_read lim s mk mode read (c ∷ left) d f l h place =
    let r = Letters read in
    let q = Letters (read ++ (c ∷ [])) in
    let run = f.run in
    step_on lim place (record s { mode = mk r }) (record s { mode = mk q }) (record s { mode = mode; run = s.run ++ encode d }) c (left ++ (59 ∷ []))
    (quiet lim place (record s { mode = mk r }) (record s { mode = mk q }) c
    (f.goes_on r c ∙ ap (on_referred (record s { mode = mk r }) mk mode) h.0)
    (omega (arith, run)) (f.deep r) (omega (arith, ap length (f.named_in q (record s { mode = mk q })))))
    (letters_read lim s mk mode (read ++ (c ∷ [])) left d f l h.1 (place + len_utf8 c))

entity_spelled : (e : Entity) → (left : List ℕ) × (reference_of e ≡ 38 ∷ (left ++ (59 ∷ []))) × Spelled [] left (character_of e) × (character_of e < 128)
entity_spelled entities.Less = (108 ∷ (116 ∷ []), refl, (refl, (refl, refl)), omega arith)
entity_spelled entities.Greater = (103 ∷ (116 ∷ []), refl, (refl, (refl, refl)), omega arith)
entity_spelled entities.Ampersand = (97 ∷ (109 ∷ (112 ∷ [])), refl, (refl, (refl, (refl, refl))), omega arith)
entity_spelled entities.Quotation = (113 ∷ (117 ∷ (111 ∷ (116 ∷ []))), refl, (refl, (refl, (refl, (refl, refl)))), omega arith)
entity_spelled entities.Apostrophe = (97 ∷ (112 ∷ (111 ∷ (115 ∷ []))), refl, (refl, (refl, (refl, (refl, refl)))), omega arith)

reference_read : (lim : Limits) (s : State) (mk : ReferenceRead → MachineMode) (mode : MachineMode) (e : Entity) → Refers lim s mk mode → (place : ℕ) → judged_steps lim place (record s { mode = mode }) (reference_of e) ≡ Ok (record s { mode = mode; run = s.run ++ encode (character_of e) })
reference_read lim s mk mode e f place =
    let (left, parts, spelled, low) = entity_spelled e in
    let run = f.run in
    ap (judged_steps lim place (record s { mode = mode })) parts
    ∙ step_on lim place (record s { mode = mode }) (record s { mode = mk (Letters []) }) (record s { mode = mode; run = s.run ++ encode (character_of e) }) 38 (left ++ (59 ∷ []))
    (quiet lim place (record s { mode = mode }) (record s { mode = mk (Letters []) }) 38 f.begins
    (omega (arith, run)) f.here (omega (arith, ap length (f.named_in (Letters []) (record s { mode = mk (Letters []) })))))
    (letters_read lim s mk mode [] left (character_of e) f low spelled (place + len_utf8 38))

between_refers : (lim : Limits) (s : State) → is_inside s.names ≡ true → length s.run < lim.text → Refers lim s InReference Between
between_refers lim s i run = record {
  run = run;
  begins = cond-true (eqb 38 38 && is_inside s.names) _ _ i;
  goes_on = λ r c. refl;
  deep = λ r. refl;
  here = refl;
  named_in = λ r t. refl;
  named_at = λ t. refl;
}

value_refers : (lim : Limits) (s : State) (q : ℕ) → (q ≡ 39) ⊎ (q ≡ 34) → length s.run < lim.text → Refers lim s (InValueReference q) (InValue q)
value_refers lim s q (inl e) run = subst (λ q. Refers lim s (InValueReference q) (InValue q)) (sym e) (record {
  run = run;
  begins = refl;
  goes_on = λ r c. refl;
  deep = λ r. refl;
  here = refl;
  named_in = λ r t. refl;
  named_at = λ t. refl;
})
value_refers lim s q (inr e) run = subst (λ q. Refers lim s (InValueReference q) (InValue q)) (sym e) (record {
  run = run;
  begins = refl;
  goes_on = λ r c. refl;
  deep = λ r. refl;
  here = refl;
  named_in = λ r t. refl;
  named_at = λ t. refl;
})

reference_ascii : (e : Entity) → IsUtf8 (reference_of e) × (chars (reference_of e) ≡ reference_of e)
reference_ascii e = by e
  where
    put : (a : ℕ) (xs : List ℕ) → a < 128 → IsUtf8 xs × (chars xs ≡ xs) → IsUtf8 (a ∷ xs) × (chars (a ∷ xs) ≡ a ∷ xs)
    put a xs l h = let c = ascii_cons a xs l h.0 in (c.0, c.1 ∙ ap (λ t. a ∷ t) h.1)

    end : IsUtf8 (59 ∷ []) × (chars (59 ∷ []) ≡ 59 ∷ [])
    end = ascii_one 59 (omega arith)

    by : (e : Entity) → IsUtf8 (reference_of e) × (chars (reference_of e) ≡ reference_of e)
    by entities.Less = put 38 _ (omega arith) (put 108 _ (omega arith) (put 116 _ (omega arith) end))
    by entities.Greater = put 38 _ (omega arith) (put 103 _ (omega arith) (put 116 _ (omega arith) end))
    by entities.Ampersand = put 38 _ (omega arith) (put 97 _ (omega arith) (put 109 _ (omega arith) (put 112 _ (omega arith) end)))
    by entities.Quotation = put 38 _ (omega arith) (put 113 _ (omega arith) (put 117 _ (omega arith) (put 111 _ (omega arith) (put 116 _ (omega arith) end))))
    by entities.Apostrophe = put 38 _ (omega arith) (put 97 _ (omega arith) (put 112 _ (omega arith) (put 111 _ (omega arith) (put 115 _ (omega arith) end))))

-- a reference in text or in a value
pub reference_moves : (lim : Limits) (s t : State) (text after : List ℕ) (e : Entity) (n : ℕ) → IsUtf8 text → MayRefer s → length s.run < lim.text → text ≡ reference_of e ++ after → n ≡ length (reference_of e) → t ≡ record s { run = s.run ++ encode (character_of e) } → Moves lim s text n t
reference_moves lim s t text after e n u (inl h) run parts l same =
    let a = reference_ascii e in
    moves_split lim s t text (reference_of e) after (reference_of e) n u parts a.0 a.1 l
    (λ place. at_mode (λ s. judged_steps lim place s (reference_of e) ≡ Ok (record s { run = s.run ++ encode (character_of e) })) s Between h.0 (reference_read lim s InReference Between e (between_refers lim s h.1 run) place) ∙ ap Ok (sym same))
reference_moves lim s t text after e n u (inr h) run parts l same =
    let a = reference_ascii e in
    moves_split lim s t text (reference_of e) after (reference_of e) n u parts a.0 a.1 l
    (λ place. at_mode (λ s. judged_steps lim place s (reference_of e) ≡ Ok (record s { run = s.run ++ encode (character_of e) })) s (InValue h.0) h.1 (reference_read lim s (InValueReference h.0) (InValue h.0) e (value_refers lim s h.0 h.2 run) place) ∙ ap Ok (sym same))
