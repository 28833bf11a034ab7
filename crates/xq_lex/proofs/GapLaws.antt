-- A comment is what is found up to its end, and a text has one gap at its front.
use Rattle.std.proofs.Common.{ℕ, zero, suc, ◌≡◌, ◌≢◌, ◌+◌, ◌≤◌, ◌==◌, ◌⊎◌, inl, inr, Bool, true, false, ◌&&◌, cond, List, [], ◌∷◌, length, drop, length-drop, Option, Some, None, refl, sym, ap, ◌∙◌, subst, arith, eqb-true}
use Rattle.std.proofs.lemmas.Bool.{and_parts, or_parts, or_from, cond-true, cond-false, true≢false, false≢true}
use Rattle.std.proofs.lemmas.List.{drop-drop}
use Rattle.gcx_base.specs.Characters.{is_char, is_white}
use Rattle.base_laws.proofs.Lists.{cons_tail, cons_head}
use Rattle.xq_lex.specs.Sign.{opens_comment}
use Rattle.xq_lex.specs.Gap.{Inside, nothing, char, nested, closed_chars, is_mark, IsInside, Gap, empty, white, comment, gap_chars, IsGap, begins_white, EndsGap, HasGap}
use Rattle.xq_lex.specs.Closing.{opens, closes, closing, behind_comment, IsWhite, IsComment, HasGapPart}

-- no mark stands across the character before and the text
abbrev NoMark : Option ℕ → List ℕ → Type 0
NoMark None text = Unit {0}
NoMark (Some b) text = is_mark (b ∷ text) ≡ false

no_marks : (before : Option ℕ) (c : ℕ) (cs : List ℕ) → NoMark before (c ∷ cs) → (opens before c ≡ false) × (closes before c ≡ false)
no_marks None c cs h = (refl, refl)
no_marks (Some b) c cs h = or_parts ((b == 40) && (c == 58)) ((b == 58) && (c == 41)) h

plain_step : (depth : ℕ) (before : Option ℕ) (c : ℕ) (cs : List ℕ) → is_char c ≡ true → opens before c ≡ false → closes before c ≡ false →
    behind_comment depth before (c ∷ cs) ≡ behind_comment depth (Some c) cs
plain_step depth before c cs good no_open no_close =
    cond-true (is_char c) _ None good ∙ (cond-false (opens before c) _ _ no_open ∙ cond-false (closes before c) _ _ no_close)

-- Each comment's end is found.
close_nothing : (depth : ℕ) (before : Option ℕ) (rest : List ℕ) → NoMark before (58 ∷ []) → behind_comment depth before (58 ∷ 41 ∷ rest) ≡ closing depth rest (λ d. behind_comment d None rest)
close_nothing depth before rest free = let no = no_marks before 58 [] free in plain_step depth before 58 (41 ∷ rest) refl no.0 no.1

first_of : (b : ℕ) (inner : Inside) (rest : List ℕ) → is_mark (b ∷ closed_chars inner rest) ≡ is_mark (b ∷ closed_chars inner [])
first_of b nothing rest = refl
first_of b (char c more) rest = refl
first_of b (nested inner more) rest = refl

pub closed : (inner : Inside) (depth : ℕ) (before : Option ℕ) (rest : List ℕ) → IsInside inner → NoMark before (closed_chars inner []) →
    behind_comment depth before (closed_chars inner rest) ≡ closing depth rest (λ d. behind_comment d None rest)
closed nothing depth before rest good free = close_nothing depth before rest (nothing_free before free)
  where
    nothing_free : (before : Option ℕ) → NoMark before (58 ∷ 41 ∷ []) → NoMark before (58 ∷ [])
    nothing_free None h = tt
    nothing_free (Some b) h = h
closed (char c more) depth before rest good free =
    let no : (opens before c ≡ false) × (closes before c ≡ false) = no_marks before c (closed_chars more []) free in
    plain_step depth before c (closed_chars more rest) good.0 no.0 no.1 ∙ closed more depth (Some c) rest good.2 good.1
closed (nested inner more) depth before rest good free =
    let no : (opens before 40 ≡ false) × (closes before 40 ≡ false) = no_marks before 40 _ free in
    plain_step depth before 40 (58 ∷ closed_chars inner (closed_chars more rest)) refl no.0 no.1
    ∙ (closed inner (suc depth) None (closed_chars more rest) good.0 tt ∙ closed more depth None rest good.1 tt)

pub comment_closed : (inner : Inside) (rest : List ℕ) → IsInside inner → behind_comment 0 None (closed_chars inner rest) ≡ Some rest
comment_closed inner rest good = closed inner 0 None rest good tt

-- What is found is a comment: the text closes this many more than one.
abbrev Closes : ℕ → List ℕ → List ℕ → Type 0
Closes zero text rest = (inner : Inside) × (IsInside inner × (text ≡ closed_chars inner rest))
Closes (suc depth) text rest = (inner : Inside) × (middle : List ℕ) × (IsInside inner × (text ≡ closed_chars inner middle) × Closes depth middle rest)

-- one character more in front
with_char : (depth : ℕ) (c : ℕ) (text rest : List ℕ) → is_char c ≡ true → is_mark (c ∷ text) ≡ false → Closes depth text rest → Closes depth (c ∷ text) rest
with_char zero c text rest good free (inner, (inside, e)) =
    (char c inner, ((good, sym (first_of c inner rest) ∙ (ap (λ (x : List ℕ). is_mark (c ∷ x)) (sym e) ∙ free), inside), ap (λ x. c ∷ x) e))
with_char (suc depth) c text rest good free (inner, middle, (inside, e, more)) =
    (char c inner, middle, ((good, sym (first_of c inner middle) ∙ (ap (λ (x : List ℕ). is_mark (c ∷ x)) (sym e) ∙ free), inside), ap (λ x. c ∷ x) e, more))

-- a comment more in front
with_comment : (depth : ℕ) (text rest : List ℕ) → Closes (suc depth) text rest → Closes depth (40 ∷ 58 ∷ text) rest
with_comment zero text rest (inner, middle, (inside, e, (inner', (inside', e')))) =
    (nested inner inner', ((inside, inside'), ap (λ (x : List ℕ). 40 ∷ 58 ∷ x) (e ∙ ap (λ (x : List ℕ). closed_chars inner x) e')))
with_comment (suc depth) text rest (inner, middle, (inside, e, (inner', middle', (inside', e', more)))) =
    (nested inner inner', middle', ((inside, inside'), ap (λ (x : List ℕ). 40 ∷ 58 ∷ x) (e ∙ ap (λ (x : List ℕ). closed_chars inner x) e'), more))

abbrev pending : Option ℕ → List ℕ → List ℕ
pending None text = text
pending (Some b) text = b ∷ text

abbrev IsHeld : Option ℕ → Type 0
IsHeld None = Unit {0}
IsHeld (Some b) = is_char b ≡ true

opened : (depth : ℕ) (before : Option ℕ) (c : ℕ) (cs rest : List ℕ) → opens before c ≡ true → Closes (suc depth) cs rest → Closes depth (pending before (c ∷ cs)) rest
opened depth None c cs rest e h = absurd (false≢true e)
opened depth (Some b) c cs rest e h =
    let both : ((b == 40) ≡ true) × ((c == 58) ≡ true) = and_parts (b == 40) (c == 58) e in
    subst (λ (x : ℕ). Closes depth (x ∷ c ∷ cs) rest) (sym (eqb-true b 40 both.0))
    (subst (λ (x : ℕ). Closes depth (40 ∷ x ∷ cs) rest) (sym (eqb-true c 58 both.1)) (with_comment depth cs rest h))

end_zero : (before : Option ℕ) (c : ℕ) (cs : List ℕ) → closes before c ≡ true → Closes zero (pending before (c ∷ cs)) cs
end_zero None c cs e = absurd (false≢true e)
end_zero (Some b) c cs e =
    let both : ((b == 58) ≡ true) × ((c == 41) ≡ true) = and_parts (b == 58) (c == 41) e in
    (nothing, (tt, ap (λ (x : ℕ). x ∷ c ∷ cs) (eqb-true b 58 both.0) ∙ ap (λ (x : ℕ). 58 ∷ x ∷ cs) (eqb-true c 41 both.1)))

end_deeper : (depth : ℕ) (before : Option ℕ) (c : ℕ) (cs rest : List ℕ) → closes before c ≡ true → Closes depth cs rest → Closes (suc depth) (pending before (c ∷ cs)) rest
end_deeper depth None c cs rest e h = absurd (false≢true e)
end_deeper depth (Some b) c cs rest e h =
    let both : ((b == 58) ≡ true) × ((c == 41) ≡ true) = and_parts (b == 58) (c == 41) e in
    (nothing, cs, (tt, ap (λ (x : ℕ). x ∷ c ∷ cs) (eqb-true b 58 both.0) ∙ ap (λ (x : ℕ). 58 ∷ x ∷ cs) (eqb-true c 41 both.1), h))

went_on : (depth : ℕ) (before : Option ℕ) (c : ℕ) (cs rest : List ℕ) → IsHeld before → opens before c ≡ false → closes before c ≡ false → Closes depth (c ∷ cs) rest → Closes depth (pending before (c ∷ cs)) rest
went_on depth None c cs rest held no_open no_close h = h
went_on depth (Some b) c cs rest held no_open no_close h = with_char depth b (c ∷ cs) rest held (or_from ((b == 40) && (c == 58)) ((b == 58) && (c == 41)) no_open no_close) h

ends : (depth : ℕ) (before : Option ℕ) (c : ℕ) (cs rest : List ℕ) → ((d : ℕ) → behind_comment d None cs ≡ Some rest → Closes d cs rest) → closes before c ≡ true →
    closing depth cs (λ d. behind_comment d None cs) ≡ Some rest → Closes depth (pending before (c ∷ cs)) rest
ends zero before c cs rest below close e = let same : cs ≡ rest = cc (e) in subst (λ (x : List ℕ). Closes zero (pending before (c ∷ cs)) x) same (end_zero before c cs close)
ends (suc d) before c cs rest below close e = end_deeper d before c cs rest close (below d e)

found_step : (depth : ℕ) (before : Option ℕ) (c : ℕ) (cs rest : List ℕ) → IsHeld before → ((d : ℕ) (b : Option ℕ) → IsHeld b → behind_comment d b cs ≡ Some rest → Closes d (pending b cs) rest) →
    (good begun ended : Bool) → is_char c ≡ good → opens before c ≡ begun → closes before c ≡ ended →
    cond good (cond begun (behind_comment (suc depth) None cs) (cond ended (closing depth cs (λ d. behind_comment d None cs)) (behind_comment depth (Some c) cs))) None ≡ Some rest →
    Closes depth (pending before (c ∷ cs)) rest
found_step depth before c cs rest held below false begun ended g o k e = absurd (cc (e))
found_step depth before c cs rest held below true true ended g o k e = opened depth before c cs rest o (below (suc depth) None tt e)
found_step depth before c cs rest held below true false true g o k e = ends depth before c cs rest (λ d h. below d None tt h) k e
found_step depth before c cs rest held below true false false g o k e = went_on depth before c cs rest held o k (below depth (Some c) g e)

pub found : (text : List ℕ) (depth : ℕ) (before : Option ℕ) (rest : List ℕ) → IsHeld before → behind_comment depth before text ≡ Some rest → Closes depth (pending before text) rest
found [] depth before rest held e = absurd (cc (e))
found (c ∷ cs) depth before rest held e =
    found_step depth before c cs rest held (λ d b h k. found cs d b rest h k) (is_char c) (opens before c) (closes before c) refl refl refl e

pub comment_found : (text rest : List ℕ) → behind_comment 0 None text ≡ Some rest → IsComment (40 ∷ 58 ∷ text) rest
comment_found text rest e = by (found text 0 None rest tt e)
  where
    by : Closes zero text rest → IsComment (40 ∷ 58 ∷ text) rest
    by (inner, (inside, h)) = record { inner = inner; good = inside; chars = ap (λ (x : List ℕ). 40 ∷ 58 ∷ x) h }

-- nothing else ends a gap
pub no_comment : (text rest : List ℕ) → behind_comment 0 None text ≡ None → (inner : Inside) → IsInside inner → (40 ∷ 58 ∷ text) ≢ 40 ∷ 58 ∷ closed_chars inner rest
no_comment text rest e inner good h =
    let same : text ≡ closed_chars inner rest = cons_tail 58 58 text _ (cons_tail 40 40 (58 ∷ text) _ h) in
    let k : None ≡ Some rest = sym e ∙ (ap (λ (x : List ℕ). behind_comment 0 None x) same ∙ comment_closed inner rest good) in
    cc (k)

closed_same : (i k : Inside) (x y : List ℕ) → IsInside i → IsInside k → closed_chars i x ≡ closed_chars k y → x ≡ y
closed_same i k x y g h e =
    let same : Some x ≡ Some y = sym (comment_closed i x g) ∙ (ap (λ (t : List ℕ). behind_comment 0 None t) e ∙ comment_closed k y h) in
    cc (same)

white_no_paren : {X : Type 0} (c : ℕ) (x y : List ℕ) → is_white c ≡ true → c ∷ x ≡ 40 ∷ y → X
white_no_paren c x y e h = absurd (false≢true (subst (λ (d : ℕ). is_white d ≡ true) (cons_head c 40 x y h) e))

gap_same : (g h : Gap) (r s : List ℕ) → IsGap g → IsGap h → EndsGap r → EndsGap s → gap_chars g r ≡ gap_chars h s → r ≡ s
gap_same empty empty r s a b p q e = e
gap_same empty (white c more) r s a b p q e = absurd (true≢false (sym b.0 ∙ (ap begins_white (sym e) ∙ p.no_white)))
gap_same empty (comment i more) r s a b p q e = absurd (p.no_comment i (gap_chars more s) b.0 e)
gap_same (white c more) empty r s a b p q e = absurd (true≢false (sym a.0 ∙ (ap begins_white e ∙ q.no_white)))
gap_same (white c more) (white d more') r s a b p q e = gap_same more more' r s a.1 b.1 p q (cons_tail c d _ _ e)
gap_same (white c more) (comment i more') r s a b p q e = white_no_paren c _ _ a.0 e
gap_same (comment i more) empty r s a b p q e = absurd (q.no_comment i (gap_chars more r) a.0 (sym e))
gap_same (comment i more) (white c more') r s a b p q e = white_no_paren c _ _ b.0 (sym e)
gap_same (comment i more) (comment k more') r s a b p q e =
    gap_same more more' r s a.1 b.1 p q (closed_same i k _ _ a.0 b.0 (cons_tail 58 58 _ _ (cons_tail 40 40 (58 ∷ closed_chars i (gap_chars more r)) (58 ∷ closed_chars k (gap_chars more' s)) e)))

pub one_gap : (text r s : List ℕ) → HasGap text r → HasGap text s → r ≡ s
one_gap text r s a b = gap_same a.gap b.gap r s a.good b.good a.whole b.whole (sym a.chars ∙ b.chars)

-- a gap grows at its front
pub more_gap : (text middle rest : List ℕ) → HasGapPart text middle → HasGap middle rest → HasGap text rest
more_gap text middle rest p g = by p.part
  where
    by : IsWhite text middle ⊎ IsComment text middle → HasGap text rest
    by (inl w) = record { gap = white w.c g.gap; good = (w.good, g.good); chars = w.chars ∙ ap (λ (x : List ℕ). w.c ∷ x) g.chars; whole = g.whole }
    by (inr c) = record { gap = comment c.inner g.gap; good = (c.good, g.good); chars = c.chars ∙ ap (λ (x : List ℕ). 40 ∷ 58 ∷ closed_chars c.inner x) g.chars; whole = g.whole }

pub no_gap : (text : List ℕ) → EndsGap text → HasGap text text
no_gap text e = record { gap = empty; good = tt; chars = refl; whole = e }

-- ---- What is read of a gap.

pub comment_part : (text inner : List ℕ) (len : ℕ) → text ≡ 40 ∷ 58 ∷ inner → len ≤ length inner → behind_comment 0 None inner ≡ Some (drop len inner) →
    (len + 2 ≤ length text) × HasGapPart text (drop (len + 2) text)
comment_part text inner len e h found =
    let left : drop (len + 2) text ≡ drop len inner = ap (λ (x : List ℕ). drop (len + 2) x) e ∙ (ap (λ n. drop n (40 ∷ 58 ∷ inner)) two ∙ refl) in (
      omega (arith, ap length e),
      record {
        shorter = omega (arith, ap length e, ap length left, length-drop len inner);
        part = inr (subst (λ (x : List ℕ). IsComment text x) (sym left) (subst (λ (x : List ℕ). IsComment x (drop len inner)) (sym e) (comment_found inner (drop len inner) found)));
      },
    )
  where
    two : len + 2 ≡ suc (suc len)
    two = omega arith

no_white_no_comment : (text : List ℕ) → opens_comment text ≡ false → (inner : Inside) (rest : List ℕ) → IsInside inner → text ≢ 40 ∷ 58 ∷ closed_chars inner rest
no_white_no_comment text none inner rest good e = true≢false (ap opens_comment (sym e) ∙ none)

pub gap_ends : (text : List ℕ) → begins_white text ≡ false → opens_comment text ≡ false → EndsGap text
gap_ends text w o = record { no_white = w; no_comment = no_white_no_comment text o }

pub unclosed : (text inner : List ℕ) → text ≡ 40 ∷ 58 ∷ inner → behind_comment 0 None inner ≡ None → EndsGap text
unclosed text inner e none = record {
  no_white = ap begins_white e;
  no_comment = λ i rest good h. no_comment inner rest none i good (sym e ∙ h);
}

pub gap_on : (text rest : List ℕ) (len more : ℕ) → ((r : List ℕ) → HasGap (drop len text) r → HasGap text r) → HasGapPart (drop len text) (drop more (drop len text)) → HasGap (drop (len + more) text) rest → HasGap text rest
gap_on text rest len more so_far part g =
    so_far rest (more_gap (drop len text) (drop more (drop len text)) rest part (subst (λ (x : List ℕ). HasGap x rest) (sym (drop-drop more len text)) g))
