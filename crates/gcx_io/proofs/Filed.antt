-- How the writing of a text into a handle goes on over several calls.
use Rattle.std.proofs.Common.{◌≡◌, inl, inr, ℕ, zero, suc, ◌+◌, ◌-◌, ◌<◌, ◌≤◌, List, [], ◌∷◌, ◌++◌, take, drop, length, map, slice_get, slice_set, Result, Ok, Err, Option, None, Some, refl, sym, ap, subst, ◌∙◌, append_assoc, append-nil, arith, length-drop, take-append-drop}
use Rattle.std.specs.Prelude.{unwrap_or, option_map}
use Rattle.std.proofs.lemmas.List.{map_push, length-take-le, take_rest}
use Rattle.std.proofs.lemmas.Option.{slice_get-map}
use Rattle.std.proofs.Math.Seq.{take-add}
use Rattle.std.proofs.lemmas.List.Elements.{All-push}
use Rattle.gcx_io.specs.Causes.{Rose}
use Rattle.gcx_io.specs.Shelf.{Names, Appends, AppendsAll, Stays, OthersStay}
use Rattle.gcx_io.specs.Views.{Call, Took, HandleCalls, HandleView, ShelfView, calls_of}
use Rattle.gcx_io.specs.Calls.{write_call, WritesHandle}
use Rattle.gcx_io.specs.Writing.{IsSomeBytes, joined, Answers, TakesInto, OwesInto}
use Rattle.gcx_io.proofs.Written.{joined_push, is_some}

-- ---- what the names hold

appends_on : (a b c : Names) (owner : Option (List ℕ)) (xs ys : List ℕ) → Appends a b owner xs → Appends b c owner ys → Appends a c owner (xs ++ ys)
appends_on None None None owner xs ys first second = tt
appends_on None None (Some z) owner xs ys first second = absurd second
appends_on None (Some y) c owner xs ys first second = absurd first
appends_on (Some x) None None owner xs ys first second = tt
appends_on (Some x) None (Some z) owner xs ys first second = absurd second
appends_on (Some x) (Some y) None owner xs ys first second = tt
appends_on (Some x) (Some y) (Some z) owner xs ys first second = λ name is. (
  (second name is).0 ∙ ap (λ (o : Option (List ℕ)). Some (unwrap_or o [] ++ ys)) (first name is).0 ∙ ap (λ (l : List ℕ). Some l) (append_assoc (unwrap_or (x name) []) xs ys),
  λ other differs. (second name is).1 other differs ∙ (first name is).1 other differs,
)

pub appends_all_on : (a b c : Names) (owner : Option (List ℕ)) (xs ys : List ℕ) → AppendsAll a b owner xs → Appends b c owner ys → IsSomeBytes ys → AppendsAll a c owner (xs ++ ys)
appends_all_on a b c owner xs [] first second some = absurd some
appends_all_on a b c owner [] (y ∷ ys) first second some = subst (λ (n : Names). Appends n c owner (y ∷ ys)) first second
appends_all_on a b c owner (x ∷ xs) (y ∷ ys) first second some = appends_on a b c owner (x ∷ xs) (y ∷ ys) first second

stays_on : (a b c : Option (List ℕ)) → Stays a b → Stays b c → Stays a c
stays_on a b c (inl e) (inl f) = inl (f ∙ e)
stays_on a b c (inl e) (inr n) = inr n
stays_on a b c (inr n) (inl f) = inr (f ∙ n)
stays_on a b c (inr n) (inr m) = inr m

pub leaves_same : (owners left : ℕ → Option (List ℕ)) (count handle : ℕ) → OthersStay owners left left count handle
leaves_same owners left count handle k within other = inl refl

pub leaves_on : (owners a b c : ℕ → Option (List ℕ)) (count handle : ℕ) → OthersStay owners a b count handle → OthersStay owners b c count handle → OthersStay owners a c count handle
leaves_on owners a b c count handle first second k within other = stays_on (a k) (b k) (c k) (first k within other) (second k within other)

-- ---- the calls of the handle

set_set : {X : Type 0} (l : List X) (h : ℕ) (x y : X) → slice_set (slice_set l h x) h y ≡ slice_set l h y
set_set [] h x y = refl
set_set (z ∷ l) zero x y = refl
set_set (z ∷ l) (suc h) x y = ap (λ (r : List _). z ∷ r) (set_set l h x y)

set_same : {X : Type 0} (l : List X) (h : ℕ) (x : X) → slice_get l h ≡ Some x → slice_set l h x ≡ l
set_same [] h x is = refl
set_same (z ∷ l) zero x is = cc
set_same (z ∷ l) (suc h) x is = ap (λ (r : List _). z ∷ r) (set_same l h x is)

pub get_set : {X : Type 0} (l : List X) (h : ℕ) (x y : X) → slice_get l h ≡ Some x → slice_get (slice_set l h y) h ≡ Some y
get_set [] h x y is = cc
get_set (z ∷ l) zero x y is = refl
get_set (z ∷ l) (suc h) x y is = get_set l h x y is

calls_there : (given : List HandleView) (h : ℕ) (v : HandleView) → slice_get given h ≡ Some v → slice_get (map calls_of given) h ≡ Some (calls_of v)
calls_there given h v is = slice_get-map calls_of given h ∙ ap (option_map calls_of) is

pub answers_none : (h : ℕ) (a : ShelfView) (v : HandleView) → slice_get a.given h ≡ Some v → Answers h a a []
answers_none h a v was = record {
  old = v;
  was = was;
  given = sym (ap (λ (l : List Call). slice_set (map calls_of a.given) h (record { name = v.name; calls = l })) (append-nil v.calls) ∙ set_same (map calls_of a.given) h (calls_of v) (calls_there a.given h v was));
  refused = refl;
  faults = refl;
}

same_some : {X : Type 0} (o : Option X) (x y : X) → o ≡ Some x → o ≡ Some y → x ≡ y
same_some o x y e f = cc

pub answers_more : {E : Type 0} (h : ℕ) (a b c : ShelfView) (calls : List Call) (r : Result ℕ E) (piece : List ℕ) → Answers h a b calls → WritesHandle h b c r piece
    → Answers h a c (calls ++ write_call r piece ∷ [])
answers_more h a b c calls r piece s once =
    let reached : HandleCalls = record { name = s.old.name; calls = s.old.calls ++ calls } in
    let now : slice_get (map calls_of b.given) h ≡ Some reached =
    ap (λ (l : List HandleCalls). slice_get l h) s.given ∙ get_set (map calls_of a.given) h (calls_of s.old) reached (calls_there a.given h s.old s.was) in
    let same : calls_of once.old ≡ reached = same_some (slice_get (map calls_of b.given) h) (calls_of once.old) reached (calls_there b.given h once.old once.was) now in
    record {
      old = s.old;
      was = s.was;
      given = once.given
          ∙ ap (λ (v : HandleCalls). slice_set (map calls_of b.given) h (record { name = v.name; calls = v.calls ++ write_call r piece ∷ [] })) same
          ∙ ap (λ (l : List HandleCalls). slice_set l h (record { name = s.old.name; calls = (s.old.calls ++ calls) ++ write_call r piece ∷ [] })) s.given
          ∙ set_set (map calls_of a.given) h reached (record { name = s.old.name; calls = (s.old.calls ++ calls) ++ write_call r piece ∷ [] })
          ∙ ap (λ (l : List Call). slice_set (map calls_of a.given) h (record { name = s.old.name; calls = l })) (append_assoc s.old.calls calls (write_call r piece ∷ []));
      refused = once.refused ∙ s.refused;
      faults = once.faults ∙ s.faults;
    }

-- ---- the text

pub into_none : (h : ℕ) (a : ShelfView) → h < length a.given → TakesInto h a a []
into_none h a within = record {
  pieces = [];
  some = λ k d few. absurd (omega (arith, few));
  answers = answers_none h a (at_of a.given h within).0 (at_of a.given h within).1;
  whole = refl;
  write_faults = refl;
}
  where
    at_of : (l : List HandleView) (k : ℕ) → k < length l → (v : HandleView) × (slice_get l k ≡ Some v)
    at_of [] k few = absurd (omega (arith, few))
    at_of (v ∷ l) zero few = (v, refl)
    at_of (v ∷ l) (suc k) few = at_of l k (omega (arith, few))

into_more : {E : Type 0} (h : ℕ) (a b c : ShelfView) (text piece : List ℕ) (n : ℕ) → TakesInto h a b text → WritesHandle {E = E} h b c (Ok n) piece → 1 ≤ n → n ≤ length piece
    → TakesInto h a c (text ++ take n piece)
into_more h a b c text piece n t once some within = record {
  pieces = t.pieces ++ take n piece ∷ [];
  some = All-push IsSomeBytes t.pieces (take n piece) t.some (is_some (take n piece) (omega (arith, length-take-le n piece within)));
  answers = subst (λ (l : List Call). Answers h a c l) (sym (map_push Took t.pieces (take n piece))) (answers_more h a b c (map Took t.pieces) (Ok n) piece t.answers once);
  whole = joined_push t.pieces (take n piece) ∙ ap (λ (l : List ℕ). l ++ take n piece) t.whole;
  write_faults = once.calm ∙ t.write_faults;
}

owes_into : {E : Type 0} (e : E) (h : ℕ) (a b c : ShelfView) (text piece : List ℕ) → TakesInto h a b text → WritesHandle {E = E} h b c (Err e) piece → IsSomeBytes piece → OwesInto h a c (text ++ piece)
owes_into e h a b c text piece t once some = record {
  pieces = t.pieces;
  next = piece;
  later = [];
  some = t.some;
  answers = answers_more h a b c (map Took t.pieces) (Err e) piece t.answers once;
  split = ap (λ (l : List ℕ). l ++ piece) (sym t.whole) ∙ sym (append-nil (joined t.pieces ++ piece));
  offered = some;
  write_faults = subst (λ (k : ℕ). Rose k c.write_faults) t.write_faults once.write_faults.failed;
}

-- the next n bytes of a text of which the first i were taken
pub into_next : {E : Type 0} (h : ℕ) (a b c : ShelfView) (text : List ℕ) (i n : ℕ) → TakesInto h a b (take i text) → WritesHandle {E = E} h b c (Ok n) (take (length text - i) (drop i text)) → 1 ≤ n
    → n ≤ length (take (length text - i) (drop i text)) → TakesInto h a c (take (i + n) text)
into_next {E = E} h a b c text i n t more some within =
    let once : WritesHandle {E = E} h b c (Ok n) (drop i text) = subst (λ (l : List ℕ). WritesHandle {E = E} h b c (Ok n) l) (take_rest text i) more in
    let within' : n ≤ length (drop i text) = subst (λ (l : List ℕ). n ≤ length l) (take_rest text i) within in
    subst (λ (l : List ℕ). TakesInto h a c l) (sym (take-add i n text)) (into_more h a b c (take i text) (drop i text) n t once some within')

pub owes_rest_into : {E : Type 0} (e : E) (h : ℕ) (a b c : ShelfView) (text : List ℕ) (i : ℕ) → TakesInto h a b (take i text) → WritesHandle {E = E} h b c (Err e) (take (length text - i) (drop i text))
    → i < length text → OwesInto h a c text
owes_rest_into {E = E} e h a b c text i t more before =
    let once : WritesHandle {E = E} h b c (Err e) (drop i text) = subst (λ (l : List ℕ). WritesHandle {E = E} h b c (Err e) l) (take_rest text i) more in
    subst (λ (l : List ℕ). OwesInto h a c l) (take-append-drop i text) (owes_into e h a b c (take i text) (drop i text) t once
    (is_some (drop i text) (omega (arith, length-drop i text, before))))

pub names_next : (a b c : Names) (owner : Option (List ℕ)) (text : List ℕ) (i n : ℕ) → AppendsAll a b owner (take i text) → Appends b c owner (take n (take (length text - i) (drop i text))) → 1 ≤ n
    → n ≤ length (take (length text - i) (drop i text)) → AppendsAll a c owner (take (i + n) text)
names_next a b c owner text i n first more some within =
    let second : Appends b c owner (take n (drop i text)) = subst (λ (l : List ℕ). Appends b c owner (take n l)) (take_rest text i) more in
    let within' : n ≤ length (drop i text) = subst (λ (l : List ℕ). n ≤ length l) (take_rest text i) within in
    subst (λ (l : List ℕ). AppendsAll a c owner l) (sym (take-add i n text))
    (appends_all_on a b c owner (take i text) (take n (drop i text)) first second (is_some (take n (drop i text)) (omega (arith, length-take-le n (drop i text) within'))))
