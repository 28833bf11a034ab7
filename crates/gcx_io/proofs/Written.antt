-- How the writing of a text goes on over several calls.
use Rattle.std.proofs.Common.{◌≡◌, ℕ, ◌+◌, ◌-◌, ◌<◌, ◌≤◌, List, [], ◌∷◌, ◌++◌, take, drop, length, map, Result, Ok, Err, OnErr, Option, None, Some, refl, sym, ap, subst, ◌∙◌, append_assoc, append-nil, arith, length-drop, take-append-drop}
use Rattle.std.proofs.lemmas.List.{map_push, length-take-le, take_rest}
use Rattle.std.proofs.Math.Seq.{take-add}
use Rattle.std.proofs.lemmas.List.Elements.{All-push}
use Rattle.gcx_io.specs.Bytes.{Grows}
use Rattle.gcx_io.specs.Causes.{Rose}
use Rattle.gcx_io.specs.Views.{Call, Took, Denied, SinkView}
use Rattle.gcx_io.specs.Calls.{WritesOnce}
use Rattle.gcx_io.specs.Writing.{IsSomeBytes, joined, Takes, Owes}
use Rattle.gcx_io.proofs.Grown.{grows_on}

pub joined_push : (ps : List (List ℕ)) (p : List ℕ) → joined (ps ++ p ∷ []) ≡ joined ps ++ p
joined_push [] p = append-nil p
joined_push (q ∷ ps) p = ap (λ (l : List ℕ). q ++ l) (joined_push ps p) ∙ sym (append_assoc q (joined ps) p)

pub is_some : (p : List ℕ) → 1 ≤ length p → IsSomeBytes p
is_some [] h = absurd (omega (arith, h))
is_some (x ∷ xs) h = tt

grows_none : (a : Option (List ℕ)) → Grows a a []
grows_none None = tt
grows_none (Some x) = sym (append-nil x)

pub takes_none : (a : SinkView) → Takes a a []
takes_none a = record {
  pieces = [];
  some = λ k d within. absurd (omega (arith, within));
  calls = sym (append-nil a.calls);
  whole = refl;
  told = grows_none a.taken;
  faults = refl;
}

pub takes_more : {E : Type 0} (a b c : SinkView) (text piece : List ℕ) (n : ℕ) → Takes a b text → WritesOnce {E = E} b c (Ok n) piece → 1 ≤ n → n ≤ length piece → Takes a c (text ++ take n piece)
takes_more a b c text piece n t once some within = record {
  pieces = t.pieces ++ take n piece ∷ [];
  some = All-push IsSomeBytes t.pieces (take n piece) t.some (is_some (take n piece) (omega (arith, length-take-le n piece within)));
  calls = once.calls ∙ ap (λ (l : List Call). l ++ Took (take n piece) ∷ []) t.calls ∙ append_assoc a.calls (map Took t.pieces) (Took (take n piece) ∷ [])
      ∙ ap (λ (l : List Call). a.calls ++ l) (sym (map_push Took t.pieces (take n piece)));
  whole = joined_push t.pieces (take n piece) ∙ ap (λ (l : List ℕ). l ++ take n piece) t.whole;
  told = grows_on a.taken b.taken c.taken text (take n piece) t.told once.taken;
  faults = once.calm ∙ t.faults;
}

pub owes : {E : Type 0} (e : E) (a b c : SinkView) (text piece : List ℕ) → Takes a b text → WritesOnce {E = E} b c (Err e) piece → IsSomeBytes piece → Owes a c [] (text ++ piece)
owes e a b c text piece t once some = record {
  pieces = t.pieces;
  more = text;
  next = piece;
  later = [];
  some = t.some;
  calls = once.calls ∙ ap (λ (l : List Call). l ++ Denied piece ∷ []) t.calls;
  taken = t.whole;
  split = sym (append-nil (text ++ piece));
  offered = some;
  told = subst (λ (o : Option (List ℕ)). Grows a.taken o text) (sym once.taken) t.told;
  faults = subst (λ (k : ℕ). Rose k c.faults) t.faults once.faults.failed;
}

-- the next n bytes of a text of which the first i were taken
pub takes_next : {E : Type 0} (a b c : SinkView) (text : List ℕ) (i n : ℕ) → Takes a b (take i text) → WritesOnce {E = E} b c (Ok n) (take (length text - i) (drop i text)) → 1 ≤ n
    → n ≤ length (take (length text - i) (drop i text)) → Takes a c (take (i + n) text)
takes_next {E = E} a b c text i n t more some within =
    let once : WritesOnce {E = E} b c (Ok n) (drop i text) = subst (λ (l : List ℕ). WritesOnce {E = E} b c (Ok n) l) (take_rest text i) more in
    let within' : n ≤ length (drop i text) = subst (λ (l : List ℕ). n ≤ length l) (take_rest text i) within in
    subst (λ (l : List ℕ). Takes a c l) (sym (take-add i n text)) (takes_more a b c (take i text) (drop i text) n t once some within')

-- the rest of a text was refused
pub owes_rest : {E : Type 0} (e : E) (a b c : SinkView) (text : List ℕ) (i : ℕ) → Takes a b (take i text) → WritesOnce {E = E} b c (Err e) (take (length text - i) (drop i text)) → i < length text
    → Owes a c [] text
owes_rest {E = E} e a b c text i t more before =
    let once : WritesOnce {E = E} b c (Err e) (drop i text) = subst (λ (l : List ℕ). WritesOnce {E = E} b c (Err e) l) (take_rest text i) more in
    subst (λ (l : List ℕ). Owes a c [] l) (take-append-drop i text) (owes e a b c (take i text) (drop i text) t once
    (is_some (drop i text) (omega (arith, length-drop i text, before))))

-- what holds, holds at an error
pub on_err : {T E : Type 0} (r : Result T E) (P : Type 0) → P → OnErr r P
on_err (Ok x) P p = tt
on_err (Err e) P p = p
