-- What is seen of the file system's shelf behind its calls.
use Rattle.std.proofs.Common.{◌≡◌, ℕ, zero, suc, ◌<◌, List, [], ◌∷◌, ◌++◌, length, map, get_or, slice_get, slice_set, Result, Ok, Err, OnOk, Some, None, refl, sym, ap, ◌∙◌, arith}
use Rattle.std.proofs.lemmas.List.{map-set}
use Rattle.std.specs.Io.KnownBytes.{ReadConsumes}
use Rattle.gcx_io.specs.Causes.{HasCause}
use Rattle.gcx_io.specs.FileShelf.{untold}
use Rattle.gcx_io.specs.Views.{HandleCalls, Miss, ShelfView, calls_of}
use Rattle.gcx_io.specs.Calls.{read_call, write_call, ReadsOnce, WritesHandle}

-- what is seen of such a shelf
abbrev seen_of : List HandleCalls → List Miss → (faults write_faults : ℕ) → ShelfView
seen_of given refused faults write_faults =
    record { names = None; given = map untold given; refused = refused; faults = faults; write_faults = write_faults }

there : (given : List HandleCalls) (h : ℕ) (x : HandleCalls) → h < length given → x ≡ get_or given h x → slice_get (map untold given) h ≡ Some (untold x)
there [] h x within is = absurd (omega (arith, within))
there (y ∷ given) zero x within is = ap (λ (z : HandleCalls). Some (untold z)) (sym is)
there (y ∷ given) (suc h) x within is = there given h x (omega (arith, within)) is

tells_none : {E : Type 0} (r : Result ℕ E) (buf : List ℕ) → ReadConsumes None None r buf
tells_none (Ok n) buf = (tt, λ none room. tt)
tells_none (Err e) buf = tt

pub files_read : {E : Type 0} (given given' : List HandleCalls) (refused : List Miss) (f f' w h : ℕ) (x x' : HandleCalls) (r : Result ℕ E) (buf : List ℕ) → h < length given → x ≡ get_or given h x
    → given' ≡ slice_set given h x' → x' ≡ record x { calls = x.calls ++ read_call r buf ∷ [] } → HasCause f f' r → OnOk r (f' ≡ f) → ReadsOnce h (seen_of given refused f w) (seen_of given' refused f' w) r buf
files_read given given' refused f f' w h x x' r buf within at set called cause calm = record {
  old = untold x;
  new = untold x';
  was = there given h x within at;
  given = ap (map untold) set ∙ map-set untold given h x';
  name = ap (λ (z : HandleCalls). z.name) called;
  calls = ap (λ (z : HandleCalls). z.calls) called;
  left = tells_none r buf;
  names = refl;
  refused = refl;
  faults = cause;
  calm = calm;
  write_faults = refl;
}

calls_seen : (given : List HandleCalls) → map calls_of (map untold given) ≡ given
calls_seen [] = refl
calls_seen (h ∷ given) = ap (λ l. h ∷ l) (calls_seen given)

pub files_write : {E : Type 0} (given given' : List HandleCalls) (refused : List Miss) (f w w' h : ℕ) (x x' : HandleCalls) (r : Result ℕ E) (piece : List ℕ) → h < length given → x ≡ get_or given h x
    → given' ≡ slice_set given h x' → x' ≡ record x { calls = x.calls ++ write_call r piece ∷ [] } → HasCause w w' r → OnOk r (w' ≡ w)
    → WritesHandle h (seen_of given refused f w) (seen_of given' refused f w') r piece
files_write given given' refused f w w' h x x' r piece within at set called cause calm = record {
  old = untold x;
  was = there given h x within at;
  given = calls_seen given' ∙ set ∙ ap (λ (z : HandleCalls). slice_set given h z) called
      ∙ ap (λ (l : List HandleCalls). slice_set l h (record { name = x.name; calls = x.calls ++ write_call r piece ∷ [] })) (sym (calls_seen given));
  refused = refl;
  faults = refl;
  write_faults = cause;
  calm = calm;
}
