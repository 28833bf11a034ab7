-- What is seen of shelves in memory behind their calls.
use Rattle.std.proofs.Common.{◌≡◌, ℕ, zero, suc, ◌<◌, min, Bool, true, false, List, [], ◌∷◌, ◌++◌, length, map, take, drop, get_or, slice_get, slice_set, Result, Ok, Err, OnOk, Option, Some, refl, sym, ap, subst, ◌∙◌, arith, length-take-le}
use Rattle.std.proofs.lemmas.List.{map_push, map-set, take_at}
use Rattle.std.proofs.lemmas.Option.{slice_get-map, slice_get-get_or}
use Rattle.std.specs.Prelude.{option_map}
use Rattle.std.specs.Io.KnownBytes.{Keeps}
use Rattle.gcx_io.specs.Causes.{HasCause}
use Rattle.gcx_io.specs.Held.{OpenHandle, held_or_none, rest_at, read_opening, read_at, noted_opening, noted_at}
use Rattle.gcx_io.specs.Files.{OpenFiles, while_whole, all_names, rests, rests_of, told_rest, owners, names_of, handle_count, opened, view_of, views, views_count, files_seen}
use Rattle.gcx_io.specs.Shelf.{Names, content_of, LeavesOthers, OthersStay}
use Rattle.gcx_io.specs.Views.{Call, Gave, Failed, HandleCalls, calls_of}
use Rattle.gcx_io.specs.Calls.{write_call, fresh, GivesHandle, ReadsOnce, WritesHandle}
use Rattle.gcx_io.proofs.Moved.{front_of}
use Rattle.gcx_io.proofs.Handles.{Consumed, count_noted, names_noted, rests_noted, stays_whole}

-- ---- a handle more, and none

pub shelf_gives : (na nb : Names) (f f' w w' : ℕ) (old new : OpenFiles) (name rest : List ℕ) (handle : ℕ) (content : Option (List ℕ)) → f' ≡ f → w' ≡ w
    → new.openings ≡ opened name rest old.openings → new.whole ≡ old.whole → new.refused ≡ old.refused → handle ≡ length old.openings → content ≡ while_whole old.whole (Some rest)
    → GivesHandle name content (files_seen na f w old) (files_seen nb f' w' new) handle
shelf_gives na nb f f' w w' old new name rest handle content ff ww os whole refused number told = record {
  number = number ∙ sym (views_count old.whole old.openings);
  given = ap (λ (b : Bool). views b new.openings) whole ∙ ap (views old.whole) os
      ∙ map_push (view_of old.whole) old.openings (record { name = name; rest = rest; calls = [] })
      ∙ ap (λ (o : Option (List ℕ)). views old.whole old.openings ++ fresh name o ∷ []) (sym told);
  refused = refused;
  faults = ff;
  write_faults = ww;
}

-- what any name holds on a shelf that has every name
pub sure_content : (s : OpenFiles) (name : List ℕ) → content_of (all_names s) name ≡ while_whole s.whole (Some (held_or_none s.files name))
sure_content s name = told s.whole
  where
    told : (whole : Bool) → content_of (while_whole whole (Some (λ n. Some (held_or_none s.files n)))) name ≡ while_whole whole (Some (held_or_none s.files name))
    told true = refl
    told false = refl

-- ---- one handle

nothing : OpenHandle
nothing = record { name = []; rest = []; calls = [] }

-- the handle of a number that was given
abbrev opening_of : List OpenHandle → ℕ → OpenHandle
opening_of os h = get_or os h nothing

there : (os : List OpenHandle) (h : ℕ) → h < length os → slice_get os h ≡ Some (opening_of os h)
there os h given = slice_get-get_or os h nothing given

seen_there : (whole : Bool) (os : List OpenHandle) (h : ℕ) → h < length os → slice_get (views whole os) h ≡ Some (view_of whole (opening_of os h))
seen_there whole os h given = slice_get-map (view_of whole) os h ∙ ap (option_map (view_of whole)) (there os h given)

read_is : (os : List OpenHandle) (h asked n : ℕ) → h < length os → read_at os h asked n ≡ slice_set os h (read_opening asked n (opening_of os h))
read_is [] h asked n given = absurd (omega (arith, given))
read_is (o ∷ os) zero asked n given = refl
read_is (o ∷ os) (suc h) asked n given = ap (λ l. o ∷ l) (read_is os h asked n (omega (arith, given)))

noted_is : (os : List OpenHandle) (h : ℕ) (call : Call) → h < length os → noted_at os h call ≡ slice_set os h (noted_opening call (opening_of os h))
noted_is [] h call given = absurd (omega (arith, given))
noted_is (o ∷ os) zero call given = refl
noted_is (o ∷ os) (suc h) call given = ap (λ l. o ∷ l) (noted_is os h call (omega (arith, given)))

rest_of : (os : List OpenHandle) (h : ℕ) → h < length os → rest_at os h ≡ (opening_of os h).rest
rest_of [] h given = absurd (omega (arith, given))
rest_of (o ∷ os) zero given = refl
rest_of (o ∷ os) (suc h) given = rest_of os h (omega (arith, given))

-- ---- read

-- n bytes at the front of what was left, where that is told
consumed : (whole : Bool) (rest buf now : List ℕ) (n most : ℕ) → 0 < most → 0 < length buf → n ≡ min (min (length rest) (length buf)) most → now ≡ take n rest ++ drop n buf
    → Consumed (while_whole whole (Some rest)) (while_whole whole (Some (drop n rest))) n now
consumed false rest buf now n most some room count moved = (tt, λ none some_room. tt)
consumed true rest buf now n most some room count moved =
    let front = front_of rest buf now n most some room count moved in
    (front.0, λ none some_room. front.1 none)

-- the bytes that were read are those at the front of the buffer
pub front_taken : (rest buf now : List ℕ) (n most : ℕ) → n ≡ min (min (length rest) (length buf)) most → now ≡ take n rest ++ drop n buf → take n now ≡ take n rest
front_taken rest buf now n most count moved =
    ap (λ (l : List ℕ). take n l) moved ∙ take_at (take n rest) (drop n buf) n (length-take-le n rest (omega (arith, count)))

pub shelf_reads : {E : Type 0} (na nb : Names) (f f' w w' : ℕ) (old new : OpenFiles) (h n most : ℕ) (buf now : List ℕ) → nb ≡ na → f' ≡ f → w' ≡ w
    → new ≡ record old { openings = read_at old.openings h (length now) n } → h < length old.openings → 0 < most → 0 < length buf
    → n ≡ min (min (length (rest_at old.openings h)) (length buf)) most → now ≡ take n (rest_at old.openings h) ++ drop n buf
    → ReadsOnce {E = E} h (files_seen na f w old) (files_seen nb f' w' new) (Ok n) now
shelf_reads na nb f f' w w' old new h n most buf now names ff ww is given some room count moved =
    let o : OpenHandle = opening_of old.openings h in
    let rest : rest_at old.openings h ≡ o.rest = rest_of old.openings h given in
    let count' : n ≡ min (min (length o.rest) (length buf)) most = count ∙ ap (λ (l : List ℕ). min (min (length l) (length buf)) most) rest in
    let moved' : now ≡ take n o.rest ++ drop n buf = moved ∙ ap (λ (l : List ℕ). take n l ++ drop n buf) rest in
    record {
      old = view_of old.whole o;
      new = view_of old.whole (read_opening (length now) n o);
      was = seen_there old.whole old.openings h given;
      given = ap (λ (s : OpenFiles). views s.whole s.openings) is ∙ ap (views old.whole) (read_is old.openings h (length now) n given) ∙ map-set (view_of old.whole) old.openings h (read_opening (length now) n o);
      name = refl;
      calls = ap (λ (l : List ℕ). o.calls ++ Gave (length now) l ∷ []) (sym (front_taken o.rest buf now n most count' moved'));
      left = consumed old.whole o.rest buf now n most some room count' moved';
      names = names;
      refused = ap (λ (s : OpenFiles). s.refused) is;
      faults = record { later = omega (arith, ff); failed = tt };
      calm = ff;
      write_faults = ww;
    }

keeps_told : (whole : Bool) (rest : List ℕ) → Keeps (while_whole whole (Some rest)) (while_whole whole (Some rest))
keeps_told false rest = tt
keeps_told true rest = refl

pub shelf_fails : {E : Type 0} (e : E) (na nb : Names) (f f' w w' : ℕ) (old new : OpenFiles) (h : ℕ) (buf : List ℕ) → nb ≡ na → HasCause {T = ℕ} {E = E} f f' (Err e) → w' ≡ w
    → new ≡ record old { openings = noted_at old.openings h Failed } → h < length old.openings → ReadsOnce {E = E} h (files_seen na f w old) (files_seen nb f' w' new) (Err e) buf
shelf_fails e na nb f f' w w' old new h buf names cause ww is given =
    let o : OpenHandle = opening_of old.openings h in
    record {
      old = view_of old.whole o;
      new = view_of old.whole (noted_opening Failed o);
      was = seen_there old.whole old.openings h given;
      given = ap (λ (s : OpenFiles). views s.whole s.openings) is ∙ ap (views old.whole) (noted_is old.openings h Failed given) ∙ map-set (view_of old.whole) old.openings h (noted_opening Failed o);
      name = refl;
      calls = refl;
      left = keeps_told old.whole o.rest;
      names = names;
      refused = ap (λ (s : OpenFiles). s.refused) is;
      faults = cause;
      calm = tt;
      write_faults = ww;
    }

-- ---- a call more that read nothing: what was told is told

pub noted_left : (old new : OpenFiles) (h : ℕ) (call : Call) → new ≡ record old { openings = noted_at old.openings h call } → rests new ≡ rests old
noted_left old new h call is = ap (λ (s : OpenFiles). rests s) is ∙ ap (λ (l : List (List ℕ)). λ (k : ℕ). while_whole old.whole (slice_get l k)) (rests_noted old.openings h call)

pub noted_others : (old new : OpenFiles) (h : ℕ) (call : Call) → new ≡ record old { openings = noted_at old.openings h call } → LeavesOthers (rests old) (rests new) h
noted_others old new h call is k other = ap (λ (g : ℕ → Option (List ℕ)). g k) (noted_left old new h call is)

pub noted_names : (old new : OpenFiles) (h : ℕ) (call : Call) → new.openings ≡ noted_at old.openings h call → owners new ≡ owners old
noted_names old new h call os = ap (λ (l : List OpenHandle). slice_get (names_of l)) os ∙ ap (λ (l : List (List ℕ)). slice_get l) (names_noted old.openings h call)

pub noted_count : (old new : OpenFiles) (h : ℕ) (call : Call) → new.openings ≡ noted_at old.openings h call → handle_count new ≡ handle_count old
noted_count old new h call os = ap (λ (l : List OpenHandle). length l) os ∙ count_noted old.openings h call

-- ---- write

abbrev opening_calls : OpenHandle → HandleCalls
opening_calls o = record { name = o.name; calls = o.calls }

calls_seen : (whole : Bool) (os : List OpenHandle) → map calls_of (views whole os) ≡ map opening_calls os
calls_seen whole [] = refl
calls_seen whole (o ∷ os) = ap (λ l. opening_calls o ∷ l) (calls_seen whole os)

pub shelf_writes : {E : Type 0} (na nb : Names) (f f' w w' : ℕ) (old new : OpenFiles) (h : ℕ) (r : Result ℕ E) (piece : List ℕ) → f' ≡ f → HasCause w w' r → OnOk r (w' ≡ w)
    → new.openings ≡ noted_at old.openings h (write_call r piece) → new.refused ≡ old.refused → h < length old.openings
    → WritesHandle h (files_seen na f w old) (files_seen nb f' w' new) r piece
shelf_writes na nb f f' w w' old new h r piece ff cause calm os refused given =
    let o : OpenHandle = opening_of old.openings h in
    record {
      old = view_of old.whole o;
      was = seen_there old.whole old.openings h given;
      given = calls_seen new.whole new.openings ∙ ap (map opening_calls) (os ∙ noted_is old.openings h (write_call r piece) given)
          ∙ map-set opening_calls old.openings h (noted_opening (write_call r piece) o)
          ∙ ap (λ (l : List HandleCalls). slice_set l h (record { name = o.name; calls = o.calls ++ write_call r piece ∷ [] })) (sym (calls_seen old.whole old.openings));
      refused = refused;
      faults = ff;
      write_faults = cause;
      calm = calm;
    }

-- the handles of other names have left what they had, or that isn't told any more
pub write_others : (old new : OpenFiles) (h : ℕ) (call : Call) (count handle : ℕ) → (old.whole ≡ false → new.whole ≡ false) → new.openings ≡ noted_at old.openings h call
    → OthersStay (owners old) (rests old) (rests new) count handle
write_others old new h call count handle lost os =
    let same : rests new ≡ told_rest new.whole old.openings = ap (λ (l : List (List ℕ)). λ (k : ℕ). while_whole new.whole (slice_get l k)) (ap rests_of os ∙ rests_noted old.openings h call) in
    subst (λ (g : ℕ → Option (List ℕ)). OthersStay (owners old) (rests old) g count handle) (sym same) (stays_whole old.whole new.whole old.openings count handle lost)
