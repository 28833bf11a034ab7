-- What handles have left, and their names.
use Rattle.std.proofs.Common.{inl, inr, ◌≡◌, ◌≢◌, ℕ, ◌<◌, Bool, true, false, List, [], ◌∷◌, ◌++◌, length, take, get_or, slice_get, slice_set, Some, sym, ◌∙◌, ap, subst, arith, refl, zero, suc, length-append}
use Rattle.std.specs.declared.option.Option.{Option}
use Rattle.std.specs.Io.KnownBytes.{Consumes, IsAtEnd}
use Rattle.gcx_io.specs.Held.{OpenHandle, rest_at, name_at, read_opening, read_at, noted_opening, noted_at}
use Rattle.gcx_io.specs.Files.{while_whole, opened, names_of, rests_of, told_rest}
use Rattle.gcx_io.specs.Views.{Call}
use Rattle.gcx_io.specs.Shelf.{Adds, AddsName, LeavesOthers, Names, OthersStay}
use Rattle.gcx_io.proofs.Mapped.{apart}

pub name_there : (os : List OpenHandle) (handle : ℕ) → handle < length os → slice_get (names_of os) handle ≡ Some (name_at os handle)
name_there [] handle given = absurd (omega arith)
name_there (o ∷ os) zero given = refl
name_there (o ∷ os) (suc handle) given = name_there os handle (omega arith)

other_read : (os : List OpenHandle) (handle asked n k : ℕ) → k ≢ handle → slice_get (rests_of (read_at os handle asked n)) k ≡ slice_get (rests_of os) k
other_read [] handle asked n k other = refl
other_read (o ∷ os) zero asked n zero other = absurd (other refl)
other_read (o ∷ os) zero asked n (suc k) other = refl
other_read (o ∷ os) (suc handle) asked n zero other = refl
other_read (o ∷ os) (suc handle) asked n (suc k) other = other_read os handle asked n k (λ same. other (ap suc same))

pub count_read : (os : List OpenHandle) (handle asked n : ℕ) → length (read_at os handle asked n) ≡ length os
count_read [] handle asked n = refl
count_read (o ∷ os) zero asked n = refl
count_read (o ∷ os) (suc handle) asked n = ap suc (count_read os handle asked n)

pub names_read : (os : List OpenHandle) (handle asked n : ℕ) → names_of (read_at os handle asked n) ≡ names_of os
names_read [] handle asked n = refl
names_read (o ∷ os) zero asked n = refl
names_read (o ∷ os) (suc handle) asked n = ap (λ l. o.name ∷ l) (names_read os handle asked n)

pub read_set : (os : List OpenHandle) (handle asked n : ℕ) (o : OpenHandle) → handle < length os → o ≡ get_or os handle o → slice_set os handle (read_opening asked n o) ≡ read_at os handle asked n
read_set [] handle asked n o given is = absurd (omega arith)
read_set (x ∷ os) zero asked n o given is = ap (λ (y : OpenHandle). read_opening asked n y ∷ os) is
read_set (x ∷ os) (suc handle) asked n o given is = ap (λ l. x ∷ l) (read_set os handle asked n o (omega arith) is)

pub rest_is : (os : List OpenHandle) (handle : ℕ) (o : OpenHandle) → handle < length os → o ≡ get_or os handle o → rest_at os handle ≡ o.rest
rest_is [] handle o given is = absurd (omega arith)
rest_is (x ∷ os) zero o given is = ap (λ (y : OpenHandle). y.rest) (sym is)
rest_is (x ∷ os) (suc handle) o given is = rest_is os handle o (omega arith) is

pub name_is : (os : List OpenHandle) (handle : ℕ) (o : OpenHandle) → handle < length os → o ≡ get_or os handle o → name_at os handle ≡ o.name
name_is [] handle o given is = absurd (omega arith)
name_is (x ∷ os) zero o given is = ap (λ (y : OpenHandle). y.name) (sym is)
name_is (x ∷ os) (suc handle) o given is = name_is os handle o (omega arith) is

pub others_stay : (whole : Bool) (os : List OpenHandle) (handle asked n : ℕ) → LeavesOthers (told_rest whole os) (told_rest whole (read_at os handle asked n)) handle
others_stay whole os handle asked n k other = ap (λ (o : Option (List ℕ)). while_whole whole o) (other_read os handle asked n k other)

-- n bytes at the front of what was left, none only at the end
abbrev pub Consumed : Option (List ℕ) → Option (List ℕ) → ℕ → List ℕ → Type 0
Consumed before after n buf = Consumes before after (take n buf) × (n ≡ 0 → 0 < length buf → IsAtEnd after)

-- ---- a handle more

pub opened_adds : (os : List OpenHandle) (name rest : List ℕ) (handle : ℕ) → handle ≡ length os → Adds (length os) (length (opened name rest os)) handle
opened_adds os name rest handle is = record {
  number = is;
  count = length-append os (record { name = name; rest = rest; calls = [] } ∷ []);
}

last_name : (os : List OpenHandle) (o : OpenHandle) → slice_get (names_of (os ++ o ∷ [])) (length os) ≡ Some o.name
last_name [] o = refl
last_name (x ∷ os) o = last_name os o

front_name : (os : List OpenHandle) (o : OpenHandle) (k : ℕ) → k < length os → slice_get (names_of (os ++ o ∷ [])) k ≡ slice_get (names_of os) k
front_name [] o k given = absurd (omega arith)
front_name (x ∷ os) o zero given = refl
front_name (x ∷ os) o (suc k) given = front_name os o k (omega arith)

pub opened_names : (names : Names) (os : List OpenHandle) (name rest : List ℕ) (handle : ℕ) → handle ≡ length os
    → AddsName names (slice_get (names_of os)) (slice_get (names_of (opened name rest os))) name handle
opened_names names os name rest handle is = record {
  owner = λ telling. ap (λ (k : ℕ). slice_get (names_of (opened name rest os)) k) is ∙ last_name os (record { name = name; rest = rest; calls = [] });
  others = λ k given. front_name os (record { name = name; rest = rest; calls = [] }) k (subst (λ (h : ℕ). k < h) is given);
}

-- ---- a call more that read nothing

pub count_noted : (os : List OpenHandle) (handle : ℕ) (call : Call) → length (noted_at os handle call) ≡ length os
count_noted [] handle call = refl
count_noted (o ∷ os) zero call = refl
count_noted (o ∷ os) (suc handle) call = ap suc (count_noted os handle call)

pub names_noted : (os : List OpenHandle) (handle : ℕ) (call : Call) → names_of (noted_at os handle call) ≡ names_of os
names_noted [] handle call = refl
names_noted (o ∷ os) zero call = refl
names_noted (o ∷ os) (suc handle) call = ap (λ l. o.name ∷ l) (names_noted os handle call)

pub rests_noted : (os : List OpenHandle) (handle : ℕ) (call : Call) → rests_of (noted_at os handle call) ≡ rests_of os
rests_noted [] handle call = refl
rests_noted (o ∷ os) zero call = refl
rests_noted (o ∷ os) (suc handle) call = ap (λ l. o.rest ∷ l) (rests_noted os handle call)

pub noted_set : (os : List OpenHandle) (handle : ℕ) (call : Call) (o : OpenHandle) → handle < length os → o ≡ get_or os handle o → slice_set os handle (noted_opening call o) ≡ noted_at os handle call
noted_set [] handle call o given is = absurd (omega arith)
noted_set (x ∷ os) zero call o given is = ap (λ (y : OpenHandle). noted_opening call y ∷ os) is
noted_set (x ∷ os) (suc handle) call o given is = ap (λ l. x ∷ l) (noted_set os handle call o (omega arith) is)

-- a shelf that goes on as before, or stops telling
pub stays_whole : (whole kept : Bool) (os : List OpenHandle) (count handle : ℕ) → (whole ≡ false → kept ≡ false)
    → OthersStay (slice_get (names_of os)) (told_rest whole os) (told_rest kept os) count handle
stays_whole false false os count handle lost k given other = inl refl
stays_whole false true os count handle lost k given other = absurd (apart (lost refl))
stays_whole true true os count handle lost k given other = inl refl
stays_whole true false os count handle lost k given other = inr refl
