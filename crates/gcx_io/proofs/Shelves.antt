-- What shelves in memory tell behind their calls.
use Rattle.std.proofs.Common.{◌≡◌, ℕ, ◌<◌, Bool, true, false, List, [], length, slice_get, Some, None, sym, ◌∙◌, ap, subst, refl}
use Rattle.std.specs.Prelude.{unwrap_or}
use Rattle.std.specs.declared.option.Option.{Option}
use Rattle.gcx_io.specs.Held.{OpenHandle, held, held_or_none, name_at, read_at}
use Rattle.gcx_io.specs.Files.{OpenFiles, while_whole, rests, owners, handle_count, names_of, opened, Sets, KeepsInFile}
use Rattle.gcx_io.specs.Shelf.{Names, content_of, Adds, AddsName, Appends, LeavesOthers, Maps}
use Rattle.gcx_io.proofs.Handles.{name_there, count_read, names_read, others_stay, opened_adds, opened_names}
use Rattle.gcx_io.proofs.Mapped.{Told, sets_maps, keeps_append}

-- ---- attach

pub opens_adds : (old new : OpenFiles) (name rest : List ℕ) (handle : ℕ) → new.openings ≡ opened name rest old.openings → handle ≡ length old.openings → Adds (handle_count old) (handle_count new) handle
opens_adds old new name rest handle openings number =
    subst (λ (os : List OpenHandle). Adds (length old.openings) (length os) handle) (sym openings) (opened_adds old.openings name rest handle number)

pub attach_names : (names : Names) (old new : OpenFiles) (name rest : List ℕ) (handle : ℕ) → new ≡ record old { openings = opened name rest old.openings } → handle ≡ length old.openings
    → AddsName names (owners old) (owners new) name handle
attach_names names old new name rest handle is number =
    subst (λ (f : OpenFiles). AddsName names (owners old) (owners f) name handle) (sym is) (opened_names names old.openings name rest handle number)

some_is : (o : Option (List ℕ)) → (o ≡ None → ⊥) → o ≡ Some (unwrap_or o [])
some_is None some = absurd (some refl)
some_is (Some x) some = refl

-- what a name that is there holds
pub held_content : (whole : Bool) (old : OpenFiles) (name : List ℕ) → (held old.files name ≡ None → ⊥) → content_of (while_whole whole (Some (held old.files))) name ≡ while_whole whole (Some (held_or_none old.files name))
held_content true old name there = some_is (held old.files name) there
held_content false old name there = refl

-- ---- create

content_set : (all whole : Bool) (before after : OpenFiles) (name : List ℕ) (least : ℕ) → Sets before.files after.files name [] least
    → content_of (while_whole whole (Some (Told all after.files))) name ≡ while_whole whole (Some [])
content_set all false before after name least s = refl
content_set all true before after name least s = (sets_maps all true before.files after.files name [] least s).0

-- what a name holds that was made
pub set_content : (all : Bool) (old new : OpenFiles) (name : List ℕ) (least : ℕ) → Sets old.files new.files name [] least → new.whole ≡ old.whole
    → content_of (while_whole new.whole (Some (Told all new.files))) name ≡ while_whole old.whole (Some [])
set_content all old new name least sets whole =
    ap (λ (w : Bool). content_of (while_whole w (Some (Told all new.files))) name) whole ∙ content_set all old.whole old new name least sets

pub create_names : (names : Names) (old new : OpenFiles) (name : List ℕ) (handle : ℕ) → new.openings ≡ opened name [] old.openings → handle ≡ length old.openings → AddsName names (owners old) (owners new) name handle
create_names names old new name handle openings number =
    subst (λ (os : List OpenHandle). AddsName names (slice_get (names_of old.openings)) (slice_get (names_of os)) name handle) (sym openings) (opened_names names old.openings name [] handle number)

pub create_maps : (all : Bool) (old new : OpenFiles) (name : List ℕ) (least : ℕ) → Sets old.files new.files name [] least → new.whole ≡ old.whole
    → Maps (while_whole old.whole (Some (Told all old.files))) (while_whole new.whole (Some (Told all new.files))) name []
create_maps all old new name least sets whole =
    subst (λ (w : Bool). Maps (while_whole old.whole (Some (Told all old.files))) (while_whole w (Some (Told all new.files))) name []) (sym whole) (sets_maps all old.whole old.files new.files name [] least sets)

-- ---- write

pub write_appends : (all : Bool) (old new : OpenFiles) (os : List OpenHandle) (handle : ℕ) (piece : List ℕ) → handle < length old.openings
    → (old.whole ≡ true → KeepsInFile new.whole old.files new.files (name_at old.openings handle) piece) → (old.whole ≡ false → new ≡ record old { openings = os })
    → Appends (while_whole old.whole (Some (Told all old.files))) (while_whole new.whole (Some (Told all new.files))) (owners old handle) piece
write_appends all old new os handle piece given keeps lost =
    keeps_append all old.whole new.whole old.files new.files (name_at old.openings handle) piece keeps (λ e. ap (λ (f : OpenFiles). f.whole) (lost e) ∙ e) (owners old handle) (name_there old.openings handle given)

-- ---- read

pub read_others : (old new : OpenFiles) (handle asked n : ℕ) → new ≡ record old { openings = read_at old.openings handle asked n } → LeavesOthers (rests old) (rests new) handle
read_others old new handle asked n is = subst (λ (f : OpenFiles). LeavesOthers (rests old) (rests f) handle) (sym is) (others_stay old.whole old.openings handle asked n)

pub read_names : (old new : OpenFiles) (handle asked n : ℕ) → new ≡ record old { openings = read_at old.openings handle asked n } → owners new ≡ owners old
read_names old new handle asked n is = ap (λ (f : OpenFiles). owners f) is ∙ ap (λ (l : List (List ℕ)). slice_get l) (names_read old.openings handle asked n)

pub read_count : (old new : OpenFiles) (handle asked n : ℕ) → new ≡ record old { openings = read_at old.openings handle asked n } → handle_count new ≡ handle_count old
read_count old new handle asked n is = ap (λ (f : OpenFiles). handle_count f) is ∙ count_read old.openings handle asked n
