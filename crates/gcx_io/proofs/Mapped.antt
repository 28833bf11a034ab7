-- What names hold behind a change of one.
use Rattle.std.proofs.Common.{◌≡◌, ◌≢◌, ℕ, ◌≤◌, ◌+◌, Bool, true, false, List, [], ◌∷◌, ◌++◌, length, Some, None, sym, ◌∙◌, ap, subst, cond, arith, refl, get_or, slice_set, ◌<◌}
use Rattle.std.specs.Prelude.{unwrap_or}
use Rattle.std.specs.declared.option.Option.{Option}
use Rattle.std.specs.Str.{bytes_eq}
use Rattle.std.proofs.lemmas.Slice.Eq.{bytes_eq-Decides}
use Rattle.gcx_io.specs.Held.{File, held, held_or_none, room_of, with_file}
use Rattle.std.proofs.lemmas.Option.{slice_get-get_or}
use Rattle.gcx_io.specs.Files.{while_whole, Sets, KeepsInFile, IsPlaceOf}
use Rattle.gcx_io.specs.Shelf.{Maps, Appends}

abbrev IsTrueBool : Bool → Type 0
IsTrueBool true = Unit {0}
IsTrueBool false = ⊥

pub apart : true ≡ false → ⊥
apart e = subst IsTrueBool e tt

same_name : (name : List ℕ) → bytes_eq name name ≡ true
same_name name = (bytes_eq-Decides name name).1 refl

other_name : (name other : List ℕ) → other ≢ name → bytes_eq name other ≡ false
other_name name other differs = go (bytes_eq name other) refl
  where
    go : (b : Bool) → bytes_eq name other ≡ b → b ≡ false
    go true e = absurd (differs (sym ((bytes_eq-Decides name other).0 e)))
    go false e = refl

held_same : (f : File) (files : List File) → held (with_file f files) f.name ≡ Some f.bytes
held_same f [] = ap (λ b. cond b (Some f.bytes) None) (same_name f.name)
held_same f (g ∷ gs) = go (bytes_eq g.name f.name) refl (held_same f gs)
  where
    go : (b : Bool) → bytes_eq g.name f.name ≡ b → held (with_file f gs) f.name ≡ Some f.bytes → held (cond b (f ∷ gs) (g ∷ with_file f gs)) f.name ≡ Some f.bytes
    go true e rest = ap (λ b. cond b (Some f.bytes) (held gs f.name)) (same_name f.name)
    go false e rest = ap (λ b. cond b (Some g.bytes) (held (with_file f gs) f.name)) e ∙ rest

held_other : (f : File) (files : List File) (other : List ℕ) → other ≢ f.name → held (with_file f files) other ≡ held files other
held_other f [] other differs = ap (λ b. cond b (Some f.bytes) None) (other_name f.name other differs)
held_other f (g ∷ gs) other differs = go (bytes_eq g.name f.name) refl (held_other f gs other differs)
  where
    go : (b : Bool) → bytes_eq g.name f.name ≡ b → held (with_file f gs) other ≡ held gs other → held (cond b (f ∷ gs) (g ∷ with_file f gs)) other ≡ held (g ∷ gs) other
    go true e rest =
        let g_is : g.name ≡ f.name = (bytes_eq-Decides g.name f.name).0 e in
        ap (λ b. cond b (Some f.bytes) (held gs other)) (other_name f.name other differs)
        ∙ sym (ap (λ b. cond b (Some g.bytes) (held gs other)) (other_name g.name other (subst (λ (n : List ℕ). other ≢ n) (sym g_is) differs)))
    go false e rest = ap (λ o. cond (bytes_eq g.name other) (Some g.bytes) o) rest

-- what each name holds, where the shelf tells only those that it was given, or all
abbrev pub Told : (all : Bool) → List File → List ℕ → Option (List ℕ)
Told false files = held files
Told true files = λ name. Some (held_or_none files name)

with_maps : (all : Bool) (f : File) (files : List File) → Maps (Some (Told all files)) (Some (Told all (with_file f files))) f.name f.bytes
with_maps false f files = (held_same f files, λ other differs. held_other f files other differs)
with_maps true f files = (ap (λ (o : Option (List ℕ)). Some (unwrap_or o [])) (held_same f files), λ other differs. ap (λ (o : Option (List ℕ)). Some (unwrap_or o [])) (held_other f files other differs))

pub sets_maps : (all whole : Bool) (before after : List File) (name bytes : List ℕ) (least : ℕ) → Sets before after name bytes least
    → Maps (while_whole whole (Some (Told all before))) (while_whole whole (Some (Told all after))) name bytes
sets_maps all false before after name bytes least s = tt
sets_maps all true before after name bytes least s =
    subst (λ (l : List File). Maps (Some (Told all before)) (Some (Told all l)) name bytes) (sym s.set) (with_maps all (record { name = name; bytes = bytes; room = s.room }) before)

held_before : (all : Bool) (files : List File) (name : List ℕ) → unwrap_or (Told all files name) [] ≡ held_or_none files name
held_before false files name = refl
held_before true files name = refl

-- where a piece is kept, it stands behind what the name held
pub keeps_append : (all whole kept : Bool) (before after : List File) (name piece : List ℕ) → (whole ≡ true → KeepsInFile kept before after name piece) → (whole ≡ false → kept ≡ false)
    → (owner : Option (List ℕ)) → owner ≡ Some name → Appends (while_whole whole (Some (Told all before))) (while_whole kept (Some (Told all after))) owner piece
keeps_append all false false before after name piece k lost owner is = tt
keeps_append all false true before after name piece k lost owner is = absurd (apart (lost refl))
keeps_append all true false before after name piece k lost owner is = tt
keeps_append all true true before after name piece k lost owner is = λ n same.
    let kept = k refl in
    let n_is : name ≡ n = ap (λ (o : Option (List ℕ)). unwrap_or o n) (sym is ∙ same) in
    subst (λ (m : List ℕ). Maps (Some (Told all before)) (Some (Told all after)) m (unwrap_or (Told all before m) [] ++ piece)) n_is
    (subst (λ (l : List File). Maps (Some (Told all before)) (Some (Told all l)) name (unwrap_or (Told all before name) [] ++ piece)) (sym kept.2)
    (subst (λ (b : List ℕ). Maps (Some (Told all before)) (Some (Told all (with_file (record { name = name; bytes = held_or_none before name ++ piece; room = kept.0 }) before))) name (b ++ piece)) (sym (held_before all before name))
    (with_maps all (record { name = name; bytes = held_or_none before name ++ piece; room = kept.0 }) before)))

-- a file of the same bytes changes nothing that is held
pub same_held : (f : File) (files : List File) → held files f.name ≡ Some f.bytes → (n : List ℕ) → held (with_file f files) n ≡ held files n
same_held f files is n = go (bytes_eq f.name n) refl
  where
    go : (b : Bool) → bytes_eq f.name n ≡ b → held (with_file f files) n ≡ held files n
    go true e = subst (λ (m : List ℕ). held (with_file f files) m ≡ held files m) ((bytes_eq-Decides f.name n).0 e) (held_same f files ∙ sym is)
    go false e = held_other f files n (λ same. apart (sym (same_name f.name) ∙ ap (λ (m : List ℕ). bytes_eq f.name m) (sym same) ∙ e))

file_is : (f : File) (name bytes : List ℕ) → f.name ≡ name → f.bytes ≡ bytes → f ≡ record { name = name; bytes = bytes; room = f.room }
file_is f name bytes n b = ap (λ (m : List ℕ). record { name = m; bytes = f.bytes; room = f.room }) n ∙ ap (λ (l : List ℕ). record { name = name; bytes = l; room = f.room }) b

-- a piece behind the bytes of the file of the name
pub keeps_at : (kept : Bool) (before : List File) (i : ℕ) (x g : File) (name piece : List ℕ) → IsPlaceOf name before i → x ≡ get_or before i x → g.name ≡ x.name
    → (kept ≡ true → (g.bytes ≡ x.bytes ++ piece) × (x.room ≤ g.room + length piece)) → (kept ≡ false → (g.bytes ≡ x.bytes) × (x.room < length piece))
    → KeepsInFile kept before (slice_set before i g) name piece
keeps_at kept before i x g name piece p is named more less = go kept refl
  where
    same : p.file ≡ x
    same = ap (λ (o : Option File). unwrap_or o x) (sym p.at ∙ slice_get-get_or before i x p.within) ∙ sym is

    g_named : g.name ≡ name
    g_named = named ∙ ap (λ (f : File). f.name) (sym same) ∙ p.is_named

    bytes_are : held before name ≡ Some x.bytes
    bytes_are = p.bytes ∙ ap (λ (f : File). Some f.bytes) same

    room_is : room_of before name ≡ x.room
    room_is = p.room ∙ ap (λ (f : File). f.room) same

    go : (b : Bool) → kept ≡ b → KeepsInFile b before (slice_set before i g) name piece
    go true e =
        let m = more e in
        let bytes : g.bytes ≡ held_or_none before name ++ piece = m.0 ∙ ap (λ (o : Option (List ℕ)). unwrap_or o [] ++ piece) (sym bytes_are) in
        (g.room, omega (arith, room_is, m.1), sym (p.set g g_named) ∙ ap (λ (f : File). with_file f before) (file_is g name (held_or_none before name ++ piece) g_named bytes))
    go false e =
        let l = less e in
        let holds : held before g.name ≡ Some g.bytes = ap (held before) g_named ∙ bytes_are ∙ ap Some (sym l.0) in
        (subst (λ (after : List File). (n : List ℕ) → held after n ≡ held before n) (p.set g g_named) (same_held g before holds), omega (arith, room_is, l.1))
