-- The file of a name.
use Rattle.std.proofs.Common.{◌≡◌, ℕ, ◌<◌, ◌≤◌, true, false, List, [], ◌∷◌, length, get_or, slice_get, Some, sym, ◌∙◌, ap, cond, arith, refl, zero, suc}
use Rattle.std.specs.Prelude.{unwrap_or, ⊤}
use Rattle.std.specs.declared.option.Option.{Option}
use Rattle.std.specs.Str.{bytes_eq}
use Rattle.std.proofs.lemmas.Slice.Eq.{bytes_eq-Decides}
use Rattle.std.proofs.lemmas.Option.{slice_get-get_or}
use Rattle.gcx_io.specs.Held.{File, held, room_of, with_file}
use Rattle.gcx_io.specs.Files.{IsPlaceOf, IsNewTo}

-- none of the first i files has the name
abbrev pub Passes : (name : List ℕ) → List File → ℕ → Type 0
Passes name files zero = ⊤
Passes name [] (suc i) = ⊤
Passes name (f ∷ fs) (suc i) = (bytes_eq f.name name ≡ false) × Passes name fs i

pub passes_on : (name : List ℕ) (files : List File) (i : ℕ) (x : File) → Passes name files i → i < length files → x ≡ get_or files i x → bytes_eq x.name name ≡ false → Passes name files (suc i)
passes_on name [] i x p within is other = absurd (omega arith)
passes_on name (f ∷ fs) zero x p within is other = (ap (λ (g : File). bytes_eq g.name name) (sym is) ∙ other, tt)
passes_on name (f ∷ fs) (suc i) x p within is other = (p.0, passes_on name fs i x p.1 (omega arith) is other)

-- where the first file of a name stands, another of that name is put
set_at : (f g : File) (fs : List File) (name : List ℕ) (b : _) → bytes_eq f.name name ≡ b → g.name ≡ name → with_file g (f ∷ fs) ≡ cond b (g ∷ fs) (f ∷ with_file g fs)
set_at f g fs name b is named = ap (λ b'. cond b' (g ∷ fs) (f ∷ with_file g fs)) (ap (λ (n : List ℕ). bytes_eq f.name n) named ∙ is)

found : (name : List ℕ) (files : List File) (i : ℕ) → Passes name files i → i < length files → ((x : File) → slice_get files i ≡ Some x → bytes_eq x.name name ≡ true) → IsPlaceOf name files i
found name [] i p within same = absurd (omega arith)
found name (f ∷ fs) zero p within same =
    let e : bytes_eq f.name name ≡ true = same f refl in
    record {
      file = f;
      within = within;
      at = refl;
      is_named = (bytes_eq-Decides f.name name).0 e;
      bytes = ap (λ b. cond b (Some f.bytes) (held fs name)) e;
      room = ap (λ b. cond b f.room (room_of fs name)) e;
      set = λ g named. set_at f g fs name true e named;
    }
found name (f ∷ fs) (suc i) p within same =
    let rest = found name fs i p.1 (omega arith) same in
    record {
      file = rest.file;
      within = within;
      at = rest.at;
      is_named = rest.is_named;
      bytes = ap (λ b. cond b (Some f.bytes) (held fs name)) p.0 ∙ rest.bytes;
      room = ap (λ b. cond b f.room (room_of fs name)) p.0 ∙ rest.room;
      set = λ g named. set_at f g fs name false p.0 named ∙ ap (λ l. f ∷ l) (rest.set g named);
    }

pub found_at : (name : List ℕ) (files : List File) (i : ℕ) (x : File) → Passes name files i → i < length files → x ≡ get_or files i x → bytes_eq x.name name ≡ true → IsPlaceOf name files i
found_at name files i x p within is same = found name files i p within (λ y at.
    let e : y ≡ x = ap (λ (o : Option File). unwrap_or o x) (sym at ∙ slice_get-get_or files i x within) ∙ sym is in
    ap (λ (z : File). bytes_eq z.name name) e ∙ same)

pub not_found : (name : List ℕ) (files : List File) (i : ℕ) → length files ≤ i → Passes name files i → IsNewTo name files
not_found name [] i all p = record {
  bytes = refl;
  room = refl;
  set = λ g named. refl;
}
not_found name (f ∷ fs) zero all p = absurd (omega arith)
not_found name (f ∷ fs) (suc i) all p =
    let rest = not_found name fs i (omega arith) p.1 in
    record {
      bytes = ap (λ b. cond b (Some f.bytes) (held fs name)) p.0 ∙ rest.bytes;
      room = ap (λ b. cond b f.room (room_of fs name)) p.0 ∙ rest.room;
      set = λ g named. set_at f g fs name false p.0 named ∙ ap (λ l. f ∷ l) (rest.set g named);
    }
