-- The reading of DOC through a shelf, from what its source gave.
use Rattle.std.proofs.Common.{◌≡◌, ℕ, zero, suc, ◌+◌, ◌<◌, ◌≤◌, List, [], ◌∷◌, ◌++◌, length, map, slice_get, Option, Some, refl, sym, ap, subst, ◌∙◌, arith}
use Rattle.std.specs.Prelude.{option_map}
use Rattle.std.specs.Io.KnownBytes.{Consumes, IsAtEnd}
use Rattle.std.proofs.lemmas.List.{length_push}
use Rattle.gcx_io.specs.Calls.{GivesHandle, fresh}
use Rattle.gcx_io.specs.Opened.{KeepsOthers, name_of}
use Rattle.gcx_io.specs.Shelf.{content_of}
use Rattle.gcx_io.specs.Views.{Call, Gave, HandleView, ShelfView, SourceView, calls_at}
use Rattle.gcx_io.specs.Writing.{joined}
use Rattle.run_words.specs.Reading.{SourceGave}
use Rattle.run_words.specs.Stops.{Stop, last_call}
use Rattle.gcx_cmd.proofs.Lists.{slice_get_push, slice_get_before}
use Rattle.gcx_cmd.specs.Reads.{Reads, Opens, KeepsShelf}

slice_get_some : {X : Type 0} (xs : List X) (k : ℕ) → k < length xs → (x : X) × (slice_get xs k ≡ Some x)
slice_get_some [] k within = absurd (omega (arith, within))
slice_get_some (x ∷ xs) zero within = (x, refl)
slice_get_some (x ∷ xs) (suc k) within = slice_get_some xs k (omega (arith, within))

calls_is : (given : List HandleView) (h : ℕ) (v : HandleView) → slice_get given h ≡ Some v → calls_at given h ≡ v.calls
calls_is given h v at = cc

name_is : (given : List HandleView) (h : ℕ) (v : HandleView) (name : List ℕ) → slice_get given h ≡ Some v → name_of given h ≡ Some name → v.name ≡ name
name_is given h v name at named = cc

some_name : (given : List HandleView) (h : ℕ) (v : HandleView) → slice_get given h ≡ Some v → name_of given h ≡ Some v.name
some_name given h v at = ap (λ (o : Option HandleView). option_map (λ (w : HandleView). w.name) o) at

-- A shelf before and behind the reading of one handle that it gave now. `left` is what each handle has left.
module _ (name : List ℕ) (a m b : ShelfView) (h : ℕ) (left_m left_b : ℕ → Option (List ℕ)) (named_m named_b : ℕ → Option (List ℕ))
    (gives : GivesHandle name (content_of a.names name) a m h) (names : m.names ≡ a.names)
    (others : KeepsOthers named_m named_b m b h) (names_on : b.names ≡ m.names) (count : length b.given ≡ length m.given)
    (lefts_m : (k : ℕ) (v : HandleView) → slice_get m.given k ≡ Some v → left_m k ≡ v.left)
    (lefts_b : (k : ℕ) (v : HandleView) → slice_get b.given k ≡ Some v → left_b k ≡ v.left) where
  abbrev opened : HandleView
  opened = fresh name (content_of a.names name)

  at_opened : slice_get m.given h ≡ Some opened
  at_opened = ap (λ (l : List HandleView). slice_get l h) gives.given ∙ ap (λ (k : ℕ). slice_get (a.given ++ opened ∷ []) k) gives.number ∙ slice_get_push a.given opened

  one_more : length m.given ≡ length a.given + 1
  one_more = ap length gives.given ∙ length_push a.given opened

  pub doc_opens : Opens 1 a b
  doc_opens = record { count = count ∙ one_more; refused = others.refused ∙ gives.refused }

  handle : (v : HandleView) × (slice_get b.given h ≡ Some v)
  handle = slice_get_some b.given h (omega (arith, gives.number, count, one_more))

  pub doc_keeps : a.faults ≤ b.faults → KeepsShelf a b
  doc_keeps later = record {
    names = names_on ∙ names;
    given = λ k within. others.others k (λ e. absurd (omega (arith, e, within, gives.number)))
        ∙ ap (λ (l : List HandleView). slice_get l k) gives.given ∙ slice_get_before a.given opened k within;
    faults = later;
    write_faults = others.write_faults ∙ gives.write_faults;
  }

  pub doc_reads : (s t : SourceView) (pieces : List (List ℕ)) (stop : Stop) → s.calls ≡ calls_at m.given h → t.calls ≡ calls_at b.given h
      → s.left ≡ left_m h → t.left ≡ left_b h → SourceGave s t pieces stop → Reads name (length a.given) a b pieces stop
  doc_reads s t pieces stop calls_s calls_t left_s left_t gave =
      let v = handle.0 in
      let left_now : t.left ≡ v.left = left_t ∙ lefts_b h v handle.1 in
      let left_then : s.left ≡ content_of a.names name = left_s ∙ lefts_m h opened at_opened in
      subst (λ (k : ℕ). Reads name k a b pieces stop) gives.number (record {
        handle = v;
        at = handle.1;
        named = name_is b.given h v name handle.1 (others.name ∙ some_name m.given h opened at_opened);
        some = gave.some;
        calls = sym (calls_is b.given h v handle.1) ∙ sym calls_t ∙ gave.calls
            ∙ ap (λ (l : List Call). l ++ map (Gave 65536) pieces ++ last_call 65536 stop) (calls_s ∙ calls_is m.given h opened at_opened);
        told = subst (λ (o : Option (List ℕ)). Consumes (content_of a.names name) o (joined pieces)) left_now
            (subst (λ (o : Option (List ℕ)). Consumes o t.left (joined pieces)) left_then gave.told);
        at_end = λ e. subst IsAtEnd left_now (gave.at_end e);
      })
