-- How what is seen of a shelf goes on over several calls.
use Rattle.std.proofs.Common.{◌≡◌, ◌⊎◌, inl, inr, ℕ, ◌<◌, ◌≤◌, List, [], ◌∷◌, ◌++◌, take, length, map, slice_get, Result, Ok, Err, Some, refl, sym, ap, subst, ◌∙◌, append-nil, arith}
use Rattle.std.proofs.KnownBytes.{Consumes-nil, Consumes-trans, Consumes-kept}
use Rattle.std.specs.Io.KnownBytes.{Consumes}
use Rattle.std.proofs.lemmas.List.{map_push, length_push, length-set, length-take-le}
use Rattle.std.proofs.lemmas.List.Elements.{All-push}
use Rattle.std.proofs.lemmas.Bool.{cases_lt}
use Rattle.gcx_io.proofs.Written.{joined_push, is_some}
use Rattle.gcx_io.specs.Calls.{GivesHandle, MissesName, ReadsOnce, fresh}
use Rattle.gcx_io.specs.Causes.{Rose}
use Rattle.gcx_io.specs.Shelf.{content_of}
use Rattle.gcx_io.specs.Views.{Call, Gave, Failed, HandleView, ShelfView, missed}
use Rattle.gcx_io.specs.Writing.{IsSomeBytes, joined}
use Rattle.run_words.specs.Stops.{More, EndAnswered, FaultAnswered}
use Rattle.gcx_cmd.proofs.Lists.{slice_get_push, slice_get_set, slice_get_before, slice_get_other}
use Rattle.gcx_cmd.specs.Reads.{ReadsAsking, Opens, Misses, KeepsShelf, Within, PassesIn, most_of_query}

-- ---- a handle that was given now

pub opens_one : (name : List ℕ) (a b : ShelfView) (h : ℕ) → GivesHandle name (content_of a.names name) a b h → Opens 1 a b
opens_one name a b h o = record {
  count = ap length o.given ∙ length_push a.given (fresh name (content_of a.names name));
  refused = o.refused;
}

pub opens_on : {E : Type 0} (n h : ℕ) (a b c : ShelfView) (r : Result ℕ E) (buf : List ℕ) → Opens n a b → ReadsOnce h b c r buf → Opens n a c
opens_on n h a b c r buf opens once = record {
  count = ap length once.given ∙ length-set b.given h once.new ∙ opens.count;
  refused = once.refused ∙ opens.refused;
}

pub misses_none : (name : List ℕ) (a b : ShelfView) → MissesName name a b → Misses 0 name a b
misses_none name a b m = record { count = omega (arith, ap length m.given); refused = m.refused ∙ ap (λ (k : ℕ). a.refused ++ missed name k ∷ []) (omega arith) }

pub reads_none : {asked : ℕ} (name : List ℕ) (a b : ShelfView) (h : ℕ) → GivesHandle name (content_of a.names name) a b h → ReadsAsking asked name h a b [] More
reads_none name a b h o = record {
  handle = fresh name (content_of a.names name);
  at = ap (λ (l : List HandleView). slice_get l h) o.given
      ∙ ap (λ (k : ℕ). slice_get (a.given ++ fresh name (content_of a.names name) ∷ []) k) o.number
      ∙ slice_get_push a.given (fresh name (content_of a.names name));
  named = refl;
  some = λ k d within. absurd (omega (arith, within));
  calls = refl;
  told = Consumes-nil (content_of a.names name);
  at_end = λ e. cc;
}

same_handle : (v : ShelfView) (h : ℕ) (x y : HandleView) → slice_get v.given h ≡ Some x → slice_get v.given h ≡ Some y → x ≡ y
same_handle v h x y e f = cc

-- ---- one read more

pub reads_more : {E : Type 0} (asked : ℕ) (name : List ℕ) (h n : ℕ) (a b c : ShelfView) (buf : List ℕ) (ps : List (List ℕ)) → ReadsAsking asked name h a b ps More
    → ReadsOnce {E = E} h b c (Ok n) buf → 1 ≤ n → n ≤ length buf → length buf ≡ asked → ReadsAsking asked name h a c (ps ++ take n buf ∷ []) More
reads_more asked name h n a b c buf ps r once some within size =
    let same : once.old ≡ r.handle = same_handle b h once.old r.handle once.was r.at in
    record {
      handle = once.new;
      at = ap (λ (l : List HandleView). slice_get l h) once.given ∙ slice_get_set b.given h once.old once.new once.was;
      named = once.name ∙ ap (λ (v : HandleView). v.name) same ∙ r.named;
      some = All-push IsSomeBytes ps (take n buf) r.some (is_some (take n buf) (omega (arith, length-take-le n buf within)));
      calls = once.calls ∙ ap (λ (k : ℕ). once.old.calls ++ Gave k (take n buf) ∷ []) size
          ∙ ap (λ (v : HandleView). v.calls ++ Gave asked (take n buf) ∷ []) same
          ∙ ap (λ (l : List Call). l ++ Gave asked (take n buf) ∷ []) (r.calls ∙ append-nil (map (Gave asked) ps))
          ∙ sym (map_push (Gave asked) ps (take n buf)) ∙ sym (append-nil (map (Gave asked) (ps ++ take n buf ∷ [])));
      told = subst (Consumes (content_of a.names name) once.new.left) (sym (joined_push ps (take n buf)))
          (Consumes-trans (content_of a.names name) once.old.left once.new.left (joined ps) (take n buf) (rw same r.told) once.left.0);
      at_end = λ e. cc;
    }

pub reads_end : {E : Type 0} (asked : ℕ) (name : List ℕ) (h : ℕ) (a b c : ShelfView) (buf : List ℕ) (ps : List (List ℕ)) → ReadsAsking asked name h a b ps More
    → ReadsOnce {E = E} h b c (Ok 0) buf → 0 < length buf → length buf ≡ asked → ReadsAsking asked name h a c ps EndAnswered
reads_end asked name h a b c buf ps r once room size =
    let same : once.old ≡ r.handle = same_handle b h once.old r.handle once.was r.at in
    record {
      handle = once.new;
      at = ap (λ (l : List HandleView). slice_get l h) once.given ∙ slice_get_set b.given h once.old once.new once.was;
      named = once.name ∙ ap (λ (v : HandleView). v.name) same ∙ r.named;
      some = r.some;
      calls = once.calls ∙ ap (λ (k : ℕ). once.old.calls ++ Gave k [] ∷ []) size
          ∙ ap (λ (v : HandleView). v.calls ++ Gave asked [] ∷ []) same
          ∙ ap (λ (l : List Call). l ++ Gave asked [] ∷ []) (r.calls ∙ append-nil (map (Gave asked) ps));
      told = subst (Consumes (content_of a.names name) once.new.left) (append-nil (joined ps))
          (Consumes-trans (content_of a.names name) once.old.left once.new.left (joined ps) [] (rw same r.told) once.left.0);
      at_end = λ e. once.left.1 refl room;
    }

pub reads_fault : {E : Type 0} (asked : ℕ) (name : List ℕ) (h : ℕ) (e : E) (a b c : ShelfView) (buf : List ℕ) (ps : List (List ℕ)) → ReadsAsking asked name h a b ps More
    → ReadsOnce {E = E} h b c (Err e) buf → ReadsAsking asked name h a c ps FaultAnswered
reads_fault asked name h e a b c buf ps r once =
    let same : once.old ≡ r.handle = same_handle b h once.old r.handle once.was r.at in
    record {
      handle = once.new;
      at = ap (λ (l : List HandleView). slice_get l h) once.given ∙ slice_get_set b.given h once.old once.new once.was;
      named = once.name ∙ ap (λ (v : HandleView). v.name) same ∙ r.named;
      some = r.some;
      calls = once.calls ∙ ap (λ (v : HandleView). v.calls ++ Failed ∷ []) same
          ∙ ap (λ (l : List Call). l ++ Failed ∷ []) (r.calls ∙ append-nil (map (Gave asked) ps));
      told = Consumes-kept (content_of a.names name) once.old.left once.new.left (joined ps) (rw same r.told) once.left;
      at_end = λ f. cc;
    }

-- ---- the limit of a query

pub within_or_passes : (ps : List (List ℕ)) (p : List ℕ) → Within ps → length p ≤ 4096 → Within (ps ++ p ∷ []) ⊎ PassesIn (ps ++ p ∷ [])
within_or_passes ps p within short = elim (cases_lt most_of_query (length (joined (ps ++ p ∷ [])))) [
  | inl past ↦ inr (record { before = ps; last = p; split = refl; within = within; past = past; short = short })
  | inr still ↦ inl still
]

pub passes : (ps : List (List ℕ)) → (Within ps ⊎ PassesIn ps) → most_of_query < length (joined ps) → PassesIn ps
passes ps (inl within) past = absurd (omega (arith, within, past))
passes ps (inr p) past = p

-- ---- what stays over several calls

pub keeps_same : (a : ShelfView) → KeepsShelf a a
keeps_same a = record { names = refl; given = λ k within. refl; faults = omega arith; write_faults = refl }

pub keeps_on : (a b c : ShelfView) → KeepsShelf a b → KeepsShelf b c → length a.given ≤ length b.given → KeepsShelf a c
keeps_on a b c k l more = record {
  names = l.names ∙ k.names;
  given = λ n within. l.given n (omega (arith, within, more)) ∙ k.given n within;
  faults = omega (arith, k.faults, l.faults);
  write_faults = l.write_faults ∙ k.write_faults;
}

pub keeps_given : (name : List ℕ) (a b : ShelfView) (h : ℕ) → GivesHandle name (content_of a.names name) a b h → b.names ≡ a.names → KeepsShelf a b
keeps_given name a b h o names = record {
  names = names;
  given = λ k within. ap (λ (l : List HandleView). slice_get l k) o.given
      ∙ slice_get_before a.given (fresh name (content_of a.names name)) k within;
  faults = omega (arith, o.faults);
  write_faults = o.write_faults;
}

-- a read of a handle that was given in this call
pub keeps_read : {E : Type 0} (h : ℕ) (a b c : ShelfView) (r : Result ℕ E) (buf : List ℕ) → KeepsShelf a b → length a.given ≤ h
    → ReadsOnce h b c r buf → KeepsShelf a c
keeps_read h a b c r buf k behind once = record {
  names = once.names ∙ k.names;
  given = λ n within. ap (λ (l : List HandleView). slice_get l n) once.given
      ∙ slice_get_other b.given n h once.new (λ (e : n ≡ h). absurd (omega (arith, e, within, behind))) ∙ k.given n within;
  faults = omega (arith, k.faults, once.faults.later);
  write_faults = once.write_faults ∙ k.write_faults;
}

-- the count rose since an earlier state
pub rose_since : (a b c : ℕ) → a ≤ b → Rose b c → Rose a c
rose_since a b c before rose = omega (arith, before, rose)
