-- Texts that are cut between two characters.
use Rattle.std.proofs.Common.{ℕ, ◌≡◌, ◌≤◌, true, List, [], ◌++◌, length, take, drop, Ok, refl, sym, ap, ◌∙◌, arith, length-take}
use Rattle.std.specs.List.{list_all}
use Rattle.std.specs.Str.{chars, IsUtf8, IsAscii, IsCharBoundary}
use Rattle.std.proofs.lemmas.Bool.{and_parts}
use Rattle.std.proofs.lemmas.List.{take-append-drop}
use Rattle.std.proofs.lemmas.List.Folds.{list_all-append}
use Rattle.std.proofs.lemmas.Str.{chars-append, chars-encodes, encodes-chars, IsUtf8-take, IsUtf8-drop, IsCharBoundary-start, IsCharBoundary-from_take, IsUtf8-from_ascii}
use lib.Utf8.{encodes}
use Rattle.gcx_base.specs.Characters.{is_char}
use Rattle.gcx_base.specs.declared.limits.Limits.{Limits}
use Rattle.gcx_model.specs.Faults.{size}
use Rattle.doc_chars.specs.Stream.{AreChars}
use Rattle.doc_chars.proofs.Streams.{are_text, scalars_of}
use Rattle.doc_laws.specs.Machine.{State}
use Rattle.doc_laws.specs.Judging.{judged_steps}
use Rattle.doc_laws.proofs.Pieces.{size_is}
use Rattle.doc_parts.specs.Reading.{Moves}
use Rattle.doc_machine.proofs.Sound.{steps_sound}

pub chars_are : (text : List ℕ) (h : AreChars text) → h.cs ≡ chars text
chars_are text h = sym (chars-encodes h.cs (scalars_of h.cs h.chars)) ∙ ap chars h.bytes

pub all_chars : (text : List ℕ) → AreChars text → list_all is_char (chars text) ≡ true
all_chars text h = ap (list_all is_char) (sym (chars_are text h)) ∙ h.chars

pub chars_cut : (text : List ℕ) (n : ℕ) → IsUtf8 text → IsCharBoundary text n → chars text ≡ chars (take n text) ++ chars (drop n text)
chars_cut text n u b = ap chars (sym (take-append-drop n text)) ∙ chars-append (take n text) (drop n text) (IsUtf8-take text n u b)

pub front_all : (text : List ℕ) (n : ℕ) → AreChars text → IsCharBoundary text n → list_all is_char (chars (take n text)) ≡ true
front_all text n h b =
    (and_parts (list_all is_char (chars (take n text))) (list_all is_char (chars (drop n text)))
    (sym (list_all-append is_char (chars (take n text)) (chars (drop n text))) ∙ ap (list_all is_char) (sym (chars_cut text n (are_text text h) b)) ∙ all_chars text h)).0

pub rest_all : (text : List ℕ) (n : ℕ) → AreChars text → IsCharBoundary text n → AreChars (drop n text)
rest_all text n h b = record {
  cs = chars (drop n text);
  chars =
      (and_parts (list_all is_char (chars (take n text))) (list_all is_char (chars (drop n text)))
      (sym (list_all-append is_char (chars (take n text)) (chars (drop n text))) ∙ ap (list_all is_char) (sym (chars_cut text n (are_text text h) b)) ∙ all_chars text h)).1;
  bytes = encodes-chars (drop n text) (IsUtf8-drop text n (are_text text h) b);
}

pub front_bytes : (text : List ℕ) (n : ℕ) → IsUtf8 text → IsCharBoundary text n → encodes (chars (take n text)) ≡ take n text
front_bytes text n u b = encodes-chars (take n text) (IsUtf8-take text n u b)

pub front_size : (text : List ℕ) (n : ℕ) → IsUtf8 text → IsCharBoundary text n → size (chars (take n text)) ≡ n
front_size text n u b = let within = b.0 in size_is (chars (take n text)) ∙ ap length (front_bytes text n u b) ∙ omega (arith, length-take n text)

pub moves_text : (lim : Limits) (s t : State) (text : List ℕ) (n : ℕ) → IsUtf8 text → IsCharBoundary text n → ((place : ℕ) → judged_steps lim place s (chars (take n text)) ≡ Ok t) → Moves lim s text n t
moves_text lim s t text n u b r = record {
  front = chars (take n text);
  parts = chars_cut text n u b;
  size_is = front_size text n u b;
  boundary = b;
  read = r;
  sound = λ h. steps_sound lim 0 s t (chars (take n text)) h (r 0);
}

pub moves_none : (lim : Limits) (s : State) (text : List ℕ) → IsUtf8 text → Moves lim s text 0 s
moves_none lim s text u = record { front = []; parts = refl; size_is = refl; boundary = IsCharBoundary-start text u; read = λ place. refl; sound = λ h. h }

pub ascii_boundary : (text : List ℕ) (n : ℕ) → IsUtf8 text → n ≤ length text → IsAscii (take n text) → IsCharBoundary text n
ascii_boundary text n u l a = IsCharBoundary-from_take text n u l (IsUtf8-from_ascii (take n text) a)
