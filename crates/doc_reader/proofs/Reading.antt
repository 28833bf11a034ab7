-- Characters read one after another, and parts as a whole.
use Rattle.std.proofs.Common.{ℕ, ◌≡◌, ◌+◌, ◌-◌, List, [], ◌∷◌, ◌++◌, length, drop, Ok, Err, sym, ap, ◌∙◌, append_assoc, append-nil, arith, length-drop}
use Rattle.std.specs.Char.{len_utf8}
use Rattle.std.specs.Str.{chars}
use Rattle.std.proofs.lemmas.Str.{chars-nil}
use Rattle.gcx_base.specs.declared.limits.Limits.{Limits}
use Rattle.gcx_model.specs.Faults.{DocumentRefusal, size}
use Rattle.doc_laws.specs.Machine.{State}
use Rattle.doc_laws.specs.Judging.{judged, judged_steps, on_ok}
use Rattle.doc_machine.specs.declared.stop.Stop.{Stop}
use Rattle.doc_machine.specs.declared.stop.Stop.TheVariants.{Refused, Memory}
use Rattle.doc_machine.specs.Refusals.{fault}
use Rattle.doc_machine.specs.Limited.{JudgedOne}
use Rattle.doc_parts.specs.Reading.{IsFirstChar, Moves, Stops}
use Rattle.doc_reader.specs.Judged.{Refuses, ReadsFront, Judged}
use Rattle.doc_reader.specs.Reading.{Reached}
use Rattle.doc_machine.proofs.Sound.{judged_sound}
use Rattle.doc_parts.proofs.Reading.{size_append, judged_on}

pub reached_moves : (lim : Limits) (place : ℕ) (old : State) (text : List ℕ) (at : ℕ) (s t : State) (rest : List ℕ) (n : ℕ) → Reached lim place old text at s rest → Moves lim s rest n t → Reached lim place old text (at + n) t (drop n rest)
reached_moves lim place old text at s t rest n r m = record {
  front = r.front ++ m.front;
  parts = r.parts ∙ ap (λ l. r.front ++ l) m.parts ∙ sym (append_assoc r.front m.front (chars (drop n rest)));
  read = judged_on lim place old s t r.front m.front r.read (m.read (place + size r.front));
  at_is = omega (arith, r.at_is, m.size_is, size_append r.front m.front);
  room = let within = m.boundary.0 in omega (arith, r.room, length-drop n rest);
  sound = m.sound r.sound;
}

pub judged_one : (lim : Limits) (place : ℕ) (s t : State) (c : ℕ) → judged lim place s c ≡ Ok t → judged_steps lim place s (c ∷ []) ≡ Ok t
judged_one lim place s t c e = ap (λ r. on_ok r (λ v. judged_steps lim (place + len_utf8 c) v [])) e

pub reached_first : (lim : Limits) (place : ℕ) (old : State) (text : List ℕ) (at next : ℕ) (s t : State) (c : ℕ) (rest after : List ℕ) → Reached lim place old text at s rest → IsFirstChar c after rest → judged lim at s c ≡ Ok t → next ≡ at + (length rest - length after) → Reached lim place old text next t after
reached_first lim place old text at next s t c rest after r f e is = record {
  front = r.front ++ (c ∷ []);
  parts = r.parts ∙ ap (λ l. r.front ++ l) f.first ∙ sym (append_assoc r.front (c ∷ []) (chars after));
  read = judged_on lim place old s t r.front (c ∷ []) r.read (judged_one lim (place + size r.front) s t c (ap (λ k. judged lim k s c) (sym r.at_is) ∙ e));
  at_is = let one : size (c ∷ []) ≡ len_utf8 c = omega arith in omega (arith, is, r.at_is, f.size_is, size_append r.front (c ∷ []), one);
  room = omega (arith, is, r.room, f.size_is);
  sound = judged_sound lim at s t c r.sound e;
}

pub reached_refused : (lim : Limits) (place : ℕ) (old : State) (text : List ℕ) (at : ℕ) (s t : State) (c : ℕ) (rest after : List ℕ) (f : DocumentRefusal) → Reached lim place old text at s rest → IsFirstChar c after rest → judged lim at s c ≡ Err f → t.tokens ≡ s.tokens → Refuses lim place old (chars text) f t.tokens
reached_refused lim place old text at s t c rest after f r i e k = record {
  front = r.front;
  at = c;
  rest = chars after;
  state = s;
  parts = r.parts ∙ ap (λ l. r.front ++ l) i.first;
  read = r.read;
  refused = ap (λ k. judged lim k s c) (sym r.at_is) ∙ e;
  waits = k;
}

pub reached_front : (lim : Limits) (place : ℕ) (old : State) (text : List ℕ) (at : ℕ) (s t : State) (rest : List ℕ) → Reached lim place old text at s rest → t.tokens ≡ s.tokens → ReadsFront lim place old (chars text) t.tokens
reached_front lim place old text at s t rest r k = record { front = r.front; rest = chars rest; state = s; parts = r.parts; read = r.read; waits = k }

pub reached_stops : (lim : Limits) (place : ℕ) (old : State) (text : List ℕ) (at : ℕ) (s : State) (rest : List ℕ) (t : State) → Reached lim place old text at s rest → Stops lim s rest t.tokens → ReadsFront lim place old (chars text) t.tokens
reached_stops lim place old text at s rest t r h = reached_front lim place old text (at + h.n) h.state t (drop h.n rest) (reached_moves lim place old text at s h.state rest h.n r h.moves) h.waits

pub reached_all : (lim : Limits) (place : ℕ) (old : State) (text : List ℕ) (at : ℕ) (s : State) (rest : List ℕ) → Reached lim place old text at s rest → rest ≡ [] → judged_steps lim place old (chars text) ≡ Ok s
reached_all lim place old text at s rest r e = ap (judged_steps lim place old) (r.parts ∙ ap (λ l. r.front ++ l) (ap chars e ∙ chars-nil) ∙ append-nil r.front) ∙ r.read

-- a character where reading stops
pub reached_stop : (lim : Limits) (place : ℕ) (old : State) (text : List ℕ) (at : ℕ) (s t : State) (c : ℕ) (rest after : List ℕ) (stop : Stop) → Reached lim place old text at s rest → IsFirstChar c after rest → JudgedOne {T = Unit {0}} (Err stop) lim at s c t → Judged {T = Unit {0}} (Err stop) lim place old (chars text) t
reached_stop lim place old text at s t c rest after (Refused f) r i j = reached_refused lim place old text at s t c rest after (fault f) r i j.0 j.1
reached_stop lim place old text at s t c rest after Memory r i j = reached_front lim place old text at s t rest r j
