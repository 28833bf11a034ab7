-- What is read of joined characters.
use Rattle.std.proofs.Common.{ℕ, ◌≡◌, ◌+◌, true, List, [], ◌∷◌, ◌++◌, length, Result, Ok, Err, refl, sym, ap, ◌∙◌, append_assoc, append-nil, arith}
use Rattle.std.specs.Prelude.{IsUtf8, chars}
use Rattle.std.specs.Char.{IsScalar}
use Rattle.std.proofs.lemmas.Str.{chars-encodes}
use lib.Utf8.{encode, scalar}
use Rattle.std.proofs.lemmas.Bool.{and_from}
use Rattle.gcx_base.specs.declared.limits.Limits.{Limits}
use Rattle.gcx_model.specs.Faults.{DocumentRefusal, size}
use Rattle.doc_laws.specs.Machine.{State}
use Rattle.doc_laws.specs.Judging.{judged, on_ok, judged_steps}
use Rattle.doc_laws.proofs.Pieces.{size_is}
use Rattle.doc_laws.proofs.Unique.{judged_append}
use Rattle.doc_machine.specs.declared.stop.Stop.{Stop}
use Rattle.doc_machine.specs.declared.stop.Stop.TheVariants.{Refused, Memory}
use Rattle.doc_reader.specs.Judged.{Judged}
use Rattle.doc_parts.proofs.Reading.{size_append}

-- the character of its bytes
pub one_char : (c : ℕ) (bs : List ℕ) → IsScalar c → bs ≡ encode c → chars bs ≡ c ∷ []
one_char c bs s e = ap chars (e ∙ sym (append-nil (encode c))) ∙ chars-encodes (c ∷ []) (and_from (scalar c) true s refl)

pub text_size : (bs : List ℕ) → IsUtf8 bs → length bs ≡ size (chars bs)
text_size bs u = ap length (sym u.1.1) ∙ sym (size_is u.0) ∙ ap size (sym (chars-encodes u.0 u.1.0) ∙ ap chars u.1.1)

module _ (lim : Limits) (place : ℕ) (m : State) (a b : List ℕ) where
  pub reads_both : (t : State) (at : ℕ) (r : Result State DocumentRefusal) → judged_steps lim place m a ≡ Ok t → at ≡ place + size a → judged_steps lim at t b ≡ r → judged_steps lim place m (a ++ b) ≡ r
  reads_both t at r e k f =
      judged_append lim place m a b ∙ ap (λ q. on_ok q (λ u. judged_steps lim (place + size a) u b)) e ∙ ap (λ n. judged_steps lim n t b) (sym k) ∙ f

  pub stops_before : (s : Stop) (u : State) → Judged {T = Unit {0}} (Err s) lim place m a u → Judged {T = Unit {0}} (Err s) lim place m (a ++ b) u
  stops_before (Refused r) u q = record {
    front = q.front;
    at = q.at;
    rest = q.rest ++ b;
    state = q.state;
    parts = ap (λ l. l ++ b) q.parts ∙ append_assoc q.front (q.at ∷ q.rest) b;
    read = q.read;
    refused = q.refused;
    waits = q.waits;
  }
  stops_before Memory u q = record {
    front = q.front;
    rest = q.rest ++ b;
    state = q.state;
    parts = ap (λ l. l ++ b) q.parts ∙ append_assoc q.front q.rest b;
    read = q.read;
    waits = q.waits;
  }

module _ (lim : Limits) (place : ℕ) (m : State) (a b : List ℕ) (t : State) (at : ℕ) (e : judged_steps lim place m a ≡ Ok t) (k : at ≡ place + size a) where
  pub stops_behind : (s : Stop) (u : State) → Judged {T = Unit {0}} (Err s) lim at t b u → Judged {T = Unit {0}} (Err s) lim place m (a ++ b) u
  stops_behind (Refused r) u q =
      let there : at + size q.front ≡ place + size (a ++ q.front) = omega (arith, k, size_append a q.front) in
      record {
        front = a ++ q.front;
        at = q.at;
        rest = q.rest;
        state = q.state;
        parts = ap (λ l. a ++ l) q.parts ∙ sym (append_assoc a q.front (q.at ∷ q.rest));
        read = reads_both lim place m a q.front t at (Ok q.state) e k q.read;
        refused = ap (λ n. judged lim n q.state q.at) (sym there) ∙ q.refused;
        waits = q.waits;
      }
  stops_behind Memory u q = record {
    front = a ++ q.front;
    rest = q.rest;
    state = q.state;
    parts = ap (λ l. a ++ l) q.parts ∙ sym (append_assoc a q.front q.rest);
    read = reads_both lim place m a q.front t at (Ok q.state) e k q.read;
    waits = q.waits;
  }
