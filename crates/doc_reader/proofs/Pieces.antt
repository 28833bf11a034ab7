-- A piece more behind characters that were read without a fault.
use Rattle.std.proofs.Common.{ℕ, ◌≡◌, ◌+◌, ◌<◌, ◌≤◌, true, false, List, [], ◌∷◌, ◌++◌, length, Some, None, Ok, Err, refl, sym, ap, ◌∙◌, subst, append_assoc, append-nil, arith, length-append, take_at}
use Rattle.std.proofs.lemmas.Str.{encodes-append}
use lib.Utf8.{scalar, scalars, encode, encodes}
use Rattle.std.proofs.lemmas.Bool.{and_from}
use Rattle.gcx_base.specs.declared.limits.Limits.{Limits}
use Rattle.gcx_model.specs.Tree.{TreeToken as Said}
use Rattle.gcx_model.specs.declared.fault.DocFault.{DocFault}
use Rattle.gcx_model.specs.declared.fault.DocFault.TheVariants as doc_faults
use Rattle.gcx_model.specs.Faults.{DocumentRefusal, AtSyntax, fault_of, size, AtDepth, AtName, AtText, Comes, by_character, by_sequence, FaultIs, FaultWithin, within_limit, past_limit}
use Rattle.gcx_model.specs.Seen.{IsLongest}
use Rattle.doc_chars.specs.declared.chars.CharFault.{CharFault}
use Rattle.doc_chars.specs.declared.chars.CharFault.TheVariants.{Utf8 as not_utf8, Char as no_char}
use Rattle.doc_chars.specs.Stream.{StandsFor, Breaks}
use Rattle.doc_laws.specs.Machine.{State}
use Rattle.doc_laws.specs.Judging.{judged, judged_steps}
use Rattle.doc_laws.proofs.Characters.{not_char_comes}
use Rattle.doc_laws.proofs.Faults.{Reads, Said as Says, judged_says, refusal_comes, comes_refusal}
use Rattle.doc_laws.proofs.Pieces.{Stands as Kept, size_is, scalars_append, bad_more, none_stands, fault_stays}
use Rattle.doc_laws.proofs.Words.{scalars_front}
use Rattle.doc_laws.proofs.LastTag.{longest_at_fault, longest_at_bad, longest_at_limit}
use Rattle.doc_tokens.specs.declared.token.Token.{Token}
use Rattle.doc_machine.specs.Refusals.{fault, stop_fault}
use Rattle.doc_machine.specs.declared.stop.Stop.{Stop}
use Rattle.doc_machine.specs.declared.stop.Stop.TheVariants.{Refused as Stopped, Memory as Lost}
use Rattle.doc_reader.specs.Judged.{Refuses, ReadsFront, Judged}
use Rattle.doc_reader.specs.Standing.{ReaderView, with_given, IsReading, HasRead, HasStopped, HasLost}
use Rattle.doc_reader.specs.Piece.{Took, char_fault}
use Rattle.doc_parts.proofs.Reading.{size_append}
use Rattle.doc_reader.proofs.Ahead.{ahead_ok, judged_ahead, steps_ahead}
use Rattle.doc_reader.proofs.Ties.{Parts, decodes_tie, parts_of}

abbrev pub reads_of : (h : ReaderView) (lim : Limits) (b : List ℕ) (given : List Token) (r : IsReading h lim b given) → Reads lim r.chars (with_given r.before h.state)
reads_of h lim b given r = record { front = r.front; clean = r.clean; short = r.short }

abbrev pub kept_of : (h : ReaderView) (lim : Limits) (b : List ℕ) (given : List Token) (r : IsReading h lim b given) → Kept lim b h.carry.bytes (with_given r.before h.state)
kept_of h lim b given r = record { chars = r.chars; decodes = decodes_tie h.carry b r.chars r.stream; reads = reads_of h lim b given r }

-- all characters were read
pub all_read : (h : ReaderView) (lim : Limits) (b : List ℕ) (given : List Token) (r : IsReading h lim b given) → HasRead h.state.tokens lim b r.chars given
all_read h lim b given r =
    let at = decodes_tie h.carry b r.chars r.stream in
    record {
      rest = h.carry.bytes;
      scalars_are = at.chars;
      parts = at.parts;
      within = omega (arith, r.within, ap length at.parts, length-append (encodes r.chars) h.carry.bytes);
      clean = r.clean;
      before = r.before;
      given_are = r.given_are;
      state = with_given r.before h.state;
      tokens_are = refl;
      front = r.front;
    }

-- characters more that are read
judged_on : (lim : Limits) (cs ds : List ℕ) (before : List Said) (s t : State) (place : ℕ) → place ≡ size cs → Reads lim cs (with_given before s) → judged_steps lim place s ds ≡ Ok t → Reads lim (cs ++ ds) (with_given before t)
judged_on lim cs ds before s t place e r j =
    subst (Says lim (cs ++ ds)) (steps_ahead before lim (size cs) s ds ∙ ap (ahead_ok before) (ap (λ k. judged_steps lim k s ds) (sym e) ∙ j)) (judged_says lim cs (with_given before s) ds r)

module _ (old new : ReaderView) (lim : Limits) (b piece : List ℕ) (given : List Token) (ds : List ℕ) (r : IsReading old lim b given) (within : length (b ++ piece) ≤ lim.bytes) where
  -- all of them are read
  pub reads_on : StandsFor new.carry (b ++ piece) (r.chars ++ ds) → judged_steps lim old.place old.state ds ≡ Ok new.state → new.place ≡ old.place + size ds → new.count ≡ old.count + length piece → IsReading new lim (b ++ piece) given
  reads_on s j place count =
      let q = judged_on lim r.chars ds r.before old.state new.state old.place r.place (reads_of old lim b given r) j in
      record {
        chars = r.chars ++ ds;
        stream = s;
        place = place ∙ ap (λ n. n + size ds) r.place ∙ sym (size_append r.chars ds);
        count = omega (arith, count, r.count, length-append b piece);
        within = within;
        clean = q.clean;
        short = q.short;
        before = r.before;
        given_are = r.given_are;
        front = q.front;
      }

  -- the machine refuses one of them
  pub refuses_at : (f : DocumentRefusal) → Parts (b ++ piece) (r.chars ++ ds) → Refuses lim old.place old.state ds f new.state.tokens → HasStopped new.state.tokens lim (b ++ piece) given × FaultIs lim (b ++ piece) false (Some (fault_of f))
  refuses_at f p q =
      let chars = r.chars ++ q.front in
      let state = with_given r.before q.state in
      let reads : Reads lim chars state = judged_on lim r.chars q.front r.before old.state q.state old.place r.place (reads_of old lim b given r) q.read in
      let all : r.chars ++ ds ≡ chars ++ (q.at ∷ q.rest) = ap (λ l. r.chars ++ l) q.parts ∙ sym (append_assoc r.chars q.front (q.at ∷ q.rest)) in
      let at : size chars ≡ old.place + size q.front = size_append r.chars q.front ∙ ap (λ n. n + size q.front) (sym r.place) in
      let refused : judged lim (size chars) state q.at ≡ Err f = judged_ahead r.before lim (size chars) q.state q.at ∙ ap (ahead_ok r.before) (ap (λ k. judged lim k q.state q.at) at ∙ q.refused) in
      let are : scalars chars ≡ true = scalars_front chars (q.at ∷ q.rest) (ap scalars (sym all) ∙ p.scalars_are) in
      let parts : b ++ piece ≡ encodes chars ++ (encode q.at ++ (encodes q.rest ++ p.rest)) =
      p.parts ∙ ap (λ l. encodes l ++ p.rest) all ∙ ap (λ l. l ++ p.rest) (encodes-append chars (q.at ∷ q.rest)) ∙ append_assoc (encodes chars) (encode q.at ++ encodes q.rest) p.rest ∙ ap (λ l. encodes chars ++ l) (append_assoc (encode q.at) (encodes q.rest) p.rest) in
      let fits : length (encodes chars) ≤ lim.bytes = omega (arith, within, ap length parts, length-append (encodes chars) (encode q.at ++ (encodes q.rest ++ p.rest))) in (
        record {
          chars = chars;
          read = record { rest = encode q.at ++ (encodes q.rest ++ p.rest); scalars_are = are; parts = parts; within = fits; clean = reads.clean; before = r.before; given_are = r.given_are; state = state; tokens_are = ap (λ l. r.before ++ l) (sym q.waits); front = reads.front };
          longest = λ more. longest_at_fault lim ((b ++ piece) ++ more) chars ((encodes q.rest ++ p.rest) ++ more) state q.at f reads refused are
              (ap (λ l. l ++ more) parts ∙ append_assoc (encodes chars) (encode q.at ++ (encodes q.rest ++ p.rest)) more ∙ ap (λ l. encodes chars ++ l) (append_assoc (encode q.at) (encodes q.rest ++ p.rest) more)) fits;
        },
        within_limit within (by_character (r.chars ++ ds) p.rest f p.scalars_are p.parts (record { front = chars; at = q.at; rest = q.rest; parts = all; clean = reads.clean; comes = refusal_comes lim chars q.at state f reads.front reads.short refused }) refl),
      )

  -- memory runs out in them
  pub lost_at : Parts (b ++ piece) (r.chars ++ ds) → ReadsFront lim old.place old.state ds new.state.tokens → HasLost new.state.tokens lim (b ++ piece) given
  lost_at p q =
      let chars = r.chars ++ q.front in
      let state = with_given r.before q.state in
      let reads : Reads lim chars state = judged_on lim r.chars q.front r.before old.state q.state old.place r.place (reads_of old lim b given r) q.read in
      let all : r.chars ++ ds ≡ chars ++ q.rest = ap (λ l. r.chars ++ l) q.parts ∙ sym (append_assoc r.chars q.front q.rest) in
      let parts : b ++ piece ≡ encodes chars ++ (encodes q.rest ++ p.rest) = p.parts ∙ ap (λ l. encodes l ++ p.rest) all ∙ ap (λ l. l ++ p.rest) (encodes-append chars q.rest) ∙ append_assoc (encodes chars) (encodes q.rest) p.rest in
      record {
        chars = chars;
        read = record {
          rest = encodes q.rest ++ p.rest;
          scalars_are = scalars_front chars q.rest (ap scalars (sym all) ∙ p.scalars_are);
          parts = parts;
          within = omega (arith, within, ap length parts, length-append (encodes chars) (encodes q.rest ++ p.rest));
          clean = reads.clean;
          before = r.before;
          given_are = r.given_are;
          state = state;
          tokens_are = ap (λ l. r.before ++ l) (sym q.waits);
          front = reads.front;
        };
      }

  read_all : Parts (b ++ piece) (r.chars ++ ds) → Reads lim (r.chars ++ ds) (with_given r.before new.state) → HasRead new.state.tokens lim (b ++ piece) (r.chars ++ ds) given
  read_all p q = record {
    rest = p.rest;
    scalars_are = p.scalars_are;
    parts = p.parts;
    within = omega (arith, within, ap length p.parts, length-append (encodes (r.chars ++ ds)) p.rest);
    clean = q.clean;
    before = r.before;
    given_are = r.given_are;
    state = with_given r.before new.state;
    tokens_are = refl;
    front = q.front;
  }

  -- they are read, and behind them stands what isn't UTF-8 or no Char
  pub breaks_at : (f : CharFault) → Breaks (b ++ piece) (r.chars ++ ds) f → judged_steps lim old.place old.state ds ≡ Ok new.state → HasStopped new.state.tokens lim (b ++ piece) given × FaultIs lim (b ++ piece) false (Some (char_fault f))
  breaks_at (not_utf8 k) w j =
      let chars = r.chars ++ ds in
      let state = with_given r.before new.state in
      let reads : Reads lim chars state = judged_on lim r.chars ds r.before old.state new.state old.place r.place (reads_of old lim b given r) j in
      let p = parts_of (Some (not_utf8 k)) new.carry (b ++ piece) chars w in
      let read = read_all p reads in
      let at : k ≡ size chars = w.why.0 ∙ sym (size_is chars) in (
        record {
          chars = chars;
          read = read;
          longest = λ more. longest_at_bad lim ((b ++ piece) ++ more) chars state reads
              (record { rest = w.rest ++ more; chars = p.scalars_are; parts = ap (λ l. l ++ more) w.bytes ∙ append_assoc (encodes chars) w.rest more; bad = bad_more w.rest more w.why.1 }) read.within;
        },
        within_limit within (by_sequence chars (record { rest = w.rest; chars = p.scalars_are; parts = w.bytes; bad = w.why.1 }) reads.clean (ap (λ n. Some (doc_faults.Utf8 n)) at)),
      )
  breaks_at (no_char k) w j =
      let chars = r.chars ++ ds in
      let state = with_given r.before new.state in
      let reads : Reads lim chars state = judged_on lim r.chars ds r.before old.state new.state old.place r.place (reads_of old lim b given r) j in
      let p = parts_of (Some (no_char k)) new.carry (b ++ piece) chars w in
      let read = read_all p reads in
      let at : k ≡ size chars = w.why.0 ∙ sym (size_is chars) in
      let n = w.why.1 in
      let comes : Comes lim chars n.c (AtSyntax (size chars)) = not_char_comes lim chars n.c n.other in
      let refused = comes_refusal lim chars n.c state (AtSyntax (size chars)) reads.front reads.short comes in
      let parts : b ++ piece ≡ encodes chars ++ (encode n.c ++ n.rest) = w.bytes ∙ ap (λ l. encodes chars ++ l) n.bytes in (
        record {
          chars = chars;
          read = read;
          longest = λ more. longest_at_fault lim ((b ++ piece) ++ more) chars (n.rest ++ more) state n.c (AtSyntax (size chars)) reads refused p.scalars_are
              (ap (λ l. l ++ more) parts ∙ append_assoc (encodes chars) (encode n.c ++ n.rest) more ∙ ap (λ l. encodes chars ++ l) (append_assoc (encode n.c) n.rest more)) read.within;
        },
        within_limit within (by_character (chars ++ n.c ∷ []) n.rest (AtSyntax (size chars)) (scalars_append chars (n.c ∷ []) p.scalars_are (and_from (scalar n.c) true n.scalar refl))
            (parts ∙ ap (λ l. encodes chars ++ (l ++ n.rest)) (sym (append-nil (encode n.c))) ∙ sym (append_assoc (encodes chars) (encode n.c ++ []) n.rest) ∙ ap (λ l. l ++ n.rest) (sym (encodes-append chars (n.c ∷ []))))
            (record { front = chars; at = n.c; rest = []; parts = refl; clean = reads.clean; comes = comes }) (ap (λ m. Some (doc_faults.Syntax m)) at)),
      )

-- ---- what a part of the reader answers then

abbrev Refused : ReaderView → Limits → List ℕ → List Token → DocFault → Type 0
Refused h lim b given f = HasStopped h.state.tokens lim b given × FaultIs lim b false (Some f)

took_char : (h : ReaderView) (lim : Limits) (b : List ℕ) (given : List Token) (f : CharFault) → Refused h lim b given (char_fault f) → Took {T = Unit {0}} (Err (char_fault f)) h lim b given
took_char h lim b given (not_utf8 k) q = q
took_char h lim b given (no_char k) q = q

took_refusal : (h : ReaderView) (lim : Limits) (b : List ℕ) (given : List Token) (f : DocumentRefusal) → Refused h lim b given (fault_of f) → Took {T = Unit {0}} (Err (fault_of f)) h lim b given
took_refusal h lim b given (AtSyntax k) q = q
took_refusal h lim b given (AtDepth k) q = q
took_refusal h lim b given (AtName k) q = q
took_refusal h lim b given (AtText k) q = q

pub no_fault_yet : (h : ReaderView) (lim : Limits) (b : List ℕ) (given : List Token) → IsReading h lim b given → FaultIs lim b false None
no_fault_yet h lim b given r = within_limit r.within (none_stands lim b h.carry.bytes (with_given r.before h.state) (kept_of h lim b given r))

pub took_ok : (h : ReaderView) (lim : Limits) (b : List ℕ) (given : List Token) → IsReading h lim b given → Took {T = Unit {0}} (Ok tt) h lim b given
took_ok h lim b given r = (r, no_fault_yet h lim b given r)

-- more bytes behind a refusal
read_more : (waits : List Said) (lim : Limits) (b more chars : List ℕ) (given : List Token) → HasRead waits lim b chars given → HasRead waits lim (b ++ more) chars given
read_more waits lim b more chars given q = record {
  rest = q.rest ++ more;
  scalars_are = q.scalars_are;
  parts = ap (λ l. l ++ more) q.parts ∙ append_assoc (encodes chars) q.rest more;
  within = q.within;
  clean = q.clean;
  before = q.before;
  given_are = q.given_are;
  state = q.state;
  tokens_are = q.tokens_are;
  front = q.front;
}

stopped_more : (waits : List Said) (lim : Limits) (b more : List ℕ) (given : List Token) → HasStopped waits lim b given → HasStopped waits lim (b ++ more) given
stopped_more waits lim b more given q = record {
  chars = q.chars;
  read = read_more waits lim b more q.chars given q.read;
  longest = λ rest. subst (λ l. IsLongest lim l q.chars) (sym (append_assoc b more rest)) (q.longest (more ++ rest));
}

lost_more : (waits : List Said) (lim : Limits) (b more : List ℕ) (given : List Token) → HasLost waits lim b given → HasLost waits lim (b ++ more) given
lost_more waits lim b more given q = record { chars = q.chars; read = read_more waits lim b more q.chars given q.read }

both_more : (h : ReaderView) (lim : Limits) (b more : List ℕ) (given : List Token) (f : DocFault) → Refused h lim b given f → Refused h lim (b ++ more) given f
both_more h lim b more given f q = (stopped_more h.state.tokens lim b more given q.0, fault_stays lim b more false f q.1)

pub took_more : (h : ReaderView) (lim : Limits) (b more : List ℕ) (given : List Token) (f : DocFault) → Took {T = Unit {0}} (Err f) h lim b given → Took {T = Unit {0}} (Err f) h lim (b ++ more) given
took_more h lim b more given doc_faults.Memory q = (lost_more h.state.tokens lim b more given q.0, tt)
took_more h lim b more given (doc_faults.Utf8 k) q = both_more h lim b more given (doc_faults.Utf8 k) q
took_more h lim b more given (doc_faults.Syntax k) q = both_more h lim b more given (doc_faults.Syntax k) q
took_more h lim b more given (doc_faults.Truncated k) q = both_more h lim b more given (doc_faults.Truncated k) q
took_more h lim b more given (doc_faults.Depth k) q = both_more h lim b more given (doc_faults.Depth k) q
took_more h lim b more given (doc_faults.NameLong k) q = both_more h lim b more given (doc_faults.NameLong k) q
took_more h lim b more given (doc_faults.TextLong k) q = both_more h lim b more given (doc_faults.TextLong k) q
took_more h lim b more given (doc_faults.TooLong k) q = both_more h lim b more given (doc_faults.TooLong k) q

-- the bytes that may be are read, and more follow
pub took_past : (h : ReaderView) (lim : Limits) (b more : List ℕ) (given : List Token) → IsReading h lim b given → length b ≡ lim.bytes → 0 < length more → Took {T = Unit {0}} (Err (doc_faults.TooLong lim.bytes)) h lim (b ++ more) given
took_past h lim b more given r full some =
    let kept = kept_of h lim b given r in
    let state = with_given r.before h.state in
    let read = all_read h lim b given r in (
      record {
        chars = r.chars;
        read = read_more h.state.tokens lim b more r.chars given read;
        longest = λ rest. subst (λ l. IsLongest lim l r.chars) (sym (append_assoc b more rest)) (longest_at_limit lim b (more ++ rest) h.carry.bytes state kept full);
      },
      past_limit (omega (arith, full, some, length-append b more)) (subst (λ l. FaultWithin lim l false None) (sym (take_at b more lim.bytes full)) (none_stands lim b h.carry.bytes state kept)) refl,
    )

-- the machine stops in a piece
pub took_stop : (old new : ReaderView) (lim : Limits) (b piece : List ℕ) (given : List Token) (ds : List ℕ) (s : Stop) (r : IsReading old lim b given) → length (b ++ piece) ≤ lim.bytes → Parts (b ++ piece) (r.chars ++ ds) → Judged {T = Unit {0}} (Err s) lim old.place old.state ds new.state → Took {T = Unit {0}} (Err (stop_fault s)) new lim (b ++ piece) given
took_stop old new lim b piece given ds Lost r within p j = (lost_at old new lim b piece given ds r within p j, tt)
took_stop old new lim b piece given ds (Stopped m) r within p j = took_refusal new lim (b ++ piece) given (fault m) (refuses_at old new lim b piece given ds r within (fault m) p j)

-- all characters of a piece are read, and what stands behind them is no Char, or nothing
pub took_breaks : (old new : ReaderView) (lim : Limits) (b piece : List ℕ) (given : List Token) (ds : List ℕ) (f : CharFault) (r : IsReading old lim b given) → length (b ++ piece) ≤ lim.bytes → Breaks (b ++ piece) (r.chars ++ ds) f → judged_steps lim old.place old.state ds ≡ Ok new.state → Took {T = Unit {0}} (Err (char_fault f)) new lim (b ++ piece) given
took_breaks old new lim b piece given ds f r within w j = took_char new lim (b ++ piece) given f (breaks_at old new lim b piece given ds r within f w j)

pub took_reads : (old new : ReaderView) (lim : Limits) (b piece : List ℕ) (given : List Token) (ds : List ℕ) (r : IsReading old lim b given) → length (b ++ piece) ≤ lim.bytes → StandsFor new.carry (b ++ piece) (r.chars ++ ds) → judged_steps lim old.place old.state ds ≡ Ok new.state → new.place ≡ old.place + size ds → new.count ≡ old.count + length piece → Took {T = Unit {0}} (Ok tt) new lim (b ++ piece) given
took_reads old new lim b piece given ds r within g j place count = took_ok new lim (b ++ piece) given (reads_on old new lim b piece given ds r within g j place count)
