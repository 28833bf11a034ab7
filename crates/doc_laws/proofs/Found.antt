-- All bytes have a fault, or none comes: it is found.
use Rattle.std.proofs.Common.{ℕ, zero, suc, ◌≡◌, ◌+◌, ◌<◌, ◌≤◌, ◌^◌, ◌⊎◌, inl, inr, Bool, true, false, ◌&&◌, eqb, List, [], ◌∷◌, ◌++◌, length, take, drop, Option, Some, None, Result, Ok, Err, refl, sym, ap, ◌∙◌, subst, append_assoc, append-nil, arith, length-append, eqb-true, eq-eqb}
use Rattle.std.proofs.lemmas.Bool.{true≢false, false≢true, and_parts, and_from, cases_lt}
use lib.Utf8.{scalar, scalars, encode, encodes, scalar_fits}
use Rattle.gcx_base.specs.declared.limits.Limits.{Limits}
use Rattle.gcx_model.specs.References.{is_front}
use Rattle.gcx_model.specs.declared.fault.DocFault.{DocFault}
use Rattle.gcx_model.specs.declared.fault.DocFault.TheVariants.{Utf8, Truncated, TooLong}
use Rattle.gcx_model.specs.Seen.{IsLongest, SeenIs}
use Rattle.gcx_model.specs.Tree.{TreeToken, End}
use Rattle.std.proofs.lemmas.Str.{encodes-append}
use Rattle.std.proofs.lemmas.List.{take-append-drop, length-take}
use Rattle.doc_laws.specs.States.{Fronts}
use Rattle.doc_laws.proofs.Unique.{clean_reads}
use Rattle.doc_laws.proofs.LastTag.{longest_so_far, longest_at_fault, longest_at_bad, longest_at_limit, seen_so_far, seen_at_fault, seen_whole}
use Rattle.doc_laws.proofs.Words.{scalars_front}
use Rattle.gcx_model.specs.Faults.{ComesFirst, DocumentRefusal, fault_of, size, IsCharFront, IsNotUtf8, Decodes, IsBad, FaultWithin, by_character, by_sequence, by_cut, by_end, none_yet, none_whole, FaultIs, within_limit, before_limit, past_limit}
use Rattle.doc_laws.specs.Machine.{State, start, is_whole}
use Rattle.doc_laws.specs.Judging.{judged_steps}
use Rattle.doc_laws.proofs.Moves.{some_bytes}
use Rattle.doc_laws.proofs.Theorems.{whole_spells, not_whole}
use Rattle.doc_laws.proofs.Faults.{comes_refusal, Reads, Said, judged_says, start_reads}
use Rattle.doc_laws.proofs.Pieces.{Stands, bad_more}

-- the numbers below n are tried
tried : (p : ℕ → Bool) (n : ℕ) → ((c : ℕ) × (p c ≡ true)) ⊎ ((c : ℕ) → c < n → p c ≡ false)
tried p zero = inr (λ c h. absurd (omega arith))
tried p (suc n) =
    elim (tried p n) [
      | inl q ↦ inl q
      | inr h ↦ by (p n) refl h
    ]
  where
    by : (b : Bool) → p n ≡ b → ((c : ℕ) → c < n → p c ≡ false) → ((c : ℕ) × (p c ≡ true)) ⊎ ((c : ℕ) → c < suc n → p c ≡ false)
    by true e h = inl (n, e)
    by false e h = inr (λ c k. elim (cases_lt c n) [ inl l ↦ h c l | inr l ↦ let is : c ≡ n = omega arith in ap p is ∙ e ])

-- a list that begins another
front_rest : (m w : List ℕ) → is_front m w ≡ true → (r : List ℕ) × (w ≡ m ++ r)
front_rest [] w h = (w, refl)
front_rest (c ∷ m) [] h = absurd (false≢true h)
front_rest (c ∷ m) (d ∷ w) h =
    let both = and_parts (eqb c d) (is_front m w) h in
    let k = front_rest m w both.1 in
    (k.0, ap (λ l. d ∷ l) k.1 ∙ ap (λ a. a ∷ (m ++ k.0)) (sym (eqb-true c d both.0)))

front_self : (m r : List ℕ) → is_front m (m ++ r) ≡ true
front_self [] r = refl
front_self (c ∷ m) r = and_from (eqb c c) _ (eq-eqb c c refl) (front_self m r)

abbrev is_some : List ℕ → Bool
is_some [] = false
is_some (c ∷ m) = true

abbrev longer : List ℕ → List ℕ → Bool
longer [] w = is_some w
longer (c ∷ m) [] = false
longer (c ∷ m) (d ∷ w) = (eqb c d) && longer m w

longer_rest : (m w : List ℕ) → longer m w ≡ true → (r : List ℕ) × (w ≡ m ++ r) × (0 < length r)
longer_rest [] [] h = absurd (false≢true h)
longer_rest [] (d ∷ w) h = (d ∷ w, refl, omega arith)
longer_rest (c ∷ m) [] h = absurd (false≢true h)
longer_rest (c ∷ m) (d ∷ w) h =
    let both = and_parts (eqb c d) (longer m w) h in
    let k = longer_rest m w both.1 in
    (k.0, ap (λ l. d ∷ l) k.1 ∙ ap (λ a. a ∷ (m ++ k.0)) (sym (eqb-true c d both.0)), k.2)

longer_self : (m r : List ℕ) → 0 < length r → longer m (m ++ r) ≡ true
longer_self [] [] h = absurd (omega arith)
longer_self [] (d ∷ r) h = refl
longer_self (c ∷ m) r h = and_from (eqb c c) _ (eq-eqb c c refl) (longer_self m r h)

data Begins (b : List ℕ) : Type 0 where
  a_char : (c : ℕ) (rest : List ℕ) → scalar c ≡ true → b ≡ encode c ++ rest → Begins b
  a_front : IsCharFront b → Begins b
  nothing_so : IsNotUtf8 b → Begins b

begins : (b : List ℕ) → Begins b
begins b = elim (tried (λ c. scalar c && is_front (encode c) b) (2 ^ 32)) [
  | inl q ↦
      let both = and_parts (scalar q.0) (is_front (encode q.0) b) q.1 in
      let k = front_rest (encode q.0) b both.1 in
      a_char q.0 k.0 both.0 k.1
  | inr h ↦ elim (tried (λ c. scalar c && longer b (encode c)) (2 ^ 32)) [
    | inl q ↦
        let both = and_parts (scalar q.0) (longer b (encode q.0)) q.1 in
        let k = longer_rest b (encode q.0) both.1 in
        a_front (record { c = q.0; rest = k.0; scalar = both.0; bytes = k.1; more = k.2 })
    | inr g ↦ nothing_so (record {
      no_char = λ c rest s e. true≢false (sym (and_from (scalar c) _ s (ap (is_front (encode c)) e ∙ front_self (encode c) rest)) ∙ h c (scalar_fits c s));
      no_front = λ f. true≢false (sym (and_from (scalar f.c) _ f.scalar (ap (longer b) f.bytes ∙ longer_self b f.rest f.more)) ∙ g f.c (scalar_fits f.c f.scalar));
    })
  ]
]

-- all bytes are characters, and behind them a proper front of one or a sequence that isn't UTF-8
data Parts (b : List ℕ) : Type 0 where
  good_parts : (cs tail : List ℕ) → Decodes b cs tail → Parts b
  bad_parts : (cs : List ℕ) → IsBad b cs → Parts b

char_on : (b rest : List ℕ) (c : ℕ) → scalar c ≡ true → b ≡ encode c ++ rest → Parts rest → Parts b
char_on b rest c s e (good_parts cs tail d) = good_parts (c ∷ cs) tail (record { chars = and_from (scalar c) _ s d.chars; parts = e ∙ ap (λ l. encode c ++ l) d.parts ∙ sym (append_assoc (encode c) (encodes cs) tail); part = d.part })
char_on b rest c s e (bad_parts cs i) = bad_parts (c ∷ cs) (record { rest = i.rest; chars = and_from (scalar c) _ s i.chars; parts = e ∙ ap (λ l. encode c ++ l) i.parts ∙ sym (append_assoc (encode c) (encodes cs) i.rest); bad = i.bad })

parts_on : (n : ℕ) (b : List ℕ) → length b < suc n → ((rest : List ℕ) → length rest < n → Parts rest) → Begins b → Parts b
parts_on n b h again (a_char c rest s e) =
    let k = some_bytes c in
    char_on b rest c s e (again rest (omega (arith, h, ap length e, length-append (encode c) rest, ap length k.2)))
parts_on n b h again (a_front f) = good_parts [] b (record { chars = refl; parts = refl; part = f })
parts_on n b h again (nothing_so i) = bad_parts [] (record { rest = b; chars = refl; parts = refl; bad = i })

parts_within : (n : ℕ) (b : List ℕ) → length b < n → Parts b
parts_within zero b h = absurd (omega arith)
parts_within (suc n) b h = parts_on n b h (λ rest k. parts_within n rest k) (begins b)

parts : (b : List ℕ) → Parts b
parts b = parts_within (length b + 1) b (omega arith)

-- the fault within the limit
at_end : (lim : Limits) (b cs tail : List ℕ) (t : State) → Decodes b cs tail → Reads lim cs t → (ended : Bool) → (o : Option DocFault) × FaultWithin lim b ended o
at_end lim b cs tail t d r false = (None, none_yet cs tail d r.clean refl refl)
at_end lim b cs (x ∷ tail) t d r true = (Some (Utf8 (size cs)), by_cut cs (x ∷ tail) d r.clean (λ e. let no : ⊥ = cc in no) refl refl)
at_end lim b cs [] t d r true = by (is_whole t) refl
  where
    by : (w : Bool) → is_whole t ≡ w → (o : Option DocFault) × FaultWithin lim b true o
    by true e = let s = whole_spells cs t r.front e in (None, none_whole cs s.0 d r.clean s.1 refl refl)
    by false e = (Some (Truncated (size cs)), by_end cs d r.clean (λ n sp. not_whole cs t n r.front e sp) refl refl)

found_in : (lim : Limits) (b : List ℕ) (ended : Bool) → Parts b → (o : Option DocFault) × FaultWithin lim b ended o
found_in lim b ended (good_parts cs tail d) = by (judged_steps lim 0 start cs) (judged_says lim [] start cs (start_reads lim))
  where
    by : (r : Result State DocumentRefusal) → Said lim cs r → (o : Option DocFault) × FaultWithin lim b ended o
    by (Ok t) s = at_end lim b cs tail t d s ended
    by (Err f) s = (Some (fault_of f), by_character cs tail f d.chars d.parts s refl)
found_in lim b ended (bad_parts cs i) = by (judged_steps lim 0 start cs) (judged_says lim [] start cs (start_reads lim))
  where
    by : (r : Result State DocumentRefusal) → Said lim cs r → (o : Option DocFault) × FaultWithin lim b ended o
    by (Ok t) s = (Some (Utf8 (size cs)), by_sequence cs i s.clean refl)
    by (Err f) s = (Some (fault_of f), by_character cs i.rest f i.chars i.parts s refl)

pub found_within : (lim : Limits) (b : List ℕ) (ended : Bool) → (o : Option DocFault) × FaultWithin lim b ended o
found_within lim b ended = found_in lim b ended (parts b)

-- the fault of bytes
pub found : (lim : Limits) (b : List ℕ) (ended : Bool) → (o : Option DocFault) × FaultIs lim b ended o
found lim b ended =
    elim (cases_lt lim.bytes (length b)) [
      | inr k ↦ let f = found_within lim b ended in (f.0, within_limit k f.1)
      | inl k ↦ let f = found_within lim (take lim.bytes b) false in past k f.0 f.1
    ]
  where
    past : lim.bytes < length b → (o : Option DocFault) → FaultWithin lim (take lim.bytes b) false o → (o : Option DocFault) × FaultIs lim b ended o
    past k None w = (Some (TooLong lim.bytes), past_limit k w refl)
    past k (Some f) w = (Some f, before_limit f k w refl)

-- the most characters without a fault, of bytes that begin with these characters
pub record Most (lim : Limits) (b : List ℕ) : Type 0 where
  pub chars : List ℕ
  pub state : State
  pub front : Fronts chars state
  pub longest : IsLongest lim b chars

most_at : (lim : Limits) (b cs rest : List ℕ) (f : DocumentRefusal) → scalars cs ≡ true → b ≡ encodes cs ++ rest → length (encodes cs) ≤ lim.bytes → ComesFirst lim cs f → Most lim b
most_at lim b cs rest f s e k h =
    let r = clean_reads lim h.front h.clean in
    let chars_are : encodes cs ≡ encodes h.front ++ (encode h.at ++ encodes h.rest) = ap encodes h.parts ∙ encodes-append h.front (h.at ∷ h.rest) in
    let parts : b ≡ encodes h.front ++ (encode h.at ++ (encodes h.rest ++ rest)) = e ∙ ap (λ l. l ++ rest) chars_are ∙ append_assoc (encodes h.front) (encode h.at ++ encodes h.rest) rest ∙ ap (λ l. encodes h.front ++ l) (append_assoc (encode h.at) (encodes h.rest) rest) in
    record {
      chars = h.front;
      state = r.0;
      front = r.1.front;
      longest = longest_at_fault lim b h.front (encodes h.rest ++ rest) r.0 h.at f r.1 (comes_refusal lim h.front h.at r.0 f r.1.front r.1.short h.comes) (scalars_front h.front (h.at ∷ h.rest) (ap scalars (sym h.parts) ∙ s)) parts (omega (arith, k, ap length chars_are, length-append (encodes h.front) (encode h.at ++ encodes h.rest)));
    }

most_in : (lim : Limits) (b more : List ℕ) → length b ≤ lim.bytes → ((more ≡ []) ⊎ (length b ≡ lim.bytes)) → Parts b → Most lim (b ++ more)
most_in lim b more k whole (good_parts cs tail d) = by (judged_steps lim 0 start cs) (judged_says lim [] start cs (start_reads lim))
  where
    by : (r : Result State DocumentRefusal) → Said lim cs r → Most lim (b ++ more)
    by (Ok t) s =
        let stands : Stands lim b tail t = record { chars = cs; decodes = d; reads = s } in
        record {
          chars = cs;
          state = t;
          front = s.front;
          longest = elim whole [
            | inl e ↦ subst (λ l. IsLongest lim l cs) (sym (append-nil b) ∙ ap (λ l. b ++ l) (sym e)) (longest_so_far lim b tail t stands k)
            | inr e ↦ longest_at_limit lim b more tail t stands e
          ];
        }
    by (Err f) s = most_at lim (b ++ more) cs (tail ++ more) f d.chars (ap (λ l. l ++ more) d.parts ∙ append_assoc (encodes cs) tail more) (omega (arith, k, ap length d.parts, length-append (encodes cs) tail)) s
most_in lim b more k whole (bad_parts cs i) = by (judged_steps lim 0 start cs) (judged_says lim [] start cs (start_reads lim))
  where
    within : length (encodes cs) ≤ lim.bytes
    within = omega (arith, k, ap length i.parts, length-append (encodes cs) i.rest)

    by : (r : Result State DocumentRefusal) → Said lim cs r → Most lim (b ++ more)
    by (Ok t) s = record {
      chars = cs;
      state = t;
      front = s.front;
      longest = longest_at_bad lim (b ++ more) cs t s (record { rest = i.rest ++ more; chars = i.chars; parts = ap (λ l. l ++ more) i.parts ∙ append_assoc (encodes cs) i.rest more; bad = bad_more i.rest more i.bad }) within;
    }
    by (Err f) s = most_at lim (b ++ more) cs (i.rest ++ more) f i.chars (ap (λ l. l ++ more) i.parts ∙ append_assoc (encodes cs) i.rest more) within s

pub most : (lim : Limits) (b : List ℕ) → Most lim b
most lim b =
    elim (cases_lt lim.bytes (length b)) [
      | inr k ↦ subst (Most lim) (append-nil b) (most_in lim b [] k (inl refl) (parts b))
      | inl k ↦
          let full : length (take lim.bytes b) ≡ lim.bytes = omega (arith, k, length-take lim.bytes b) in
          subst (Most lim) (take-append-drop lim.bytes b) (most_in lim (take lim.bytes b) (drop lim.bytes b) (omega (arith, full)) (inr full) (parts (take lim.bytes b)))
    ]

-- what is seen in bytes
pub found_seen : (lim : Limits) (b : List ℕ) (over : Bool) → (ts : List TreeToken) × SeenIs lim b over ts
found_seen lim b false = let m = most lim b in (m.state.tokens, seen_so_far lim b m.chars m.state m.front m.longest)
found_seen lim b true = let f = found lim b true in by (most lim b) f.0 f.1
  where
    by : Most lim b → (o : Option DocFault) → FaultIs lim b true o → (ts : List TreeToken) × SeenIs lim b true ts
    by m None w = (m.state.tokens ++ (End ∷ []), seen_whole lim b m.chars m.state m.front m.longest w)
    by m (Some f) w = (m.state.tokens, seen_at_fault lim b m.chars true m.state f m.front m.longest w)
