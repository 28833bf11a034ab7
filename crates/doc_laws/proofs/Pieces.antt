-- Bytes in pieces: the characters, the fault of the bytes, and their limit.
use Rattle.std.proofs.Common.{ℕ, zero, suc, ◌≡◌, ◌+◌, ◌-◌, ◌<◌, ◌≤◌, ◌⊎◌, inl, inr, Bool, true, false, List, [], ◌∷◌, ◌++◌, length, take, Some, None, refl, sym, ap, ◌∙◌, subst, append_assoc, append-nil, arith, length-append}
use Rattle.std.proofs.lemmas.Str.{encodes-append, length-encode}
use Rattle.std.proofs.lemmas.Bool.{false≢true, cases_lt, and_parts, and_from}
use lib.Utf8.{scalar, scalars, encode, encodes}
use Rattle.gcx_base.specs.declared.limits.Limits.{Limits}
use Rattle.gcx_model.specs.Document.{Nodes, tokens}
use Rattle.gcx_model.specs.Grammar.{SpellsDocument}
use Rattle.gcx_model.specs.declared.fault.DocFault.{DocFault}
use Rattle.gcx_model.specs.declared.fault.DocFault.TheVariants.{Utf8, Truncated}
use Rattle.gcx_model.specs.Faults.{size, IsNotUtf8, Decodes, FaultWithin, by_character, by_sequence, by_cut, by_end, none_yet, none_whole, FaultIs, within_limit, before_limit, past_limit}
use Rattle.doc_laws.specs.Machine.{State, is_whole}
use Rattle.doc_laws.proofs.Theorems.{whole_spells, not_whole}
use Rattle.doc_laws.proofs.Faults.{Reads}

pub scalars_append : (cs ds : List ℕ) → scalars cs ≡ true → scalars ds ≡ true → scalars (cs ++ ds) ≡ true
scalars_append [] ds h k = k
scalars_append (c ∷ cs) ds h k = let q = and_parts (scalar c) (scalars cs) h in and_from (scalar c) _ q.0 (scalars_append cs ds q.1 k)

joined : (b cs tail piece ds rest : List ℕ) → b ≡ encodes cs ++ tail → tail ++ piece ≡ encodes ds ++ rest → b ++ piece ≡ encodes (cs ++ ds) ++ rest
joined b cs tail piece ds rest d e = ap (λ l. l ++ piece) d ∙ append_assoc (encodes cs) tail piece ∙ ap (λ l. encodes cs ++ l) e ∙ sym (append_assoc (encodes cs) (encodes ds) rest) ∙ ap (λ l. l ++ rest) (sym (encodes-append cs ds))

-- how many bytes characters take
pub size_is : (cs : List ℕ) → size cs ≡ length (encodes cs)
size_is [] = refl
size_is (c ∷ cs) = omega (arith, size_is cs, length-encode c, length-append (encode c) (encodes cs))

-- what a reader of bytes stands for
pub record Stands (lim : Limits) (b tail : List ℕ) (s : State) : Type 0 where
  pub chars : List ℕ
  pub decodes : Decodes b chars tail
  pub reads : Reads lim chars s

-- the place of the bytes that are no character yet
pub stands_place : (lim : Limits) (b tail : List ℕ) (s : State) (h : Stands lim b tail s) → size h.chars + length tail ≡ length b
stands_place lim b tail s h = omega (arith, size_is h.chars, ap length h.decodes.parts, length-append (encodes h.chars) tail)

-- no fault so far
pub none_stands : (lim : Limits) (b tail : List ℕ) (s : State) → Stands lim b tail s → FaultWithin lim b false None
none_stands lim b tail s h = none_yet h.chars tail h.decodes h.reads.clean refl refl

-- the input ends inside a character, too soon, or where a document is whole
pub end_cut : (lim : Limits) (b tail : List ℕ) (s : State) (h : Stands lim b tail s) → (tail ≡ [] → ⊥) → FaultWithin lim b true (Some (Utf8 (size h.chars)))
end_cut lim b tail s h k = by_cut h.chars tail h.decodes h.reads.clean k refl refl

pub end_short : (lim : Limits) (b : List ℕ) (s : State) (h : Stands lim b [] s) → is_whole s ≡ false → FaultWithin lim b true (Some (Truncated (length b)))
end_short lim b s h w =
    by_end h.chars h.decodes h.reads.clean (λ d sp. not_whole h.chars s d h.reads.front w sp) refl
    (let place : length b ≡ size h.chars = omega (arith, stands_place lim b [] s h) in ap (λ k. Some (Truncated k)) place)

pub end_whole : (lim : Limits) (b : List ℕ) (s : State) → Stands lim b [] s → is_whole s ≡ true → FaultWithin lim b true None × (d : Nodes) × (cs : List ℕ) × (b ≡ encodes cs) × SpellsDocument cs d × (s.tokens ≡ tokens d)
end_whole lim b s h w =
    let d = whole_spells h.chars s h.reads.front w in
    (none_whole h.chars d.0 h.decodes h.reads.clean d.1 refl refl, d.0, h.chars, h.decodes.parts ∙ append-nil (encodes h.chars), d.1, d.2)

-- lists in two parts
pub meet : (a b c d : List ℕ) → a ++ b ≡ c ++ d → ((m : List ℕ) × (c ≡ a ++ m) × (b ≡ m ++ d)) ⊎ ((m : List ℕ) × (a ≡ c ++ m) × (d ≡ m ++ b))
meet [] b c d e = inl (c, refl, e)
meet (x ∷ a) b [] d e = inr (x ∷ a, refl, sym e)
meet (x ∷ a) b (y ∷ c) d e =
    let head : x ≡ y = cc in
    let tail : a ++ b ≡ c ++ d = cc in
    elim (meet a b c d tail) [
      | inl q ↦ inl (q.0, ap (λ l. y ∷ l) q.1 ∙ ap (λ z. z ∷ (a ++ q.0)) (sym head), q.2)
      | inr q ↦ inr (q.0, ap (λ l. x ∷ l) q.1 ∙ ap (λ z. z ∷ (c ++ q.0)) head, q.2)
    ]

some_of : (m : List ℕ) → (0 < length m) ⊎ (m ≡ [])
some_of [] = inr refl
some_of (x ∷ m) = inl (omega arith)

-- what isn't UTF-8 isn't with more bytes
pub bad_more : (rest more : List ℕ) → IsNotUtf8 rest → IsNotUtf8 (rest ++ more)
bad_more rest more h = record {
  no_char = λ c r s e. elim (meet rest more (encode c) r e) [
    | inl q ↦ elim (some_of q.0) [
      | inl k ↦ h.no_front (record { c = c; rest = q.0; scalar = s; bytes = q.1; more = k })
      | inr k ↦ h.no_char c [] s (sym (append-nil rest) ∙ ap (λ l. rest ++ l) (sym k) ∙ sym q.1 ∙ sym (append-nil (encode c)))
    ]
    | inr q ↦ h.no_char c q.0 s q.1
  ];
  no_front = λ f. h.no_front (record { c = f.c; rest = more ++ f.rest; scalar = f.scalar; bytes = f.bytes ∙ append_assoc rest more f.rest; more = omega (arith, f.more, length-append more f.rest) });
}

-- a fault stays with more bytes
pub within_stays : (lim : Limits) (b more : List ℕ) (ended : Bool) (f : DocFault) → FaultWithin lim b false (Some f) → FaultWithin lim (b ++ more) ended (Some f)
within_stays lim b more ended f (by_character cs rest r s e c o) = by_character cs (rest ++ more) r s (ap (λ l. l ++ more) e ∙ append_assoc (encodes cs) rest more) c o
within_stays lim b more ended f (by_sequence cs i c o) =
    by_sequence cs (record { rest = i.rest ++ more; chars = i.chars; parts = ap (λ l. l ++ more) i.parts ∙ append_assoc (encodes cs) i.rest more; bad = bad_more i.rest more i.bad }) c o
within_stays lim b more ended f (by_cut cs tail d c n e o) = absurd (false≢true e)
within_stays lim b more ended f (by_end cs d c n e o) = absurd (false≢true e)
within_stays lim b more ended f (none_yet cs tail d c e o) = let no : ⊥ = cc in absurd no
within_stays lim b more ended f (none_whole cs d dd c sp e o) = absurd (false≢true e)

pub take_past : (n : ℕ) (b more : List ℕ) → length b ≤ n → take n (b ++ more) ≡ b ++ take (n - length b) more
take_past n [] more h = let e : n ≡ n - length {A = ℕ} [] = omega arith in ap (λ k. take k more) e
take_past zero (c ∷ b) more h = absurd (omega arith)
take_past (suc n) (c ∷ b) more h = let e : suc n - length (c ∷ b) ≡ n - length b = omega arith in ap (λ l. c ∷ l) (take_past n b more (omega arith)) ∙ ap (λ k. c ∷ (b ++ take k more)) (sym e)

pub take_front : (n : ℕ) (b more : List ℕ) → n ≤ length b → take n (b ++ more) ≡ take n b
take_front zero b more h = refl
take_front (suc n) [] more h = absurd (omega arith)
take_front (suc n) (c ∷ b) more h = ap (λ l. c ∷ l) (take_front n b more (omega arith))

pub bytes_fault : (lim : Limits) (b piece : List ℕ) (ended : Bool) (f : DocFault) → length b ≤ lim.bytes → lim.bytes < length (b ++ piece) → FaultWithin lim (b ++ take (lim.bytes - length b) piece) false (Some f) → FaultIs lim (b ++ piece) ended (Some f)
bytes_fault lim b piece ended f h k w = before_limit f k (subst (λ l. FaultWithin lim l false (Some f)) (sym (take_past lim.bytes b piece h)) w) refl

-- a fault of bytes stays
pub fault_stays : (lim : Limits) (b more : List ℕ) (ended : Bool) (f : DocFault) → FaultIs lim b false (Some f) → FaultIs lim (b ++ more) ended (Some f)
fault_stays lim b more ended f (within_limit h w) =
    elim (cases_lt lim.bytes (length (b ++ more))) [
      | inl k ↦ bytes_fault lim b more ended f h k (within_stays lim b (take (lim.bytes - length b) more) false f w)
      | inr k ↦ within_limit k (within_stays lim b more ended f w)
    ]
fault_stays lim b more ended f (before_limit g h w o) =
    before_limit g (omega (arith, length-append b more)) (subst (λ l. FaultWithin lim l false (Some g)) (sym (take_front lim.bytes b more (omega arith))) w) o
fault_stays lim b more ended f (past_limit h w o) =
    past_limit (omega (arith, length-append b more)) (subst (λ l. FaultWithin lim l false None) (sym (take_front lim.bytes b more (omega arith))) w) o
