-- There is one fault, or none.
use Rattle.std.proofs.Common.{ℕ, ◌≡◌, ◌+◌, ◌⊎◌, inl, inr, Bool, true, false, List, [], ◌∷◌, ◌++◌, length, take, Option, Some, None, Result, Ok, Err, refl, sym, ap, ◌∙◌, subst, append_assoc, append-nil, arith, length-append}
use Rattle.std.specs.Char.{len_utf8}
use Rattle.std.proofs.lemmas.Str.{encode_same}
use Rattle.std.proofs.lemmas.Bool.{true≢false, and_parts}
use lib.Utf8.{scalar, scalars, encode, encodes}
use Rattle.gcx_base.specs.declared.limits.Limits.{Limits}
use Rattle.gcx_model.specs.Document.{Nodes}
use Rattle.gcx_model.specs.Grammar.{SpellsDocument}
use Rattle.gcx_model.specs.declared.fault.DocFault.{DocFault}
use Rattle.gcx_model.specs.declared.fault.DocFault.TheVariants.{Utf8, Truncated}
use Rattle.gcx_model.specs.Faults.{DocumentRefusal, fault_of, Clean, ComesFirst, size, IsCharFront, IsNotUtf8, FaultWithin, by_character, by_sequence, by_cut, by_end, none_yet, none_whole, FaultIs, within_limit, before_limit, past_limit}
use Rattle.doc_laws.specs.Machine.{State, start}
use Rattle.doc_laws.specs.Judging.{judged, on_ok, judged_steps}
use Rattle.doc_laws.proofs.Faults.{Reads, Said, judged_says, start_reads, comes_refusal}

-- judged steps over joined characters
pub judged_append : (lim : Limits) (k : ℕ) (s : State) (a b : List ℕ) → judged_steps lim k s (a ++ b) ≡ on_ok (judged_steps lim k s a) (λ t. judged_steps lim (k + size a) t b)
judged_append lim k s [] b = let e : k ≡ k + size [] = omega arith in ap (λ n. judged_steps lim n s b) e
judged_append lim k s (c ∷ a) b =
    elim (judged lim k s c) as (λ (r : Result State DocumentRefusal). on_ok r (λ t. judged_steps lim (k + len_utf8 c) t (a ++ b)) ≡ on_ok (on_ok r (λ t. judged_steps lim (k + len_utf8 c) t a)) (λ t. judged_steps lim (k + size (c ∷ a)) t b)) [
      | Err f ↦ refl
      | Ok t ↦
          let e : (k + len_utf8 c) + size a ≡ k + size (c ∷ a) = omega arith in
          judged_append lim (k + len_utf8 c) t a b ∙ ap (λ n. on_ok (judged_steps lim (k + len_utf8 c) t a) (λ u. judged_steps lim n u b)) e
    ]

-- clean characters are read
pub clean_reads : (lim : Limits) (cs : List ℕ) → Clean lim cs → (t : State) × Reads lim cs t × (judged_steps lim 0 start cs ≡ Ok t)
clean_reads lim cs h = by (judged_steps lim 0 start cs) refl (judged_says lim [] start cs (start_reads lim))
  where
    by : (r : Result State DocumentRefusal) → judged_steps lim 0 start cs ≡ r → Said lim cs r → (t : State) × Reads lim cs t × (judged_steps lim 0 start cs ≡ Ok t)
    by (Ok t) e s = (t, s, e)
    by (Err f) e s = absurd (h s.front s.at s.rest f s.parts s.comes)

-- the fault that comes first is what the judged steps answer
pub first_judged : (lim : Limits) (cs : List ℕ) (f : DocumentRefusal) → ComesFirst lim cs f → judged_steps lim 0 start cs ≡ Err f
first_judged lim cs f h =
    let r = clean_reads lim h.front h.clean in
    let refusal : judged lim (size h.front) r.0 h.at ≡ Err f = comes_refusal lim h.front h.at r.0 f r.1.front r.1.short h.comes in
    let e : 0 + size h.front ≡ size h.front = omega arith in
    ap (judged_steps lim 0 start) h.parts
    ∙ judged_append lim 0 start h.front (h.at ∷ h.rest)
    ∙ ap (λ q. on_ok q (λ t. judged_steps lim (0 + size h.front) t (h.at ∷ h.rest))) r.2
    ∙ ap (λ n. judged_steps lim n r.0 (h.at ∷ h.rest)) e
    ∙ ap (λ q. on_ok q (λ t. judged_steps lim (size h.front + len_utf8 h.at) t h.rest)) refusal

same_err : (f g : DocumentRefusal) → ◌≡◌ {A = Result State DocumentRefusal} (Err f) (Err g) → f ≡ g
same_err f g e = cc

pub first_one : (lim : Limits) (cs : List ℕ) (f g : DocumentRefusal) → ComesFirst lim cs f → ComesFirst lim cs g → f ≡ g
first_one lim cs f g h k = same_err f g (sym (first_judged lim cs f h) ∙ first_judged lim cs g k)

pub first_more : (lim : Limits) (cs more : List ℕ) (f : DocumentRefusal) → ComesFirst lim cs f → ComesFirst lim (cs ++ more) f
first_more lim cs more f h = record { front = h.front; at = h.at; rest = h.rest ++ more; parts = ap (λ l. l ++ more) h.parts ∙ append_assoc h.front (h.at ∷ h.rest) more; clean = h.clean; comes = h.comes }

pub first_unclean : {X : Type 0} (lim : Limits) (cs : List ℕ) (f : DocumentRefusal) → ComesFirst lim cs f → Clean lim cs → X
first_unclean lim cs f h k = absurd (k h.front h.at h.rest f h.parts h.comes)

pub clean_front : (lim : Limits) (cs more : List ℕ) → Clean lim (cs ++ more) → Clean lim cs
clean_front lim cs more h front c rest f e k = h front c (rest ++ more) f (ap (λ l. l ++ more) e ∙ append_assoc front (c ∷ rest) more) k

-- characters before bytes
pub chars_meet : (cs r ds q : List ℕ) → encodes cs ++ r ≡ encodes ds ++ q → ((m : List ℕ) × (ds ≡ cs ++ m) × (r ≡ encodes m ++ q)) ⊎ ((m : List ℕ) × (cs ≡ ds ++ m) × (q ≡ encodes m ++ r))
chars_meet [] r ds q e = inl (ds, refl, e)
chars_meet (c ∷ cs) r [] q e = inr (c ∷ cs, refl, sym e)
chars_meet (c ∷ cs) r (d ∷ ds) q e =
    let k = encode_same c d (encodes cs ++ r) (encodes ds ++ q) (sym (append_assoc (encode c) (encodes cs) r) ∙ e ∙ append_assoc (encode d) (encodes ds) q) in
    elim (chars_meet cs r ds q k.1) [
      | inl p ↦ inl (p.0, ap (λ l. d ∷ l) p.1 ∙ ap (λ a. a ∷ (cs ++ p.0)) (sym k.0), p.2)
      | inr p ↦ inr (p.0, ap (λ l. c ∷ l) p.1 ∙ ap (λ a. a ∷ (ds ++ p.0)) k.0, p.2)
    ]

-- no character begins the bytes
abbrev pub NoChar : List ℕ → Type 0
NoChar q = (c : ℕ) (rest : List ℕ) → scalar c ≡ true → q ≡ encode c ++ rest → ⊥

pub front_no_char : (q : List ℕ) → IsCharFront q → NoChar q
front_no_char q f c rest s e =
    let k = encode_same f.c c [] (rest ++ f.rest) (append-nil (encode f.c) ∙ f.bytes ∙ ap (λ l. l ++ f.rest) e ∙ append_assoc (encode c) rest f.rest) in
    let z : length {A = ℕ} [] ≡ length (rest ++ f.rest) = ap length k.1 in
    omega (arith, z, f.more, length-append rest f.rest)

scalars_past : (cs m : List ℕ) → scalars (cs ++ m) ≡ true → scalars m ≡ true
scalars_past [] m h = h
scalars_past (c ∷ cs) m h = scalars_past cs m (and_parts (scalar c) (scalars (cs ++ m)) h).1

-- no character follows what no character begins
nothing_more : (m r q : List ℕ) → scalars m ≡ true → NoChar q → q ≡ encodes m ++ r → m ≡ []
nothing_more [] r q s n e = refl
nothing_more (c ∷ m) r q s n e = absurd (n c (encodes m ++ r) (and_parts (scalar c) (scalars m) s).0 (e ∙ append_assoc (encode c) (encodes m) r))

-- characters behind which no character stands are all others and more
pub longest : (b cs r ds q : List ℕ) → b ≡ encodes cs ++ r → b ≡ encodes ds ++ q → scalars cs ≡ true → NoChar q → (m : List ℕ) × (ds ≡ cs ++ m) × (r ≡ encodes m ++ q)
longest b cs r ds q e f s n =
    elim (chars_meet cs r ds q (sym e ∙ f)) [
      | inl p ↦ p
      | inr p ↦
          let none = nothing_more p.0 r q (scalars_past ds p.0 (ap scalars (sym p.1) ∙ s)) n p.2 in
          ([], sym (append-nil ds) ∙ ap (λ l. ds ++ l) (sym none) ∙ sym p.1 ∙ sym (append-nil cs), sym (p.2 ∙ ap (λ l. encodes l ++ r) none))
    ]

-- why characters end
data Why (lim : Limits) (cs q : List ℕ) (ended : Bool) (o : Option DocFault) : Type 0 where
  bad : IsNotUtf8 q → o ≡ Some (Utf8 (size cs)) → Why lim cs q ended o
  cut : IsCharFront q → (q ≡ [] → ⊥) → ended ≡ true → o ≡ Some (Utf8 (size cs)) → Why lim cs q ended o
  short : q ≡ [] → IsCharFront q → ((d : Nodes) → SpellsDocument cs d → ⊥) → ended ≡ true → o ≡ Some (Truncated (size cs)) → Why lim cs q ended o
  open_still : IsCharFront q → ended ≡ false → o ≡ None → Why lim cs q ended o
  whole : q ≡ [] → IsCharFront q → (d : Nodes) → SpellsDocument cs d → ended ≡ true → o ≡ None → Why lim cs q ended o

-- a character makes a fault, or the characters end
data Shape (lim : Limits) (b : List ℕ) (ended : Bool) (o : Option DocFault) : Type 0 where
  made : (cs rest : List ℕ) (f : DocumentRefusal) → scalars cs ≡ true → b ≡ encodes cs ++ rest → ComesFirst lim cs f → o ≡ Some (fault_of f) → Shape lim b ended o
  ends : (cs q : List ℕ) → scalars cs ≡ true → b ≡ encodes cs ++ q → NoChar q → Clean lim cs → Why lim cs q ended o → Shape lim b ended o

shape : (lim : Limits) (b : List ℕ) (ended : Bool) (o : Option DocFault) → FaultWithin lim b ended o → Shape lim b ended o
shape lim b ended o (by_character cs rest f s e c i) = made cs rest f s e c i
shape lim b ended o (by_sequence cs i c e) = ends cs i.rest i.chars i.parts i.bad.no_char c (bad i.bad e)
shape lim b ended o (by_cut cs tail d c n i e) = ends cs tail d.chars d.parts (front_no_char tail d.part) c (cut d.part n i e)
shape lim b ended o (by_end cs d c n i e) = ends cs [] d.chars d.parts (front_no_char [] d.part) c (short refl d.part n i e)
shape lim b ended o (none_yet cs tail d c i e) = ends cs tail d.chars d.parts (front_no_char tail d.part) c (open_still d.part i e)
shape lim b ended o (none_whole cs n d c s i e) = ends cs [] d.chars d.parts (front_no_char [] d.part) c (whole refl d.part n s i e)

why_one : (lim : Limits) (cs q : List ℕ) (ended : Bool) (o p : Option DocFault) → Why lim cs q ended o → Why lim cs q ended p → o ≡ p
why_one lim cs q ended o p (bad b e) (bad b2 f) = e ∙ sym f
why_one lim cs q ended o p (bad b e) (cut c n i f) = e ∙ sym f
why_one lim cs q ended o p (bad b e) (short z c n i f) = absurd (b.no_front c)
why_one lim cs q ended o p (bad b e) (open_still c i f) = absurd (b.no_front c)
why_one lim cs q ended o p (bad b e) (whole z c d s i f) = absurd (b.no_front c)
why_one lim cs q ended o p (cut c n i e) (bad b f) = e ∙ sym f
why_one lim cs q ended o p (cut c n i e) (cut c2 n2 i2 f) = e ∙ sym f
why_one lim cs q ended o p (cut c n i e) (short z c2 n2 i2 f) = absurd (n z)
why_one lim cs q ended o p (cut c n i e) (open_still c2 i2 f) = absurd (true≢false (sym i ∙ i2))
why_one lim cs q ended o p (cut c n i e) (whole z c2 d s i2 f) = absurd (n z)
why_one lim cs q ended o p (short z c n i e) (bad b f) = absurd (b.no_front c)
why_one lim cs q ended o p (short z c n i e) (cut c2 n2 i2 f) = absurd (n2 z)
why_one lim cs q ended o p (short z c n i e) (short z2 c2 n2 i2 f) = e ∙ sym f
why_one lim cs q ended o p (short z c n i e) (open_still c2 i2 f) = absurd (true≢false (sym i ∙ i2))
why_one lim cs q ended o p (short z c n i e) (whole z2 c2 d s i2 f) = absurd (n d s)
why_one lim cs q ended o p (open_still c i e) (bad b f) = absurd (b.no_front c)
why_one lim cs q ended o p (open_still c i e) (cut c2 n2 i2 f) = absurd (true≢false (sym i2 ∙ i))
why_one lim cs q ended o p (open_still c i e) (short z c2 n2 i2 f) = absurd (true≢false (sym i2 ∙ i))
why_one lim cs q ended o p (open_still c i e) (open_still c2 i2 f) = e ∙ sym f
why_one lim cs q ended o p (open_still c i e) (whole z c2 d s i2 f) = e ∙ sym f
why_one lim cs q ended o p (whole z c d s i e) (bad b f) = absurd (b.no_front c)
why_one lim cs q ended o p (whole z c d s i e) (cut c2 n2 i2 f) = absurd (n2 z)
why_one lim cs q ended o p (whole z c d s i e) (short z2 c2 n2 i2 f) = absurd (n2 d s)
why_one lim cs q ended o p (whole z c d s i e) (open_still c2 i2 f) = e ∙ sym f
why_one lim cs q ended o p (whole z c d s i e) (whole z2 c2 d2 s2 i2 f) = e ∙ sym f

made_ends : {X : Type 0} (lim : Limits) (b cs rest ds q : List ℕ) (f : DocumentRefusal) → scalars cs ≡ true → b ≡ encodes cs ++ rest → ComesFirst lim cs f → b ≡ encodes ds ++ q → NoChar q → Clean lim ds → X
made_ends lim b cs rest ds q f s e c e2 n cl =
    let k = longest b cs rest ds q e e2 s n in
    first_unclean lim (cs ++ k.0) f (first_more lim cs k.0 f c) (subst (Clean lim) k.1 cl)

shape_one : (lim : Limits) (b : List ℕ) (ended : Bool) (o p : Option DocFault) → Shape lim b ended o → Shape lim b ended p → o ≡ p
shape_one lim b ended o p (made cs r f s e c i) (made ds q g s2 e2 c2 i2) =
    elim (chars_meet cs r ds q (sym e ∙ e2)) [
      | inl k ↦ i ∙ ap (λ f. Some (fault_of f)) (first_one lim ds f g (subst (λ l. ComesFirst lim l f) (sym k.1) (first_more lim cs k.0 f c)) c2) ∙ sym i2
      | inr k ↦ i ∙ ap (λ f. Some (fault_of f)) (first_one lim cs f g c (subst (λ l. ComesFirst lim l g) (sym k.1) (first_more lim ds k.0 g c2))) ∙ sym i2
    ]
shape_one lim b ended o p (made cs r f s e c i) (ends ds q s2 e2 n cl w) = made_ends lim b cs r ds q f s e c e2 n cl
shape_one lim b ended o p (ends ds q s2 e2 n cl w) (made cs r f s e c i) = made_ends lim b cs r ds q f s e c e2 n cl
shape_one lim b ended o p (ends cs r s e n cl w) (ends ds q s2 e2 n2 cl2 w2) =
    let k = longest b cs r ds q e e2 s n2 in
    let none = nothing_more k.0 q r (scalars_past cs k.0 (ap scalars (sym k.1) ∙ s2)) n k.2 in
    let chars : ds ≡ cs = k.1 ∙ ap (λ l. cs ++ l) none ∙ append-nil cs in
    let rest : q ≡ r = sym (k.2 ∙ ap (λ l. encodes l ++ q) none) in
    why_one lim cs r ended o p w (subst (λ l. Why lim l r ended p) chars (subst (λ l. Why lim ds l ended p) rest w2))

pub within_one : (lim : Limits) (b : List ℕ) (ended : Bool) (o p : Option DocFault) → FaultWithin lim b ended o → FaultWithin lim b ended p → o ≡ p
within_one lim b ended o p h k = shape_one lim b ended o p (shape lim b ended o h) (shape lim b ended p k)

some_none : {X : Type 0} (f : DocFault) → Some f ≡ None → X
some_none f e = let no : ⊥ = cc in absurd no

-- the bytes have one fault at most
pub fault_one : (lim : Limits) (b : List ℕ) (ended : Bool) (o p : Option DocFault) → FaultIs lim b ended o → FaultIs lim b ended p → o ≡ p
fault_one lim b ended o p (within_limit h w) (within_limit k v) = within_one lim b ended o p w v
fault_one lim b ended o p (within_limit h w) (before_limit g k v e) = absurd (omega arith)
fault_one lim b ended o p (within_limit h w) (past_limit k v e) = absurd (omega arith)
fault_one lim b ended o p (before_limit f h w d) (within_limit k v) = absurd (omega arith)
fault_one lim b ended o p (before_limit f h w d) (before_limit g k v e) = d ∙ within_one lim (take lim.bytes b) false (Some f) (Some g) w v ∙ sym e
fault_one lim b ended o p (before_limit f h w d) (past_limit k v e) = some_none f (within_one lim (take lim.bytes b) false (Some f) None w v)
fault_one lim b ended o p (past_limit h w d) (within_limit k v) = absurd (omega arith)
fault_one lim b ended o p (past_limit h w d) (before_limit g k v e) = some_none g (within_one lim (take lim.bytes b) false (Some g) None v w)
fault_one lim b ended o p (past_limit h w d) (past_limit k v e) = d ∙ sym e
