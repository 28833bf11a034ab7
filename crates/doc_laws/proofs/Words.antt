-- What is seen, in other words.
use Rattle.std.proofs.Common.{ℕ, ◌≡◌, ◌≤◌, inl, inr, Bool, true, false, List, [], ◌∷◌, ◌++◌, length, Some, None, refl, sym, ap, ◌∙◌, subst, append_assoc, append-nil, arith, length-append}
use Rattle.std.proofs.lemmas.Bool.{false≢true, and_parts, and_from}
use Rattle.std.proofs.lemmas.Str.{encodes-append}
use lib.Utf8.{scalar, scalars, encode, encodes}
use Rattle.gcx_base.specs.declared.limits.Limits.{Limits}
use Rattle.gcx_model.specs.Tree.{TreeToken}
use Rattle.gcx_model.specs.declared.fault.DocFault.{DocFault}
use Rattle.gcx_model.specs.declared.fault.DocFault.TheVariants.{TooLong}
use Rattle.gcx_model.specs.Faults.{fault_of, Clean, IsCharFront, FaultWithin, by_character, by_sequence, by_cut, by_end, none_yet, none_whole, FaultIs, within_limit, before_limit, past_limit}
use Rattle.gcx_model.specs.Seen.{SeenIs, open_ends, SeenInWords}
use Rattle.doc_laws.proofs.Unique.{front_no_char, clean_front, longest}
use Rattle.doc_laws.proofs.LastTag.{last_tag, longest_is}

pub no_front : IsCharFront []
unfolding encode
no_front = record { c = 97; rest = 97 ∷ []; scalar = refl; bytes = refl; more = omega arith }

pub scalars_front : (cs m : List ℕ) → scalars (cs ++ m) ≡ true → scalars cs ≡ true
scalars_front [] m h = refl
scalars_front (c ∷ cs) m h = let k = and_parts (scalar c) (scalars (cs ++ m)) h in and_from (scalar c) _ k.0 (scalars_front cs m k.1)

some_none : {X : Type 0} (f : DocFault) → None ≡ Some f → X
some_none f e = let no : ⊥ = cc in absurd no

-- characters whose bytes have no fault are clean
clean_within : (lim : Limits) (cs : List ℕ) → scalars cs ≡ true → FaultWithin lim (encodes cs) false None → Clean lim cs
clean_within lim cs s (by_character ds rest f k e c o) = some_none (fault_of f) o
clean_within lim cs s (by_sequence ds i c o) = some_none _ o
clean_within lim cs s (by_cut ds tail d c n e o) = absurd (false≢true e)
clean_within lim cs s (by_end ds d c n e o) = absurd (false≢true e)
clean_within lim cs s (none_yet ds tail d c e o) =
    let k = longest (encodes cs) cs [] ds tail (sym (append-nil (encodes cs))) d.parts s (front_no_char tail d.part) in
    clean_front lim cs k.0 (subst (Clean lim) k.1 c)
clean_within lim cs s (none_whole ds n d c sp e o) = absurd (false≢true e)

clean_is : (lim : Limits) (cs : List ℕ) → scalars cs ≡ true → FaultIs lim (encodes cs) false None → (length (encodes cs) ≤ lim.bytes) × Clean lim cs
clean_is lim cs s (within_limit h w) = (h, clean_within lim cs s w)
clean_is lim cs s (before_limit f h w o) = some_none f o
clean_is lim cs s (past_limit h w o) = some_none (TooLong lim.bytes) o

-- what is seen, in other words
pub in_words : (lim : Limits) (b : List ℕ) (over : Bool) (ts : List TreeToken) → (h : SeenIs lim b over ts) → SeenInWords lim b h.tags
in_words lim b over ts h =
    let i = h.seen in
    let l = h.longest in
    let t = last_tag h.chars i.frames i.content i.piece i.opens in
    let chars_are : encodes h.chars ≡ encodes t.front ++ encodes t.rest = ap encodes t.parts ∙ encodes-append t.front t.rest in
    let short : length (encodes t.front) ≤ lim.bytes = omega (arith, l.within, ap length chars_are, length-append (encodes t.front) (encodes t.rest)) in
    let chars : scalars t.front ≡ true = scalars_front t.front t.rest (ap scalars (sym t.parts) ∙ l.chars) in
    let clean : Clean lim t.front = clean_front lim t.front t.rest (subst (Clean lim) t.parts l.clean) in
    record {
      front = t.front;
      rest = encodes t.rest ++ l.rest;
      chars = chars;
      parts = l.parts ∙ ap (λ z. z ++ l.rest) chars_are ∙ append_assoc (encodes t.front) (encodes t.rest) l.rest;
      no_fault = within_limit short (none_yet t.front [] (record { chars = chars; parts = sym (append-nil (encodes t.front)); part = no_front }) clean refl refl);
      by_tag = elim t.by_tag [
        | inl q ↦ inl (q.0, i.tokens_are ∙ q.1)
        | inr q ↦ inr (q.0, q.1, q.2, q.3 ∙ ap (λ z. z ++ open_ends q.0.frames) (sym i.tokens_are))
      ];
      longest = λ c more s e f w.
          let k = clean_is lim c s f in
          let m = longest_is lim b h.chars c more l s e k.0 k.1 in
          t.longest c m.0 m.1 w;
    }
