-- Tokens are read one behind the other.
use Rattle.std.proofs.Common.{ℕ, ◌≡◌, ◌+◌, ◌≤◌, List, [], ◌∷◌, ◌++◌, length, take, drop, refl, sym, ap, ◌∙◌, subst, arith, length-drop}
use Rattle.std.specs.Str.{encode_utf8_all, chars}
use Rattle.std.specs.Prelude.{IsUtf8}
use Rattle.std.proofs.lemmas.List.{drop-drop}
use Rattle.gcx_model.specs.declared.fault.QueryFault.{QueryFault}
use Rattle.gcx_model.specs.declared.fault.QueryFault.TheVariants.{Utf8, Lex, Syntax, UnknownVar, TagMismatch, DescendantNotLast, IntegerWide, TooLarge, Memory}
use Rattle.xq_lex.specs.declared.token.Tok.{Tok}
use Rattle.xq_lex.specs.declared.token.TokKind.{TokKind}
use Rattle.xq_lex.specs.declared.lexer.Step.{Step}
use Rattle.xq_lex.specs.Gap.{HasGap}
use Rattle.xq_lex.specs.Form.{BeginsWith}
use Rattle.xq_lex.specs.Lex.{Reads, ReadsAll, LexFault}
use Rattle.gcx_model.specs.Refusals.{UnlessMemory}
use Rattle.xq_lex.specs.Answer.{IsLexeme, IsRefusal}
use Rattle.xq_lex.specs.Steps.{IsNext, IsStop, IsStopped}
use Rattle.xq_lex.proofs.Encoding.{split_size}

-- a token more at the end
pub reads_on : (total : ℕ) (text : List ℕ) (ts : List Tok) (t : Tok) (middle rest : List ℕ) → ReadsAll total text ts middle → Reads total middle t rest → ReadsAll total text (ts ++ t ∷ []) rest
reads_on total text [] t middle rest e r = (rest, (subst (λ (x : List ℕ). Reads total x t rest) (sym e) r, refl))
reads_on total text (u ∷ ts) t middle rest (next, (first, more)) r = (next, (first, reads_on total next ts t middle rest more r))

-- the bytes of a part and of what follows it
gap_size : (count : ℕ) (text : List ℕ) (place from : ℕ) → from ≡ place + length (encode_utf8_all (take count text)) → from + length (encode_utf8_all (drop count text)) ≡ place + length (encode_utf8_all text)
gap_size count text place from e = omega (arith, split_size count text)

pub next_is : (place : ℕ) (text : List ℕ) (gap count : ℕ) (kind : TokKind) (from to : ℕ) → gap ≤ length text → HasGap text (drop gap text) →
    from ≡ place + length (encode_utf8_all (take gap text)) → to ≡ from + length (encode_utf8_all (take count (drop gap text))) → IsLexeme (drop gap text) kind count →
    IsNext place text (record { token = record { kind = kind; from = from; to = to }; count = gap + count })
next_is place text gap count kind from to within g e h l = record {
  reads = record {
    behind_gap = drop gap text;
    form = l.form;
    gap = g;
    begins = subst (λ (x : List ℕ). BeginsWith (drop gap text) l.form x) (drop-drop count gap text) l.begins;
    in_range = l.in_range;
    kind = l.kind_is;
    from = first;
    to = ap (λ (x : List ℕ). to + length (encode_utf8_all x)) (sym (drop-drop count gap text)) ∙ (gap_size count (drop gap text) from to h ∙ first);
  };
  within = omega (arith, l.within, length-drop gap text);
  some = omega (arith, l.some);
}
  where
    first : from + length (encode_utf8_all (drop gap text)) ≡ place + length (encode_utf8_all text)
    first = gap_size gap text place from e

pub stop_is : (place : ℕ) (text : List ℕ) (gap from : ℕ) (fault : QueryFault) → HasGap text (drop gap text) → from ≡ place + length (encode_utf8_all (take gap text)) → IsRefusal from (drop gap text) fault → IsStop place text fault
stop_is place text gap from (Lex at) g e r = record { behind = drop gap text; gap = g; place_is = gap_size gap text place at (r.0 ∙ e); stops = r.1 }
stop_is place text gap from (IntegerWide at) g e r = record { behind = drop gap text; gap = g; place_is = gap_size gap text place at (r.0 ∙ e); stops = r.1 }
stop_is place text gap from (Utf8 at) g e r = absurd r
stop_is place text gap from (Syntax at) g e r = absurd r
stop_is place text gap from (UnknownVar at) g e r = absurd r
stop_is place text gap from (TagMismatch at) g e r = absurd r
stop_is place text gap from (DescendantNotLast at) g e r = absurd r
stop_is place text gap from (TooLarge what limit) g e r = absurd r
stop_is place text gap from Memory g e r = tt

-- What is read of a text.
pub record ReadsTo (text : List ℕ) (tokens : List Tok) (count place : ℕ) : Type 0 where
  pub reads : ReadsAll (length (encode_utf8_all text)) text tokens (drop count text)
  pub within : count ≤ length text
  pub place_is : place + length (encode_utf8_all (drop count text)) ≡ length (encode_utf8_all text)

pub reads_next : (text : List ℕ) (tokens : List Tok) (count place : ℕ) (step : Step) → ReadsTo text tokens count place → IsNext place (drop count text) step → ReadsTo text (tokens ++ step.token ∷ []) (count + step.count) step.token.to
reads_next text tokens count place step r n =
    let left : drop step.count (drop count text) ≡ drop (count + step.count) text = drop-drop step.count count text in
    let total : place + length (encode_utf8_all (drop count text)) ≡ length (encode_utf8_all text) = r.place_is in
    let here : Reads (length (encode_utf8_all text)) (drop count text) step.token (drop (count + step.count) text) =
    subst (λ (x : List ℕ). Reads (length (encode_utf8_all text)) (drop count text) step.token x) left
    (subst (λ (x : ℕ). Reads x (drop count text) step.token (drop step.count (drop count text))) total n.reads) in
    record {
      reads = reads_on (length (encode_utf8_all text)) text tokens step.token (drop count text) (drop (count + step.count) text) r.reads here;
      within = omega (arith, n.within, r.within, length-drop count text);
      place_is = here.to;
    }

-- of the characters and of the bytes
pub fault_of : (bytes : List ℕ) (fault : QueryFault) → length bytes ≤ 1048576 → IsUtf8 bytes → IsStopped (chars bytes) fault → UnlessMemory (LexFault bytes) fault
fault_of bytes (Lex at) h u s = record { short = h; utf8 = u; holds = s }
fault_of bytes (IntegerWide at) h u s = record { short = h; utf8 = u; holds = s }
fault_of bytes (Utf8 at) h u s = absurd s
fault_of bytes (Syntax at) h u s = absurd s
fault_of bytes (UnknownVar at) h u s = absurd s
fault_of bytes (TagMismatch at) h u s = absurd s
fault_of bytes (DescendantNotLast at) h u s = absurd s
fault_of bytes (TooLarge what limit) h u s = absurd s
fault_of bytes Memory h u s = tt
