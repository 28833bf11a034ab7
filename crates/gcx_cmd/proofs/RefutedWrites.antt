-- What no end of `run` lets through: each lemma is a history that a wrong body leaves at the sinks.
use Rattle.std.proofs.Common.{◌≡◌, ◌≢◌, ◌⊎◌, cond, inl, inr, ℕ, ◌<◌, List, [], ◌∷◌, ◌++◌, length, map, Bool, true, false, Option, Some, refl, sym, ap, subst, ◌∙◌, append_assoc, arith, length-append}
use Rattle.std.proofs.lemmas.List.{append_cancel_left, map_push, same_from_push}
use Rattle.std.proofs.lemmas.Bool.{false≢true}
use Rattle.gcx_io.specs.Views.{Call, Took, Denied, SinkView}
use Rattle.gcx_io.specs.Writing.{Takes, Owes, joined}
use Rattle.gcx_model.specs.Values.{is_digit_byte}
use Rattle.gcx_words.specs.Words.{command_of}
use Rattle.gcx_words.specs.declared.command.Command.{Command}
use Rattle.gcx_words.specs.declared.command.Command.TheVariants.{Run}
use Rattle.run_words.specs.Ends.{SettlesBefore}
use Rattle.gcx_cmd.specs.Diagnosis.{line_of}
use Rattle.gcx_cmd.specs.Does.{DoesIf, Does, Diagnoses}
use Rattle.gcx_cmd.specs.World.{World}
use Rattle.gcx_cmd.specs.RunDoes.{Runs}
use Rattle.gcx_cmd.specs.Running.{Settles}
use Rattle.gcx_cmd.specs.Tracing.{IsQueryTrace}
use Rattle.gcx_cmd.specs.declared.status.Status.TheVariants as status

took_denied : (xs ys : List (List ℕ)) (p q : List ℕ) (rest : List Call) → map Took xs ++ Denied p ∷ rest ≡ map Took ys ++ Denied q ∷ [] → rest ≡ []
took_denied [] [] p q rest e = cc
took_denied [] (y ∷ ys) p q rest e = absurd (cc)
took_denied (x ∷ xs) [] p q rest e = absurd (cc)
took_denied (x ∷ xs) (y ∷ ys) p q rest e = (let f : map Took xs ++ Denied p ∷ rest ≡ map Took ys ++ Denied q ∷ [] = cc in took_denied xs ys p q rest f)

took_calm : (xs ys : List (List ℕ)) (p : List ℕ) (rest : List Call) → map Took xs ++ Denied p ∷ rest ≡ map Took ys → ⊥
took_calm [] [] p rest e = cc
took_calm [] (y ∷ ys) p rest e = cc
took_calm (x ∷ xs) [] p rest e = cc
took_calm (x ∷ xs) (y ∷ ys) p rest e = (let f : map Took xs ++ Denied p ∷ rest ≡ map Took ys = cc in took_calm xs ys p rest f)

took_same : (xs ys : List (List ℕ)) → map Took xs ≡ map Took ys → xs ≡ ys
took_same [] [] e = refl
took_same [] (y ∷ ys) e = absurd (cc)
took_same (x ∷ xs) [] e = absurd (cc)
took_same (x ∷ xs) (y ∷ ys) e =
    let f : map Took xs ≡ map Took ys = cc in let same : x ≡ y = cc in ap (λ (l : List (List ℕ)). x ∷ l) (took_same xs ys f) ∙ ap (λ (l : List ℕ). l ∷ ys) same

-- the output failed, or all was taken
calm_out : (a b : SinkView) (sure w : List ℕ) (qs : List (List ℕ)) → Owes a b sure w → b.calls ≡ a.calls ++ map Took qs → ⊥
calm_out a b sure w qs o e = took_calm o.pieces qs o.next [] (append_cancel_left a.calls _ _ (sym (append_assoc a.calls (map Took o.pieces) (Denied o.next ∷ [])) ∙ sym o.calls ∙ e))

-- a write to err failed, and then the line was written or failed again
line_behind : (a m b : SinkView) (ps : List (List ℕ)) (q sure t : List ℕ) → Owes a m sure t → Takes m b (line_of status.WriteFault) ⊎ Owes m b [] (line_of status.WriteFault)
    → b.calls ≡ a.calls ++ map Took ps ++ Denied q ∷ [] → ⊥
line_behind a m b ps q sure t o (inl line) e =
    let p = o.next in
    let calls : a.calls ++ (map Took o.pieces ++ Denied p ∷ map Took line.pieces) ≡ a.calls ++ (map Took ps ++ Denied q ∷ []) =
    sym (append_assoc a.calls (map Took o.pieces) (Denied p ∷ map Took line.pieces)) ∙ sym (append_assoc (a.calls ++ map Took o.pieces) (Denied p ∷ []) (map Took line.pieces))
    ∙ ap (λ (l : List Call). l ++ map Took line.pieces) (sym o.calls) ∙ sym line.calls ∙ e ∙ append_assoc a.calls (map Took ps) (Denied q ∷ []) in
    let none : map Took line.pieces ≡ [] = took_denied o.pieces ps p q (map Took line.pieces) (append_cancel_left a.calls _ _ calls) in
    let none' : line.pieces ≡ [] = took_same line.pieces [] none in
    let empty : [] ≡ line_of status.WriteFault = ap joined (sym none') ∙ line.whole in
    absurd (omega (arith, ap length empty))
line_behind a m b ps q sure t o (inr line) e =
    let p = o.next in
    let rest : List Call = map Took line.pieces ++ Denied line.next ∷ [] in
    let calls : a.calls ++ (map Took o.pieces ++ Denied p ∷ (map Took line.pieces ++ Denied line.next ∷ [])) ≡ a.calls ++ (map Took ps ++ Denied q ∷ []) =
    sym (append_assoc a.calls (map Took o.pieces) (Denied p ∷ (map Took line.pieces ++ Denied line.next ∷ []))) ∙ sym (append_assoc (a.calls ++ map Took o.pieces) (Denied p ∷ []) (map Took line.pieces ++ Denied line.next ∷ []))
    ∙ ap (λ (l : List Call). l ++ (map Took line.pieces ++ Denied line.next ∷ [])) (sym o.calls) ∙ sym (append_assoc m.calls (map Took line.pieces) (Denied line.next ∷ [])) ∙ sym line.calls ∙ e
    ∙ append_assoc a.calls (map Took ps) (Denied q ∷ []) in
    let none : map Took line.pieces ++ Denied line.next ∷ [] ≡ [] = took_denied o.pieces ps p q (map Took line.pieces ++ Denied line.next ∷ []) (append_cancel_left a.calls _ _ calls) in
    absurd (omega (arith, ap length none, length-append (map Took line.pieces) (Denied line.next ∷ [])))

-- no write failed but the last one to err, that of the line: this is no write fault
line_fault : (tracing : Bool) (ahead : ℕ) (q d : List ℕ) (a m b : World) (ps qs : List (List ℕ)) (p : List ℕ) → Runs tracing ahead q d status.WriteFault a m
    → Diagnoses status.WriteFault m b → b.out.calls ≡ a.out.calls ++ map Took qs → b.err.calls ≡ a.err.calls ++ map Took ps ++ Denied p ∷ [] → ⊥
line_fault tracing ahead q d a m b ps qs p r l out err = elim r.ends.1.stops [
  | inl first ↦ calm_out a.out m.out _ _ qs first.0 (ap (λ (v : SinkView). v.calls) (sym l.out) ∙ out)
  | inr second ↦ line_behind a.err m.err b.err ps p _ _ second.2 l.line err
]

-- the output took all, and the line alone failed: this is no write fault
pub line_fault_is_no_write_fault : (tracing : Bool) (ahead : ℕ) (words : List (List ℕ)) (q d : List ℕ) (a b : World) (ps qs : List (List ℕ)) (p : List ℕ)
    → command_of words ≡ Some (Run tracing ahead q d) → Does words status.WriteFault a b → b.out.calls ≡ a.out.calls ++ map Took qs
    → b.err.calls ≡ a.err.calls ++ map Took ps ++ Denied p ∷ [] → ⊥
line_fault_is_no_write_fault tracing ahead words q d a b ps qs p asked does out err =
    let done : DoesIf (Some (Run tracing ahead q d)) status.WriteFault a does.between =
    subst (λ (o : Option Command). DoesIf o status.WriteFault a does.between) asked does.done in
    line_fault tracing ahead q d a does.between b ps qs p done.1 does.diagnosed out err

all_taken : (a b : SinkView) (w : List ℕ) (os : List (List ℕ)) (p : List ℕ) → Takes a b w → b.calls ≡ a.calls ++ map Took os ++ Denied p ∷ [] → ⊥
all_taken a b w os p t e = took_calm os t.pieces p [] (append_cancel_left a.calls _ _ (sym (append_assoc a.calls (map Took os) (Denied p ∷ [])) ∙ sym e ∙ t.calls))

took_less : (a b : SinkView) (sure w : List ℕ) (os : List (List ℕ)) (p : List ℕ) → Owes a b sure w → b.calls ≡ a.calls ++ map Took os ++ Denied p ∷ [] → length (joined os) < length sure → ⊥
took_less a b sure w os p o e short =
    let calls : map Took o.pieces ++ Denied o.next ∷ [] ≡ map Took os ++ Denied p ∷ [] =
    append_cancel_left a.calls _ _ (sym (append_assoc a.calls (map Took o.pieces) (Denied o.next ∷ [])) ∙ sym o.calls ∙ e ∙ append_assoc a.calls (map Took os) (Denied p ∷ [])) in
    let same : o.pieces ≡ os = took_same o.pieces os (same_from_push (map Took o.pieces) (map Took os) (Denied o.next) (Denied p) calls).0 in
    absurd (omega (arith, short, ap length (sym (ap joined same) ∙ o.taken), length-append sure o.more))

-- err took more than what it had taken before the last thing was read, and then the output failed
pub trace_before_output : (ahead : ℕ) (q d : List ℕ) (a b : World) (qs os : List (List ℕ)) (p : List ℕ) (r : Runs true ahead q d status.WriteFault a b)
    → b.out.calls ≡ a.out.calls ++ map Took os ++ Denied p ∷ [] → b.err.calls ≡ a.err.calls ++ map Took qs
    → ((told : List ℕ) → SettlesBefore (IsQueryTrace r.x) r.pieces r.stop told → length told < length (joined qs)) → ⊥
trace_before_output ahead q d a b qs os p r out err more = elim r.ends.1.stops [
  | inl first ↦ (
      let took : Takes a.err b.err r.ends.1.told = first.1 in
      let same : took.pieces ≡ qs = took_same took.pieces qs (append_cancel_left a.err.calls _ _ (sym took.calls ∙ err)) in
      absurd (omega (arith, more r.ends.1.told r.ends.1.reached.traced_before, ap length (sym (ap joined same) ∙ took.whole))))
  | inr second ↦ all_taken a.out b.out _ os p second.1 out
]

-- the output took less than what it is to have taken before the last thing was read
pub read_behind_a_failed_write : (tracing : Bool) (ahead : ℕ) (q d : List ℕ) (a b : World) (os : List (List ℕ)) (p : List ℕ) (r : Runs tracing ahead q d status.WriteFault a b)
    → b.out.calls ≡ a.out.calls ++ map Took os ++ Denied p ∷ []
    → ((wrote : List ℕ) → SettlesBefore (Settles r.x) r.pieces r.stop wrote → length (joined os) < length wrote) → ⊥
read_behind_a_failed_write tracing ahead q d a b os p r out less = elim r.ends.1.stops [
  | inl first ↦ took_less a.out b.out r.ends.1.wrote _ os p first.0 out (less r.ends.1.wrote r.ends.1.reached.before)
  | inr second ↦ all_taken a.out b.out _ os p second.1 out
]

-- without a trace the diagnoses have their line alone
pub traces_unasked : (ahead : ℕ) (q d : List ℕ) (a b : World) (c : Call) (rest : List Call) → Runs false ahead q d status.Ok a b
    → b.err.calls ≡ a.err.calls ++ c ∷ rest → ⊥
traces_unasked ahead q d a b c rest r err =
    let none : a.err.calls ≡ a.err.calls ++ c ∷ rest = sym (ap (λ (v : SinkView). v.calls) r.ends.2.told) ∙ err in
    absurd (omega (arith, ap length none, length-append a.err.calls (c ∷ rest)))

-- ---- what a failed write of the line was offered

last_took : (xs : List Call) (qs : List (List ℕ)) (ys : List Call) (p : List ℕ) → qs ≢ [] → xs ++ map Took qs ≡ ys ++ Denied p ∷ [] → ⊥
last_took xs qs ys p some e = elim (split qs) [
  | inl none ↦ some none
  | inr more ↦ (
      let calls : (xs ++ map Took more.0) ++ Took more.1 ∷ [] ≡ ys ++ Denied p ∷ [] =
      append_assoc xs (map Took more.0) (Took more.1 ∷ []) ∙ ap (λ (l : List Call). xs ++ l) (sym (map_push Took more.0 more.1) ∙ ap (map Took) (sym more.2)) ∙ e in
      let same : Took more.1 ≡ Denied p = (same_from_push (xs ++ map Took more.0) ys (Took more.1) (Denied p) calls).1 in cc)
]
  where
    split : (ps : List (List ℕ)) → (ps ≡ []) ⊎ ((before : List (List ℕ)) × (last : List ℕ) × (ps ≡ before ++ last ∷ []))
    split [] = inl refl
    split (r ∷ ps) = elim (split ps) [
      | inl none ↦ inr ([], r, ap (λ (l : List (List ℕ)). r ∷ l) none)
      | inr more ↦ inr (r ∷ more.0, more.1, ap (λ (l : List (List ℕ)). r ∷ l) more.2)
    ]

-- the last write of a line failed: it was offered bytes of the line
offered_of : (line : List ℕ) (a b : SinkView) (ys : List Call) (p : List ℕ) → line ≢ [] → Takes a b line ⊎ Owes a b [] line → b.calls ≡ ys ++ Denied p ∷ []
    → (before : List ℕ) × (later : List ℕ) × (line ≡ before ++ p ++ later)
offered_of line a b ys p some (inl t) e =
    absurd (last_took a.calls t.pieces ys p (λ none. some (sym t.whole ∙ ap joined none)) (sym t.calls ∙ e))
offered_of line a b ys p some (inr o) e =
    let same : Denied o.next ≡ Denied p = (same_from_push (a.calls ++ map Took o.pieces) ys (Denied o.next) (Denied p) (sym o.calls ∙ e)).1 in
    let next : o.next ≡ p = cc in
    (o.more, o.later, o.split ∙ ap (λ (l : List ℕ). o.more ++ l ++ o.later) next)

-- At want of memory, where the last write of the diagnoses failed, it was offered bytes of the line of that status: it isn't a write of
-- the trace, whose lines begin otherwise, and the line wasn't left out.
pub memory_offers_its_line : (words : List (List ℕ)) (a b : World) (ys : List Call) (p : List ℕ) → Does words status.Memory a b → b.err.calls ≡ ys ++ Denied p ∷ []
    → (before : List ℕ) × (later : List ℕ) × (line_of status.Memory ≡ before ++ p ++ later)
memory_offers_its_line words a b ys p does e = offered_of (line_of status.Memory) does.between.err b.err ys p (λ none. absurd (omega (arith, ap length none))) does.diagnosed.line e

-- ---- the line of want of memory has no digit

abbrev pub has_digit : List ℕ → Bool
has_digit [] = false
has_digit (y ∷ ys) = cond (is_digit_byte y) true (has_digit ys)

digit_behind : (xs ys : List ℕ) → has_digit ys ≡ true → has_digit (xs ++ ys) ≡ true
digit_behind [] ys h = h
digit_behind (y ∷ xs) ys h = go (is_digit_byte y) (has_digit (xs ++ ys)) (digit_behind xs ys h)
  where
    go : (b c : Bool) → c ≡ true → cond b true c ≡ true
    go true c e = refl
    go false c e = e

digit_before : (xs ys : List ℕ) → has_digit xs ≡ true → has_digit (xs ++ ys) ≡ true
digit_before [] ys h = absurd (false≢true h)
digit_before (y ∷ xs) ys h = go (is_digit_byte y) (has_digit xs) (has_digit (xs ++ ys)) h (digit_before xs ys)
  where
    go : (b c d : Bool) → cond b true c ≡ true → (c ≡ true → d ≡ true) → cond b true d ≡ true
    go true c d e on = refl
    go false c d e on = on e

-- At want of memory no failed write of the diagnoses was offered a digit. Each line of a trace has one: a write of whole lines of it that
-- fails makes a write fault.
pub no_write_of_a_trace : (words : List (List ℕ)) (a b : World) (ys : List Call) (p : List ℕ) → Does words status.Memory a b → b.err.calls ≡ ys ++ Denied p ∷ [] → has_digit p ≡ true → ⊥
no_write_of_a_trace words a b ys p does e digit =
    let o = memory_offers_its_line words a b ys p does e in
    let there : has_digit (line_of status.Memory) ≡ true = ap has_digit o.2 ∙ digit_before (o.0 ++ p) o.1 (digit_behind o.0 p digit) in
    false≢true there
