-- How the order of an output and of the trace that tells of it is kept.
use Rattle.std.proofs.Common.{◌≡◌, ◌∙◌, ◌+◌, ◌≤◌, ◌++◌, [], ◌∷◌, ℕ, zero, suc, Bool, true, false, List, Option, Some, None, length, refl, sym, ap, subst, arith, append_assoc}
use Rattle.std.proofs.lemmas.Bool.{false≢true}
use Rattle.std.proofs.lemmas.List.{append-nil, append_cancel_left, length-append}
use Rattle.gcx_model.specs.Core.{PlanTree}
use Rattle.gcx_model.specs.Demand.{Line, demand, line_text, text_of_lines, trace_lines}
use Rattle.gcx_model.specs.Seen.{seen_tree}
use Rattle.gcx_model.specs.Tree.{TreeToken as Said}
use Rattle.outside.specs.Places.{Few, Longer, PlaceView, Spilled, WroteOn, took, took_at, went_at, went_to}
use Rattle.outside.proofs.Owing.{drops_bytes, only_more_taken}
use Rattle.run_laws.proofs.Goes.{trace_lines-append}
use Rattle.run_part.specs.Flows.{Flows, SameOutlets, SpilledAt, flow_at}
use Rattle.run_part.specs.Order.{Covered, FlowedBy, OrderHolds, NeverAhead, bytes_told}
use Rattle.run_part.specs.Taker.{lines_text, of_both, output_text}
use Rattle.run_part.specs.TakerLaws.{covered_more}
use Rattle.run_part.specs.View.{LinesView}
use Rattle.run_part.proofs.BytesTold.{told_append, told_over}
use Rattle.run_part.proofs.Telling.{text_append}

-- ---- more flows

pub flowed_on : {C : Type 0} (z y : Flows C) (base0 base1 bytes more : List ℕ) (ls ms : List Line) → FlowedBy z base0 base1 bytes ls → y.out ≡ z.out ++ more → y.trace ≡ z.trace ++ text_of_lines ms → bytes_told ms ≤ length more → FlowedBy y base0 base1 (bytes ++ more) (ls ++ ms)
flowed_on z y base0 base1 bytes more ls ms f out trace fewer = record {
  out = out ∙ (ap (λ (k : List ℕ). k ++ more) f.out ∙ append_assoc base0 bytes more);
  trace = trace ∙ (ap (λ (k : List ℕ). k ++ text_of_lines ms) f.trace ∙ (append_assoc base1 (text_of_lines ls) (text_of_lines ms) ∙ ap (λ (k : List ℕ). base1 ++ k) (sym (text_append ls ms))));
  fewer = let a = told_append ls ms in let b = length-append bytes more in let k = f.fewer in omega (arith, a, b, k, fewer);
}

-- where tokens flowed as their plan settles them
flowed_text : {C : Type 0} (wanted : Bool) (plan : PlanTree) (ts : List Said) (z : Flows C) (base0 base1 : List ℕ) → wanted ≡ true → z.out ≡ base0 ++ output_text plan ts → z.trace ≡ base1 ++ lines_text wanted plan ts → FlowedBy z base0 base1 (output_text plan ts) (trace_lines plan ts)
flowed_text wanted plan ts z base0 base1 is out trace = record { out = out; trace = trace ∙ ap (λ (b : Bool). base1 ++ lines_text b plan ts) is; fewer = told_over plan ts }

-- ---- more lines, and the same places

pub order_more : (sinks : ℕ → PlaceView) (l : LinesView) (base0 base1 : List ℕ) (ls ms : List Line) → OrderHolds sinks l base0 base1 ls → OrderHolds sinks l base0 base1 (ls ++ ms)
order_more sinks l base0 base1 ls ms i = record { output = i.output; trace = i.trace; taken = i.taken; told = i.told; covered = covered_more ls ms i.output i.trace i.covered }

pub order_none : (sinks : ℕ → PlaceView) (l : LinesView) (base0 base1 : List ℕ) (ls : List Line) → OrderHolds sinks l base0 base1 ls → OrderHolds sinks l base0 base1 (ls ++ [])
order_none sinks l base0 base1 ls i = order_more sinks l base0 base1 ls [] i

pub order_back : (sinks : ℕ → PlaceView) (l : LinesView) (base0 base1 : List ℕ) (ls : List Line) → OrderHolds sinks l base0 base1 (ls ++ []) → OrderHolds sinks l base0 base1 ls
order_back sinks l base0 base1 ls i = subst (λ (k : List Line). OrderHolds sinks l base0 base1 k) (append-nil ls) i

pub order_at : (sinks : ℕ → PlaceView) (l m : LinesView) (base0 base1 : List ℕ) (ls : List Line) → SameOutlets l m → OrderHolds sinks l base0 base1 ls → OrderHolds sinks m base0 base1 ls
order_at sinks l m base0 base1 ls s i = record {
  output = i.output;
  trace = i.trace;
  taken = ap (λ (n : ℕ). took (sinks n)) s.output_is ∙ i.taken;
  told = ap (λ (k : Option ℕ). took_at sinks k) s.lines_is ∙ i.told;
  covered = i.covered;
}

-- ---- how much waits

pub no_waits : (o : Option ℕ) (xs : List ℕ) → o ≡ Some 0 → Few o (length xs) → xs ≡ []
no_waits o xs e f = none xs (subst (λ (k : Option ℕ). Few k (length xs)) e f)
  where
    none : (ys : List ℕ) → Few (Some 0) (length ys) → ys ≡ []
    none [] h = refl
    none (y ∷ ys) h = absurd (omega (arith, h))

-- nothing is few
pub few_none : (o : Option ℕ) → Few o 0
few_none None = tt
few_none (Some m) = omega arith

-- ---- other places

same_took : (a b : ℕ → PlaceView) (o : Option ℕ) → ((k : ℕ) → o ≡ Some k → b k ≡ a k) → took_at b o ≡ took_at a o
same_took a b None h = refl
same_took a b (Some k) h = ap took (h k refl)

same_went : (a b : ℕ → PlaceView) (o : Option ℕ) → ((k : ℕ) → o ≡ Some k → b k ≡ a k) → went_at b o ≡ went_at a o
same_went a b None h = refl
same_went a b (Some k) h = ap went_to (h k refl)

not_there : (place k : ℕ) (o : Option ℕ) → (o ≡ Some place → ⊥) → o ≡ Some k → k ≡ place → ⊥
not_there place k o apart e f = apart (e ∙ ap Some f)

-- what was taken only grows
pub more_took : (a b : ℕ → PlaceView) (o p : Option ℕ) → WroteOn o p a b → (q : Option ℕ) → Longer (took_at a q) (took_at b q)
more_took a b o p wrote None = record { more = []; is = refl }
more_took a b o p wrote (Some k) = only_more_taken o p a b wrote k

took_more : (a b : ℕ → PlaceView) (u v : Option ℕ) (base x : List ℕ) → v ≡ u → took_at a u ≡ base ++ x → (f : Longer (took_at a u) (took_at b u)) → took_at b v ≡ base ++ (x ++ f.more)
took_more a b u v base x e since f = ap (λ (k : Option ℕ). took_at b k) e ∙ (f.is ∙ (ap (λ (k : List ℕ). k ++ f.more) since ∙ append_assoc base x f.more))

-- ---- the output is written

pub lines_stay : (a b : ℕ → PlaceView) (l : LinesView) (out left : List ℕ) → (l.lines_at ≡ Some l.output_at → ⊥) → Spilled l.output_at a b out left → went_at b l.lines_at ≡ went_at a l.lines_at
lines_stay a b l out left apart s = same_went a b l.lines_at (λ k e. s.others k (not_there l.output_at k l.lines_at apart e))

covered_longer : (ls : List Line) (x more y : List ℕ) → Covered ls x y → Covered ls (x ++ more) y
covered_longer ls x more y c = record { front = c.front; rest = c.rest; more = c.more; split = c.split; cover = c.cover; told = let a = length-append x more in let b = c.told in omega (arith, a, b) }

-- more of it was taken, and no more of the lines
pub output_order : (a b : ℕ → PlaceView) (o p : Option ℕ) (l : LinesView) (out left : List ℕ) → (l.lines_at ≡ Some l.output_at → ⊥) → WroteOn o p a b → Spilled l.output_at a b out left
    → (base0 base1 : List ℕ) (ls : List Line) → OrderHolds a l base0 base1 ls → OrderHolds b l base0 base1 ls
output_order a b o p l out left apart wrote s base0 base1 ls i =
    let f : Longer (took (a l.output_at)) (took (b l.output_at)) = only_more_taken o p a b wrote l.output_at in
    record {
      output = i.output ++ f.more;
      trace = i.trace;
      taken = f.is ∙ (ap (λ (k : List ℕ). k ++ f.more) i.taken ∙ append_assoc base0 i.output f.more);
      told = same_took a b l.lines_at (λ k e. s.others k (not_there l.output_at k l.lines_at apart e)) ∙ i.told;
      covered = covered_longer ls i.output f.more i.trace i.covered;
    }

-- ---- the lines are written, where the whole output is

-- both flows are as they were, where the output was written and then the lines
module _ (a b d : ℕ → PlaceView) (l m : LinesView) (out left : List ℕ) (apart : l.lines_at ≡ Some l.output_at → ⊥) (s : Spilled l.output_at a b out left) (t : SpilledAt l.lines_at b d l.waits m.waits) (same : SameOutlets l m) where
  pub out_stays : flow_at d m.output_at left ≡ flow_at a l.output_at out
  out_stays = ap (λ (n : ℕ). flow_at d n left) same.output_is ∙ (ap (λ (v : PlaceView). went_to v ++ left) (t.others l.output_at apart) ∙ s.flows)

  pub trace_stays : went_at d m.lines_at ++ m.waits ≡ went_at a l.lines_at ++ l.waits
  trace_stays = ap (λ (k : Option ℕ). went_at d k ++ m.waits) same.lines_is ∙ (t.flows ∙ ap (λ (k : List ℕ). k ++ l.waits) (lines_stay a b l out left apart s))

-- what was dropped at a place, where there is one
abbrev dropped_at : (ℕ → PlaceView) → Option ℕ → List ℕ
dropped_at sinks None = []
dropped_at sinks (Some k) = (sinks k).dropped

went_is : (sinks : ℕ → PlaceView) (o : Option ℕ) → went_at sinks o ≡ took_at sinks o ++ dropped_at sinks o
went_is sinks None = refl
went_is sinks (Some k) = refl

pub lines_order : (b d : ℕ → PlaceView) (o p : Option ℕ) (l : LinesView) (out waits left : List ℕ) → (l.lines_at ≡ Some l.output_at → ⊥) → WroteOn o p b d → (o ≡ None → (b l.output_at).dropped ≡ []) → out ≡ [] → SpilledAt l.lines_at b d waits left
    → (base0 base1 bytes : List ℕ) (ls : List Line) → flow_at b l.output_at out ≡ base0 ++ bytes → went_at b l.lines_at ++ waits ≡ base1 ++ text_of_lines ls → bytes_told ls ≤ length bytes → OrderHolds b l base0 base1 ls → OrderHolds d l base0 base1 ls
lines_order b d None p l out waits left apart wrote clean none s base0 base1 bytes ls flowed told fewer i = record {
  output = bytes;
  trace = i.trace ++ f.more;
  taken = ap took (s.others l.output_at apart) ∙ (sym (append-nil (took (b l.output_at))) ∙ (ap (λ (k : List ℕ). took (b l.output_at) ++ k) (sym (clean refl))
      ∙ (sym (append-nil (went_to (b l.output_at))) ∙ (ap (λ (k : List ℕ). went_to (b l.output_at) ++ k) (sym none) ∙ flowed))));
  told = now;
  covered = record {
    front = ls;
    rest = [];
    more = dropped_at d l.lines_at ++ left;
    split = sym (append-nil ls);
    cover = append_cancel_left base1 (text_of_lines ls) ((i.trace ++ f.more) ++ (dropped_at d l.lines_at ++ left))
        (sym told ∙ (sym s.flows ∙ (ap (λ (k : List ℕ). k ++ left) (went_is d l.lines_at ∙ ap (λ (k : List ℕ). k ++ dropped_at d l.lines_at) now)
        ∙ (append_assoc (base1 ++ (i.trace ++ f.more)) (dropped_at d l.lines_at) left ∙ append_assoc base1 (i.trace ++ f.more) (dropped_at d l.lines_at ++ left)))));
    told = fewer;
  };
}
  where
    f : Longer (took_at b l.lines_at) (took_at d l.lines_at)
    f = more_took b d None p wrote l.lines_at

    now : took_at d l.lines_at ≡ base1 ++ (i.trace ++ f.more)
    now = took_more b d l.lines_at l.lines_at base1 i.trace refl i.told f
lines_order b d (Some q) p l out waits left apart wrote clean none s base0 base1 bytes ls flowed told fewer i = record {
  output = i.output;
  trace = i.trace;
  taken = drops_bytes (b l.output_at) (d l.output_at) (wrote.each l.output_at) ∙ i.taken;
  told = still l.lines_at ∙ i.told;
  covered = i.covered;
}
  where
    still : (k : Option ℕ) → took_at d k ≡ took_at b k
    still None = refl
    still (Some n) = drops_bytes (b n) (d n) (wrote.each n)

-- ---- of the outputs of a part

-- What was taken of them is in order, since their places had taken this.
pub record OrderPart (wanted : Bool) (b : ℕ → PlaceView) (m : LinesView) (base : ℕ → List ℕ) (ls : List Line) : Type 0 where
  pub y : ℕ → List ℕ
  pub since : (i : ℕ) → took_at b (of_both (Some m.output_at) m.lines_at i) ≡ base i ++ y i
  pub is : wanted ≡ true → Covered ls (y 0) (y 1)

-- what was taken of the output, and behind what was taken of the lines so much more
abbrev taken_of : (output : List ℕ) → (x : ℕ → List ℕ) → (more : List ℕ) → ℕ → List ℕ
taken_of output x more zero = output
taken_of output x more (suc i) = x (suc i) ++ more

pub part_order : (wanted : Bool) (o p : Option ℕ) (a b : ℕ → PlaceView) (l m : LinesView) (base x : ℕ → List ℕ) (ls ms : List Line) → WroteOn o p a b → SameOutlets l m → ((i : ℕ) → took_at a (of_both (Some l.output_at) l.lines_at i) ≡ base i ++ x i)
    → (wanted ≡ true → Covered ls (x 0) (x 1)) → (wanted ≡ true → OrderHolds a l (base 0) (base 1) ls → OrderHolds b m (base 0) (base 1) ms) → OrderPart wanted b m base ms
part_order true o p a b l m base x ls ms wrote same since covered order = record {
  y = taken_of i.output x f.more;
  since = each;
  is = λ e. subst (λ (k : List ℕ). Covered ms i.output k) (append_cancel_left (base 1) i.trace (x 1 ++ f.more) (sym i.told ∙ each 1)) i.covered;
}
  where
    f : Longer (took_at a l.lines_at) (took_at b l.lines_at)
    f = more_took a b o p wrote l.lines_at

    i : OrderHolds b m (base 0) (base 1) ms
    i = order refl (record { output = x 0; trace = x 1; taken = since 0; told = since 1; covered = covered refl })

    each : (n : ℕ) → took_at b (of_both (Some m.output_at) m.lines_at n) ≡ base n ++ taken_of i.output x f.more n
    each zero = i.taken
    each (suc n) = took_more a b l.lines_at m.lines_at (base (suc n)) (x (suc n)) same.lines_is (since (suc n)) f
part_order false o p a b l m base x ls ms wrote same since covered order = record {
  y = taken_of (x 0 ++ h.more) x f.more;
  since = each;
  is = λ e. absurd (false≢true e);
}
  where
    f : Longer (took_at a l.lines_at) (took_at b l.lines_at)
    f = more_took a b o p wrote l.lines_at

    h : Longer (took_at a (Some l.output_at)) (took_at b (Some l.output_at))
    h = more_took a b o p wrote (Some l.output_at)

    each : (n : ℕ) → took_at b (of_both (Some m.output_at) m.lines_at n) ≡ base n ++ taken_of (x 0 ++ h.more) x f.more n
    each zero = took_more a b (Some l.output_at) (Some m.output_at) (base 0) (x 0) (ap Some same.output_is) (since 0) h
    each (suc n) = took_more a b l.lines_at m.lines_at (base (suc n)) (x (suc n)) same.lines_is (since (suc n)) f

module _ {C : Type 0} (wanted : Bool) (plan : PlanTree) where
  -- these tokens were taken behind those
  pub order_taken : (ts us : List Said) (o p : Option ℕ) (a b : ℕ → PlaceView) (l m : LinesView) (z : Flows C) (base x : ℕ → List ℕ) → WroteOn o p a b → SameOutlets l m
      → z.out ≡ base 0 ++ output_text plan ts → z.trace ≡ base 1 ++ lines_text wanted plan ts
      → ((i : ℕ) → took_at a (of_both (Some l.output_at) l.lines_at i) ≡ base i ++ x i) → (wanted ≡ true → Covered (trace_lines plan ts) (x 0) (x 1))
      → (wanted ≡ true → (base0 base1 bytes : List ℕ) (ls : List Line) → FlowedBy z base0 base1 bytes ls → OrderHolds a l base0 base1 ls → OrderHolds b m base0 base1 (ls ++ demand plan us (seen_tree ts)))
      → OrderPart wanted b m base (trace_lines plan (ts ++ us))
  order_taken ts us o p a b l m z base x wrote same out trace since covered order =
      part_order wanted o p a b l m base x (trace_lines plan ts) (trace_lines plan (ts ++ us)) wrote same since covered
      (λ is i. subst (λ (k : List Line). OrderHolds b m (base 0) (base 1) k) (sym (trace_lines-append plan ts us))
      (order is (base 0) (base 1) (output_text plan ts) (trace_lines plan ts) (flowed_text wanted plan ts z (base 0) (base 1) is out trace) i))

  -- what waited was written
  pub order_written : (ts : List Said) (o p : Option ℕ) (a b : ℕ → PlaceView) (l m : LinesView) (z : Flows C) (base x : ℕ → List ℕ) → WroteOn o p a b → SameOutlets l m
      → z.out ≡ base 0 ++ output_text plan ts → z.trace ≡ base 1 ++ lines_text wanted plan ts
      → ((i : ℕ) → took_at a (of_both (Some l.output_at) l.lines_at i) ≡ base i ++ x i) → (wanted ≡ true → Covered (trace_lines plan ts) (x 0) (x 1))
      → (wanted ≡ true → (base0 base1 bytes : List ℕ) (ls : List Line) → FlowedBy z base0 base1 bytes ls → OrderHolds a l base0 base1 ls → OrderHolds b m base0 base1 (ls ++ []))
      → OrderPart wanted b m base (trace_lines plan ts)
  order_written ts o p a b l m z base x wrote same out trace since covered order =
      part_order wanted o p a b l m base x (trace_lines plan ts) (trace_lines plan ts) wrote same since covered
      (λ is i. order_back b m (base 0) (base 1) (trace_lines plan ts) (order is (base 0) (base 1) (output_text plan ts) (trace_lines plan ts) (flowed_text wanted plan ts z (base 0) (base 1) is out trace) i))

-- ---- the trace is never ahead

-- the text of one line
abbrev own_text : Line → List ℕ
own_text l = line_text l ++ 10 ∷ []

not_empty : (n own more : List ℕ) → [] ≡ ((n ++ 10 ∷ []) ++ own) ++ more → ⊥
not_empty n own more e =
    let none : 0 ≡ length (((n ++ 10 ∷ []) ++ own) ++ more) = ap length e in
    let one : length (n ++ 10 ∷ []) ≡ length n + 1 = length-append n (10 ∷ []) in
    let a = length-append (n ++ 10 ∷ []) own in
    let b = length-append ((n ++ 10 ∷ []) ++ own) more in
    omega (arith, none, one, a, b)

none_least : (n : ℕ) → 0 ≤ n
none_least n = omega arith

told_less : (x y f h u v : ℕ) → x ≡ f + u → y ≡ h + v → f ≡ h → v ≤ u → y ≤ x
told_less x y f h u v a b same l = omega (arith, a, b, same, l)

-- of two prefixes the one with the shorter text tells no more
shorter : (fs gs hs ks : List Line) (more : List ℕ) → fs ++ gs ≡ hs ++ ks → text_of_lines fs ≡ text_of_lines hs ++ more → bytes_told hs ≤ bytes_told fs
shorter [] gs [] ks more e t = none_least 0
shorter [] gs (h ∷ hs) ks more e t = absurd (not_empty (line_text h) (text_of_lines hs) more t)
shorter (f ∷ fs) gs [] ks more e t = none_least (bytes_told (f ∷ fs))
shorter (f ∷ fs) gs (h ∷ hs) ks more e t =
    let same : f ≡ h = cc in
    let rest : fs ++ gs ≡ hs ++ ks = cc in
    let u : text_of_lines fs ≡ text_of_lines hs ++ more
    = append_cancel_left (own_text f) (text_of_lines fs) (text_of_lines hs ++ more) (t ∙ (append_assoc (own_text h) (text_of_lines hs) more ∙ ap (λ (l : Line). own_text l ++ (text_of_lines hs ++ more)) (sym same))) in
    told_less (bytes_told (f ∷ fs)) (bytes_told (h ∷ hs)) (bytes_told (f ∷ [])) (bytes_told (h ∷ [])) (bytes_told fs) (bytes_told hs) (told_append (f ∷ []) fs) (told_append (h ∷ []) hs) (ap (λ (l : Line). bytes_told (l ∷ [])) same)
    (shorter fs gs hs ks more rest u)

pub never_ahead : (ls : List Line) (x y : List ℕ) → Covered ls x y → NeverAhead ls x y
never_ahead ls x y c = λ front rest more split is.
    let t : text_of_lines c.front ≡ text_of_lines front ++ (more ++ c.more) = c.cover ∙ (ap (λ (k : List ℕ). k ++ c.more) is ∙ append_assoc (text_of_lines front) more c.more) in
    let k = shorter c.front c.rest front rest (more ++ c.more) (sym c.split ∙ split) t in
    let n = c.told in
    omega (arith, k, n)
