-- Lines put behind a text, by the results of the calls that put them.
use Rattle.std.proofs.Common.{◌≡◌, ℕ, zero, suc, ◌≤◌, ◌<◌, Bool, cond, ◌&&◌, eqb, leb, List, [], ◌∷◌, ◌++◌, length, map, get_or, Result, Ok, Err, OnOk, refl, sym, ◌∙◌, ap, subst, arith, append-nil}
use Rattle.std.specs.List.{filter}
use Rattle.std.specs.Global.{Vec}
use Rattle.std.proofs.lemmas.Bool.{and_from, eq-eqb, le-leb, lt-leb, ne_eqb}
use Rattle.std.proofs.lemmas.List.{length-map, take_all}
use Rattle.gcx_base.specs.declared.ids.Role.{Role}
use Rattle.gcx_model.specs.Core.{PlanTree}
use Rattle.gcx_model.specs.Demand.{Line, Left, Opened, line_kind, line_text}
use Rattle.gcx_model.specs.Tree.{TreeToken, kind_of}
use Rattle.time_laws.specs.Leaving.{count_offs, is_freed, left_where}
use Rattle.time_laws.specs.Times.{Clock}
use Rattle.doc_tree.specs.Rows.{node_at}
use Rattle.buf_trace.specs.Lines.{IsLine, kind_tree, line_tree}
use Rattle.buf_trace.specs.declared.line.Line as code
use Rattle.buf_trace.specs.declared.line.LineKind.{LineKind}
use Rattle.trace_check.specs.Telling.{IsCourse, Puts, acts_in, line_in, over_line}
use Rattle.trace_check.specs.Timing.{clock_in}
use Rattle.trace_check.specs.Wanting.{lists_in, numbers_in}
use Rattle.trace_check.specs.declared.course.Course.{Course}
use Rattle.trace_check.proofs.Assembled.{timed_grown}
use Rattle.trace_check.proofs.Entries.{and_false}
use Rattle.trace_check.proofs.Freed.{freed_list, freed_told}
use Rattle.trace_check.proofs.Told.{left_among, puts_one}

-- what holds of an Ok, with what follows
pub on_ok : {T E A B : Type 0} (r : Result T E) → OnOk r A → (A → B) → OnOk r B
on_ok (Ok x) h f = f h
on_ok (Err e) h f = tt

-- ---- one line

pub put_one : {T E : Type 0} (r : Result T E) (old new : List ℕ) (l : code.Line) → OnOk r (new ≡ old ++ (line_text (line_tree l) ++ 10 ∷ [])) → OnOk r (IsLine l) → OnOk r (Puts old new (line_tree l ∷ []))
put_one (Ok x) old new l e h = puts_one old new l e h
put_one (Err x) old new l e h = tt

given_entry : (gs : List (List Role)) (n : ℕ) → get_or (map numbers_in gs) n [] ≡ numbers_in (get_or gs n [])
given_entry [] n = refl
given_entry (g ∷ gs) zero = refl
given_entry (g ∷ gs) (suc n) = given_entry gs n

-- the line of a node, as its kind and its roles are kept
pub opened_is : (plan : PlanTree) (ts : List TreeToken) (c : Course) → IsCourse plan ts c → (n : ℕ) (kind : LineKind) (given : List Role)
    → kind_tree kind ≡ line_kind (kind_of (node_at c.timed.tree.nodes n)) → given ≡ get_or c.given.items n [] → Opened n (kind_tree kind) (numbers_in given) ≡ line_in plan c n
opened_is plan ts c is n kind given e f =
    ap (λ k. Opened n k (numbers_in given)) e
    ∙ ap (λ (g : List ℕ). Opened n (line_kind (kind_of (node_at c.timed.tree.nodes n))) g)
    (ap numbers_in f ∙ (sym (given_entry c.given.items n) ∙ ap (λ (gs : List (List ℕ)). get_or gs n []) is.given))

-- ---- the node of a token

no_lines : (old : List ℕ) → Puts old old []
no_lines old = record { text = sym (append-nil old); plain = λ l i. absurd i }

pub over_put : (c : Clock) (until : List ℕ) (j k n : ℕ) (old new : List ℕ) → c.closed n ≡ j → get_or until n 0 ≤ k → Puts old new (Left n ∷ []) → Puts old new (over_line c until j k n)
over_put c until j k n old new e l h =
    subst (λ (b : Bool). Puts old new (cond b (Left n ∷ []) [])) (sym (and_from (eqb (c.closed n) j) (leb (get_or until n 0) k) (eq-eqb (c.closed n) j e) (le-leb (get_or until n 0) k l))) h

-- it is closed at another time
pub over_later : (c : Clock) (until : List ℕ) (j k n : ℕ) (old : List ℕ) → (c.closed n ≡ j → ⊥) → Puts old old (over_line c until j k n)
over_later c until j k n old other =
    subst (λ (b : Bool). Puts old old (cond (b && leb (get_or until n 0) k) (Left n ∷ []) [])) (sym (ne_eqb (c.closed n) j other)) (no_lines old)

-- a further statement is wanted for it
pub over_wanted : (c : Clock) (until : List ℕ) (j k n : ℕ) (old : List ℕ) → k < get_or until n 0 → Puts old old (over_line c until j k n)
over_wanted c until j k n old more =
    subst (λ (b : Bool). Puts old old (cond (eqb (c.closed n) j && b) (Left n ∷ []) [])) (sym (lt-leb (get_or until n 0) k more))
    (subst (λ (b : Bool). Puts old old (cond b (Left n ∷ []) [])) (sym (and_false (eqb (c.closed n) j))) (no_lines old))

-- ---- the nodes that a statement frees

list_entry : (ls : List (Vec ℕ)) (n : ℕ) (l : Vec ℕ) → n < length ls → l ≡ get_or ls n l → get_or (lists_in ls) n [] ≡ l.items
list_entry [] n l h e = absurd (omega (arith, h))
list_entry (x ∷ ls) zero l h e = ap (λ (v : Vec ℕ). v.items) (sym e)
list_entry (x ∷ ls) (suc n) l h e = list_entry ls n l (omega (arith, h)) e

-- all of a list are told
pub list_told : (p : ℕ → Bool) (xs : List ℕ) (i : ℕ) (old new : List ℕ) → length xs ≤ i → Puts old new (left_among p xs i) → Puts old new (map Left (filter p xs))
list_told p xs i old new l h = subst (λ (ys : List ℕ). Puts old new (map Left (filter p ys))) (take_all i xs l) h

-- they are those that the statement frees
pub freed_put : (plan : PlanTree) (ts : List TreeToken) (c : Course) → IsCourse plan ts c → (now number : ℕ) → number ≤ count_offs (acts_in plan c) → (l : Vec ℕ)
    → number < length c.leaving.freed.items → l ≡ get_or c.leaving.freed.items number l → (old new : List ℕ)
    → Puts old new (map Left (filter (λ n. leb ((clock_in c.timed).closed n) now) l.items))
    → Puts old new (left_where c.timed.tree (is_freed (clock_in c.timed) c.timed.tree (acts_in plan c) now number))
freed_put plan ts c is now number few l within at old new h =
    subst (λ (ls : List Line). Puts old new ls)
    (ap (λ (xs : List ℕ). map Left (filter (λ n. leb ((clock_in c.timed).closed n) now) xs)) (sym (list_entry c.leaving.freed.items number l within at))
    ∙ freed_told (clock_in c.timed) c.timed.tree (timed_grown ts c.timed is.timed) (acts_in plan c) c.leaving.until.items (lists_in c.leaving.freed.items) is.wanted now number few) h

-- each number of a statement has a list
pub freed_there : (plan : PlanTree) (ts : List TreeToken) (c : Course) → IsCourse plan ts c → (number : ℕ) → number ≤ count_offs (acts_in plan c) → number < length c.leaving.freed.items
freed_there plan ts c is number few =
    let l = (freed_list c.timed.tree (acts_in plan c) c.leaving.until.items (lists_in c.leaving.freed.items) is.wanted number few).0 in
    let n = length-map c.leaving.freed.items (λ (v : Vec ℕ). v.items) in
    omega (arith, l, n)
