-- Courses cut at a time.
use Rattle.std.proofs.Common.{◌≡◌, ℕ, ◌<◌, ◌≤◌, Bool, true, false, cond, List, [], ◌∷◌, ◌++◌, map, refl, sym, ◌∙◌, ap, inl, inr, arith, max, leb}
use Rattle.std.specs.List.{filter}
use Rattle.std.proofs.lemmas.Bool.{leb-true, leb-false, le-leb, lt-leb, cases_lt}
use Rattle.std.proofs.lemmas.List.{append-nil, map-append}
use Rattle.std.proofs.lemmas.List.Elements.{filter-append}
use Rattle.gcx_model.specs.Tree.{Node, serial_of}
use Rattle.gcx_model.specs.Run.{Action, Out, idle, seq, seq_if, loop}
use Rattle.tree_laws.proofs.Lists.{In, filter_none}
use Rattle.time_laws.specs.Times.{Clock, is_there, TimedAction, TimedCourse, act_of, one_act, none_till, then_on, rounds, is_due, due}
use Rattle.time_laws.proofs.Begun.{Late, late_then, late_rounds}

-- what of it is done by the time j
abbrev pub cut : ℕ → TimedCourse → Out
cut j a = record { acts = due j a.acts; done = leb a.till j }

pub same_out : (a b : Out) → a.acts ≡ b.acts → a.done ≡ b.done → a ≡ b
same_out a b e f = two a.acts b.acts a.done b.done e f
  where
    two : (xs ys : List Action) (d u : Bool) → xs ≡ ys → d ≡ u → let x : Out = record { acts = xs; done = d } in let y : Out = record { acts = ys; done = u } in x ≡ y
    two xs ys d u e f = rw (e, f) refl

pub due-append : (j : ℕ) (xs ys : List TimedAction) → due j (xs ++ ys) ≡ due j xs ++ due j ys
due-append j xs ys = ap (map act_of) (filter-append (is_due j) xs ys) ∙ map-append act_of (filter (is_due j) xs) (filter (is_due j) ys)

pub due_none : (j : ℕ) (xs : List TimedAction) → ((x : TimedAction) → In x xs → j < x.at) → due j xs ≡ []
due_none j xs h = ap (map act_of) (filter_none (is_due j) xs (λ x i. lt-leb x.at j (h x i)))

pub cut_late : (j t : ℕ) (a : TimedCourse) → Late t a → j < t → cut j a ≡ idle false
cut_late j t a h l = same_out (cut j a) (idle false) (due_none j a.acts (λ x i. let r = h.acts x i in omega arith)) (lt-leb a.till j (let r = h.till in omega arith))

pub seq_cut : (j : ℕ) (a : TimedCourse) (f : ℕ → TimedCourse) (b : Out) → Late a.till (f a.till) → (a.till ≤ j → b ≡ cut j (f a.till)) → seq (cut j a) b ≡ cut j (then_on a f)
seq_cut j a f b h e = go (leb a.till j) refl
  where
    go : (d : Bool) → leb a.till j ≡ d → seq_if d (cut j a) b ≡ cut j (then_on a f)
    go true g =
        let r = e (leb-true a.till j g) in
        same_out (seq_if true (cut j a) b) (cut j (then_on a f)) (ap (λ (z : Out). due j a.acts ++ z.acts) r ∙ sym (due-append j a.acts (f a.till).acts)) (ap (λ (z : Out). z.done) r)
    go false g =
        let l = leb-false a.till j g in
        let none : due j (f a.till).acts ≡ [] = due_none j (f a.till).acts (λ x i. let r = h.acts x i in omega arith) in
        same_out (seq_if false (cut j a) b) (cut j (then_on a f))
        (sym (due-append j a.acts (f a.till).acts ∙ (ap (λ z. due j a.acts ++ z) none ∙ append-nil (due j a.acts))))
        (g ∙ sym (lt-leb (f a.till).till j (let r = h.till in omega arith)))

pub one_cut : (j t : ℕ) (a : Action) → t ≤ j → cut j (one_act t a) ≡ record { acts = a ∷ []; done = true }
one_cut j t a l = same_out (cut j (one_act t a)) (record { acts = a ∷ []; done = true }) (rw (le-leb t j l) refl) (le-leb t j l)

-- each node is there before the loop is over and before the later ones
abbrev pub Rises : Clock → List Node → (over : ℕ) → Type 0
Rises c [] over = Unit {0}
Rises c (n ∷ ns) over = (c.opened (serial_of n) ≤ over) × ((m : Node) → In m ns → c.opened (serial_of n) ≤ c.opened (serial_of m)) × Rises c ns over

max_leb : (t a j : ℕ) → t ≤ j → leb a j ≡ leb (max t a) j
max_leb t a j l = elim (cases_lt j a) [
  | inl m ↦ lt-leb a j m ∙ sym (lt-leb (max t a) j (omega arith))
  | inr m ↦ le-leb a j m ∙ sym (le-leb (max t a) j (omega arith))
]

pub loop_cut : (j : ℕ) (c : Clock) (F : Node → Out) (f : Node → ℕ → TimedCourse) → ((n : Node) (u : ℕ) → Late u (f n u)) → (low : ℕ) (ns : List Node) (over t : ℕ) → low ≤ t → t ≤ j → Rises c ns over
    → ((n : Node) (u : ℕ) → In n ns → low ≤ u → c.opened (serial_of n) ≤ u → u ≤ j → F n ≡ cut j (f n u))
    → loop F (filter (is_there c j) ns) (leb over j) ≡ cut j (rounds c f ns over t)
loop_cut j c F f h low [] over t b l r e = same_out (idle (leb over j)) (cut j (none_till (max t over))) refl (max_leb t over j l)
loop_cut j c F f h low (n ∷ ns) over t b l r e = go (λ v q m. loop_cut j c F f h low ns over v q m r.2 (λ x w i. e x w (inr i))) (leb (c.opened (serial_of n)) j) refl
  where
    o : ℕ
    o = c.opened (serial_of n)

    u : ℕ
    u = max t o

    go : ((v : ℕ) → low ≤ v → v ≤ j → loop F (filter (is_there c j) ns) (leb over j) ≡ cut j (rounds c f ns over v))
        → (x : Bool) → leb o j ≡ x → loop F (cond x (n ∷ filter (is_there c j) ns) (filter (is_there c j) ns)) (leb over j) ≡ cut j (then_on (f n u) (rounds c f ns over))
    go ih true g =
        let k = leb-true o j g in
        ap (λ (z : Out). seq z (loop F (filter (is_there c j) ns) (leb over j))) (e n u (inl refl) (omega arith) (omega arith) (omega arith))
        ∙ seq_cut j (f n u) (rounds c f ns over) (loop F (filter (is_there c j) ns) (leb over j)) (late_rounds c f h ns over (f n u).till)
        (λ m. ih (f n u).till (let q = (h n u).till in omega arith) m)
    go ih false g =
        let k = leb-false o j g in
        let none : filter (is_there c j) ns ≡ [] = filter_none (is_there c j) ns (λ m i. lt-leb (c.opened (serial_of m)) j (let q = r.1 m i in omega arith)) in
        let over_later : leb over j ≡ false = lt-leb over j (let q = r.0 in omega arith) in
        ap (λ (z : List Node). loop F z (leb over j)) none
        ∙ (ap (λ (z : Bool). idle z) over_later
        ∙ sym (cut_late j u (then_on (f n u) (rounds c f ns over)) (late_then u (f n u) (rounds c f ns over) (h n u) (λ v. late_rounds c f h ns over v)) (omega arith)))
