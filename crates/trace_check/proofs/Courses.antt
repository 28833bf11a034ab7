-- Courses made one part after another, and loops turn by turn.
use Rattle.std.proofs.Common.{◌≡◌, ℕ, zero, suc, ◌+◌, ◌<◌, ◌≤◌, true, List, [], ◌∷◌, ◌++◌, length, max, refl, sym, ◌∙◌, ap, subst, inl, inr, arith, ◌&&◌, append-nil, append_assoc}
use Rattle.std.proofs.lemmas.Bool.{and_parts, eqb-true, false≢true}
use Rattle.gcx_base.specs.declared.kind.Kind.{Kind}
use Rattle.gcx_base.specs.declared.kind.Kind.TheVariants.{Document, Element, Text}
use Rattle.gcx_base.specs.Tests.{passes}
use Rattle.gcx_model.specs.Answer.{child_step, children}
use Rattle.gcx_model.specs.Core.{ItemTree}
use Rattle.gcx_model.specs.ItemView.{body_of}
use Rattle.gcx_model.specs.Members.{In}
use Rattle.gcx_model.specs.Paths.{hits, lies, reach}
use Rattle.gcx_model.specs.Run.{Wrote}
use Rattle.gcx_model.specs.Tree.{Node, Root, Under, serial_of, kind_of, above, Tree}
use Rattle.gcx_model.specs.Truth.{Env}
use Rattle.gcx_model.specs.Written.{start_tag, end_tag}
use Rattle.tree_laws.proofs.Lists.{any_in}
use Rattle.tree_laws.proofs.Matches.{Grown, Numbered-high, Matches-in}
use Rattle.time_laws.specs.Times.{Clock, TimedAction, TimedCourse, one_act, none_till, then_on, rounds, copy_course_with, copy_course, item_course, course}
use Rattle.trace_check.specs.Acting.{whole_copy, copies_below}

pub same_course : (a b : TimedCourse) → a.acts ≡ b.acts → a.till ≡ b.till → a ≡ b
same_course a b e f = two a.acts b.acts a.till b.till e f
  where
    two : (xs ys : List TimedAction) (t u : ℕ) → xs ≡ ys → t ≡ u → let x : TimedCourse = record { acts = xs; till = t } in let y : TimedCourse = record { acts = ys; till = u } in x ≡ y
    two xs ys t u e f = rw (e, f) refl

-- nothing before, and nothing behind
pub none_then : (t : ℕ) (f : ℕ → TimedCourse) → then_on (none_till t) f ≡ f t
none_then t f = same_course (then_on (none_till t) f) (f t) refl refl

pub then_none : (a : TimedCourse) → then_on a none_till ≡ a
then_none a = same_course (then_on a none_till) a (append-nil a.acts) refl

pub then_assoc : (a : TimedCourse) (f g : ℕ → TimedCourse) → then_on (then_on a f) g ≡ then_on a (λ t. then_on (f t) g)
then_assoc a f g = same_course (then_on (then_on a f) g) (then_on a (λ t. then_on (f t) g)) (append_assoc a.acts (f a.till).acts (g (f a.till).till).acts) refl

same_then : (a : TimedCourse) (f g : ℕ → TimedCourse) → ((t : ℕ) → f t ≡ g t) → then_on a f ≡ then_on a g
same_then a f g h = ap (λ (c : TimedCourse). record { acts = a.acts ++ c.acts; till = c.till }) (h a.till)

-- ---- loops

-- a turn more
pub rounds_push : (c : Clock) (f : Node → ℕ → TimedCourse) (ns : List Node) (n : Node) (t : ℕ)
    → rounds c f (ns ++ n ∷ []) 0 t ≡ then_on (rounds c f ns 0 t) (λ u. f n (max u (c.opened (serial_of n))))
rounds_push c f [] n t =
    let z : max (max t 0) (c.opened (serial_of n)) ≡ max t (c.opened (serial_of n)) = omega arith in
    same_then (f n (max t (c.opened (serial_of n)))) (λ u. none_till (max u 0)) none_till (λ u. let y : max u 0 ≡ u = omega arith in ap none_till y)
    ∙ (then_none (f n (max t (c.opened (serial_of n))))
    ∙ sym (none_then (max t 0) (λ u. f n (max u (c.opened (serial_of n)))) ∙ ap (f n) z))
rounds_push c f (m ∷ ns) n t =
    same_then (f m (max t (c.opened (serial_of m)))) (rounds c f (ns ++ n ∷ []) 0) (λ u. then_on (rounds c f ns 0 u) (λ v. f n (max v (c.opened (serial_of n))))) (λ u. rounds_push c f ns n u)
    ∙ sym (then_assoc (f m (max t (c.opened (serial_of m)))) (rounds c f ns 0) (λ v. f n (max v (c.opened (serial_of n)))))

-- the loop is over no sooner than this
pub rounds_over : (c : Clock) (f : Node → ℕ → TimedCourse) (ns : List Node) (over t : ℕ)
    → rounds c f ns over t ≡ then_on (rounds c f ns 0 t) (λ u. none_till (max u over))
rounds_over c f [] over t =
    let z : max t over ≡ max (max t 0) over = omega arith in
    ap none_till z ∙ sym (none_then (max t 0) (λ u. none_till (max u over)))
rounds_over c f (n ∷ ns) over t =
    same_then (f n (max t (c.opened (serial_of n)))) (rounds c f ns over) (λ u. then_on (rounds c f ns 0 u) (λ v. none_till (max v over))) (λ u. rounds_over c f ns over u)
    ∙ sym (then_assoc (f n (max t (c.opened (serial_of n)))) (rounds c f ns 0) (λ v. none_till (max v over)))

-- ---- bodies

-- an item more
pub course_push : (c : Clock) (C : Tree) (is : List ItemTree) (i : ItemTree) (env : Env) (t : ℕ)
    → course c C (body_of (is ++ i ∷ [])) env t ≡ then_on (course c C (body_of is) env t) (item_course c C i env)
course_push c C [] i env t = then_none (item_course c C i env t) ∙ sym (none_then t (item_course c C i env))
course_push c C (j ∷ is) i env t =
    same_then (item_course c C j env t) (course c C (body_of (is ++ i ∷ [])) env) (λ u. then_on (course c C (body_of is) env u) (item_course c C i env)) (λ u. course_push c C is i env u)
    ∙ sym (then_assoc (item_course c C j env t) (course c C (body_of is) env) (item_course c C i env))

-- ---- copies

-- a child has the greater number
pub child_later : (C : Tree) → Grown C → (n : ℕ) (m : Node) → In m C.nodes → hits n (child_step ∷ []) m ≡ true → n < serial_of m
child_later C w n m i h =
    let r = any_in (λ (j : Node). reach n child_step j && hits (serial_of j) [] m) (above m) h in
    let a = and_parts (reach n child_step r.0) (hits (serial_of r.0) [] m) r.2 in
    let b = and_parts (passes child_step.test (kind_of r.0)) (lies child_step.axis n r.0) a.0 in
    at r.0 b.1 (eqb-true _ _ a.1) (up m r.0 r.1 i)
  where
    at : (j : Node) → lies child_step.axis n j ≡ true → serial_of m ≡ serial_of j → In j C.nodes → n < serial_of m
    at Root b e k = absurd (false≢true b)
    at (Under p s kd) b e k = let q = w.below p s kd k in let r = eqb-true _ _ b in omega (arith, q, r, e)

    up : (x j : Node) → In j (above x) → In x C.nodes → In j C.nodes
    up Root j (inl e) k = subst (λ (z : Node). In z C.nodes) e k
    up Root j (inr q) k = absurd q
    up (Under p s kd) j (inl e) k = subst (λ (z : Node). In z C.nodes) e k
    up (Under p s kd) j (inr q) k = up p j q (w.upward p s kd k)

same_rounds : (c : Clock) (f g : Node → ℕ → TimedCourse) (ns : List Node) (over : ℕ) → ((n : Node) → In n ns → (u : ℕ) → f n u ≡ g n u) → (t : ℕ) → rounds c f ns over t ≡ rounds c g ns over t
same_rounds c f g [] over h t = refl
same_rounds c f g (n ∷ ns) over h t =
    ap (λ (a : TimedCourse). then_on a (rounds c f ns over)) (h n (inl refl) (max t (c.opened (serial_of n))))
    ∙ same_then (g n (max t (c.opened (serial_of n)))) (rounds c f ns over) (rounds c g ns over) (λ u. same_rounds c f g ns over (λ m i. h m (inr i)) u)

same_copy : (k : Kind) (f g : ℕ → TimedCourse) → ((u : ℕ) → f u ≡ g u) → (t : ℕ) → copy_course_with k f t ≡ copy_course_with k g t
same_copy Document f g h t = h t
same_copy (Element name) f g h t =
    same_then (one_act t (Wrote (start_tag name))) (λ u. then_on (f u) (λ v. one_act v (Wrote (end_tag name)))) (λ u. then_on (g u) (λ v. one_act v (Wrote (end_tag name))))
    (λ u. ap (λ (a : TimedCourse). then_on a (λ v. one_act v (Wrote (end_tag name)))) (h u))
same_copy (Text b) f g h t = refl

-- as deep as there are nodes behind is deep enough
enough : (c : Clock) (C : Tree) → Grown C → (a b : ℕ) (n : Node) → In n C.nodes → length C.nodes ≤ a + serial_of n → length C.nodes ≤ b + serial_of n → (t : ℕ) → copy_course a c C n t ≡ copy_course b c C n t
enough c C w zero b n i la lb t = let h = Numbered-high 0 C.nodes w.numbered n i in absurd (omega (arith, h, la))
enough c C w (suc a) zero n i la lb t = let h = Numbered-high 0 C.nodes w.numbered n i in absurd (omega (arith, h, lb))
enough c C w (suc a) (suc b) n i la lb t =
    same_copy (kind_of n) (rounds c (copy_course a c C) (children C n) (c.closed (serial_of n))) (rounds c (copy_course b c C) (children C n) (c.closed (serial_of n)))
    (λ u. same_rounds c (copy_course a c C) (copy_course b c C) (children C n) (c.closed (serial_of n)) (λ m j v.
    let p = Matches-in C (serial_of n) (child_step ∷ []) m j in
    let low = child_later C w (serial_of n) m p.0 p.1 in
    enough c C w a b m p.0 (omega (arith, low, la)) (omega (arith, low, lb)) v) u) t

-- so a copy is made of those of the children
pub copy_unfolds : (c : Clock) (C : Tree) → Grown C → (n : Node) → In n C.nodes → (t : ℕ) → whole_copy c C n t ≡ copy_course_with (kind_of n) (copies_below c C n) t
copy_unfolds c C w n i t =
    enough c C w (length C.nodes) (suc (length C.nodes)) n i (omega arith) (omega arith) t
