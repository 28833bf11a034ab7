-- The times of a course never fall.
use Rattle.std.proofs.Common.{ℕ, zero, suc, ◌≤◌, Bool, true, false, cond, List, [], ◌∷◌, ◌++◌, length, refl, ap, inl, inr, arith, max}
use Rattle.gcx_base.specs.declared.kind.Kind.{Kind}
use Rattle.gcx_base.specs.declared.kind.Kind.TheVariants.{Document, Element, Text}
use Rattle.gcx_model.specs.Tree.{Node, serial_of, kind_of, Tree}
use Rattle.gcx_model.specs.Paths.{matches}
use Rattle.gcx_model.specs.Answer.{children}
use Rattle.gcx_model.specs.Written.{start_tag, end_tag, escaped}
use Rattle.gcx_model.specs.Core.{ItemTree, Write, Copy, For, If, SignOff, BodyTree, Nil, Then}
use Rattle.gcx_model.specs.Truth.{Env, bind_var}
use Rattle.gcx_model.specs.Run.{Action, Wrote, Offed, env0}
use Rattle.tree_laws.proofs.Lists.{In, In-append}
use Rattle.time_laws.specs.Times.{Clock, TimedAction, TimedCourse, one_act, none_till, then_on, rounds, copy_course_with, copy_course, settled, item_course, course}
use Rattle.time_laws.specs.Laws.{NeverFall, TimesRise}
use Rattle.time_laws.proofs.Begun.{Late, late_course, late_copy, late_rounds, late_one, late_then}

-- its times never fall, and none is behind the time at which it is done
pub record InTime (a : TimedCourse) : Type 0 where
  pub rise : NeverFall a.acts
  pub till : (x : TimedAction) → In x a.acts → x.at ≤ a.till

joined : (t : ℕ) (xs ys : List TimedAction) → NeverFall xs → ((x : TimedAction) → In x xs → x.at ≤ t) → NeverFall ys → ((y : TimedAction) → In y ys → t ≤ y.at) → NeverFall (xs ++ ys)
joined t [] ys h g k l = k
joined t (x ∷ xs) ys h g k l = (
  (λ z i. elim (In-append z xs ys i) [ inl j ↦ h.0 z j | inr j ↦ (let a = g x (inl refl) in let b = l z j in omega (arith, a, b)) ]),
  joined t xs ys h.1 (λ z i. g z (inr i)) k l,
)

one_in : (t : ℕ) (a : Action) → InTime (one_act t a)
one_in t a = record { rise = ((λ z i. absurd i), tt); till = λ x i. elim i [ inl e ↦ (let f = ap (λ (z : TimedAction). z.at) e in omega (arith, f)) | inr j ↦ absurd j ] }

none_in : (t : ℕ) → InTime (none_till t)
none_in t = record { rise = tt; till = λ x i. absurd i }

then_in : (a : TimedCourse) (f : ℕ → TimedCourse) → InTime a → ((u : ℕ) → InTime (f u)) → ((u : ℕ) → Late u (f u)) → InTime (then_on a f)
then_in a f h k l = record {
  rise = joined a.till a.acts (f a.till).acts h.rise h.till (k a.till).rise (l a.till).acts;
  till = λ x i. elim (In-append x a.acts (f a.till).acts i) [
    | inl j ↦ (let p = h.till x j in let q = (l a.till).till in omega (arith, p, q))
    | inr j ↦ (k a.till).till x j
  ];
}

rounds_in : (c : Clock) (f : Node → ℕ → TimedCourse) → ((n : Node) (u : ℕ) → InTime (f n u)) → ((n : Node) (u : ℕ) → Late u (f n u)) → (ns : List Node) (over t : ℕ) → InTime (rounds c f ns over t)
rounds_in c f h l [] over t = none_in (max t over)
rounds_in c f h l (n ∷ ns) over t = then_in (f n (max t (c.opened (serial_of n)))) (rounds c f ns over) (h n (max t (c.opened (serial_of n)))) (rounds_in c f h l ns over) (late_rounds c f l ns over)

copy_with_in : (k : Kind) (f : ℕ → TimedCourse) → ((u : ℕ) → InTime (f u)) → ((u : ℕ) → Late u (f u)) → (t : ℕ) → InTime (copy_course_with k f t)
copy_with_in Document f h l t = h t
copy_with_in (Element name) f h l t =
    let close : ℕ → TimedCourse = λ v. one_act v (Wrote (end_tag name)) in
    then_in (one_act t (Wrote (start_tag name))) (λ u. then_on (f u) close) (one_in t (Wrote (start_tag name)))
    (λ u. then_in (f u) close (h u) (λ v. one_in v (Wrote (end_tag name))) (λ v. late_one v (Wrote (end_tag name))))
    (λ u. late_then u (f u) close (l u) (λ v. late_one v (Wrote (end_tag name))))
copy_with_in (Text b) f h l t = one_in t (Wrote (escaped b))

copy_in : (most : ℕ) (c : Clock) (C : Tree) (n : Node) (t : ℕ) → InTime (copy_course most c C n t)
copy_in zero c C n t = none_in t
copy_in (suc most) c C n t =
    copy_with_in (kind_of n) (rounds c (copy_course most c C) (children C n) (c.closed (serial_of n)))
    (rounds_in c (copy_course most c C) (copy_in most c C) (late_copy most c C) (children C n) (c.closed (serial_of n)))
    (late_rounds c (copy_course most c C) (late_copy most c C) (children C n) (c.closed (serial_of n))) t

cond_in : (b : Bool) (x y : TimedCourse) → InTime x → InTime y → InTime (cond b x y)
cond_in true x y h k = h
cond_in false x y h k = k

mutual
  item_in : (c : Clock) (C : Tree) (i : ItemTree) (env : Env) (t : ℕ) → InTime (item_course c C i env t)
  item_in c C (Write b) env t = one_in t (Wrote b)
  item_in c C (Copy x) env t = copy_in (length C.nodes) c C (env x) t
  item_in c C (For x y s d) env t =
      rounds_in c (λ n u. course c C d (bind_var env x n) u) (λ n u. course_in c C d (bind_var env x n) u) (λ n u. late_course c C d (bind_var env x n) u)
      (matches C (serial_of (env y)) (s ∷ [])) (c.closed (serial_of (env y))) t
  item_in c C (If k a b) env t =
      cond_in (settled c C k env).truth (course c C a env (max t (settled c C k env).at)) (course c C b env (max t (settled c C k env).at))
      (course_in c C a env (max t (settled c C k env).at)) (course_in c C b env (max t (settled c C k env).at))
  item_in c C (SignOff o) env t = one_in t (Offed o (serial_of (env o.base)))

  course_in : (c : Clock) (C : Tree) (d : BodyTree) (env : Env) (t : ℕ) → InTime (course c C d env t)
  course_in c C Nil env t = none_in t
  course_in c C (Then i d) env t = then_in (item_course c C i env t) (course c C d env) (item_in c C i env t) (course_in c C d env) (late_course c C d env)

pub times_rise : TimesRise
times_rise c C plan = (course_in c C plan.body env0 0).rise
