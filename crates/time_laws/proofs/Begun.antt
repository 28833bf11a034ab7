-- Courses begun at a time have no earlier actions.
use Rattle.std.proofs.Common.{ℕ, zero, suc, ◌≤◌, Bool, true, false, cond, List, [], ◌∷◌, length, ap, inl, inr, arith, max}
use Rattle.gcx_base.specs.declared.kind.Kind.{Kind}
use Rattle.gcx_base.specs.declared.kind.Kind.TheVariants.{Document, Element, Text}
use Rattle.gcx_model.specs.Tree.{Node, serial_of, kind_of, Tree}
use Rattle.gcx_model.specs.Paths.{matches}
use Rattle.gcx_model.specs.Answer.{children}
use Rattle.gcx_model.specs.Written.{start_tag, end_tag, escaped}
use Rattle.gcx_model.specs.Core.{ItemTree, Write, Copy, For, If, SignOff, BodyTree, Nil, Then}
use Rattle.gcx_model.specs.Truth.{Env, bind_var}
use Rattle.gcx_model.specs.Run.{Action, Wrote, Offed}
use Rattle.tree_laws.proofs.Lists.{In, In-append}
use Rattle.time_laws.specs.Times.{Clock, TimedAction, TimedCourse, one_act, none_till, then_on, rounds, copy_course_with, copy_course, settled, item_course, course}

pub record Late (t : ℕ) (a : TimedCourse) : Type 0 where
  pub acts : (x : TimedAction) → In x a.acts → t ≤ x.at
  pub till : t ≤ a.till

pub later_on : (t u : ℕ) (a : TimedCourse) → t ≤ u → Late u a → Late t a
later_on t u a l h = record { acts = λ x i. let r = h.acts x i in omega arith; till = let r = h.till in omega arith }

pub late_one : (t : ℕ) (a : Action) → Late t (one_act t a)
late_one t a = record { acts = λ x i. elim i [ inl e ↦ (let f = ap (λ (z : TimedAction). z.at) e in omega arith) | inr k ↦ absurd k ]; till = omega arith }

pub late_none : (t u : ℕ) → t ≤ u → Late t (none_till u)
late_none t u l = record { acts = λ x i. absurd i; till = l }

pub late_then : (t : ℕ) (a : TimedCourse) (f : ℕ → TimedCourse) → Late t a → ((u : ℕ) → Late u (f u)) → Late t (then_on a f)
late_then t a f h k = record {
  acts = λ x i. elim (In-append x a.acts (f a.till).acts i) [
    | inl j ↦ h.acts x j
    | inr j ↦ (let r = (k a.till).acts x j in let s = h.till in omega arith)
  ];
  till = let r = (k a.till).till in let s = h.till in omega arith;
}

pub late_rounds : (c : Clock) (f : Node → ℕ → TimedCourse) → ((n : Node) (u : ℕ) → Late u (f n u)) → (ns : List Node) (over t : ℕ) → Late t (rounds c f ns over t)
late_rounds c f h [] over t = late_none t (max t over) (omega arith)
late_rounds c f h (n ∷ ns) over t =
    let u : ℕ = max t (c.opened (serial_of n)) in
    later_on t u (then_on (f n u) (rounds c f ns over)) (omega arith) (late_then u (f n u) (rounds c f ns over) (h n u) (late_rounds c f h ns over))

pub late_copy_with : (k : Kind) (f : ℕ → TimedCourse) → ((u : ℕ) → Late u (f u)) → (t : ℕ) → Late t (copy_course_with k f t)
late_copy_with Document f h t = h t
late_copy_with (Element name) f h t =
    late_then t (one_act t (Wrote (start_tag name))) (λ u. then_on (f u) (λ v. one_act v (Wrote (end_tag name)))) (late_one t (Wrote (start_tag name)))
    (λ u. late_then u (f u) (λ v. one_act v (Wrote (end_tag name))) (h u) (λ v. late_one v (Wrote (end_tag name))))
late_copy_with (Text b) f h t = late_one t (Wrote (escaped b))

pub late_copy : (most : ℕ) (c : Clock) (C : Tree) (n : Node) (t : ℕ) → Late t (copy_course most c C n t)
late_copy zero c C n t = late_none t t (omega arith)
late_copy (suc most) c C n t = late_copy_with (kind_of n) (rounds c (copy_course most c C) (children C n) (c.closed (serial_of n))) (late_rounds c (copy_course most c C) (late_copy most c C) (children C n) (c.closed (serial_of n))) t

late_cond : (b : Bool) (t : ℕ) (x y : TimedCourse) → Late t x → Late t y → Late t (cond b x y)
late_cond true t x y h k = h
late_cond false t x y h k = k

mutual
  pub late_item : (c : Clock) (C : Tree) (i : ItemTree) (env : Env) (t : ℕ) → Late t (item_course c C i env t)
  late_item c C (Write b) env t = late_one t (Wrote b)
  late_item c C (Copy x) env t = late_copy (length C.nodes) c C (env x) t
  late_item c C (For x y s d) env t = late_rounds c (λ n u. course c C d (bind_var env x n) u) (λ n u. late_course c C d (bind_var env x n) u) (matches C (serial_of (env y)) (s ∷ [])) (c.closed (serial_of (env y))) t
  late_item c C (If k a b) env t =
      let u : ℕ = max t (settled c C k env).at in
      late_cond (settled c C k env).truth t (course c C a env u) (course c C b env u)
      (later_on t u (course c C a env u) (omega arith) (late_course c C a env u))
      (later_on t u (course c C b env u) (omega arith) (late_course c C b env u))
  late_item c C (SignOff o) env t = late_one t (Offed o (serial_of (env o.base)))

  pub late_course : (c : Clock) (C : Tree) (d : BodyTree) (env : Env) (t : ℕ) → Late t (course c C d env t)
  late_course c C Nil env t = late_none t t (omega arith)
  late_course c C (Then i d) env t = late_then t (item_course c C i env t) (course c C d env) (late_item c C i env t) (late_course c C d env)

-- a branch begins no earlier than its condition is settled
pub late_branch : (c : Clock) (C : Tree) (b : Bool) (x y : BodyTree) (env : Env) (u : ℕ) → Late u (cond b (course c C x env u) (course c C y env u))
late_branch c C b x y env u = late_cond b u (course c C x env u) (course c C y env u) (late_course c C x env u) (late_course c C y env u)
