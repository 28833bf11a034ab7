-- How far the actions of a time are told.
use Rattle.std.proofs.Common.{◌≡◌, ℕ, zero, suc, ◌+◌, ◌<◌, ◌≤◌, Bool, true, false, cond, List, [], ◌∷◌, length, map, get_or, take, drop, refl, sym, ◌∙◌, ap, subst, arith}
use Rattle.std.specs.List.{filter}
use Rattle.gcx_model.specs.Core.{PlanTree}
use Rattle.gcx_model.specs.Demand.{Line}
use Rattle.gcx_model.specs.Run.{Action, Wrote, Offed}
use Rattle.gcx_model.specs.Tree.{TreeToken}
use Rattle.time_laws.specs.Laws.{TimesRise}
use Rattle.time_laws.specs.Leaving.{acts_told, count_offs}
use Rattle.time_laws.specs.Times.{TimedAction, act_of, due, is_due, timed_acts}
use Rattle.trace_check.specs.Acting.{Shown, ShownAct, Signed, Sized, act_shown, action_shown, seen, shown}
use Rattle.trace_check.specs.Telling.{IsCounted, IsCourse, IsTelling, IsToldTo, Puts, acts_in, due_in, shown_told, signed_by}
use Rattle.trace_check.specs.Timing.{clock_in}
use Rattle.trace_check.specs.declared.acts.TimedAct as code
use Rattle.trace_check.specs.declared.course.Course.{Course}
use Rattle.trace_check.specs.declared.telling.Told.{Told}
use Rattle.trace_check.proofs.Assembled.{all_acts}
use Rattle.trace_check.proofs.Dues.{due_at, due_end, kept_at, kept_many}
use Rattle.trace_check.proofs.Told.{IsLeft, left_none, left_on, signed_on}

-- ---- fewer statements

take_few : (k : ℕ) (xs : List Action) → count_offs (take k xs) ≤ count_offs xs
take_few zero xs = omega arith
take_few (suc k) [] = omega arith
take_few (suc k) (Wrote b ∷ xs) = take_few k xs
take_few (suc k) (Offed o m ∷ xs) = let h = take_few k xs in omega (arith, h)

offs_more : (a : Action) (xs ys : List Action) → count_offs xs ≤ count_offs ys → count_offs (a ∷ xs) ≤ count_offs (a ∷ ys)
offs_more (Wrote b) xs ys h = h
offs_more (Offed o m) xs ys h = omega (arith, h)

offs_fewer : (a : Action) (xs ys : List Action) → count_offs xs ≤ count_offs ys → count_offs xs ≤ count_offs (a ∷ ys)
offs_fewer (Wrote b) xs ys h = h
offs_fewer (Offed o m) xs ys h = omega (arith, h)

due_few : (j : ℕ) (T : List TimedAction) → count_offs (due j T) ≤ count_offs (map act_of T)
due_few j [] = omega arith
due_few j (a ∷ T) = go (is_due j a) (due_few j T)
  where
    go : (b : Bool) → count_offs (due j T) ≤ count_offs (map act_of T) → count_offs (map act_of (cond b (a ∷ filter (is_due j) T) (filter (is_due j) T))) ≤ count_offs (act_of a ∷ map act_of T)
    go true h = offs_more (act_of a) (due j T) (map act_of T) h
    go false h = offs_fewer (act_of a) (due j T) (map act_of T) h

-- ---- the actions of a time

-- all that is to be told from here on
abbrev pub lines_of : PlanTree → Course → (now : ℕ) → Told → List Line
lines_of plan c now old = acts_told (clock_in c.timed) c.timed.tree (acts_in plan c) now old.signed (drop old.acts (due_in plan c now))

-- So far it is told.
pub record HasTold (plan : PlanTree) (c : Course) (now : ℕ) (old new : Told) (from to : List ℕ) : Type 0 where
  pub left : IsLeft (clock_in c.timed) c.timed.tree (acts_in plan c) now (due_in plan c now) from (lines_of plan c now old) to new.acts new.signed
  pub telling : IsTelling plan c now new

-- an action more is told, and no more statements than actions
pub few_on : (a : Shown) (old new : Told) → IsCounted old new a → old.signed ≤ old.acts → new.signed ≤ new.acts
few_on (Sized n) old new h l = let s = h.signed in let m = h.acts in omega (arith, s, m, l)
few_on (Signed o n) old new h l = let s = h.signed in let m = h.acts in omega (arith, s, m, l)

no_act : TimedAction
no_act = record { at = 0; act = Wrote [] }

module _ (rise : TimesRise) (plan : PlanTree) (ts : List TreeToken) (c : Course) (is : IsCourse plan ts c) (now : ℕ) (old mid : Told) (from to : List ℕ) (h : HasTold plan c now old mid from to) where
  kept : (x : code.TimedAct) → mid.acts < length c.acts.items → x ≡ get_or c.acts.items mid.acts x → shown x ≡ seen (get_or (timed_acts (clock_in c.timed) c.timed.tree plan) mid.acts no_act)
  kept x l at = ap shown at ∙ kept_at c.acts.items (timed_acts (clock_in c.timed) c.timed.tree plan) is.acts mid.acts x no_act l

  -- an action more
  pub told_on : (x : code.TimedAct) → mid.acts < length c.acts.items → x ≡ get_or c.acts.items mid.acts x → x.at ≤ now
      → (new : Told) (next : List ℕ) → IsCounted mid new (act_shown x.act)
      → (new.signed ≤ count_offs (acts_in plan c) → Puts to next (shown_told (clock_in c.timed) c.timed.tree (acts_in plan c) now mid.signed (act_shown x.act)))
      → HasTold plan c now old new from next
  told_on x l at due_now new next counted puts =
      let T : List TimedAction = timed_acts (clock_in c.timed) c.timed.tree plan in
      let D : List Action = due_in plan c now in
      let s : Shown = act_shown x.act in
      let same = kept x l at in
      let time : x.at ≡ (get_or T mid.acts no_act).at = ap (λ (z : ShownAct). z.at) same in
      let few : mid.acts < length T = (let n = kept_many c.acts.items T is.acts in omega (arith, l, n)) in
      let due_one = due_at T (rise (clock_in c.timed) c.timed.tree plan) now mid.acts no_act few (omega (arith, due_now, time)) in
      let what : s ≡ action_shown (get_or D mid.acts (act_of no_act)) = ap (λ (z : ShownAct). z.what) same ∙ ap action_shown (sym due_one.1) in
      let signed : signed_by s mid.signed ≡ count_offs (take (mid.acts + 1) D) = signed_on D mid.acts mid.signed (act_of no_act) s due_one.0 what h.telling.signed in
      let one : mid.acts + 1 ≡ new.acts = (let a = counted.acts in omega (arith, a)) in
      let all : new.signed ≤ count_offs (acts_in plan c) =
      (let a = take_few (mid.acts + 1) D in let b = due_few now T in let e = ap count_offs (all_acts _ c.timed is.timed.closed.taken is.timed.closed.shut plan) in let f = counted.signed in omega (arith, a, b, e, f, signed)) in
      record {
        left = subst (λ (m : ℕ). IsLeft (clock_in c.timed) c.timed.tree (acts_in plan c) now D from (lines_of plan c now old) next m new.signed) (sym counted.acts)
            (subst (λ (k : ℕ). IsLeft (clock_in c.timed) c.timed.tree (acts_in plan c) now D from (lines_of plan c now old) next (suc mid.acts) k) (sym counted.signed)
            (left_on (clock_in c.timed) c.timed.tree (acts_in plan c) now D from (lines_of plan c now old) to next mid.acts mid.signed (act_of no_act) s due_one.0 what h.left (puts all)));
        telling = record {
          acts = (let a = due_one.0 in omega (arith, a, one));
          signed = counted.signed ∙ (signed ∙ ap (λ (m : ℕ). count_offs (take m D)) one);
        };
      }

  -- where the next one is later, or there is none, all are told
  pub told_all : (mid.acts < length c.acts.items → (x : code.TimedAct) × (x ≡ get_or c.acts.items mid.acts x) × (now < x.at)) → Puts from to (lines_of plan c now old) × IsToldTo plan c now mid
  told_all later =
      let T : List TimedAction = timed_acts (clock_in c.timed) c.timed.tree plan in
      let D : List Action = due_in plan c now in
      let n = kept_many c.acts.items T is.acts in
      let end : length D ≤ mid.acts
      = due_end T (rise (clock_in c.timed) c.timed.tree plan) now mid.acts no_act (λ l.
      let few : mid.acts < length c.acts.items = omega (arith, l, n) in
      let r = later few in
      let late = r.2 in
      let time = ap (λ (z : ShownAct). z.at) (kept r.0 few r.1) in
      omega (arith, late, time)) in
      let many : mid.acts ≡ length D = (let a = h.telling.acts in omega (arith, a, end)) in (
        left_none (clock_in c.timed) c.timed.tree (acts_in plan c) now D from (lines_of plan c now old) to mid.acts mid.signed end h.left,
        record { acts = many; signed = h.telling.signed ∙ ap count_offs (ap (λ (m : ℕ). take m D) many ∙ take_whole D) },
      )
    where
      take_whole : (xs : List Action) → take (length xs) xs ≡ xs
      take_whole [] = refl
      take_whole (x ∷ xs) = ap (λ (l : List Action). x ∷ l) (take_whole xs)
