use Rattle.std.proofs.Common.{◌≡◌, ◌<◌, ◌≤◌, ◌-◌, ◌+◌, List, length, sym, ◌∙◌, ap, subst, arith, Some}
use Rattle.matcher.specs.Bare.{bare_marks}
use Rattle.matcher.specs.Parts.{NodeMarks}
use Rattle.matcher.specs.Stacks.{last_marks, outer_marks}
use Rattle.matcher.proofs.Bare.{bare_last, bare_left, bare_length, bare_stays, made_left, none_bare}
use Rattle.matcher.proofs.open_frames.OpenFrames.leave.Goals as goal

pub returns-then-count-le1-clause-left : goal.returns-then-count-le1-clause-left
returns-then-count-le1-clause-left c =
    let test = c.if-count-le1.true in
    let few : c.self.inside.count ≤ 1 = omega arith in
    subst (λ (z : List NodeMarks). z ≡ outer_marks z) c.self.view_is (bare_stays c.self.inside.made c.self.inside.count few c.self.invariant)

pub returns-then-count-le1-clause-signed : goal.returns-then-count-le1-clause-signed
returns-then-count-le1-clause-signed c = λ one more at.
    let test = c.if-count-le1.true in
    let long = bare_length c.self.inside.made c.self.inside.count c.self.invariant in
    let same = ap (λ (z : List NodeMarks). length z) c.self.view_is in
    absurd (omega arith)

-- ---- a node without a frame

pub invariant_of-self : goal.invariant_of-self
invariant_of-self c =
    let test = c.if-len-count.true in
    let made = c.len.ensures in
    omega arith

pub returns-then-len-count-clause-left : goal.returns-then-len-count-clause-left
returns-then-len-count-clause-left c =
    let some = c.if-count-le1.false in
    let test = c.if-len-count.true in
    let made = c.len.ensures in
    let n = c.self.inside.count - 1 in
    let e : c.self.inside.count ≡ n + 1 = omega arith in
    let l : length c.self.inside.made ≤ n = omega arith in
    let m : 0 < n = omega arith in
    bare_left c.self.inside.made n c.self.inside.count e l m ∙ ap outer_marks c.self.view_is

pub returns-then-len-count-clause-signed : goal.returns-then-len-count-clause-signed
returns-then-len-count-clause-signed c = λ one more at.
    let test = c.if-len-count.true in
    let made = c.len.ensures in
    let l : length c.self.inside.made < c.self.inside.count = omega arith in
    let last : Some bare_marks ≡ Some one = sym (bare_last c.self.inside.made c.self.inside.count l) ∙ (ap last_marks c.self.view_is ∙ at) in
    let is : bare_marks ≡ one = cc in
    ap (λ (z : NodeMarks). z.signed) is

-- ---- one with a frame

pub invariant_of-self-2 : goal.invariant_of-self-2
invariant_of-self-2 c =
    let some = c.if-count-le1.false in
    let test = c.if-len-count.false in
    let made = c.len.ensures in
    let few = c.self.invariant in
    let n = c.self.inside.count - 1 in
    let e : c.self.inside.count ≡ n + 1 = omega arith in
    let l : length c.self.inside.made ≡ c.self.inside.count = omega arith in
    let m : 0 < n = omega arith in
    let left = (made_left c.self.inside.made c.leave.new.self n c.self.inside.count e l m c.leave.ensures.left).0 in
    omega arith

pub returns-clause-left : goal.returns-clause-left
returns-clause-left c =
    let some = c.if-count-le1.false in
    let test = c.if-len-count.false in
    let made = c.len.ensures in
    let few = c.self.invariant in
    let n = c.self.inside.count - 1 in
    let e : c.self.inside.count ≡ n + 1 = omega arith in
    let l : length c.self.inside.made ≡ c.self.inside.count = omega arith in
    let m : 0 < n = omega arith in
    (made_left c.self.inside.made c.leave.new.self n c.self.inside.count e l m c.leave.ensures.left).1 ∙ ap outer_marks c.self.view_is

pub returns-clause-signed : goal.returns-clause-signed
returns-clause-signed c = λ one more at.
    let test = c.if-len-count.false in
    let made = c.len.ensures in
    let all : c.self.inside.count ≤ length c.self.inside.made = omega arith in
    let same : c.self.inside.made ≡ c.args.self.now = sym (none_bare c.self.inside.made c.self.inside.count all) ∙ c.self.view_is in
    c.leave.ensures.signed one (subst (λ (z : List NodeMarks). 1 < length z) (sym same) more) (ap last_marks same ∙ at)
