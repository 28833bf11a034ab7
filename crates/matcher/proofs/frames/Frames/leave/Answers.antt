use Rattle.std.proofs.Common.{◌≡◌, ◌<◌, ◌++◌, ◌∷◌, [], List, length, take, sym, ◌∙◌, ap, subst, arith}
use Rattle.std.proofs.lemmas.List.{length-append}
use Rattle.matcher.specs.Parts.{NodeMarks, marks_at, marks_of}
use Rattle.matcher.specs.Stacks.{AreStacked, outer_marks}
use Rattle.matcher.specs.declared.frames.Context.{Context}
use Rattle.matcher.specs.declared.frames.Found.{Found}
use Rattle.matcher.specs.declared.frames.Frame.{Frame}
use Rattle.path_states.proofs.Looking.{one_at}
use Rattle.matcher.proofs.Places.{last_is, map_length, map_push}
use Rattle.matcher.proofs.Stacking.{marks_less, stacked_less}
use Rattle.matcher.proofs.Places.{outer_push}
use Rattle.matcher.proofs.frames.Frames.leave.Goals as goal

pub invariant_of-self : goal.invariant_of-self
invariant_of-self c =
    let s = c.self.inside in
    let frame = c.in-Some.frame in
    let left = c.pop.new.self.items in
    let stacked = subst (λ (z : List Frame). AreStacked s.contexts.items s.found.items z) c.in-Some.ensures.items c.self.invariant in
    subst (λ (z : List Context). AreStacked z c.truncate-in-Some.new.self.items left) (sym c.truncate.ensures.items)
    (subst (λ (z : List Found). AreStacked (take frame.contexts.from s.contexts.items) z left) (sym c.truncate-in-Some.ensures.items) (stacked_less s.contexts.items s.found.items left frame stacked))

pub returns-in-Some-clause-left : goal.returns-in-Some-clause-left
returns-in-Some-clause-left c =
    let s = c.self.inside in
    let cs = s.contexts.items in
    let fs = s.found.items in
    let frame = c.in-Some.frame in
    let left = c.pop.new.self.items in
    let stacked = subst (λ (z : List Frame). AreStacked cs fs z) c.in-Some.ensures.items c.self.invariant in
    let many = ap length c.in-Some.ensures.items in
    let long = length-append left (frame ∷ []) in
    let same = map_length (marks_at cs fs) left in
    let test = c.if-len-le1.false in
    let some : 0 < length (marks_of cs fs left) = omega arith in
    ap (λ (z : List Context). marks_of z c.truncate-in-Some.new.self.items left) c.truncate.ensures.items
    ∙ (ap (λ (z : List Found). marks_of (take frame.contexts.from cs) z left) c.truncate-in-Some.ensures.items
    ∙ (marks_less cs fs left frame stacked
    ∙ (sym (outer_push (marks_of cs fs left) (marks_at cs fs frame) some)
    ∙ (ap outer_marks (sym (map_push (marks_at cs fs) left frame))
    ∙ (ap (λ (z : List Frame). outer_marks (marks_of cs fs z)) (sym c.in-Some.ensures.items)
    ∙ ap outer_marks c.self.view_is)))))

pub returns-in-Some-clause-signed : goal.returns-in-Some-clause-signed
returns-in-Some-clause-signed c = λ one l at.
    let s = c.self.inside in
    let cs = s.contexts.items in
    let fs = s.found.items in
    let frame = c.in-Some.frame in
    let left = c.pop.new.self.items in
    let all : c.args.self.now ≡ marks_of cs fs left ++ marks_at cs fs frame ∷ [] = sym c.self.view_is ∙ (ap (marks_of cs fs) c.in-Some.ensures.items ∙ map_push (marks_at cs fs) left frame) in
    let last = last_is (marks_of cs fs left) c.args.self.now (marks_at cs fs frame) all in
    ap (λ (z : NodeMarks). z.signed) (one_at c.args.self.now _ (marks_at cs fs frame) one last at)
