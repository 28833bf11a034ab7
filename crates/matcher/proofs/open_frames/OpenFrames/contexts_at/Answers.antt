use Rattle.std.proofs.Common.{◌≡◌, ◌<◌, ◌≤◌, List, length, sym, ◌∙◌, ap, arith, Option, Some, None}
use Rattle.std.specs.Prelude.{option_map, slice_get}
use Rattle.matcher.specs.Bare.{bare_marks}
use Rattle.matcher.specs.Parts.{NodeMarks}
use Rattle.matcher.proofs.Bare.{at_made, at_none, at_unmade}
use Rattle.matcher.proofs.open_frames.OpenFrames.contexts_at.Goals as goal

pub returns-then-level-len : goal.returns-then-level-len
returns-then-level-len c =
    let test = c.if-level-len.true in
    let made = c.len.ensures in
    let l : c.args.level < length c.self.inside.made = omega arith in
    c.contexts_at.ensures
    ∙ ap (λ (z : Option NodeMarks). option_map (λ (one : NodeMarks). one.contexts) z) (sym (at_made c.self.inside.made c.self.inside.count c.args.level l) ∙ ap (λ (z : List NodeMarks). slice_get z c.args.level) c.self.view_is)

pub returns-then-level-count : goal.returns-then-level-count
returns-then-level-count c =
    let test = c.if-level-len.false in
    let made = c.len.ensures in
    let l : length c.self.inside.made ≤ c.args.level = omega arith in
    let m : c.args.level < c.self.inside.count = c.if-level-count.true in
    let at : slice_get c.args.self.now c.args.level ≡ Some bare_marks = ap (λ (z : List NodeMarks). slice_get z c.args.level) (sym c.self.view_is) ∙ at_unmade c.self.inside.made c.self.inside.count c.args.level l m in
    sym (ap (λ (z : Option NodeMarks). option_map (λ (one : NodeMarks). one.contexts) z) at)

pub returns-else-level-count : goal.returns-else-level-count
returns-else-level-count c =
    let m : c.self.inside.count ≤ c.args.level = c.if-level-count.false in
    let at : slice_get c.args.self.now c.args.level ≡ None = ap (λ (z : List NodeMarks). slice_get z c.args.level) (sym c.self.view_is) ∙ at_none c.self.inside.made c.self.inside.count c.args.level c.self.invariant m in
    sym (ap (λ (z : Option NodeMarks). option_map (λ (one : NodeMarks). one.contexts) z) at)
