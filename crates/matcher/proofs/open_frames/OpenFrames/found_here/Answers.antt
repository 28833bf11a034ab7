use Rattle.std.proofs.Common.{◌≡◌, ◌<◌, ◌≤◌, List, length, sym, ◌∙◌, ap, arith}
use Rattle.matcher.specs.Parts.{NodeMarks}
use Rattle.matcher.specs.Stacks.{found_in, last_marks}
use Rattle.matcher.proofs.Bare.{bare_last, none_bare}
use Rattle.matcher.proofs.open_frames.OpenFrames.found_here.Goals as goal

pub returns-then-len-count : goal.returns-then-len-count
returns-then-len-count c =
    let test = c.if-len-count.true in
    let made = c.len.ensures in
    let l : length c.self.inside.made < c.self.inside.count = omega arith in
    sym (ap found_in (ap last_marks (sym c.self.view_is) ∙ bare_last c.self.inside.made c.self.inside.count l))

pub returns : goal.returns
returns c =
    let test = c.if-len-count.false in
    let made = c.len.ensures in
    let all : c.self.inside.count ≤ length c.self.inside.made = omega arith in
    let same : c.self.inside.made ≡ c.args.self.now = sym (none_bare c.self.inside.made c.self.inside.count all) ∙ c.self.view_is in
    c.found_here.ensures ∙ ap (λ (z : List NodeMarks). found_in (last_marks z)) same
