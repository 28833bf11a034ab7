use Rattle.std.proofs.Common.{ℕ, List, sym, ◌∙◌, subst, arith}
use Rattle.gcx_model.specs.Members.{In}
use Rattle.path_states.proofs.Gaining.{any_has, any_none}
use Rattle.matcher.proofs.Finding.{hit_at, at_hit, hit_none, hit_past}
use Rattle.matcher.proofs.upward.is_hit.Goals as goal

pub returns-then-level-len-clause-no : goal.returns-then-level-len-clause-no
returns-then-level-len-clause-no c = λ h k. hit_past c.args.states.now c.args.frames.now c.args.state c.args.level (let l = c.len.ensures in let g = c.if-level-len.true in omega arith) k

pub returns-in-Some-clause-yes : goal.returns-in-Some-clause-yes
returns-in-Some-clause-yes c = λ h.
    hit_at c.args.states.now c.args.frames.now c.args.state c.args.level c.in-Some.at.now (let l = c.len.ensures in let g = c.if-level-len.false in omega arith) c.in-Some.ensures.is
    (subst (λ (z : List ℕ). In c.args.state z) c.active.ensures (any_has c.args.state c.active.result.now (sym c.contains.ensures.value ∙ h)))

pub returns-in-Some-clause-no : goal.returns-in-Some-clause-no
returns-in-Some-clause-no c = λ h k.
    any_none c.args.state c.active.result.now (sym c.contains.ensures.value ∙ h)
    (subst (λ (z : List ℕ). In c.args.state z) (sym c.active.ensures) (at_hit c.args.states.now c.args.frames.now c.args.state c.args.level c.in-Some.at.now c.in-Some.ensures.is k))

pub returns-in-None-clause-no : goal.returns-in-None-clause-no
returns-in-None-clause-no c = λ h k. hit_none c.args.states.now c.args.frames.now c.args.state c.args.level c.in-None.ensures.is k
