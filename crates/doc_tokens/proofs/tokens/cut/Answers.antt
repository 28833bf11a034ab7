use Rattle.std.proofs.Common.{◌≡◌, ◌-◌, ◌++◌, length, take, drop, ap, ◌∙◌, arith, rules, length-drop}
use Rattle.std.proofs.lemmas.List.{with_items_is, places}
use Rattle.doc_tokens.proofs.Parts.{moved_down}
use Rattle.doc_tokens.proofs.tokens.cut.Goals as goal

pub returns : goal.returns
returns g c =
    let xs = c.as_mut_slice.result.now in
    let from = c.args.from in
    let to = c.args.to in
    let m = c.len-len.result - to in
    let left = c.len-len.result - (to - from) in
    let order = c.requires.order in
    let within = c.requires.within in
    let long : length xs ≡ c.len-len.result = search rules in
    let rest : m ≡ length (drop to xs) = omega (arith, length-drop to xs) in
    c.truncate.ensures.items
    ∙ ap (take left) (with_items_is c.args.xs.now c.copy_within.new.self (search (rules, places)) ∙ c.copy_within.ensures.after)
    ∙ moved_down xs from to m left rest (omega arith) order (omega arith)
    ∙ ap (λ ys. take from ys ++ drop to ys) c.as_mut_slice.ensures.value
