use Rattle.std.proofs.Common.{◌≡◌, ◌+◌, ◌<◌, List, ◌∷◌, drop, get_or, sym, ◌∙◌, ap, subst, add-one, length, false}
use Rattle.std.proofs.Math.Seq.{drop-cons}
use Rattle.std.proofs.lemmas.List.{drop_all}
use Rattle.buf_tree.specs.declared.ahead.Ahead.{Ahead}
use Rattle.projector.proofs.Telling.{Tells, tells_none, tells_more, tells_all}
use Rattle.projector.proofs.signing.sign_all.Goals as goal

pub loop-ahead-init : goal.loop-ahead-init
loop-ahead-init c = tells_none c.args.matcher.now c.args.waiting.now

pub loop-ahead-preserved : goal.loop-ahead-preserved
loop-ahead-preserved c =
    let ws = c.args.waiting.now in
    let k = c.loop-ahead.ahead-index in
    let w = c.ahead-item.result in
    let low : k < length ws = c.loop-ahead-test.true in
    let here : drop k ws ≡ get_or ws k w ∷ drop (k + 1) ws = drop-cons ws k w low ∙ ap (λ i. get_or ws k w ∷ drop i ws) (sym (add-one k)) in
    tells_more c.args.matcher.now c.loop-ahead.matcher c.sign.new.self ws (drop (k + 1) ws) w
    (subst (λ (z : List Ahead). Tells c.args.matcher.now c.loop-ahead.matcher ws z) (here ∙ ap (λ (z : Ahead). z ∷ drop (k + 1) ws) (sym c.ahead-item.is)) c.loop-ahead.invariant)
    (λ past n. c.in_ok-sign.ensures.stands past false n)

pub returns : goal.returns
returns c =
    tells_all c.args.matcher.now c.loop-ahead.matcher c.args.waiting.now
    (subst (λ (z : List Ahead). Tells c.args.matcher.now c.loop-ahead.matcher c.args.waiting.now z) (drop_all c.loop-ahead.ahead-index c.args.waiting.now c.loop-ahead-test.false) c.loop-ahead.invariant)
