use Rattle.std.proofs.Common.{◌∙◌, sym}
use Rattle.path_states.proofs.Branching.{gains_asking}
use Rattle.path_states.proofs.active.try_asking.Goals as goal

pub returns : goal.returns
returns c = λ numbers sorted index kind is.
    let names = c.args.steps.now.names.items in
    gains_asking c.args.tree.now names numbers c.args.branches.now c.asking-named.result.now c.asking-others.result.now sorted index.named index.apart kind c.args.name is
    c.asking-named.ensures.of c.asking-others.ensures.of (c.asking-named.ensures.all sorted.rise)
    (λ b i e. c.asking-others.ensures.all sorted.rise b i (e ∙ (sym c.args.steps.now.names.ok.0 ∙ sym c.len.ensures)))
    c.args.active.now.items c.try_all.new.active.items c.try_all-2.new.active.items (c.in_ok-try_all.ensures index kind is) (c.in_ok-try_all-2.ensures index kind is)
