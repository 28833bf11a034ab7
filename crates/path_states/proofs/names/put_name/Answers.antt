use Rattle.std.proofs.Common.{◌≡◌, ℕ, List, sym, ◌∙◌, ap}
use Rattle.gcx_base.specs.declared.steps.Test.TheVariants.{Named}
use Rattle.path_states.proofs.Gaining.{gains_none, gains_push}
use Rattle.path_states.proofs.names.put_name.Goals as goal

pub returns-in_ok-push-in-Named : goal.returns-in_ok-push-in-Named
returns-in_ok-push-in-Named c = gains_push c.args.names.now.items c.push.new.self.items c.in_ok-copied-in-Named.copied (λ (name : List ℕ). c.args.test.now ≡ Named name) c.in_ok-push-in-Named.ensures.items
    (c.in-Named.is ∙ ap Named (sym c.in_ok-copied-in-Named.ensures)) (λ y e. let f : Named c.in-Named.name ≡ Named y = sym c.in-Named.is ∙ e in let g : c.in-Named.name ≡ y = cc in c.in_ok-copied-in-Named.ensures ∙ g)

pub returns-in-AnyElement : goal.returns-in-AnyElement
returns-in-AnyElement c = gains_none c.args.names.now.items (λ (name : List ℕ). c.args.test.now ≡ Named name) (λ y e. let f = sym c.in-AnyElement.is ∙ e in absurd (cc))

pub returns-in-AnyText : goal.returns-in-AnyText
returns-in-AnyText c = gains_none c.args.names.now.items (λ (name : List ℕ). c.args.test.now ≡ Named name) (λ y e. let f = sym c.in-AnyText.is ∙ e in absurd (cc))

pub returns-in-AnyNode : goal.returns-in-AnyNode
returns-in-AnyNode c = gains_none c.args.names.now.items (λ (name : List ℕ). c.args.test.now ≡ Named name) (λ y e. let f = sym c.in-AnyNode.is ∙ e in absurd (cc))
