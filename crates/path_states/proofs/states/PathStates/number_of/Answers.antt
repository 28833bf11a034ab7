use Rattle.std.proofs.Common.{sym, subst}
use Rattle.gcx_base.specs.declared.kind.Kind.{Kind}
use Rattle.path_states.specs.Names.{IsNameNumber}
use Rattle.path_states.proofs.states.PathStates.number_of.Goals as goal

pub returns-in-Text : goal.returns-in-Text
returns-in-Text c = subst (λ (k : Kind). IsNameNumber c.args.self.now.names k c.text.result) (sym c.in-Text.is) (c.text.ensures c.in-Text.field-0)
