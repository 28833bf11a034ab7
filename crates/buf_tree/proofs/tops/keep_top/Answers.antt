use Rattle.std.proofs.Common.{sym, ◌∙◌, ap, refl}
use Rattle.std.proofs.lemmas.Bool.{false≢true}
use Rattle.role_set.specs.NodeRoles.{NodeSets}
use Rattle.buf_tree.proofs.KeepingTops.{unheld, stays_then, goes_then}
use Rattle.buf_tree.proofs.tops.keep_top.Goals as goal

pub returns-then-not-has-clause-held : goal.returns-then-not-has-clause-held
returns-then-not-has-clause-held g c p k u l stays is = unheld _ _ stays (sym c.has.ensures ∙ c.if-not-has.true)

pub returns-then-is_new_top-clause-held : goal.returns-then-is_new_top-clause-held
returns-then-is_new_top-clause-held g c p k u l stays is = stays_then _ _ _ stays (is.1 ((c.is_new_top.ensures.top p k u l).0 c.if-is_new_top.true)) refl

pub returns-clause-held : goal.returns-clause-held
returns-clause-held g c p k u l stays is = goes_then _ _ _ stays (λ e. false≢true (sym c.if-is_new_top.false ∙ (c.is_new_top.ensures.top p k u l).1 (is.0 e))) (ap (λ (s : NodeSets). s.held) c.take.ensures)
