use Rattle.std.proofs.Common.{◌-◌, ◌∙◌, ap, arith}
use Rattle.var_tree.specs.Facts.{facts_of}
use Rattle.var_tree.proofs.Reading.{known_at}
use Rattle.var_tree.proofs.facts_at.Goals as goal

pub returns-in-Some : goal.returns-in-Some
returns-in-Some c =
    ap facts_of c.in-Some.ensures.lookup.1
    ∙ known_at c.args.known.now c.args.var.0 (c.args.var.0 - 1) c.in-Some.facts.now (omega (arith, c.if-var-eq0.false)) c.in-Some.ensures.lookup.3.0
