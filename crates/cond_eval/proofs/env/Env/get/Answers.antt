use Rattle.std.proofs.Common.{None, sym, ap, ◌∙◌}
use Rattle.std.specs.FinMap as map
use Rattle.cond_eval.proofs.Variables.{pair_in, got, got_none}
use Rattle.cond_eval.proofs.env.Env.get.Goals as goal

pub returns-in_default : goal.returns-in_default
returns-in_default c = got_none c.self.inside.nodes.items c.deref.result.now c.args.var.0 c.deref.ensures.value c.in_default.ensures.lookup.3 ∙ ap (λ m. map.get m c.args.var.0) c.self.view_is

pub returns-in_default-cell : goal.returns-in_default-cell
returns-in_default-cell c =
    let h = c.in-Some.ensures.lookup in
    ap pair_in (sym c.in_default-cell.is) ∙ (got c.self.inside.nodes.items c.deref.result.now c.args.var.0 c.in-Some.cell.now c.deref.ensures.value h.3.0 (h.3.1 None) ∙ ap (λ m. map.get m c.args.var.0) c.self.view_is)

pub returns : goal.returns
returns c =
    let h = c.in-Some.ensures.lookup in
    ap pair_in (sym c.in-Some-cell.is) ∙ (got c.self.inside.nodes.items c.deref.result.now c.args.var.0 c.in-Some.cell.now c.deref.ensures.value h.3.0 (h.3.1 None) ∙ ap (λ m. map.get m c.args.var.0) c.self.view_is)
