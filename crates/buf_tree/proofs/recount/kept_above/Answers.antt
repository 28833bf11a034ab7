use Rattle.std.proofs.Common.{sym, ◌∙◌, ap}
use Rattle.std.specs.Prelude.{option_map}
use Rattle.node_store.specs.declared.store.Place.{Place}
use Rattle.node_store.specs.Rows.{parent_of}
use Rattle.buf_tree.specs.Row.{Row}
use Rattle.buf_tree.proofs.Above.{ascent_start, ascent_found, ascent_on}
use Rattle.buf_tree.proofs.Climbing.{low_up, used_on}
use Rattle.buf_tree.proofs.recount.kept_above.Goals as goal

pub up-init : goal.up-init
up-init g c = record {
  used = used_on _ c.parent-at.result c.parent-at.ensures.in_use;
  walk = λ h i e. ascent_start _ c.requires.shape c.requires.nested _ h i _ (c.parent-at.ensures.value ∙ ap (parent_of (g.N.NodeStore.rows c.args.nodes.now)) (sym e));
}

pub returns-then-has : goal.returns-then-has
returns-then-has g c h i e =
    let f = ascent_found _ c.requires.shape c.requires.nested _ h i _ (rw c.in-Some.is at (c.up.invariant.walk h i e)) _ c.payload-row.ensures (sym c.has.ensures ∙ c.if-has.true) in
    (f.0, f.1, ap (λ (r : Row). r.serial) f.2 ∙ sym c.serial.ensures, f.3, f.4)

pub up-smaller : goal.up-smaller
up-smaller g c = rw c.in-Some.is (low_up _ c.requires.shape _ (c.up.invariant.used _ (ap (option_map (λ (p : Place). p.0)) c.in-Some.is)) _ c.parent-at-in-Some.ensures.value)

pub up-preserved : goal.up-preserved
up-preserved g c = record {
  used = used_on _ c.parent-at-in-Some.result c.parent-at-in-Some.ensures.in_use;
  walk = λ h i e. ascent_on _ c.requires.shape c.requires.nested _ h i _ (rw c.in-Some.is at (c.up.invariant.walk h i e)) _ c.payload-row.ensures (sym c.has.ensures ∙ c.if-has.false) _ c.parent-at-in-Some.ensures.value;
}

pub returns : goal.returns
returns g c h i e = rw c.in_default.is at (c.up.invariant.walk h i e)
