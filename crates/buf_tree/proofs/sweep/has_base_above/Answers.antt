use Rattle.std.proofs.Common.{sym, ◌∙◌, ap, refl}
use Rattle.std.specs.Prelude.{option_map}
use Rattle.std.proofs.lemmas.Bool.{false≢true}
use Rattle.node_store.specs.declared.store.Place.{Place}
use Rattle.node_store.specs.Rows.{parent_of}
use Rattle.buf_tree.proofs.Climbing.{low_up, used_on}
use Rattle.buf_tree.proofs.OtherBases.{upwards_start, upwards_found, upwards_on}
use Rattle.buf_tree.proofs.sweep.has_base_above.Goals as goal

pub up-init : goal.up-init
up-init g c = record {
  used = used_on _ c.parent-at.result c.parent-at.ensures.in_use;
  walk = λ h i e. upwards_start _ c.requires.shape c.requires.nested c.args.off.now h i _ (c.parent-at.ensures.value ∙ ap (parent_of (g.N.NodeStore.rows c.args.nodes.now)) (sym e));
}

pub returns-then-is_waiting : goal.returns-then-is_waiting
returns-then-is_waiting g c h i e = (
  (λ _. upwards_found _ c.requires.shape c.requires.nested c.args.off.now h _ (rw c.in-Some.is at (c.up.invariant.walk h i e)) _ c.payload.ensures (sym c.is_waiting.ensures ∙ c.if-is_waiting.true)),
  (λ _. refl),
)

pub up-smaller : goal.up-smaller
up-smaller g c = rw c.in-Some.is (low_up _ c.requires.shape _ (c.up.invariant.used _ (ap (option_map (λ (p : Place). p.0)) c.in-Some.is)) _ c.parent-at-in-Some.ensures.value)

pub up-preserved : goal.up-preserved
up-preserved g c = record {
  used = used_on _ c.parent-at-in-Some.result c.parent-at-in-Some.ensures.in_use;
  walk = λ h i e. upwards_on _ c.requires.shape c.requires.nested c.args.off.now h i _ (rw c.in-Some.is at (c.up.invariant.walk h i e)) _ c.payload.ensures (sym c.is_waiting.ensures ∙ c.if-is_waiting.false) _ c.parent-at-in-Some.ensures.value;
}

pub returns : goal.returns
returns g c h i e = (
  (λ z. absurd (false≢true z)),
  (λ b. absurd ((rw c.in_default.is at (c.up.invariant.walk h i e)) b)),
)
