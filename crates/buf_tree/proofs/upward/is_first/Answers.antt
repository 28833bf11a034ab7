use Rattle.std.proofs.Common.{arith, sym, ◌∙◌, ap, refl, Some, ℕ}
use Rattle.std.specs.Prelude.{option_map}
use Rattle.std.proofs.lemmas.Bool.{false≢true}
use Rattle.node_store.specs.declared.store.Place.{Place}
use Rattle.buf_tree.specs.Shape.{cells}
use Rattle.buf_tree.specs.Walk.{Inside}
use Rattle.buf_tree.proofs.Kin.{row_of_place}
use Rattle.buf_tree.proofs.Going.{high_less}
use Rattle.buf_tree.proofs.Climbing.{used_start}
use Rattle.buf_tree.proofs.Passing.{all_start, all_on, passing_start, passing_found, passing_lost, passing_on, used_behind}
use Rattle.buf_tree.proofs.upward.is_first.Goals as goal

pub rows-init : goal.rows-init
rows-init g c = record {
  used = λ p e. used_start _ _ p c.requires.from e;
  room = omega arith;
  within = all_start _ c.requires.shape c.requires.nested c.args.from.0;
  walk = λ a n u v i. passing_start _ c.requires.shape c.requires.nested a n c.args.steps.now c.args.from.0 c.args.place.0 u v i;
}

pub returns-then-is_same-clause-first : goal.returns-then-is_same-clause-first
returns-then-is_same-clause-first g c a n u v i = (
  (λ _. passing_found _ c.requires.shape c.requires.nested a n c.args.steps.now c.args.from.0 c.args.place.0 u v i _ (sym c.is_same.ensures ∙ c.if-is_same.true) (rw c.in-Some.is at (c.rows.invariant.walk a n u v i))),
  (λ _. refl),
)

pub returns-then-leads-clause-first : goal.returns-then-leads-clause-first
returns-then-leads-clause-first g c a n u v i = (
  (λ e. absurd (false≢true e)),
  (λ none. passing_lost _ c.requires.shape c.requires.nested a n c.args.steps.now c.args.from.0 c.args.place.0 u v i _ (sym c.is_same.ensures ∙ c.if-is_same.false) (rw c.in-Some.is at c.rows.invariant.within) (rw c.in-Some.is at (c.rows.invariant.walk a n u v i))
      (λ j w k. sym c.if-leads.true ∙ c.leads.ensures.leads a j u w) none),
)

pub after-at-requires-clause-within : goal.after-at-requires-clause-within
after-at-requires-clause-within g c x h i j e f = c.rows.invariant.within x h i j e (ap (option_map (λ (p : Place). p.0)) c.in-Some.is ∙ ap (λ (q : ℕ). Some q) (sym f))

pub rows-smaller : goal.rows-smaller
rows-smaller g c =
    let d = row_of_place _ _ c.requires.shape _ c.requires.from in
    let h = row_of_place _ _ c.requires.shape _ (c.rows.invariant.used _ (ap (option_map (λ (p : Place). p.0)) c.in-Some.is)) in
    rw c.in-Some.is (high_less _ c.requires.shape (Inside (cells (g.N.NodeStore.rows c.args.nodes.now)) d.0) h.0 h.1 _ h.2 _ (c.after-at.ensures d.0 h.0 d.1 h.1 d.2 h.2))

pub rows-preserved : goal.rows-preserved
rows-preserved g c =
    let d = row_of_place _ _ c.requires.shape _ c.requires.from in
    let h = row_of_place _ _ c.requires.shape _ (c.rows.invariant.used _ (ap (option_map (λ (p : Place). p.0)) c.in-Some.is)) in
    let b = c.after-at.ensures d.0 h.0 d.1 h.1 d.2 h.2 in
    record {
      used = used_behind _ c.requires.shape _ _ _ b;
      room = omega (arith, c.rows.invariant.room, c.leads.ensures.room);
      within = all_on _ c.requires.shape c.requires.nested d.0 h.0 c.args.from.0 _ d.1 d.2 b;
      walk = λ a n u v i. passing_on _ c.requires.shape c.requires.nested a n c.args.steps.now c.args.from.0 c.args.place.0 u v i _ (sym c.is_same.ensures ∙ c.if-is_same.false) (rw c.in-Some.is at c.rows.invariant.within) (rw c.in-Some.is at (c.rows.invariant.walk a n u v i))
          (λ j w k. sym c.if-leads.false ∙ c.leads.ensures.leads a j u w) _ c.after-at.ensures;
    }
