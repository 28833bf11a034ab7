use Rattle.std.proofs.Common.{arith, sym, ◌∙◌, ap, subst, refl, inl, List, Bool, true, false, ◌≡◌, ◌&&◌}
use Rattle.std.specs.Prelude.{option_map}
use Rattle.std.proofs.lemmas.Bool.{false≢true, eq-eqb, ne_eqb, and_right}
use Rattle.gcx_model.specs.Tree.{Under, serial_of}
use Rattle.node_store.specs.declared.store.Place.{Place}
use Rattle.buf_tree.specs.Ways.{Descends, Flags, is_same, is_waiting}
use Rattle.buf_tree.proofs.Climbing.{low_up, refilled, tells_descends, used_start, used_on, flags_count}
use Rattle.buf_tree.proofs.Hitting.{hitting_start, hitting_lost, hitting_found, hitting_on}
use Rattle.buf_tree.proofs.Ways.{any_default, flags_start}
use Rattle.buf_tree.proofs.tops.is_hit.Goals as goal
use Rattle.buf_tree.proofs.tops.is_hit.Goals.{else-index-via-then-index+else-is_waiting, else-index-via-else-index}

pub up-init : goal.up-init
up-init g c =
    let blank = rw c.items-steps.ensures at c.begin.ensures.flags in
    let same = c.go_up.ensures.count ∙ c.deref_mut.ensures.len ∙ c.begin.new.flags.ok.0 in
    let e = refilled c.begin.new.flags.items c.go_up.new.flags c.begin.new.flags.len c.begin.new.flags.ok.0 same in
    let up = rw c.items-steps.ensures at c.go_up.ensures.flags in
    record {
      used = λ q f. used_start _ _ q c.requires.there f;
      count = rw e (same ∙ flags_count _ _ _ blank);
      room = c.begin.ensures.room;
      walk = λ p k u l.
          let d : Descends (Under p k c.args.kind.now) = (l, tells_descends _ u.cell p u.tells) in
          let other : is_same (Under p k c.args.kind.now) p ≡ false = ne_eqb (serial_of p) k (λ z. omega arith) in
          let first = flags_start c.args.top.now.rel (is_same (Under p k c.args.kind.now)) (Under p k c.args.kind.now) d true (sym (eq-eqb k k refl)) in
          rw e (hitting_start _ c.requires.shape c.args.top.now p k c.args.kind.now d c.args.parent.0 c.go_up.new.flags u
          (up (is_same (Under p k c.args.kind.now)) (Under p k c.args.kind.now) p k d (inl refl) (sym other)
          (subst (λ (z : List Bool). Flags (is_same (Under p k c.args.kind.now)) k c.args.top.now.rel (Under p k c.args.kind.now) z) (sym (c.deref_mut.ensures.value ∙ blank)) first)));
    }

pub returns-then-not-has_flag-clause-hit : goal.returns-then-not-has_flag-clause-hit
returns-then-not-has_flag-clause-hit g c p k u l =
    let walk = rw c.in-Some.is at (c.up.invariant.walk p k u l) in
    let none = ap (λ z. z) (sym c.has_flag.ensures ∙ c.if-not-has_flag.true) in (
      (λ z. absurd (false≢true z)),
      (λ h. absurd (hitting_lost _ c.requires.shape c.args.top.now p k c.args.kind.now (l, tells_descends _ u.cell p u.tells) _ c.up.flags.items (rw c.deref.ensures.value at none) walk h)),
    )

pub returns-then-is_waiting-clause-hit : goal.returns-then-is_waiting-clause-hit
returns-then-is_waiting-clause-hit g c p k u l =
    let walk = rw c.in-Some.is at (c.up.invariant.walk p k u l) in
    let flag = sym (any_default c.up.flags.items 0 _ (let n = c.up.invariant.count in omega arith)) ∙ sym c.index.ensures ∙ c.if-index.true in (
      (λ _. hitting_found _ c.requires.shape c.args.top.now p k c.args.kind.now (l, tells_descends _ u.cell p u.tells) _ c.up.flags.items walk _ c.payload-row.ensures flag (sym c.is_waiting.ensures ∙ c.if-is_waiting.true)),
      (λ _. refl),
    )

pub up-smaller : goal.up-smaller
up-smaller g c = rw c.in-Some.is (low_up _ c.requires.shape _ (c.up.invariant.used _ (ap (option_map (λ (o : Place). o.0)) c.in-Some.is)) _ c.parent-at.ensures.value)

pub up-preserved : goal.up-preserved
up-preserved g c =
    let same = c.go_up-in-Some.ensures.count ∙ c.deref_mut-in-Some.ensures.len ∙ c.up.flags.ok.0 in
    let e = refilled c.up.flags.items c.go_up-in-Some.new.flags c.up.flags.len c.up.flags.ok.0 same in
    let up = rw (c.items-steps.ensures, c.kind.ensures) at c.go_up-in-Some.ensures.flags in
    let none : (c.index.result.now && is_waiting c.payload-row.result.now c.args.top.now) ≡ false =
    elim c.else-index.branch [
      | else-index-via-then-index+else-is_waiting w ↦ and_right _ _ (sym w.is_waiting.ensures ∙ w.if-is_waiting.false)
      | else-index-via-else-index w ↦ ap (λ z. z && is_waiting c.payload-row.result.now c.args.top.now) w.if-index.false
    ] in
    record {
      used = used_on _ c.parent-at.result c.parent-at.ensures.in_use;
      count = rw e (same ∙ c.up.invariant.count);
      room = c.up.invariant.room;
      walk = λ p k u l.
          let walk = rw c.in-Some.is at (c.up.invariant.walk p k u l) in
          rw e (hitting_on _ c.requires.shape c.args.top.now p k c.args.kind.now (l, tells_descends _ u.cell p u.tells) _ c.up.flags.items c.go_up-in-Some.new.flags walk _ c.payload-row.ensures
          (ap (λ z. z && is_waiting c.payload-row.result.now c.args.top.now) (sym (any_default c.up.flags.items 0 _ (let n = c.up.invariant.count in omega arith)) ∙ sym c.index.ensures) ∙ none)
          _ c.parent-at.ensures.value
          (λ ends n q s d i f w. up ends n q s d i f (subst (λ (z : List Bool). Flags ends s c.args.top.now.rel n z) (sym c.deref_mut-in-Some.ensures.value) w)));
    }

pub returns-clause-hit : goal.returns-clause-hit
returns-clause-hit g c p k u l = (
  (λ z. absurd (false≢true z)),
  (λ h. absurd ((rw c.in_default.is at (c.up.invariant.walk p k u l)) h)),
)
