use Rattle.std.proofs.Common.{arith, sym, ◌∙◌, ap, subst, refl, length, List, Bool, false, ◌≡◌, ◌&&◌, set, Vec, Global, get_or}
use Rattle.std.specs.Prelude.{option_map}
use Rattle.std.proofs.lemmas.List.{length-set}
use Rattle.std.proofs.lemmas.Bool.{false≢true, and_right}
use Rattle.gcx_model.specs.ItemView.{role_kind}
use Rattle.gcx_base.specs.declared.steps.Step.{Step}
use Rattle.node_store.specs.declared.store.Place.{Place}
use Rattle.buf_tree.specs.Ways.{Flags, is_waiting, tail_ends, tail_steps, ends_at}
use Rattle.buf_tree.proofs.Climbing.{low_up, refilled, tells_descends, used_start, used_on, flags_count}
use Rattle.buf_tree.proofs.Kept.{keeping_start, keeping_found, keeping_on}
use Rattle.buf_tree.proofs.upward.is_kept.Goals as goal
use Rattle.buf_tree.proofs.upward.is_kept.Goals.{else-set_last-via-then-set_last+else-is_waiting, else-set_last-via-else-set_last}

pub up-init : goal.up-init
up-init g c =
    let a = rw c.tail_of-tail.ensures at c.begin.ensures.flags in
    let b = rw c.items-rel.ensures at c.begin-2.ensures.flags in
    record {
      used = λ p e. used_start _ _ p c.requires.there e;
      tails_count = flags_count _ _ _ a;
      rels_count = flags_count _ _ _ b;
      tails = c.begin.ensures.room;
      rels = c.begin-2.ensures.room;
      again = omega arith;
      walk = λ T n tree u. rw (a, b) (keeping_start _ c.requires.shape T tree c.args.off.now n _ u);
    }

pub returns-then-is_waiting-clause-kept : goal.returns-then-is_waiting-clause-kept
returns-then-is_waiting-clause-kept g c T n tree v =
    let l = rw c.in-Some.is at (c.up.invariant.walk T n tree v) in
    let x : c.set_last.new.flags ≡ set c.up.trail.rels.items (length c.args.off.now.rel) c.ends_here-end.result =
    c.set_last.ensures.flags
    ∙ ap (λ z. set z (length c.items-rel.result.now) c.ends_here-end.result) (c.deref_mut.ensures.value ∙ ap (λ (w : Vec Bool Global). w.items) c.ends_here-end.ensures.rels)
    ∙ ap (λ (z : List Step). set c.up.trail.rels.items (length z) c.ends_here-end.result) c.items-rel.ensures in (
      (λ _. keeping_found _ c.requires.shape T tree c.args.off.now n _ c.args.place.0 v _ _ l c.ends_here-end.result (c.ends_here-end.ensures.ends T l.0 n tree l.1 v l.2 l.3) _ c.payload-row.ensures
          (ap (λ z. get_or z 0 false) (sym x) ∙ sym c.set_last.ensures.first ∙ c.if-set_last.true) (sym c.is_waiting.ensures ∙ c.if-is_waiting.true)),
      (λ _. refl),
    )

pub up-smaller : goal.up-smaller
up-smaller g c = rw c.in-Some.is (low_up _ c.requires.shape _ (c.up.invariant.used _ (ap (option_map (λ (p : Place). p.0)) c.in-Some.is)) _ c.parent-at.ensures.value)

pub up-preserved : goal.up-preserved
up-preserved g c =
    let tails = ap (λ (w : Vec Bool Global). w.items) c.ends_here-end.ensures.tails in
    let rels = ap (λ (w : Vec Bool Global). w.items) c.ends_here-end.ensures.rels in
    let x : c.set_last.new.flags ≡ set c.up.trail.rels.items (length c.args.off.now.rel) c.ends_here-end.result =
    c.set_last.ensures.flags
    ∙ ap (λ z. set z (length c.items-rel.result.now) c.ends_here-end.result) (c.deref_mut.ensures.value ∙ rels)
    ∙ ap (λ (z : List Step). set c.up.trail.rels.items (length z) c.ends_here-end.result) c.items-rel.ensures in
    let one = c.go_up.ensures.count ∙ c.deref_mut-in-Some.ensures.len ∙ c.ends_here-end.new.trail.tails.ok.0 in
    let e = refilled c.ends_here-end.new.trail.tails.items c.go_up.new.flags c.ends_here-end.new.trail.tails.len c.ends_here-end.new.trail.tails.ok.0 one in
    let two : length c.set_last.new.flags ≡ length c.ends_here-end.new.trail.rels.items = ap length x ∙ length-set c.up.trail.rels.items (length c.args.off.now.rel) c.ends_here-end.result ∙ sym (ap length rels) in
    let f = refilled c.ends_here-end.new.trail.rels.items c.set_last.new.flags c.ends_here-end.new.trail.rels.len c.ends_here-end.new.trail.rels.ok.0 two in
    let long = c.ends_here-end.new.trail.rels.ok.0 ∙ sym two in
    let three = c.go_up-in-Some.ensures.count ∙ c.deref_mut-in-Some-2.ensures.len ∙ long in
    let h = refilled c.set_last.new.flags c.go_up-in-Some.new.flags c.ends_here-end.new.trail.rels.len long three in
    let none : (c.set_last.result && is_waiting c.payload-row.result.now c.args.off.now) ≡ false =
    elim c.else-set_last.branch [
      | else-set_last-via-then-set_last+else-is_waiting w ↦ and_right _ _ (sym w.is_waiting.ensures ∙ w.if-is_waiting.false)
      | else-set_last-via-else-set_last w ↦ ap (λ z. z && is_waiting c.payload-row.result.now c.args.off.now) w.if-set_last.false
    ] in
    let up_tails = rw (c.tail_of-tail.ensures, c.kind.ensures) at c.go_up.ensures.flags in
    let up_rels = rw (c.items-rel.ensures, c.kind-in-Some.ensures) at c.go_up-in-Some.ensures.but in
    record {
      used = used_on _ c.parent-at.result c.parent-at.ensures.in_use;
      tails_count = rw e (one ∙ ap length tails ∙ c.up.invariant.tails_count);
      rels_count = rw (f, h) (three ∙ two ∙ ap length rels ∙ c.up.invariant.rels_count);
      tails = omega (arith, c.up.invariant.tails, ap (λ (w : Vec Bool Global). w.cap) c.ends_here-end.ensures.tails);
      rels = omega (arith, c.up.invariant.rels, ap (λ (w : Vec Bool Global). w.cap) c.ends_here-end.ensures.rels);
      again = omega (arith, c.up.invariant.again, c.ends_here-end.ensures.room);
      walk = λ T n tree v.
          let l = rw c.in-Some.is at (c.up.invariant.walk T n tree v) in
          let d = tells_descends _ v.cell n v.tells in
          rw (e, f, h) (keeping_on _ c.requires.shape T tree c.args.off.now n _ c.args.place.0 v c.up.trail.tails.items c.up.trail.rels.items l c.ends_here-end.result (c.ends_here-end.ensures.ends T l.0 n tree l.1 v l.2 l.3)
          _ c.parent-at.ensures.value _ c.payload-row.ensures
          (ap (λ z. get_or z 0 false && is_waiting c.payload-row.result.now c.args.off.now) (sym x) ∙ ap (λ z. z && is_waiting c.payload-row.result.now c.args.off.now) (sym c.set_last.ensures.first) ∙ none)
          c.go_up.new.flags c.go_up-in-Some.new.flags
          (λ p k i z w. up_tails (tail_ends (role_kind c.args.off.now.kind) n) n p k d i (c.is_whole.ensures ∙ z)
          (subst (λ (y : List Bool). Flags (tail_ends (role_kind c.args.off.now.kind) n) k (tail_steps (role_kind c.args.off.now.kind) c.args.off.now.tail) n y) (sym (c.deref_mut-in-Some.ensures.value ∙ tails)) w))
          (λ p k i w. up_rels (ends_at T (role_kind c.args.off.now.kind) c.args.off.now.tail n) n p k d i
          (subst (λ (y : List Bool). Flags (ends_at T (role_kind c.args.off.now.kind) c.args.off.now.tail n) k c.args.off.now.rel n y) (sym (c.deref_mut-in-Some-2.ensures.value ∙ f ∙ x)) w)));
    }

pub returns-clause-kept : goal.returns-clause-kept
returns-clause-kept g c T n tree v = (
  (λ e. absurd (false≢true e)),
  (λ k. absurd ((rw c.in_default.is at (c.up.invariant.walk T n tree v)) k)),
)
