use Rattle.std.proofs.Common.{◌≡◌, ◌+◌, ◌-◌, ◌/◌, ℕ, suc, List, length, refl, sym, ◌∙◌, ap, subst, arith}
use Rattle.std.specs.Ordering.{nat_cmp}
use Rattle.std.specs.Cmp.Lexicographic.{slice_cmp}
use Rattle.join_index.specs.Rising.{RisesByBytes}
use Rattle.join_index.proofs.Halving.{Halves, half_low, half_high, half_left, half_right, halves_above, halves_below, halves_found, halves_none, one_more, steps_low, kept_at}
use Rattle.join_index.proofs.values.Values.contains.Goals as goal

pub compare-requires : goal.compare-requires
compare-requires c =
    let i = c.halves.invariant in
    let t = i.taken in
    let r = c.requires in
    let k = c.len-to.ensures in
    let n = c.len-to.auto in
    let w : length c.self.inside.texts.items ≡ length c.args.self.now = ap length c.self.view_is in
    let l = steps_low (length c.args.self.now) i.steps (omega arith) i.enough in
    omega arith

pub returns-in-Equal-clause-found : goal.returns-in-Equal-clause-found
returns-in-Equal-clause-found c =
    let h = c.halves.invariant in
    let k = kept_at c.self.inside.texts.items c.args.self.now c.self.view_is (c.halves.from + (c.halves.to - c.halves.from) / 2) c.index.result.now c.index.ensures (half_high c.halves.from c.halves.to c.halves-test.true) h.most in (
      (λ e. halves_found c.args.self.now (subst (λ (x : List (List ℕ)). RisesByBytes x) c.self.view_is c.self.invariant) c.args.value.now c.halves.from c.halves.to c.args.probes.now c.halves.probes h c.halves-test.true
          (c.halves.from + (c.halves.to - c.halves.from) / 2) (half_low c.halves.from c.halves.to) (half_high c.halves.from c.halves.to c.halves-test.true)
          (ap (λ (x : List ℕ). slice_cmp nat_cmp x c.args.value.now) (sym k) ∙ sym c.in-Equal.ensures.order)),
      (λ i. refl),
    )

pub returns-in-Equal-clause-steps : goal.returns-in-Equal-clause-steps
returns-in-Equal-clause-steps c =
    let h = c.halves.invariant in
    let o = c.in-Equal.ensures.one in
    let t = h.taken in
    (suc h.steps, omega arith, one_more c.args.self.now (subst (λ (x : List (List ℕ)). RisesByBytes x) c.self.view_is c.self.invariant) c.args.value.now c.halves.from c.halves.to c.args.probes.now c.halves.probes h c.halves-test.true)

pub halves-preserved-in-Less : goal.halves-preserved-in-Less
halves-preserved-in-Less c =
    let h = c.halves.invariant in
    let k = kept_at c.self.inside.texts.items c.args.self.now c.self.view_is (c.halves.from + (c.halves.to - c.halves.from) / 2) c.index.result.now c.index.ensures (half_high c.halves.from c.halves.to c.halves-test.true) h.most in
    subst (λ (x : ℕ). Halves c.args.self.now c.args.value.now (c.halves.from + (c.halves.to - c.halves.from) / 2 + 1) c.halves.to c.args.probes.now x) (sym c.in-Less.ensures.one)
    (halves_above c.args.self.now (subst (λ (x : List (List ℕ)). RisesByBytes x) c.self.view_is c.self.invariant) c.args.value.now c.halves.from c.halves.to c.args.probes.now c.halves.probes h c.halves-test.true
    (c.halves.from + (c.halves.to - c.halves.from) / 2) (half_low c.halves.from c.halves.to) (half_high c.halves.from c.halves.to c.halves-test.true)
    (ap (λ (x : List ℕ). slice_cmp nat_cmp x c.args.value.now) (sym k) ∙ sym c.in-Less.ensures.order) (half_left c.halves.from c.halves.to))

pub halves-preserved : goal.halves-preserved
halves-preserved c =
    let h = c.halves.invariant in
    let k = kept_at c.self.inside.texts.items c.args.self.now c.self.view_is (c.halves.from + (c.halves.to - c.halves.from) / 2) c.index.result.now c.index.ensures (half_high c.halves.from c.halves.to c.halves-test.true) h.most in
    subst (λ (x : ℕ). Halves c.args.self.now c.args.value.now c.halves.from (c.halves.from + (c.halves.to - c.halves.from) / 2) c.args.probes.now x) (sym c.in-Greater.ensures.one)
    (halves_below c.args.self.now (subst (λ (x : List (List ℕ)). RisesByBytes x) c.self.view_is c.self.invariant) c.args.value.now c.halves.from c.halves.to c.args.probes.now c.halves.probes h c.halves-test.true
    (c.halves.from + (c.halves.to - c.halves.from) / 2) (half_low c.halves.from c.halves.to) (half_high c.halves.from c.halves.to c.halves-test.true)
    (ap (λ (x : List ℕ). slice_cmp nat_cmp x c.args.value.now) (sym k) ∙ sym c.in-Greater.ensures.order) (half_right c.halves.from c.halves.to))

pub returns-clause-found : goal.returns-clause-found
returns-clause-found c =
    ((λ e. absurd (cc)), (λ i. absurd (halves_none c.args.self.now c.args.value.now c.halves.from c.halves.to c.args.probes.now c.halves.probes c.halves.invariant (let f = c.halves-test.false in omega arith) i)))
