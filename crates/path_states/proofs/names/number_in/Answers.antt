use Rattle.std.proofs.Common.{◌+◌, ◌-◌, ◌/◌, ℕ, List, length, refl, sym, ◌∙◌, ap, arith}
use Rattle.std.specs.Cmp.Lexicographic.{slice_cmp}
use Rattle.std.specs.Ordering.{nat_cmp}
use Rattle.path_states.proofs.Looking.{read_at}
use Rattle.path_states.proofs.Naming.{above_middle, below_middle, number_here, number_none}
use Rattle.path_states.proofs.names.number_in.Goals as goal

pub halves-preserved-in-Less : goal.halves-preserved-in-Less
halves-preserved-in-Less c =
    let low = c.halves.low in
    let high = c.halves.high in
    let middle = low + (high - low) / 2 in
    let here = c.index-names-middle.result in
    let within = c.halves.invariant.0 in
    let test = c.halves-test.true in
    let at = read_at c.args.names.now middle here (omega arith) c.index-names-middle.is in
    let is = ap (λ (z : List ℕ). slice_cmp nat_cmp z c.args.name.now) (sym c.as_bytes.ensures.bytes) ∙ (sym c.order.ensures ∙ c.in-Less.is) in
    (within, λ up. above_middle c.args.names.now c.args.name.now here low high middle up (c.halves.invariant.1 up) at is)

pub returns-in-Equal : goal.returns-in-Equal
returns-in-Equal c =
    let low = c.halves.low in
    let high = c.halves.high in
    let middle = low + (high - low) / 2 in
    let here = c.index-names-middle.result in
    let within = c.halves.invariant.0 in
    let test = c.halves-test.true in
    let at = read_at c.args.names.now middle here (omega arith) c.index-names-middle.is in
    let is = ap (λ (z : List ℕ). slice_cmp nat_cmp z c.args.name.now) (sym c.as_bytes.ensures.bytes) ∙ (sym c.order.ensures ∙ c.in-Equal.is) in
    λ up. number_here c.args.names.now c.args.name.now here middle at is

pub halves-preserved : goal.halves-preserved
halves-preserved c =
    let low = c.halves.low in
    let high = c.halves.high in
    let middle = low + (high - low) / 2 in
    let here = c.index-names-middle.result in
    let within = c.halves.invariant.0 in
    let test = c.halves-test.true in
    let at = read_at c.args.names.now middle here (omega arith) c.index-names-middle.is in
    let is = ap (λ (z : List ℕ). slice_cmp nat_cmp z c.args.name.now) (sym c.as_bytes.ensures.bytes) ∙ (sym c.order.ensures ∙ c.in-Greater.is) in
    (omega arith, λ up. below_middle c.args.names.now c.args.name.now here low high middle up (c.halves.invariant.1 up) at is)

pub returns : goal.returns
returns c = λ up. number_none c.args.names.now c.args.name.now c.halves.low c.halves.high (length c.args.names.now) (c.halves.invariant.1 up) c.halves-test.false refl
