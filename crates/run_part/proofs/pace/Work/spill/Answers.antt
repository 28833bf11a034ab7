use Rattle.std.proofs.Common.{◌≡◌, ◌++◌, ℕ, true, false, List, Option, length, ap, refl, rules, subst, sym}
use Rattle.outside.specs.Places.{Few, Spilled}
use Rattle.run_part.proofs.InOrder.{lines_stay, order_none, output_order}
use Rattle.run_part.proofs.pace.Work.spill.Goals as goal

-- behind a call that writes all, no more waits than may behind this one
pub returns-then-not-may_wait-clause-few : goal.returns-then-not-may_wait-clause-few
returns-then-not-may_wait-clause-few g c =
    let z = c.spill_all.new.to in
    let few = c.spill_all.ensures.few in
    (g.met.O.Outside.most_less z (length c.spill_all.new.self.out.items) few.0, g.met.O.Outside.most_less z (length (g.L.Lines.seen c.spill_all.new.lines).waits) few.1)

pub spill-requires : goal.spill-requires
spill-requires g c = subst (λ (n : ℕ). g.O.Outside.may c.args.to.now n) (sym c.output_place.ensures) c.requires.out

pub returns-clause-flows : goal.returns-clause-flows
returns-clause-flows g c =
    let l = g.L.Lines.seen c.args.lines.now in
    let a = g.O.Outside.sinks c.args.to.now in
    let b = g.O.Outside.sinks c.spill.new.self in
    let out = c.args.self.now.out.items in
    let left = c.spill.new.waiting.items in
    let s : Spilled l.output_at a b out left = subst (λ (n : ℕ). Spilled n a b out left) c.output_place.ensures c.spill.ensures.spilled in
    record { out = s.flows; trace = ap (λ (k : List ℕ). k ++ l.waits) (lines_stay a b l out left (g.met.L.Lines.apart c.args.lines.now) s) }

-- the lines may wait still
pub returns-clause-few : goal.returns-clause-few
returns-clause-few g c =
    let v = c.args.to.now in
    let m = c.spill.new.self in
    let l = g.L.Lines.seen c.args.lines.now in
    let wait : c.may_wait.result ≡ true = search rules in
    let still : g.O.Outside.most m false ≡ g.O.Outside.most v false = g.met.O.Outside.keeps_most v m false (g.met.O.Outside.writes_keeps v m c.spill.ensures.writes) in
    (c.spill.ensures.few, subst (λ (k : Option ℕ). Few k (length l.waits)) (sym still) (c.may_wait.ensures wait))

pub returns-clause-others : goal.returns-clause-others
returns-clause-others g c = λ k far off.
    let l = g.L.Lines.seen c.args.lines.now in
    let a = g.O.Outside.sinks c.args.to.now in
    let b = g.O.Outside.sinks c.spill.new.self in
    let out = c.args.self.now.out.items in
    let left = c.spill.new.waiting.items in
    let s : Spilled l.output_at a b out left = subst (λ (n : ℕ). Spilled n a b out left) c.output_place.ensures c.spill.ensures.spilled in
    s.others k far

pub returns-clause-order : goal.returns-clause-order
returns-clause-order g c = λ none base0 base1 bytes ls f i.
    let v = c.args.to.now in
    let m = c.spill.new.self in
    let l = g.L.Lines.seen c.args.lines.now in
    let a = g.O.Outside.sinks v in
    let b = g.O.Outside.sinks m in
    let out = c.args.self.now.out.items in
    let left = c.spill.new.waiting.items in
    let s : Spilled l.output_at a b out left = subst (λ (n : ℕ). Spilled n a b out left) c.output_place.ensures c.spill.ensures.spilled in
    let wrote = g.met.O.Outside.writes_wrote v m c.spill.ensures.writes in
    order_none b l base0 base1 ls (output_order a b (g.O.Outside.broken v) (g.O.Outside.broken m) l out left (g.met.L.Lines.apart c.args.lines.now) wrote s base0 base1 ls i)

pub returns-clause-places : goal.returns-clause-places
returns-clause-places g c = record { output_is = refl; lines_is = refl }
