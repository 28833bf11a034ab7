use Rattle.std.proofs.Common.{◌≡◌, ◌<◌, ℕ, Option, List, length, take, drop, ◌-◌, refl, sym, ◌∙◌, ap, subst, arith, rules}
use Rattle.gcx_io.specs.Shelf.{Appends, OthersStay}
use Rattle.gcx_io.specs.Views.{ShelfView}
use Rattle.gcx_io.proofs.Written.{on_err}
use Rattle.gcx_io.proofs.Filed.{leaves_same, leaves_on, names_next, into_none, into_next, owes_rest_into}
use Rattle.gcx_io.proofs.shelf.write_file.Goals as goal

pub loop-at-init : goal.loop-at-init
loop-at-init g c =
    let count : length (g.F.Shelf.seen c.args.files.now).given ≡ g.F.Shelf.handles c.args.files.now =
    ap (λ (v : ShelfView). length v.given) (g.met.F.Shelf.sees c.args.files.now) ∙ g.met.F.Shelf.counts c.args.files.now in
    record {
      within = omega arith;
      appends = refl;
      others = λ k within other. leaves_same (g.F.Shelf.named c.args.files.now) (g.F.Shelf.left c.args.files.now) (g.F.Shelf.handles c.args.files.now) c.args.handle.0 k within other;
      handles = refl;
      named = refl;
      later = omega arith;
      reads = refl;
      takes = into_none c.args.handle.0 (g.F.Shelf.seen c.args.files.now) (subst (λ (n : ℕ). c.args.handle.0 < n) (sym count) c.requires);
    }

pub returns-in_err-at-clause-owes : goal.returns-in_err-at-clause-owes
returns-in_err-at-clause-owes g c = on_err _ _ (owes_rest_into _ _ _ _ _ _ _ c.loop-at.invariant.takes c.in_err-at.ensures.takes c.loop-at-test.true)

pub loop-at-preserved : goal.loop-at-preserved
loop-at-preserved g c =
    let named : g.F.Shelf.named c.loop-at.files ≡ g.F.Shelf.named c.args.files.now = c.loop-at.invariant.named in
    let count : g.F.Shelf.handles c.loop-at.files ≡ g.F.Shelf.handles c.args.files.now = c.loop-at.invariant.handles in
    let step : OthersStay (g.F.Shelf.named c.loop-at.files) (g.F.Shelf.left c.loop-at.files) (g.F.Shelf.left c.write.new.self) (g.F.Shelf.handles c.loop-at.files) c.args.handle.0 = c.write.ensures.others in
    let moved : OthersStay (g.F.Shelf.named c.args.files.now) (g.F.Shelf.left c.loop-at.files) (g.F.Shelf.left c.write.new.self) (g.F.Shelf.handles c.args.files.now) c.args.handle.0 =
    subst (λ (n : ℕ). OthersStay (g.F.Shelf.named c.args.files.now) (g.F.Shelf.left c.loop-at.files) (g.F.Shelf.left c.write.new.self) n c.args.handle.0) count
    (subst (λ (f : ℕ → Option (List ℕ)). OthersStay f (g.F.Shelf.left c.loop-at.files) (g.F.Shelf.left c.write.new.self) (g.F.Shelf.handles c.loop-at.files) c.args.handle.0) named step) in
    let bytes : Appends (g.F.Shelf.names c.loop-at.files) (g.F.Shelf.names c.write.new.self) (g.F.Shelf.named c.args.files.now c.args.handle.0) (take c.in_ok-at.field-0 (take (length c.args.bytes.now - c.loop-at.at) (drop c.loop-at.at c.args.bytes.now))) =
    subst (λ (f : ℕ → Option (List ℕ)). Appends (g.F.Shelf.names c.loop-at.files) (g.F.Shelf.names c.write.new.self) (f c.args.handle.0) (take c.in_ok-at.field-0 (take (length c.args.bytes.now - c.loop-at.at) (drop c.loop-at.at c.args.bytes.now)))) named c.in_ok-at.ensures.bytes in
    record {
      within = search rules;
      appends = names_next _ _ _ _ _ _ _ c.loop-at.invariant.appends bytes (search rules) (search rules);
      others = λ k within other. leaves_on (g.F.Shelf.named c.args.files.now) (g.F.Shelf.left c.args.files.now) (g.F.Shelf.left c.loop-at.files) (g.F.Shelf.left c.write.new.self) (g.F.Shelf.handles c.args.files.now)
          c.args.handle.0 c.loop-at.invariant.others moved k within other;
      handles = c.in_ok-at.ensures.handles ∙ count;
      named = c.in_ok-at.ensures.named ∙ named;
      later = search rules;
      reads = c.in_ok-at.ensures.reads ∙ c.loop-at.invariant.reads;
      takes = into_next _ _ _ _ _ _ _ c.loop-at.invariant.takes c.in_ok-at.ensures.takes (search rules) (search rules);
    }
