use Rattle.std.proofs.Common.{◌≡◌, ℕ, suc, ◌+◌, sym, ◌∙◌, ap, subst, arith}
use Rattle.std.specs.Str.{bytes_eq}
use Rattle.gcx_io.specs.Held.{File}
use Rattle.gcx_io.proofs.Places.{Passes, passes_on, found_at, not_found}
use Rattle.gcx_io.proofs.files.find.Goals as goal

pub returns-then-eq : goal.returns-then-eq
returns-then-eq c =
    let name : c.as_bytes.result.now ≡ c.index-entries-i.result.name = c.as_bytes.ensures.bytes ∙ ap (λ (f : File). f.name) c.entry.view_is in
    found_at c.args.name.now c.args.entries.now c.loop-i.i c.index-entries-i.result c.loop-i.invariant c.loop-i-test.true c.index-entries-i.is
    (ap (λ n. bytes_eq n c.args.name.now) (sym name) ∙ sym c.eq.ensures ∙ c.if-eq.true)

pub returns : goal.returns
returns c = not_found c.args.name.now c.args.entries.now c.loop-i.i c.loop-i-test.false c.loop-i.invariant

pub loop-i-preserved : goal.loop-i-preserved
loop-i-preserved c =
    let name : c.as_bytes.result.now ≡ c.index-entries-i.result.name = c.as_bytes.ensures.bytes ∙ ap (λ (f : File). f.name) c.entry.view_is in
    let next : suc c.loop-i.i ≡ c.loop-i.i + 1 = omega arith in
    subst (λ (k : ℕ). Passes c.args.name.now c.args.entries.now k) next
    (passes_on c.args.name.now c.args.entries.now c.loop-i.i c.index-entries-i.result c.loop-i.invariant c.loop-i-test.true c.index-entries-i.is
    (ap (λ n. bytes_eq n c.args.name.now) (sym name) ∙ sym c.eq.ensures ∙ c.if-eq.false))
