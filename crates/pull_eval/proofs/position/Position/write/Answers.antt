use Rattle.std.proofs.Common.{◌++◌, refl, sym, ◌∙◌, ap, subst, length}
use Rattle.gcx_model.specs.Core.{Write}
use Rattle.pull_eval.specs.Position.{items}
use Rattle.pull_eval.specs.Acting.{IsNextItem}
use Rattle.pull_eval.proofs.Turning.{written}
use Rattle.pull_eval.proofs.position.Position.write.Goals as goal

pub returns-clause-moved : goal.returns-clause-moved
returns-clause-moved c = λ v past k b.
    let next : IsNextItem c.args.self.now (Write c.args.text.now) (items c.go_on.new.self.rest.now) = subst (λ (z : _). IsNextItem c.args.self.now (Write c.args.text.now) (items z)) (sym c.go_on.ensures.rest) c.requires.next in
    let x = written c.args.self.now _ v past k b (record { env = refl; copying = refl; turns = refl; begun = c.requires.begun }) c.requires.begun c.args.text.now next c.go_on.ensures.round c.go_on.ensures.seen refl in
    (c.args.text.now, x.0, ap length c.as_bytes-bytes.ensures.bytes, c.in_ok-extend_from_slice.ensures.items ∙ ap (λ (z : _). c.args.out.now.items ++ z) c.as_bytes-bytes.ensures.bytes, refl, x.1)
