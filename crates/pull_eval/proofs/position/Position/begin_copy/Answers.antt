use Rattle.std.proofs.Common.{◌≡◌, length, arith, refl, sym, subst}
use Rattle.gcx_model.specs.Core.{Copy}
use Rattle.gcx_model.specs.Tree.{serial_of}
use Rattle.pull_eval.specs.Position.{items}
use Rattle.pull_eval.specs.Acting.{IsNextItem}
use Rattle.pull_eval.proofs.CopyBytes.{counted_by, no_fewer}
use Rattle.pull_eval.proofs.CopySteps.{copied_node, copied_bound, copied_used, copy_begun}
use Rattle.pull_eval.proofs.position.Position.begin_copy.Goals as goal

pub place_of-place-requires : goal.place_of-place-requires
place_of-place-requires g c =
    let b = c.requires.beside in
    let x = copied_bound c.args.self.now c.args.buffer.now b.0 b.1 b.2 c.requires.begun c.args.var.0 (items c.args.rest.now) c.requires.next in
    (serial_of (copied_node c.args.self.now c.args.buffer.now b.0 b.1 b.2 c.requires.begun c.args.var.0 (items c.args.rest.now) c.requires.next), x.place, x.pair)

pub put_begin-requires : goal.put_begin-requires
put_begin-requires g c = let b = c.requires.beside in copied_used c.args.self.now c.args.buffer.now b.0 b.1 b.2 c.requires.begun c.args.var.0 (items c.args.rest.now) c.requires.next c.place_of-place.result c.place_of-place.ensures

pub begun-self-requires : goal.begun-self-requires
begun-self-requires g c = let b = c.requires.beside in copied_used c.args.self.now c.args.buffer.now b.0 b.1 b.2 c.requires.begun c.args.var.0 (items c.args.rest.now) c.requires.next c.place_of-place.result c.place_of-place.ensures

pub wrote-requires : goal.wrote-requires
wrote-requires g c =
    let b = c.requires.beside in
    let u = copied_used c.args.self.now c.args.buffer.now b.0 b.1 b.2 c.requires.begun c.args.var.0 (items c.args.rest.now) c.requires.next c.place_of-place.result c.place_of-place.ensures in
    let before : c.len-before.result ≡ length c.args.out.now.items = omega (arith, c.len-before.ensures, c.args.out.now.ok.0) in
    no_fewer c.len-before.result c.args.out.now.items c.put_begin.new.out.items _ before (c.in_ok-put_begin.ensures.ok u.cell u.among u.place)

pub returns-clause-moved : goal.returns-clause-moved
returns-clause-moved g c = λ past k b.
    let before : c.len-before.result ≡ length c.args.out.now.items = omega (arith, c.len-before.ensures, c.args.out.now.ok.0) in
    let n : IsNextItem c.args.self.now (Copy c.args.var.0) (items c.go_on.new.self.rest.now) = subst (λ (z : _). IsNextItem c.args.self.now (Copy c.args.var.0) (items z)) (sym c.go_on.ensures.rest) c.requires.next in
    copy_begun c.args.self.now _ c.args.buffer.now past k b c.requires.begun (record { below = refl; env = refl; turns = refl; begun = c.requires.begun }) c.args.var.0 n c.go_on.ensures.round c.go_on.ensures.seen c.place_of-place.result c.place_of-place.ensures
    c.args.out.now.items c.put_begin.new.out.items c.wrote.result
    (counted_by c.len-before.result c.args.out.now.items c.put_begin.new.out.items c.wrote.result before c.wrote.ensures.none c.wrote.ensures.some)
    c.in_ok-put_begin.ensures.ok c.begun-self.ensures
