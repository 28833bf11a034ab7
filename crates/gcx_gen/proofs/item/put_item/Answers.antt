use Rattle.std.proofs.Common.{rules, ◌≡◌, ◌++◌, codes}
use Rattle.gcx_gen.specs.Generated.{note_text, price_text}
use Rattle.gcx_gen.proofs.Written.{four_on}
use Rattle.gcx_gen.proofs.item.put_item.Goals as goal

pub returns : goal.returns
returns c =
    let first : c.extend_from_slice.new.self.items ≡ c.args.out.now.items ++ codes "<item>" = search rules in
    let second : c.put_price.new.out.items ≡ c.extend_from_slice.new.self.items ++ price_text c.args.seed c.args.index = search rules in
    let third : c.put_note.new.out.items ≡ c.put_price.new.out.items ++ note_text c.args.index = search rules in
    let fourth : c.extend_from_slice-2.new.self.items ≡ c.put_note.new.out.items ++ codes "</item>" = search rules in
    four_on _ _ _ _ _ (codes "<item>") (price_text c.args.seed c.args.index) (note_text c.args.index) (codes "</item>") first second third fourth
