use Rattle.std.proofs.Common.{rules, ◌≡◌, ◌++◌, [], ◌∷◌, codes, decimal}
use Rattle.gcx_cmd.proofs.Lists.{behind}
use Rattle.gcx_cmd.proofs.lines.put_lines_line.Goals as goal

pub returns : goal.returns
returns c =
    let w1 : c.extend_from_slice.new.self.items ≡ c.args.line.now.items ++ codes "trace " = search rules in
    let n1 : c.put_number.new.line.items ≡ c.extend_from_slice.new.self.items ++ decimal c.args.lines = search rules in
    let w2 : c.extend_from_slice-2.new.self.items ≡ c.put_number.new.line.items ++ codes " lines" = search rules in
    let end : c.extend_from_slice-3.new.self.items ≡ c.extend_from_slice-2.new.self.items ++ 10 ∷ [] = search rules in
    let r2 = behind c.put_number.new.line.items c.extend_from_slice-2.new.self.items c.extend_from_slice-3.new.self.items (codes " lines") (10 ∷ []) w2 end in
    let r1 = behind c.extend_from_slice.new.self.items c.put_number.new.line.items c.extend_from_slice-3.new.self.items (decimal c.args.lines) (codes " lines" ++ (10 ∷ [])) n1 r2 in
    behind c.args.line.now.items c.extend_from_slice.new.self.items c.extend_from_slice-3.new.self.items (codes "trace ") (decimal c.args.lines ++ (codes " lines" ++ (10 ∷ []))) w1 r1
