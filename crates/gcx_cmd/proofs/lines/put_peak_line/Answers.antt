use Rattle.std.proofs.Common.{rules, ◌≡◌, ◌++◌, [], ◌∷◌, codes, decimal}
use Rattle.gcx_cmd.proofs.Lists.{behind}
use Rattle.gcx_cmd.proofs.lines.put_peak_line.Goals as goal

pub returns : goal.returns
returns c =
    let w1 : c.extend_from_slice.new.self.items ≡ c.args.line.now.items ++ codes "peak " = search rules in
    let n1 : c.put_number.new.line.items ≡ c.extend_from_slice.new.self.items ++ decimal c.args.report.now.peak = search rules in
    let w2 : c.extend_from_slice-2.new.self.items ≡ c.put_number.new.line.items ++ codes " nodes " = search rules in
    let n2 : c.put_number-2.new.line.items ≡ c.extend_from_slice-2.new.self.items ++ decimal c.args.report.now.nodes = search rules in
    let w3 : c.extend_from_slice-3.new.self.items ≡ c.put_number-2.new.line.items ++ codes " given " = search rules in
    let n3 : c.put_sum.new.line.items ≡ c.extend_from_slice-3.new.self.items ++ decimal c.args.report.now.given = search rules in
    let w4 : c.extend_from_slice-4.new.self.items ≡ c.put_sum.new.line.items ++ codes " taken " = search rules in
    let n4 : c.put_sum-2.new.line.items ≡ c.extend_from_slice-4.new.self.items ++ decimal c.args.report.now.taken = search rules in
    let end : c.extend_from_slice-5.new.self.items ≡ c.put_sum-2.new.line.items ++ 10 ∷ [] = search rules in
    let r7 = behind c.extend_from_slice-4.new.self.items c.put_sum-2.new.line.items c.extend_from_slice-5.new.self.items (decimal c.args.report.now.taken) (10 ∷ []) n4 end in
    let r6 = behind c.put_sum.new.line.items c.extend_from_slice-4.new.self.items c.extend_from_slice-5.new.self.items (codes " taken ") (decimal c.args.report.now.taken ++ (10 ∷ [])) w4 r7 in
    let r5 = behind c.extend_from_slice-3.new.self.items c.put_sum.new.line.items c.extend_from_slice-5.new.self.items (decimal c.args.report.now.given) (codes " taken " ++ (decimal c.args.report.now.taken ++ (10 ∷ []))) n3 r6 in
    let r4 = behind c.put_number-2.new.line.items c.extend_from_slice-3.new.self.items c.extend_from_slice-5.new.self.items (codes " given ") (decimal c.args.report.now.given ++ (codes " taken " ++ (decimal c.args.report.now.taken ++ (10 ∷ [])))) w3 r5 in
    let r3 = behind c.extend_from_slice-2.new.self.items c.put_number-2.new.line.items c.extend_from_slice-5.new.self.items (decimal c.args.report.now.nodes) (codes " given " ++ (decimal c.args.report.now.given ++ (codes " taken " ++ (decimal c.args.report.now.taken ++ (10 ∷ []))))) n2 r4 in
    let r2 = behind c.put_number.new.line.items c.extend_from_slice-2.new.self.items c.extend_from_slice-5.new.self.items (codes " nodes ") (decimal c.args.report.now.nodes ++ (codes " given " ++ (decimal c.args.report.now.given ++ (codes " taken " ++ (decimal c.args.report.now.taken ++ (10 ∷ [])))))) w2 r3 in
    let r1 = behind c.extend_from_slice.new.self.items c.put_number.new.line.items c.extend_from_slice-5.new.self.items (decimal c.args.report.now.peak) (codes " nodes " ++ (decimal c.args.report.now.nodes ++ (codes " given " ++ (decimal c.args.report.now.given ++ (codes " taken " ++ (decimal c.args.report.now.taken ++ (10 ∷ []))))))) n1 r2 in
    behind c.args.line.now.items c.extend_from_slice.new.self.items c.extend_from_slice-5.new.self.items (codes "peak ") (decimal c.args.report.now.peak ++ (codes " nodes " ++ (decimal c.args.report.now.nodes ++ (codes " given " ++ (decimal c.args.report.now.given ++ (codes " taken " ++ (decimal c.args.report.now.taken ++ (10 ∷ [])))))))) w1 r1
