use Rattle.std.proofs.Common.{◌≡◌, ◌++◌, ℕ, List, ◌∙◌, ap, subst}
use Rattle.gcx_cmd.specs.Texts.{lines_line}
use Rattle.gcx_cmd.specs.Writes.{PrintsText}
use Rattle.gcx_cmd.proofs.Peaks.{prints_of}
use Rattle.gcx_cmd.proofs.checking.print_lines.Goals as goal

pub returns-in-Ok-clause-prints : goal.returns-in-Ok-clause-prints
returns-in-Ok-clause-prints g c =
    let line = lines_line c.args.lines in
    let is : c.deref.result.now ≡ line = c.deref.ensures.value ∙ c.in-Ok.ensures ∙ ap (λ (l : List ℕ). l ++ line) c.new-line.ensures.items in
    subst (λ (l : List ℕ). PrintsText c.write_text.result (g.O.Sink.seen c.args.out.now) (g.O.Sink.seen c.write_text.new.out) l) is
    (prints_of c.write_text.result _ _ _ c.write_text.ensures.writes)
