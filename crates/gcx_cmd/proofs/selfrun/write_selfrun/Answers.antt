use Rattle.std.proofs.Common.{◌≡◌, ◌++◌, ℕ, List, ◌∙◌, ap, subst}
use Rattle.gcx_cmd.specs.Texts.{answer_line}
use Rattle.gcx_cmd.specs.Writes.{PrintsText}
use Rattle.gcx_cmd.proofs.Peaks.{prints_of, self_if, self_lacks}
use Rattle.gcx_cmd.proofs.selfrun.write_selfrun.Goals as goal

pub returns-in_default : goal.returns-in_default
returns-in_default g c = record { does = (λ files err store. self_lacks c.args.seed c.args.count files (g.O.Sink.seen c.args.out.now) err store) }

pub returns-in-Ok-put_answer_line : goal.returns-in-Ok-put_answer_line
returns-in-Ok-put_answer_line g c = record {
  does = (λ files err store.
      let run = c.in-Ok.run' in
      let line = answer_line run.answer run.report.peak run.report.nodes run.report.given run.report.taken in
      let is : c.deref.result.now ≡ line = c.deref.ensures.value ∙ c.in-Ok-put_answer_line.ensures ∙ ap (λ (l : List ℕ). l ++ line) c.new-line.ensures.items in
      let prints : PrintsText c.write_text.result (g.O.Sink.seen c.args.out.now) (g.O.Sink.seen c.write_text.new.out) line =
      subst (λ (l : List ℕ). PrintsText c.write_text.result (g.O.Sink.seen c.args.out.now) (g.O.Sink.seen c.write_text.new.out) l) is
      (prints_of c.write_text.result _ _ _ c.write_text.ensures.writes) in
      self_if c.args.seed c.args.count files _ _ err store run.answer run.report c.in-Ok.ensures c.write_text.result c.write_text.ensures.later prints);
}
