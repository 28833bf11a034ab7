use Rattle.pull_eval.proofs.Tags.{kind_read}
use Rattle.pull_eval.proofs.copies.kind_at.Goals as goal

pub returns : goal.returns
returns g c = kind_read _ c.args.buffer.now.kept c.args.buffer.now.rows c.at.ensures.store c.at.ensures.alike c.args.place c.at.result.place c.at.ensures.place c.payload.result.now c.kind.result.now c.payload.ensures c.kind.ensures
