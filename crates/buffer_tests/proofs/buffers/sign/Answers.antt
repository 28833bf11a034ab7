use Rattle.std.proofs.lemmas.Result.{on_ok_weaker}
use Rattle.buffer_tests.proofs.Feeds.{forgotten}
use Rattle.buffer_tests.proofs.buffers.sign.Goals as goal

pub carry_out-requires-clause-fed : goal.carry_out-requires-clause-fed
carry_out-requires-clause-fed g c = (_, c.requires.0, c.requires.1, c.requires.2, c.in-Some.ensures)

pub returns : goal.returns
returns g c =
    on_ok_weaker c.put_changes.result
    (λ same reader projector f. forgotten _ reader projector _ _ same (c.in_ok-carry_out.ensures _ reader projector f c.in-Some.ensures))
    c.put_changes.ensures
