use Rattle.projector.proofs.Places.{started_place}
use Rattle.projector.proofs.projector.Projector.new.Goals as goal

pub returns : goal.returns
returns c = record {
  stands = λ core good placed. record { matcher = c.in_ok-matcher.ensures.stands core good placed; none = c.new-2.ensures.items };
  place = λ v given s. started_place v given s;
}
