use Rattle.path_states.proofs.Looking.{read_at}
use Rattle.path_states.proofs.remembered.is_same.Goals as goal

pub returns-then-at-kept-clause-same : goal.returns-then-at-kept-clause-same
returns-then-at-kept-clause-same c = λ h. record {
  known = c.in-Some.known.now;
  is = read_at c.args.states.now c.args.at c.in-Some.known.now c.in-Some.ensures.lookup.3.0 c.in-Some.ensures.lookup.1;
  same = c.has_parts_of.ensures h;
}
