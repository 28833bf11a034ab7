use Rattle.std.proofs.Common.{ap}
use Rattle.buf_tree.specs.View.{View}
use Rattle.buf_tree.proofs.SeenReading.{used_seen, above_seen, serials_seen}
use Rattle.buf_tree.proofs.buffer.Buffer.next_match.Goals as goal

pub first_child-requires-clause-there : goal.first_child-requires-clause-there
first_child-requires-clause-there g c = used_seen _ c.self.invariant.0.shape _ _ (ap (λ (v : View). v.rows) c.self.view_is) _ c.requires

pub first_below-requires-clause-there : goal.first_below-requires-clause-there
first_below-requires-clause-there g c = used_seen _ c.self.invariant.0.shape _ _ (ap (λ (v : View). v.rows) c.self.view_is) _ c.requires

pub returns-in-Child-clause-found : goal.returns-in-Child-clause-found
returns-in-Child-clause-found g c = above_seen _ c.self.invariant.0.shape _ _ (ap (λ (v : View). v.rows) c.self.view_is) _ _ _ _ c.first_child.ensures

pub returns-in-Descendant-clause-found : goal.returns-in-Descendant-clause-found
returns-in-Descendant-clause-found g c = above_seen _ c.self.invariant.0.shape _ _ (ap (λ (v : View). v.rows) c.self.view_is) _ _ _ _ c.first_below.ensures

pub returns-in-Child-clause-serial : goal.returns-in-Child-clause-serial
returns-in-Child-clause-serial g c = serials_seen _ c.self.invariant.0.shape _ _ (ap (λ (v : View). v.rows) c.self.view_is) _

pub returns-in-Descendant-clause-serial : goal.returns-in-Descendant-clause-serial
returns-in-Descendant-clause-serial g c = serials_seen _ c.self.invariant.0.shape _ _ (ap (λ (v : View). v.rows) c.self.view_is) _
