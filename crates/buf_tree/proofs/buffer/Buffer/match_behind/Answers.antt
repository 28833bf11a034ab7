use Rattle.std.proofs.Common.{ap}
use Rattle.buf_tree.specs.View.{View}
use Rattle.buf_tree.proofs.SeenReading.{used_seen, from_seen, behind_seen, serials_seen}
use Rattle.buf_tree.proofs.buffer.Buffer.match_behind.Goals as goal

pub next_child-requires-clause-top : goal.next_child-requires-clause-top
next_child-requires-clause-top g c = used_seen _ c.self.invariant.0.shape _ _ (ap (λ (v : View). v.rows) c.self.view_is) _ c.requires.top

pub next_child-requires-clause-used : goal.next_child-requires-clause-used
next_child-requires-clause-used g c = used_seen _ c.self.invariant.0.shape _ _ (ap (λ (v : View). v.rows) c.self.view_is) _ c.requires.from

pub next_child-requires-clause-from : goal.next_child-requires-clause-from
next_child-requires-clause-from g c = from_seen _ c.self.invariant.0.shape _ _ (ap (λ (v : View). v.rows) c.self.view_is) _ _ _ c.requires

pub next_below-requires-clause-top : goal.next_below-requires-clause-top
next_below-requires-clause-top g c = used_seen _ c.self.invariant.0.shape _ _ (ap (λ (v : View). v.rows) c.self.view_is) _ c.requires.top

pub next_below-requires-clause-used : goal.next_below-requires-clause-used
next_below-requires-clause-used g c = used_seen _ c.self.invariant.0.shape _ _ (ap (λ (v : View). v.rows) c.self.view_is) _ c.requires.from

pub next_below-requires-clause-from : goal.next_below-requires-clause-from
next_below-requires-clause-from g c = from_seen _ c.self.invariant.0.shape _ _ (ap (λ (v : View). v.rows) c.self.view_is) _ _ _ c.requires

pub returns-in-Child-clause-found : goal.returns-in-Child-clause-found
returns-in-Child-clause-found g c = behind_seen _ c.self.invariant.0.shape _ _ (ap (λ (v : View). v.rows) c.self.view_is) _ _ _ _ c.next_child.ensures

pub returns-in-Descendant-clause-found : goal.returns-in-Descendant-clause-found
returns-in-Descendant-clause-found g c = behind_seen _ c.self.invariant.0.shape _ _ (ap (λ (v : View). v.rows) c.self.view_is) _ _ _ _ c.next_below.ensures

pub returns-in-Child-clause-serial : goal.returns-in-Child-clause-serial
returns-in-Child-clause-serial g c = serials_seen _ c.self.invariant.0.shape _ _ (ap (λ (v : View). v.rows) c.self.view_is) _

pub returns-in-Descendant-clause-serial : goal.returns-in-Descendant-clause-serial
returns-in-Descendant-clause-serial g c = serials_seen _ c.self.invariant.0.shape _ _ (ap (λ (v : View). v.rows) c.self.view_is) _
