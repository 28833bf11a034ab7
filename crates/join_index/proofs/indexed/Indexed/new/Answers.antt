use Rattle.std.proofs.Common.{List, subst}
use Rattle.gcx_model.specs.Members.{In}
use Rattle.join_index.specs.declared.equality.Equality.{Equality}
use Rattle.join_index.proofs.Gathering.{fresh_looked, fresh_lists}
use Rattle.join_index.proofs.indexed.Indexed.new.Goals as goal

pub returns-clause-fresh : goal.returns-clause-fresh
returns-clause-fresh c P =
    let none = c.in_ok-put_body.ensures.none (λ q i. absurd (subst (λ (z : List Equality). In q z) c.new-equalities.ensures.items i)) in
    (c.new.ensures P, fresh_lists c.put_body.new.found.items none P, fresh_looked c.put_body.new.found.items none P)
