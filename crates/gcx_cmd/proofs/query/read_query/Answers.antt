use Rattle.std.proofs.Common.{ℕ, List, sym, subst}
use Rattle.gcx_cmd.proofs.Queries.{query_accepted, query_memory, query_never, query_placed, query_plan, query_stops}
use Rattle.gcx_cmd.specs.QueryDoes.{ReadsText}
use Rattle.gcx_cmd.proofs.query.read_query.Goals as goal

pub returns-clause-accepted : goal.returns-clause-accepted
returns-clause-accepted g c =
    let read : ReadsText c.args.name.now c.deref.result.now (g.F.Shelf.seen c.args.files.now) (g.F.Shelf.seen c.read_text.new.files) =
    subst (λ (l : List ℕ). ReadsText c.args.name.now l (g.F.Shelf.seen c.args.files.now) (g.F.Shelf.seen c.read_text.new.files)) (sym c.deref.ensures.value) c.in_ok-bytes.ensures.whole.1 in
    query_accepted _ _ _ _ c.in_ok-bytes.ensures.whole.0 read c.compiled.result c.compiled.ensures.told

pub returns-clause-stops : goal.returns-clause-stops
returns-clause-stops g c =
    let read : ReadsText c.args.name.now c.deref.result.now (g.F.Shelf.seen c.args.files.now) (g.F.Shelf.seen c.read_text.new.files) =
    subst (λ (l : List ℕ). ReadsText c.args.name.now l (g.F.Shelf.seen c.args.files.now) (g.F.Shelf.seen c.read_text.new.files)) (sym c.deref.ensures.value) c.in_ok-bytes.ensures.whole.1 in
    query_stops _ _ _ _ c.in_ok-bytes.ensures.whole.0 read c.compiled.result c.compiled.ensures.told c.compiled.ensures.which

pub returns-clause-plan : goal.returns-clause-plan
returns-clause-plan g c = query_plan _ c.compiled.result c.compiled.ensures.told

pub returns-clause-placed : goal.returns-clause-placed
returns-clause-placed g c = query_placed _ c.compiled.result c.compiled.ensures.told

pub returns-clause-memory : goal.returns-clause-memory
returns-clause-memory g c = query_memory c.compiled.result c.compiled.ensures.which

pub returns-clause-cause : goal.returns-clause-cause
returns-clause-cause g c = λ is. absurd (query_never c.compiled.result c.compiled.ensures.which is)
