use Rattle.std.proofs.Common.{rules}
use Rattle.gcx_model.specs.Query.{query_trees}
use Rattle.gcx_cmd.specs.Main.{SaysOfQuery, SpellsOne}
use Rattle.gcx_cmd.specs.ReadEnd.{query_status}
use Rattle.gcx_cmd.proofs.Queries.{accepted_of, refused_by, limit_passed}
use Rattle.gcx_cmd.proofs.query.compiled.Goals as goal

pub returns-in_err-query-clause-told : goal.returns-in_err-query-clause-told
returns-in_err-query-clause-told c =
    let f = c.in_err-query.field-0.0 in
    let says : SaysOfQuery (query_status f) c.args.bytes.now = refused_by c.args.bytes.now f c.in_err-query.ensures.fault c.in_err-query.ensures.only_refusal in
    search (rules, says)

pub returns-in_err-plan-clause-told : goal.returns-in_err-plan-clause-told
returns-in_err-plan-clause-told c =
    let f = c.in_err-plan.field-0.0 in
    let q = query_trees c.in_ok-query.query in
    let one : SpellsOne c.args.bytes.now q = record { spells = c.in_ok-query.ensures.spells; sound = c.in_ok-query.ensures.sound; only = c.in_ok-query.ensures.only_query } in
    let says : SaysOfQuery (query_status f) c.args.bytes.now = limit_passed c.args.bytes.now q f one c.in_err-plan.ensures.refused in
    search (rules, says)

pub returns-clause-told : goal.returns-clause-told
returns-clause-told c =
    let q = query_trees c.in_ok-query.query in
    let one : SpellsOne c.args.bytes.now q = record { spells = c.in_ok-query.ensures.spells; sound = c.in_ok-query.ensures.sound; only = c.in_ok-query.ensures.only_query } in
    record { accepts = accepted_of c.args.bytes.now q one c.in_ok-plan.ensures.within; only = c.in_ok-query.ensures.only_query; plan_is = c.in_ok-plan.ensures.plan }
