use Rattle.std.proofs.Common.{◌≡◌, ◌++◌, ◌∷◌, List, ℕ, Option, Some, ap, ◌∙◌}
use Rattle.std.specs.Borrow.{Bor}
use Rattle.gcx_base.specs.declared.ids.Role.{Role}
use Rattle.buf_trace.specs.Reading.{behind, roles_text}
use Rattle.buf_trace.proofs.Words.{behind_stops}
use Rattle.buf_trace.proofs.Roles.{no_role, no_rising, pushed}
use Rattle.buf_trace.proofs.read.read_roles.Goals as goal

-- the text, behind the roles that were read
whole : (text o : Option (Bor (List ℕ))) (given : List Role) (rest : Bor (List ℕ)) (word tail : List ℕ) → behind text ≡ roles_text given ++ behind o → o ≡ Some rest → rest.now ≡ word ++ tail → behind text ≡ roles_text given ++ 32 ∷ (word ++ tail)
whole text o given rest word tail e is cut = e ∙ ap (λ (z : Option (Bor (List ℕ))). roles_text given ++ behind z) is ∙ ap (λ (z : List ℕ). roles_text given ++ 32 ∷ z) cut

pub returns-in_default-read_role : goal.returns-in_default-read_role
returns-in_default-read_role c =
    let all = whole c.args.text c.loop-rest.rest c.loop-rest.given c.in-Some.text c.cut.result.0.now (behind c.cut.result.1) c.loop-rest.invariant.0 c.in-Some.is c.cut.ensures.whole in
    no_role c.loop-rest.given (behind c.args.text) c.cut.result.0.now (behind c.cut.result.1) c.loop-rest.invariant.1 c.cut.ensures.word (behind_stops c.cut.result.1) all c.in_default-read_role.ensures

pub returns-then-not-is_above_last : goal.returns-then-not-is_above_last
returns-then-not-is_above_last c =
    let all = whole c.args.text c.loop-rest.rest c.loop-rest.given c.in-Some.text c.cut.result.0.now (behind c.cut.result.1) c.loop-rest.invariant.0 c.in-Some.is c.cut.ensures.whole in
    let role = c.in-Some-read_role in
    no_rising c.loop-rest.given (behind c.args.text) c.cut.result.0.now (behind c.cut.result.1) c.loop-rest.invariant.1 c.cut.ensures.word (behind_stops c.cut.result.1) all
    role.role role.ensures.0 role.ensures.1 (c.is_above_last.ensures.no c.if-not-is_above_last.true)

pub loop-rest-preserved : goal.loop-rest-preserved
loop-rest-preserved c =
    let all = whole c.args.text c.loop-rest.rest c.loop-rest.given c.in-Some.text c.cut.result.0.now (behind c.cut.result.1) c.loop-rest.invariant.0 c.in-Some.is c.cut.ensures.whole in
    let role = c.in-Some-read_role in
    pushed c.loop-rest.given (behind c.args.text) c.cut.result.0.now (behind c.cut.result.1) c.loop-rest.invariant.1 c.cut.ensures.word (behind_stops c.cut.result.1) all
    role.role role.ensures.0 role.ensures.1 (c.is_above_last.ensures.yes c.if-not-is_above_last.false) c.push.new.self c.in_ok-push.ensures.ok
