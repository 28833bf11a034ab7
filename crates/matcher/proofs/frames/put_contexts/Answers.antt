use Rattle.std.proofs.Common.{ℕ, List, [], ◌∷◌, ◌++◌, map, take, get_or, sym, ◌∙◌, ap, append_assoc, arith}
use Rattle.std.proofs.lemmas.List.{append-nil, take_all, take_more}
use Rattle.matcher.specs.Parts.{open_context}
use Rattle.matcher.specs.declared.frames.Context.{Context}
use Rattle.matcher.proofs.Places.{map_push}
use Rattle.matcher.proofs.frames.put_contexts.Goals as goal

pub loop-role-init : goal.loop-role-init
loop-role-init c = record { items = sym (append-nil c.args.contexts.now.items); len = omega arith; capacity = omega arith }

pub loop-role-preserved : goal.loop-role-preserved
loop-role-preserved c =
    let old = c.args.contexts.now.items in
    let roles = c.args.roles.now in
    let i = c.loop-role.role-index in
    let role = get_or roles i 0 in
    let before = c.loop-role.invariant in
    let len = before.len in
    let capacity = before.capacity in
    let put = c.push_reserved.ensures in
    let long = put.len in
    let same = put.capacity in
    record {
      items = put.items
          ∙ (ap (λ (z : List Context). z ++ open_context role ∷ []) before.items
          ∙ (append_assoc old (map open_context (take i roles)) (open_context role ∷ [])
          ∙ ap (λ (z : List Context). old ++ z) (sym (map_push open_context (take i roles) role) ∙ ap (map open_context) (sym (take_more roles i 0 c.loop-role-test.true)))));
      len = omega arith;
      capacity = omega arith;
    }

pub returns : goal.returns
returns c = c.loop-role.invariant.items ∙ ap (λ (z : List ℕ). c.args.contexts.now.items ++ map open_context z) (take_all c.loop-role.role-index c.args.roles.now c.loop-role-test.false)
