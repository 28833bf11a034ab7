use Rattle.std.proofs.Common.{◌∙◌, ap, bytes_eq, List, ℕ}
use Rattle.std.specs.Option.{is_some}
use Rattle.std.specs.BTreeMap.{get_by_text}
use Rattle.gcx_model.specs.Paths.{any}
use Rattle.xq_parse.proofs.ScopeLaws.{any_reverse}
use Rattle.xq_parse.proofs.FirstPlaces.{is_bound}
use Rattle.xq_parse.proofs.scope.Scope.has.Goals as goal

pub returns : goal.returns
returns c =
    let q = c.args.name.now in
    c.contains_key.ensures ∙ ap (λ (x : List ℕ). is_some (get_by_text c.self.inside.first x)) c.as_str.ensures ∙ ap is_some (c.self.invariant q)
    ∙ is_bound q c.self.inside.names.items (any_reverse (bytes_eq q) c.self.inside.names.items) ∙ ap (any (bytes_eq q)) c.self.view_is
