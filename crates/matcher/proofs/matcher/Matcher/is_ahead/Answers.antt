use Rattle.std.proofs.Common.{◌≡◌, ℕ, List, sym, ◌∙◌, ap, subst}
use Rattle.gcx_model.specs.Members.{In}
use Rattle.matcher.specs.Signs.{SignAt}
use Rattle.matcher.specs.View.{MatcherView}
use Rattle.matcher.specs.declared.signs.Sign.{Sign}
use Rattle.path_states.specs.declared.paths.PathTree.{PathTree}
use Rattle.path_states.specs.declared.paths.Way.{Way}
use Rattle.std.specs.Prelude.{slice_get, Some}
use Rattle.path_states.proofs.Looking.{read_at, none_of, some_of}
use Rattle.matcher.proofs.Taking.{not_ahead, ahead_is}
use Rattle.matcher.proofs.matcher.Matcher.is_ahead.Goals as goal

pub returns-then-is_empty : goal.returns-then-is_empty
returns-then-is_empty c = λ past text stands j.
    let read = read_at c.deref.result.now c.args.sign.role c.in-Some.way.now c.in-Some.ensures.lookup.3.0 c.in-Some.ensures.lookup.1 in
    let tree : c.tree.result.now ≡ c.args.self.now.tree = c.tree.ensures ∙ ap (λ (m : MatcherView). m.tree) c.self.view_is in
    let at : slice_get c.args.self.now.tree.ways.items c.args.sign.role ≡ Some c.in-Some.way.now =
    subst (λ (z : PathTree). slice_get z.ways.items c.args.sign.role ≡ Some c.in-Some.way.now) tree (subst (λ (z : List Way). slice_get z c.args.sign.role ≡ Some c.in-Some.way.now) c.deref.ensures.value read) in
    not_ahead c.args.self.now past text stands c.args.sign j c.in-Some.way.now at c.in_ok-targets.targets.items c.in_ok-targets.ensures (none_of c.in_ok-targets.targets.items (sym c.is_empty.ensures ∙ c.if-is_empty.true))

pub returns : goal.returns
returns c = λ past text stands j.
    let read = read_at c.deref.result.now c.args.sign.role c.in-Some.way.now c.in-Some.ensures.lookup.3.0 c.in-Some.ensures.lookup.1 in
    let tree : c.tree.result.now ≡ c.args.self.now.tree = c.tree.ensures ∙ ap (λ (m : MatcherView). m.tree) c.self.view_is in
    let at : slice_get c.args.self.now.tree.ways.items c.args.sign.role ≡ Some c.in-Some.way.now =
    subst (λ (z : PathTree). slice_get z.ways.items c.args.sign.role ≡ Some c.in-Some.way.now) tree (subst (λ (z : List Way). slice_get z c.args.sign.role ≡ Some c.in-Some.way.now) c.deref.ensures.value read) in
    ahead_is c.args.self.now past text stands c.args.sign j c.in-Some.way.now at c.in_ok-targets.targets.items c.in_ok-targets.ensures (some_of c.in_ok-targets.targets.items (sym c.is_empty.ensures ∙ c.if-is_empty.false))
    c.in_ok-bases.bases.items c.in_ok-bases.ensures c.are_signed.result
    (λ h l k. subst (λ (z : List Sign). SignAt z c.args.sign.role l) (c.deref-2.ensures.value ∙ ap (λ (m : MatcherView). m.signs) c.self.view_is) (c.are_signed.ensures.yes h l (subst (λ (z : List ℕ). In l z) (sym c.as_slice.ensures) k)))
    (λ h k. c.are_signed.ensures.no h (λ l y. subst (λ (z : List Sign). SignAt z c.args.sign.role l) (sym (c.deref-2.ensures.value ∙ ap (λ (m : MatcherView). m.signs) c.self.view_is)) (k l (subst (λ (z : List ℕ). In l z) c.as_slice.ensures y))))
