use Rattle.std.proofs.Common.{◌≡◌, ℕ, List, [], take, get_or, sym, ◌∙◌, ap, subst, Some}
use Rattle.std.specs.Prelude.{map}
use Rattle.std.proofs.lemmas.List.{take_more, take_all}
use Rattle.gcx_base.specs.declared.ids.Role.{Role}
use Rattle.gcx_model.specs.Held.{taken}
use Rattle.gcx_model.specs.Members.{In}
use Rattle.matcher.specs.Ahead.{AreTaken, HasSign}
use Rattle.matcher.specs.View.{MatcherView}
use Rattle.matcher.specs.declared.signs.Sign.{Sign}
use Rattle.matcher.specs.Signs.{InTurn}
use Rattle.path_states.proofs.Gaining.{in_get}
use Rattle.matcher.proofs.Taking.{taken_none, last_sign}
use Rattle.matcher.proofs.Turns.{turn_before}
use Rattle.matcher.proofs.matcher.Matcher.all_ahead.Goals as goal

abbrev none : Sign
none = record { role = 0; level = 0; steps = 0 }

pub loop-sign-init : goal.loop-sign-init
loop-sign-init c = record {
  told = λ past text s. subst (λ (z : List Role). AreTaken (taken past.plan past.tree past.acts s.here) [] (map (λ (r : Role). r.0) z)) (sym c.new-given.ensures) (taken_none (taken past.plan past.tree past.acts s.here));
  last = λ r e. absurd (cc);
}

pub loop-sign-preserved : goal.loop-sign-preserved
loop-sign-preserved c =
    let items = c.as_slice-sign-items.result.now in
    let i = c.loop-sign.sign-index in
    let x : Sign = get_or items i none in
    let more = take_more items i none c.loop-sign-test.true in
    let signs : items ≡ c.args.self.now.signs = c.as_slice-sign-items.ensures.value ∙ ap (λ (m : MatcherView). m.signs) c.self.view_is in
    record {
      told = λ past text s.
          subst (λ (z : List Sign). AreTaken (taken past.plan past.tree past.acts s.here) z (map (λ (r : Role). r.0) c.put_ahead.new.given)) (sym more)
          (c.in_ok-put_ahead.ensures past text s (take i items)
          (subst (λ (z : List Sign). In x z) signs (in_get items i none c.loop-sign-test.true))
          (turn_before items (subst InTurn (sym signs) s.turn) i none c.loop-sign-test.true)
          c.loop-sign.invariant.last
          (c.loop-sign.invariant.told past text s));
      last = λ r e. subst (λ (z : List Sign). HasSign z r) (sym more) (last_sign (take i items) x r (same r e));
    }
  where
    same : (r : ℕ) → Some (get_or c.as_slice-sign-items.result.now c.loop-sign.sign-index none).role ≡ Some r → (get_or c.as_slice-sign-items.result.now c.loop-sign.sign-index none).role ≡ r
    same r e = cc

pub returns : goal.returns
returns c = λ past text s.
    let items = c.as_slice-sign-items.result.now in
    subst (λ (z : List Sign). AreTaken (taken past.plan past.tree past.acts s.here) z (map (λ (r : Role). r.0) c.loop-sign.given)) (take_all c.loop-sign.sign-index items c.loop-sign-test.false ∙ c.as_slice-sign-items.ensures.value ∙ ap (λ (m : MatcherView). m.signs) c.self.view_is) (c.loop-sign.invariant.told past text s)
