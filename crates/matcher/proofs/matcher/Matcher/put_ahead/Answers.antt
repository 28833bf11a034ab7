use Rattle.std.proofs.Common.{◌≡◌, ℕ, Bool, List, ◌∷◌, [], ◌++◌, refl, sym, ◌∙◌, subst}
use Rattle.std.proofs.lemmas.Bool.{false≢true}
use Rattle.std.specs.Prelude.{map}
use Rattle.gcx_base.specs.declared.ids.Role.{Role}
use Rattle.gcx_model.specs.Held.{taken}
use Rattle.matcher.specs.Ahead.{AreTaken}
use Rattle.matcher.proofs.Taking.{taken_same, taken_more, taken_again, taken_there, below_last}
use Rattle.matcher.proofs.matcher.Matcher.put_ahead.Goals as goal

numbers_more : (xs : List Role) (r : Role) → map (λ (z : Role). z.0) (xs ++ r ∷ []) ≡ map (λ (z : Role). z.0) xs ++ r.0 ∷ []
numbers_more [] r = refl
numbers_more (x ∷ xs) r = rw (numbers_more xs r) refl

pub returns-then-is_of : goal.returns-then-is_of
returns-then-is_of c = λ past text s before j low of_last a.
    taken_again (taken past.plan past.tree past.acts s.here) before c.args.sign (map (λ (z : Role). z.0) c.args.given.now) a (of_last c.args.sign.role (c.is_of.ensures c.if-is_of.true))

pub returns-then-not-is_above : goal.returns-then-not-is_above
returns-then-not-is_above c = λ past text s before j low of_last a.
    taken_same (taken past.plan past.tree past.acts s.here) before c.args.sign (map (λ (z : Role). z.0) c.args.given.now) a
    (λ e. taken_there (taken past.plan past.tree past.acts s.here) before c.args.sign c.args.given.now a low (c.is_above.ensures.no c.if-not-is_above.true))

pub returns-in_ok-push : goal.returns-in_ok-push
returns-in_ok-push c = λ past text s before j low of_last a.
    let r : Role = record { 0 = c.args.sign.role } in
    let test : ℕ → Bool = taken past.plan past.tree past.acts s.here in
    subst (λ (z : List Role). AreTaken test (before ++ c.args.sign ∷ []) (map (λ (z : Role). z.0) z)) (sym c.in_ok-push.ensures.ok)
    (subst (λ (z : List ℕ). AreTaken test (before ++ c.args.sign ∷ []) z) (sym (numbers_more c.args.given.now r))
    (taken_more test before c.args.sign (map (λ (z : Role). z.0) c.args.given.now) a (sym (c.in_ok-is_ahead.ensures past text s j) ∙ c.if-branch.true)
    (below_last c.args.given.now r a.climbs (c.is_above.ensures.yes c.if-not-is_above.false))))

pub returns-else-branch : goal.returns-else-branch
returns-else-branch c = λ past text s before j low of_last a.
    taken_same (taken past.plan past.tree past.acts s.here) before c.args.sign (map (λ (z : Role). z.0) c.args.given.now) a
    (λ e. absurd (false≢true (sym c.if-branch.false ∙ (c.in_ok-is_ahead.ensures past text s j ∙ e))))
