use Rattle.std.specs.Result.{OnOk, OnErr}
use Rattle.std.specs.Prelude.{Result, Ok, Err}
use Rattle.gcx_base.specs.declared.memory.Memory.{Memory}
use Rattle.std.proofs.Common.{[], ◌∷◌, ◌++◌, ap, sym, subst, refl, ◌∙◌, ◌≡◌, true, false}
use Rattle.std.specs.FinSet.{insert, contains}
use Rattle.role_set.specs.NodeRoles.{NodeSets}
use Rattle.role_set.specs.Pairs.{signed_numbers, sets_of}
use Rattle.role_set.specs.Words.{roles_of, HighOnce}
use Rattle.role_set.proofs.Pairs.{same_sets}
use Rattle.role_set.proofs.Sets.{insert_member}
use Rattle.role_set.proofs.Roles.{insert_low, insert_high, high_member, high_once-push}
use Rattle.role_set.proofs.node_roles.NodeRoles.sign.Goals as goal

pub returns-then-role-lt-WORD_BITS-clause-ok : goal.returns-then-role-lt-WORD_BITS-clause-ok
returns-then-role-lt-WORD_BITS-clause-ok c = same_sets _ _
    (ap (λ (v : NodeSets). v.held) c.self.view_is)
    (insert_low c.self.inside.signed _ c.args.role.0 (signed_numbers c.self.inside.high) c.if-role-lt-WORD_BITS.true c.with_bit-self-inside.ensures
    ∙ ap (λ (v : NodeSets). insert v.signed c.args.role.0) c.self.view_is)

pub returns-then-is_signed_high-clause-ok : goal.returns-then-is_signed_high-clause-ok
returns-then-is_signed_high-clause-ok c = same_sets _ _ refl
    (insert_member _ _ (ap (λ (v : NodeSets). contains v.signed c.args.role.0) (sym c.self.view_is)
    ∙ high_member c.self.inside.signed (signed_numbers c.self.inside.high) c.args.role.0 c.if-role-lt-WORD_BITS.false
    ∙ sym c.is_signed_high.ensures ∙ c.if-is_signed_high.true))

pub invariant_of-self-2 : goal.invariant_of-self-2
invariant_of-self-2 c =
    record {
      held = subst HighOnce (sym c.sign_high.ensures.held) c.self.invariant.held;
      signed = by c.sign_high.result c.sign_high.ensures.ok c.sign_high.ensures.err;
    }
  where
    by : (r : Result (Unit {0}) Memory) → OnOk r (signed_numbers c.sign_high.new.high ≡ signed_numbers c.self.inside.high ++ c.args.role.0 ∷ [])
        → OnErr r (signed_numbers c.sign_high.new.high ≡ signed_numbers c.self.inside.high) → HighOnce (signed_numbers c.sign_high.new.high)
    by (Ok u) ok err = subst HighOnce (sym ok) (high_once-push (signed_numbers c.self.inside.high) c.args.role.0 c.self.invariant.signed c.if-role-lt-WORD_BITS.false
        (sym c.is_signed_high.ensures ∙ c.if-is_signed_high.false))
    by (Err e) ok err = subst HighOnce (sym err) c.self.invariant.signed

pub returns-clause-ok : goal.returns-clause-ok
returns-clause-ok c = by c.sign_high.result c.sign_high.ensures.ok
  where
    by : (r : Result (Unit {0}) Memory) → OnOk r (signed_numbers c.sign_high.new.high ≡ signed_numbers c.self.inside.high ++ c.args.role.0 ∷ [])
        → OnOk r (sets_of c.self.inside.held c.self.inside.signed c.sign_high.new.high ≡ record c.args.self.now { signed = insert c.args.self.now.signed c.args.role.0 })
    by (Ok u) ok = same_sets _ _
        (ap (roles_of c.self.inside.held) c.sign_high.ensures.held ∙ ap (λ (v : NodeSets). v.held) c.self.view_is)
        (ap (roles_of c.self.inside.signed) ok ∙ insert_high c.self.inside.signed c.args.role.0 (signed_numbers c.self.inside.high)
        ∙ ap (λ (v : NodeSets). insert v.signed c.args.role.0) c.self.view_is)
    by (Err e) ok = tt

pub returns-clause-err : goal.returns-clause-err
returns-clause-err c = by c.sign_high.result c.sign_high.ensures.err
  where
    by : (r : Result (Unit {0}) Memory) → OnErr r (signed_numbers c.sign_high.new.high ≡ signed_numbers c.self.inside.high)
        → OnErr r (sets_of c.self.inside.held c.self.inside.signed c.sign_high.new.high ≡ c.args.self.now)
    by (Ok u) err = tt
    by (Err e) err = same_sets _ _
        (ap (roles_of c.self.inside.held) c.sign_high.ensures.held ∙ ap (λ (v : NodeSets). v.held) c.self.view_is)
        (ap (roles_of c.self.inside.signed) err ∙ ap (λ (v : NodeSets). v.signed) c.self.view_is)

pub returns-clause-has : goal.returns-clause-has
returns-clause-has c has =
    let bad : true ≡ false = sym (ap (λ (v : NodeSets). contains v.signed c.args.role.0) c.self.view_is ∙ has)
    ∙ high_member c.self.inside.signed (signed_numbers c.self.inside.high) c.args.role.0 c.if-role-lt-WORD_BITS.false ∙ sym c.is_signed_high.ensures ∙ c.if-is_signed_high.false in
    cc
