use Rattle.std.specs.Result.{OnOk, OnErr}
use Rattle.std.specs.Prelude.{Result, Ok, Err}
use Rattle.gcx_base.specs.declared.memory.Memory.{Memory}
use Rattle.std.proofs.Common.{[], ◌∷◌, ◌++◌, ap, sym, subst, refl, ◌∙◌, ◌≡◌, true, false}
use Rattle.std.specs.FinSet.{insert, contains}
use Rattle.role_set.specs.NodeRoles.{NodeSets}
use Rattle.role_set.specs.Pairs.{held_numbers, sets_of}
use Rattle.role_set.specs.Words.{roles_of, HighOnce}
use Rattle.role_set.proofs.Pairs.{same_sets}
use Rattle.role_set.proofs.Sets.{insert_member}
use Rattle.role_set.proofs.Roles.{insert_low, insert_high, high_member, high_once-push}
use Rattle.role_set.proofs.node_roles.NodeRoles.give.Goals as goal

pub returns-then-role-lt-WORD_BITS-clause-ok : goal.returns-then-role-lt-WORD_BITS-clause-ok
returns-then-role-lt-WORD_BITS-clause-ok c = same_sets _ _
    (insert_low c.self.inside.held _ c.args.role.0 (held_numbers c.self.inside.high) c.if-role-lt-WORD_BITS.true c.with_bit-self-inside.ensures
    ∙ ap (λ (v : NodeSets). insert v.held c.args.role.0) c.self.view_is)
    (ap (λ (v : NodeSets). v.signed) c.self.view_is)

pub returns-then-has_high-clause-ok : goal.returns-then-has_high-clause-ok
returns-then-has_high-clause-ok c = same_sets _ _
    (insert_member _ _ (ap (λ (v : NodeSets). contains v.held c.args.role.0) (sym c.self.view_is)
    ∙ high_member c.self.inside.held (held_numbers c.self.inside.high) c.args.role.0 c.if-role-lt-WORD_BITS.false
    ∙ sym c.has_high.ensures ∙ c.if-has_high.true))
    refl

pub invariant_of-self-2 : goal.invariant_of-self-2
invariant_of-self-2 c =
    record {
      held = by c.give_high.result c.give_high.ensures.ok c.give_high.ensures.err;
      signed = subst HighOnce (sym c.give_high.ensures.signed) c.self.invariant.signed;
    }
  where
    by : (r : Result (Unit {0}) Memory) → OnOk r (held_numbers c.give_high.new.high ≡ held_numbers c.self.inside.high ++ c.args.role.0 ∷ [])
        → OnErr r (held_numbers c.give_high.new.high ≡ held_numbers c.self.inside.high) → HighOnce (held_numbers c.give_high.new.high)
    by (Ok u) ok err = subst HighOnce (sym ok) (high_once-push (held_numbers c.self.inside.high) c.args.role.0 c.self.invariant.held c.if-role-lt-WORD_BITS.false
        (sym c.has_high.ensures ∙ c.if-has_high.false))
    by (Err e) ok err = subst HighOnce (sym err) c.self.invariant.held

pub returns-clause-ok : goal.returns-clause-ok
returns-clause-ok c = by c.give_high.result c.give_high.ensures.ok
  where
    by : (r : Result (Unit {0}) Memory) → OnOk r (held_numbers c.give_high.new.high ≡ held_numbers c.self.inside.high ++ c.args.role.0 ∷ [])
        → OnOk r (sets_of c.self.inside.held c.self.inside.signed c.give_high.new.high ≡ record c.args.self.now { held = insert c.args.self.now.held c.args.role.0 })
    by (Ok u) ok = same_sets _ _
        (ap (roles_of c.self.inside.held) ok ∙ insert_high c.self.inside.held c.args.role.0 (held_numbers c.self.inside.high)
        ∙ ap (λ (v : NodeSets). insert v.held c.args.role.0) c.self.view_is)
        (ap (roles_of c.self.inside.signed) c.give_high.ensures.signed ∙ ap (λ (v : NodeSets). v.signed) c.self.view_is)
    by (Err e) ok = tt

pub returns-clause-err : goal.returns-clause-err
returns-clause-err c = by c.give_high.result c.give_high.ensures.err
  where
    by : (r : Result (Unit {0}) Memory) → OnErr r (held_numbers c.give_high.new.high ≡ held_numbers c.self.inside.high)
        → OnErr r (sets_of c.self.inside.held c.self.inside.signed c.give_high.new.high ≡ c.args.self.now)
    by (Ok u) err = tt
    by (Err e) err = same_sets _ _
        (ap (roles_of c.self.inside.held) err ∙ ap (λ (v : NodeSets). v.held) c.self.view_is)
        (ap (roles_of c.self.inside.signed) c.give_high.ensures.signed ∙ ap (λ (v : NodeSets). v.signed) c.self.view_is)

pub returns-clause-has : goal.returns-clause-has
returns-clause-has c has =
    let bad : true ≡ false = sym (ap (λ (v : NodeSets). contains v.held c.args.role.0) c.self.view_is ∙ has)
    ∙ high_member c.self.inside.held (held_numbers c.self.inside.high) c.args.role.0 c.if-role-lt-WORD_BITS.false ∙ sym c.has_high.ensures ∙ c.if-has_high.false in
    cc
