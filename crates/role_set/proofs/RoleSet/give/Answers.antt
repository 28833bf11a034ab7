use Rattle.std.specs.Result.{OnOk, OnErr}
use Rattle.std.specs.Prelude.{Result, Ok, Err}
use Rattle.gcx_base.specs.declared.memory.Memory.{Memory}
use Rattle.std.proofs.Common.{[], ◌∷◌, ◌++◌, ap, sym, subst, ◌∙◌, ◌≡◌, length, true, false, arith}
use Rattle.std.specs.FinSet.{insert, contains}
use Rattle.role_set.specs.Words.{roles_of, HighOnce}
use Rattle.role_set.proofs.Sets.{insert_member}
use Rattle.role_set.proofs.Roles.{insert_low, insert_high, high_member, no_high, high_once-push}
use Rattle.role_set.proofs.RoleSet.give.Goals as goal

pub returns-then-role-lt-WORD_BITS-clause-ok : goal.returns-then-role-lt-WORD_BITS-clause-ok
returns-then-role-lt-WORD_BITS-clause-ok c = insert_low c.self.inside.low _ c.args.role.0 _ c.if-role-lt-WORD_BITS.true c.with_bit-self-inside.ensures ∙ ap (λ s. insert s c.args.role.0) c.self.view_is

pub returns-then-has_number-clause-ok : goal.returns-then-has_number-clause-ok
returns-then-has_number-clause-ok c = insert_member _ _ (ap (λ s. contains s c.args.role.0) (sym c.self.view_is) ∙ high_member c.self.inside.low _ c.args.role.0 c.if-role-lt-WORD_BITS.false ∙ sym c.has_number.ensures ∙ c.if-has_number.true)

pub invariant_of-self-2 : goal.invariant_of-self-2
invariant_of-self-2 c = (omega (arith, c.self.invariant.0, c.add_number.ensures.capacity), by c.add_number.result c.add_number.ensures.ok c.add_number.ensures.err)
  where
    by : (r : Result (Unit {0}) Memory) → OnOk r (c.add_number.new.numbers.items ≡ c.self.inside.high.items ++ c.args.role.0 ∷ []) → OnErr r (c.add_number.new.numbers.items ≡ c.self.inside.high.items) → HighOnce c.add_number.new.numbers.items
    by (Ok u) ok err = subst HighOnce (sym ok) (high_once-push c.self.inside.high.items c.args.role.0 c.self.invariant.1 c.if-role-lt-WORD_BITS.false (sym c.has_number.ensures ∙ c.if-has_number.false))
    by (Err e) ok err = subst HighOnce (sym err) c.self.invariant.1

pub returns-clause-ok : goal.returns-clause-ok
returns-clause-ok c = by c.add_number.result c.add_number.ensures.ok
  where
    by : (r : Result (Unit {0}) Memory) → OnOk r (c.add_number.new.numbers.items ≡ c.self.inside.high.items ++ c.args.role.0 ∷ []) → OnOk r (roles_of c.self.inside.low c.add_number.new.numbers.items ≡ insert c.args.self.now c.args.role.0)
    by (Ok u) ok = ap (roles_of c.self.inside.low) ok ∙ insert_high c.self.inside.low c.args.role.0 c.self.inside.high.items ∙ ap (λ s. insert s c.args.role.0) c.self.view_is
    by (Err e) ok = tt

pub returns-clause-has : goal.returns-clause-has
returns-clause-has c has =
    let bad : true ≡ false = sym (ap (λ s. contains s c.args.role.0) c.self.view_is ∙ has) ∙ high_member c.self.inside.low c.self.inside.high.items c.args.role.0 c.if-role-lt-WORD_BITS.false ∙ sym c.has_number.ensures ∙ c.if-has_number.false in
    cc

pub returns-clause-first : goal.returns-clause-first
returns-clause-first c none =
    let empty = no_high c.self.inside.low c.self.inside.high.items c.self.invariant.1 (λ k has. none k (ap (λ s. contains s k) (sym c.self.view_is) ∙ has)) in
    let len : length c.self.inside.high.items ≡ 0 = ap length empty in
    c.add_number.ensures.room (omega (arith, len, c.self.invariant.0))
