use Rattle.std.proofs.Common.{◌≡◌, ◌++◌, ◌∷◌, [], ℕ, List, refl, sym, ◌∙◌, ap, subst, inl, inr, arith}
use Rattle.gcx_base.specs.declared.kind.Kind.TheVariants.{Element}
use Rattle.path_states.specs.Names.{AreOrdered, IsNameNumber}
use Rattle.path_states.proofs.Naming.{name_new, name_there}
use Rattle.path_states.proofs.names.put_new.Goals as goal

-- the number of the name among those before
number : (before slice : List (List ℕ)) (name bytes : List ℕ) (k : ℕ) → slice ≡ before → bytes ≡ name → (AreOrdered slice → IsNameNumber slice (Element bytes) k) → AreOrdered before → IsNameNumber before (Element name) k
number before slice name bytes k e f h up =
    subst (λ (z : List (List ℕ)). IsNameNumber z (Element name) k) e (subst (λ (z : List ℕ). IsNameNumber slice (Element z) k) f (h (subst AreOrdered (sym e) up)))

pub returns-then-number_in-len : goal.returns-then-number_in-len
returns-then-number_in-len c = λ up.
    let before = c.args.names.now.items in
    let test = c.if-number_in-len.true in
    inr (refl, name_there before c.args.name.now c.number_in.result (omega arith) (number before c.deref.result.now c.args.name.now c.as_bytes.result.now c.number_in.result c.deref.ensures.value c.as_bytes.ensures.bytes c.number_in.ensures up))

pub returns : goal.returns
returns c = λ up.
    let before = c.args.names.now.items in
    let test = c.if-number_in-len.false in
    inl (
      c.in_ok-push.ensures.items ∙ ap (λ (z : List ℕ). before ++ z ∷ []) c.in_ok-copied.ensures,
      name_new before c.args.name.now c.number_in.result (omega arith) (number before c.deref.result.now c.args.name.now c.as_bytes.result.now c.number_in.result c.deref.ensures.value c.as_bytes.ensures.bytes c.number_in.ensures up),
    )
