use Rattle.std.proofs.Common.{◌≡◌, false, List, [], ◌∷◌, Option, Some, None, is_some, refl, sym, ◌∙◌, rules}
use Rattle.std.specs.Prelude.{IsSome, ℕ, option_map}
use Rattle.node_store.specs.declared.store.Place.{Place}
use Rattle.node_store.specs.Rows.{StoreRow, children_in, head_of}
use Rattle.base_tests.proofs.stores.drop_at.Goals as goal

no_place : (o : Option Place) → is_some o ≡ false → option_map (λ p. p.0) o ≡ None
no_place None e = refl
no_place (Some p) e = absurd (cc)

no_child : (xs : List ℕ) → head_of xs ≡ None → xs ≡ []
no_child [] h = refl
no_child (x ∷ xs) h = absurd (cc)

leaf : {X : Type 0} (o : Option (StoreRow X)) → IsSome o → head_of (children_in o) ≡ None → (e : StoreRow X) × (o ≡ Some e) × (e.children ≡ [])
leaf None s h = absurd (cc)
leaf (Some e) s h = (e, refl, no_child e.children h)

pub drop_leaf-requires : goal.drop_leaf-requires
drop_leaf-requires g c =
    let none : is_some c.first.result ≡ false = search rules in
    leaf _ c.requires (sym c.first.ensures.value ∙ no_place c.first.result none)
