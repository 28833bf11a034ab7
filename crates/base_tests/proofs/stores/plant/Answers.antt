use Rattle.std.proofs.Common.{◌≡◌, false, Option, Some, None, is_some, refl, sym, ◌∙◌, rules}
use Rattle.std.specs.Prelude.{option_map}
use Rattle.node_store.specs.declared.store.Place.{Place}
use Rattle.node_store.proofs.Trees.{no_rows}
use Rattle.base_tests.proofs.stores.plant.Goals as goal

no_place : (o : Option Place) → is_some o ≡ false → option_map (λ p. p.0) o ≡ None
no_place None e = refl
no_place (Some p) e = absurd (cc)

pub plant-requires : goal.plant-requires
plant-requires g c =
    let none : is_some c.root.result ≡ false = search rules in
    no_rows _ _ c.root.ensures.tree (sym c.root.ensures.value ∙ no_place c.root.result none)
