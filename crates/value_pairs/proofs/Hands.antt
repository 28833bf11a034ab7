-- One side and the other, whichever is the left one.
use Rattle.std.proofs.Common.{◌≡◌, ℕ, List}
use Rattle.gcx_base.specs.declared.rel.Rel.{Rel}
use Rattle.gcx_base.specs.declared.rel.Rel.TheVariants.{Eq}
use Rattle.value_pairs.specs.Taking.{EndsOfHand}
use Rattle.value_pairs.specs.Sharing.{SharedOfHand}
use Rattle.value_pairs.specs.Taken.{TookBy}
use Rattle.value_pairs.specs.declared.hand.Hand.{Hand}
use Rattle.value_pairs.specs.declared.hand.Hand.TheVariants.{Left, Right}
use Rattle.value_pairs.specs.declared.ends.Ends.{Ends}
use Rattle.value_pairs.specs.declared.shared.Shared.{Shared}
use Rattle.value_pairs.specs.declared.compared.Compared.TheVariants as form

pub of_equal : (hand : Hand) (s : Shared) (rel : Rel) (vs ws : List (List ℕ)) → TookBy hand (form.Equal s) rel vs ws → SharedOfHand hand s vs ws × (rel ≡ Eq)
of_equal Left s rel vs ws took = took
of_equal Right s rel vs ws took = took

pub to_equal : (hand : Hand) (s : Shared) (rel : Rel) (vs ws : List (List ℕ)) → SharedOfHand hand s vs ws × (rel ≡ Eq) → TookBy hand (form.Equal s) rel vs ws
to_equal Left s rel vs ws took = took
to_equal Right s rel vs ws took = took

pub of_other : (hand : Hand) (e : Ends) (rel : Rel) (vs ws : List (List ℕ)) → TookBy hand (form.Other e) rel vs ws → EndsOfHand hand e rel vs ws × (rel ≡ Eq → ⊥)
of_other Left e rel vs ws took = took
of_other Right e rel vs ws took = took

pub to_other : (hand : Hand) (e : Ends) (rel : Rel) (vs ws : List (List ℕ)) → EndsOfHand hand e rel vs ws × (rel ≡ Eq → ⊥) → TookBy hand (form.Other e) rel vs ws
to_other Left e rel vs ws took = took
to_other Right e rel vs ws took = took

-- what a call makes of the values of its side
abbrev pub Makes : (these : List (List ℕ) → List (List ℕ)) → (before now : List (List ℕ) → List (List ℕ) → Type 0) → Type 0
Makes these before now = (vs ws : List (List ℕ)) → before vs ws → now (these vs) ws

pub equal_makes : (hand : Hand) (s t : Shared) (these : List (List ℕ) → List (List ℕ)) → Makes these (SharedOfHand hand s) (SharedOfHand hand t) → (rel : Rel) → Makes these (TookBy hand (form.Equal s) rel) (TookBy hand (form.Equal t) rel)
equal_makes hand s t these makes rel vs ws took = let u = of_equal hand s rel vs ws took in to_equal hand t rel (these vs) ws (makes vs ws u.0, u.1)

pub other_makes : (hand : Hand) (e f : Ends) (these : List (List ℕ) → List (List ℕ)) → ((rel : Rel) → Makes these (EndsOfHand hand e rel) (EndsOfHand hand f rel)) → (rel : Rel) → Makes these (TookBy hand (form.Other e) rel) (TookBy hand (form.Other f) rel)
other_makes hand e f these makes rel vs ws took = let u = of_other hand e rel vs ws took in to_other hand f rel (these vs) ws (makes rel vs ws u.0, u.1)
