-- A relation with its sides exchanged.
use Rattle.std.proofs.Common.{◌≡◌, Option, Some, None, refl, ◌∙◌, ap}
use Rattle.std.specs.Prelude.{option_map}
use Rattle.std.specs.Ordering.{ordering_reverse, is_some_and}
use Rattle.std.specs.Cmp.{int_cmp_total}
use Rattle.std.specs.Cmp.Lexicographic.{nat_list_cmp_total}
use Rattle.std.specs.declared.cmp.Ordering.{Ordering}
use Rattle.std.specs.declared.cmp.Ordering.TheVariants.{Less, Equal, Greater}
use Rattle.gcx_base.specs.declared.rel.Rel.{Rel}
use Rattle.gcx_base.specs.declared.rel.Rel.TheVariants.{Eq, Ne, Lt, Le, Gt, Ge}
use Rattle.gcx_model.specs.Values.{ComparedValue, Bytes, Units, Decimal, number, against, order, rel_holds, compare}

-- `<` for `>`, and so on
abbrev pub flip : Rel → Rel
flip Eq = Eq
flip Ne = Ne
flip Lt = Gt
flip Le = Ge
flip Gt = Lt
flip Ge = Le

flip_holds : (rel : Rel) (o : Ordering) → rel_holds (flip rel) (ordering_reverse o) ≡ rel_holds rel o
flip_holds Eq Less = refl
flip_holds Eq Equal = refl
flip_holds Eq Greater = refl
flip_holds Ne Less = refl
flip_holds Ne Equal = refl
flip_holds Ne Greater = refl
flip_holds Lt Less = refl
flip_holds Lt Equal = refl
flip_holds Lt Greater = refl
flip_holds Le Less = refl
flip_holds Le Equal = refl
flip_holds Le Greater = refl
flip_holds Gt Less = refl
flip_holds Gt Equal = refl
flip_holds Gt Greater = refl
flip_holds Ge Less = refl
flip_holds Ge Equal = refl
flip_holds Ge Greater = refl

flip_some : (rel : Rel) (o : Option Ordering) → is_some_and (rel_holds (flip rel)) (option_map ordering_reverse o) ≡ is_some_and (rel_holds rel) o
flip_some rel None = refl
flip_some rel (Some o) = flip_holds rel o

turn_back : (o : Ordering) → o ≡ ordering_reverse (ordering_reverse o)
turn_back Less = refl
turn_back Equal = refl
turn_back Greater = refl

turned_number : (d : Option Decimal) (f : Decimal → Ordering) → option_map (λ x. f x) d ≡ option_map ordering_reverse (option_map (λ x. ordering_reverse (f x)) d)
turned_number None f = refl
turned_number (Some d) f = ap Some (turn_back (f d))

turned_back : (d : Option Decimal) (f : Decimal → Ordering) → option_map (λ x. ordering_reverse (f x)) d ≡ option_map ordering_reverse (option_map (λ x. f x) d)
turned_back None f = refl
turned_back (Some d) f = refl

order_turned : (v w : ComparedValue) → order w v ≡ option_map ordering_reverse (order v w)
order_turned (Bytes v) (Bytes w) = ap Some (nat_list_cmp_total.antisymm w v)
order_turned (Bytes v) (Units l) = turned_back (number v) (λ d. against d l)
order_turned (Units l) (Bytes w) = turned_number (number w) (λ d. against d l)
order_turned (Units l) (Units k) = ap Some (int_cmp_total.antisymm k l)

-- the flipped relation holds of a pair where the relation holds of it turned round
pub compare_flipped : (rel : Rel) (v w : ComparedValue) → compare (flip rel) w v ≡ compare rel v w
compare_flipped rel v w = ap (is_some_and (rel_holds (flip rel))) (order_turned v w) ∙ flip_some rel (order v w)
