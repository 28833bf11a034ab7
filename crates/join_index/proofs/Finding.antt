-- A search for an equality, and the list that is kept for it.
use Rattle.std.proofs.Common.{◌≡◌, ◌⊎◌, ◌+◌, ◌<◌, ◌++◌, ℕ, zero, suc, Bool, true, false, not, List, [], ◌∷◌, Option, Some, None, length, take, get_or, refl, sym, ap, ◌∙◌, subst, inl, inr, arith}
use Rattle.std.specs.Prelude.{MatchOption, is_some, slice_get, slice_set}
use Rattle.std.proofs.lemmas.Bool.{false≢true}
use Rattle.std.proofs.lemmas.List.{take_more}
use Rattle.gcx_model.specs.Core.{OperandTree}
use Rattle.gcx_model.specs.Members.{In}
use Rattle.buf_tree.specs.Shape.{Cell}
use Rattle.cond_memo.specs.declared.taken.Taken.{Taken}
use Rattle.join_index.specs.declared.equality.Listed.{Listed}
use Rattle.join_index.specs.declared.equality.Equality.{Equality}
use Rattle.join_index.specs.Equalities.{HasEquality}
use Rattle.join_index.specs.Index.{outer_of, same_serial, serial_kept}
use Rattle.join_index.specs.Lookups.{IsOf, KeepsList, KeepsSeen, ListsAt}
use Rattle.join_index.proofs.Gathering.{in_either}

module _ (qs : List Equality) (l r : OperandTree) where
  -- it isn't among the first
  pub not_in_more : (i : ℕ) (q : Equality) → i < length qs → q ≡ get_or qs i q → (IsOf q l r → ⊥) → (HasEquality (take i qs) l r → ⊥) → HasEquality (take (i + 1) qs) l r → ⊥
  not_in_more i q low is isnt before h =
      let longer : take (i + 1) qs ≡ take i qs ++ q ∷ [] = take_more qs i q low ∙ ap (λ (z : Equality). take i qs ++ z ∷ []) (sym is) in
      go (in_either (take i qs) q h.equality (subst (λ (z : List Equality). In h.equality z) longer h.among))
    where
      go : In h.equality (take i qs) ⊎ (q ≡ h.equality) → ⊥
      go (inl j) = before (record { equality = h.equality; among = j; left = h.left; right = h.right })
      go (inr e) = isnt (subst (λ (z : Equality). IsOf z l r) (sym e) (h.left, h.right))

module _ {X : Type 0} where
  pub get_below : (qs : List X) (i : ℕ) (q : X) → slice_get qs i ≡ Some q → i < length qs
  get_below [] i q e = absurd (cc)
  get_below (x ∷ qs) zero q e = omega arith
  get_below (x ∷ qs) (suc i) q e = let l = get_below qs i q e in omega arith

  pub same_get : (qs : List X) (i : ℕ) (q x : X) → slice_get qs i ≡ Some q → x ≡ get_or qs i x → x ≡ q
  same_get [] i q x e f = absurd (cc)
  same_get (y ∷ qs) zero q x e f = let g : y ≡ q = cc in f ∙ g
  same_get (y ∷ qs) (suc i) q x e f = same_get qs i q x e f

  pub set_get : (qs : List X) (i : ℕ) (q r : X) → slice_get qs i ≡ Some q → slice_get (slice_set qs i r) i ≡ Some r
  set_get [] i q r e = absurd (cc)
  set_get (y ∷ qs) zero q r e = refl
  set_get (y ∷ qs) (suc i) q r e = set_get qs i q r e

  pub set_twice : (qs : List X) (i : ℕ) (q r : X) → slice_set (slice_set qs i q) i r ≡ slice_set qs i r
  set_twice [] i q r = refl
  set_twice (y ∷ qs) zero q r = refl
  set_twice (y ∷ qs) (suc i) q r = ap (λ (zs : List X). y ∷ zs) (set_twice qs i q r)

-- it is there
pub has_at : (qs : List Equality) (i : ℕ) (q : Equality) (l r : OperandTree) → slice_get qs i ≡ Some q → IsOf q l r → HasEquality qs l r
has_at [] i q l r e is = absurd (cc)
has_at (x ∷ qs) zero q l r e is = record { equality = q; among = inl (cc); left = is.0; right = is.1 }
has_at (x ∷ qs) (suc i) q l r e is = let h = has_at qs i q l r e is in record { equality = h.equality; among = inr h.among; left = h.left; right = h.right }

pub found_has : (qs : List Equality) (l r : OperandTree) (o : Option ℕ) → MatchOption o (HasEquality qs l r → ⊥) (λ i. (q : Equality) × (slice_get qs i ≡ Some q) × IsOf q l r) → is_some o ≡ true → HasEquality qs l r
found_has qs l r None m e = absurd (false≢true e)
found_has qs l r (Some i) m e = has_at qs i m.0 l r m.1 m.2

-- ---- the list that is kept

-- it was made for the node
pub made_for : (rows : List Cell) (p of : ℕ) (q r : Equality) (l : Listed) → r.left ≡ q.left → r.right ≡ q.right → r.list ≡ Some l → l.of.0 ≡ of → same_serial (serial_kept q) (Some of) ≡ false
    → ListsAt rows p (outer_of q).steps l.values → KeepsList rows p of q r true
made_for rows p of q r l left right kept serial other lists = record {
  left = left;
  right = right;
  list = l;
  kept = kept;
  serial = serial;
  made_so = sym (ap not other);
  told = inr lists;
}

-- whatever was looked up in it
pub kept_as : (rows : List Cell) (p of : ℕ) (q r : Equality) (made : Bool) (now : Taken) → KeepsList rows p of q r made → KeepsList rows p of q (record r { seen = now }) made
kept_as rows p of q r made now k = record { left = k.left; right = k.right; list = k.list; kept = k.kept; serial = k.serial; made_so = k.made_so; told = k.told }

-- which matches were looked up stays with the list, and none was in one that is made
pub seen_still : (q : Equality) → KeepsSeen q q
seen_still q = record { steps = refl; last = refl; looked = inl refl }

pub seen_none : (q r : Equality) → r.seen ≡ record q.seen { of = None; below = 0; waiting = None } → KeepsSeen q r
seen_none q r e = record { steps = ap (λ (s : Taken). s.steps) e; last = ap (λ (s : Taken). s.last) e; looked = inr (ap (λ (s : Taken). s.of) e) }

pub same_list : (o : Option Listed) (l m : Listed) → o ≡ Some l → o ≡ Some m → l ≡ m
same_list o l m e f = let g : Some l ≡ Some m = sym e ∙ f in cc
