-- The list of the equalities: one gets another list, and the others stay.
use Rattle.std.proofs.Common.{◌≡◌, ◌+◌, ◌-◌, ◌^◌, ℕ, zero, suc, Bool, true, false, cond, min, ltb, List, [], ◌∷◌, Option, Some, None, refl, sym, ◌∙◌, ap, subst, inl, inr, ◌⊎◌, arith}
use Rattle.std.specs.Prelude.{slice_get, slice_set}
use Rattle.std.proofs.lemmas.Bool.{eq-eqb}
use Rattle.gcx_model.specs.Tree.{Tree}
use Rattle.gcx_model.specs.Members.{In}
use Rattle.gcx_model.specs.Core.{OperandTree}
use Rattle.pass_laws.specs.ValueLists.{IsListOf}
use Rattle.cond_eval.specs.Bindings.{Bindings}
use Rattle.join_index.specs.declared.equality.Side.{Side}
use Rattle.join_index.specs.declared.equality.Listed.{Listed}
use Rattle.join_index.specs.declared.equality.Equality.{Equality}
use Rattle.join_index.specs.Equalities.{HasEquality, path_of_side}
use Rattle.join_index.specs.Index.{AreLists, HaveMoved, IndexView, HasItsList, ChangesList, GoesAfterQuestion, changes, outer_of, raised, same_serial, serial_bound, serial_kept}

-- ---- members

module _ {X : Type 0} where
  pub at_in : (qs : List X) (i : ℕ) (q : X) → slice_get qs i ≡ Some q → In q qs
  at_in [] i q e = absurd (cc)
  at_in (x ∷ qs) zero q e = inl (cc)
  at_in (x ∷ qs) (suc i) q e = inr (at_in qs i q e)

  pub set_has : (qs : List X) (i : ℕ) (q r : X) → slice_get qs i ≡ Some q → In r (slice_set qs i r)
  set_has [] i q r e = absurd (cc)
  set_has (x ∷ qs) zero q r e = inl refl
  set_has (x ∷ qs) (suc i) q r e = inr (set_has qs i q r e)

  pub set_in : (qs : List X) (i : ℕ) (r p : X) → In p (slice_set qs i r) → (r ≡ p) ⊎ In p qs
  set_in [] i r p k = absurd k
  set_in (x ∷ qs) zero r p (inl e) = inl e
  set_in (x ∷ qs) zero r p (inr k) = inr (inr k)
  set_in (x ∷ qs) (suc i) r p (inl e) = inr (inl e)
  set_in (x ∷ qs) (suc i) r p (inr k) = elim (set_in qs i r p k) [ inl e ↦ inl e | inr j ↦ inr (inr j) ]

-- ---- what moves

same_itself : (s : Option ℕ) → same_serial s s ≡ true
same_itself None = refl
same_itself (Some s) = eq-eqb s s refl

moves_none : (bound : Bindings) (may : OperandTree → OperandTree → Type 0) (q : Equality) → ChangesList bound may q q
moves_none bound may q = record { left = refl; right = refl; list = inl refl }

pub moved_none : (bound : Bindings) (may : OperandTree → OperandTree → Type 0) (qs : List Equality) → HaveMoved bound may qs qs
moved_none bound may [] = tt
moved_none bound may (q ∷ qs) = (moves_none bound may q, moved_none bound may qs)

pub changes_none : (qs : List Equality) → changes qs qs ≡ 0
changes_none [] = refl
changes_none (q ∷ qs) = ap (λ b. cond b (changes qs qs) (suc (changes qs qs))) (same_itself (serial_kept q)) ∙ changes_none qs

pub moved_one : (bound : Bindings) (may : OperandTree → OperandTree → Type 0) (qs : List Equality) (i : ℕ) (q r : Equality) → slice_get qs i ≡ Some q → ChangesList bound may q r → HaveMoved bound may qs (slice_set qs i r)
moved_one bound may [] i q r e m = absurd (cc)
moved_one bound may (x ∷ qs) zero q r e m = let f : x ≡ q = cc in (subst (λ (z : Equality). ChangesList bound may z r) (sym f) m, moved_none bound may qs)
moved_one bound may (x ∷ qs) (suc i) q r e m = (moves_none bound may x, moved_one bound may qs i q r e m)

pub changes_one : (qs : List Equality) (i : ℕ) (q r : Equality) → slice_get qs i ≡ Some q → changes qs (slice_set qs i r) ≡ cond (same_serial (serial_kept q) (serial_kept r)) 0 1
changes_one [] i q r e = absurd (cc)
changes_one (x ∷ qs) zero q r e =
    let f : x ≡ q = cc in
    ap (λ (z : Equality). cond (same_serial (serial_kept z) (serial_kept r)) (changes qs qs) (suc (changes qs qs))) f
    ∙ ap (λ (n : ℕ). cond (same_serial (serial_kept q) (serial_kept r)) n (suc n)) (changes_none qs)
changes_one (x ∷ qs) (suc i) q r e = ap (λ b. cond b (changes qs (slice_set qs i r)) (suc (changes qs (slice_set qs i r)))) (same_itself (serial_kept x)) ∙ changes_one qs i q r e

side_moved : (a b c d : Side) → c ≡ a → d ≡ b → cond (ltb c.var.0 d.var.0) c d ≡ cond (ltb a.var.0 b.var.0) a b
side_moved a b c d e f = ap (λ (z : Side). cond (ltb z.var.0 d.var.0) z d) e ∙ ap (λ (z : Side). cond (ltb a.var.0 z.var.0) a z) f

-- the outer path stays
pub outer_moved : (q r : Equality) → r.left ≡ q.left → r.right ≡ q.right → outer_of r ≡ outer_of q
outer_moved q r e f = side_moved q.left q.right r.left r.right e f

module _ (bound : Bindings) (may : OperandTree → OperandTree → Type 0) where
  moves_on : (q r p : Equality) → ChangesList bound may q r → ChangesList bound may r p → ChangesList bound may q p
  moves_on q r p m k = record { left = k.left ∙ m.left; right = k.right ∙ m.right; list = second k.list }
    where
      first : serial_kept p ≡ serial_kept r → (serial_kept r ≡ serial_kept q) ⊎ ((serial_kept r ≡ serial_bound bound (outer_of q).var.0) × may (path_of_side q.left) (path_of_side q.right))
          → (serial_kept p ≡ serial_kept q) ⊎ ((serial_kept p ≡ serial_bound bound (outer_of q).var.0) × may (path_of_side q.left) (path_of_side q.right))
      first e (inl f) = inl (e ∙ f)
      first e (inr f) = inr (e ∙ f.0, f.1)

      second : (serial_kept p ≡ serial_kept r) ⊎ ((serial_kept p ≡ serial_bound bound (outer_of r).var.0) × may (path_of_side r.left) (path_of_side r.right))
          → (serial_kept p ≡ serial_kept q) ⊎ ((serial_kept p ≡ serial_bound bound (outer_of q).var.0) × may (path_of_side q.left) (path_of_side q.right))
      second (inl e) = first e m.list
      second (inr e) = inr (
        e.0 ∙ ap (λ (s : Side). serial_bound bound s.var.0) (outer_moved q r m.left m.right),
        subst (λ (s : Side). may (path_of_side s) (path_of_side q.right)) m.left (subst (λ (s : Side). may (path_of_side r.left) (path_of_side s)) m.right e.1),
      )

  pub moved_on : (qs rs ps : List Equality) → HaveMoved bound may qs rs → HaveMoved bound may rs ps → HaveMoved bound may qs ps
  moved_on [] [] [] m k = tt
  moved_on [] [] (p ∷ ps) m k = absurd k
  moved_on [] (r ∷ rs) ps m k = absurd m
  moved_on (q ∷ qs) [] ps m k = absurd m
  moved_on (q ∷ qs) (r ∷ rs) [] m k = absurd k
  moved_on (q ∷ qs) (r ∷ rs) (p ∷ ps) m k = (moves_on q r p m.0 k.0, moved_on qs rs ps m.1 k.1)

  module _ (also : OperandTree → OperandTree → Type 0) (more : (l r : OperandTree) → may l r → also l r) where
    moves_also : (q p : Equality) → ChangesList bound may q p → ChangesList bound also q p
    moves_also q p m = record { left = m.left; right = m.right; list = go m.list }
      where
        go : (serial_kept p ≡ serial_kept q) ⊎ ((serial_kept p ≡ serial_bound bound (outer_of q).var.0) × may (path_of_side q.left) (path_of_side q.right))
            → (serial_kept p ≡ serial_kept q) ⊎ ((serial_kept p ≡ serial_bound bound (outer_of q).var.0) × also (path_of_side q.left) (path_of_side q.right))
        go (inl e) = inl e
        go (inr e) = inr (e.0, more (path_of_side q.left) (path_of_side q.right) e.1)

    moved_also : (qs ps : List Equality) → HaveMoved bound may qs ps → HaveMoved bound also qs ps
    moved_also [] [] m = tt
    moved_also [] (p ∷ ps) m = absurd m
    moved_also (q ∷ qs) [] m = absurd m
    moved_also (q ∷ qs) (p ∷ ps) m = (moves_also q p m.0, moved_also qs ps m.1)

    pub goes_also : (k l : IndexView) → GoesAfterQuestion bound may k l → GoesAfterQuestion bound also k l
    goes_also k l g = record { moved = moved_also k.equalities l.equalities g.moved; built = g.built }

-- of two steps at most one changes the serial, since what becomes s stays
abbrev AddsUp : (whole first second : Bool) → Type 0
AddsUp w f s = ((f ≡ true) × (s ≡ w)) ⊎ ((s ≡ true) × (f ≡ w))

serials_add : (s a b c : Option ℕ) → (b ≡ a) ⊎ (b ≡ s) → (c ≡ b) ⊎ (c ≡ s) → AddsUp (same_serial a c) (same_serial a b) (same_serial b c)
serials_add s a b c (inl e) k = inl (ap (same_serial a) e ∙ same_itself a, ap (λ z. same_serial z c) e)
serials_add s a b c (inr e) (inl f) = inr (ap (same_serial b) f ∙ same_itself b, sym (ap (same_serial a) f))
serials_add s a b c (inr e) (inr f) = let g : c ≡ b = f ∙ sym e in inr (ap (same_serial b) g ∙ same_itself b, sym (ap (same_serial a) g))

add_up : (w f s : Bool) (x y z : ℕ) → AddsUp w f s → x ≡ y + z → cond w x (suc x) ≡ cond f y (suc y) + cond s z (suc z)
add_up w f s x y z (inl p) h =
    subst (λ (t : Bool). cond w x (suc x) ≡ cond t y (suc y) + cond s z (suc z)) (sym p.0)
    (subst (λ (t : Bool). cond w x (suc x) ≡ y + cond t z (suc z)) (sym p.1) (go w))
  where
    go : (t : Bool) → cond t x (suc x) ≡ y + cond t z (suc z)
    go true = h
    go false = omega arith
add_up w f s x y z (inr p) h =
    subst (λ (t : Bool). cond w x (suc x) ≡ cond f y (suc y) + cond t z (suc z)) (sym p.0)
    (subst (λ (t : Bool). cond w x (suc x) ≡ cond t y (suc y) + z) (sym p.1) (go w))
  where
    go : (t : Bool) → cond t x (suc x) ≡ cond t y (suc y) + z
    go true = h
    go false = omega arith

-- the serial alone
serial_moved : (bound : Bindings) (may : OperandTree → OperandTree → Type 0) (q p : Equality) → ChangesList bound may q p → (serial_kept p ≡ serial_kept q) ⊎ (serial_kept p ≡ serial_bound bound (outer_of q).var.0)
serial_moved bound may q p m = elim m.list [ inl e ↦ inl e | inr e ↦ inr e.0 ]

serial_later : (bound : Bindings) (may : OperandTree → OperandTree → Type 0) (q r p : Equality) → ChangesList bound may q r → ChangesList bound may r p → (serial_kept p ≡ serial_kept r) ⊎ (serial_kept p ≡ serial_bound bound (outer_of q).var.0)
serial_later bound may q r p m k = elim (serial_moved bound may r p k) [
  | inl e ↦ inl e
  | inr e ↦ inr (e ∙ ap (λ (s : Side). serial_bound bound s.var.0) (outer_moved q r m.left m.right))
]

pub changes_add : (bound : Bindings) (may : OperandTree → OperandTree → Type 0) (qs rs ps : List Equality) → HaveMoved bound may qs rs → HaveMoved bound may rs ps → changes qs ps ≡ changes qs rs + changes rs ps
changes_add bound may [] [] [] m k = omega arith
changes_add bound may [] [] (p ∷ ps) m k = absurd k
changes_add bound may [] (r ∷ rs) ps m k = absurd m
changes_add bound may (q ∷ qs) [] ps m k = absurd m
changes_add bound may (q ∷ qs) (r ∷ rs) [] m k = absurd k
changes_add bound may (q ∷ qs) (r ∷ rs) (p ∷ ps) m k =
    add_up (same_serial (serial_kept q) (serial_kept p)) (same_serial (serial_kept q) (serial_kept r)) (same_serial (serial_kept r) (serial_kept p)) (changes qs ps) (changes qs rs) (changes rs ps)
    (serials_add (serial_bound bound (outer_of q).var.0) (serial_kept q) (serial_kept r) (serial_kept p) (serial_moved bound may q r m.0) (serial_later bound may q r p m.0 k.0)) (changes_add bound may qs rs ps m.1 k.1)

raised_on : (b n m : ℕ) → raised (raised b n) m ≡ raised b (n + m)
raised_on b n zero = ap (raised b) (omega arith)
raised_on b n (suc m) = ap (λ k. min (k + 1) (2 ^ 64 - 1)) (raised_on b n m) ∙ ap (raised b) (more n m)
  where
    more : (n m : ℕ) → suc (n + m) ≡ n + suc m
    more n m = omega arith

pub goes_none : (bound : Bindings) (may : OperandTree → OperandTree → Type 0) (k : IndexView) → GoesAfterQuestion bound may k k
goes_none bound may k = record { moved = moved_none bound may k.equalities; built = sym (ap (raised k.built) (changes_none k.equalities)) }

pub goes_on : (bound : Bindings) (may : OperandTree → OperandTree → Type 0) (k l m : IndexView) → GoesAfterQuestion bound may k l → GoesAfterQuestion bound may l m → GoesAfterQuestion bound may k m
goes_on bound may k l m f g = record {
  moved = moved_on bound may k.equalities l.equalities m.equalities f.moved g.moved;
  built = g.built ∙ (ap (λ b. raised b (changes l.equalities m.equalities)) f.built ∙ (raised_on k.built (changes k.equalities l.equalities) (changes l.equalities m.equalities)
      ∙ ap (raised k.built) (sym (changes_add bound may k.equalities l.equalities m.equalities f.moved g.moved))));
}

-- ---- which are there, and kept

has_next : (q : Equality) (qs : List Equality) (l r : OperandTree) → HasEquality qs l r → HasEquality (q ∷ qs) l r
has_next q qs l r h = record { equality = h.equality; among = inr h.among; left = h.left; right = h.right }

pub has_moved : (bound : Bindings) (may : OperandTree → OperandTree → Type 0) (qs ps : List Equality) → HaveMoved bound may qs ps → (l r : OperandTree) → HasEquality qs l r → HasEquality ps l r
has_moved bound may qs ps m l r h = go qs ps m h.equality h.among h.left h.right
  where
    go : (qs ps : List Equality) → HaveMoved bound may qs ps → (q : Equality) → In q qs → path_of_side q.left ≡ l → path_of_side q.right ≡ r → HasEquality ps l r
    go [] ps m q i e f = absurd i
    go (x ∷ qs) [] m q i e f = absurd m
    go (x ∷ qs) (p ∷ ps) m q (inl s) e f = record {
      equality = p;
      among = inl refl;
      left = ap path_of_side (m.0.left ∙ ap (λ (z : Equality). z.left) s) ∙ e;
      right = ap path_of_side (m.0.right ∙ ap (λ (z : Equality). z.right) s) ∙ f;
    }
    go (x ∷ qs) (p ∷ ps) m q (inr i) e f = has_next p ps l r (go qs ps m.1 q i e f)

kept_next : (bound : Bindings) (q : Equality) (qs : List Equality) (l r : OperandTree) → HasItsList bound qs l r → HasItsList bound (q ∷ qs) l r
kept_next bound q qs l r h = record { equality = h.equality; among = inr h.among; left = h.left; right = h.right; kept = h.kept }

pub kept_moved : (bound : Bindings) (may : OperandTree → OperandTree → Type 0) (qs ps : List Equality) → HaveMoved bound may qs ps → (l r : OperandTree) → HasItsList bound qs l r → HasItsList bound ps l r
kept_moved bound may qs ps m l r h = go qs ps m h.equality h.among h.left h.right h.kept
  where
    go : (qs ps : List Equality) → HaveMoved bound may qs ps → (q : Equality) → In q qs → path_of_side q.left ≡ l → path_of_side q.right ≡ r → serial_kept q ≡ serial_bound bound (outer_of q).var.0 → HasItsList bound ps l r
    go [] ps m q i e f k = absurd i
    go (x ∷ qs) [] m q i e f k = absurd m
    go (x ∷ qs) (p ∷ ps) m q (inl s) e f k = record {
      equality = p;
      among = inl refl;
      left = ap path_of_side (m.0.left ∙ ap (λ (z : Equality). z.left) s) ∙ e;
      right = ap path_of_side (m.0.right ∙ ap (λ (z : Equality). z.right) s) ∙ f;
      kept = now;
    }
      where
        outer : outer_of p ≡ outer_of x
        outer = outer_moved x p m.0.left m.0.right

        was : serial_kept x ≡ serial_bound bound (outer_of x).var.0
        was = subst (λ (z : Equality). serial_kept z ≡ serial_bound bound (outer_of z).var.0) (sym s) k

        now : serial_kept p ≡ serial_bound bound (outer_of p).var.0
        now = elim m.0.list [
          | inl g ↦ g ∙ (was ∙ ap (λ (z : Side). serial_bound bound z.var.0) (sym outer))
          | inr g ↦ g.0 ∙ ap (λ (z : Side). serial_bound bound z.var.0) (sym outer)
        ]
    go (x ∷ qs) (p ∷ ps) m q (inr i) e f k = kept_next bound p ps l r (go qs ps m.1 q i e f k)

-- ---- lists

abbrev pub IsList : Equality → Tree → Type 0
IsList q P = (l : Listed) → q.list ≡ Some l → IsListOf P (outer_of q).steps l.of.0 l.values

pub set_lists : (qs : List Equality) (i : ℕ) (r : Equality) (P : Tree) → AreLists qs P → IsList r P → AreLists (slice_set qs i r) P
set_lists qs i r P all is p k l e = elim (set_in qs i r p k) [
  | inl s ↦ subst (λ (z : Equality). IsList z P) s is l e
  | inr j ↦ all p j l e
]
