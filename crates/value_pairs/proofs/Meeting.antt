-- A value more of one side: whether it meets one of the other. A side less: nothing meets.
use Rattle.std.proofs.Common.{◌≡◌, ◌↔◌, ◌⊎◌, ◌||◌, ℕ, Bool, true, false, List, [], ◌∷◌, refl, sym, ◌∙◌, ap, subst, inl, inr}
use Rattle.std.specs.Ordering.{is_eq, nat_cmp}
use Rattle.std.specs.Cmp.Lexicographic.{slice_cmp}
use Rattle.std.specs.BTreeSet.{BTreeSet}
use Rattle.std.specs.Global.{Vec}
use Rattle.std.proofs.lemmas.Bool.{false≢true, or_cases}
use Rattle.std.proofs.lemmas.Cmp.{nat_list_cmp_total, tied_itself}
use Rattle.std.proofs.lemmas.Map.Lookups.{exact_bytes}
use Rattle.std.proofs.Math.Bool.{or-true}
use Rattle.gcx_base.specs.declared.rel.Rel.TheVariants.{Eq}
use Rattle.gcx_model.specs.Members.{In}
use Rattle.value_pairs.specs.Pairs.{SomePair}
use Rattle.value_pairs.specs.Sets.{AddsValue, values_in}
use Rattle.value_pairs.specs.Sharing.{SharedOf}
use Rattle.value_pairs.specs.declared.shared.Shared.{Shared}
use Rattle.value_pairs.proofs.Holding.{is_equal, none_in}

same : (ls rs : List (List ℕ)) (p : SomePair Eq ls rs) → p.one ≡ p.other
same ls rs p = exact_bytes p.one p.other (is_equal (slice_cmp nat_cmp p.one p.other) p.holds)

met_pair : (ls rs : List (List ℕ)) (v : List ℕ) → In v ls → In v rs → SomePair Eq ls rs
met_pair ls rs v i j = record { one = v; other = v; of_left = i; of_right = j; holds = ap is_eq (tied_itself nat_list_cmp_total v) }

more : (set now : BTreeSet (Vec ℕ)) (v : List ℕ) (vs : List (List ℕ)) → ((w : List ℕ) → In w (values_in set) ↔ In w vs) → AddsValue v set now → (w : List ℕ) → In w (values_in now) ↔ In w (v ∷ vs)
more set now v vs h adds w = (there, back)
  where
    there : In w (values_in now) → In w (v ∷ vs)
    there i = elim ((adds w).0 i) [
      | inl e ↦ inl e
      | inr k ↦ inr ((h w).0 k)
    ]

    back : In w (v ∷ vs) → In w (values_in now)
    back (inl e) = (adds w).1 (inl e)
    back (inr k) = (adds w).1 (inr ((h w).1 k))

-- it was so before, or the value is one of the other side's
abbrev pub Meets : (before now : Bool) (v : List ℕ) (others : BTreeSet (Vec ℕ)) → Type 0
Meets before now v others = (now ≡ true) ↔ ((before ≡ true) ⊎ In v (values_in others))

pub meets : (before met now : Bool) (v : List ℕ) (others : BTreeSet (Vec ℕ)) → (met ≡ true ↔ In v (values_in others)) → now ≡ (before || met) → Meets before now v others
meets before met now v others m is = (
  (λ e. elim (or_cases before met (sym is ∙ e)) [
    | inl f ↦ inl f
    | inr f ↦ inr (m.0 f)
  ]),
  (λ h. elim h [
    | inl f ↦ is ∙ ap (λ b. b || met) f
    | inr i ↦ is ∙ (ap (λ b. before || b) (m.1 i) ∙ or-true before)
  ]),
)

module _ (s : Shared) (ls rs : List (List ℕ)) (h : SharedOf s ls rs) (v : List ℕ) (now : Bool) where
  found_left : Meets s.found now v s.right → now ≡ true ↔ SomePair Eq (v ∷ ls) rs
  found_left m = (there, back)
    where
      there : now ≡ true → SomePair Eq (v ∷ ls) rs
      there e = elim (m.0 e) [
        | inl f ↦ (let p = h.found.0 f in record { one = p.one; other = p.other; of_left = inr p.of_left; of_right = p.of_right; holds = p.holds })
        | inr i ↦ met_pair (v ∷ ls) rs v (inl refl) ((h.right v).0 i)
      ]

      at : (p : SomePair Eq (v ∷ ls) rs) → (v ≡ p.one) ⊎ In p.one ls → now ≡ true
      at p (inl e) = m.1 (inr ((h.right v).1 (subst (λ (z : List ℕ). In z rs) (sym (e ∙ same (v ∷ ls) rs p)) p.of_right)))
      at p (inr i) = m.1 (inl (h.found.1 (record { one = p.one; other = p.other; of_left = i; of_right = p.of_right; holds = p.holds })))

      back : SomePair Eq (v ∷ ls) rs → now ≡ true
      back p = at p p.of_left

  found_right : Meets s.found now v s.left → now ≡ true ↔ SomePair Eq ls (v ∷ rs)
  found_right m = (there, back)
    where
      there : now ≡ true → SomePair Eq ls (v ∷ rs)
      there e = elim (m.0 e) [
        | inl f ↦ (let p = h.found.0 f in record { one = p.one; other = p.other; of_left = p.of_left; of_right = inr p.of_right; holds = p.holds })
        | inr i ↦ met_pair ls (v ∷ rs) v ((h.left v).0 i) (inl refl)
      ]

      at : (p : SomePair Eq ls (v ∷ rs)) → (v ≡ p.other) ⊎ In p.other rs → now ≡ true
      at p (inl e) = m.1 (inr ((h.left v).1 (subst (λ (z : List ℕ). In z ls) (same ls (v ∷ rs) p ∙ sym e) p.of_left)))
      at p (inr i) = m.1 (inl (h.found.1 (record { one = p.one; other = p.other; of_left = p.of_left; of_right = i; holds = p.holds })))

      back : SomePair Eq ls (v ∷ rs) → now ≡ true
      back p = at p p.of_right

module _ (s t : Shared) where
  pub left_more : (v : List ℕ) → AddsValue v s.left t.left → t.right ≡ s.right → Meets s.found t.found v s.right → (ls rs : List (List ℕ)) → SharedOf s ls rs → SharedOf t (v ∷ ls) rs
  left_more v adds r m ls rs h = record {
    left = more s.left t.left v ls h.left adds;
    right = subst (λ (set : BTreeSet (Vec ℕ)). (w : List ℕ) → In w (values_in set) ↔ In w rs) (sym r) h.right;
    found = found_left s ls rs h v t.found m;
  }

  pub right_more : (v : List ℕ) → AddsValue v s.right t.right → t.left ≡ s.left → Meets s.found t.found v s.left → (ls rs : List (List ℕ)) → SharedOf s ls rs → SharedOf t ls (v ∷ rs)
  right_more v adds l m ls rs h = record {
    left = subst (λ (set : BTreeSet (Vec ℕ)). (w : List ℕ) → In w (values_in set) ↔ In w ls) (sym l) h.left;
    right = more s.right t.right v rs h.right adds;
    found = found_right s ls rs h v t.found m;
  }

  pub left_cleared : t.left.keys ≡ [] → t.right ≡ s.right → t.found ≡ false → (ls rs : List (List ℕ)) → SharedOf s ls rs → SharedOf t [] rs
  left_cleared l r f ls rs h = record {
    left = λ v. ((λ i. none_in t.left l v i), (λ i. absurd i));
    right = subst (λ (set : BTreeSet (Vec ℕ)). (w : List ℕ) → In w (values_in set) ↔ In w rs) (sym r) h.right;
    found = ((λ e. absurd (false≢true (sym f ∙ e))), (λ p. absurd (p.of_left)));
  }

  pub right_cleared : t.right.keys ≡ [] → t.left ≡ s.left → t.found ≡ false → (ls rs : List (List ℕ)) → SharedOf s ls rs → SharedOf t ls []
  right_cleared r l f ls rs h = record {
    left = subst (λ (set : BTreeSet (Vec ℕ)). (w : List ℕ) → In w (values_in set) ↔ In w ls) (sym l) h.left;
    right = λ v. ((λ i. none_in t.right r v i), (λ i. absurd i));
    found = ((λ e. absurd (false≢true (sym f ∙ e))), (λ p. absurd (p.of_right)));
  }

pub none_shared : (s : Shared) → s.left.keys ≡ [] → s.right.keys ≡ [] → s.found ≡ false → SharedOf s [] []
none_shared s a b f = record {
  left = λ v. ((λ i. none_in s.left a v i), (λ i. absurd i));
  right = λ v. ((λ i. none_in s.right b v i), (λ i. absurd i));
  found = ((λ e. absurd (false≢true (sym f ∙ e))), (λ p. absurd (p.of_left)));
}
