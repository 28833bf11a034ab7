-- Which nodes departed.
use Rattle.std.proofs.Common.{◌≡◌, ℕ, ◌<◌, Bool, true, false, cond, not, List, [], ◌∷◌, ◌++◌, map, refl, sym, ◌∙◌, ap, subst, inl, inr, arith, eqb}
use Rattle.std.specs.Prelude.{reverse}
use Rattle.std.specs.List.{filter}
use Rattle.std.proofs.lemmas.List.{map-append}
use Rattle.std.proofs.lemmas.Bool.{not-true, eqb-true, eq-eqb, true≢false, false_from_ne_true}
use Rattle.gcx_model.specs.Tree.{Node, serial_of}
use Rattle.gcx_model.specs.Members.{In}
use Rattle.gcx_model.specs.Nodes.{Rising}
use Rattle.gcx_model.specs.Held.{has_serial, departed}
use Rattle.base_laws.proofs.Members.{in_map}
use Rattle.base_laws.proofs.Lists.{reverse_cons}
use Rattle.tree_laws.specs.Departing.{Falling, DepartedAreGone}
use Rattle.tree_laws.proofs.Lists.{In-append, In-filter, In-kept, any_in, any_from, In-reversed, In-reverse}
use Rattle.tree_laws.proofs.Matches.{Numbered-same}

-- lists turned round

In-mapped : {X Y : Type 0} (f : X → Y) (v : Y) (xs : List X) → In v (map f xs) → (m : X) × (f m ≡ v) × In m xs
In-mapped f v [] h = absurd h
In-mapped f v (x ∷ xs) (inl e) = (x, e, inl refl)
In-mapped f v (x ∷ xs) (inr h) = let r = In-mapped f v xs h in (r.0, r.1, inr r.2)

-- rising and falling

pub rising_filter : (p : Node → Bool) (xs : List Node) → Rising xs → Rising (filter p xs)
rising_filter p [] r = tt
rising_filter p (x ∷ xs) r = go (p x) (rising_filter p xs r.1)
  where
    go : (b : Bool) → Rising (filter p xs) → Rising (cond b (x ∷ filter p xs) (filter p xs))
    go true h = (λ y i. r.0 y (In-filter p y xs i).0, h)
    go false h = h

falling_push : (ss : List ℕ) (s : ℕ) → Falling ss → ((j : ℕ) → In j ss → s < j) → Falling (ss ++ s ∷ [])
falling_push [] s f h = ((λ j i. absurd i), tt)
falling_push (a ∷ ss) s f h = (
  (λ j i. elim (In-append j ss (s ∷ []) i) [
    | inl k ↦ f.0 j k
    | inr k ↦ elim k [ inl e ↦ subst (λ (z : ℕ). z < a) e (h a (inl refl)) | inr n ↦ absurd n ]
  ]),
  falling_push ss s f.1 (λ j i. h j (inr i)),
)

falling : (ns : List Node) → Rising ns → Falling (map serial_of (reverse ns))
falling [] r = tt
falling (n ∷ ns) r = subst (λ (z : List ℕ). Falling z) (sym (ap (map serial_of) (reverse_cons n ns) ∙ map-append serial_of (reverse ns) (n ∷ [])))
    (falling_push (map serial_of (reverse ns)) (serial_of n) (falling ns r.1)
    (λ j i. let m = In-mapped serial_of j (reverse ns) i in subst (λ (z : ℕ). serial_of n < z) m.1 (r.0 m.0 (In-reverse m.0 ns m.2))))

pub departed_are_gone : DepartedAreGone
departed_are_gone P w before now r b h = (falling (filter left before) (rising_filter left before r), λ s. (gone s, back s))
  where
    left : Node → Bool
    left n = not (has_serial now (serial_of n))

    gone : (s : ℕ) → In s (departed before now) → (n : Node) × (serial_of n ≡ s) × (In n before × (In n now → ⊥))
    gone s i =
        let m = In-mapped serial_of s (reverse (filter left before)) i in
        let f = In-filter left m.0 before (In-reverse m.0 (filter left before) m.2) in
        (m.0, m.1, (f.0, λ j. true≢false (sym (any_from (λ (k : Node). eqb (serial_of k) (serial_of m.0)) m.0 now j (eq-eqb _ _ refl)) ∙ not-true _ f.1)))

    back : (s : ℕ) → (n : Node) × (serial_of n ≡ s) × (In n before × (In n now → ⊥)) → In s (departed before now)
    back s g =
        let n : Node = g.0 in
        let none : has_serial now (serial_of n) ≡ false = false_from_ne_true _ (λ e.
        let m = any_in (λ (k : Node). eqb (serial_of k) (serial_of n)) now e in
        g.2.1 (subst (λ (z : Node). In z now) (Numbered-same 0 P.nodes w.numbered m.0 n (h m.0 m.1) (b n g.2.0) (eqb-true _ _ m.2)) m.1)) in
        subst (λ (z : ℕ). In z (departed before now)) g.1 (in_map serial_of n (reverse (filter left before)) (In-reversed n (filter left before) (In-kept left n before g.2.0 (ap not none))))

-- falling numbers are known by which they are
pub falling_same : (ss us : List ℕ) → Falling ss → Falling us → ((s : ℕ) → In s ss → In s us) → ((s : ℕ) → In s us → In s ss) → ss ≡ us
falling_same [] [] f g h k = refl
falling_same [] (u ∷ us) f g h k = absurd (k u (inl refl))
falling_same (s ∷ ss) [] f g h k = absurd (h s (inl refl))
falling_same (s ∷ ss) (u ∷ us) f g h k =
    let e : s ≡ u = same (h s (inl refl)) (k u (inl refl)) in
    ap (λ (z : ℕ). z ∷ ss) e ∙ ap (λ z. u ∷ z) (falling_same ss us f.1 g.1
    (λ j i. let l = f.0 j i in elim (h j (inr i)) [ inl a ↦ absurd (omega arith) | inr b ↦ b ])
    (λ j i. let l = g.0 j i in elim (k j (inr i)) [ inl a ↦ absurd (omega arith) | inr b ↦ b ]))
  where
    same : In s (u ∷ us) → In u (s ∷ ss) → s ≡ u
    same (inl a) b = sym a
    same (inr a) (inl b) = b
    same (inr a) (inr b) = let l = g.0 s a in let m = f.0 u b in absurd (omega arith)
