-- A text of roles is read from the front, and each role that is read is the next one of the only list with this text.
use Rattle.std.proofs.Common.{◌≡◌, ℕ, zero, suc, length, get_or, take, ◌<◌, ◌^◌, List, [], ◌∷◌, ◌++◌, refl, sym, ◌∙◌, ap, subst, inl, inr, arith, append_assoc}
use Rattle.std.specs.Fmt.{decimal}
use Rattle.std.proofs.lemmas.List.{append-nil}
use Rattle.std.proofs.lemmas.Fmt.{decimal_injective}
use Rattle.gcx_base.specs.declared.ids.Role.{Role}
use Rattle.gcx_model.specs.Given.{IsRising, IsAboveLast}
use Rattle.gcx_model.specs.Members.{In}
pub use Rattle.gcx_model.proofs.Rising.{above_pushed}
use Rattle.gcx_model.proofs.Rising.{rising_push}
use Rattle.tree_laws.proofs.Lists.{In-append, In-right}
use Rattle.buf_trace.specs.Lines.{IsGiven}
use Rattle.buf_trace.specs.Reading.{IsWord, roles_text}
use Rattle.buf_trace.proofs.Words.{Stops, cut_same, decimal_word}

abbrev pub Small : List Role → Type 0
Small roles = (r : Role) → In r roles → r.0 < 2 ^ 32

pub role_same : (r s : Role) → r.0 ≡ s.0 → r ≡ s
role_same r s e = ap (λ (n : ℕ). let role : Role = record { 0 = n } in role) e

pub roles_stop : (roles : List Role) → Stops (roles_text roles)
roles_stop [] = inl refl
roles_stop (r ∷ roles) = inr (decimal r.0 ++ roles_text roles, refl)

stops_on : (roles : List Role) (rest : List ℕ) → Stops (roles_text roles ++ 32 ∷ rest)
stops_on [] rest = inr (rest, refl)
stops_on (r ∷ roles) rest = inr ((decimal r.0 ++ roles_text roles) ++ 32 ∷ rest, refl)

-- behind the roles that were read the next one stands
pub record Next (given roles : List Role) (word : List ℕ) : Type 0 where
  pub role : Role
  pub more : List Role
  pub parts : roles ≡ given ++ role ∷ more
  pub shown : decimal role.0 ≡ word

pub next : (given roles : List Role) (word tail : List ℕ) → Small given → Small roles → IsWord word → Stops tail → roles_text roles ≡ roles_text given ++ 32 ∷ (word ++ tail) → Next given roles word
next [] [] word tail sg sr w st e = absurd (cc)
next [] (r ∷ more) word tail sg sr w st e =
    let f : decimal r.0 ++ roles_text more ≡ word ++ tail = cc in
    let small : r.0 < 2 ^ 32 = sr r (inl refl) in
    let q = cut_same (decimal r.0) word (roles_text more) tail (decimal_word r.0 (omega arith)) w (roles_stop more) st f in
    record { role = r; more = more; parts = refl; shown = q.0 }
next (g ∷ given) [] word tail sg sr w st e = absurd (cc)
next (g ∷ given) (r ∷ roles) word tail sg sr w st e =
    let rest : List ℕ = 32 ∷ (word ++ tail) in
    let turned : roles_text (r ∷ roles) ≡ 32 ∷ (decimal g.0 ++ (roles_text given ++ rest)) = e ∙ ap (λ (z : List ℕ). 32 ∷ z) (append_assoc (decimal g.0) (roles_text given) rest) in
    let f : decimal r.0 ++ roles_text roles ≡ decimal g.0 ++ (roles_text given ++ rest) = cc in
    let small : r.0 < 2 ^ 32 = sr r (inl refl) in
    let below : g.0 < 2 ^ 32 = sg g (inl refl) in
    let q = cut_same (decimal r.0) (decimal g.0) (roles_text roles) (roles_text given ++ rest) (decimal_word r.0 (omega arith)) (decimal_word g.0 (omega arith)) (roles_stop roles) (stops_on given (word ++ tail)) f in
    let same : r.0 ≡ g.0 = decimal_injective r.0 g.0 (omega arith) (omega arith) q.0 in
    let n = next given roles word tail (λ x i. sg x (inr i)) (λ x i. sr x (inr i)) w st q.1 in
    record {
      role = n.role;
      more = n.more;
      parts = ap (λ z. z ∷ roles) (role_same r g same) ∙ ap (λ z. g ∷ z) n.parts;
      shown = n.shown;
    }

rising_above : (given : List Role) (role : Role) (more : List Role) → IsRising (given ++ role ∷ more) → IsAboveLast given role
rising_above [] role more h = tt
rising_above (r ∷ []) role more h = h.0
rising_above (r ∷ (s ∷ rest)) role more h = rising_above (s ∷ rest) role more h.1

pub pushed_above : (front : List Role) (last role : Role) → IsAboveLast (front ++ last ∷ []) role → last.0 < role.0
pushed_above [] last role h = h
pushed_above (r ∷ []) last role h = h
pushed_above (r ∷ (s ∷ rest)) last role h = pushed_above (s ∷ rest) last role h

given_push : (given : List Role) (role : Role) → IsGiven given → role.0 < 2 ^ 32 → IsAboveLast given role → IsGiven (given ++ role ∷ [])
given_push given role g s above = (rising_push given role g.0 above, small)
  where
    small : (r : Role) → In r (given ++ role ∷ []) → r.0 < 2 ^ 32
    small r i = elim (In-append r given (role ∷ []) i) [
      | inl j ↦ g.1 r j
      | inr j ↦ elim j [ inl e ↦ subst (λ (z : Role). z.0 < 2 ^ 32) e s | inr k ↦ absurd k ]
    ]

text_push : (given : List Role) (role : Role) (tail : List ℕ) → roles_text (given ++ role ∷ []) ++ tail ≡ roles_text given ++ 32 ∷ (decimal role.0 ++ tail)
text_push [] role tail = ap (λ z. 32 ∷ (z ++ tail)) (append-nil (decimal role.0))
text_push (g ∷ given) role tail =
    ap (λ z. 32 ∷ z) (append_assoc (decimal g.0) (roles_text (given ++ role ∷ [])) tail ∙ ap (λ z. decimal g.0 ++ z) (text_push given role tail)
    ∙ sym (append_assoc (decimal g.0) (roles_text given) (32 ∷ (decimal role.0 ++ tail))))

module _ (given : List Role) (text word tail : List ℕ) (g : IsGiven given) (w : IsWord word) (st : Stops tail) (whole : text ≡ roles_text given ++ 32 ∷ (word ++ tail)) where
  -- where the next word is no role, nothing is
  pub no_role : ((role : Role) → role.0 < 2 ^ 32 → decimal role.0 ≡ word → ⊥) → (roles : List Role) → IsGiven roles → roles_text roles ≡ text → ⊥
  no_role never roles h e =
      let n = next given roles word tail g.1 h.1 w st (e ∙ whole) in
      never n.role (h.1 n.role (subst (λ (z : List Role). In n.role z) (sym n.parts) (In-right n.role given (n.role ∷ n.more) (inl refl)))) n.shown

  -- nor where it isn't above the last one
  pub no_rising : (role : Role) → role.0 < 2 ^ 32 → decimal role.0 ≡ word → (IsAboveLast given role → ⊥) → (roles : List Role) → IsGiven roles → roles_text roles ≡ text → ⊥
  no_rising role s d never roles h e =
      let n = next given roles word tail g.1 h.1 w st (e ∙ whole) in
      let small : n.role.0 < 2 ^ 32 = h.1 n.role (subst (λ (z : List Role). In n.role z) (sym n.parts) (In-right n.role given (n.role ∷ n.more) (inl refl))) in
      let same : n.role.0 ≡ role.0 = decimal_injective n.role.0 role.0 (omega arith) (omega arith) (n.shown ∙ sym d) in
      let above : IsAboveLast given n.role = rising_above given n.role n.more (subst IsRising n.parts h.0) in
      never (subst (λ (z : Role). IsAboveLast given z) (role_same n.role role same) above)

  -- a role that is read goes behind the others
  pub pushed : (role : Role) → role.0 < 2 ^ 32 → decimal role.0 ≡ word → IsAboveLast given role → (now : List Role) → now ≡ given ++ role ∷ [] → (text ≡ roles_text now ++ tail) × IsGiven now
  pushed role s d above now e =
      subst (λ (z : List Role). (text ≡ roles_text z ++ tail) × IsGiven z) (sym e)
      (whole ∙ ap (λ (z : List ℕ). roles_text given ++ 32 ∷ (z ++ tail)) (sym d) ∙ sym (text_push given role tail), given_push given role g s above)

-- what holds of the roles so far holds of one more
pub small_next : (roles : List Role) (i : ℕ) (d : Role) → i < length roles → (get_or roles i d).0 < 2 ^ 32 → Small (take i roles) → Small (take (suc i) roles)
small_next [] i d l s h = absurd (omega arith)
small_next (r ∷ roles) zero d l s h = λ x k. elim k [ inl e ↦ subst (λ (z : Role). z.0 < 2 ^ 32) e s | inr j ↦ absurd j ]
small_next (r ∷ roles) (suc i) d l s h = λ x k. elim k [
  | inl e ↦ h x (inl e)
  | inr j ↦ small_next roles i d (omega arith) s (λ y m. h y (inr m)) x j
]
