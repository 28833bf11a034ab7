-- Names of entities: what their first letters may go on to.
use Rattle.std.proofs.Common.{◌≡◌, ◌≢◌, ◌⊎◌, ◌∷◌, [], ℕ, List, get_or, refl, ap, arith, inl, inr}
use Rattle.doc_chars.specs.declared.reference.Entity.{Entity}
use Rattle.doc_chars.specs.declared.reference.Entity.TheVariants.{Lt, Gt, Amp, Apos, Quot}
use Rattle.doc_chars.specs.Reference.{Refers, lt, gt, amp, apos, quot, by_decimal, by_hexadecimal, NeverRefers}
use Rattle.doc_chars.specs.References.{spelling_of, character_of}

abbrev pub letter : ℕ → List ℕ → ℕ
letter n text = get_or text n 0

pub entity_refers : (e : Entity) → Refers (spelling_of e) (character_of e)
entity_refers Lt = lt refl refl
entity_refers Gt = gt refl refl
entity_refers Amp = amp refl refl
entity_refers Apos = apos refl refl
entity_refers Quot = quot refl refl

-- a reference is an entity's name or begins with `#`
pub kind_of : (text : List ℕ) (d : ℕ) → Refers text d → ((e : Entity) × (text ≡ spelling_of e) × (d ≡ character_of e)) ⊎ (letter 0 text ≡ 35)
kind_of text d (lt e v) = inl (Lt, e, v)
kind_of text d (gt e v) = inl (Gt, e, v)
kind_of text d (amp e v) = inl (Amp, e, v)
kind_of text d (apos e v) = inl (Apos, e, v)
kind_of text d (quot e v) = inl (Quot, e, v)
kind_of text d (by_decimal digits n e) = inr (ap (letter 0) e)
kind_of text d (by_hexadecimal digits n e) = inr (ap (letter 0) e)

-- ---- the first letters

pub first_never : (c : ℕ) → c ≢ 35 → c ≢ 97 → c ≢ 103 → c ≢ 108 → c ≢ 113 → NeverRefers (c ∷ [])
first_never c hash a g l q more d r = elim (kind_of (c ∷ more) d r) [
  | inl (e, is, _) ↦ by_name e (ap (letter 0) is)
  | inr is ↦ hash is
]
  where
    by_name : (e : Entity) → c ≡ letter 0 (spelling_of e) → ⊥
    by_name Lt is = l is
    by_name Gt is = g is
    by_name Amp is = a is
    by_name Apos is = a is
    by_name Quot is = q is

pub second_never : (c : ℕ) → c ≢ 109 → c ≢ 112 → NeverRefers (97 ∷ c ∷ [])
second_never c m p more d r = elim (kind_of (97 ∷ c ∷ more) d r) [
  | inl (e, is, _) ↦ by_name e (ap (letter 0) is) (ap (letter 1) is)
  | inr is ↦ omega (arith, is)
]
  where
    by_name : (e : Entity) → 97 ≡ letter 0 (spelling_of e) → c ≡ letter 1 (spelling_of e) → ⊥
    by_name Lt is then = omega (arith, is)
    by_name Gt is then = omega (arith, is)
    by_name Amp is then = m then
    by_name Apos is then = p then
    by_name Quot is then = omega (arith, is)
