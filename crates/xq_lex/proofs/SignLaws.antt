-- The longest sign at the front of a text.
use Rattle.std.proofs.Common.{ℕ, ◌≡◌, ◌≤◌, ◌==◌, Bool, true, false, not, ◌&&◌, cond, List, [], ◌∷◌, ◌++◌, length, Option, Some, None, refl, sym, ap, ◌∙◌, subst, arith, eqb-true}
use Rattle.std.proofs.lemmas.Bool.{and_parts, cond_both, not-true}
use Rattle.xq_lex.specs.declared.sign.Sign.{Sign}
use Rattle.xq_lex.specs.declared.sign.Sign.TheVariants.{ParenOpen, ParenClose, BraceOpen, BraceClose, Comma, Slash, SlashSlash, Axis, Star, Eq, Ne, Lt, Le, Gt, Ge, EndTag, EmptyEnd}
use Rattle.xq_lex.specs.Sign.{sign_chars, begins, opens_comment, slash_at, less_at, sign_at}

-- the sign begins the text, and is no comment's mark
pub record HasSign (text : List ℕ) (s : Sign) : Type 0 where
  pub rest : List ℕ
  pub chars : text ≡ sign_chars s ++ rest
  pub good : opens_comment text ≡ false

abbrev SignFound : List ℕ → Option Sign → Type 0
SignFound text None = Unit {0}
SignFound text (Some s) = HasSign text s

begins_with : (c : ℕ) (text : List ℕ) → begins c text ≡ true → (rest : List ℕ) × (text ≡ c ∷ rest)
begins_with c [] e = cc (e)
begins_with c (d ∷ ds) e = (ds, ap (λ (x : ℕ). x ∷ ds) (eqb-true d c e))

one : (c d : ℕ) (cs : List ℕ) (s : Sign) → (c == d) ≡ true → sign_chars s ≡ d ∷ [] → opens_comment (d ∷ cs) ≡ false → HasSign (c ∷ cs) s
one c d cs s e is good =
    let same : c ≡ d = eqb-true c d e in
    record { rest = cs; chars = ap (λ (x : ℕ). x ∷ cs) same ∙ ap (λ (x : List ℕ). x ++ cs) (sym is); good = subst (λ (x : ℕ). opens_comment (x ∷ cs) ≡ false) (sym same) good }

two : (c d e : ℕ) (cs : List ℕ) (s : Sign) → c ≡ d → begins e cs ≡ true → sign_chars s ≡ d ∷ e ∷ [] → opens_comment (d ∷ cs) ≡ false → HasSign (c ∷ cs) s
two c d e cs s same next is good =
    let more : (rest : List ℕ) × (cs ≡ e ∷ rest) = begins_with e cs next in
    record {
      rest = more.0;
      chars = ap (λ (x : ℕ). x ∷ cs) same ∙ (ap (λ (x : List ℕ). d ∷ x) more.1 ∙ ap (λ (x : List ℕ). x ++ more.0) (sym is));
      good = subst (λ (x : ℕ). opens_comment (x ∷ cs) ≡ false) (sym same) good;
    }

slash_front : (c : ℕ) (cs : List ℕ) → (c == 47) ≡ true → HasSign (c ∷ cs) (slash_at cs)
slash_front c cs e =
    cond_both (begins 47 cs) SlashSlash (cond (begins 62 cs) EmptyEnd Slash) (λ s. HasSign (c ∷ cs) s)
    (λ h. two c 47 47 cs SlashSlash (eqb-true c 47 e) h refl refl)
    (λ _. cond_both (begins 62 cs) EmptyEnd Slash (λ s. HasSign (c ∷ cs) s)
    (λ h. two c 47 62 cs EmptyEnd (eqb-true c 47 e) h refl refl)
    (λ _. one c 47 cs Slash e refl refl))

less_front : (c : ℕ) (cs : List ℕ) → (c == 60) ≡ true → HasSign (c ∷ cs) (less_at cs)
less_front c cs e =
    cond_both (begins 61 cs) Le (cond (begins 47 cs) EndTag Lt) (λ s. HasSign (c ∷ cs) s)
    (λ h. two c 60 61 cs Le (eqb-true c 60 e) h refl refl)
    (λ _. cond_both (begins 47 cs) EndTag Lt (λ s. HasSign (c ∷ cs) s)
    (λ h. two c 60 47 cs EndTag (eqb-true c 60 e) h refl refl)
    (λ _. one c 60 cs Lt e refl refl))

paren : (c : ℕ) (cs : List ℕ) → ((c == 40) && not (begins 58 cs)) ≡ true → HasSign (c ∷ cs) ParenOpen
paren c cs e =
    let both : ((c == 40) ≡ true) × (not (begins 58 cs) ≡ true) = and_parts (c == 40) (not (begins 58 cs)) e in
    one c 40 cs ParenOpen both.0 refl (not-true (begins 58 cs) both.1)

pair : (c d e : ℕ) (cs : List ℕ) (s : Sign) → ((c == d) && begins e cs) ≡ true → sign_chars s ≡ d ∷ e ∷ [] → opens_comment (d ∷ cs) ≡ false → HasSign (c ∷ cs) s
pair c d e cs s h is good =
    let both : ((c == d) ≡ true) × (begins e cs ≡ true) = and_parts (c == d) (begins e cs) h in
    two c d e cs s (eqb-true c d both.0) both.1 is good

else_ : (c : ℕ) (cs : List ℕ) (b : Bool) (s : Sign) (o : Option Sign) → (b ≡ true → HasSign (c ∷ cs) s) → SignFound (c ∷ cs) o → SignFound (c ∷ cs) (cond b (Some s) o)
else_ c cs true s o then rest = then refl
else_ c cs false s o then rest = rest

found : (text : List ℕ) → SignFound text (sign_at text)
found [] = tt
found (c ∷ cs) =
    else_ c cs _ ParenOpen _ (λ h. paren c cs h)
    (else_ c cs _ ParenClose _ (λ h. one c 41 cs ParenClose h refl refl)
    (else_ c cs _ BraceOpen _ (λ h. one c 123 cs BraceOpen h refl refl)
    (else_ c cs _ BraceClose _ (λ h. one c 125 cs BraceClose h refl refl)
    (else_ c cs _ Comma _ (λ h. one c 44 cs Comma h refl refl)
    (else_ c cs _ (slash_at cs) _ (λ h. slash_front c cs h)
    (else_ c cs _ Axis _ (λ h. pair c 58 58 cs Axis h refl refl)
    (else_ c cs _ Star _ (λ h. one c 42 cs Star h refl refl)
    (else_ c cs _ Eq _ (λ h. one c 61 cs Eq h refl refl)
    (else_ c cs _ Ne _ (λ h. pair c 33 61 cs Ne h refl refl)
    (else_ c cs _ (less_at cs) _ (λ h. less_front c cs h)
    (else_ c cs _ Ge _ (λ h. pair c 62 61 cs Ge h refl refl)
    (else_ c cs _ Gt _ (λ h. one c 62 cs Gt h refl refl) tt))))))))))))

pub sign_front : (text : List ℕ) (s : Sign) → sign_at text ≡ Some s → HasSign text s
sign_front text s e = subst (λ (o : Option Sign). SignFound text o) e (found text)

-- A sign at the front is found, or a longer one.
pub record Longer (text : List ℕ) (found s : Sign) (rest : List ℕ) : Type 0 where
  pub tail : List ℕ
  pub chars : text ≡ sign_chars found ++ tail
  pub short : length tail ≤ length rest
  pub same : length tail ≡ length rest → s ≡ found

abbrev pub IsLonger : List ℕ → Option Sign → Sign → List ℕ → Type 0
IsLonger text None s rest = ⊥
IsLonger text (Some found) s rest = Longer text found s rest

it : (s : Sign) (rest : List ℕ) → Longer (sign_chars s ++ rest) s s rest
it s rest = record { tail = rest; chars = refl; short = omega arith; same = λ _. refl }

-- a sign of one character behind which another might stand
more : (c e : ℕ) (s t : Sign) (rest : List ℕ) → begins e rest ≡ true → sign_chars t ≡ c ∷ e ∷ [] → Longer (c ∷ rest) t s rest
more c e s t rest next is =
    let m : (r : List ℕ) × (rest ≡ e ∷ r) = begins_with e rest next in
    record {
      tail = m.0;
      chars = ap (λ (x : List ℕ). c ∷ x) m.1 ∙ ap (λ (x : List ℕ). x ++ m.0) (sym is);
      short = subst (λ (x : List ℕ). length m.0 ≤ length x) (sym m.1) (omega arith);
      same = λ h. absurd (let k : length m.0 ≡ length (e ∷ m.0) = h ∙ ap length m.1 in omega (arith, k));
    }

longer_slash : (rest : List ℕ) → Longer (47 ∷ rest) (slash_at rest) Slash rest
longer_slash rest =
    cond_both (begins 47 rest) SlashSlash (cond (begins 62 rest) EmptyEnd Slash) (λ s. Longer (47 ∷ rest) s Slash rest)
    (λ h. more 47 47 Slash SlashSlash rest h refl)
    (λ _. cond_both (begins 62 rest) EmptyEnd Slash (λ s. Longer (47 ∷ rest) s Slash rest)
    (λ h. more 47 62 Slash EmptyEnd rest h refl) (λ _. it Slash rest))

longer_less : (rest : List ℕ) → Longer (60 ∷ rest) (less_at rest) Lt rest
longer_less rest =
    cond_both (begins 61 rest) Le (cond (begins 47 rest) EndTag Lt) (λ s. Longer (60 ∷ rest) s Lt rest)
    (λ h. more 60 61 Lt Le rest h refl)
    (λ _. cond_both (begins 47 rest) EndTag Lt (λ s. Longer (60 ∷ rest) s Lt rest)
    (λ h. more 60 47 Lt EndTag rest h refl) (λ _. it Lt rest))

longer_greater : (rest : List ℕ) → IsLonger (62 ∷ rest) (cond (begins 61 rest) (Some Ge) (Some Gt)) Gt rest
longer_greater rest =
    cond_both (begins 61 rest) (Some Ge) (Some Gt) (λ o. IsLonger (62 ∷ rest) o Gt rest)
    (λ h. more 62 61 Gt Ge rest h refl) (λ _. it Gt rest)

longer_paren : (rest : List ℕ) (b : Bool) (o : Option Sign) → b ≡ false → IsLonger (40 ∷ rest) (cond (not b) (Some ParenOpen) o) ParenOpen rest
longer_paren rest true o e = cc (e)
longer_paren rest false o e = it ParenOpen rest

pub sign_longer : (s : Sign) (rest : List ℕ) → opens_comment (sign_chars s ++ rest) ≡ false → IsLonger (sign_chars s ++ rest) (sign_at (sign_chars s ++ rest)) s rest
sign_longer ParenOpen rest good = longer_paren rest (begins 58 rest) _ good
sign_longer ParenClose rest good = it ParenClose rest
sign_longer BraceOpen rest good = it BraceOpen rest
sign_longer BraceClose rest good = it BraceClose rest
sign_longer Comma rest good = it Comma rest
sign_longer Slash rest good = longer_slash rest
sign_longer SlashSlash rest good = it SlashSlash rest
sign_longer Axis rest good = it Axis rest
sign_longer Star rest good = it Star rest
sign_longer Eq rest good = it Eq rest
sign_longer Ne rest good = it Ne rest
sign_longer Lt rest good = longer_less rest
sign_longer Le rest good = it Le rest
sign_longer Gt rest good = longer_greater rest
sign_longer Ge rest good = it Ge rest
sign_longer EndTag rest good = it EndTag rest
sign_longer EmptyEnd rest good = it EmptyEnd rest
