-- From clap's getters to the rows.
use Rattle.std.proofs.Common.{◌≡◌, ℕ, Bool, true, false, List, [], ◌∷◌, Option, Some, None, Result, Ok, Err, cond, refl, sym, ap, subst, ◌∙◌, arith}
use Rattle.std.specs.Prelude.{option_and_then}
use Rattle.std.specs.Str.Parse.{ParsesUnsigned, digits_value, without_leading_plus}
use Rattle.clap.specs.Words.{Text, Row, one_text, rows_of}
use Rattle.clap.specs.Matches.{ReadsOne}
use Rattle.clap.specs.ValueTests.{is_unsigned_in}
use Rattle.clap.specs.declared.builder.ValueParser.TheVariants as vp
use Rattle.clap.specs.declared.parser.matches.Found.{Found}
use Rattle.clap.proofs.ValueTestLemmas.{accepts-Accepts, Accepts-accepts}
use Rattle.clap.proofs.WalkLemmas.{one_text-rows}
use Rattle.gcx_words.specs.Rows.{read_number, any_number_at, found_by, found_if, rows_found}
use Rattle.gcx_words.specs.Words.{app_by}
use Rattle.gcx_words.specs.declared.command.CommandName.{CommandName}
use Rattle.gcx_words.specs.declared.command.CommandName.TheVariants as name
use Rattle.std.specs.Prelude.{IfOk}
use Rattle.std.proofs.Common.{inl, inr, ap₂}
use Rattle.clap.specs.Words.{App, is_simple, is_simple_and_free, fault_of, matches_of, HasMatchesOf, FailsBy, HasKind, Kinds, kind_of}
use Rattle.clap.specs.declared.parser.ArgMatches.{ArgMatches}
use Rattle.clap.specs.declared.error.Error.{Error}
use Rattle.clap.specs.declared.error.ErrorKind.TheVariants.{OutOfMemory}
use Rattle.clap.proofs.OnLiterals.{clap_on_literals}
use Rattle.clap.proofs.WalkLemmas.{both}

-- what `get_one::<u64>` reads of a text
pub number_read : {E : Type 0} (G : List ℕ → Result ℕ E → Type 0) → ((u : List ℕ) (x : Result ℕ E) → G u x → ParsesUnsigned 64 10 u x)
    → (t : Text) (r : Option ℕ) → ReadsOne G t r → r ≡ read_number t
number_read G only t (Some v) h =
    let parsed = only t (Ok v) h in
    let yes : is_unsigned_in 0 18446744073709551615 t ≡ true = Accepts-accepts false (vp.Unsigned 0 18446744073709551615) t (parsed.0.0, parsed.0.1, omega arith, omega (arith, parsed.0.1)) in
    ap Some parsed.1 ∙ sym (ap (λ b. cond b (Some (digits_value 10 (without_leading_plus t))) None) yes)
number_read G only t None h = go (is_unsigned_in 0 18446744073709551615 t) refl
  where
    go : (b : Bool) → is_unsigned_in 0 18446744073709551615 t ≡ b → None ≡ cond b (Some (digits_value 10 (without_leading_plus t))) None
    go true e =
        let a = accepts-Accepts false (vp.Unsigned 0 18446744073709551615) t e in
        absurd (only t (Err h.0) h.1 (a.0, a.1))
    go false e = refl

-- what `get_one::<u64>(id)` answers
pub number_found : {E : Type 0} (G : List ℕ → Result ℕ E → Type 0) → ((u : List ℕ) (x : Result ℕ E) → G u x → ParsesUnsigned 64 10 u x)
    → (f : Found) (id : Text) (r : Option ℕ) → (one_text f id ≡ None → r ≡ None) → ((t : Text) → one_text f id ≡ Some t → ReadsOne G t r)
    → r ≡ any_number_at id (rows_of f)
number_found {E} G only f id r none value = subst (λ o. r ≡ option_and_then read_number o) (one_text-rows f id) (go (one_text f id) refl)
  where
    go : (o : Option Text) → one_text f id ≡ o → r ≡ option_and_then read_number o
    go None e = none e
    go (Some t) e = number_read G only t r (value t e)

-- clap's definition of a simple command speaks of these
pub takes : (n : CommandName) → is_simple_and_free (app_by n) ≡ true
unfolding clap_on_literals
takes name.Run = refl
takes name.Whole = refl
takes name.Explain = refl
takes name.Peak = refl
takes name.Gen = refl
takes name.Selfrun = refl
takes name.Many = refl
takes name.Check = refl

simple_part : (app : App) → is_simple_and_free app ≡ true → is_simple app ≡ true
simple_part app e = (both _ _ e).0

-- what a parse of a simple command finds, and that it takes the words
pub found_rows : (app : App) → is_simple_and_free app ≡ true → (words : List Text) (r : Result ArgMatches Error) (m : ArgMatches)
    → r ≡ Ok m → (is_simple_and_free app ≡ true → FailsBy (fault_of app words) r) → IfOk r (HasMatchesOf app words)
    → rows_found (Some m) ≡ found_by app words
unfolding found_by
found_rows app free words r m is fails has =
    let none : fault_of app words ≡ [] = subst (λ x. FailsBy (fault_of app words) x) is (fails free) in
    let rows = (subst (λ x. IfOk x (HasMatchesOf app words)) is has) (simple_part app free) in
    sym (ap₂ found_if none (sym rows.0))

-- and where it fails, for want of memory or since it doesn't take the words
pub refused_rows : (app : App) → is_simple_and_free app ≡ true → (words : List Text) (r : Result ArgMatches Error) (e : Error)
    → r ≡ Err e → (is_simple_and_free app ≡ true → FailsBy (fault_of app words) r) → (kind_of e ≡ OutOfMemory → ⊥) → rows_found None ≡ found_by app words
unfolding found_by
refused_rows app free words r e is fails other = sym (go (fault_of app words) (matches_of app words) (subst (λ x. FailsBy (fault_of app words) x) is (fails free)))
  where
    go : (kinds : Kinds) (rows : List Row) → HasKind kinds e → found_if kinds rows ≡ None
    go [] rows (inl m) = absurd (other m)
    go [] rows (inr bad) = absurd bad
    go (k ∷ ks) rows h = refl
