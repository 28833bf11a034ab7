-- Each reference is read.
use Rattle.std.proofs.Common.{ℕ, ◌≡◌, ◌≤◌, true, List, [], ◌∷◌, ◌++◌, Some, refl, sym, ap, ◌∙◌, append_assoc, append-nil, arith}
use Rattle.std.proofs.lemmas.Bool.{false≢true}
use Rattle.gcx_model.specs.References.{entity_name, no_digit, digit, digits_spelling, Digits, Reference, named, decimal_reference, hexadecimal_reference, reference_spelling, reference_char, IsReference, BegunReference, letters, number, decimals, hexadecimals, begun_spelling, begins_entity, IsBegun, value_in}
use Rattle.doc_laws.specs.Machine.{More, Done, State, refer, step, steps}
use Rattle.doc_laws.specs.States.{referring}
use Rattle.doc_laws.proofs.References.{name_on, name_done, begins_whole, begins_front, first_decimal, decimal_on, hexadecimal_on, decimal_done, hexadecimal_done, char_value, value_shorter}
use Rattle.doc_laws.proofs.Moves.{steps_on_to, step_to, step_end}

module _ (at : BegunReference → State) (on : (r q : BegunReference) (c : ℕ) → refer (referring r) c ≡ More (referring q) → step (at r) c ≡ Some (at q)) where
  name_walk : (p m : List ℕ) → begins_entity (p ++ m) ≡ true → steps (at (letters p)) m ≡ Some (at (letters (p ++ m)))
  name_walk p [] h = ap (λ l. Some (at (letters l))) (sym (append-nil p))
  name_walk p (c ∷ m) h =
      let h1 : begins_entity ((p ++ c ∷ []) ++ m) ≡ true = ap begins_entity (append_assoc p (c ∷ []) m) ∙ h in
      step_to (at (letters p)) (at (letters (p ++ c ∷ []))) c m _ (on (letters p) (letters (p ++ c ∷ [])) c (name_on p c (begins_front (p ++ c ∷ []) m h1)))
      (name_walk (p ++ c ∷ []) m h1 ∙ ap (λ l. Some (at (letters l))) (append_assoc p (c ∷ []) m))

  number_walk : steps (at (letters [])) (35 ∷ []) ≡ Some (at number)
  number_walk = step_end (at (letters [])) (at number) 35 (on (letters []) number 35 refl)

  decimal_walk : (ds : Digits) (c : ℕ) → IsBegun (decimals ds c) → steps (at (letters [])) (35 ∷ digits_spelling (digit ds c)) ≡ Some (at (decimals ds c))
  decimal_walk no_digit c g = steps_on_to (at (letters [])) (at number) (35 ∷ []) (c ∷ []) _ number_walk (step_end (at number) (at (decimals no_digit c)) c (on number (decimals no_digit c) c (first_decimal c g.0.1 g.1)))
  decimal_walk (digit ds d) c g =
      let one : 1 ≤ 10 = omega arith in
      steps_on_to (at (letters [])) (at (decimals ds d)) (35 ∷ digits_spelling (digit ds d)) (c ∷ []) _ (decimal_walk ds d (g.0.0, value_shorter 10 (digit ds d) c one g.1))
      (step_end (at (decimals ds d)) (at (decimals (digit ds d) c)) c (on (decimals ds d) (decimals (digit ds d) c) c (decimal_on ds d c g.0.1 g.1)))

  hexadecimal_walk : (ds : Digits) → IsBegun (hexadecimals ds) → steps (at (letters [])) (35 ∷ (120 ∷ digits_spelling ds)) ≡ Some (at (hexadecimals ds))
  hexadecimal_walk no_digit g = steps_on_to (at (letters [])) (at number) (35 ∷ []) (120 ∷ []) _ number_walk (step_end (at number) (at (hexadecimals no_digit)) 120 (on number (hexadecimals no_digit) 120 refl))
  hexadecimal_walk (digit ds c) g =
      let one : 1 ≤ 16 = omega arith in
      steps_on_to (at (letters [])) (at (hexadecimals ds)) (35 ∷ (120 ∷ digits_spelling ds)) (c ∷ []) _ (hexadecimal_walk ds (g.0.0, value_shorter 16 ds c one g.1))
      (step_end (at (hexadecimals ds)) (at (hexadecimals (digit ds c))) c (on (hexadecimals ds) (hexadecimals (digit ds c)) c (hexadecimal_on ds c g.0.1 g.1)))

  pub begun_steps : (s : State) → step s 38 ≡ Some (at (letters [])) → (r : BegunReference) → IsBegun r → steps s (begun_spelling r) ≡ Some (at r)
  begun_steps s e (letters m) g = step_to s (at (letters [])) 38 m _ e (name_walk [] m g)
  begun_steps s e number g = step_to s (at (letters [])) 38 (35 ∷ []) _ e number_walk
  begun_steps s e (decimals ds c) g = step_to s (at (letters [])) 38 (35 ∷ digits_spelling (digit ds c)) _ e (decimal_walk ds c g)
  begun_steps s e (hexadecimals ds) g = step_to s (at (letters [])) 38 (35 ∷ (120 ∷ digits_spelling ds)) _ e (hexadecimal_walk ds g)

  pub referred_steps : (s u : State) → step s 38 ≡ Some (at (letters [])) → (t : Reference) → IsReference t → ((r : BegunReference) → refer (referring r) 59 ≡ Done (reference_char t) → step (at r) 59 ≡ Some u) → steps s (reference_spelling t) ≡ Some u
  referred_steps s u e (named n) g h =
      steps_on_to s (at (letters (entity_name n))) (38 ∷ entity_name n) (59 ∷ []) _ (begun_steps s e (letters (entity_name n)) (begins_whole n))
      (step_end (at (letters (entity_name n))) u 59 (h (letters (entity_name n)) (name_done n)))
  referred_steps s u e (decimal_reference no_digit) g h = absurd (false≢true g.1)
  referred_steps s u e (decimal_reference (digit ds c)) g h =
      steps_on_to s (at (decimals ds c)) (38 ∷ (35 ∷ digits_spelling (digit ds c))) (59 ∷ []) _ (begun_steps s e (decimals ds c) (g.0, char_value (value_in 10 (digit ds c)) g.1))
      (step_end (at (decimals ds c)) u 59 (h (decimals ds c) (decimal_done ds c g.1)))
  referred_steps s u e (hexadecimal_reference ds) g h =
      steps_on_to s (at (hexadecimals ds)) (38 ∷ (35 ∷ (120 ∷ digits_spelling ds))) (59 ∷ []) _ (begun_steps s e (hexadecimals ds) (g.0, char_value (value_in 16 ds) g.1))
      (step_end (at (hexadecimals ds)) u 59 (h (hexadecimals ds) (hexadecimal_done ds g.1)))
