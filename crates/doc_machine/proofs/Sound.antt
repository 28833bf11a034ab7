-- What stays true of the machine's states, and which tokens a step leaves.
use Rattle.std.proofs.Common.{ℕ, ◌≡◌, ◌+◌, ◌⊎◌, inl, inr, Bool, true, false, not, ◌&&◌, cond, eqb, List, [], ◌∷◌, ◌++◌, Option, Some, None, Result, Ok, Err, refl, sym, ap, ◌∙◌, subst, append-nil, arith, eqb-true, length}
use Rattle.std.specs.Prelude.{nat_lt}
use Rattle.std.specs.Char.{len_utf8}
use Rattle.std.specs.List.{list_all}
use Rattle.std.proofs.lemmas.Bool.{false≢true, cond-false, and_from}
use Rattle.std.proofs.lemmas.Bool.Decides.{nat_tests}
use Rattle.std.proofs.lemmas.Str.{encodes-append}
use Rattle.std.proofs.lemmas.List.Folds.{list_all-append}
use lib.Utf8.{encode, encodes}
use Rattle.gcx_base.specs.Characters.{is_char, is_white, is_start_char, is_part_char}
use Rattle.gcx_base.specs.Name.{is_name, IsNameBytes}
use Rattle.gcx_base.specs.declared.limits.Limits.{Limits}
use Rattle.gcx_model.specs.Attributes.{is_text_char, is_value_char, is_quote, is_fresh}
use Rattle.gcx_model.specs.Markup.{is_doc_char, is_literal_char}
use Rattle.gcx_model.specs.Grammar.{may_open}
use Rattle.gcx_model.specs.Fronts.{is_inside}
use Rattle.gcx_model.specs.Faults.{DocumentRefusal, AtDepth, AtName, AtText}
use Rattle.doc_laws.specs.Machine.{Referred, More, Done, Bad, ReferenceRead, MachineMode, Opening, Between, Less, StartName, StartSpace, AttributeName, AttributeSpace, Equals, InValue, InValueReference, ValueEnd, Slash, EndName, EndSpace, Question, Target, TargetMark, InInstruction, DocWord, DocSpace, Doc, DocLiteral, Bang, BangDash, Comment, CommentDash, CommentEnd, CDSectWord, InCDSect, InReference, State, begun, to_mode, run_on, to_end_name, behind, refer, on_between, on_tag, on_named, on_referred, on_ended, on_end, on_word, on_mode, step}
use Rattle.doc_laws.specs.Judging.{naming_by, is_deep, deep_place, judged_by, judged, judged_steps, on_ok}
use Rattle.doc_machine.specs.Sound.{IsSoundIn, IsSound}
use Rattle.doc_machine.specs.Steps.{Taken}
use Rattle.doc_machine.specs.Limited.{deep_at, in_depth, limited}

and_left : (a b : Bool) → a && b ≡ true → a ≡ true
and_left true b e = refl
and_left false b e = absurd (false≢true e)

-- a name's first character, and one more
one_name : (c : ℕ) → is_start_char c ≡ true → IsNameBytes (encode c)
one_name c h = record { chars = c ∷ []; name = and_from (is_start_char c) true h refl; parts = append-nil (encode c) }

more_name : (n : List ℕ) (c : ℕ) → IsNameBytes n → is_part_char c ≡ true → IsNameBytes (n ++ encode c)
more_name n c is h = record {
  chars = is.chars ++ (c ∷ []);
  name = by is.chars is.name;
  parts = encodes-append is.chars (c ∷ []) ∙ ap (λ b. encodes is.chars ++ b) (append-nil (encode c)) ∙ ap (λ b. b ++ encode c) is.parts;
}
  where
    by : (cs : List ℕ) → is_name cs ≡ true → is_name (cs ++ (c ∷ [])) ≡ true
    by [] e = absurd (false≢true e)
    by (d ∷ ds) e =
        and_from (is_start_char d) _ (and_left (is_start_char d) _ e)
        (list_all-append is_part_char ds (c ∷ []) ∙ and_from (list_all is_part_char ds) _ (right (is_start_char d) _ e) (and_from (is_part_char c) true h refl))
      where
        right : (a b : Bool) → a && b ≡ true → b ≡ true
        right true b e = e
        right false b e = absurd (false≢true e)

-- the tokens of the whole tags are the same, or a tag ended
abbrev pub Keeps : State → ℕ → State → Type 0
Keeps s c t = (t.tokens ≡ s.tokens) ⊎ ((c ≡ 62) × (t.run ≡ []) × (t.mode ≡ Between))

abbrev pub Next : State → ℕ → Option State → Type 0
Next s c None = Unit {0}
Next s c (Some t) = IsSound t × Keeps s c t

pick : (s : State) (c : ℕ) (b : Bool) (x y : Option State) → (b ≡ true → Next s c x) → (b ≡ false → Next s c y) → Next s c (cond b x y)
pick s c true x y h k = h refl
pick s c false x y h k = k refl

either : (s : State) (c : ℕ) (b : Bool) (x y : Option State) → Next s c x → Next s c y → Next s c (cond b x y)
either s c true x y h k = h
either s c false x y h k = k

tag_next : (s : State) (c : ℕ) → s.run ≡ [] → Next s c (on_tag s c)
tag_next s c e =
    either s c (is_white c) _ _ (e, inl refl)
    (pick s c (eqb c 62) _ _ (λ h. (refl, inr (eqb-true c 62 h, e, refl)))
    (λ k. either s c (eqb c 47) _ _ (e, inl refl) tt))

named_next : (s : State) (c : ℕ) → IsNameBytes s.attr → Next s c (on_named s c)
named_next s c n = either s c (is_white c) _ _ (n, inl refl) (either s c (eqb c 61) _ _ (n, inl refl) tt)

between_next : (s : State) (c : ℕ) → s.pending ≡ [] → Next s c (on_between s c)
between_next s c h =
    either s c (is_text_char c && is_inside s.names) _ _ (h, inl refl)
    (either s c (is_white c && not (is_inside s.names)) _ _ (h, inl refl)
    (either s c (eqb c 60) _ _ (h, inl refl) (either s c (eqb c 38 && is_inside s.names) _ _ (h, inl refl) tt)))

ended_next : (s : State) (c : ℕ) (ns : List (List ℕ)) → s.pending ≡ [] → Next s c (on_ended s c ns)
ended_next s c [] h = tt
ended_next s c (n ∷ rest) h =
    either s c (is_white c) _ _ (h, inl refl)
    (pick s c (eqb c 62) _ _ (λ k. (h, inr (eqb-true c 62 k, refl, refl))) (λ k. tt))

end_next : (s : State) (c : ℕ) (left : List ℕ) → s.pending ≡ [] → Next s c (on_end s left c)
end_next s c [] h = ended_next s c s.names h
end_next s c (x ∷ left) h = by (behind (encode c) (x ∷ left))
  where
    by : (o : Option (List ℕ)) → Next s c (to_end_name s o)
    by None = tt
    by (Some l) = (h, inl refl)

word_next : (s : State) (c : ℕ) (mk : List ℕ → MachineMode) (left : List ℕ) (after : Option State) → ((l : List ℕ) → Next s c (to_mode s (mk l))) → Next s c after → Next s c (on_word s c mk left after)
word_next s c mk [] after h k = k
word_next s c mk (d ∷ left) after h k = either s c (eqb c d) _ _ (h left) tt

referred_next : (s : State) (c : ℕ) (mk : ReferenceRead → MachineMode) (behind : MachineMode) (r : Referred) → ((r : ReferenceRead) → Next s c (to_mode s (mk r))) → ((b : List ℕ) → Next s c (run_on s behind b)) → Next s c (on_referred s mk behind r)
referred_next s c mk behind (More r) h k = h r
referred_next s c mk behind (Done d) h k = k (encode d)
referred_next s c mk behind Bad h k = tt

still : (s t : State) (m : MachineMode) → s.mode ≡ m → t.mode ≡ s.mode → IsSoundIn m t → IsSound t
still s t m e same h = subst (λ n. IsSoundIn n t) (sym (same ∙ e)) h

mode_next : (m : MachineMode) (s : State) (c : ℕ) → s.mode ≡ m → IsSoundIn m s → Next s c (on_mode s c m)
mode_next Opening s c e h = either s c (eqb c 65279) _ _ (h, inl refl) (between_next s c h)
mode_next Between s c e h = between_next s c h
mode_next Less s c e h =
    pick s c (is_start_char c && may_open (is_inside s.names) s.rooted) _ _ (λ k. ((one_name c (and_left (is_start_char c) _ k), h), inl refl))
    (λ k. either s c (eqb c 47 && is_inside s.names) _ _ (h, inl refl)
    (either s c (eqb c 33) _ _ (h, inl refl) (either s c (eqb c 63) _ _ (h, inl refl) tt)))
mode_next StartName s c e h =
    pick s c (is_part_char c) _ _ (λ k. (still s (record s { name = s.name ++ encode c }) StartName e refl (more_name s.name c h.0 k, h.1), inl refl))
    (λ k. tag_next (begun s) c refl)
mode_next StartSpace s c e h =
    pick s c (is_start_char c) _ _ (λ k. (one_name c k, inl refl)) (λ k. tag_next s c h)
mode_next AttributeName s c e h =
    pick s c (is_part_char c) _ _ (λ k. (still s (record s { attr = s.attr ++ encode c }) AttributeName e refl (more_name s.attr c h k), inl refl))
    (λ k. either s c (is_fresh s.attr s.attrs) _ _ (named_next s c h) tt)
mode_next AttributeSpace s c e h = named_next s c h
mode_next Equals s c e h = either s c (is_white c) _ _ (h, inl refl) (either s c (is_quote c) _ _ (h, inl refl) tt)
mode_next (InValue q) s c e h =
    either s c (is_value_char q c) _ _ (h, inl refl)
    (either s c (eqb c q) _ _ (refl, inl refl) (either s c (eqb c 38) _ _ (h, inl refl) tt))
mode_next (InValueReference q r) s c e h = referred_next s c (InValueReference q) (InValue q) (refer r c) (λ r. (h, inl refl)) (λ b. (h, inl refl))
mode_next ValueEnd s c e h = tag_next s c h
mode_next Slash s c e h = pick s c (eqb c 62) _ _ (λ k. (refl, inr (eqb-true c 62 k, h, refl))) (λ k. tt)
mode_next (EndName left) s c e h = end_next s c left h
mode_next EndSpace s c e h = ended_next s c s.names h
mode_next Question s c e h = either s c (is_start_char c) _ _ (h, inl refl) tt
mode_next Target s c e h =
    either s c (is_part_char c) _ _ (h, inl refl) (either s c (is_white c) _ _ (h, inl refl) (either s c (eqb c 63) _ _ (h, inl refl) tt))
mode_next TargetMark s c e h = either s c (eqb c 62) _ _ (h, inl refl) tt
mode_next (InInstruction m) s c e h = either s c (eqb c 62 && eqb m 1) _ _ (h, inl refl) (either s c (is_char c) _ _ (h, inl refl) tt)
mode_next (DocWord left) s c e h = word_next s c DocWord left _ (λ l. (h, inl refl)) (either s c (is_white c) _ _ (h, inl refl) tt)
mode_next DocSpace s c e h = either s c (is_white c) _ _ (h, inl refl) (either s c (is_start_char c) _ _ (h, inl refl) tt)
mode_next Doc s c e h =
    either s c (is_doc_char c) _ _ (h, inl refl) (either s c (eqb c 62) _ _ (h, inl refl) (either s c (is_quote c) _ _ (h, inl refl) tt))
mode_next (DocLiteral q) s c e h = either s c (is_literal_char q c) _ _ (h, inl refl) (either s c (eqb c q) _ _ (h, inl refl) tt)
mode_next Bang s c e h =
    either s c (eqb c 45) _ _ (h, inl refl)
    (either s c (eqb c 91 && is_inside s.names) _ _ (h, inl refl) (either s c (eqb c 68 && not s.typed) _ _ (h, inl refl) tt))
mode_next BangDash s c e h = either s c (eqb c 45) _ _ (h, inl refl) tt
mode_next Comment s c e h = either s c (eqb c 45) _ _ (h, inl refl) (either s c (is_char c) _ _ (h, inl refl) tt)
mode_next CommentDash s c e h = either s c (eqb c 45) _ _ (h, inl refl) (either s c (is_char c) _ _ (h, inl refl) tt)
mode_next CommentEnd s c e h = either s c (eqb c 62) _ _ (h, inl refl) tt
mode_next (CDSectWord left) s c e h = word_next s c CDSectWord left _ (λ l. (h, inl refl)) (either s c (eqb c 91) _ _ (h, inl refl) tt)
mode_next (InCDSect n) s c e h =
    either s c (eqb c 93) _ _ (h, inl refl)
    (either s c (eqb c 62 && eqb n 2) _ _ (h, inl refl) (either s c (is_char c) _ _ (h, inl refl) tt))
mode_next (InReference r) s c e h = referred_next s c InReference Between (refer r c) (λ r. (h, inl refl)) (λ b. (h, inl refl))

pub step_next : (s : State) (c : ℕ) → IsSound s → Next s c (step s c)
step_next s c h = mode_next s.mode s c refl h

pub step_good : (s t : State) (c : ℕ) → IsSound s → step s c ≡ Some t → IsSound t × Keeps s c t
step_good s t c h e = subst (Next s c) e (step_next s c h)

-- ---- limits

pub limited_is : (lim : Limits) (place : ℕ) (s t : State) (c : ℕ) → judged_by lim place s c (Some t) ≡ limited lim place (deep_at lim place s c) t
limited_is lim place s t c =
    let last : Result State DocumentRefusal = cond (nat_lt lim.name (length (naming_by t.mode t))) (Err (AtName place)) (Ok t) in
    ap (λ (r : Result State DocumentRefusal). cond (nat_lt lim.text (length t.run)) (Err (AtText place)) r) (by (is_deep lim s c) last)
  where
    by : (b : Bool) (r : Result State DocumentRefusal) → cond b (Err (AtDepth (deep_place place s.mode))) r ≡ in_depth (cond b (Some (deep_place place s.mode)) None) r
    by true r = refl
    by false r = refl

not_below : (n : ℕ) → nat_lt n 0 ≡ false
not_below n = grind (arith, nat_tests)

-- where a tag ends no limit is passed
end_passes : (lim : Limits) (place : ℕ) (s t : State) (c : ℕ) → c ≡ 62 → t.run ≡ [] → t.mode ≡ Between → judged_by lim place s c (Some t) ≡ Ok t
end_passes lim place s t c is r m =
    cond-false (nat_lt lim.text (length t.run)) _ _ (ap (λ l. nat_lt lim.text (length l)) r ∙ not_below lim.text)
    ∙ cond-false (is_deep lim s c) _ _ (ap (λ d. is_deep lim s d) is)
    ∙ cond-false (nat_lt lim.name (length (naming_by t.mode t))) _ _ (ap (λ n. nat_lt lim.name (length (naming_by n t))) m ∙ not_below lim.name)

ok_not_err : (t : State) (f : DocumentRefusal) → Ok t ≡ Err f → ⊥
ok_not_err t f e = cc

-- where a limit is passed the tokens of the whole tags are the same
pub refused_keeps : (lim : Limits) (place : ℕ) (s t : State) (c : ℕ) (f : DocumentRefusal) → IsSound s → step s c ≡ Some t → judged_by lim place s c (Some t) ≡ Err f → t.tokens ≡ s.tokens
refused_keeps lim place s t c f h e g =
    elim ((step_good s t c h e).1) [
      | inl same ↦ same
      | inr end ↦ absurd (ok_not_err t f (sym (end_passes lim place s t c end.0 end.1 end.2) ∙ g))
    ]

pub taken_true : (b : Bool) (old : State) (o : Option State) (new : State) → Taken b old o new → b ≡ true → o ≡ Some new
taken_true true old o new h e = h
taken_true false old o new h e = absurd (false≢true e)

pub judged_is : (lim : Limits) (place : ℕ) (s t : State) (c : ℕ) (deep : Option ℕ) → step s c ≡ Some t → deep ≡ deep_at lim place s c → judged lim place s c ≡ limited lim place deep t
judged_is lim place s t c deep e d = ap (judged_by lim place s c) e ∙ limited_is lim place s t c ∙ ap (λ x. limited lim place x t) (sym d)

pub judged_keeps : (lim : Limits) (place : ℕ) (s t : State) (c : ℕ) (f : DocumentRefusal) → IsSound s → step s c ≡ Some t → judged lim place s c ≡ Err f → t.tokens ≡ s.tokens
judged_keeps lim place s t c f h e g = refused_keeps lim place s t c f h e (sym (ap (judged_by lim place s c) e) ∙ g)

judged_step : (lim : Limits) (place : ℕ) (s t : State) (c : ℕ) → judged lim place s c ≡ Ok t → step s c ≡ Some t
judged_step lim place s t c e = by (step s c) e
  where
    err_not : (f : DocumentRefusal) → Err f ≡ Ok t → ⊥
    err_not f e = cc

    within : (a b d : Bool) (f g h : DocumentRefusal) (u : State) → cond a (Err f) (cond b (Err g) (cond d (Err h) (Ok u))) ≡ Ok t → u ≡ t
    within true b d f g h u e = absurd (err_not f e)
    within false true d f g h u e = absurd (err_not g e)
    within false false true f g h u e = absurd (err_not h e)
    within false false false f g h u e = cc

    by : (o : Option State) → judged_by lim place s c o ≡ Ok t → o ≡ Some t
    by None e = absurd (err_not _ e)
    by (Some u) e = ap Some (within (nat_lt lim.text (length u.run)) (is_deep lim s c) (nat_lt lim.name (length (naming_by u.mode u))) _ _ _ u e)

pub judged_sound : (lim : Limits) (place : ℕ) (s t : State) (c : ℕ) → IsSound s → judged lim place s c ≡ Ok t → IsSound t
judged_sound lim place s t c h e = (step_good s t c h (judged_step lim place s t c e)).0

pub err_not : (f : DocumentRefusal) (t : State) → Err f ≡ Ok t → ⊥
err_not f t e = cc

pub steps_sound : (lim : Limits) (place : ℕ) (s t : State) (cs : List ℕ) → IsSound s → judged_steps lim place s cs ≡ Ok t → IsSound t
steps_sound lim place s t [] h e = let same : s ≡ t = cc in subst IsSound same h
steps_sound lim place s t (c ∷ cs) h e =
    elim (judged lim place s c) as (λ (r : Result State DocumentRefusal). judged lim place s c ≡ r → on_ok r (λ u. judged_steps lim (place + len_utf8 c) u cs) ≡ Ok t → IsSound t) [
      | Ok u ↦ λ f g. steps_sound lim (place + len_utf8 c) u t cs (judged_sound lim place s u c h f) g
      | Err f ↦ λ k g. absurd (err_not f t g)
    ] refl e
