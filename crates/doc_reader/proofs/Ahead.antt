-- Steps don't look at the tokens of whole tags: those that were given may stand before them.
use Rattle.std.proofs.Common.{ℕ, ◌≡◌, ◌+◌, Result, Ok, Err, Bool, true, false, not, ◌&&◌, eqb, cond, List, [], ◌∷◌, ◌++◌, length, Option, Some, None, refl, ap, ◌∙◌, append_assoc}
use Rattle.std.specs.Prelude.{nat_lt}
use Rattle.std.specs.Char.{len_utf8}
use lib.Utf8.{encode}
use Rattle.gcx_base.specs.Characters.{is_char, is_white, is_start_char, is_part_char}
use Rattle.gcx_base.specs.declared.limits.Limits.{Limits}
use Rattle.gcx_model.specs.Tree.{TreeToken, End}
use Rattle.gcx_model.specs.Attributes.{is_text_char, is_value_char, is_quote, is_fresh}
use Rattle.gcx_model.specs.Markup.{is_doc_char, is_literal_char}
use Rattle.gcx_model.specs.Grammar.{may_open}
use Rattle.gcx_model.specs.Fronts.{is_inside, text_of}
use Rattle.gcx_model.specs.Faults.{DocumentRefusal, AtText, AtDepth, AtName}
use Rattle.doc_laws.specs.Machine.{Referred, More, Done, Bad, ReferenceRead, MachineMode, Opening, Between, Less, StartName, StartSpace, AttributeName, AttributeSpace, Equals, InValue, InValueReference, ValueEnd, Slash, EndName, EndSpace, Question, Target, TargetMark, InInstruction, DocWord, DocSpace, Doc, DocLiteral, Bang, BangDash, Comment, CommentDash, CommentEnd, CDSectWord, InCDSect, InReference, State, begun, opened, emptied, closed, on_between, on_tag, on_named, on_ended, on_referred, refer, behind, to_end_name, on_end, on_word, on_mode, step}
use Rattle.doc_laws.specs.Judging.{naming_by, is_deep, deep_place, judged_by, judged, on_ok, judged_steps}
use Rattle.doc_reader.specs.Standing.{with_given}

abbrev pub ahead : List TreeToken → Option State → Option State
ahead before None = None
ahead before (Some s) = Some (with_given before s)

abbrev pub ahead_ok : List TreeToken → Result State DocumentRefusal → Result State DocumentRefusal
ahead_ok before (Ok s) = Ok (with_given before s)
ahead_ok before (Err f) = Err f

module _ (before : List TreeToken) where
  -- the second is the first with the tokens before it
  abbrev Follows : Option State → Option State → Type 0
  Follows o p = p ≡ ahead before o

  f_cond : (b : Bool) (x y p q : Option State) → Follows x p → Follows y q → Follows (cond b x y) (cond b p q)
  f_cond true x y p q h k = h
  f_cond false x y p q h k = k

  f1 : (a : Bool) (x p : Option State) → Follows x p → Follows (cond a x None) (cond a p None)
  f1 a x p h = f_cond a x None p None h refl

  f2 : (a b : Bool) (x y p q : Option State) → Follows x p → Follows y q → Follows (cond a x (cond b y None)) (cond a p (cond b q None))
  f2 a b x y p q h k = f_cond a x _ p _ h (f1 b y q k)

  f3 : (a b c : Bool) (x y z p q r : Option State) → Follows x p → Follows y q → Follows z r → Follows (cond a x (cond b y (cond c z None))) (cond a p (cond b q (cond c r None)))
  f3 a b c x y z p q r h k l = f_cond a x _ p _ h (f2 b c y z q r k l)

  f_word : (s : State) (c : ℕ) (mk : List ℕ → MachineMode) (left : List ℕ) (y q : Option State) → Follows y q → Follows (on_word s c mk left y) (on_word (with_given before s) c mk left q)
  f_word s c mk (d ∷ left) y q h = f1 (eqb c d) _ _ refl
  f_word s c mk [] y q h = h

  f_referred : (s : State) (mk : ReferenceRead → MachineMode) (m : MachineMode) (a : Referred) → Follows (on_referred s mk m a) (on_referred (with_given before s) mk m a)
  f_referred s mk m (More r) = refl
  f_referred s mk m (Done c) = refl
  f_referred s mk m Bad = refl

  with_more : (s : State) (more : List TreeToken) → (before ++ s.tokens) ++ more ≡ before ++ (s.tokens ++ more)
  with_more s more = append_assoc before s.tokens more

  f_opened : (s : State) → Follows (Some (opened s)) (Some (opened (with_given before s)))
  f_opened s = ap (λ l. Some (record (opened s) { tokens = l })) (with_more s s.pending)

  f_emptied : (s : State) → Follows (Some (emptied s)) (Some (emptied (with_given before s)))
  f_emptied s = ap (λ l. Some (record (emptied s) { tokens = l })) (with_more s (s.pending ++ (End ∷ [])))

  f_closed : (s : State) (rest : List (List ℕ)) → Follows (Some (closed s rest)) (Some (closed (with_given before s) rest))
  f_closed s rest = ap (λ l. Some (record (closed s rest) { tokens = l })) (with_more s (text_of s.run ++ (End ∷ [])))

  f_tag : (s : State) (c : ℕ) → Follows (on_tag s c) (on_tag (with_given before s) c)
  f_tag s c = f3 (is_white c) (eqb c 62) (eqb c 47) _ _ _ _ _ _ refl (f_opened s) refl

  f_named : (s : State) (c : ℕ) → Follows (on_named s c) (on_named (with_given before s) c)
  f_named s c = f2 (is_white c) (eqb c 61) _ _ _ _ refl refl

  f_ended : (s : State) (c : ℕ) (ns : List (List ℕ)) → Follows (on_ended s c ns) (on_ended (with_given before s) c ns)
  f_ended s c [] = refl
  f_ended s c (n ∷ ns) = f2 (is_white c) (eqb c 62) _ _ _ _ refl (f_closed s ns)

  f_to_end : (s : State) (o : Option (List ℕ)) → Follows (to_end_name s o) (to_end_name (with_given before s) o)
  f_to_end s None = refl
  f_to_end s (Some left) = refl

  f_end : (s : State) (left : List ℕ) (c : ℕ) → Follows (on_end s left c) (on_end (with_given before s) left c)
  f_end s [] c = f_ended s c s.names
  f_end s (x ∷ left) c = f_to_end s (behind (encode c) (x ∷ left))

  f_between : (s : State) (c : ℕ) → Follows (on_between s c) (on_between (with_given before s) c)
  f_between s c = f_cond (is_text_char c && is_inside s.names) _ _ _ _ refl (f3 (is_white c && not (is_inside s.names)) (eqb c 60) (eqb c 38 && is_inside s.names) _ _ _ _ _ _ refl refl refl)

  f_mode : (s : State) (c : ℕ) (m : MachineMode) → Follows (on_mode s c m) (on_mode (with_given before s) c m)
  f_mode s c Opening = f_cond (eqb c 65279) _ _ _ _ refl (f_between s c)
  f_mode s c Between = f_between s c
  f_mode s c Less = f_cond (is_start_char c && may_open (is_inside s.names) s.rooted) _ _ _ _ refl (f3 (eqb c 47 && is_inside s.names) (eqb c 33) (eqb c 63) _ _ _ _ _ _ refl refl refl)
  f_mode s c StartName = f_cond (is_part_char c) _ _ _ _ refl (f_tag (begun s) c)
  f_mode s c StartSpace = f_cond (is_start_char c) _ _ _ _ refl (f_tag s c)
  f_mode s c AttributeName = f_cond (is_part_char c) _ _ _ _ refl (f1 (is_fresh s.attr s.attrs) _ _ (f_named s c))
  f_mode s c AttributeSpace = f_named s c
  f_mode s c Equals = f2 (is_white c) (is_quote c) _ _ _ _ refl refl
  f_mode s c (InValue q) = f3 (is_value_char q c) (eqb c q) (eqb c 38) _ _ _ _ _ _ refl refl refl
  f_mode s c (InValueReference q r) = f_referred s (InValueReference q) (InValue q) (refer r c)
  f_mode s c ValueEnd = f_tag s c
  f_mode s c Slash = f1 (eqb c 62) _ _ (f_emptied s)
  f_mode s c (EndName left) = f_end s left c
  f_mode s c EndSpace = f_ended s c s.names
  f_mode s c Question = f1 (is_start_char c) _ _ refl
  f_mode s c Target = f3 (is_part_char c) (is_white c) (eqb c 63) _ _ _ _ _ _ refl refl refl
  f_mode s c TargetMark = f1 (eqb c 62) _ _ refl
  f_mode s c (InInstruction m) = f2 (eqb c 62 && eqb m 1) (is_char c) _ _ _ _ refl refl
  f_mode s c (DocWord left) = f_word s c DocWord left _ _ (f1 (is_white c) _ _ refl)
  f_mode s c DocSpace = f2 (is_white c) (is_start_char c) _ _ _ _ refl refl
  f_mode s c Doc = f3 (is_doc_char c) (eqb c 62) (is_quote c) _ _ _ _ _ _ refl refl refl
  f_mode s c (DocLiteral q) = f2 (is_literal_char q c) (eqb c q) _ _ _ _ refl refl
  f_mode s c Bang = f3 (eqb c 45) (eqb c 91 && is_inside s.names) (eqb c 68 && not s.typed) _ _ _ _ _ _ refl refl refl
  f_mode s c BangDash = f1 (eqb c 45) _ _ refl
  f_mode s c Comment = f2 (eqb c 45) (is_char c) _ _ _ _ refl refl
  f_mode s c CommentDash = f2 (eqb c 45) (is_char c) _ _ _ _ refl refl
  f_mode s c CommentEnd = f1 (eqb c 62) _ _ refl
  f_mode s c (CDSectWord left) = f_word s c CDSectWord left _ _ (f1 (eqb c 91) _ _ refl)
  f_mode s c (InCDSect n) = f3 (eqb c 93) (eqb c 62 && eqb n 2) (is_char c) _ _ _ _ _ _ refl refl refl
  f_mode s c (InReference r) = f_referred s InReference Between (refer r c)

  pub step_ahead : (s : State) (c : ℕ) → step (with_given before s) c ≡ ahead before (step s c)
  step_ahead s c = f_mode s c s.mode

  by_ahead : (lim : Limits) (k : ℕ) (s : State) (c : ℕ) (o : Option State) → judged_by lim k (with_given before s) c (ahead before o) ≡ ahead_ok before (judged_by lim k s c o)
  by_ahead lim k s c None = refl
  by_ahead lim k s c (Some t) =
      ap (λ n. cond (nat_lt lim.text (length t.run)) (Err (AtText k)) (cond (is_deep lim s c) (Err (AtDepth (deep_place k s.mode))) (cond (nat_lt lim.name (length n)) (Err (AtName k)) (Ok (with_given before t))))) (naming t.mode)
      ∙ three (nat_lt lim.text (length t.run)) (is_deep lim s c) (nat_lt lim.name (length (naming_by t.mode t)))
    where
      naming : (m : MachineMode) → naming_by m (with_given before t) ≡ naming_by m t
      naming StartName = refl
      naming AttributeName = refl
      naming m = refl

      three : (a b d : Bool) → cond a (Err (AtText k)) (cond b (Err (AtDepth (deep_place k s.mode))) (cond d (Err (AtName k)) (Ok (with_given before t)))) ≡ ahead_ok before (cond a (Err (AtText k)) (cond b (Err (AtDepth (deep_place k s.mode))) (cond d (Err (AtName k)) (Ok t))))
      three true b d = refl
      three false true d = refl
      three false false true = refl
      three false false false = refl

  pub judged_ahead : (lim : Limits) (k : ℕ) (s : State) (c : ℕ) → judged lim k (with_given before s) c ≡ ahead_ok before (judged lim k s c)
  judged_ahead lim k s c = ap (judged_by lim k (with_given before s) c) (step_ahead s c) ∙ by_ahead lim k s c (step s c)

  pub steps_ahead : (lim : Limits) (k : ℕ) (s : State) (cs : List ℕ) → judged_steps lim k (with_given before s) cs ≡ ahead_ok before (judged_steps lim k s cs)
  steps_ahead lim k s [] = refl
  steps_ahead lim k s (c ∷ cs) =
      ap (λ (r : Result State DocumentRefusal). on_ok r (λ t. judged_steps lim (k + len_utf8 c) t cs)) (judged_ahead lim k s c)
      ∙ elim (judged lim k s c) as (λ (r : Result State DocumentRefusal). on_ok (ahead_ok before r) (λ t. judged_steps lim (k + len_utf8 c) t cs) ≡ ahead_ok before (on_ok r (λ t. judged_steps lim (k + len_utf8 c) t cs))) [
        | Err f ↦ refl
        | Ok t ↦ steps_ahead lim (k + len_utf8 c) t cs
      ]
