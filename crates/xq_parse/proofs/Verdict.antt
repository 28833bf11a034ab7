-- What the machine gives is what tokens spell, or what is wrong with them.
use Rattle.std.proofs.Common.{ℕ, ◌≡◌, ◌+◌, ◌-◌, true, ◌&&◌, List, [], ◌∷◌, ◌++◌, length, Option, Some, None, Result, Ok, Err, refl, sym, ap, ◌∙◌, subst, append_assoc, arith, inl, inr, ◌⊎◌}
use Rattle.std.specs.Prelude.{slice_get}
use Rattle.std.proofs.lemmas.List.{length-append}
use Rattle.std.proofs.lemmas.Bool.{and_parts}
use Rattle.gcx_model.specs.declared.fault.QueryFault.{QueryFault}
use Rattle.gcx_model.specs.declared.fault.QueryFault.TheVariants as query_faults
use Rattle.gcx_model.specs.declared.fault.What.TheVariants as sizes
use Rattle.gcx_model.specs.Paths.{head}
use Rattle.gcx_model.specs.Query.{ExprTree}
use Rattle.gcx_model.specs.Sound.{is_sound}
use Rattle.xq_lex.specs.declared.token.Tok.{Tok}
use Rattle.xq_parse.specs.declared.marks.Marks.{Marks}
use Rattle.xq_parse.specs.declared.refusal.Why.{Why}
use Rattle.xq_parse.specs.declared.refusal.Why.TheVariants as whys
use Rattle.xq_parse.specs.Tokens.{Token, tokens_of}
use Rattle.xq_parse.specs.Grammar.{Derivation, Derives, Viable, derivation_tree}
use Rattle.xq_parse.specs.Places.{unknown_of, late_of}
use Rattle.xq_parse.specs.Spelling.{Spells}
use Rattle.xq_parse.specs.Faults.{IsTooDeep, IsTagMismatch, IsSyntax, HasFaultToken, EndsSoon, BeginsAt, GrammarFault}
use Rattle.xq_parse.specs.Machine.{Found, start}
use Rattle.xq_parse.specs.Reading.{Stop, a_stop, run}
use Rattle.xq_parse.specs.Answering.{from_or, place_at, fault_at, stop_fault, judge_marks, judge, judged}
use Rattle.xq_parse.proofs.Complete.{found_of}
use Rattle.xq_parse.proofs.Refused.{IsWhy, StopsIn, StopsBehind, Stopped, tokens_join, fault, found, derives_one}
use Rattle.xq_parse.proofs.Noted.{marks_are}
use Rattle.xq_parse.proofs.Soundness.{none, sound_is}

abbrev Given : Type 0
Given = Result Found Stop

abbrev Verdict : Type 0
Verdict = Result (List ExprTree) QueryFault

-- ---- fronts

viable_front : (a b : List Tok) → Viable 200 (tokens_of (a ++ b)) → Viable 200 (tokens_of a)
viable_front a b v = record {
  more = tokens_of b ++ v.more;
  whole = v.whole;
  derives = subst (λ (l : List Token). Derives 200 l v.whole) (ap (λ (l : List Token). l ++ v.more) (tokens_join a b) ∙ append_assoc (tokens_of a) (tokens_of b) v.more) v.derives;
}

whole_viable : (ts : List Tok) (d : Derivation) → Derives 200 (tokens_of ts) d → Viable 200 (tokens_of ts)
whole_viable ts d s = record { more = []; whole = d; derives = subst (λ (l : List Token). Derives 200 l d) (sym (nil (tokens_of ts))) s }
  where
    nil : (l : List Token) → l ++ [] ≡ l
    nil [] = refl
    nil (x ∷ l) = ap (λ (r : List Token). x ∷ r) (nil l)

-- With its fault token no tokens are viable that begin so.
bad_front : (front behind : List Tok) (token : Tok) → ¬ (Viable 200 (tokens_of (front ++ (token ∷ [])))) → ¬ (Viable 200 (tokens_of (front ++ (token ∷ behind))))
bad_front front behind token bad v = bad (viable_front (front ++ (token ∷ [])) behind (subst (λ (l : List Tok). Viable 200 (tokens_of l)) (sym (append_assoc front (token ∷ []) behind)) v))

bad_whole : (ts : List Tok) (at : ℕ) (K : List Token → Type 0) → HasFaultToken ts at K → ¬ (Viable 200 (tokens_of ts))
bad_whole ts at K h v = bad_front h.front h.behind h.token h.bad (subst (λ (l : List Tok). Viable 200 (tokens_of l)) h.parts v)

-- where a property of fronts ends
pub record Same (f1 f2 : List Tok) (t1 t2 : Tok) : Type 0 where
  pub fronts : f1 ≡ f2
  pub tokens : t1 ≡ t2

head_is : (a b : Tok) (x y : List Tok) → a ∷ x ≡ b ∷ y → a ≡ b
head_is a b x y e = cc

tail_is : (a b : Tok) (x y : List Tok) → a ∷ x ≡ b ∷ y → x ≡ y
tail_is a b x y e = cc

same_front : (P : List Tok → Type 0) → ((a b : List Tok) → P (a ++ b) → P a) → (f1 b1 f2 b2 : List Tok) (t1 t2 : Tok) → f1 ++ (t1 ∷ b1) ≡ f2 ++ (t2 ∷ b2) → P f1 → ¬ (P (f1 ++ (t1 ∷ []))) → P f2 → ¬ (P (f2 ++ (t2 ∷ []))) → Same f1 f2 t1 t2
same_front P closed [] b1 [] b2 t1 t2 e g1 n1 g2 n2 = record { fronts = refl; tokens = head_is t1 t2 b1 b2 e }
same_front P closed [] b1 (x ∷ f2) b2 t1 t2 e g1 n1 g2 n2 = absurd (n1 (subst (λ (y : Tok). P (y ∷ [])) (sym (head_is t1 x b1 (f2 ++ (t2 ∷ b2)) e)) (closed (x ∷ []) f2 g2)))
same_front P closed (x ∷ f1) b1 [] b2 t1 t2 e g1 n1 g2 n2 = absurd (n2 (subst (λ (y : Tok). P (y ∷ [])) (head_is x t2 (f1 ++ (t1 ∷ b1)) b2 e) (closed (x ∷ []) f1 g1)))
same_front P closed (x ∷ f1) b1 (y ∷ f2) b2 t1 t2 e g1 n1 g2 n2 =
    let same : y ≡ x = sym (head_is x y (f1 ++ (t1 ∷ b1)) (f2 ++ (t2 ∷ b2)) e) in
    let r = same_front (λ l. P (x ∷ l)) (λ a b p. closed (x ∷ a) b p) f1 b1 f2 b2 t1 t2 (tail_is x y (f1 ++ (t1 ∷ b1)) (f2 ++ (t2 ∷ b2)) e) g1 n1 (subst (λ (z : Tok). P (z ∷ f2)) same g2) (λ p. n2 (subst (λ (z : Tok). P (z ∷ (f2 ++ (t2 ∷ [])))) (sym same) p)) in
    record { fronts = ap (λ (l : List Tok). x ∷ l) r.fronts ∙ ap (λ (z : Tok). z ∷ f2) (sym same); tokens = r.tokens }

-- ---- places

get_behind : (front behind : List Tok) (token : Tok) → slice_get (front ++ (token ∷ behind)) (length front) ≡ Some token
get_behind [] behind token = refl
get_behind (x ∷ front) behind token = get_behind front behind token

place_is : (ts front behind : List Tok) (token : Tok) (left end : ℕ) → ts ≡ front ++ (token ∷ behind) → left ≡ length (token ∷ behind) → place_at ts left end ≡ token.from
place_is ts front behind token left end e l =
    let n : length ts ≡ length front + length (token ∷ behind) = ap (λ (t : List Tok). length t) e ∙ length-append front (token ∷ behind) in
    let at : length ts - left ≡ length front = omega arith in
    ap (λ (k : ℕ). from_or end (slice_get ts k)) at ∙ ap (λ (t : List Tok). from_or end (slice_get t (length front))) e ∙ ap (from_or end) (get_behind front behind token)

get_end : (ts : List Tok) → slice_get ts (length ts) ≡ None
get_end [] = refl
get_end (x ∷ ts) = get_end ts

place_end : (ts : List Tok) (end : ℕ) → place_at ts 0 end ≡ end
place_end ts end = let n : length ts - 0 ≡ length ts = omega arith in ap (λ (k : ℕ). from_or end (slice_get ts k)) n ∙ ap (from_or end) (get_end ts)

-- ---- what the machine gives is the fault

token_fault : (ts : List Tok) (end : ℕ) (why : Why) (left : ℕ) → StopsIn ts (a_stop why left) → GrammarFault ts end (fault_at why (place_at ts left end))
token_fault ts end whys.Syntax left s = inl (record { front = s.front; token = s.token; behind = s.behind; parts = s.parts; place = place_is ts s.front s.behind s.token left end s.parts s.left; good = s.good; bad = s.bad; kind = s.kind })
token_fault ts end whys.TagMismatch left s = record { front = s.front; token = s.token; behind = s.behind; parts = s.parts; place = place_is ts s.front s.behind s.token left end s.parts s.left; good = s.good; bad = s.bad; kind = s.kind }
token_fault ts end whys.Nesting left s = (refl, (s.token.from, record { front = s.front; token = s.token; behind = s.behind; parts = s.parts; place = refl; good = s.good; bad = s.bad; kind = s.kind }))

end_fault : (ts : List Tok) (end : ℕ) (why : Why) (left : ℕ) → StopsBehind ts (a_stop why left) → GrammarFault ts end (fault_at why (place_at ts left end))
end_fault ts end whys.Syntax left s = inr (ap (λ (k : ℕ). place_at ts k end) s.left ∙ place_end ts end, s.soon)
end_fault ts end whys.TagMismatch left s = let w = s.why in absurd cc
end_fault ts end whys.Nesting left s = let w = s.why in absurd cc

stop_is_fault : (ts : List Tok) (end : ℕ) (r : Stop) → Stopped ts r → GrammarFault ts end (stop_fault ts end r)
stop_is_fault ts end r (inl s) = token_fault ts end r.why r.left s
stop_is_fault ts end r (inr s) = end_fault ts end r.why r.left s

-- ---- marks

head_some : (xs : List ℕ) (at : ℕ) → head xs ≡ Some at → BeginsAt xs at
head_some [] at e = absurd cc
head_some (x ∷ xs) at e = let i : x ≡ at = cc in (xs, ap (λ (y : ℕ). y ∷ xs) i)

head_none : (xs : List ℕ) → head xs ≡ None → xs ≡ []
head_none [] e = refl
head_none (x ∷ xs) e = absurd cc

-- what is judged of a derivation
abbrev judge_of : Derivation → Verdict
judge_of d = judge_marks (head (unknown_of d)) (head (late_of d)) (derivation_tree d)

marks_judged : (ts : List Tok) (end : ℕ) (d : Derivation) → judge ts end (Ok (found_of d)) ≡ judge_of d
marks_judged ts end d = ap (λ (m : Marks). judge_marks m.unknown m.late (derivation_tree d)) (marks_are d)

-- ---- all that can be given

-- The tokens are derived and judged so, or refused.
pub record Judged (ts : List Tok) (end : ℕ) : Type 0 where
  pub derivation : Derivation
  pub derives : Derives 200 (tokens_of ts) derivation
  pub verdict : judged ts end ≡ judge_of derivation

pub record Stops (ts : List Tok) (end : ℕ) : Type 0 where
  pub stop : Stop
  pub stopped : Stopped ts stop
  pub verdict : judged ts end ≡ Err (stop_fault ts end stop)

pub given : (ts : List Tok) (end : ℕ) → Judged ts end ⊎ Stops ts end
given ts end = go (run 200 start ts) refl
  where
    go : (x : Given) → run 200 start ts ≡ x → Judged ts end ⊎ Stops ts end
    go (Ok f) e =
        let i = found ts f e in
        inl (record { derivation = i.derivation; derives = i.derives; verdict = ap (judge ts end) (e ∙ ap (λ (g : Found). let o : Given = Ok g in o) (sym i.found)) ∙ marks_judged ts end i.derivation })
    go (Err r) e = inr (record { stop = r; stopped = fault ts r e; verdict = ap (judge ts end) e })

-- what derives the tokens is judged
pub derived_judged : (ts : List Tok) (end : ℕ) (d : Derivation) → Derives 200 (tokens_of ts) d → judged ts end ≡ judge_of d
derived_judged ts end d s = go (given ts end)
  where
    go : Judged ts end ⊎ Stops ts end → judged ts end ≡ judge_of d
    go (inl j) = j.verdict ∙ sym (marks_judged ts end j.derivation) ∙ ap (λ (f : Found). judge ts end (Ok f)) (derives_one (tokens_of ts) j.derivation d j.derives s) ∙ marks_judged ts end d
    go (inr k) = absurd (never k.stopped)
      where
        never : Stopped ts k.stop → ⊥
        never (inl r) = bad_front r.front r.behind r.token r.bad (subst (λ (l : List Tok). Viable 200 (tokens_of l)) r.parts (whole_viable ts d s))
        never (inr r) = r.soon.bad d s

err_is : (x y : QueryFault) → (let a : Verdict = Err x in let b : Verdict = Err y in a ≡ b) → x ≡ y
err_is x y e = cc

ok_is : (x y : List ExprTree) → (let a : Verdict = Ok x in let b : Verdict = Ok y in a ≡ b) → x ≡ y
ok_is x y e = cc

ok_not_err : (x : List ExprTree) (y : QueryFault) → (let a : Verdict = Ok x in let b : Verdict = Err y in a ≡ b) → ⊥
ok_not_err x y e = cc

-- ---- a query

pub record IsQuery (ts : List Tok) (q : List ExprTree) : Type 0 where
  pub derivation : Derivation
  pub derives : Derives 200 (tokens_of ts) derivation
  pub tree : derivation_tree derivation ≡ q
  pub known : unknown_of derivation ≡ []
  pub in_order : late_of derivation ≡ []

pub answered : (ts : List Tok) (end : ℕ) (q : List ExprTree) → judged ts end ≡ Ok q → IsQuery ts q
answered ts end q e = go (given ts end)
  where
    marked : (d : Derivation) → Derives 200 (tokens_of ts) d → (u l : Option ℕ) → head (unknown_of d) ≡ u → head (late_of d) ≡ l → judge_marks u l (derivation_tree d) ≡ Ok q → IsQuery ts q
    marked d s (Some at) l x y v = absurd (ok_not_err q (query_faults.UnknownVar at) (sym v))
    marked d s None (Some at) x y v = absurd (ok_not_err q (query_faults.DescendantNotLast at) (sym v))
    marked d s None None x y v = record { derivation = d; derives = s; tree = ok_is (derivation_tree d) q v; known = head_none (unknown_of d) x; in_order = head_none (late_of d) y }

    go : Judged ts end ⊎ Stops ts end → IsQuery ts q
    go (inl j) = marked j.derivation j.derives (head (unknown_of j.derivation)) (head (late_of j.derivation)) refl refl (sym j.verdict ∙ e)
    go (inr k) = absurd (ok_not_err q (stop_fault ts end k.stop) (sym e ∙ k.verdict))

pub is_spelled : (ts : List Tok) (q : List ExprTree) → IsQuery ts q → Spells ts q
is_spelled ts q i = record { derivation = i.derivation; derives = i.derives; tree = i.tree }

pub query_sound : (ts : List Tok) (q : List ExprTree) → IsQuery ts q → is_sound q ≡ true
query_sound ts q i = ap is_sound (sym i.tree) ∙ sound_is i.derivation ∙ ap (λ (l : List ℕ). none l && none (late_of i.derivation)) i.known ∙ ap none i.in_order

-- the trees of derivations of the same tokens
pub one_tree : (ts : List Tok) (d e : Derivation) → Derives 200 (tokens_of ts) d → Derives 200 (tokens_of ts) e → derivation_tree d ≡ derivation_tree e
one_tree ts d e a b = ap (λ (f : Found). f.parts) (derives_one (tokens_of ts) d e a b)

-- ---- a fault

pub refused : (ts : List Tok) (end : ℕ) (f : QueryFault) → judged ts end ≡ Err f → GrammarFault ts end f
refused ts end f e = go (given ts end)
  where
    marked : (d : Derivation) → Derives 200 (tokens_of ts) d → (u l : Option ℕ) → head (unknown_of d) ≡ u → head (late_of d) ≡ l → judge_marks u l (derivation_tree d) ≡ Err f → GrammarFault ts end f
    marked d s (Some at) l x y v = subst (GrammarFault ts end) (err_is (query_faults.UnknownVar at) f v) (d, s, head_some (unknown_of d) at x)
    marked d s None (Some at) x y v = subst (GrammarFault ts end) (err_is (query_faults.DescendantNotLast at) f v) (d, s, (head_none (unknown_of d) x, head_some (late_of d) at y))
    marked d s None None x y v = absurd (ok_not_err (derivation_tree d) f v)

    go : Judged ts end ⊎ Stops ts end → GrammarFault ts end f
    go (inl j) = marked j.derivation j.derives (head (unknown_of j.derivation)) (head (late_of j.derivation)) refl refl (sym j.verdict ∙ e)
    go (inr k) = subst (GrammarFault ts end) (err_is (stop_fault ts end k.stop) f (sym k.verdict ∙ e)) (stop_is_fault ts end k.stop k.stopped)

syntax_is : (front : List Token) (v : Why) → IsWhy front v → IsSyntax front → v ≡ whys.Syntax
syntax_is front whys.Syntax i k = refl
syntax_is front whys.TagMismatch i k = absurd (k.1 i.1)
syntax_is front whys.Nesting i k = absurd (k.0 i)

mismatch_is : (front : List Token) (v : Why) → IsWhy front v → IsTagMismatch front → v ≡ whys.TagMismatch
mismatch_is front whys.TagMismatch i k = refl
mismatch_is front whys.Syntax i k = absurd (i.1 k.1)
mismatch_is front whys.Nesting i k = absurd (k.0 i)

nesting_is : (front : List Token) (v : Why) → IsWhy front v → IsTooDeep front → v ≡ whys.Nesting
nesting_is front whys.Nesting i k = refl
nesting_is front whys.Syntax i k = absurd (i.0 k)
nesting_is front whys.TagMismatch i k = absurd (i.0 k)

token_judged : (ts : List Tok) (end at : ℕ) (K : List Token → Type 0) (why : Why) → ((front : List Token) (v : Why) → IsWhy front v → K front → v ≡ why) → HasFaultToken ts at K → judged ts end ≡ Err (fault_at why at)
token_judged ts end at K why is h = go (given ts end)
  where
    stopped : (k : Stops ts end) → Stopped ts k.stop → judged ts end ≡ Err (fault_at why at)
    stopped k (inr r) = absurd (bad_whole ts at K h r.soon.good)
    stopped k (inl r) =
        let same = same_front (λ l. Viable 200 (tokens_of l)) (λ a b v. viable_front a b v) r.front r.behind h.front h.behind r.token h.token (sym r.parts ∙ h.parts) r.good r.bad h.good h.bad in
        let one : r.front ++ (r.token ∷ []) ≡ h.front ++ (h.token ∷ []) = ap (λ (l : List Tok). l ++ (r.token ∷ [])) same.fronts ∙ ap (λ (t : Tok). h.front ++ (t ∷ [])) same.tokens in
        let kind : k.stop.why ≡ why = is (tokens_of (h.front ++ (h.token ∷ []))) k.stop.why (subst (λ (l : List Tok). IsWhy (tokens_of l) k.stop.why) one r.kind) h.kind in
        let place : place_at ts k.stop.left end ≡ at = place_is ts r.front r.behind r.token k.stop.left end r.parts r.left ∙ ap (λ (t : Tok). t.from) same.tokens ∙ sym h.place in
        k.verdict ∙ ap (λ (w : Why). let e : Verdict = Err (fault_at w (place_at ts k.stop.left end)) in e) kind ∙ ap (λ (n : ℕ). let e : Verdict = Err (fault_at why n) in e) place

    go : Judged ts end ⊎ Stops ts end → judged ts end ≡ Err (fault_at why at)
    go (inl j) = absurd (bad_whole ts at K h (whole_viable ts j.derivation j.derives))
    go (inr k) = stopped k k.stopped

soon_judged : (ts : List Tok) (end : ℕ) → EndsSoon ts → judged ts end ≡ Err (query_faults.Syntax end)
soon_judged ts end s = go (given ts end)
  where
    stopped : (k : Stops ts end) → Stopped ts k.stop → judged ts end ≡ Err (query_faults.Syntax end)
    stopped k (inl r) = absurd (bad_front r.front r.behind r.token r.bad (subst (λ (l : List Tok). Viable 200 (tokens_of l)) r.parts s.good))
    stopped k (inr r) = k.verdict ∙ ap (λ (w : Why). let e : Verdict = Err (fault_at w (place_at ts k.stop.left end)) in e) r.why ∙ ap (λ (n : ℕ). let e : Verdict = Err (query_faults.Syntax n) in e) (ap (λ (n : ℕ). place_at ts n end) r.left ∙ place_end ts end)

    go : Judged ts end ⊎ Stops ts end → judged ts end ≡ Err (query_faults.Syntax end)
    go (inl j) = absurd (s.bad j.derivation j.derives)
    go (inr k) = stopped k k.stopped

-- The fault of tokens is what the machine gives.
pub fault_judged : (ts : List Tok) (end : ℕ) (f : QueryFault) → GrammarFault ts end f → judged ts end ≡ Err f
fault_judged ts end (query_faults.Syntax at) (inl h) = token_judged ts end at IsSyntax whys.Syntax syntax_is h
fault_judged ts end (query_faults.Syntax at) (inr s) = soon_judged ts end s.1 ∙ ap (λ (n : ℕ). let e : Verdict = Err (query_faults.Syntax n) in e) (sym s.0)
fault_judged ts end (query_faults.TagMismatch at) h = token_judged ts end at IsTagMismatch whys.TagMismatch mismatch_is h
fault_judged ts end (query_faults.TooLarge sizes.Nesting limit) h = token_judged ts end h.1.0 IsTooDeep whys.Nesting nesting_is h.1.1 ∙ ap (λ (n : ℕ). let e : Verdict = Err (query_faults.TooLarge sizes.Nesting n) in e) (sym h.0)
fault_judged ts end (query_faults.UnknownVar at) h = derived_judged ts end h.0 h.1 ∙ ap (λ (o : Option ℕ). judge_marks o (head (late_of h.0)) (derivation_tree h.0)) (ap head h.2.1)
fault_judged ts end (query_faults.DescendantNotLast at) h = derived_judged ts end h.0 h.1 ∙ ap (λ (o : Option ℕ). judge_marks o (head (late_of h.0)) (derivation_tree h.0)) (ap head h.2.0) ∙ ap (λ (o : Option ℕ). judge_marks None o (derivation_tree h.0)) (ap head h.2.1.1)
fault_judged ts end (query_faults.TooLarge sizes.Text limit) h = absurd h
fault_judged ts end (query_faults.TooLarge sizes.Loops limit) h = absurd h
fault_judged ts end (query_faults.TooLarge sizes.Steps limit) h = absurd h
fault_judged ts end (query_faults.TooLarge sizes.Conditions limit) h = absurd h
fault_judged ts end (query_faults.TooLarge sizes.Roles limit) h = absurd h
fault_judged ts end (query_faults.TooLarge sizes.Descendants limit) h = absurd h
fault_judged ts end (query_faults.Utf8 at) h = absurd h
fault_judged ts end (query_faults.Lex at) h = absurd h
fault_judged ts end (query_faults.IntegerWide at) h = absurd h
fault_judged ts end query_faults.Memory h = absurd h

pub one_fault : (ts : List Tok) (end : ℕ) (f g : QueryFault) → judged ts end ≡ Err f → GrammarFault ts end g → g ≡ f
one_fault ts end f g e h = err_is g f (sym (fault_judged ts end g h) ∙ e)

pub no_fault : (ts : List Tok) (end : ℕ) (q : List ExprTree) (g : QueryFault) → judged ts end ≡ Ok q → GrammarFault ts end g → ⊥
no_fault ts end q g e h = ok_not_err q g (sym e ∙ fault_judged ts end g h)

-- A sound query is accepted.

none_is : (xs : List ℕ) → none xs ≡ true → xs ≡ []
none_is [] e = refl
none_is (x ∷ xs) e = absurd cc

pub sound_accepted : (ts : List Tok) (end : ℕ) (q : List ExprTree) → Spells ts q → is_sound q ≡ true → judged ts end ≡ Ok q
sound_accepted ts end q s t =
    let d = s.derivation in
    let both = and_parts (none (unknown_of d)) (none (late_of d)) (sym (sound_is d) ∙ ap is_sound s.tree ∙ t) in
    derived_judged ts end d s.derives ∙ ap (λ (o : Option ℕ). judge_marks o (head (late_of d)) (derivation_tree d)) (ap head (none_is (unknown_of d) both.0)) ∙ ap (λ (o : Option ℕ). judge_marks None o (derivation_tree d)) (ap head (none_is (late_of d) both.1)) ∙ ap (λ (p : List ExprTree). let o : Verdict = Ok p in o) s.tree
