-- Lines behind a text, and actions told one after another.
use Rattle.std.proofs.Common.{◌≡◌, ℕ, zero, suc, ◌+◌, ◌<◌, ◌≤◌, ◌^◌, Bool, true, false, cond, List, [], ◌∷◌, ◌++◌, length, map, get_or, take, drop, refl, sym, ◌∙◌, ap, subst, inl, inr, arith, append_assoc, append-nil}
use Rattle.std.specs.List.{filter}
use Rattle.std.proofs.lemmas.List.{map-append, take_more}
use Rattle.std.proofs.lemmas.List.Concat.{flat_map-append}
use Rattle.std.proofs.lemmas.List.Elements.{filter-append}
use Rattle.gcx_base.specs.declared.ids.Role.{Role}
use Rattle.gcx_model.specs.Demand.{Line, Left, line_text, text_of_lines}
use Rattle.gcx_model.specs.Members.{In}
use Rattle.gcx_model.specs.Run.{Action, Wrote, Offed}
use Rattle.gcx_model.specs.Tree.{Tree}
use Rattle.tree_laws.proofs.Lists.{In-append}
use Rattle.tree_laws.specs.LineTexts.{IsPlain}
use Rattle.tree_laws.specs.LineTexts as laws
use Rattle.buf_trace.specs.Lines.{IsKind, IsLine, kind_tree, line_tree}
use Rattle.buf_trace.specs.declared.line.Line as code
use Rattle.buf_trace.specs.declared.line.Line.TheVariants as line
use Rattle.buf_trace.specs.declared.line.LineKind.{LineKind}
use Rattle.buf_trace.specs.declared.line.LineKind.TheVariants as kind
use Rattle.time_laws.specs.Leaving.{acts_told, count_offs}
use Rattle.time_laws.specs.Times.{Clock}
use Rattle.trace_check.specs.Acting.{Shown, Sized, Signed, action_shown}
use Rattle.trace_check.specs.Telling.{ArePlain, Puts, shown_told, signed_by}
use Rattle.trace_check.proofs.Entries.{count_push}

-- ---- lines behind a text

pub lines_then : (xs ys : List Line) → text_of_lines (xs ++ ys) ≡ text_of_lines xs ++ text_of_lines ys
lines_then xs ys = flat_map-append (λ (l : Line). line_text l ++ 10 ∷ []) xs ys

-- what is kept of a line is plain
kind_plain : (k : LineKind) → IsKind k → laws.IsKind (kind_tree k)
kind_plain kind.Document h = tt
kind_plain (kind.Element name) h = h
kind_plain kind.Text h = tt

roles_plain : (roles : List Role) → ((r : Role) → In r roles → r.0 < 2 ^ 32) → (n : ℕ) → In n (map (λ r. r.0) roles) → n < 2 ^ 64
roles_plain [] h n i = absurd i
roles_plain (r ∷ roles) h n (inl e) = let small : r.0 < 2 ^ 32 = h r (inl refl) in let same : r.0 ≡ n = e in omega arith
roles_plain (r ∷ roles) h n (inr i) = roles_plain roles (λ x j. h x (inr j)) n i

plain_line : (l : code.Line) → IsLine l → IsPlain (line_tree l)
plain_line (line.Opened serial kind given) h = (h.0, kind_plain kind h.1, roles_plain given h.2.1)
plain_line (line.Closed serial) h = h
plain_line (line.Wrote bytes) h = h
plain_line (line.SignedOff serial role) h = (h.0, let small = h.1 in omega arith)
plain_line (line.Gone serial) h = h

plain_then : (xs ys : List Line) → ArePlain xs → ArePlain ys → ArePlain (xs ++ ys)
plain_then xs ys p q l i = elim (In-append l xs ys i) [ inl a ↦ p l a | inr b ↦ q l b ]

pub puts_then : (old mid new : List ℕ) (xs ys : List Line) → Puts old mid xs → Puts mid new ys → Puts old new (xs ++ ys)
puts_then old mid new xs ys e f = record {
  text = f.text ∙ (ap (λ (t : List ℕ). t ++ text_of_lines ys) e.text ∙ (append_assoc old (text_of_lines xs) (text_of_lines ys) ∙ ap (λ (t : List ℕ). old ++ t) (sym (lines_then xs ys))));
  plain = plain_then xs ys e.plain f.plain;
}

-- one line as it is kept
pub puts_one : (old new : List ℕ) (l : code.Line) → new ≡ old ++ (line_text (line_tree l) ++ 10 ∷ []) → IsLine l → Puts old new (line_tree l ∷ [])
puts_one old new l e held = record {
  text = e ∙ ap (λ (t : List ℕ). old ++ t) (sym (append-nil (line_text (line_tree l) ++ 10 ∷ [])));
  plain = λ m i. elim i [ inl s ↦ subst IsPlain s (plain_line l held) | inr k ↦ absurd k ];
}

-- Of these lines the first ones came behind a text, and the rest is left.
pub record Leaves (from : List ℕ) (whole : List Line) (text : List ℕ) (rest : List Line) : Type 0 where
  pub text_is : from ++ text_of_lines whole ≡ text ++ text_of_lines rest
  pub plain : ArePlain rest → ArePlain whole

pub leaves_on : (from : List ℕ) (whole : List Line) (text next : List ℕ) (xs rest : List Line) → Leaves from whole text (xs ++ rest) → Puts text next xs → Leaves from whole next rest
leaves_on from whole text next xs rest h p = record {
  text_is = h.text_is
      ∙ (ap (λ (x : List ℕ). text ++ x) (lines_then xs rest)
      ∙ (sym (append_assoc text (text_of_lines xs) (text_of_lines rest)) ∙ ap (λ (x : List ℕ). x ++ text_of_lines rest) (sym p.text)));
  plain = λ q. h.plain (plain_then xs rest p.plain q);
}

pub leaves_none : (from : List ℕ) (whole : List Line) (text : List ℕ) → Leaves from whole text [] → Puts from text whole
leaves_none from whole text h = record { text = sym (h.text_is ∙ append-nil text); plain = h.plain (λ l i. absurd i) }

-- ---- the nodes of a list that pass

filter_one : (p : ℕ → Bool) (x : ℕ) (b : Bool) → p x ≡ b → filter p (x ∷ []) ≡ cond b (x ∷ []) []
filter_one p x b e = ap (λ (c : Bool). cond c (x ∷ []) []) e

filter_more : (p : ℕ → Bool) (xs : List ℕ) (i d : ℕ) (b : Bool) → i < length xs → p (get_or xs i d) ≡ b → filter p (take (i + 1) xs) ≡ filter p (take i xs) ++ cond b (get_or xs i d ∷ []) []
filter_more p xs i d b l e =
    ap (filter p) (take_more xs i d l)
    ∙ (filter-append p (take i xs) (get_or xs i d ∷ []) ∙ ap (λ (ys : List ℕ). filter p (take i xs) ++ ys) (filter_one p (get_or xs i d) b e))

-- the lines of those of the first i that pass
abbrev pub left_among : (ℕ → Bool) → List ℕ → (i : ℕ) → List Line
left_among p xs i = map Left (filter p (take i xs))

-- one more that passes
pub left_more : (p : ℕ → Bool) (xs : List ℕ) (i d : ℕ) (old mid new : List ℕ) → i < length xs → p (get_or xs i d) ≡ true → Puts old mid (left_among p xs i) → Puts mid new (Left (get_or xs i d) ∷ [])
    → Puts old new (left_among p xs (i + 1))
left_more p xs i d old mid new l e h g =
    subst (λ (ls : List Line). Puts old new ls) (sym (ap (map Left) (filter_more p xs i d true l e) ∙ map-append Left (filter p (take i xs)) (get_or xs i d ∷ [])))
    (puts_then old mid new (left_among p xs i) (Left (get_or xs i d) ∷ []) h g)

-- one more that doesn't
pub left_same : (p : ℕ → Bool) (xs : List ℕ) (i d : ℕ) (old mid : List ℕ) → i < length xs → p (get_or xs i d) ≡ false → Puts old mid (left_among p xs i) → Puts old mid (left_among p xs (i + 1))
left_same p xs i d old mid l e h =
    subst (λ (ls : List Line). Puts old mid ls) (sym (ap (map Left) (filter_more p xs i d false l e ∙ append-nil (filter p (take i xs))))) h

-- ---- one action

pub told_one : (c : Clock) (C : Tree) (all : List Action) (j k : ℕ) (a : Action) (more : List Action)
    → acts_told c C all j k (a ∷ more) ≡ shown_told c C all j k (action_shown a) ++ acts_told c C all j (signed_by (action_shown a) k) more
told_one c C all j k (Wrote b) more = ap (λ (i : ℕ). shown_told c C all j k (Sized (length b)) ++ acts_told c C all j i more) (let e : 0 + k ≡ k = omega arith in e)
told_one c C all j k (Offed o m) more = ap (λ (i : ℕ). shown_told c C all j k (Signed o m) ++ acts_told c C all j i more) (let e : 1 + k ≡ suc k = omega arith in e)

drop_one : (xs : List Action) (m : ℕ) (d : Action) → m < length xs → drop m xs ≡ get_or xs m d ∷ drop (suc m) xs
drop_one [] m d l = absurd (omega (arith, l))
drop_one (x ∷ xs) zero d l = refl
drop_one (x ∷ xs) (suc m) d l = drop_one xs m d (omega (arith, l))

drop_all : (xs : List Action) (m : ℕ) → length xs ≤ m → drop m xs ≡ []
drop_all [] zero l = refl
drop_all [] (suc m) l = refl
drop_all (x ∷ xs) zero l = absurd (omega (arith, l))
drop_all (x ∷ xs) (suc m) l = drop_all xs m (omega (arith, l))

-- So much is still to tell of the actions D behind the first m.
abbrev pub IsLeft : (c : Clock) (C : Tree) (all : List Action) (j : ℕ) (D : List Action) → (from : List ℕ) (whole : List Line) (text : List ℕ) (m k : ℕ) → Type 0
IsLeft c C all j D from whole text m k = Leaves from whole text (acts_told c C all j k (drop m D))

-- an action more is told
pub left_on : (c : Clock) (C : Tree) (all : List Action) (j : ℕ) (D : List Action) (from : List ℕ) (whole : List Line) (text next : List ℕ) (m k : ℕ) (d : Action) (s : Shown)
    → m < length D → s ≡ action_shown (get_or D m d) → IsLeft c C all j D from whole text m k → Puts text next (shown_told c C all j k s)
    → IsLeft c C all j D from whole next (suc m) (signed_by s k)
left_on c C all j D from whole text next m k d s l e left puts =
    let rest : List Line = acts_told c C all j (signed_by s k) (drop (suc m) D) in
    let lines : acts_told c C all j k (drop m D) ≡ shown_told c C all j k s ++ rest
    = ap (acts_told c C all j k) (drop_one D m d l)
    ∙ (told_one c C all j k (get_or D m d) (drop (suc m) D) ∙ ap (λ (z : Shown). shown_told c C all j k z ++ acts_told c C all j (signed_by z k) (drop (suc m) D)) (sym e)) in
    leaves_on from whole text next (shown_told c C all j k s) rest (subst (λ (ls : List Line). Leaves from whole text ls) lines left) puts

-- none is left
pub left_none : (c : Clock) (C : Tree) (all : List Action) (j : ℕ) (D : List Action) (from : List ℕ) (whole : List Line) (text : List ℕ) (m k : ℕ) → length D ≤ m
    → IsLeft c C all j D from whole text m k → Puts from text whole
left_none c C all j D from whole text m k l left = leaves_none from whole text (subst (λ (xs : List Action). Leaves from whole text (acts_told c C all j k xs)) (drop_all D m l) left)

-- the statements that are told
pub signed_on : (D : List Action) (m k : ℕ) (d : Action) (s : Shown) → m < length D → s ≡ action_shown (get_or D m d) → k ≡ count_offs (take m D) → signed_by s k ≡ count_offs (take (m + 1) D)
signed_on D m k d s l e f =
    ap (λ (z : Shown). signed_by z k) e
    ∙ (by (get_or D m d)
    ∙ (ap (λ (i : ℕ). i + count_offs (get_or D m d ∷ [])) f ∙ (sym (count_push (take m D) (get_or D m d)) ∙ sym (ap count_offs (take_more D m d l)))))
  where
    by : (a : Action) → signed_by (action_shown a) k ≡ k + count_offs (a ∷ [])
    by (Wrote b) = omega arith
    by (Offed o n) = omega arith
