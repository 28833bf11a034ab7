-- What a line's text begins with, and that no other line has it.
use Rattle.std.proofs.Common.{◌≡◌, ℕ, ◌<◌, ◌^◌, List, [], ◌∷◌, ◌++◌, map, Option, Some, None, Result, Ok, Err, IfOk, OnOk, refl, sym, ◌∙◌, ap, subst, inl, inr, arith}
use Rattle.std.specs.Fmt.{decimal}
use Rattle.std.specs.Borrow.{Bor}
use Rattle.gcx_base.specs.declared.ids.Role.{Role}
use Rattle.gcx_base.specs.declared.ids.Serial.{Serial}
use Rattle.gcx_model.specs.Given.{IsRising}
use Rattle.gcx_model.specs.Members.{In}
use Rattle.gcx_model.specs.Demand.{kind_text, line_text}
use Rattle.base_laws.proofs.Lists.{cons_head}
use Rattle.tree_laws.specs.LineTexts as laws
use Rattle.tree_laws.proofs.Spelling.{line_by_text}
use Rattle.buf_trace.specs.declared.line.LineKind.{LineKind}
use Rattle.buf_trace.specs.declared.line.LineKind.TheVariants as kind
use Rattle.buf_trace.specs.declared.line.Line.{Line}
use Rattle.buf_trace.specs.declared.line.Line.TheVariants as line
use Rattle.buf_trace.specs.Lines.{IsKind, IsGiven, IsLine, kind_tree, line_tree}
use Rattle.buf_trace.specs.Reading.{behind, IsWord, Reads, roles_text}
use Rattle.buf_trace.proofs.Words.{behind_stops, cut_same, decimal_word, kind_word}
use Rattle.buf_trace.proofs.Roles.{Small, role_same, roles_stop}

-- ---- a line is the only one of its text

kind_plain : (k : LineKind) → IsKind k → laws.IsKind (kind_tree k)
kind_plain kind.Document h = tt
kind_plain (kind.Element name) h = h
kind_plain kind.Text h = tt

roles_plain : (roles : List Role) → ((r : Role) → In r roles → r.0 < 2 ^ 32) → (n : ℕ) → In n (map (λ r. r.0) roles) → n < 2 ^ 64
roles_plain [] h n i = absurd i
roles_plain (r ∷ roles) h n (inl e) = let small : r.0 < 2 ^ 32 = h r (inl refl) in let same : r.0 ≡ n = e in omega arith
roles_plain (r ∷ roles) h n (inr i) = roles_plain roles (λ x j. h x (inr j)) n i

plain : (l : Line) → IsLine l → laws.IsPlain (line_tree l)
plain (line.Opened serial kind given) h = (h.0, kind_plain kind h.1, roles_plain given h.2.1)
plain (line.Closed serial) h = h
plain (line.Wrote bytes) h = h
plain (line.SignedOff serial role) h = (h.0, let small = h.1 in omega arith)
plain (line.Gone serial) h = h

roles_same : (rs qs : List Role) → map (λ (r : Role). r.0) rs ≡ map (λ (r : Role). r.0) qs → rs ≡ qs
roles_same [] [] e = refl
roles_same [] (q ∷ qs) e = absurd (cc)
roles_same (r ∷ rs) [] e = absurd (cc)
roles_same (r ∷ rs) (q ∷ qs) e =
    let here : r.0 ≡ q.0 = cc in
    let rest : map (λ (r : Role). r.0) rs ≡ map (λ (r : Role). r.0) qs = cc in
    ap (λ (z : Role). z ∷ rs) (role_same r q here) ∙ ap (λ z. q ∷ z) (roles_same rs qs rest)

kind_same : (k j : LineKind) → kind_tree k ≡ kind_tree j → k ≡ j
kind_same kind.Document kind.Document e = refl
kind_same (kind.Element n) (kind.Element m) e = let same : n ≡ m = cc in ap kind.Element same
kind_same kind.Text kind.Text e = refl
kind_same k j e = absurd (cc)

serial_same : (s t : Serial) → s.0 ≡ t.0 → s ≡ t
serial_same s t e = ap (λ (n : ℕ). let serial : Serial = record { 0 = n } in serial) e

tree_same : (l m : Line) → line_tree l ≡ line_tree m → l ≡ m
tree_same (line.Opened s k g) (line.Opened t j h) e =
    let a : s.0 ≡ t.0 = cc in
    let b : kind_tree k ≡ kind_tree j = cc in
    let c : map (λ (r : Role). r.0) g ≡ map (λ (r : Role). r.0) h = cc in
    ap (λ (z : Serial). line.Opened z k g) (serial_same s t a) ∙ (ap (λ (z : LineKind). line.Opened t z g) (kind_same k j b) ∙ ap (λ (z : List Role). line.Opened t j z) (roles_same g h c))
tree_same (line.Closed s) (line.Closed t) e = let a : s.0 ≡ t.0 = cc in ap line.Closed (serial_same s t a)
tree_same (line.Wrote n) (line.Wrote m) e = let a : n ≡ m = cc in ap line.Wrote a
tree_same (line.SignedOff s r) (line.SignedOff t q) e =
    let a : s.0 ≡ t.0 = cc in
    let b : r.0 ≡ q.0 = cc in
    ap (λ (z : Serial). line.SignedOff z r) (serial_same s t a) ∙ ap (λ (z : Role). line.SignedOff t z) (role_same r q b)
tree_same (line.Gone s) (line.Gone t) e = let a : s.0 ≡ t.0 = cc in ap line.Gone (serial_same s t a)
tree_same l m e = absurd (cc)

only_line : (l m : Line) → IsLine l → IsLine m → line_text (line_tree m) ≡ line_text (line_tree l) → m ≡ l
only_line l m h g e = tree_same m l (line_by_text (line_tree m) (line_tree l) (plain m g) (plain l h) e)

module _ {E : Type 0} where
  pub only_read : (text all : List ℕ) (r : Result (Option Line) E) → IfOk r (Reads IsLine (λ l. line_text (line_tree l)) text) → text ≡ all
      → IfOk r (λ read. (l : Line) → IsLine l → line_text (line_tree l) ≡ all → read ≡ Some l)
  only_read text all (Ok (Some m)) h e = λ l g f. ap Some (sym (only_line m l h.0 g (f ∙ sym (h.1 ∙ e))))
  only_read text all (Ok None) h e = λ l g f. absurd (h l g (f ∙ sym e))
  only_read text all (Err x) h e = tt

-- ---- what stands behind the sign of an opened node

abbrev NotOpened : List ℕ → Type 0
NotOpened text = (l : Line) → IsLine l → line_text (line_tree l) ≡ 43 ∷ (32 ∷ text) → ⊥

record OpenedText (text : List ℕ) : Type 0 where
  serial : ℕ
  kind : LineKind
  given : List Role
  low : serial < 2 ^ 64
  named : IsKind kind
  fits : IsGiven given
  whole : text ≡ decimal serial ++ 32 ∷ (kind_text (kind_tree kind) ++ roles_text given)

opened_text : (text : List ℕ) (l : Line) → IsLine l → line_text (line_tree l) ≡ 43 ∷ (32 ∷ text) → OpenedText text
opened_text text (line.Opened s k g) h e =
    let behind_sign : text ≡ decimal s.0 ++ 32 ∷ (kind_text (kind_tree k) ++ roles_text g) = cc in
    record { serial = s.0; kind = k; given = g; low = h.0; named = h.1; fits = h.2; whole = behind_sign }
opened_text text (line.Closed s) h e = let sign = cons_head 45 43 _ _ e in absurd (omega arith)
opened_text text (line.Wrote n) h e = let sign = cons_head 119 43 _ _ e in absurd (omega arith)
opened_text text (line.SignedOff s r) h e = let sign = cons_head 111 43 _ _ e in absurd (omega arith)
opened_text text (line.Gone s) h e = let sign = cons_head 120 43 _ _ e in absurd (omega arith)

record OffText (text : List ℕ) : Type 0 where
  serial : ℕ
  role : Role
  low : serial < 2 ^ 64
  small : role.0 < 2 ^ 32
  whole : text ≡ decimal serial ++ 32 ∷ decimal role.0

off_text : (text : List ℕ) (l : Line) → IsLine l → line_text (line_tree l) ≡ 111 ∷ (32 ∷ text) → OffText text
off_text text (line.SignedOff s r) h e =
    let behind_sign : text ≡ decimal s.0 ++ 32 ∷ decimal r.0 = cc in
    record { serial = s.0; role = r; low = h.0; small = h.1; whole = behind_sign }
off_text text (line.Opened s k g) h e = let sign = cons_head 43 111 _ _ e in absurd (omega arith)
off_text text (line.Closed s) h e = let sign = cons_head 45 111 _ _ e in absurd (omega arith)
off_text text (line.Wrote n) h e = let sign = cons_head 119 111 _ _ e in absurd (omega arith)
off_text text (line.Gone s) h e = let sign = cons_head 120 111 _ _ e in absurd (omega arith)

-- the first word of the text, and what stands behind it
module _ (text word : List ℕ) (o : Option (Bor (List ℕ))) (w : IsWord word) (e : text ≡ word ++ behind o) where
  opened_cut : (t : OpenedText text) → (decimal t.serial ≡ word) × (32 ∷ (kind_text (kind_tree t.kind) ++ roles_text t.given) ≡ behind o)
  opened_cut t = cut_same (decimal t.serial) word (32 ∷ (kind_text (kind_tree t.kind) ++ roles_text t.given)) (behind o) (decimal_word t.serial t.low) w (inr (kind_text (kind_tree t.kind) ++ roles_text t.given, refl)) (behind_stops o) (sym t.whole ∙ e)

  pub opened_over : o ≡ None → NotOpened text
  opened_over is l h f =
      let q = opened_cut (opened_text text l h f) in
      let over : behind o ≡ [] = ap behind is in
      let on = q.1 ∙ over in
      absurd (cc)

  pub opened_no_serial : ((n : ℕ) → n < 2 ^ 64 → decimal n ≡ word → ⊥) → NotOpened text
  opened_no_serial never l h f = let t = opened_text text l h f in never t.serial t.low (opened_cut t).0

  off_cut : (t : OffText text) → (decimal t.serial ≡ word) × (32 ∷ decimal t.role.0 ≡ behind o)
  off_cut t = cut_same (decimal t.serial) word (32 ∷ decimal t.role.0) (behind o) (decimal_word t.serial t.low) w (inr (decimal t.role.0, refl)) (behind_stops o) (sym t.whole ∙ e)

  module _ (r : Option Line) (none : r ≡ None) where
    not_off : ((t : OffText text) → ⊥) → Reads IsLine (λ l. line_text (line_tree l)) (111 ∷ (32 ∷ text)) r
    not_off never = subst (λ (z : Option Line). Reads IsLine (λ l. line_text (line_tree l)) (111 ∷ (32 ∷ text)) z) (sym none) (λ l h f. never (off_text text l h f))

    pub off_over : o ≡ None → Reads IsLine (λ l. line_text (line_tree l)) (111 ∷ (32 ∷ text)) r
    off_over is = not_off (λ t. let on : 32 ∷ decimal t.role.0 ≡ [] = (off_cut t).1 ∙ ap behind is in absurd (cc))

    pub off_no_serial : ((n : ℕ) → n < 2 ^ 64 → decimal n ≡ word → ⊥) → Reads IsLine (λ l. line_text (line_tree l)) (111 ∷ (32 ∷ text)) r
    off_no_serial never = not_off (λ t. never t.serial t.low (off_cut t).0)

    pub off_no_role : (rest : Bor (List ℕ)) → o ≡ Some rest → ((role : Role) → role.0 < 2 ^ 32 → decimal role.0 ≡ rest.now → ⊥) → Reads IsLine (λ l. line_text (line_tree l)) (111 ∷ (32 ∷ text)) r
    off_no_role rest is never = not_off (λ t. let on : 32 ∷ decimal t.role.0 ≡ 32 ∷ rest.now = (off_cut t).1 ∙ ap behind is in never t.role t.small (cc))

  -- the second word of an opened node, and its roles
  module _ (rest : Bor (List ℕ)) (is : o ≡ Some rest) (named : List ℕ) (roles : Option (Bor (List ℕ))) (kw : IsWord named) (k : rest.now ≡ named ++ behind roles) where
    kind_cut : (t : OpenedText text) → (kind_text (kind_tree t.kind) ≡ named) × (roles_text t.given ≡ behind roles)
    kind_cut t =
        let on : 32 ∷ (kind_text (kind_tree t.kind) ++ roles_text t.given) ≡ 32 ∷ rest.now = (opened_cut t).1 ∙ ap behind is in
        let same : kind_text (kind_tree t.kind) ++ roles_text t.given ≡ rest.now = cc in
        cut_same (kind_text (kind_tree t.kind)) named (roles_text t.given) (behind roles) (kind_word t.kind t.named) kw (roles_stop t.given) (behind_stops roles) (same ∙ k)

    pub opened_no_kind : ((x : LineKind) → IsKind x → kind_text (kind_tree x) ≡ named → ⊥) → NotOpened text
    opened_no_kind never l h f = let t = opened_text text l h f in never t.kind t.named (kind_cut t).0

    pub opened_no_roles : ((x : List Role) → IsGiven x → roles_text x ≡ behind roles → ⊥) → NotOpened text
    opened_no_roles never l h f = let t = opened_text text l h f in never t.given t.fits (kind_cut t).1

-- ---- what an opened node's line holds

module _ {T E : Type 0} where
  pub opened_held : (r : Result T E) (l : Line) (serial : Serial) (kind : LineKind) (given items : List Role) → l ≡ line.Opened serial kind given → serial.0 < 2 ^ 64 → IsKind kind → IsRising given → items ≡ given
      → OnOk r (Small items) → OnOk r (IsLine l)
  opened_held (Ok x) l serial kind given items is low named rising same small = subst IsLine (sym is) (low, named, (rising, subst Small same small))
  opened_held (Err e) l serial kind given items is low named rising same small = tt
