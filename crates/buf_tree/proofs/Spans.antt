-- In document order, from one row of a base's subtree to the next: whether the row, or one above it, passes a test.
use Rattle.std.proofs.Common.{◌≡◌, ℕ, ◌<◌, ◌≤◌, Bool, true, false, cond, List, refl, sym, ◌∙◌, ap, subst, inl, inr, ◌⊎◌, arith, Some, None, Option}
use Rattle.std.specs.Prelude.{leb, is_some, ◌↔◌}
use Rattle.std.specs.FinSet.{contains}
use Rattle.std.proofs.lemmas.Bool.{false≢true, cases_Bool, cases_lt, leb-true, false_from_ne_true}
use Rattle.gcx_model.specs.Members.{In}
use Rattle.buf_tree.specs.Shape.{Cell, num, CellsRise}
use Rattle.buf_tree.specs.Recount.{span_else, span_on, KeptAbove, TellsParent}
use Rattle.buf_tree.specs.Walk.{Inside, Within}
use Rattle.buf_tree.proofs.Shaping.{rising_same}

-- A row that passes and is t or lies above it has this serial, or there is none. It lies above the base, or is the outermost of those that don't.
abbrev pub SpanAt : List Cell → (Cell → Bool) → (base t : Cell) → Option ℕ → Type 0
SpanAt xs keeps base t None = (a : Cell) → In a xs → Within xs a t → keeps a ≡ true → ⊥
SpanAt xs keeps base t (Some s) =
    (a : Cell) × In a xs × (num a ≡ s) × Within xs a t × (keeps a ≡ true) × (Inside xs a base ⊎ ((b : Cell) → In b xs → Within xs b t → keeps b ≡ true → num a ≤ num b))

below_or : (a b : ℕ) → (leb a b ≡ true × (a ≤ b)) ⊎ (leb a b ≡ false × (b < a))
below_or a b = elim (cases_lt b a) [
  | inl l ↦ inr (false_from_ne_true (leb a b) (λ e. let z = leb-true a b e in omega arith), l)
  | inr l ↦ elim (cases_Bool (leb a b)) [
    | inl e ↦ inl (e, l)
    | inr e ↦ absurd (never e l)
  ]
]
  where
    never : leb a b ≡ false → a ≤ b → ⊥
    never e l = grind arith

module _ (xs : List Cell) (rise : CellsRise xs) (keeps : Cell → Bool) (base : Cell) where
  -- where no row above h passes
  span_alone : (h : Cell) → In h xs → ((a : Cell) → In a xs → Inside xs a h → keeps a ≡ true → ⊥) → SpanAt xs keeps base h (span_else (num h) (keeps h))
  span_alone h i none = go (keeps h) refl
    where
      go : (b : Bool) → keeps h ≡ b → SpanAt xs keeps base h (span_else (num h) b)
      go true e = (h, i, refl, inl refl, e, inr (λ b j w k. elim w [ inl f ↦ (let z = ap num f in omega arith) | inr n ↦ absurd (none b j n k) ]))
      go false e = λ a j w k. elim w [ inl f ↦ false≢true (sym e ∙ ap keeps (sym f) ∙ k) | inr n ↦ none a j n k ]

  -- at the base
  pub span_base : In base xs → (k : ℕ) → ((c : Cell) → In c xs → num c < num base → keeps c ≡ contains c.row.roles k) → (o : Option ℕ) → KeptAbove xs k base o → (up : ℕ) → TellsParent up base → SpanAt xs keeps base base (span_on o (num base) up (keeps base))
  span_base i k is None none up tells = span_alone base i (λ a j n h. none a j n (sym (is a j n.behind) ∙ h))
  span_base i k is (Some s) (a, j, e, n, h) up tells = elim (below_or s up) [
    | inl b ↦ subst (λ z. SpanAt xs keeps base base (cond z (Some s) (span_else (num base) (keeps base)))) (sym b.0) (a, j, e, inr n, is a j n.behind ∙ h, inl n)
    | inr b ↦ absurd (let l = n.block base i n.behind (omega arith) in let f = b.1 in let y = n.behind in let z = tells (λ v. omega arith) in omega arith)
  ]

  -- at the row h just behind t, both of the base's subtree
  module _ (t h : Cell) (it : In t xs) (ih : In h xs) (low : num t < num h) (just : (x : Cell) → In x xs → num t < num x → num h ≤ num x) (below : Inside xs base h) where
    -- what contains t contains h where h's parent isn't before it
    contains_next : (a : Cell) → Within xs a t → num a ≤ h.row.parent → Inside xs a h
    contains_next a w l = record {
      behind = elim w [ inl e ↦ (let f = ap num e in omega arith) | inr n ↦ (let f = n.behind in omega arith) ];
      block = λ x i b c. elim (cases_lt (num t) (num x)) [
        | inl y ↦ (
            let z = just x i y in
            let is : x ≡ h = rising_same xs rise x h i ih (omega arith) in
            let f = ap (λ (v : Cell). v.row.parent) is in
            omega arith)
        | inr y ↦ elim w [
          | inl e ↦ absurd (let f = ap num e in omega arith)
          | inr n ↦ n.block x i b (omega arith)
        ]
      ];
    }

    -- and what contains h contains t, and isn't behind h's parent
    contained : (b : Cell) → In b xs → Inside xs b h → Within xs b t × (num b ≤ h.row.parent)
    contained b i n = (within, n.block h ih n.behind (omega arith))
      where
        within : Within xs b t
        within = elim (cases_lt (num b) (num t)) [
          | inl l ↦ inr (record { behind = l; block = λ x j u v. n.block x j u (omega arith) })
          | inr l ↦ elim (cases_lt (num t) (num b)) [
            | inl y ↦ absurd (let z = just b i y in let f = n.behind in omega arith)
            | inr y ↦ inl (rising_same xs rise b t i it (omega arith))
          ]
        ]

    pub span_next : (o : Option ℕ) → SpanAt xs keeps base t o → SpanAt xs keeps base h (span_on o (num h) h.row.parent (keeps h))
    span_next None none = span_alone h ih (λ a j n k. none a j (contained a j n).0 k)
    span_next (Some s) (a, j, e, w, k, out) = elim (below_or s h.row.parent) [
      | inl b ↦ subst (λ z. SpanAt xs keeps base h (cond z (Some s) (span_else (num h) (keeps h)))) (sym b.0) (
          let n = contains_next a w (let l = b.1 in omega arith) in (
            a,
            j,
            e,
            inr n,
            k,
            elim out [
              | inl m ↦ inl m
              | inr least ↦ inr (λ x i v p. elim v [ inl f ↦ (let z = ap num f in let y = n.behind in omega arith) | inr u ↦ least x i (contained x i u).0 p ])
            ],
          ))
      | inr b ↦ subst (λ z. SpanAt xs keeps base h (cond z (Some s) (span_else (num h) (keeps h)))) (sym b.0) (elim out [
        | inl m ↦ absurd (let l = below.block h ih below.behind (omega arith) in let f = m.behind in let z = b.1 in omega arith)
        | inr least ↦ span_alone h ih (λ x i n p. let c = contained x i n in let l = least x i c.0 p in let d = c.1 in let z = b.1 in omega arith)
      ])
    ]

  -- a test that tells the same of the rows above t serves as well
  pub span_same : (test : Cell → Bool) (t : Cell) → ((a : Cell) → In a xs → Within xs a t → test a ≡ keeps a) → (o : Option ℕ) → SpanAt xs keeps base t o → SpanAt xs test base t o
  span_same test t same None none = λ a j w k. none a j w (sym (same a j w) ∙ k)
  span_same test t same (Some s) (a, j, e, w, k, out) = (a, j, e, w, same a j w ∙ k, elim out [ inl m ↦ inl m | inr least ↦ inr (λ b i v p. least b i v (sym (same b i v) ∙ p)) ])

  -- what it tells of t
  pub span_tells : (t : Cell) (o : Option ℕ) → SpanAt xs keeps base t o → (is_some o ≡ true) ↔ ((a : Cell) × In a xs × Within xs a t × (keeps a ≡ true))
  span_tells t None h = ((λ e. absurd (false≢true e)), λ a. absurd (h a.0 a.1 a.2 a.3))
  span_tells t (Some s) h = ((λ e. (h.0, h.1, h.3, h.4)), λ a. refl)
