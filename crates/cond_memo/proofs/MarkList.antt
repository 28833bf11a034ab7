-- The list of the marks: one is made or changed, and the others stay.
use Rattle.std.proofs.Common.{◌≡◌, ℕ, zero, suc, ◌<◌, Bool, List, [], ◌∷◌, ◌++◌, length, map, Option, Some, None, sym, ◌∙◌, ap, subst, inl, inr, ◌⊎◌, arith}
use Rattle.std.specs.Prelude.{slice_index_or, slice_set}
use Rattle.std.specs.FinMap.{get}
use Rattle.gcx_base.specs.declared.ids.Serial.{Serial}
use Rattle.gcx_base.specs.declared.ids.VarId.{VarId}
use Rattle.gcx_base.specs.declared.steps.Step.{Step}
use Rattle.gcx_model.specs.Tree.{Node, serial_of, Tree}
use Rattle.gcx_model.specs.Members.{In, Once}
use Rattle.tree_laws.proofs.Lists.{In-append}
use Rattle.buf_tree.specs.Shape.{Cell}
use Rattle.cond_eval.specs.Bindings.{Bindings}
use Rattle.cond_eval.proofs.Kept.{keys_set, once_push, same_entry}
use Rattle.cond_memo.specs.Again.{IsAt}
use Rattle.cond_memo.specs.Marks.{AsksLiteral, answer, known, Fits, IsMark, AreMarks, Asks, AsksOf, MayTell, IsAbout, MayFind, StandFor, subject, subject_of}
use Rattle.cond_memo.specs.declared.mark.Ask.{Ask}
use Rattle.cond_memo.specs.declared.mark.Mark.{Mark}
use Rattle.cond_memo.specs.declared.marked.Marked.{Marked}
use Rattle.gcx_model.specs.declared.truth.Truth.{Truth}

-- ---- what they are about

pub subject_is : (m : Mark) (x : VarId) (steps : List Step) (ask : Option Ask) → IsAbout m x steps ask → subject_of m ≡ subject x steps ask
subject_is m x steps ask a =
    ap (λ (v : VarId). subject v m.steps m.ask) a.var ∙ (ap (λ (z : List Step). subject x z m.ask) a.steps ∙ ap (λ (k : Option Ask). subject x steps k) a.ask)

pub is_subject : (m : Mark) (x : VarId) (steps : List Step) (ask : Option Ask) → subject_of m ≡ subject x steps ask → IsAbout m x steps ask
is_subject m x steps ask e = record { var = ap (λ (s : VarId × List Step × Option Ask). s.0) e; steps = ap (λ (s : VarId × List Step × Option Ask). s.1) e; ask = ap (λ (s : VarId × List Step × Option Ask). s.2) e }

-- ---- one is made or changed

pub new_mark : (m : Mark) → Fits m.steps m.last → AsksLiteral m.ask → m.of ≡ None → (P : Tree) → IsMark m P
new_mark m f l o P = record { fits = f; literal = l; told = λ s e. let z : ◌≡◌ {A = Option Serial} None (Some s) = sym o ∙ e in absurd (cc) }

pub push_all : (xs ys : List Mark) (m : Mark) (P : Tree) → ys ≡ xs ++ m ∷ [] → (In (subject_of m) (map subject_of xs) → ⊥) → StandFor xs P → IsMark m P → StandFor ys P
push_all xs ys m P e none k is = subst (λ (zs : List Mark). StandFor zs P) (sym e) (record { each = λ w i. go w (In-append w xs (m ∷ []) i); once = once_push subject_of xs m none k.once })
  where
    go : (w : Mark) → In w xs ⊎ In w (m ∷ []) → IsMark w P
    go w (inl j) = k.each w j
    go w (inr (inl f)) = subst (λ (x : Mark). IsMark x P) f is
    go w (inr (inr f)) = absurd f

pub at_in : (xs : List Mark) (i : ℕ) (m : Mark) → i < length xs → m ≡ slice_index_or xs i m → In m xs
at_in [] i m l e = absurd (omega arith)
at_in (x ∷ xs) zero m l e = inl (sym e)
at_in (x ∷ xs) (suc i) m l e = inr (at_in xs i m (omega arith) e)

pub set_in : (xs : List Mark) (i : ℕ) (w m : Mark) → In m (slice_set xs i w) → (w ≡ m) ⊎ In m xs
set_in [] i w m k = absurd k
set_in (x ∷ xs) zero w m (inl e) = inl e
set_in (x ∷ xs) zero w m (inr k) = inr (inr k)
set_in (x ∷ xs) (suc i) w m (inl e) = inr (inl e)
set_in (x ∷ xs) (suc i) w m (inr k) = go (set_in xs i w m k)
  where
    go : (w ≡ m) ⊎ In m xs → (w ≡ m) ⊎ In m (x ∷ xs)
    go (inl e) = inl e
    go (inr j) = inr (inr j)

-- the mark that is changed is about what it was about
pub set_marks : (xs : List Mark) (i : ℕ) (m w : Mark) (P : Tree) → IsAt xs i m → IsAbout w m.var m.steps m.ask → StandFor xs P → IsMark w P → StandFor (slice_set xs i w) P
set_marks xs i n w P at same k is = record { each = λ m j. go m (set_in xs i w m j); once = subst Once (sym (keys_set subject_of xs i n w at (subject_is w n.var n.steps n.ask same))) k.once }
  where
    go : (m : Mark) → (w ≡ m) ⊎ In m xs → IsMark m P
    go m (inl f) = subst (λ (x : Mark). IsMark x P) f is
    go m (inr h) = k.each m h

-- ---- the variable's node

pub pair_place : (p q s t : ℕ) (b : Option (ℕ × ℕ)) → Some (p, s) ≡ b → b ≡ Some (q, t) → (p ≡ q) × (s ≡ t)
pair_place p q s t b e f = let g : ◌≡◌ {A = Option (ℕ × ℕ)} (Some (p, s)) (Some (q, t)) = e ∙ f in let h : ◌≡◌ {A = ℕ × ℕ} (p, s) (q, t) = cc in (ap (λ (z : ℕ × ℕ). z.0) h, ap (λ (z : ℕ × ℕ). z.1) h)

module _ (rows : List Cell) (nodes : ℕ) (bound : Bindings) (x : ℕ) (p s : ℕ) (got : Some (p, s) ≡ get bound x) (steps : List Step) (ask : Option Ask) (m : Mark) (v : VarId) (about : IsAbout m v steps ask) where
  pub asks_mark : (P : Tree) (keep : Node → Bool) (n : Node) → AsksOf rows nodes bound x steps ask P keep n → Asks rows nodes m.steps m.ask p P keep n × (serial_of n ≡ s)
  asks_mark P keep n a =
      let e = pair_place p a.bound_to.place s (serial_of n) (get bound x) got a.bound_to.pair in (
        subst (λ (q : ℕ). Asks rows nodes m.steps m.ask q P keep n) (sym e.0)
            (subst (λ (k : Option Ask). Asks rows nodes m.steps k a.bound_to.place P keep n) (sym about.ask)
            (subst (λ (z : List Step). Asks rows nodes z ask a.bound_to.place P keep n) (sym about.steps) a.asks)),
        sym e.1,
      )

  pub may_tell : (k now : Marked) → MayFind k rows nodes bound x steps ask → ((P : Tree) → AreMarks k P → AreMarks now P) → In m now.marks.items → MayTell m rows nodes p s
  may_tell k now f stays i =
      let a = asks_mark f.tree f.keep f.node f.asks in
      record { tree = f.tree; keep = f.keep; node = f.node; asks = a.0; serial = a.1; mark = (stays f.tree f.marks).0.each m i }

-- ---- what is told of the variable's node

pub told_mark : (rows : List Cell) (nodes : ℕ) (bound : Bindings) (x : ℕ) (p s : ℕ) → Some (p, s) ≡ get bound x → (steps : List Step) (ask : Option Ask) (xs : List Mark) (i : ℕ) (m w : Mark) (v : VarId) → IsAbout m v steps ask → IsAt xs i m → IsAbout w m.var m.steps m.ask → (t : Option Bool)
    → ((P : Tree) (keep : Node → Bool) (n : Node) → Asks rows nodes m.steps m.ask p P keep n → serial_of n ≡ s → IsMark m P → (answer P m.steps m.ask n ≡ known t) × IsMark w P) → (truth : Truth) → truth ≡ known t
    → (P : Tree) (keep : Node → Bool) (n : Node) → StandFor xs P → AsksOf rows nodes bound x steps ask P keep n → (truth ≡ answer P steps ask n) × StandFor (slice_set xs i w) P
told_mark rows nodes bound x p s got steps ask xs i m w v about at same t told truth is P keep n marks a =
    let q = asks_mark rows nodes bound x p s got steps ask m v about P keep n a in
    let h = told P keep n q.0 q.1 (marks.each m (at_in xs i m at.0 at.1)) in (
      is ∙ (sym h.0 ∙ (ap (λ (z : List Step). answer P z m.ask n) about.steps ∙ ap (λ (k : Option Ask). answer P steps k n) about.ask)),
      set_marks xs i m w P at same marks h.1,
    )

-- ---- the mark at an index

abbrev pub FoundAt : List Mark → ℕ → VarId → List Step → Option Ask → Type 0
FoundAt xs i v steps ask = (m : Mark) × (m ≡ slice_index_or xs i m) × IsAbout m v steps ask

pub about_at : (xs : List Mark) (i : ℕ) (m : Mark) (v : VarId) (steps : List Step) (ask : Option Ask) → i < length xs → FoundAt xs i v steps ask → m ≡ slice_index_or xs i m → IsAbout m v steps ask
about_at xs i m v steps ask l f e = subst (λ (w : Mark). IsAbout w v steps ask) (same_entry xs i f.0 m (l, f.1) (l, e)) f.2

module _ (rows : List Cell) (nodes : ℕ) (bound : Bindings) (v : VarId) (p s : ℕ) (got : Some (p, s) ≡ get bound v.0) (steps : List Step) (ask : Option Ask) (i : ℕ) (m : Mark) where
  pub may_tell_at : (k now : Marked) → MayFind k rows nodes bound v.0 steps ask → i < length now.marks.items → FoundAt now.marks.items i v steps ask → m ≡ slice_index_or now.marks.items i m → ((P : Tree) → AreMarks k P → AreMarks now P) → MayTell m rows nodes p s
  may_tell_at k now f l found e stays =
      may_tell rows nodes bound v.0 p s got steps ask m v (about_at now.marks.items i m v steps ask l found e) k now f stays (at_in now.marks.items i m l e)

  pub told_at : (xs : List Mark) → i < length xs → FoundAt xs i v steps ask → m ≡ slice_index_or xs i m → (w : Mark) → IsAbout w m.var m.steps m.ask → (t : Option Bool)
      → ((P : Tree) (keep : Node → Bool) (n : Node) → Asks rows nodes m.steps m.ask p P keep n → serial_of n ≡ s → IsMark m P → (answer P m.steps m.ask n ≡ known t) × IsMark w P) → (truth : Truth) → truth ≡ known t
      → (P : Tree) (keep : Node → Bool) (n : Node) → StandFor xs P → AsksOf rows nodes bound v.0 steps ask P keep n → (truth ≡ answer P steps ask n) × StandFor (slice_set xs i w) P
  told_at xs l found e w same t told truth is P keep n marks a =
      told_mark rows nodes bound v.0 p s got steps ask xs i m w v (about_at xs i m v steps ask l found e) (l, e) same t told truth is P keep n marks a
