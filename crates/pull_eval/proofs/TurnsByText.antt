-- Entries by their texts: those with a value stand together.
use Rattle.std.proofs.Common.{◌≡◌, ◌↔◌, ℕ, zero, suc, ◌+◌, ◌<◌, ◌≤◌, Bool, true, false, List, [], ◌∷◌, ◌++◌, take, length, get_or, refl, sym, ◌∙◌, ap, subst, inl, inr, ◌⊎◌, arith}
use Rattle.std.specs.Ordering.{nat_cmp, is_lt, ordering_reverse}
use Rattle.std.specs.Cmp.{IsStrictWeakOrder}
use Rattle.std.specs.Cmp.Lexicographic.{slice_cmp}
use Rattle.std.specs.declared.cmp.Ordering.{Ordering}
use Rattle.std.specs.declared.cmp.Ordering.TheVariants.{Less, Equal, Greater}
use Rattle.std.specs.List.Sorted.{IsPartitionedBy, IsPartitionPoint}
use Rattle.std.proofs.lemmas.Bool.{cases_lt, true≢false}
use Rattle.std.proofs.lemmas.Cmp.{nat_list_cmp_total, tied_itself}
use Rattle.std.proofs.lemmas.List.{get_or_default, take_all}
use Rattle.std.proofs.lemmas.List.Sorted.{ranks_by, sorted_far}
use Rattle.std.proofs.lemmas.Map.Lookups.{exact_bytes}
use Rattle.gcx_model.specs.Tree.{Node, Tree}
use Rattle.gcx_model.specs.Paths.{value}
use Rattle.gcx_model.specs.Members.{In}
use Rattle.tree_laws.proofs.Lists.{In-append, In-left, In-right}
use Rattle.buf_tree.specs.Shape.{Cell}
use Rattle.cond_eval.specs.Reads.{IsValue}
use Rattle.cond_eval.specs.Comparing.{Readable}
use Rattle.cond_eval.specs.declared.sets.Member.{Member}
use Rattle.cond_eval.proofs.Comparisons.{ReadAt, read_at, same_length}
use Rattle.pull_eval.specs.declared.turns.Entry.{Entry}
use Rattle.pull_eval.specs.Turns.{AreByText, is_text_before}
use Rattle.pull_eval.specs.Listing.{HasTextAt, HasValueOf, HitsAll, CountsBefore, PutsHits}

-- ---- the order

weak : IsStrictWeakOrder is_text_before
weak = ranks_by nat_list_cmp_total (λ (v : List ℕ). v)

abbrev pub is_entry_before : Entry → Entry → Bool
is_entry_before one other = is_text_before one.text other.text

pub entries_weak : IsStrictWeakOrder is_entry_before
entries_weak = ranks_by nat_list_cmp_total (λ (e : Entry). e.text)

-- of two texts of which none stands before the other one they are the same
same_text : (v w : List ℕ) → is_text_before v w ≡ false → is_text_before w v ≡ false → v ≡ w
same_text v w a b = go (slice_cmp nat_cmp v w) refl
  where
    go : (o : Ordering) → slice_cmp nat_cmp v w ≡ o → v ≡ w
    go Less e = absurd (true≢false (sym (ap is_lt e) ∙ a))
    go Equal e = exact_bytes v w e
    go Greater e = absurd (true≢false (sym (ap is_lt (nat_list_cmp_total.antisymm w v ∙ ap ordering_reverse e)) ∙ b))

not_before_itself : (v : List ℕ) → is_text_before v v ≡ false
not_before_itself v = ap is_lt (tied_itself nat_list_cmp_total v)

-- ---- the front

module _ (es : List Entry) (up : AreByText es) where
  later : (i j : ℕ) (d : Entry) → i ≤ j → j < length es → is_text_before (get_or es j d).text (get_or es i d).text ≡ false
  later i j d l m = sorted_far is_entry_before entries_weak es up i j d l m

  pub parted : (v : List ℕ) → IsPartitionedBy (λ (e : Entry). is_text_before e.text v) es
  parted v i j d l m e = go (is_text_before (get_or es i d).text v) refl
    where
      go : (b : Bool) → is_text_before (get_or es i d).text v ≡ b → b ≡ true
      go true h = refl
      go false h = absurd (true≢false (sym e ∙ weak.chain (get_or es j d).text (get_or es i d).text v (later i j d l m) h))

  -- behind one that is neither before the value nor has it none has it
  pub none_later : (v : List ℕ) (i j : ℕ) (d : Entry) → i ≤ j → j < length es → is_text_before (get_or es i d).text v ≡ false → ((get_or es i d).text ≡ v → ⊥) → (get_or es j d).text ≡ v → ⊥
  none_later v i j d l m low other e =
      other (same_text (get_or es i d).text v low (subst (λ (w : List ℕ). is_text_before w (get_or es i d).text ≡ false) e (later i j d l m)))

pub front_is : (es : List Entry) (v : List ℕ) (n : ℕ) → IsPartitionPoint (λ (e : Entry). is_text_before e.text v ≡ true) (λ (e : Entry). is_text_before e.text v ≡ false) es n → CountsBefore es v n
front_is es v n p = record { low = λ k d l. p.0 k d (omega arith) l; high = λ k d l m. p.1 k d l m }

-- ---- the entries with a value

-- those that have it are put up to here, and all before are less
pub record Equals (es : List Entry) (v : List ℕ) (before now : List Member) (n : ℕ) : Type 0 where
  pub start : ℕ
  pub least : start ≤ n
  pub front : CountsBefore es v start
  pub put : (k : ℕ) (d : Entry) → start ≤ k → k < n → k < length es → In (get_or es k d).hit now
  pub old : (h : Member) → In h before → In h now
  pub only : (h : Member) → In h now → In h before ⊎ HasTextAt es h v

pub equals_start : (es : List Entry) (v : List ℕ) (before : List Member) (n : ℕ) → CountsBefore es v n → Equals es v before before n
equals_start es v before n f = record { start = n; least = omega arith; front = f; put = λ k d l m i. absurd (omega arith); old = λ h i. i; only = λ h i. inl i }

entry_in : (es : List Entry) (i : ℕ) (d : Entry) → i < length es → In (get_or es i d) es
entry_in [] i d h = absurd (omega arith)
entry_in (x ∷ es) zero d h = inl refl
entry_in (x ∷ es) (suc i) d h = inr (entry_in es i d (omega arith))

entry_number : (es : List Entry) (e : Entry) → In e es → (i : ℕ) × (i < length es) × ((d : Entry) → get_or es i d ≡ e)
entry_number [] e i = absurd i
entry_number (x ∷ es) e (inl s) = (0, omega arith, λ d. s)
entry_number (x ∷ es) e (inr i) = let r = entry_number es e i in let l = r.1 in (suc r.0, omega arith, r.2)

module _ (es : List Entry) (v : List ℕ) (before now : List Member) (n : ℕ) (q : Equals es v before now n) where
  pub equals_more : (x : Entry) (after : List Member) → n < length es → x ≡ get_or es n x → x.text ≡ v → after ≡ now ++ x.hit ∷ [] → Equals es v before after (n + 1)
  equals_more x after l is e f = record {
    start = q.start;
    least = let h = q.least in omega arith;
    front = q.front;
    put = λ k d a b i. subst (λ (z : List Member). In (get_or es k d).hit z) (sym f) (elim (cases_lt k n) [
      | inl c ↦ In-left (get_or es k d).hit now (x.hit ∷ []) (q.put k d a c i)
      | inr c ↦ In-right (get_or es k d).hit now (x.hit ∷ []) (inl (sym (here k d (omega arith))))
    ]);
    old = λ h i. subst (λ (z : List Member). In h z) (sym f) (In-left h now (x.hit ∷ []) (q.old h i));
    only = λ h i. from h (In-append h now (x.hit ∷ []) (subst (λ (z : List Member). In h z) f i));
  }
    where
      here : (k : ℕ) (d : Entry) → k ≡ n → (get_or es k d).hit ≡ x.hit
      here k d s = ap (λ (z : Entry). z.hit) (ap (λ (z : ℕ). get_or es z d) s ∙ (get_or_default es n d x l ∙ sym is))

      from : (h : Member) → In h now ⊎ In h (x.hit ∷ []) → In h before ⊎ HasTextAt es h v
      from h (inl i) = q.only h i
      from h (inr (inl s)) = inr (x, subst (λ (z : Entry). In z es) (sym is) (entry_in es n x l), s, e)
      from h (inr (inr i)) = absurd i

  module _ (up : AreByText es) where
    ends : ((k : ℕ) (d : Entry) → n ≤ k → k < length es → (get_or es k d).text ≡ v → ⊥) → PutsHits es v before now
    ends none h = (q.only h, back)
      where
        at : (e : Entry) → (k : ℕ) → k < length es → get_or es k e ≡ e → e.text ≡ v → In e.hit now
        at e k l s t =
            let u : (get_or es k e).text ≡ v = ap (λ (z : Entry). z.text) s ∙ t in
            elim (cases_lt k q.start) [
              | inl a ↦ absurd (true≢false (sym (q.front.low k e a) ∙ subst (λ (w : List ℕ). is_text_before w v ≡ false) (sym u) (not_before_itself v)))
              | inr a ↦ elim (cases_lt k n) [
                | inl b ↦ subst (λ (z : Entry). In z.hit now) s (q.put k e a b l)
                | inr b ↦ absurd (none k e b l u)
              ]
            ]

        back : In h before ⊎ HasTextAt es h v → In h now
        back (inl i) = q.old h i
        back (inr (e, i, s, t)) = let r = entry_number es e i in subst (λ (z : Member). In z now) s (at e r.0 r.1 (r.2 e) t)

    -- at the end,
    pub equals_end : length es ≤ n → PutsHits es v before now
    equals_end l = ends (λ k d a b e. absurd (omega arith))

    -- or at an entry with another text
    pub equals_other : (x : Entry) → n < length es → x ≡ get_or es n x → (x.text ≡ v → ⊥) → PutsHits es v before now
    equals_other x l is other = ends (λ k d a b e. none_later es up v n k d a b
        (q.front.high n d (q.least) l)
        (λ w. other (ap (λ (z : Entry). z.text) (is ∙ sym (get_or_default es n d x l)) ∙ w)) e)

-- ---- the matches with a value of a set

-- of its first nodes
abbrev pub HitsFirst : List Cell → (set : List Member) → List Entry → (seen : ℕ) → List Member → Type 0
HitsFirst rows set es i hs = (P : Tree) (keep : Node → Bool) (ns : List Node) → Readable rows P keep set ns → (h : Member) → In h hs ↔ HasValueOf es P (take i ns) h

pub hits_none : (rows : List Cell) (set : List Member) (es : List Entry) (hs : List Member) → hs ≡ [] → HitsFirst rows set es 0 hs
hits_none rows set es hs e P keep ns r h = ((λ i. absurd (subst (λ (z : List Member). In h z) e i)), (λ m. absurd m.1))

module _ (rows : List Cell) (set : List Member) (es : List Entry) (i : ℕ) (hs : List Member) (on : HitsFirst rows set es i hs) where
  pub hits_more : (d : Member) → i < length set → (v : List ℕ) → IsValue rows (get_or set i d).place v → (now : List Member) → PutsHits es v hs now → HitsFirst rows set es (i + 1) now
  hits_more d l v is now put P keep ns r h =
      subst (λ (z : List Node). In h now ↔ HasValueOf es P z h) (sym t.turn.taken) ((λ k. there ((put h).0 k)), (λ m. (put h).1 (back m)))
    where
      t : ReadAt rows P keep set ns i (get_or set i d)
      t = read_at rows P keep set ns i d r l

      n : Node
      n = t.turn.node

      same : v ≡ value P n
      same = is P keep n t.at t.whole

      there : In h hs ⊎ HasTextAt es h v → HasValueOf es P (take i ns ++ n ∷ []) h
      there (inl k) = let m = (on P keep ns r h).0 k in (m.0, In-left m.0 (take i ns) (n ∷ []) m.1, m.2)
      there (inr e) = (n, In-right n (take i ns) (n ∷ []) (inl refl), subst (λ (w : List ℕ). HasTextAt es h w) same e)

      back : HasValueOf es P (take i ns ++ n ∷ []) h → In h hs ⊎ HasTextAt es h v
      back (m, k, e) = elim (In-append m (take i ns) (n ∷ []) k) [
        | inl a ↦ inl ((on P keep ns r h).1 (m, a, e))
        | inr (inl a) ↦ inr (subst (λ (w : List ℕ). HasTextAt es h w) (sym (same ∙ ap (value P) a)) e)
        | inr (inr a) ↦ absurd a
      ]

  pub hits_all : length set ≤ i → HitsAll rows set es hs
  hits_all l P keep ns r h =
      let same = same_length set ns r.nodes.serials in
      subst (λ (z : List Node). In h hs ↔ HasValueOf es P z h) (take_all i ns (omega arith)) (on P keep ns r h)
