-- Values over the nodes that are kept: no node lies below a text, so a value is that of its node's texts below, or of the text itself.
use Rattle.std.proofs.Common.{◌≡◌, ℕ, suc, ◌<◌, Bool, true, false, cond, ◌||◌, List, [], ◌∷◌, ◌++◌, length, refl, sym, ◌∙◌, ap, subst, inl, inr, arith, append-nil, eqb, Some, None, Option}
use Rattle.std.specs.Prelude.{flat_map, option_map}
use Rattle.std.specs.List.{filter}
use Rattle.std.proofs.lemmas.Bool.{or_cases, and_from, true≢false, false≢true, eqb-true, eq-eqb, ne_eqb, cases_Bool, false_from_ne_true}
use Rattle.std.proofs.lemmas.Option.{same_Some}
use Rattle.gcx_base.specs.declared.kind.Kind.{Kind}
use Rattle.gcx_base.specs.declared.kind.Kind.TheVariants.{Document, Element, Text}
use Rattle.gcx_base.specs.declared.steps.Step.{Step}
use Rattle.gcx_model.specs.Tree.{Node, Root, Under, serial_of, kind_of, within, Tree, opening}
use Rattle.gcx_base.specs.Tests.{passes}
use Rattle.gcx_model.specs.Paths.{lies, hits, text_of, value}
use Rattle.gcx_model.specs.Growth.{Grow, opened, added, closed, ended, Leads, stays, more}
use Rattle.tree_laws.proofs.Lists.{In, In-append}
use Rattle.tree_laws.proofs.Matches.{Grown, Numbered, Numbered-low, Numbered-same}
use Rattle.tree_laws.proofs.Chains.{hits_one_from}
use Rattle.tree_laws.proofs.Freeze.{hits_within}
use Rattle.tree_laws.proofs.Fed.{nodes_are_numbered}
use Rattle.node_store.specs.declared.store.Place.{Place}
use Rattle.gcx_base.specs.Kinds.{is_text}
use Rattle.buf_tree.specs.Shape.{Cell, num}
use Rattle.buf_tree.specs.Match.{GoesFrom}
use Rattle.buf_tree.specs.Walk.{high_at}
use Rattle.buf_tree.specs.View.{InUse}
use Rattle.cond_eval.specs.Asking.{RowsOf}
use Rattle.cond_eval.specs.Reads.{NodeAt, IsWhole, IsValue, texts_below, bytes_of, IsOnly, NoText, AreTexts}
use Rattle.cond_eval.proofs.Rows.{at_node, grown_tree, same_node, kind_told, serial_told}
use Rattle.cond_eval.proofs.RowSteps.{beyond, kept_matches, found, not_found, all_beyond}
use Rattle.cond_eval.proofs.Searches.{Searched, Looks, Goes, goes_start, goes_way, goes_on, goes_less, goes_end, beyond_next, matches_rise}

-- ---- no node lies below a text

pub record NoTextAbove (Q : Tree) : Type 0 where
  at : (p : Node) → Q.at ≡ Some p → is_text (kind_of p) ≡ false
  above : (p : Node) (s : ℕ) (k : Kind) → In (Under p s k) Q.nodes → is_text (kind_of p) ≡ false

none_some : {X : Type 0} (x : X) → ◌≡◌ {A = Option X} None (Some x) → ⊥
none_some x e = cc

parent_is : (p q : Node) (s t : ℕ) (k l : Kind) → Under p s k ≡ Under q t l → p ≡ q
parent_is p q s t k l e = cc

more_above : (P Q : Tree) (n p : Node) (s : ℕ) (k : Kind) → n ≡ Under p s k → NoTextAbove P → Q.nodes ≡ P.nodes ++ n ∷ [] → is_text (kind_of p) ≡ false → (q : Node) (t : ℕ) (l : Kind) → In (Under q t l) Q.nodes → is_text (kind_of q) ≡ false
more_above P Q n p s k is h e f q t l i = elim (In-append (Under q t l) P.nodes (n ∷ []) (subst (λ (xs : List Node). In (Under q t l) xs) e i)) [
  | inl a ↦ h.above q t l a
  | inr a ↦ elim a [
    | inl b ↦ subst (λ (x : Node). is_text (kind_of x) ≡ false) (parent_is p q s t k l (sym is ∙ b)) f
    | inr b ↦ absurd b
  ]
]

grown_text : (P Q : Tree) → Grown P → NoTextAbove P → Grow P Q → NoTextAbove Q
grown_text P Q w h (opened p name named at r n a) = record {
  at = λ q e. subst (λ (x : Node). is_text (kind_of x) ≡ false) (same_Some _ _ (sym a ∙ e)) refl;
  above = more_above P Q (Under p (length P.nodes) (Element name)) p (length P.nodes) (Element name) refl h n (h.at p at);
}
grown_text P Q w h (added p s k b at r t n a) = record {
  at = λ q e. h.at q (sym a ∙ e);
  above = more_above P Q (Under (Under p s k) (length P.nodes) (Text b)) (Under p s k) (length P.nodes) (Text b) refl h n (h.at (Under p s k) at);
}
grown_text P Q w h (closed p s k at n a) = record {
  at = λ q e. subst (λ (x : Node). is_text (kind_of x) ≡ false) (same_Some _ _ (sym a ∙ e)) (h.above p s k (w.at_in (Under p s k) at));
  above = λ q t l i. h.above q t l (subst (λ (xs : List Node). In (Under q t l) xs) n i);
}
grown_text P Q w h (ended at r n a) = record {
  at = λ q e. absurd (none_some q (sym a ∙ e));
  above = λ q t l i. h.above q t l (subst (λ (xs : List Node). In (Under q t l) xs) n i);
}

pub no_text : (Q : Tree) → Leads opening Q → NoTextAbove Q
no_text Q stays = record {
  at = λ p e. subst (λ (x : Node). is_text (kind_of x) ≡ false) (same_Some _ _ e) refl;
  above = λ p s k i. elim i [ inl e ↦ absurd (root_not p s k e) | inr j ↦ absurd j ];
}
  where
    root_not : (p : Node) (s : ℕ) (k : Kind) → Root ≡ Under p s k → ⊥
    root_not p s k e = cc
no_text Q (more {Q = R} l g) = grown_text R Q (nodes_are_numbered R l).0 (no_text R l) g

-- a node that has another below it is no text
pub below_none : (P : Tree) → Grown P → NoTextAbove P → (n p : Node) (s : ℕ) (k : Kind) → In n P.nodes → In (Under p s k) P.nodes → within (serial_of n) p ≡ true → is_text (kind_of n) ≡ false
below_none P w h n Root s k i j e =
    let same : Root ≡ n = Numbered-same 0 P.nodes w.numbered Root n (w.upward Root s k j) i (eqb-true 0 (serial_of n) e) in
    subst (λ (x : Node). is_text (kind_of x) ≡ false) same refl
below_none P w h n (Under q t v) s k i j e = elim (or_cases (eqb t (serial_of n)) (within (serial_of n) q) e) [
  | inl f ↦ (
      let same : Under q t v ≡ n = Numbered-same 0 P.nodes w.numbered (Under q t v) n (w.upward (Under q t v) s k j) i (eqb-true t (serial_of n) f) in
      subst (λ (x : Node). is_text (kind_of x) ≡ false) same (h.above (Under q t v) s k j))
  | inr f ↦ below_none P w h n q t v i (w.upward (Under q t v) s k j) f
]

-- ---- texts in lists of nodes

abbrev pub texts_of : Node → List ℕ
texts_of m = text_of (kind_of m)

flat_filter : (q : Node → Bool) (f : Node → List ℕ) (xs : List Node) → flat_map f (filter q xs) ≡ flat_map (λ x. cond (q x) (f x) []) xs
flat_filter q f [] = refl
flat_filter q f (x ∷ xs) = go (q x) (flat_filter q f xs)
  where
    go : (b : Bool) → flat_map f (filter q xs) ≡ flat_map (λ y. cond (q y) (f y) []) xs → flat_map f (cond b (x ∷ filter q xs) (filter q xs)) ≡ cond b (f x) [] ++ flat_map (λ y. cond (q y) (f y) []) xs
    go true ih = ap (λ z. f x ++ z) ih
    go false ih = ih

pub flat_same : (f g : Node → List ℕ) (xs : List Node) → ((x : Node) → In x xs → f x ≡ g x) → flat_map f xs ≡ flat_map g xs
flat_same f g [] h = refl
flat_same f g (x ∷ xs) h = ap (λ z. z ++ flat_map f xs) (h x (inl refl)) ∙ ap (λ z. g x ++ z) (flat_same f g xs (λ y i. h y (inr i)))

pub no_bytes : (k : Kind) → is_text k ≡ false → text_of k ≡ []
no_bytes Document e = refl
no_bytes (Element name) e = refl
no_bytes (Text b) e = absurd (true≢false e)

passes_text : (k : Kind) → is_text k ≡ true → passes texts_below.test k ≡ true
passes_text Document e = absurd (false≢true e)
passes_text (Element name) e = absurd (false≢true e)
passes_text (Text b) e = refl

-- of nodes with rising numbers one alone has that of n
pub one_of : (k : ℕ) (xs : List Node) (n : Node) (f : Node → List ℕ) → Numbered k xs → In n xs → flat_map (λ x. cond (eqb (serial_of x) (serial_of n)) (f x) []) xs ≡ f n
one_of k [] n f h i = absurd i
one_of k (x ∷ xs) n f h (inl e) =
    let s = ap serial_of e in
    rw (eq-eqb (serial_of x) (serial_of n) s) (ap (λ z. f x ++ z) none ∙ (append-nil (f x) ∙ ap f e))
  where
    none : flat_map (λ y. cond (eqb (serial_of y) (serial_of n)) (f y) []) xs ≡ []
    none = rest xs (λ y i. let a = Numbered-low (suc k) xs h.1 y i in let b = h.0 in let c = ap serial_of e in ne_eqb (serial_of y) (serial_of n) (λ z. omega arith))
      where
        rest : (ys : List Node) → ((y : Node) → In y ys → eqb (serial_of y) (serial_of n) ≡ false) → flat_map (λ y. cond (eqb (serial_of y) (serial_of n)) (f y) []) ys ≡ []
        rest [] g = refl
        rest (y ∷ ys) g = rw (g y (inl refl)) (rest ys (λ z i. g z (inr i)))
one_of k (x ∷ xs) n f h (inr i) =
    let a = Numbered-low (suc k) xs h.1 n i in
    let b = h.0 in
    rw (ne_eqb (serial_of x) (serial_of n) (λ z. omega arith)) (one_of (suc k) xs n f h.1 i)

module _ (rows : List Cell) (P : Tree) (keep : Node → Bool) (of : RowsOf rows P keep) (n : Node) (i : In n P.nodes) where
  abbrev w : Grown P
  w = grown_tree rows P keep of

  -- a text alone is in its subtree
  pub text_within : is_text (kind_of n) ≡ true → (m : Node) → In m P.nodes → within (serial_of n) m ≡ eqb (serial_of m) (serial_of n)
  text_within t Root j = refl
  text_within t (Under p s k) j = elim (cases_Bool (within (serial_of n) p)) [
    | inl e ↦ absurd (true≢false (sym t ∙ below_none P w (no_text P of.grown) n p s k i j e))
    | inr e ↦ rw e (none (eqb s (serial_of n)))
  ]
    where
      none : (b : Bool) → (b || false) ≡ b
      none true = refl
      none false = refl

  -- a text's value is its bytes
  text_value : is_text (kind_of n) ≡ true → value P n ≡ text_of (kind_of n)
  text_value t = flat_same (λ m. cond (within (serial_of n) m) (texts_of m) []) (λ m. cond (eqb (serial_of m) (serial_of n)) (texts_of m) []) P.nodes (λ m j. ap (λ b. cond b (texts_of m) []) (text_within t m j))
      ∙ one_of 0 P.nodes n texts_of w.numbered i

  -- that of another node is its texts below
  below_value : is_text (kind_of n) ≡ false → IsWhole P keep n → value P n ≡ flat_map texts_of (kept_matches P keep (serial_of n) texts_below)
  below_value t whole =
      flat_same (λ m. cond (within (serial_of n) m) (texts_of m) []) (λ m. cond (keep m) (cond (hits (serial_of n) (texts_below ∷ []) m) (texts_of m) []) []) P.nodes same
      ∙ (sym (flat_filter keep (λ m. cond (hits (serial_of n) (texts_below ∷ []) m) (texts_of m) []) P.nodes)
      ∙ sym (flat_filter (hits (serial_of n) (texts_below ∷ [])) texts_of (filter keep P.nodes)))
    where
      to_text : (m : Node) → In m P.nodes → is_text (kind_of m) ≡ true → within (serial_of n) m ≡ true → lies texts_below.axis (serial_of n) m ≡ true
      to_text Root j e l = absurd (false≢true e)
      to_text (Under p s k) j e l = elim (or_cases (eqb s (serial_of n)) (within (serial_of n) p) l) [
        | inl f ↦ (
            let is = same_node rows P keep of (Under p s k) n j i (eqb-true s (serial_of n) f) in
            absurd (true≢false (sym e ∙ (ap (λ (x : Node). is_text (kind_of x)) is ∙ t))))
        | inr f ↦ f
      ]

      by_kind : (m : Node) → In m P.nodes → (b : Bool) → within (serial_of n) m ≡ b → (c : Bool) → is_text (kind_of m) ≡ c → cond b (texts_of m) [] ≡ cond (keep m) (cond (hits (serial_of n) (texts_below ∷ []) m) (texts_of m) []) []
      by_kind m j true e true f =
          rw (whole m j e, hits_one_from P w (serial_of n) texts_below m (and_from _ _ (passes_text (kind_of m) f) (to_text m j f e))) refl
      by_kind m j true e false f = rw (no_bytes (kind_of m) f) (nothing (keep m) (hits (serial_of n) (texts_below ∷ []) m))
        where
          nothing : (a b : Bool) → ◌≡◌ {A = List ℕ} [] (cond a (cond b [] []) [])
          nothing true true = refl
          nothing true false = refl
          nothing false b = refl
      by_kind m j false e c f = rw (false_from_ne_true (hits (serial_of n) (texts_below ∷ []) m) (λ h. false≢true (sym e ∙ hits_within (serial_of n) (texts_below ∷ []) m h))) (nothing (keep m))
        where
          nothing : (a : Bool) → ◌≡◌ {A = List ℕ} [] (cond a [] [])
          nothing true = refl
          nothing false = refl

      same : (m : Node) → In m P.nodes → cond (within (serial_of n) m) (texts_of m) [] ≡ cond (keep m) (cond (hits (serial_of n) (texts_below ∷ []) m) (texts_of m) []) []
      same m j = by_kind m j (within (serial_of n) m) refl (is_text (kind_of m)) refl

-- ---- what the code finds

module _ (rows : List Cell) (p : ℕ) where
  -- the row is a text
  pub only_self : (b : Bool) → InUse rows p → ((c : Cell) → In c rows → c.place ≡ p → b ≡ is_text c.row.kind) → b ≡ true → IsOnly rows p p
  only_self b u h e = record {
    used = u;
    told = λ P keep n a whole.
        let k = kind_told rows P keep a.rows_of a.cell n (at_node rows P keep p n a) in
        (n, a, text_value rows P keep a.rows_of n a.among (sym (ap is_text k) ∙ (sym (h a.cell a.cell_among a.at) ∙ e)));
  }

  pub no_text_here : (b : Bool) → ((c : Cell) → In c rows → c.place ≡ p → b ≡ is_text c.row.kind) → b ≡ false → NoText rows p
  no_text_here b h e c i a = sym (h c i a) ∙ e

  node_no_text : NoText rows p → (P : Tree) (keep : Node → Bool) (n : Node) → NodeAt rows P keep p n → is_text (kind_of n) ≡ false
  node_no_text t P keep n a = sym (ap is_text (kind_told rows P keep a.rows_of a.cell n (at_node rows P keep p n a))) ∙ t a.cell a.cell_among a.at

  -- one text alone lies below it
  pub only_below : (q : Place) → InUse rows p → NoText rows p → Searched rows p texts_below p (Some q) → Searched rows p texts_below q.0 None → IsOnly rows p q.0
  only_below q u t first second = record {
    used = (let f = first u.cell u.cell u.among u.among u.place u.place in record { cell = f.cell; among = f.reached.among; place = f.place });
    told = λ P keep n a whole.
        let f = first a.cell a.cell a.cell_among a.cell_among a.at a.at in
        let m = found rows P keep a.rows_of a.cell n texts_below (num a.cell) q.0 a.cell_among (at_node rows P keep p n a) f in
        let b = m.3 in
        let g = second a.cell b.cell a.cell_among b.cell_among a.at b.at in
        let none = not_found rows P keep a.rows_of a.cell n texts_below (num b.cell) a.cell_among (at_node rows P keep p n a) g in
        let behind = beyond_next (num a.cell) (kept_matches P keep (serial_of n) texts_below) m.0 m.1 (matches_rise rows P keep a.rows_of (serial_of n) texts_below) m.2 in
        let rest : m.1 ≡ [] = sym behind ∙ (ap (λ k. beyond k (kept_matches P keep (serial_of n) texts_below)) (sym b.number) ∙ none) in
        let e = serial_told rows P keep a.rows_of a.cell n (at_node rows P keep p n a) in
        let all : kept_matches P keep (serial_of n) texts_below ≡ m.0 ∷ m.1 = sym (all_beyond rows P keep a.rows_of (serial_of n) texts_below) ∙ (ap (λ k. beyond k (kept_matches P keep (serial_of n) texts_below)) (sym e) ∙ m.2) in
        (m.0, b, below_value rows P keep a.rows_of n a.among (node_no_text t P keep n a) whole ∙ (ap (flat_map texts_of) all ∙ (ap (λ z. texts_of m.0 ++ flat_map texts_of z) rest ∙ append-nil (texts_of m.0))));
  }

  pub only_value : (q : ℕ) (v : List ℕ) → IsOnly rows p q → ((c : Cell) → In c rows → c.place ≡ q → v ≡ bytes_of c) → IsValue rows p v
  only_value q v o h P keep n a whole =
      let m = o.told P keep n a whole in
      let b = m.1 in
      h b.cell b.cell_among b.at ∙ (ap text_of (kind_told rows P keep b.rows_of b.cell m.0 (at_node rows P keep q m.0 b)) ∙ sym m.2)

  pub texts_value : (v : List ℕ) → NoText rows p → AreTexts rows p v → IsValue rows p v
  texts_value v t h P keep n a whole = h P keep n a ∙ sym (below_value rows P keep a.rows_of n a.among (node_no_text t P keep n a) whole)

-- the texts below are put together while the walk is at this text, or at its end
pub record GathersTo (rows : List Cell) (p : ℕ) (s : Step) (v : List ℕ) (o : Option Place) : Type 0 where
  pub step : s ≡ texts_below
  pub goes : Goes rows p texts_below texts_of v o
  pub looks : Looks rows o

module _ (rows : List Cell) (p : ℕ) (s : Step) where
  pub texts_start : (o : Option Place) → s ≡ texts_below → InUse rows p → Searched rows p s p o → Looks rows o → GathersTo rows p s [] o
  texts_start o e u h l = record { step = e; goes = goes_start rows p texts_below texts_of o u (subst (λ (x : Step). Searched rows p x p o) e h); looks = l }

  pub texts_way : (v : List ℕ) (here : Place) → GathersTo rows p s v (Some here) → GoesFrom rows p s.axis here.0
  texts_way v here g = subst (λ (x : Step). GoesFrom rows p x.axis here.0) (sym g.step) (goes_way rows p texts_below texts_of v here g.goes)

  pub texts_on : (v new ws : List ℕ) (here : Place) (o : Option Place) → GathersTo rows p s v (Some here) → ((c : Cell) → In c rows → c.place ≡ here.0 → ws ≡ bytes_of c) → new ≡ v ++ ws → Searched rows p s here.0 o → Looks rows o → GathersTo rows p s new o
  texts_on v new ws here o g b e h l = record {
    step = g.step;
    goes = subst (λ (x : List ℕ). Goes rows p texts_below texts_of x o) (sym e) (goes_on rows p texts_below texts_of v ws here o g.goes
        (λ P keep m a. b a.cell a.cell_among a.at ∙ ap text_of (kind_told rows P keep a.rows_of a.cell m (at_node rows P keep here.0 m a)))
        (subst (λ (x : Step). Searched rows p x here.0 o) g.step h));
    looks = l;
  }

  pub texts_less : (v : List ℕ) (here : Place) (o : Option Place) → GathersTo rows p s v (Some here) → Searched rows p s here.0 o → Looks rows o → high_at rows (option_map (λ (q : Place). q.0) o) < high_at rows (Some here.0)
  texts_less v here o g h l = goes_less rows p texts_below texts_of v here o g.goes g.looks (subst (λ (x : Step). Searched rows p x here.0 o) g.step h) l

  pub texts_end : (v : List ℕ) → GathersTo rows p s v None → AreTexts rows p v
  texts_end v g P keep n a = goes_end rows p texts_below texts_of v g.goes P keep n a
