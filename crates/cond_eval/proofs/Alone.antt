-- Where a text is the only child of a node, it is the only text below, so the node's value is its bytes.
use Rattle.std.proofs.Common.{◌≡◌, ◌⊎◌, ℕ, Bool, true, false, cond, List, [], refl, sym, ◌∙◌, ap, subst, inl, inr, arith, eqb, Option, Some, None}
use Rattle.std.specs.Prelude.{is_some, option_map}
use Rattle.std.specs.FinMap.{get}
use Rattle.std.proofs.lemmas.Bool.{or_cases, true≢false, eqb-true, eq-eqb, ne_eqb, cases_Bool, cases_lt}
use Rattle.gcx_base.specs.declared.kind.Kind.{Kind}
use Rattle.gcx_base.specs.Kinds.{is_text}
use Rattle.gcx_model.specs.Tree.{Node, Root, Under, serial_of, kind_of, within, Tree}
use Rattle.gcx_model.specs.Paths.{text_of, value}
use Rattle.tree_laws.proofs.Lists.{In}
use Rattle.tree_laws.proofs.Matches.{Grown, Numbered-same}
use Rattle.tree_laws.proofs.Chains.{above_self}
use Rattle.tree_laws.proofs.Freeze.{within_self, within_above}
use Rattle.node_store.specs.Rows.{head_of, children_in, next_of}
use Rattle.buf_tree.specs.Shape.{Store, Cell, num, Shape}
use Rattle.buf_tree.specs.Match.{IsChild}
use Rattle.buf_tree.specs.Spread.{SameButRoles}
use Rattle.buf_tree.specs.View.{InUse}
use Rattle.buf_tree.proofs.Kin.{first_kid, no_next_kid}
use Rattle.buf_tree.proofs.KeptReading.{kept_of, seen_of}
use Rattle.cond_eval.specs.Asking.{RowsOf}
use Rattle.cond_eval.specs.Reads.{NodeAt, IsOnly, IsWhole}
use Rattle.cond_eval.proofs.Rows.{OfNode, at_node, grown_tree, same_node, node_for, row_for, child_of, child_row, kind_told, serial_told}
use Rattle.cond_eval.proofs.Stored.{node_stored}
use Rattle.cond_eval.proofs.Texts.{no_text, below_none, texts_of, flat_same, no_bytes, one_of, text_within}

-- a node of the subtree is its top, or in the subtree of a child
way_down : (P : Tree) → Grown P → (n x : Node) → In n P.nodes → In x P.nodes → within (serial_of n) x ≡ true → (x ≡ n) ⊎ ((s : ℕ) × (k : Kind) × In (Under n s k) P.nodes × (within s x ≡ true))
way_down P w n Root i j e = inl (Numbered-same 0 P.nodes w.numbered Root n j i (eqb-true 0 (serial_of n) e))
way_down P w n (Under p s k) i j e = elim (or_cases (eqb s (serial_of n)) (within (serial_of n) p) e) [
  | inl f ↦ inl (Numbered-same 0 P.nodes w.numbered (Under p s k) n j i (eqb-true s (serial_of n) f))
  | inr f ↦ inr (elim (way_down P w n p i (w.upward p s k j) f) [
    | inl g ↦ (s, k, subst (λ (q : Node). In (Under q s k) P.nodes) g j, within_self s (Under p s k) (eq-eqb s s refl))
    | inr g ↦ (g.0, g.1, g.2, within_above g.0 p (Under p s k) (inr (above_self p)) g.3)
  ])
]

module _ (rows : List Cell) (P : Tree) (keep : Node → Bool) (of : RowsOf rows P keep) (n : Node) (i : In n P.nodes) where
  abbrev w : Grown P
  w = grown_tree rows P keep of

  alone_value : (s : ℕ) (k : Kind) → In (Under n s k) P.nodes → is_text k ≡ true → ((t : ℕ) (l : Kind) → In (Under n t l) P.nodes → Under n t l ≡ Under n s k) → value P n ≡ text_of k
  alone_value s k j t only =
      flat_same (λ x. cond (within (serial_of n) x) (texts_of x) []) (λ x. cond (eqb (serial_of x) s) (texts_of x) []) P.nodes same
      ∙ one_of 0 P.nodes (Under n s k) texts_of w.numbered j
    where
      no_text_here : is_text (kind_of n) ≡ false
      no_text_here = below_none P w (no_text P of.grown) n n s k i j (within_self (serial_of n) n (eq-eqb _ _ refl))

      below : within (serial_of n) (Under n s k) ≡ true
      below = within_above (serial_of n) n (Under n s k) (inr (above_self n)) (within_self (serial_of n) n (eq-eqb _ _ refl))

      -- a text of the subtree is this one
      is_it : (x : Node) → In x P.nodes → is_text (kind_of x) ≡ true → within (serial_of n) x ≡ true → eqb (serial_of x) s ≡ true
      is_it x l f e = elim (way_down P w n x i l e) [
        | inl g ↦ absurd (true≢false (sym f ∙ (ap (λ (y : Node). is_text (kind_of y)) g ∙ no_text_here)))
        | inr g ↦ (
            let here : within s x ≡ true = subst (λ (y : Node). within (serial_of y) x ≡ true) (only g.0 g.1 g.2) g.3 in
            sym (text_within rows P keep of (Under n s k) j t x l) ∙ here)
      ]

      test : (x : Node) → In x P.nodes → is_text (kind_of x) ≡ true → within (serial_of n) x ≡ eqb (serial_of x) s
      test x l f = elim (cases_Bool (within (serial_of n) x)) [
        | inl e ↦ e ∙ sym (is_it x l f e)
        | inr e ↦ e ∙ sym (ne_eqb (serial_of x) s (λ z. true≢false (sym below ∙ (ap (within (serial_of n)) (sym (same_node rows P keep of x (Under n s k) l j z)) ∙ e))))
      ]

      by_kind : (x : Node) → In x P.nodes → (b : Bool) → is_text (kind_of x) ≡ b → cond (within (serial_of n) x) (texts_of x) [] ≡ cond (eqb (serial_of x) s) (texts_of x) []
      by_kind x l true f = ap (λ b. cond b (texts_of x) []) (test x l f)
      by_kind x l false f = rw (no_bytes (kind_of x) f) (nothing (within (serial_of n) x) (eqb (serial_of x) s))
        where
          nothing : (a b : Bool) → ◌≡◌ {A = List ℕ} (cond a [] []) (cond b [] [])
          nothing true true = refl
          nothing true false = refl
          nothing false true = refl
          nothing false false = refl

      same : (x : Node) → In x P.nodes → cond (within (serial_of n) x) (texts_of x) [] ≡ cond (eqb (serial_of x) s) (texts_of x) []
      same x l = by_kind x l (is_text (kind_of x)) refl

-- no child stands behind, where none was found
pub no_more : {X : Type 0} (f : X → ℕ) (o : Option X) (b : Bool) (q : Option ℕ) → b ≡ is_some o → b ≡ false → option_map f o ≡ q → q ≡ None
no_more f None b q e z h = sym h
no_more f (Some x) b q e z h = absurd (true≢false (sym e ∙ z))

module _ (m : Store) (ks rs : List Cell) (shape : Shape m ks) (same : SameButRoles ks rs) where
  -- the child's row, behind which there is none
  kid : (p q : ℕ) (c : Cell) → In c ks → c.place ≡ p → head_of (children_in (get m p)) ≡ Some q → next_of m q ≡ None → (e : Cell) × In e ks × IsChild c e × (e.place ≡ q) × ((d : Cell) → In d ks → IsChild c d → num d ≡ num e)
  kid p q c i at first last =
      let e = first_kid m ks shape c i q (ap (λ k. head_of (children_in (get m k))) at ∙ first) in (
        e.0,
        e.1,
        e.2,
        e.3,
        λ d j k. elim (cases_lt (num e.0) (num d)) [
          | inl l ↦ absurd (no_next_kid m ks shape e.0 c e.1 i e.2 (ap (next_of m) e.3 ∙ last) d j k l)
          | inr l ↦ (let h = e.4 d j k in omega arith)
        ],
      )

  -- each child of the node is the one of that row
  only_child : (P : Tree) (keep : Node → Bool) (of : RowsOf ks P keep) (n x : Node) (c e : Cell) → IsWhole P keep n → In c ks → In e ks → OfNode P keep c n → OfNode P keep e x → ((d : Cell) → In d ks → IsChild c d → num d ≡ num e)
      → (t : ℕ) (l : Kind) → In (Under n t l) P.nodes → Under n t l ≡ x
  only_child P keep of n x c e whole i ie o u alone t l j =
      let keeps = whole (Under n t l) j (within_above (serial_of n) n (Under n t l) (inr (above_self n)) (within_self (serial_of n) n (eq-eqb _ _ refl))) in
      let d = row_for ks P keep of (Under n t l) j keeps in
      let here = child_row ks P keep of c d.0 n t l i d.1 o d.2 in
      same_node ks P keep of (Under n t l) x j u.among (sym (serial_told ks P keep of d.0 (Under n t l) d.2) ∙ (alone d.0 d.1 here ∙ serial_told ks P keep of e x u))

  -- the value is that of the child, which is a text
  child_value : (P : Tree) (keep : Node → Bool) (of : RowsOf ks P keep) (n x : Node) → In n P.nodes → In x P.nodes → is_text (kind_of x) ≡ true → ((t : ℕ) (l : Kind) → In (Under n t l) P.nodes → Under n t l ≡ x)
      → (s : ℕ) (k : Kind) → x ≡ Under n s k → value P n ≡ text_of (kind_of x)
  child_value P keep of n x i j t only s k is =
      alone_value ks P keep of n i s k (subst (λ (y : Node). In y P.nodes) is j) (subst (λ (y : Node). is_text (kind_of y) ≡ true) is t) (λ u l h. only u l h ∙ is)
      ∙ ap (λ (y : Node). text_of (kind_of y)) {x = Under n s k} (sym is)

  pub only_alone : (p q : ℕ) → InUse rs p → head_of (children_in (get m p)) ≡ Some q → next_of m q ≡ None → ((c : Cell) → In c rs → c.place ≡ q → is_text c.row.kind ≡ true) → IsOnly rs p q
  only_alone p q u first last text = record {
    used = (
        let k = kept_of ks rs same u.cell u.among in
        let e = kid p q k.0 k.1 (ap (λ (z : Cell). z.place) k.2 ∙ u.place) first last in
        let c = seen_of ks rs same e.0 e.1 in
        record { cell = c.0; among = c.1; place = ap (λ (z : Cell). z.place) (sym c.2) ∙ e.3 });
    told = λ P keep n a whole. told_alone P keep n a whole (kid p q (node_stored ks rs same P keep p n a).cell (node_stored ks rs same P keep p n a).cell_among (node_stored ks rs same P keep p n a).at first last);
  }
    where
      told_alone : (P : Tree) (keep : Node → Bool) (n : Node) (a : NodeAt rs P keep p n) → IsWhole P keep n
          → (e : Cell) × In e ks × IsChild (node_stored ks rs same P keep p n a).cell e × (e.place ≡ q) × ((d : Cell) → In d ks → IsChild (node_stored ks rs same P keep p n a).cell d → num d ≡ num e)
          → (x : Node) × NodeAt rs P keep q x × (value P n ≡ text_of (kind_of x))
      told_alone P keep n a whole e =
          let b = node_stored ks rs same P keep p n a in
          let x = node_for ks P keep b.rows_of e.0 e.1 in
          let o = at_node ks P keep p n b in
          let kin = child_of ks P keep b.rows_of b.cell e.0 n x.0 o x.1 e.2 in
          let c = seen_of ks rs same e.0 e.1 in
          let place : c.0.place ≡ q = ap (λ (z : Cell). z.place) (sym c.2) ∙ e.3 in
          let kind : is_text (kind_of x.0) ≡ true = ap is_text (sym (kind_told ks P keep b.rows_of e.0 x.0 x.1)) ∙ (ap (λ (z : Cell). is_text z.row.kind) c.2 ∙ text c.0 c.1 place) in (
            x.0,
            record { rows_of = a.rows_of; among = x.1.among; kept = x.1.kept; cell = c.0; cell_among = c.1; at = place; number = sym (ap num c.2) ∙ serial_told ks P keep b.rows_of e.0 x.0 x.1 },
            child_value P keep b.rows_of n x.0 b.among x.1.among kind (only_child P keep b.rows_of n x.0 b.cell e.0 whole b.cell_among e.1 o x.1 e.4) kin.0 kin.1 kin.2,
          )
