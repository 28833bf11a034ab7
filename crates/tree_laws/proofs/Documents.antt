-- The trees of whole documents grow from the opening one.
use Rattle.std.proofs.Common.{◌≡◌, ℕ, ◌+◌, ◌<◌, true, false, not, List, [], ◌∷◌, ◌++◌, length, refl, sym, ◌∙◌, ap, subst, inl, inr, arith, append_assoc, Some, Option, None}
use Rattle.std.proofs.lemmas.List.{append-nil, length-append}
use Rattle.std.proofs.lemmas.Bool.{and_from, ne_eqb}
use Rattle.gcx_base.specs.Name.{IsNameBytes}
use Rattle.gcx_base.specs.declared.kind.Kind.{Kind}
use Rattle.gcx_base.specs.declared.kind.Kind.TheVariants.{Element, Text}
use Rattle.gcx_model.specs.Document.{Nodes, none, element, text, is_blank, ends_with_text, AreNodes, IsDocument, tokens, tree_of}
use Rattle.gcx_model.specs.Tree.{Node, Root, Under, serial_of, Tree, TreeToken, Start, Chars, End, opening, grow, grow_at, grow_all}
use Rattle.gcx_model.specs.Members.{In}
use Rattle.gcx_model.specs.Growth.{has_root, is_text_in, ends_in_text, may_come_at, may_come, may_all}
use Rattle.tree_laws.specs.DocumentTrees.{DocumentsGrow}
use Rattle.tree_laws.proofs.Lists.{In-append}
use Rattle.tree_laws.proofs.Growing.{grow_all-append, may_all-append, leads, name_tested}

stays_at : (d : Nodes) (P : Tree) (p : Node) → P.at ≡ Some p → (grow_all (tokens d) P).at ≡ Some p
stays_at none P p e = e
stays_at (element before name inside) P p e =
    let Q : Tree = grow_all (tokens before) P in
    let c : Node = Under p (length Q.nodes) (Element name) in
    let q : Q.at ≡ Some p = stays_at before P p e in
    let s : (grow (Start name) Q).at ≡ Some c = ap (λ (z : Option Node). (grow_at z (Start name) Q).at) q in
    let R : Tree = grow_all (tokens inside) (grow (Start name) Q) in
    let r : R.at ≡ Some c = stays_at inside (grow (Start name) Q) c s in
    ap (λ (z : Tree). z.at) (grow_all-append (tokens before) (Start name ∷ (tokens inside ++ End ∷ [])) P ∙ grow_all-append (tokens inside) (End ∷ []) (grow (Start name) Q))
    ∙ ap (λ (z : Option Node). (grow_at z End R).at) r
stays_at (text before bytes) P p e =
    let Q : Tree = grow_all (tokens before) P in
    ap (λ (z : Tree). z.at) (grow_all-append (tokens before) (Chars bytes ∷ []) P) ∙ ap (λ (z : Option Node). (grow_at z (Chars bytes) Q).at) (stays_at before P p e)

pub whole_closed : (d : Nodes) → (tree_of d).at ≡ None
whole_closed d =
    let Q : Tree = grow_all (tokens d) opening in
    ap (λ (z : Tree). z.at) (grow_all-append (tokens d) (End ∷ []) opening) ∙ ap (λ (z : Option Node). (grow_at z End Q).at) (stays_at d opening Root refl)

-- the last of these nodes is no text of p
ends_from : (p : Node) (xs : List Node) (n : Node) (more : List Node) → is_text_in p n ≡ false → ((x : Node) → In x more → is_text_in p x ≡ false) → ends_in_text p (xs ++ n ∷ more) ≡ false
ends_from p [] n [] h f = h
ends_from p [] n (m ∷ more) h f = ends_from p [] m more (f m (inl refl)) (λ x i. f x (inr i))
ends_from p (x ∷ []) n more h f = ends_from p [] n more h f
ends_from p (x ∷ (y ∷ xs)) n more h f = ends_from p (y ∷ xs) n more h f

-- what some nodes, read inside q, add to a tree
record Adds (q : Node) (d : Nodes) (P : Tree) : Type 0 where
  comes : may_all (tokens d) P ≡ true
  more : List Node
  nodes : (grow_all (tokens d) P).nodes ≡ P.nodes ++ more
  at : (grow_all (tokens d) P).at ≡ Some q
  -- no text of a node before q
  inside : (p : Node) → serial_of p < serial_of q → (x : Node) → In x more → is_text_in p x ≡ false
  ends : ends_with_text d ≡ false → ends_in_text q (grow_all (tokens d) P).nodes ≡ false

comes_at : (P : Tree) (at : Option Node) (t : TreeToken) → P.at ≡ at → may_come_at at t P.nodes ≡ true → may_come t P ≡ true
comes_at P at t e h = subst (λ (z : Option Node). may_come_at z t P.nodes ≡ true) (sym e) h

one_more : (P : Tree) (t : TreeToken) → may_come t P ≡ true → may_all (t ∷ []) P ≡ true
one_more P t h = and_from _ _ h refl

module _ (r : Node) (s : ℕ) (k : Kind) where
  abbrev here : Node
  here = Under r s k

  adds_nothing : (P : Tree) → P.at ≡ Some here → ends_in_text here P.nodes ≡ false → Adds here none P
  adds_nothing P e f = record { comes = refl; more = []; nodes = sym (append-nil P.nodes); at = e; inside = λ p l x i. absurd i; ends = λ g. f }

  adds_text : (P : Tree) (before : Nodes) (bytes : List ℕ) → Adds here before P → ends_with_text before ≡ false → is_blank bytes ≡ false → Adds here (text before bytes) P
  adds_text P before bytes a g b =
      let Q : Tree = grow_all (tokens before) P in
      let n : Node = Under here (length Q.nodes) (Text bytes) in
      let all : grow_all (tokens (text before bytes)) P ≡ grow (Chars bytes) Q = grow_all-append (tokens before) (Chars bytes ∷ []) P in
      let new : (grow (Chars bytes) Q).nodes ≡ Q.nodes ++ n ∷ [] = ap (λ (z : Option Node). (grow_at z (Chars bytes) Q).nodes) a.at in
      record {
        comes = may_all-append (tokens before) (Chars bytes ∷ []) P a.comes (one_more Q (Chars bytes) (comes_at Q (Some here) (Chars bytes) a.at (and_from _ _ (ap not b) (ap not (a.ends g)))));
        more = a.more ++ n ∷ [];
        nodes = ap (λ (z : Tree). z.nodes) all ∙ (new ∙ (ap (λ z. z ++ n ∷ []) a.nodes ∙ append_assoc P.nodes a.more (n ∷ [])));
        at = ap (λ (z : Tree). z.at) all ∙ ap (λ (z : Option Node). (grow_at z (Chars bytes) Q).at) a.at;
        inside = λ p l x i. elim (In-append x a.more (n ∷ []) i) [
          | inl j ↦ a.inside p l x j
          | inr j ↦ elim j [ inl e ↦ subst (λ (z : Node). is_text_in p z ≡ false) e (ne_eqb s (serial_of p) (λ f. omega arith)) | inr m ↦ absurd m ]
        ];
        ends = λ h. absurd (cc);
      }

  -- an element, given what stands before it and what stands in it
  adds_element : (P : Tree) (before : Nodes) (name : List ℕ) (inner : Nodes) → IsNameBytes name → s < length P.nodes → (a : Adds here before P)
      → Adds (Under here (length (grow_all (tokens before) P).nodes) (Element name)) inner (grow (Start name) (grow_all (tokens before) P)) → Adds here (element before name inner) P
  adds_element P before name inner named l a b =
      let Q : Tree = grow_all (tokens before) P in
      let n : Node = Under here (length Q.nodes) (Element name) in
      let R : Tree = grow_all (tokens inner) (grow (Start name) Q) in
      let inner_all : grow_all (Start name ∷ (tokens inner ++ End ∷ [])) Q ≡ grow End R = grow_all-append (tokens inner) (End ∷ []) (grow (Start name) Q) in
      let all : grow_all (tokens (element before name inner)) P ≡ grow End R = grow_all-append (tokens before) (Start name ∷ (tokens inner ++ End ∷ [])) P ∙ inner_all in
      let new : (grow (Start name) Q).nodes ≡ Q.nodes ++ n ∷ [] = ap (λ (z : Option Node). (grow_at z (Start name) Q).nodes) a.at in
      let end : (grow End R).nodes ≡ R.nodes = ap (λ (z : Option Node). (grow_at z End R).nodes) b.at in
      let nodes' : (grow_all (tokens (element before name inner)) P).nodes ≡ Q.nodes ++ n ∷ b.more = ap (λ (z : Tree). z.nodes) all ∙ (end ∙ (b.nodes ∙ (ap (λ z. z ++ b.more) new ∙ append_assoc Q.nodes (n ∷ []) b.more))) in
      let long : length Q.nodes ≡ length P.nodes + length a.more = ap length a.nodes ∙ length-append P.nodes a.more in
      record {
        comes = may_all-append (tokens before) (Start name ∷ (tokens inner ++ End ∷ [])) P a.comes
            (and_from _ _ (comes_at Q (Some here) (Start name) a.at (name_tested name named)) (may_all-append (tokens inner) (End ∷ []) (grow (Start name) Q) b.comes (one_more R End (comes_at R (Some n) End b.at refl))));
        more = a.more ++ n ∷ b.more;
        nodes = nodes' ∙ (ap (λ z. z ++ n ∷ b.more) a.nodes ∙ append_assoc P.nodes a.more (n ∷ b.more));
        at = ap (λ (z : Tree). z.at) all ∙ ap (λ (z : Option Node). (grow_at z End R).at) b.at;
        inside = λ p m x i. elim (In-append x a.more (n ∷ b.more) i) [
          | inl j ↦ a.inside p m x j
          | inr j ↦ elim j [ inl e ↦ subst (λ (z : Node). is_text_in p z ≡ false) e refl | inr q ↦ b.inside p (omega arith) x q ]
        ];
        ends = λ g. subst (λ (z : List Node). ends_in_text here z ≡ false) (sym nodes') (ends_from here Q.nodes n b.more refl (λ x i. b.inside here (omega arith) x i));
      }

adds : (d : Nodes) → AreNodes d → (r : Node) (s : ℕ) (k : Kind) (P : Tree) → P.at ≡ Some (Under r s k) → s < length P.nodes → ends_in_text (Under r s k) P.nodes ≡ false → Adds (Under r s k) d P
adds none h r s k P e l f = adds_nothing r s k P e f
adds (text before bytes) h r s k P e l f = adds_text r s k P before bytes (adds before h.0 r s k P e l f) h.1 h.2
adds (element before name inner) h r s k P e l f =
    let a = adds before h.0 r s k P e l f in
    let Q : Tree = grow_all (tokens before) P in
    let n : Node = Under (Under r s k) (length Q.nodes) (Element name) in
    let new : (grow (Start name) Q).nodes ≡ Q.nodes ++ n ∷ [] = ap (λ (z : Option Node). (grow_at z (Start name) Q).nodes) a.at in
    adds_element r s k P before name inner h.1 l a
    (adds inner h.2 (Under r s k) (length Q.nodes) (Element name) (grow (Start name) Q) (ap (λ (z : Option Node). (grow_at z (Start name) Q).at) a.at)
    (let g = ap length new in let m = length-append Q.nodes (n ∷ []) in omega arith)
    (subst (λ (z : List Node). ends_in_text n z ≡ false) (sym new) (ends_from n Q.nodes n [] refl (λ x i. absurd i))))

pub document_comes : (d : Nodes) → IsDocument d → may_all (tokens d ++ End ∷ []) opening ≡ true
document_comes none h = absurd h
document_comes (text before bytes) h = absurd h
document_comes (element (element b n c) name inner) h = absurd h
document_comes (element (text b t) name inner) h = absurd h
document_comes (element none name inner) h =
    let n : Node = Under Root 1 (Element name) in
    let P : Tree = grow (Start name) opening in
    let a = adds inner h.2 Root 1 (Element name) P refl (omega arith) refl in
    let R : Tree = grow_all (tokens inner) P in
    let at : (grow End R).at ≡ Some Root = ap (λ (z : Option Node). (grow_at z End R).at) a.at in
    let nodes : (grow End R).nodes ≡ (Root ∷ (n ∷ [])) ++ a.more = ap (λ (z : Option Node). (grow_at z End R).nodes) a.at ∙ a.nodes in
    let inside : may_all (tokens inner ++ End ∷ []) P ≡ true = may_all-append (tokens inner) (End ∷ []) P a.comes (one_more R End (comes_at R (Some n) End a.at refl)) in
    let over : grow_all (tokens inner ++ End ∷ []) P ≡ grow End R = grow_all-append (tokens inner) (End ∷ []) P in
    may_all-append (Start name ∷ (tokens inner ++ End ∷ [])) (End ∷ []) opening (and_from _ _ (and_from _ _ (name_tested name h.1) refl) inside)
    (subst (λ (z : Tree). may_all (End ∷ []) z ≡ true) (sym over) (one_more (grow End R) End (comes_at (grow End R) (Some Root) End at (ap has_root nodes))))

pub documents_grow : DocumentsGrow
documents_grow d h = (leads (tokens d ++ End ∷ []) opening (document_comes d h), λ m i. rw (whole_closed d) refl)
