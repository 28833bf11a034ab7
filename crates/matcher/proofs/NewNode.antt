-- The node that a token opens.
use Rattle.std.proofs.Common.{◌≡◌, ℕ, ◌<◌, ◌≤◌, true, ◌&&◌, List, [], ◌∷◌, ◌++◌, length, refl, sym, ◌∙◌, ap, subst, inl, inr, ◌⊎◌, arith, drop, Some, None, Option}
use Rattle.std.proofs.Math.Seq.{drop-append_seam}
use Rattle.std.proofs.lemmas.List.{length-append}
use Rattle.std.proofs.lemmas.Bool.{and_parts, eqb-true, false_from_ne_true}
use Rattle.gcx_base.specs.declared.kind.Kind.{Kind}
use Rattle.gcx_base.specs.declared.kind.Kind.TheVariants.{Document, Element, Text}
use Rattle.gcx_base.specs.declared.steps.Step.{Step}
use Rattle.gcx_base.specs.declared.steps.Axis.{Axis}
use Rattle.gcx_base.specs.declared.steps.Axis.TheVariants.{Child, Descendant}
use Rattle.gcx_model.specs.Tree.{Node, Root, Under, serial_of, kind_of, above, within, Tree, TreeToken, grow, grow_at}
use Rattle.gcx_base.specs.Tests.{passes}
use Rattle.gcx_model.specs.Paths.{head, hits, reach, lies, first, matches}
use Rattle.gcx_model.specs.Nodes.{Grown}
use Rattle.gcx_model.specs.Growth.{level, may_come}
use Rattle.gcx_model.specs.Past.{Past, IsPast, open_nodes, open_from, Opens, IsLast, IsNode, past_grown, token_for}
use Rattle.tree_laws.proofs.Lists.{In, In-append, In-right, any_in, filter_none}
use Rattle.tree_laws.proofs.Matches.{Grown-grow, Numbered-high, Matches-in, Matches-from, added, grow_nodes}
use Rattle.tree_laws.proofs.Chains.{above_in}
use Rattle.tree_laws.proofs.Growing.{level_above}
use Rattle.past_laws.proofs.Ahead.{new_node, first_behind}
use Rattle.past_laws.proofs.PastForms.{past_feeds}
use Rattle.past_laws.proofs.Awaited.{within_low}
use Rattle.gcx_base.specs.Kinds.{is_text}

nodes_of : (P : Tree) (a : Node) → P.at ≡ Some a → (kind : Kind) → IsNode kind → (grow (token_for kind) P).nodes ≡ P.nodes ++ Under a (length P.nodes) kind ∷ []
nodes_of P a at Document n = absurd n
nodes_of P a at (Element v) n = ap (λ (o : Option Node). (grow_at o (token_for (Element v)) P).nodes) at
nodes_of P a at (Text v) n = ap (λ (o : Option Node). (grow_at o (token_for (Text v)) P).nodes) at

pub innermost_of : (P : Tree) (a : Node) → P.at ≡ Some a → (kind : Kind) → IsNode kind → IsLast (grow (token_for kind) P) (is_text kind) (Under a (length P.nodes) kind)
innermost_of P a at Document n = absurd n
innermost_of P a at (Element v) n = ap (λ (o : Option Node). (grow_at o (token_for (Element v)) P).at) at
innermost_of P a at (Text v) n = (a, length P.nodes, v, P.nodes, refl, ap (λ (o : Option Node). (grow_at o (token_for (Text v)) P).at) at, nodes_of P a at (Text v) n)

pub past_new : (past : Past) (t : TreeToken) → IsPast past → may_come t past.tree ≡ true → IsPast (past_grown t past)
past_new past t w may = let f = past_feeds past w t may in record { core = f.core; good = f.good; placed = f.placed; grown = f.grown; stated = f.stated; within = w.within }

-- the node of this kind that comes below a
module _ (P : Tree) (w : Grown P) (a : Node) (at : P.at ≡ Some a) (kind : Kind) (k : IsNode kind) where
  abbrev new : Node
  new = Under a (length P.nodes) kind

  not_old : In new P.nodes → ⊥
  not_old i = let l = Numbered-high 0 P.nodes w.numbered new i in omega arith

  pub opens_of : Opens P (token_for kind) new
  opens_of = (subst (λ (z : List Node). In new z) (sym (nodes_of P a at kind k)) (In-right new P.nodes (new ∷ []) (inl refl)), not_old)

  -- it is the one that the token opens
  pub one_of : (m : Node) → Opens P (token_for kind) m → new ≡ m
  one_of m o = elim (In-append m P.nodes (new ∷ []) (subst (λ (z : List Node). In m z) (nodes_of P a at kind k) o.0)) [
    | inl i ↦ absurd (o.1 i)
    | inr i ↦ elim i [ inl e ↦ e | inr b ↦ absurd b ]
  ]

  pub open_is : open_nodes P ≡ above a
  open_is = ap open_from at

  -- its number isn't that of the document node
  pub serial_some : 0 < length P.nodes
  serial_some = let l = Numbered-high 0 P.nodes w.numbered a (w.at_in a at) in omega arith

tail_level : (n : Node) (xs : List Node) (a : Node) → above n ≡ n ∷ xs → In a xs → level a < level n
tail_level Root xs a e i = let f : [] ≡ xs = cc in absurd (subst (λ (z : List Node). In a z) (sym f) i)
tail_level (Under p s k) xs a e i = let f : above p ≡ xs = cc in let l = level_above p a (subst (λ (z : List Node). In a z) (sym f) i) in omega arith

head_cases : {X : Type 0} (xs : List X) → (head xs ≡ None) ⊎ ((x : X) × (head xs ≡ Some x) × In x xs)
head_cases [] = inl refl
head_cases (x ∷ xs) = inr (x, refl, inl refl)

pub head_none : {X : Type 0} (xs : List X) → head xs ≡ None → xs ≡ []
head_none [] e = refl
head_none (x ∷ xs) e = absurd (cc)

-- What holds of each node that a token opens.
module _ (P : Tree) (w : Grown P) (t : TreeToken) (n : Node) (o : Opens P t n) where
  abbrev Q : Tree
  Q = grow t P

  pub grown : Grown Q
  grown = Grown-grow t P w

  law : (serial_of n ≡ length P.nodes) × (above n ≡ n ∷ open_nodes P)
  law = let q = new_node P t n o in (q.1, q.2)

  added_is : added t P ≡ n ∷ []
  added_is = let q = new_node P t n o in sym (drop-append_seam P.nodes (added t P)) ∙ (ap (drop (length P.nodes)) (sym (grow_nodes t P)) ∙ q.0)

  nodes_are : Q.nodes ≡ P.nodes ++ n ∷ []
  nodes_are = grow_nodes t P ∙ ap (λ (z : List Node). P.nodes ++ z) added_is

  old_or_new : (a : Node) → In a Q.nodes → In a P.nodes ⊎ (n ≡ a)
  old_or_new a i = elim (In-append a P.nodes (n ∷ []) (subst (λ (z : List Node). In a z) nodes_are i)) [ inl j ↦ inl j | inr j ↦ elim j [ inl e ↦ inr e | inr b ↦ absurd b ] ]

  -- the nodes above it
  pub above_is : above n ≡ n ∷ open_nodes P
  above_is = law.1

  pub older_below : (a : Node) → In a (open_nodes P) → level a < level n
  older_below a i = tail_level n (open_nodes P) a law.1 i

  pub older_above : (a : Node) → In a (open_nodes P) → In a (above n)
  older_above a i = subst (λ (z : List Node). In a z) (sym law.1) (inr i)

  pub older_in : (a : Node) → In a (open_nodes P) → In a P.nodes
  older_in a i = elim (old_or_new a (above_in Q grown n a o.0 (older_above a i))) [
    | inl j ↦ j
    | inr e ↦ (let l = older_below a i in let f = ap level e in absurd (omega arith))
  ]

  -- a first match before is one behind the token
  pub first_stays : (k : ℕ) (path : List Step) (a : Node) → first P k path ≡ Some a → first Q k path ≡ Some a
  first_stays k path a e = (first_behind P t n o k path).1 a e

  pub first_was : (k : ℕ) (path : List Step) (a : Node) → In a P.nodes → first Q k path ≡ Some a → first P k path ≡ Some a
  first_was k path a i e = elim (head_cases (matches P k path)) [
    | inl f ↦ (let h = Matches-in Q k path a (first_in e) in absurd (subst (λ (z : List Node). In a z) (head_none (matches P k path) f) (Matches-from P k path a i h.1)))
    | inr r ↦ (let g = first_stays k path r.0 r.1 in let s : Some r.0 ≡ Some a = sym g ∙ e in let same : r.0 ≡ a = cc in r.1 ∙ ap (λ (z : Node). Some z) same)
  ]
    where
      first_in : first Q k path ≡ Some a → In a (matches Q k path)
      first_in e = elim (head_cases (matches Q k path)) [
        | inl f ↦ (let g : None ≡ Some a = sym f ∙ e in absurd (cc))
        | inr r ↦ (let s : Some r.0 ≡ Some a = sym r.1 ∙ e in let same : r.0 ≡ a = cc in subst (λ (z : Node). In z (matches Q k path)) same r.2)
      ]

  -- where there is none behind it, there was none
  pub none_was : (k : ℕ) (path : List Step) → first Q k path ≡ None → first P k path ≡ None
  none_was k path e = elim (head_cases (matches P k path)) [
    | inl f ↦ f
    | inr r ↦ (let g = first_stays k path r.0 r.1 in let s : Some r.0 ≡ None = sym g ∙ e in absurd (cc))
  ]

  -- where there was none, there is none but the new node
  pub none_stays : (k : ℕ) (path : List Step) → first P k path ≡ None → (first Q k path ≡ Some n → ⊥) → first Q k path ≡ None
  none_stays k path e h = elim (head_cases (matches Q k path)) [
    | inl f ↦ f
    | inr r ↦ (
        let m = Matches-in Q k path r.0 r.2 in
        elim (old_or_new r.0 m.0) [
          | inl i ↦ absurd (subst (λ (z : List Node). In r.0 z) (head_none (matches P k path) e) (Matches-from P k path r.0 i m.1))
          | inr f ↦ absurd (h (r.1 ∙ ap (λ (z : Node). Some z) (sym f)))
        ])
  ]

  -- nothing comes below it yet
  last_serial : (a : Node) → In a Q.nodes → serial_of a ≤ serial_of n
  last_serial a i =
      let l = Numbered-high 0 Q.nodes grown.numbered a i in
      let e = ap length nodes_are in
      let f = length-append P.nodes (n ∷ []) in
      let g = law.0 in
      omega arith

  no_reach : (x : Axis) (j : Node) → In j Q.nodes → lies x (serial_of n) j ≡ true → ⊥
  no_reach x Root i h = absurd (cc)
  no_reach Child (Under p s k) i h =
      let e = eqb-true (serial_of p) (serial_of n) h in
      let b = grown.below p s k i in
      let l = last_serial (Under p s k) i in
      omega arith
  no_reach Descendant (Under p s k) i h =
      let e = within_low Q grown (serial_of n) p (grown.upward p s k i) h in
      let b = grown.below p s k i in
      let l = last_serial (Under p s k) i in
      omega arith

  pub no_hit : (s : Step) (rest : List Step) (m : Node) → In m Q.nodes → hits (serial_of n) (s ∷ rest) m ≡ true → ⊥
  no_hit s rest m i h =
      let r = any_in (λ (j : Node). reach (serial_of n) s j && hits (serial_of j) rest m) (above m) h in
      let a = and_parts (reach (serial_of n) s r.0) (hits (serial_of r.0) rest m) r.2 in
      let b = and_parts (passes s.test (kind_of r.0)) (lies s.axis (serial_of n) r.0) a.0 in
      no_reach s.axis r.0 (above_in Q grown m r.0 i r.1) b.1

  pub first_none : (s : Step) (rest : List Step) → first Q (serial_of n) (s ∷ rest) ≡ None
  first_none s rest = ap head (filter_none (hits (serial_of n) (s ∷ rest)) Q.nodes (λ m i. false_from_ne_true (hits (serial_of n) (s ∷ rest) m) (no_hit s rest m i)))
