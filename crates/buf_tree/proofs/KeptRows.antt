-- Where the rows keep the roles that are kept at the held nodes, the rows that contracts see have those that are live.
use Rattle.std.proofs.Common.{◌≡◌, ℕ, Bool, true, false, cond, ◌&&◌, ◌||◌, List, [], ◌∷◌, ◌++◌, length, refl, sym, ◌∙◌, ap, subst, inl, inr, ◌⊎◌, eqb, append_assoc}
use Rattle.std.specs.Ordering.{nat_cmp}
use Rattle.std.specs.FinSet.{from_list, empty, contains, retain, union, contains-empty}
use Rattle.std.proofs.Math.Bool.{or-false}
use Rattle.std.proofs.lemmas.List.{append-nil}
use Rattle.std.proofs.lemmas.Bool.{false≢true, eqb-true, eq-eqb}
use Rattle.gcx_base.specs.declared.kind.Kind.{Kind}
use Rattle.gcx_model.specs.Tree.{Node, Root, Under, serial_of}
use Rattle.gcx_model.specs.Members.{count}
use Rattle.gcx_model.specs.Held.{live, roles_live}
use Rattle.gcx_model.specs.Past.{Past, IsPast}
use Rattle.tree_laws.proofs.Lists.{In, In-filter, In-kept, In-append}
use Rattle.tree_laws.proofs.Matches.{Numbered-same}
use Rattle.tree_laws.proofs.Fed.{root_from}
use Rattle.past_laws.proofs.Bases.{is_grown}
use Rattle.past_laws.proofs.RowFacts.{row_tells}
use Rattle.spread_laws.specs.Tops.{is_spread, is_kept_at, roles_kept}
use Rattle.spread_laws.proofs.Tops.{live_by_kept, kept_are_live}
use Rattle.buf_tree.specs.Shape.{Cell, num}
use Rattle.buf_tree.specs.Spread.{roles_at, with_roles, with_above}
use Rattle.buf_tree.proofs.Signing.{has_listed}
use Rattle.buf_tree.proofs.Spreading.{Roles, in_union, in_retain, same_roles, retain_empty}

-- rows and nodes, one for one
abbrev pub Paired : (Cell → Node → Type 0) → List Cell → List Node → Type 0
Paired R [] [] = Unit {0}
Paired R [] (n ∷ ns) = ⊥
Paired R (c ∷ cs) [] = ⊥
Paired R (c ∷ cs) (n ∷ ns) = R c n × Paired R cs ns

paired_push : (R : Cell → Node → Type 0) (cs : List Cell) (ns : List Node) (c : Cell) (n : Node) → Paired R cs ns → R c n → Paired R (cs ++ c ∷ []) (ns ++ n ∷ [])
paired_push R [] [] c n p r = (r, tt)
paired_push R [] (m ∷ ns) c n p r = absurd p
paired_push R (d ∷ cs) [] c n p r = absurd p
paired_push R (d ∷ cs) (m ∷ ns) c n p r = (p.0, paired_push R cs ns c n p.1 r)

-- each node's parent is one of those before it; the document node is the first
abbrev pub NodeUp : List Node → Node → Type 0
NodeUp before Root = before ≡ []
NodeUp before (Under p s k) = In p before

abbrev pub NodesUp : List Node → List Node → Type 0
NodesUp before [] = Unit {0}
NodesUp before (n ∷ ns) = NodeUp before n × NodesUp (before ++ n ∷ []) ns

-- the row's parent is that of the node
abbrev pub ParentOf : Cell → Node → Type 0
ParentOf c Root = Unit {0}
ParentOf c (Under p s k) = c.row.parent ≡ serial_of p

module _ (past : Past) (is : IsPast past) where
  pub has_live_role : (n : Node) (r : ℕ) → contains (from_list {R = nat_cmp} (roles_live past.plan past.tree past.acts n)) r ≡ live past.plan past.tree past.acts n r
  has_live_role n r = has_listed (roles_live past.plan past.tree past.acts n) r (live past.plan past.tree past.acts n r) (row_tells past is n r).0.0 (row_tells past is n r).0.1

  pub has_kept_role : (n : Node) → In n past.tree.nodes → (r : ℕ) → contains (from_list {R = nat_cmp} (roles_kept past n)) r ≡ is_kept_at past n r
  has_kept_role n i r =
      has_listed (roles_kept past n) r (is_kept_at past n r)
      (λ j. (In-filter (is_kept_at past n) r cs j).1)
      (λ h. In-kept (is_kept_at past n) r cs (In-filter (live past.plan past.tree past.acts n) r cs ((row_tells past is n r).0.1 ((kept_are_live past is n i).0 r h))).0 h)
    where
      cs : List ℕ
      cs = count 0 (length past.plan.roles)

  abbrev kept_set : Node → Roles
  kept_set n = from_list {R = nat_cmp} (roles_kept past n)

  abbrev live_set : Node → Roles
  live_set n = from_list {R = nat_cmp} (roles_live past.plan past.tree past.acts n)

  -- the row keeps what is kept at the node, or has what is live there
  abbrev pub KeepsRow : Cell → Node → Type 0
  KeepsRow c n = (num c ≡ serial_of n) × ParentOf c n × (c.row.roles ≡ from_list {R = nat_cmp} (roles_kept past n))

  abbrev pub LiveRow : Cell → Node → Type 0
  LiveRow c n = (num c ≡ serial_of n) × (c.row.roles ≡ from_list {R = nat_cmp} (roles_live past.plan past.tree past.acts n))

  module _ (sp : ℕ → Bool) (spreads : (r : ℕ) → sp r ≡ is_spread past.plan r) where
    root_roles : union (kept_set Root) (retain empty sp) ≡ live_set Root
    root_roles =
        same_roles (union (kept_set Root) (retain empty sp)) (live_set Root) (λ r.
        in_union (kept_set Root) (retain empty sp) r
        ∙ ((λ i. has_kept_role Root (root_from past.tree is.grown) r i || contains (retain_empty sp i) r)
        ∙ (ap (λ b. is_kept_at past Root r || b) (contains-empty nat_cmp r)
        ∙ (or-false (is_kept_at past Root r) ∙ (sym (live_by_kept past is r).0 ∙ sym (has_live_role Root r))))))

    pub under_roles : (p : Node) (s : ℕ) (k : Kind) → In (Under p s k) past.tree.nodes → union (kept_set (Under p s k)) (retain (live_set p) sp) ≡ live_set (Under p s k)
    under_roles p s k i =
        same_roles (union (kept_set (Under p s k)) (retain (live_set p) sp)) (live_set (Under p s k)) (λ r.
        in_union (kept_set (Under p s k)) (retain (live_set p) sp) r
        ∙ ((λ j. has_kept_role (Under p s k) i r j || in_retain (live_set p) sp r j)
        ∙ ((λ j. is_kept_at past (Under p s k) r || (has_live_role p r j && spreads r j))
        ∙ (ap (λ b. is_kept_at past (Under p s k) r || b) (turned (live past.plan past.tree past.acts p r) (is_spread past.plan r))
        ∙ (sym ((live_by_kept past is r).1 p s k i) ∙ sym (has_live_role (Under p s k) r))))))
      where
        turned : (a b : Bool) → (a && b) ≡ (b && a)
        turned true true = refl
        turned true false = refl
        turned false true = refl
        turned false false = refl

    pub live_at : (ds : List Cell) (ms : List Node) → Paired LiveRow ds ms → ((m : Node) → In m ms → In m past.tree.nodes) → (p : Node) → In p ms → roles_at ds (serial_of p) ≡ live_set p
    live_at [] [] l h p i = absurd i
    live_at [] (m ∷ ms) l h p i = absurd l
    live_at (d ∷ ds) [] l h p i = absurd l
    live_at (d ∷ ds) (m ∷ ms) l h p i = go (eqb (num d) (serial_of p)) refl i (live_at ds ms l.1 (λ n j. h n (inr j)) p)
      where
        go : (b : Bool) → eqb (num d) (serial_of p) ≡ b → (m ≡ p) ⊎ In p ms → (In p ms → roles_at ds (serial_of p) ≡ live_set p) → cond b d.row.roles (roles_at ds (serial_of p)) ≡ live_set p
        go true e j ih =
            let same : m ≡ p = Numbered-same 0 past.tree.nodes (is_grown past is).numbered m p (h m (inl refl)) (h p i) (sym l.0.0 ∙ eqb-true (num d) (serial_of p) e) in
            l.0.1 ∙ ap (λ (n : Node). live_set n) same
        go false e (inl f) ih = absurd (false≢true (sym e ∙ eq-eqb (num d) (serial_of p) (l.0.0 ∙ ap serial_of f)))
        go false e (inr j) ih = ih j

    next_live : (done : List Cell) (ms : List Node) (c : Cell) (n : Node) → Paired LiveRow done ms → ((m : Node) → In m ms → In m past.tree.nodes) → In n past.tree.nodes → NodeUp ms n → KeepsRow c n → LiveRow (with_roles (retain (roles_at done c.row.parent) sp) c) n
    next_live [] ms c Root l h i u k = (k.0, ap (λ (z : Roles). union z (retain empty sp)) k.2 ∙ root_roles)
    next_live (d ∷ ds) [] c Root l h i u k = absurd l
    next_live (d ∷ ds) (m ∷ ms) c Root l h i u k = absurd (cc)
    next_live done ms c (Under p s kd) l h i u k = (
      k.0,
      (λ t. union (k.2 t) (retain (roles_at done (k.1 t)) sp))
          ∙ (ap (λ (z : Roles). union (kept_set (Under p s kd)) (retain z sp)) (live_at done ms l h p u) ∙ under_roles p s kd i),
    )

    live_from : (done : List Cell) (ms : List Node) (ks : List Cell) (ns : List Node) → Paired LiveRow done ms → Paired KeepsRow ks ns → NodesUp ms ns
        → ((m : Node) → In m ms → In m past.tree.nodes) → ((n : Node) → In n ns → In n past.tree.nodes) → Paired LiveRow (with_above sp done ks) (ms ++ ns)
    live_from done ms [] [] l k u h i = subst (λ (z : List Node). Paired LiveRow done z) (sym (append-nil ms)) l
    live_from done ms [] (n ∷ ns) l k u h i = absurd k
    live_from done ms (c ∷ cs) [] l k u h i = absurd k
    live_from done ms (c ∷ cs) (n ∷ ns) l k u h i =
        subst (λ (z : List Node). Paired LiveRow (with_above sp done (c ∷ cs)) z) (append_assoc ms (n ∷ []) ns)
        (live_from (done ++ with_roles (retain (roles_at done c.row.parent) sp) c ∷ []) (ms ++ n ∷ []) cs ns
        (paired_push LiveRow done ms (with_roles (retain (roles_at done c.row.parent) sp) c) n l (next_live done ms c n l h (i n (inl refl)) u.0 k.0))
        k.1 u.1
        (λ m j. elim (In-append m ms (n ∷ []) j) [ inl a ↦ h m a | inr a ↦ elim a [ inl e ↦ subst (λ (z : Node). In z past.tree.nodes) e (i n (inl refl)) | inr z ↦ absurd z ] ])
        (λ m j. i m (inr j)))

    pub live_rows : (ks : List Cell) (ns : List Node) → Paired KeepsRow ks ns → NodesUp [] ns → ((n : Node) → In n ns → In n past.tree.nodes) → Paired LiveRow (with_above sp [] ks) ns
    live_rows ks ns k u i = live_from [] [] ks ns tt k u (λ m j. absurd j) i
