-- A new node, and the statements that were carried out in advance.
use Rattle.std.proofs.Common.{◌≡◌, ℕ, ◌<◌, Bool, true, false, cond, not, ◌&&◌, ◌||◌, List, [], ◌∷◌, ◌++◌, length, refl, sym, ◌∙◌, ap, subst, inl, inr, arith, Some, None, Option}
use Rattle.std.specs.Prelude.{drop}
use Rattle.std.specs.List.{filter}
use Rattle.std.proofs.Math.Seq.{drop-append_seam}
use Rattle.std.proofs.lemmas.Bool.{or_left, or_right, and_parts, and_from, true≢false, false≢true, eqb-true, eq-eqb, not-true, false_from_ne_true, true_from_ne_false}
use Rattle.std.proofs.lemmas.Bool.Decides.{same_from_decides}
use Rattle.gcx_base.specs.declared.steps.Step.{Step}
use Rattle.gcx_model.specs.Tree.{Node, serial_of, above, within, Tree, TreeToken, Start, Chars, End, grow, grow_at, is_open_at}
use Rattle.gcx_model.specs.Paths.{all, hits, matches, first, head}
use Rattle.gcx_model.specs.Members.{In, count}
use Rattle.gcx_model.specs.Nodes.{Grown}
use Rattle.gcx_model.specs.Core.{RoleTarget, Own, First, Whole, OffTree}
use Rattle.gcx_model.specs.Run.{Action, Wrote, Offed}
use Rattle.gcx_model.specs.Placed.{is_own_kind, is_own, is_empty}
use Rattle.gcx_model.specs.Held.{path_of, statement_of, is_node, gives, given, signed, reaches, all_signed, on_off, taken}
use Rattle.gcx_model.specs.Past.{Past, IsPast, is_ahead, open_from, open_nodes, is_signed, parent_serial, Opens}
use Rattle.base_laws.proofs.Members.{head_in}
use Rattle.past_laws.specs.Pasts.{NewNode, FirstBehind, OpenNodes, NewUnsigned, AheadTakes, AheadSigned, AheadBefore}
use Rattle.tree_laws.proofs.Lists.{In-append, In-filter, In-kept, any_in, filter_none}
use Rattle.tree_laws.proofs.Matches.{Grown-grow, Numbered-high, Numbered-same, Matches-in, added, added_at, grow_nodes, Matches-grow}
use Rattle.tree_laws.proofs.Freeze.{within_self, within_above, within_trans, hits_within, stays_closed}
use Rattle.placed_laws.proofs.Local.{within_is}
use Rattle.placed_laws.proofs.Stays.{all_in, all_from}
use Rattle.tree_laws.proofs.Fed.{grown_from}
use Rattle.tree_laws.proofs.OffsSigned.{signed_is_off}
use Rattle.placed_laws.proofs.Told.{taken_told}
use Rattle.past_laws.proofs.Bases.{node_is, or_not, is_grown, tells}

pub all_same : {X : Type 0} (p q : X → Bool) (xs : List X) → ((x : X) → In x xs → p x ≡ q x) → all p xs ≡ all q xs
all_same p q [] h = refl
all_same p q (x ∷ xs) h = rw (h x (inl refl), all_same p q xs (λ y i. h y (inr i))) refl

-- the new node

pub open_above : (p m : Node) → In m (above p) → within (serial_of m) p ≡ true
open_above p m i = within_above (serial_of m) m p i (within_self (serial_of m) m (eq-eqb (serial_of m) (serial_of m) refl))

-- the node that a token adds
added_only : (at : Option Node) (t : TreeToken) (P : Tree) (n : Node) → In n (added_at at t P)
    → (added_at at t P ≡ n ∷ [])
    × (serial_of n ≡ length P.nodes)
    × (above n ≡ n ∷ open_from at)
    × ((p : Node) × (at ≡ Some p) × (parent_serial n ≡ Some (serial_of p)))
    × ((m : Node) → In m (open_from at) → In m (open_from (grow_at at t P).at))
    × ((m : Node) → In m (open_from (grow_at at t P).at) → In m (above n))
added_only None t P n i = absurd i
added_only (Some p) (Start name) P n (inl e) = subst (λ (z : Node). (added_at (Some p) (Start name) P ≡ z ∷ []) × (serial_of z ≡ length P.nodes) × (above z ≡ z ∷ above p) × ((q : Node) × (Some p ≡ Some q) × (parent_serial z ≡ Some (serial_of q))) × ((m : Node) → In m (above p) → In m (open_from (grow_at (Some p) (Start name) P).at)) × ((m : Node) → In m (open_from (grow_at (Some p) (Start name) P).at) → In m (above z))) e
    (refl, refl, refl, (p, refl, refl), (λ m o. inr o), (λ m o. o))
added_only (Some p) (Start name) P n (inr i) = absurd i
added_only (Some p) (Chars b) P n (inl e) = subst (λ (z : Node). (added_at (Some p) (Chars b) P ≡ z ∷ []) × (serial_of z ≡ length P.nodes) × (above z ≡ z ∷ above p) × ((q : Node) × (Some p ≡ Some q) × (parent_serial z ≡ Some (serial_of q))) × ((m : Node) → In m (above p) → In m (open_from (grow_at (Some p) (Chars b) P).at)) × ((m : Node) → In m (open_from (grow_at (Some p) (Chars b) P).at) → In m (above z))) e
    (refl, refl, refl, (p, refl, refl), (λ m o. o), (λ m o. inr o))
added_only (Some p) (Chars b) P n (inr i) = absurd i
added_only (Some p) End P n i = absurd i

is_added : (P : Tree) (t : TreeToken) (n : Node) → Opens P t n → In n (added t P)
is_added P t n h = elim (In-append n P.nodes (added t P) (subst (λ (z : List Node). In n z) (grow_nodes t P) h.0)) [ inl i ↦ absurd (h.1 i) | inr i ↦ i ]

pub open_is : (at : Option Node) (m : Node) → In m (open_from at) → is_open_at at (serial_of m) ≡ true
open_is None m i = absurd i
open_is (Some p) m i = open_above p m i

pub new_node : NewNode
new_node P t n h =
    let q = added_only P.at t P n (is_added P t n h) in (
      ap (drop (length P.nodes)) (grow_nodes t P) ∙ (drop-append_seam P.nodes (added t P) ∙ q.0),
      q.1,
      q.2,
      q.3,
      q.4,
      q.5,
    )

pub first_behind : FirstBehind
first_behind P t n h k path = (
  ((λ e. is_first (matches P k path) refl (sym whole ∙ e)), (λ q. whole ∙ (ap (λ z. head (z ++ filter (hits k path) (n ∷ []))) q.1 ∙ ap (λ c. head (cond c (n ∷ []) [])) q.0))),
  (λ m e. whole ∙ stays (matches P k path) m e),
)
  where
    -- the matches behind the token: those before it, and the new node where it is one
    whole : first (grow t P) k path ≡ head (matches P k path ++ filter (hits k path) (n ∷ []))
    whole = ap head (Matches-grow t P k path ∙ ap (λ z. matches P k path ++ filter (hits k path) z) (added_only P.at t P n (is_added P t n h)).0)

    stays : (xs : List Node) (m : Node) → head xs ≡ Some m → head (xs ++ filter (hits k path) (n ∷ [])) ≡ Some m
    stays [] m e = absurd (cc)
    stays (x ∷ xs) m e = e

    new : (c : Bool) → hits k path n ≡ c → head (cond c (n ∷ []) []) ≡ Some n → hits k path n ≡ true
    new true e f = e
    new false e f = absurd (cc)

    is_first : (xs : List Node) → matches P k path ≡ xs → head (matches P k path ++ filter (hits k path) (n ∷ [])) ≡ Some n → (hits k path n ≡ true) × (matches P k path ≡ [])
    is_first [] e f = (new (hits k path n) refl (sym (ap (λ z. head (z ++ filter (hits k path) (n ∷ []))) e) ∙ f), e)
    is_first (x ∷ xs) e f =
        let g : Some x ≡ Some n = sym (ap (λ z. head (z ++ filter (hits k path) (n ∷ []))) e) ∙ f in
        let same : x ≡ n = cc in
        absurd (h.1 (subst (λ (z : Node). In z P.nodes) same (Matches-in P k path x (subst (λ (z : List Node). In x z) (sym e) (inl refl))).0))

pub open_nodes_are : OpenNodes
open_nodes_are P l m i = (within_open P.at refl, open_is P.at m)
  where
    w : Grown P
    w = grown_from P l

    within_open : (at : Option Node) → P.at ≡ at → is_open_at at (serial_of m) ≡ true → In m (open_from at)
    within_open None e h = absurd (false≢true h)
    within_open (Some p) e h = within_is P w m p i (w.at_in p e) h

-- a role that reaches n from m reaches into m's subtree
pub gives_within : (P : Tree) → Grown P → (m : Node) (rel tail : List Step) (k : RoleTarget) (n : Node) → In m P.nodes → In n P.nodes → gives P (serial_of m) rel tail k n ≡ true → within (serial_of m) n ≡ true
gives_within P w m rel tail Own n i j g = hits_within (serial_of m) rel n g
gives_within P w m rel tail Whole n i j g =
    let r = any_in (hits (serial_of m) (rel ++ tail)) (above n) g in
    within_above (serial_of m) r.0 n r.1 (hits_within (serial_of m) (rel ++ tail) r.0 r.2)
gives_within P w m rel tail First n i j g =
    let r = any_in (λ (x : Node). is_node (serial_of n) (first P (serial_of x) tail)) (matches P (serial_of m) rel) g in
    let f = node_is (serial_of n) (first P (serial_of r.0) tail) r.2 in
    let a = Matches-in P (serial_of m) rel r.0 r.1 in
    let b = Matches-in P (serial_of r.0) tail f.0 (head_in (matches P (serial_of r.0) tail) f.0 f.1) in
    let same : f.0 ≡ n = Numbered-same 0 P.nodes w.numbered f.0 n b.0 j f.2 in
    within_trans P w (serial_of m) r.0 n a.0 j (hits_within (serial_of m) rel r.0 a.1) (subst (λ (z : Node). within (serial_of r.0) z ≡ true) same (hits_within (serial_of r.0) tail f.0 b.1))

-- a statement that takes back its base's own role reaches its base's node alone
own_alone : (P : Tree) (o : OffTree) (m n : Node) → is_own o ≡ true → reaches P o m n ≡ true → serial_of n ≡ serial_of m
own_alone P o m n h g =
    let a = and_parts (is_own_kind o.kind) (is_empty o.rel) h in
    go o.kind o.rel a.0 a.1 g
  where
    go : (k : RoleTarget) (rel : List Step) → is_own_kind k ≡ true → is_empty rel ≡ true → gives P (serial_of m) rel o.tail k n ≡ true → serial_of n ≡ serial_of m
    go Own [] e f h = eqb-true (serial_of n) (serial_of m) h
    go Own (s ∷ rel) e f h = absurd (false≢true f)
    go First rel e f h = absurd (false≢true e)
    go Whole rel e f h = absurd (false≢true e)

module _ (past : Past) (is : IsPast past) (t : TreeToken) where
  abbrev Q : Tree
  Q = grow t past.tree

  abbrev A : List Action
  A = past.acts

  -- the actions that are in advance behind the token
  abbrev B : List Action
  B = filter (is_ahead (grow t past.tree)) past.acts

  w : Grown past.tree
  w = is_grown past is

  wide : Grown (grow t past.tree)
  wide = Grown-grow t past.tree (is_grown past is)

  low : (n : Node) → In n past.tree.nodes → serial_of n < length past.tree.nodes
  low n i = let r = Numbered-high 0 past.tree.nodes (is_grown past is).numbered n i in omega arith

  -- what is signed is signed at a node that was there
  signed_low : (o : OffTree) (m : Node) → signed past.acts o m ≡ true → serial_of m < length past.tree.nodes
  signed_low o m h =
      let q = (is.stated o (serial_of m) ((signed_is_off past.acts o m).0 h)).1 in
      let l = low q.0 (Matches-in past.tree 0 (path_of past.plan o.base) q.0 q.1).0 in
      let e = q.2 in
      omega arith

  module _ (n : Node) (new : Opens past.tree t n) where
    unsigned_new : (o : OffTree) → signed past.acts o n ≡ false
    unsigned_new o = false_from_ne_true (signed past.acts o n) (λ h. let l = signed_low o n h in let e = (new_node past.tree t n new).1 in absurd (omega arith))

    -- at a node from which it reaches the new one, a statement is signed by an action in advance
    signed_ahead : (o : OffTree) (m : Node) → In m (grow t past.tree).nodes → reaches (grow t past.tree) o m n ≡ true → signed past.acts o m ≡ signed (filter (is_ahead (grow t past.tree)) past.acts) o m
    signed_ahead o m i g =
        same_from_decides {P = In (Offed o (serial_of m)) past.acts} (signed A o m) (signed B o m) ((signed_is_off A o m).0, (signed_is_off A o m).1)
        ((λ h. (In-filter (is_ahead Q) (Offed o (serial_of m)) A ((signed_is_off B o m).0 h)).0), (λ h. (signed_is_off B o m).1 (In-kept (is_ahead Q) (Offed o (serial_of m)) A h (ahead ((signed_is_off A o m).1 h)))))
      where
        ahead : signed past.acts o m ≡ true → is_ahead (grow t past.tree) (Offed o (serial_of m)) ≡ true
        ahead h =
            let l = signed_low o m h in
            let e = (new_node past.tree t n new).1 in
            let inside : within (serial_of m) n ≡ true = gives_within Q wide m o.rel o.tail o.kind n i new.0 g in
            let up : In m (n ∷ open_nodes past.tree) = subst (λ (z : List Node). In m z) (new_node past.tree t n new).2 (within_is Q wide m n i new.0 inside) in
            and_from _ _ (elim up [ inl f ↦ (let g' = ap serial_of f in absurd (omega arith)) | inr k ↦ open_is Q.at m ((new_node past.tree t n new).4 m k) ])
            (ap not (false_from_ne_true (is_own o) (λ k. let f = own_alone Q o m n k g in absurd (omega arith))))

    taken_ahead : (o : OffTree) → all_signed (path_of past.plan) (grow t past.tree) past.acts n o ≡ all_signed (path_of past.plan) (grow t past.tree) (filter (is_ahead (grow t past.tree)) past.acts) n o
    taken_ahead o =
        all_same (λ (m : Node). not (reaches Q o m n) || signed A o m) (λ (m : Node). not (reaches Q o m n) || signed B o m) (matches Q 0 (path_of past.plan o.base))
        (λ m i. go m (Matches-in Q 0 (path_of past.plan o.base) m i).0 (reaches Q o m n) refl)
      where
        go : (m : Node) → In m (grow t past.tree).nodes → (c : Bool) → reaches (grow t past.tree) o m n ≡ c → (not (reaches (grow t past.tree) o m n) || signed past.acts o m) ≡ (not (reaches (grow t past.tree) o m n) || signed (filter (is_ahead (grow t past.tree)) past.acts) o m)
        go m i true e = ap (λ z. not (reaches (grow t past.tree) o m n) || z) (signed_ahead o m i e)
        go m i false e = rw e refl

    same_taken : (r : ℕ) → taken past.plan (grow t past.tree) past.acts n r ≡ taken past.plan (grow t past.tree) (filter (is_ahead (grow t past.tree)) past.acts) n r
    same_taken r = ap (λ z. given past.plan Q n r && z) (go (statement_of past.plan r))
      where
        go : (s : Option OffTree) → on_off (all_signed (path_of past.plan) (grow t past.tree) past.acts n) s ≡ on_off (all_signed (path_of past.plan) (grow t past.tree) (filter (is_ahead (grow t past.tree)) past.acts) n) s
        go None = refl
        go (Some o) = taken_ahead o

pub new_unsigned : NewUnsigned
new_unsigned past is t n new = (unsigned_new past is t n new, filter_none (is_signed past.plan past.acts n) (count 0 (length past.plan.roles)) (λ r i. go (statement_of past.plan r)))
  where
    go : (s : Option OffTree) → on_off (λ o. signed past.acts o n) s ≡ false
    go None = refl
    go (Some o) = unsigned_new past is t n new o

pub ahead_takes : AheadTakes
ahead_takes past is t n new r = same_taken past is t n new r

pub ahead_signed : AheadSigned
ahead_signed past is t n new s i = (
  (λ h.
      let a = and_parts (given past.plan Q' n s.role) (all_signed (path_of past.plan) Q' past.acts n s) (sym (taken_told past.plan s (tells past is s i) Q' past.acts n) ∙ h) in (
        a.0,
        λ m u b g.
            let x = all_in (λ (j : Node). not (reaches Q' s j n) || signed past.acts s j) (matches Q' 0 (path_of past.plan s.base)) a.1 m b in
            let y = or_not (reaches Q' s m n) (signed past.acts s m) x g in
            (signed_is_off (B past is t) s m).0 (sym (signed_ahead past is t n new s m (Matches-in Q' 0 (path_of past.plan s.base) m b).0 g) ∙ y),
      )),
  (λ h. taken_told past.plan s (tells past is s i) Q' past.acts n ∙ and_from _ _ h.0 (all_from (λ (j : Node). not (reaches Q' s j n) || signed past.acts s j) (matches Q' 0 (path_of past.plan s.base))
      (λ m b. go m b (reaches Q' s m n) refl (h.1 m)))),
)
  where
    Q' : Tree
    Q' = grow t past.tree

    go : (m : Node) → In m (matches (grow t past.tree) 0 (path_of past.plan s.base)) → (c : Bool) → reaches (grow t past.tree) s m n ≡ c
        → (In m (above n) → In m (matches (grow t past.tree) 0 (path_of past.plan s.base)) → reaches (grow t past.tree) s m n ≡ true → In (Offed s (serial_of m)) (filter (is_ahead (grow t past.tree)) past.acts))
        → (not (reaches (grow t past.tree) s m n) || signed past.acts s m) ≡ true
    go m b false e f = or_left _ _ (ap not e)
    go m b true e f =
        let im = (Matches-in (grow t past.tree) 0 (path_of past.plan s.base) m b).0 in
        let inside : within (serial_of m) n ≡ true = gives_within (grow t past.tree) (wide past is t) m s.rel s.tail s.kind n im new.0 e in
        or_right _ _ (signed_ahead past is t n new s m im e ∙ (signed_is_off (B past is t) s m).1 (f (within_is (grow t past.tree) (wide past is t) m n im new.0 inside) b e))

pub ahead_before : AheadBefore
ahead_before past is t (Wrote b) i h = absurd (false≢true h)
ahead_before past is t (Offed o m) i h =
    let a = and_parts (is_open_at (grow t past.tree).at m) (not (is_own o)) h in
    let q = (is.stated o m i).1 in
    let l = low past is t q.0 (Matches-in past.tree 0 (path_of past.plan o.base) q.0 q.1).0 in
    let shut : is_open_at past.tree.at (serial_of q.0) ≡ false → is_open_at (grow t past.tree).at (serial_of q.0) ≡ false = λ c. not-true _ (stays_closed t past.tree q.0 l (ap not c)) in
    and_from _ _ (true_from_ne_false (is_open_at past.tree.at m) (λ c. true≢false (sym a.0 ∙ subst (λ (z : ℕ). is_open_at past.tree.at z ≡ false → is_open_at (grow t past.tree).at z ≡ false) q.2 shut c))) a.1
