-- What a closed node keeps while tokens come.
use Rattle.std.proofs.Common.{◌≡◌, ℕ, ◌<◌, Bool, true, false, cond, not, ◌&&◌, ◌||◌, List, [], ◌∷◌, ◌++◌, length, refl, sym, ◌∙◌, ap, subst, inl, inr, arith, Some, None, Option, eqb}
use Rattle.std.specs.List.{flat_map}
use Rattle.std.proofs.lemmas.List.{append-nil}
use Rattle.std.proofs.lemmas.Bool.{or_cases, or_left, or_right, or_from, and_parts, true≢false, false≢true, eqb-true, eq-eqb, ne_eqb, not-true, false_from_ne_true}
use Rattle.std.proofs.lemmas.Grind.{flat_map-append}
use Rattle.gcx_model.specs.Tree.{Node, Root, Under, serial_of, kind_of, above, within, Tree, TreeToken, Start, Chars, End, grow, grow_at, is_open_at, is_closed}
use Rattle.gcx_base.specs.declared.steps.Step.{Step}
use Rattle.gcx_base.specs.declared.steps.Axis.{Axis}
use Rattle.gcx_base.specs.declared.steps.Axis.TheVariants.{Child, Descendant}
use Rattle.gcx_base.specs.Tests.{passes}
use Rattle.gcx_model.specs.Paths.{reach, lies, hits, matches, value, text_of}
use Rattle.tree_laws.proofs.Lists.{In, any_in, filter_none}
use Rattle.tree_laws.proofs.Matches.{Grown, Numbered-same, added, added_at, Matches-grow, grow_nodes}

pub within_self : (n : ℕ) (m : Node) → eqb (serial_of m) n ≡ true → within n m ≡ true
within_self n Root e = eq-eqb 0 n (eqb-true 0 n e)
within_self n (Under p s k) e = or_left (eqb s n) (within n p) e

pub within_above : (n : ℕ) (j m : Node) → In j (above m) → within n j ≡ true → within n m ≡ true
within_above n j Root (inl e) h = subst (λ (x : Node). within n x ≡ true) (sym e) h
within_above n j Root (inr i) h = absurd i
within_above n j (Under p s k) (inl e) h = subst (λ (x : Node). within n x ≡ true) (sym e) h
within_above n j (Under p s k) (inr i) h = or_right (eqb s n) (within n p) (within_above n j p i h)

lies_within : (a : Axis) (n : ℕ) (j : Node) → lies a n j ≡ true → within n j ≡ true
lies_within Child n Root h = absurd (false≢true h)
lies_within Descendant n Root h = absurd (false≢true h)
lies_within Child n (Under p s k) h = or_right (eqb s n) (within n p) (within_self n p h)
lies_within Descendant n (Under p s k) h = or_right (eqb s n) (within n p) h

pub hits_within : (n : ℕ) (path : List Step) (m : Node) → hits n path m ≡ true → within n m ≡ true
hits_within n [] m h = within_self n m h
hits_within n (s ∷ rest) m h =
    let r = any_in (λ (j : Node). reach n s j && hits (serial_of j) rest m) (above m) h in
    let a = and_parts (reach n s r.0) (hits (serial_of r.0) rest m) r.2 in
    let b = and_parts (passes s.test (kind_of r.0)) (lies s.axis n r.0) a.0 in
    within_above n r.0 m r.1 (lies_within s.axis n r.0 b.1)

-- the new node lies in no closed node
closed_added_at : (at : Option Node) (t : TreeToken) (P : Tree) (n : ℕ) → n < length P.nodes → is_open_at at n ≡ false → (m : Node) → In m (added_at at t P) → within n m ≡ false
closed_added_at None t P n l c m i = absurd i
closed_added_at (Some p) (Start name) P n l c m (inl e) = subst (λ (x : Node). within n x ≡ false) e (or_from (eqb (length P.nodes) n) (within n p) (ne_eqb (length P.nodes) n (λ f. omega arith)) c)
closed_added_at (Some p) (Start name) P n l c m (inr i) = absurd i
closed_added_at (Some p) (Chars b) P n l c m (inl e) = subst (λ (x : Node). within n x ≡ false) e (or_from (eqb (length P.nodes) n) (within n p) (ne_eqb (length P.nodes) n (λ f. omega arith)) c)
closed_added_at (Some p) (Chars b) P n l c m (inr i) = absurd i
closed_added_at (Some p) End P n l c m i = absurd i

pub closed_added : (t : TreeToken) (P : Tree) (n : Node) → serial_of n < length P.nodes → is_closed P n ≡ true → (m : Node) → In m (added t P) → within (serial_of n) m ≡ false
closed_added t P n l c = closed_added_at P.at t P (serial_of n) l (not-true _ c)

stays_closed_at : (at : Option Node) (t : TreeToken) (P : Tree) (n : ℕ) → P.at ≡ at → n < length P.nodes → is_open_at at n ≡ false → is_open_at (grow_at at t P).at n ≡ false
stays_closed_at None t P n e l c = rw e refl
stays_closed_at (Some p) (Start name) P n e l c = or_from (eqb (length P.nodes) n) (within n p) (ne_eqb (length P.nodes) n (λ f. omega arith)) c
stays_closed_at (Some p) (Chars b) P n e l c = c
stays_closed_at (Some Root) End P n e l c = refl
stays_closed_at (Some (Under p s k)) End P n e l c = (or_parts' (eqb s n) (within n p) c)
  where
    or_parts' : (x y : Bool) → (x || y) ≡ false → y ≡ false
    or_parts' true y h = absurd (true≢false h)
    or_parts' false y h = h

pub stays_closed : (t : TreeToken) (P : Tree) (n : Node) → serial_of n < length P.nodes → is_closed P n ≡ true → is_closed (grow t P) n ≡ true
stays_closed t P n l c = ap not (stays_closed_at P.at t P (serial_of n) refl l (not-true _ c))

hits_no : (n : ℕ) (path : List Step) (m : Node) → within n m ≡ false → hits n path m ≡ false
hits_no n path m h = false_from_ne_true (hits n path m) (λ e. false≢true (sym h ∙ hits_within n path m e))

-- the matches at a closed node are final
pub Matches-closed : (t : TreeToken) (P : Tree) (n : Node) (path : List Step) → serial_of n < length P.nodes → is_closed P n ≡ true → matches (grow t P) (serial_of n) path ≡ matches P (serial_of n) path
Matches-closed t P n path l c =
    Matches-grow t P (serial_of n) path
    ∙ (ap (λ x. matches P (serial_of n) path ++ x) (filter_none (hits (serial_of n) path) (added t P) (λ m i. hits_no (serial_of n) path m (closed_added t P n l c m i)))
    ∙ append-nil _)

flat_map-none : {X A : Type 0} (f : X → List A) (xs : List X) → ((x : X) → In x xs → f x ≡ []) → flat_map f xs ≡ []
flat_map-none f [] h = refl
flat_map-none f (x ∷ xs) h = rw (h x (inl refl)) (flat_map-none f xs (λ y k. h y (inr k)))

-- and so is its string value
pub value_closed : (t : TreeToken) (P : Tree) (n : Node) → serial_of n < length P.nodes → is_closed P n ≡ true → value (grow t P) n ≡ value P n
value_closed t P n l c =
    let f : Node → List ℕ = λ m. cond (within (serial_of n) m) (text_of (kind_of m)) [] in
    ap (flat_map f) (grow_nodes t P) ∙ (flat_map-append f P.nodes (added t P)
    ∙ (ap (λ x. flat_map f P.nodes ++ x) (flat_map-none f (added t P) (λ m i. rw (closed_added t P n l c m i) refl))
    ∙ append-nil _))

-- below a closed node all is closed
pub within_trans : (P : Tree) → Grown P → (n : ℕ) (m a : Node) → In m P.nodes → In a P.nodes → within n m ≡ true → within (serial_of m) a ≡ true → within n a ≡ true
within_trans P w n m Root i j h k = let e : Root ≡ m = Numbered-same 0 P.nodes w.numbered Root m j i (eqb-true 0 (serial_of m) k) in subst (λ (x : Node). within n x ≡ true) (sym e) h
within_trans P w n m (Under p s kd) i j h k = elim (or_cases (eqb s (serial_of m)) (within (serial_of m) p) k) [
  | inl e ↦ subst (λ (x : Node). within n x ≡ true) (sym (Numbered-same 0 P.nodes w.numbered (Under p s kd) m j i (eqb-true s (serial_of m) e))) h
  | inr e ↦ or_right (eqb s n) (within n p) (within_trans P w n m p i (w.upward p s kd j) h e)
]

pub open_up_at : (at : Option Node) (P : Tree) → P.at ≡ at → Grown P → (n : ℕ) (m : Node) → In m P.nodes → within n m ≡ true → is_open_at at (serial_of m) ≡ true → is_open_at at n ≡ true
open_up_at None P e w n m i h k = k
open_up_at (Some a) P e w n m i h k = within_trans P w n m a i (w.at_in a e) h k

pub closed_below : (P : Tree) → Grown P → (n m : Node) → In m P.nodes → within (serial_of n) m ≡ true → is_closed P n ≡ true → is_closed P m ≡ true
closed_below P w n m i h c = ap not (false_from_ne_true (is_open_at P.at (serial_of m)) (λ k. false≢true (sym (not-true _ c) ∙ open_up_at P.at P refl w (serial_of n) m i h k)))
