-- The last step of a path reaches what it hits, from what the steps before hit.
use Rattle.std.proofs.Common.{◌≡◌, ℕ, ◌<◌, ◌≤◌, Bool, true, false, ◌&&◌, ◌||◌, List, [], ◌∷◌, ◌++◌, refl, sym, ◌∙◌, ap, arith, eqb}
use Rattle.std.proofs.lemmas.Bool.{ne_eqb, eq-eqb, and_right}
use Rattle.std.proofs.Math.Bool.{or-false}
use Rattle.gcx_base.specs.declared.steps.Axis.{Axis}
use Rattle.gcx_base.specs.declared.steps.Axis.TheVariants.{Child, Descendant}
use Rattle.gcx_base.specs.declared.steps.Step.{Step}
use Rattle.gcx_model.specs.Tree.{Node, Root, Under, serial_of, kind_of, above, within}
use Rattle.gcx_base.specs.Tests.{passes}
use Rattle.gcx_model.specs.Paths.{any, lies, reach, hits}
use Rattle.doc_tree.specs.Sets.{along, stepped}
use Rattle.doc_tree.proofs.Nodes.{Rises}

-- a node isn't in the subtree of a later one
pub within_low : (n : ℕ) (m : Node) → Rises m → serial_of m < n → within n m ≡ false
within_low n Root r low = ne_eqb 0 n (λ e. omega arith)
within_low n (Under p s k) r low = rw (ne_eqb s n (λ e. omega arith)) (within_low n p r.1 (let g = r.0 in omega arith))

pub lies_low : (a : Axis) (n : ℕ) (m : Node) → Rises m → serial_of m ≤ n → lies a n m ≡ false
lies_low a n Root r low = refl
lies_low Child n (Under p s k) r low = ne_eqb (serial_of p) n (λ e. let g = r.0 in omega arith)
lies_low Descendant n (Under p s k) r low = within_low n p r.1 (let g = r.0 in omega arith)

none_reached : (n : ℕ) (s : Step) (f : Node → Bool) (p : Node) → Rises p → serial_of p ≤ n → any (λ j. reach n s j && f j) (above p) ≡ false
none_reached n s f Root r low = rw (and_right (passes s.test (kind_of Root)) false refl) refl
none_reached n s f (Under p i k) r low =
    rw (lies_low s.axis n (Under p i k) r low, and_right (passes s.test k) false refl) (none_reached n s f p r.1 (let g = r.0 in omega arith))

-- no earlier node is hit
hits_low : (n : ℕ) (path : List Step) (m : Node) → Rises m → serial_of m < n → hits n path m ≡ false
hits_low n [] m r low = ne_eqb (serial_of m) n (λ e. omega arith)
hits_low n (s ∷ rest) m r low = none_reached n s (λ j. hits (serial_of j) rest m) m r (omega arith)

none_hit : (n : ℕ) (path : List Step) (p : Node) → Rises p → serial_of p < n → any (hits n path) (above p) ≡ false
none_hit n path Root r low = rw (hits_low n path Root r low) refl
none_hit n path (Under p s k) r low = rw (hits_low n path (Under p s k) r low) (none_hit n path p r.1 (let g = r.0 in omega arith))

within_any : (n : ℕ) (m : Node) → within n m ≡ any (λ j. eqb (serial_of j) n) (above m)
within_any n Root = sym (or-false _)
within_any n (Under p s k) = ap (λ b. eqb s n || b) (within_any n p)

any_same : (f g : Node → Bool) (xs : List Node) → ((x : Node) → f x ≡ g x) → any f xs ≡ any g xs
any_same f g [] e = refl
any_same f g (x ∷ xs) e = rw (e x, any_same f g xs e) refl

-- a test that all share
any_and : (b : Bool) (f g : Node → Bool) (xs : List Node) → any (λ j. f j && (b && g j)) xs ≡ (b && any (λ j. f j && g j) xs)
any_and b f g [] = sym (and_right b false refl)
any_and b f g (x ∷ xs) = rw (any_and b f g xs) (tidy b (f x) (g x) (any (λ j. f j && g j) xs))
  where
    tidy : (b x y z : Bool) → ((x && (b && y)) || (b && z)) ≡ (b && ((x && y) || z))
    tidy true x y z = refl
    tidy false true y z = refl
    tidy false false y z = refl

any_or : (f g h : Node → Bool) (xs : List Node) → any (λ j. f j && (g j || h j)) xs ≡ (any (λ j. f j && g j) xs || any (λ j. f j && h j) xs)
any_or f g h [] = refl
any_or f g h (x ∷ xs) = rw (any_or f g h xs) (tidy (f x) (g x) (h x) (any (λ j. f j && g j) xs) (any (λ j. f j && h j) xs))
  where
    tidy : (x y z v w : Bool) → ((x && (y || z)) || (v || w)) ≡ (((x && y) || v) || ((x && z) || w))
    tidy false y z v w = refl
    tidy true true z v w = refl
    tidy true false true true w = refl
    tidy true false true false w = refl
    tidy true false false v w = refl

module _ (f : Node → Bool) (path : List Step) where
  abbrev from : Node → Node → Bool
  from j i = hits (serial_of j) path i

  -- what is below what is hit
  exchange : (p : Node) → Rises p → any (λ j. f j && any (from j) (above p)) (above p) ≡ any (λ i. any (λ j. f j && from j i) (above i)) (above p)
  exchange Root r = tidy (f Root) (from Root Root)
    where
      tidy : (a b : Bool) → ((a && (b || false)) || false) ≡ (((a && b) || false) || false)
      tidy true true = refl
      tidy true false = refl
      tidy false b = refl
  exchange (Under q s k) r =
      let p = Under q s k in
      let low : any (from p) (above q) ≡ false = none_hit s path q r.1 r.0 in
      rw (low, any_or f (λ j. from j p) (λ j. any (from j) (above q)) (above q), exchange q r.1)
      (tidy (f p) (from p p) (any (λ j. f j && from j p) (above q)) (any (λ i. any (λ j. f j && from j i) (above i)) (above q)))
    where
      tidy : (a b v w : Bool) → ((a && (b || false)) || (v || w)) ≡ (((a && b) || v) || w)
      tidy true true v w = refl
      tidy true false v w = refl
      tidy false b v w = refl

  along_on : (a : Axis) (m : Node) → Rises m → any (λ j. f j && along a (from j) m) (above m) ≡ along a (λ i. any (λ j. f j && from j i) (above i)) m
  along_on Child Root r = rw (and_right (f Root) false refl) refl
  along_on Descendant Root r = rw (and_right (f Root) false refl) refl
  along_on Child (Under p s k) r = rw (hits_low s path p r.1 r.0, and_right (f (Under p s k)) false refl) refl
  along_on Descendant (Under p s k) r = rw (none_hit s path p r.1 r.0, and_right (f (Under p s k)) false refl) (exchange p r.1)

along_here : (a : Axis) (n : ℕ) (m : Node) → lies a n m ≡ along a (hits n []) m
along_here a n Root = root a
  where
    root : (a : Axis) → false ≡ along a (hits n []) Root
    root Child = refl
    root Descendant = refl
along_here Child n (Under p s k) = refl
along_here Descendant n (Under p s k) = within_any n p

alone : (n : ℕ) (f : Node → Bool) (p : Node) → Rises p → serial_of p < n → any (λ j. f j && eqb n (serial_of j)) (above p) ≡ false
alone n f Root r low = rw (ne_eqb n 0 (λ e. omega arith), and_right (f Root) false refl) refl
alone n f (Under p s k) r low = rw (ne_eqb n s (λ e. omega arith), and_right (f (Under p s k)) false refl) (alone n f p r.1 (let g = r.0 in omega arith))

-- a path of one step hits what the step reaches
pub hits_one : (n : ℕ) (s : Step) (m : Node) → Rises m → hits n (s ∷ []) m ≡ reach n s m
hits_one n s Root r = tidy (reach n s Root)
  where
    tidy : (a : Bool) → ((a && true) || false) ≡ a
    tidy true = refl
    tidy false = refl
hits_one n s (Under p i k) r = rw (eq-eqb i i refl, alone i (reach n s) p r.1 r.0) (tidy (reach n s (Under p i k)))
  where
    tidy : (a : Bool) → ((a && true) || false) ≡ a
    tidy true = refl
    tidy false = refl

pub hits-push : (n : ℕ) (path : List Step) (s : Step) (m : Node) → Rises m → hits n (path ++ s ∷ []) m ≡ stepped s (hits n path) m
hits-push n [] s m r = hits_one n s m r ∙ ap (λ b. passes s.test (kind_of m) && b) (along_here s.axis n m)
hits-push n (t ∷ rest) s m r =
    any_same _ _ (above m) (λ j. ap (λ b. reach n t j && b) (hits-push (serial_of j) rest s m r))
    ∙ any_and (passes s.test (kind_of m)) (reach n t) (λ j. along s.axis (hits (serial_of j) rest) m) (above m)
    ∙ ap (λ b. passes s.test (kind_of m) && b) (along_on (reach n t) rest s.axis m r)
