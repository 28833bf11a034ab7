-- Entries of nodes, and those of them that are set.
use Rattle.std.proofs.Common.{◌≡◌, ℕ, zero, suc, ◌+◌, ◌<◌, ◌≤◌, ◌⊎◌, Bool, true, false, cond, ◌&&◌, ◌||◌, List, [], ◌∷◌, ◌++◌, length, map, max, replicate, get_or, set, leb, ltb, take, refl, sym, ◌∙◌, ap, subst, inl, inr, arith, Bor}
use Rattle.std.proofs.lemmas.Bool.{and_from, cases_eq, cases_lt, le-leb, lt-leb, le-ltb, lt-ltb}
use Rattle.std.proofs.lemmas.Grind.{same_number_lists}
use Rattle.std.proofs.lemmas.List.{get_or-map, get_or-set_same, get_or-set_other, length-map, length-set, take_all, take_more}
use Rattle.gcx_model.specs.Core.{OffTree}
use Rattle.gcx_model.specs.Held.{gives}
use Rattle.gcx_model.specs.Members.{In, count}
use Rattle.gcx_model.specs.Run.{Action, Wrote, Offed}
use Rattle.gcx_model.specs.Tree.{Node, serial_of, Tree}
use Rattle.gcx_model.specs.declared.item.Off.{Off}
use Rattle.tree_laws.proofs.Matches.{Grown, Numbered, Numbered-low}
use Rattle.time_laws.specs.Leaving.{count_offs, last_from, last_of}
use Rattle.trace_check.specs.Acting.{Shown, Sized, Signed, act_shown, action_shown, what_shown}
use Rattle.trace_check.specs.Reaching.{in_range}
use Rattle.trace_check.specs.Wanting.{by_node, set_where}
use Rattle.trace_check.specs.declared.acts.Act.{Act}
use Rattle.trace_check.specs.declared.acts.Act.TheVariants as act
use Rattle.trace_check.specs.declared.acts.TimedAct.{TimedAct}
use Rattle.trace_check.specs.declared.reach.Range.{Range}

-- ---- entries by number

pub length_count : (k n : ℕ) → length (count k n) ≡ n
length_count k zero = refl
length_count k (suc n) = ap suc (length_count (suc k) n)

pub counted_at : {X : Type 0} (g : ℕ → X) (k n i : ℕ) (d : X) → i < n → get_or (map g (count k n)) i d ≡ g (k + i)
counted_at g k zero i d l = absurd (omega (arith, l))
counted_at g k (suc n) zero d l = let e : k ≡ k + 0 = omega arith in ap g e
counted_at g k (suc n) (suc i) d l = let e : suc k + i ≡ k + suc i = omega arith in counted_at g (suc k) n i d (omega (arith, l)) ∙ ap g e

counted_same : {X : Type 0} (g h : ℕ → X) (k n : ℕ) → ((i : ℕ) → i < n → g (k + i) ≡ h (k + i)) → map g (count k n) ≡ map h (count k n)
counted_same g h k zero same = refl
counted_same {X} g h k (suc n) same =
    let here : g k ≡ h k = (let e : k ≡ k + 0 = omega arith in ap g e ∙ (same 0 (omega arith) ∙ sym (ap h e))) in
    let on : map g (count (suc k) n) ≡ map h (count (suc k) n)
    = counted_same g h (suc k) n (λ i l. let e : suc k + i ≡ k + suc i = omega arith in ap g e ∙ (same (suc i) (omega (arith, l)) ∙ sym (ap h e))) in
    ap (λ (x : X). x ∷ map g (count (suc k) n)) here ∙ ap (λ (l : List X). h k ∷ l) on

-- a list by its entries
itself : (k : ℕ) (xs : List ℕ) (g : ℕ → ℕ) → ((i : ℕ) → i < length xs → g (k + i) ≡ get_or xs i 0) → map g (count k (length xs)) ≡ xs
itself k [] g same = refl
itself k (x ∷ xs) g same =
    let here : g k ≡ x = (let e : k ≡ k + 0 = omega arith in ap g e ∙ same 0 (omega arith)) in
    let on : map g (count (suc k) (length xs)) ≡ xs
    = itself (suc k) xs g (λ i l. let e : suc k + i ≡ k + suc i = omega arith in ap g e ∙ same (suc i) (omega (arith, l))) in
    ap (λ (y : ℕ). y ∷ map g (count (suc k) (length xs))) here ∙ ap (λ (l : List ℕ). x ∷ l) on

-- from 0 on
pub zero_plus : (i : ℕ) → 0 + i ≡ i
zero_plus i = omega arith

pub same_counted : {X : Type 0} (g h : ℕ → X) (n : ℕ) → ((i : ℕ) → i < n → g i ≡ h i) → map g (count 0 n) ≡ map h (count 0 n)
same_counted g h n same = counted_same g h 0 n (λ i l. ap g (zero_plus i) ∙ (same i l ∙ sym (ap h (zero_plus i))))

all_itself : (xs : List ℕ) (g : ℕ → ℕ) → ((i : ℕ) → i < length xs → g i ≡ get_or xs i 0) → map g (count 0 (length xs)) ≡ xs
all_itself xs g same = itself 0 xs g (λ i l. ap g (zero_plus i) ∙ same i l)

-- ---- entries that are set

pub set_long : (p : ℕ → Bool) (x : ℕ) (entries : List ℕ) → length (set_where p x entries) ≡ length entries
set_long p x entries = length-map (count 0 (length entries)) (λ k. cond (p k) x (get_or entries k 0)) ∙ length_count 0 (length entries)

pub set_entry : (p : ℕ → Bool) (x : ℕ) (entries : List ℕ) (k : ℕ) → k < length entries → get_or (set_where p x entries) k 0 ≡ cond (p k) x (get_or entries k 0)
set_entry p x entries k l = counted_at (λ i. cond (p i) x (get_or entries i 0)) 0 (length entries) k 0 l ∙ ap (λ (i : ℕ). cond (p i) x (get_or entries i 0)) (zero_plus k)

-- none is set
pub set_none : (p : ℕ → Bool) (x : ℕ) (entries : List ℕ) → ((k : ℕ) → k < length entries → p k ≡ false) → set_where p x entries ≡ entries
set_none p x entries none = all_itself entries (λ k. cond (p k) x (get_or entries k 0)) (λ i l. ap (λ (b : Bool). cond b x (get_or entries i 0)) (none i l))

pub set_same : (p q : ℕ → Bool) (x : ℕ) (entries : List ℕ) → ((k : ℕ) → k < length entries → p k ≡ q k) → set_where p x entries ≡ set_where q x entries
set_same p q x entries same = same_counted (λ k. cond (p k) x (get_or entries k 0)) (λ k. cond (q k) x (get_or entries k 0)) (length entries) (λ i l. ap (λ (b : Bool). cond b x (get_or entries i 0)) (same i l))

-- some are set, and then others
pub set_then : (p q : ℕ → Bool) (x : ℕ) (entries : List ℕ) → set_where q x (set_where p x entries) ≡ set_where (λ k. p k || q k) x entries
set_then p q x entries =
    ap (λ (n : ℕ). map (λ k. cond (q k) x (get_or (set_where p x entries) k 0)) (count 0 n)) (set_long p x entries)
    ∙ same_counted (λ k. cond (q k) x (get_or (set_where p x entries) k 0)) (λ k. cond (p k || q k) x (get_or entries k 0)) (length entries)
    (λ i l. ap (λ (e : ℕ). cond (q i) x e) (set_entry p x entries i l) ∙ both (p i) (q i) (get_or entries i 0))
  where
    both : (a b : Bool) (e : ℕ) → cond b x (cond a x e) ≡ cond (a || b) x e
    both true true e = refl
    both true false e = refl
    both false b e = refl

-- ---- entries of nodes

entry_from : (b : ℕ) (xs : List Node) → Numbered b xs → (f : Node → ℕ) (n : Node) → In n xs → (i : ℕ) → serial_of n ≡ b + i → get_or (map f xs) i 0 ≡ f n
entry_from b [] h f n k i e = absurd k
entry_from b (x ∷ xs) h f n (inl same) zero e = ap f same
entry_from b (x ∷ xs) h f n (inl same) (suc i) e = let s = ap serial_of same in let z = h.0 in absurd (omega (arith, s, z, e))
entry_from b (x ∷ xs) h f n (inr k) zero e = let low = Numbered-low (suc b) xs h.1 n k in absurd (omega (arith, low, e))
entry_from b (x ∷ xs) h f n (inr k) (suc i) e = entry_from (suc b) xs h.1 f n k i (omega (arith, e))

-- the entry at a node's number is the node's
pub entry_by : (C : Tree) → Grown C → (f : Node → ℕ) (n : Node) → In n C.nodes → get_or (by_node C f) (serial_of n) 0 ≡ f n
entry_by C w f n i = entry_from 0 C.nodes w.numbered f n i (serial_of n) (sym (zero_plus (serial_of n)))

by_numbers : {X : Type 0} (b : ℕ) (xs : List Node) → Numbered b xs → (g : ℕ → X) (f : Node → X) → ((n : Node) → In n xs → g (serial_of n) ≡ f n) → map g (count b (length xs)) ≡ map f xs
by_numbers b [] h g f same = refl
by_numbers {X} b (x ∷ xs) h g f same =
    ap (λ (y : X). y ∷ map g (count (suc b) (length xs))) (ap g (sym h.0) ∙ same x (inl refl))
    ∙ ap (λ (l : List X). f x ∷ l) (by_numbers (suc b) xs h.1 g f (λ n i. same n (inr i)))

-- entries of nodes, set by number
pub set_nodes : (C : Tree) → Grown C → (f : Node → ℕ) (p : ℕ → Bool) (q : Node → Bool) (x : ℕ) → ((n : Node) → In n C.nodes → p (serial_of n) ≡ q n)
    → set_where p x (by_node C f) ≡ by_node C (λ n. cond (q n) x (f n))
set_nodes C w f p q x same =
    ap (λ (m : ℕ). map (λ k. cond (p k) x (get_or (by_node C f) k 0)) (count 0 m)) (length-map C.nodes f)
    ∙ by_numbers 0 C.nodes w.numbered (λ k. cond (p k) x (get_or (by_node C f) k 0)) (λ n. cond (q n) x (f n))
    (λ n i. ap (λ (b : Bool). cond b x (get_or (by_node C f) (serial_of n) 0)) (same n i) ∙ ap (λ (e : ℕ). cond (q n) x e) (entry_by C w f n i))

-- ---- the last statements

-- one action more
abbrev pub last_one : Tree → (k : ℕ) → Action → Node → (x : ℕ) → ℕ
last_one C k (Wrote b) n x = x
last_one C k (Offed o m) n x = cond (gives C m o.rel o.tail o.kind n) (suc k) x

pub last_push : (C : Tree) (k : ℕ) (all : List Action) (a : Action) (n : Node) (x : ℕ) → last_from C k (all ++ a ∷ []) n x ≡ last_one C (k + count_offs all) a n (last_from C k all n x)
last_push C k [] (Wrote b) n x = refl
last_push C k [] (Offed o m) n x = ap (λ (i : ℕ). cond (gives C m o.rel o.tail o.kind n) (suc i) x) (let e : k ≡ k + 0 = omega arith in e)
last_push C k (Wrote b ∷ all) a n x = last_push C k all a n x
last_push C k (Offed o m ∷ all) a n x =
    let e : suc k + count_offs all ≡ k + suc (count_offs all) = omega arith in
    last_push C (suc k) all a n (cond (gives C m o.rel o.tail o.kind n) (suc k) x)
    ∙ ap (λ (i : ℕ). last_one C i a n (last_from C (suc k) all n (cond (gives C m o.rel o.tail o.kind n) (suc k) x))) e

pub count_push : (all : List Action) (a : Action) → count_offs (all ++ a ∷ []) ≡ count_offs all + count_offs (a ∷ [])
count_push [] a = let e : count_offs (a ∷ []) ≡ 0 + count_offs (a ∷ []) = omega arith in e
count_push (Wrote b ∷ all) a = count_push all a
count_push (Offed o m ∷ all) a = let e = count_push all a in omega (arith, e)

-- a write changes no entry, a statement sets those of the nodes that it reaches
pub last_wrote : (C : Tree) (all : List Action) (b : List ℕ) → by_node C (last_of C all) ≡ by_node C (last_of C (all ++ Wrote b ∷ []))
last_wrote C all b = mapped C.nodes
  where
    mapped : (xs : List Node) → map (last_of C all) xs ≡ map (last_of C (all ++ Wrote b ∷ [])) xs
    mapped [] = refl
    mapped (x ∷ xs) =
        ap (λ (e : ℕ). e ∷ map (last_of C all) xs) (sym (last_push C 0 all (Wrote b) x 0))
        ∙ ap (λ (l : List ℕ). last_of C (all ++ Wrote b ∷ []) x ∷ l) (mapped xs)

pub last_offed : (C : Tree) → Grown C → (all : List Action) (o : OffTree) (m : ℕ) (p : ℕ → Bool) → ((n : Node) → In n C.nodes → p (serial_of n) ≡ gives C m o.rel o.tail o.kind n)
    → set_where p (suc (count_offs all)) (by_node C (last_of C all)) ≡ by_node C (last_of C (all ++ Offed o m ∷ []))
last_offed C w all o m p same = set_nodes C w (last_of C all) p (gives C m o.rel o.tail o.kind) (suc (count_offs all)) same ∙ mapped C.nodes
  where
    mapped : (xs : List Node) → map (λ n. cond (gives C m o.rel o.tail o.kind n) (suc (count_offs all)) (last_of C all n)) xs ≡ map (last_of C (all ++ Offed o m ∷ [])) xs
    mapped [] = refl
    mapped (x ∷ xs) =
        let one : cond (gives C m o.rel o.tail o.kind x) (suc (count_offs all)) (last_of C all x) ≡ last_of C (all ++ Offed o m ∷ []) x
        = ap (λ (i : ℕ). cond (gives C m o.rel o.tail o.kind x) (suc i) (last_of C all x)) (sym (zero_plus (count_offs all))) ∙ sym (last_push C 0 all (Offed o m) x 0) in
        ap (λ (e : ℕ). e ∷ map (λ n. cond (gives C m o.rel o.tail o.kind n) (suc (count_offs all)) (last_of C all n)) xs) one
        ∙ ap (λ (l : List ℕ). last_of C (all ++ Offed o m ∷ []) x ∷ l) (mapped xs)

-- So many statements are carried out by these actions, and these are the numbers of the last ones that reach the nodes.
pub record HasLast (C : Tree) (done : List Action) (number : ℕ) (last : List ℕ) : Type 0 where
  pub counted : number ≡ count_offs done
  pub entries : last ≡ by_node C (last_of C done)

-- none yet
pub none_last : (C : Tree) → Grown C → (last : List ℕ) → last ≡ replicate (length C.nodes) 0 → HasLast C [] 0 last
none_last C w last e = record {
  counted = refl;
  entries = e ∙ zeros C.nodes;
}
  where
    zeros : (xs : List Node) → replicate (length xs) 0 ≡ map (last_of C []) xs
    zeros [] = refl
    zeros (x ∷ xs) = ap (λ (l : List ℕ). 0 ∷ l) (zeros xs)

-- an action of the run, by the one that was kept of it
act_more : (acts : List TimedAct) (all : List Action) → map what_shown acts ≡ map action_shown all → (i : ℕ) (d : TimedAct) → i < length acts
    → (a : Action) × (take (i + 1) all ≡ take i all ++ a ∷ []) × (what_shown (get_or acts i d) ≡ action_shown a)
act_more acts all e i d l =
    let m : i < length all = (let x = ap length e in let y = length-map acts what_shown in let z = length-map all action_shown in omega (arith, l, x, y, z)) in (
      get_or all i (Wrote []),
      take_more all i (Wrote []) m,
      sym (get_or-map what_shown acts i d (Sized 0) l) ∙ (ap (λ (s : List Shown). get_or s i (Sized 0)) e ∙ get_or-map action_shown all i (Wrote []) (Sized 0) m),
    )

sized_is : (a : Action) (n : ℕ) → Sized n ≡ action_shown a → (b : List ℕ) × (a ≡ Wrote b)
sized_is (Wrote b) n e = (b, refl)
sized_is (Offed o m) n e = absurd (cc)

signed_is : (a : Action) (o : OffTree) (m : ℕ) → Signed o m ≡ action_shown a → a ≡ Offed o m
signed_is (Wrote b) o m e = absurd (cc)
signed_is (Offed p k) o m e = cc

-- what is kept of what isn't a statement
pub sized_act : (a : Act) → ((node : ℕ) (off : Bor Off) → a ≡ act.SignedOff node off → ⊥) → (n : ℕ) × (act_shown a ≡ Sized n)
sized_act (act.Wrote bytes) other = (bytes, refl)
sized_act (act.SignedOff node off) other = absurd (other node off refl)

-- all of them
pub last_all : (C : Tree) (acts : List TimedAct) (all : List Action) (i number : ℕ) (last : List ℕ) → map what_shown acts ≡ map action_shown all → length acts ≤ i → HasLast C (take i all) number last
    → HasLast C all number last
last_all C acts all i number last e l h =
    let many : length all ≤ i = (let x = ap length e in let y = length-map acts what_shown in let z = length-map all action_shown in omega (arith, l, x, y, z)) in
    subst (λ (done : List Action). HasLast C done number last) (take_all i all many) h

module _ (C : Tree) (acts : List TimedAct) (all : List Action) (e : map what_shown acts ≡ map action_shown all) (i : ℕ) (d : TimedAct) (l : i < length acts) (number : ℕ) (last : List ℕ)
    (h : HasLast C (take i all) number last) where
  pub last_sized : (n : ℕ) → what_shown (get_or acts i d) ≡ Sized n → HasLast C (take (i + 1) all) number last
  last_sized n is =
      let r = act_more acts all e i d l in
      let b = sized_is r.0 n (sym is ∙ r.2) in
      let more : take (i + 1) all ≡ take i all ++ Wrote b.0 ∷ [] = r.1 ∙ ap (λ (a : Action). take i all ++ a ∷ []) b.1 in
      record {
        counted = (let x = h.counted in let y = count_push (take i all) (Wrote b.0) in let z = ap count_offs more in omega (arith, x, y, z));
        entries = h.entries ∙ (last_wrote C (take i all) b.0 ∙ ap (λ (done : List Action). by_node C (last_of C done)) (sym more));
      }

  pub last_signed : Grown C → (o : OffTree) (m : ℕ) → what_shown (get_or acts i d) ≡ Signed o m → (p : ℕ → Bool) → ((n : Node) → In n C.nodes → p (serial_of n) ≡ gives C m o.rel o.tail o.kind n)
      → HasLast C (take (i + 1) all) (number + 1) (set_where p (number + 1) last)
  last_signed w o m is p same =
      let r = act_more acts all e i d l in
      let more : take (i + 1) all ≡ take i all ++ Offed o m ∷ [] = r.1 ∙ ap (λ (a : Action). take i all ++ a ∷ []) (signed_is r.0 o m (sym is ∙ r.2)) in
      let next : number + 1 ≡ suc (count_offs (take i all)) = (let x = h.counted in omega (arith, x)) in
      record {
        counted = (let y = count_push (take i all) (Offed o m) in let z = ap count_offs more in omega (arith, next, y, z));
        entries =
            ap (λ (k : ℕ). set_where p k last) next
            ∙ (ap (set_where p (suc (count_offs (take i all)))) h.entries
            ∙ (last_offed C w (take i all) o m p same ∙ ap (λ (done : List Action). by_node C (last_of C done)) (sym more)));
      }

-- ---- the entries of a range

abbrev pub so_far : (first node : ℕ) → ℕ → Bool
so_far first node k = leb first k && ltb k node

pub and_false : (a : Bool) → (a && false) ≡ false
and_false true = refl
and_false false = refl

-- none yet
pub none_far : (first k : ℕ) → so_far first first k ≡ false
none_far first k = elim (cases_lt k first) [
  | inl l ↦ ap (λ (b : Bool). b && ltb k first) (lt-leb first k l)
  | inr g ↦ ap (λ (b : Bool). leb first k && b) (le-ltb k first g) ∙ and_false (leb first k)
]

-- a number more is in it, and the others are as before
pub more_far : (first i : ℕ) → first ≤ i → so_far first (i + 1) i ≡ true
more_far first i from = and_from (leb first i) (ltb i (i + 1)) (le-leb first i from) (lt-ltb i (i + 1) (omega arith))

pub not_far : (first i : ℕ) → so_far first i i ≡ false
not_far first i = ap (λ (b : Bool). leb first i && b) (le-ltb i i (omega arith)) ∙ and_false (leb first i)

pub same_far : (first i k : ℕ) → (k ≡ i → ⊥) → so_far first i k ≡ so_far first (i + 1) k
same_far first i k other = ap (λ (b : Bool). leb first k && b) apart
  where
    above : i ≤ k → i + 1 ≤ k
    above b = elim (cases_lt i k) [ inl a ↦ omega (arith, a) | inr c ↦ absurd (other (omega (arith, b, c))) ]

    apart : ltb k i ≡ ltb k (i + 1)
    apart = elim (cases_lt k i) [
      | inl a ↦ lt-ltb k i a ∙ sym (lt-ltb k (i + 1) (omega (arith, a)))
      | inr b ↦ le-ltb k i b ∙ sym (le-ltb k (i + 1) (above b))
    ]

-- up to the end of the range, or of so many entries
pub all_far : (r : Range) (node n : ℕ) → node ≤ max r.first (suc r.last) → ((r.last < node) ⊎ (n ≤ node)) → (k : ℕ) → k < n → so_far r.first node k ≡ in_range k r
all_far r node n most end k l = elim (cases_lt k r.first) [
  | inl low ↦ ap (λ (b : Bool). b && ltb k node) (lt-leb r.first k low) ∙ sym (ap (λ (b : Bool). b && leb k r.last) (lt-leb r.first k low))
  | inr from ↦ ap (λ (b : Bool). leb r.first k && b) (upto from end)
]
  where
    upto : r.first ≤ k → ((r.last < node) ⊎ (n ≤ node)) → ltb k node ≡ leb k r.last
    upto from (inl past) = elim (cases_lt r.last k) [
      | inl a ↦ le-ltb k node (omega (arith, a, most, from)) ∙ sym (lt-leb k r.last a)
      | inr b ↦ lt-ltb k node (omega (arith, b, past)) ∙ sym (le-leb k r.last b)
    ]
    upto from (inr whole) = lt-ltb k node (omega (arith, l, whole)) ∙ sym (le-leb k r.last (omega (arith, l, whole, most, from)))

pub range_none : (first x : ℕ) (entries : List ℕ) → entries ≡ set_where (so_far first first) x entries
range_none first x entries = sym (set_none (so_far first first) x entries (λ k l. none_far first k))

-- one entry more
pub range_more : (first i x : ℕ) (entries : List ℕ) → i < length entries → first ≤ i → set (set_where (so_far first i) x entries) i x ≡ set_where (so_far first (i + 1)) x entries
range_more first i x entries l from =
    same_number_lists (set (set_where (so_far first i) x entries) i x) (set_where (so_far first (i + 1)) x entries)
    (length-set (set_where (so_far first i) x entries) i x ∙ (set_long (so_far first i) x entries ∙ sym (set_long (so_far first (i + 1)) x entries)))
    (λ k m.
    let there : k < length entries = (let a = length-set (set_where (so_far first i) x entries) i x in let b = set_long (so_far first i) x entries in omega (arith, m, a, b)) in
    elim (cases_eq k i) [
      | inl same ↦
          (let here : i < length (set_where (so_far first i) x entries) = (let b = set_long (so_far first i) x entries in omega (arith, l, b)) in
          ap (λ (j : ℕ). get_or (set (set_where (so_far first i) x entries) i x) j 0) same
          ∙ (get_or-set_same (set_where (so_far first i) x entries) i x 0 here
          ∙ sym (set_entry (so_far first (i + 1)) x entries k there ∙ ap (λ (b : Bool). cond b x (get_or entries k 0)) (ap (so_far first (i + 1)) same ∙ more_far first i from))))
      | inr other ↦
          get_or-set_other (set_where (so_far first i) x entries) i k x 0 other
          ∙ (set_entry (so_far first i) x entries k there
          ∙ (ap (λ (b : Bool). cond b x (get_or entries k 0)) (same_far first i k other) ∙ sym (set_entry (so_far first (i + 1)) x entries k there)))
    ])

-- up to the end of the range, or of the entries
pub range_done : (r : Range) (node x : ℕ) (entries : List ℕ) → node ≤ max r.first (suc r.last) → ((r.last < node) ⊎ (length entries ≤ node))
    → set_where (so_far r.first node) x entries ≡ set_where (λ k. in_range k r) x entries
range_done r node x entries most end = set_same (so_far r.first node) (λ k. in_range k r) x entries (all_far r node (length entries) most end)
