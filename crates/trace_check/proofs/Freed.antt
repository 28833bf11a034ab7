-- The nodes that a statement frees, by their entries.
use Rattle.std.proofs.Common.{◌≡◌, ℕ, zero, suc, ◌-◌, ◌<◌, ◌≤◌, Bool, true, false, cond, ◌&&◌, List, [], ◌∷◌, ◌++◌, length, map, reverse, replicate, get_or, set, refl, sym, ◌∙◌, ap, inl, inr, arith, eqb, leb}
use Rattle.std.specs.Global.{Vec}
use Rattle.std.specs.List.{filter}
use Rattle.std.proofs.lemmas.Bool.{cases_eq, eq-eqb, ne_eqb}
use Rattle.std.proofs.lemmas.List.{ext_get_or, get_or-set_other, get_or-set_same, length-map, length-set}
use Rattle.std.proofs.lemmas.List.Elements.{filter-append}
use Rattle.base_laws.proofs.Lists.{map_reverse, reverse_cons}
use Rattle.gcx_model.specs.Demand.{Left}
use Rattle.gcx_model.specs.Members.{In, count}
use Rattle.gcx_model.specs.Run.{Action}
use Rattle.gcx_model.specs.Tree.{Node, serial_of, Tree}
use Rattle.tree_laws.proofs.Matches.{Grown, Numbered}
use Rattle.time_laws.specs.Leaving.{count_offs, freed_of, is_freed, left_where}
use Rattle.time_laws.specs.Times.{Clock}
use Rattle.trace_check.specs.Wanting.{IsWanted, by_node, lists_in, with_entry}
use Rattle.trace_check.proofs.Entries.{counted_at, entry_by, length_count, same_counted, zero_plus}

filter_reverse : {X : Type 0} (p : X → Bool) (xs : List X) → filter p (reverse xs) ≡ reverse (filter p xs)
filter_reverse p [] = refl
filter_reverse {X} p (x ∷ xs) = ap (filter p) (reverse_cons x xs) ∙ (filter-append p (reverse xs) (x ∷ []) ∙ (ap (λ (l : List X). l ++ filter p (x ∷ [])) (filter_reverse p xs) ∙ go (p x)))
  where
    go : (b : Bool) → reverse (filter p xs) ++ cond b (x ∷ []) [] ≡ reverse (cond b (x ∷ filter p xs) (filter p xs))
    go true = sym (reverse_cons x (filter p xs))
    go false = append_none (reverse (filter p xs))
      where
        append_none : (l : List X) → l ++ [] ≡ l
        append_none [] = refl
        append_none (y ∷ l) = ap (λ (m : List X). y ∷ m) (append_none l)

-- nodes that pass two tests, by tests of their numbers
by_number : (b : ℕ) (xs : List Node) → Numbered b xs → (p q : ℕ → Bool) (r : Node → Bool) → ((n : Node) → In n xs → q (serial_of n) ≡ r n)
    → map serial_of (filter (λ n. p (serial_of n) && r n) xs) ≡ filter p (filter q (count b (length xs)))
by_number b [] h p q r same = refl
by_number b (x ∷ xs) h p q r same =
    ap (λ (c : Bool). map serial_of (cond (p (serial_of x) && c) (x ∷ rest) rest)) (sym (same x (inl refl)))
    ∙ go (by_number (suc b) xs h.1 p q r (λ n i. same n (inr i))) (serial_of x) h.0 (p (serial_of x)) refl (q (serial_of x)) refl
  where
    rest : List Node
    rest = filter (λ n. p (serial_of n) && r n) xs

    go : map serial_of rest ≡ filter p (filter q (count (suc b) (length xs))) → (s : ℕ) → s ≡ b → (c : Bool) → p s ≡ c → (d : Bool) → q s ≡ d
        → map serial_of (cond (c && d) (x ∷ rest) rest) ≡ filter p (filter q (b ∷ count (suc b) (length xs)))
    go on s e true f true g = rw (ap q (sym e) ∙ g) (rw (ap p (sym e) ∙ f) (ap (λ (l : List ℕ). serial_of x ∷ l) on ∙ ap (λ (k : ℕ). k ∷ filter p (filter q (count (suc b) (length xs)))) h.0))
    go on s e false f true g = rw (ap q (sym e) ∙ g) (rw (ap p (sym e) ∙ f) on)
    go on s e true f false g = rw (ap q (sym e) ∙ g) on
    go on s e false f false g = rw (ap q (sym e) ∙ g) on

-- what a statement frees up to a time are the nodes with its number that are closed by then
pub freed_by : (c : Clock) (C : Tree) → Grown C → (all : List Action) (j k : ℕ)
    → left_where C (is_freed c C all j k) ≡ map Left (filter (λ n. leb (c.closed n) j) (with_entry (by_node C (freed_of C all)) k))
freed_by c C w all j k = ap (map Left) (map_reverse serial_of (filter (is_freed c C all j k) C.nodes) ∙ (ap reverse numbers ∙ sym (filter_reverse closed (filter here (count 0 (length until))))))
  where
    until : List ℕ
    until = by_node C (freed_of C all)

    closed : ℕ → Bool
    closed n = leb (c.closed n) j

    here : ℕ → Bool
    here n = eqb (get_or until n 0) k

    numbers : map serial_of (filter (is_freed c C all j k) C.nodes) ≡ filter closed (filter here (count 0 (length until)))
    numbers =
        by_number 0 C.nodes w.numbered closed here (λ n. eqb (freed_of C all n) k) (λ n i. ap (λ (e : ℕ). eqb e k) (entry_by C w (freed_of C all) n i))
        ∙ ap (λ (m : ℕ). filter closed (filter here (count 0 m))) (sym (length-map C.nodes (freed_of C all)))

-- the list of a statement that is carried out
pub freed_list : (C : Tree) (all : List Action) (until : List ℕ) (freed : List (List ℕ)) → IsWanted C all until freed → (k : ℕ) → k ≤ count_offs all
    → (k < length freed) × (get_or freed k [] ≡ with_entry until k)
freed_list C all until freed h k l =
    let long : length freed ≡ suc (count_offs all) = ap length h.freed_is ∙ (length-map (count 0 (suc (count_offs all))) (with_entry until) ∙ length_count 0 (suc (count_offs all))) in (
      omega (arith, l, long),
      ap (λ (x : List (List ℕ)). get_or x k []) h.freed_is ∙ (counted_at (with_entry until) 0 (suc (count_offs all)) k [] (omega (arith, l)) ∙ ap (with_entry until) (zero_plus k)),
    )

-- the lines of the nodes in it that are closed
pub freed_told : (c : Clock) (C : Tree) → Grown C → (all : List Action) (until : List ℕ) (freed : List (List ℕ)) → IsWanted C all until freed → (j k : ℕ) → k ≤ count_offs all
    → map Left (filter (λ n. leb (c.closed n) j) (get_or freed k [])) ≡ left_where C (is_freed c C all j k)
freed_told c C w all until freed h j k l =
    ap (λ (x : List ℕ). map Left (filter (λ n. leb (c.closed n) j) x)) ((freed_list C all until freed h k l).1 ∙ ap (λ (u : List ℕ). with_entry u k) h.until_is)
    ∙ sym (freed_by c C w all j k)

-- ---- the lists, filled from the last number back

-- the numbers from this one on with this entry, falling
abbrev pub entries_from : List ℕ → (j k : ℕ) → List ℕ
entries_from entries j k = reverse (filter (λ n. eqb (get_or entries n 0) k) (count j (length entries - j)))

-- none of them yet
none_from : (entries : List ℕ) (k : ℕ) → entries_from entries (length entries) k ≡ []
none_from entries k = ap (λ (n : ℕ). reverse (filter (λ i. eqb (get_or entries i 0) k) (count (length entries) n))) (let e : length entries - length entries ≡ 0 = omega arith in e)

-- one number more is the last one of its list
more_from : (entries : List ℕ) (j k : ℕ) → j < length entries → entries_from entries j k ≡ cond (eqb (get_or entries j 0) k) (entries_from entries (suc j) k ++ j ∷ []) (entries_from entries (suc j) k)
more_from entries j k l =
    ap (λ (n : ℕ). reverse (filter (λ i. eqb (get_or entries i 0) k) (count j n))) (let e : length entries - j ≡ suc (length entries - suc j) = omega (arith, l) in e)
    ∙ go (eqb (get_or entries j 0) k)
  where
    go : (b : Bool) → reverse (cond b (j ∷ filter (λ i. eqb (get_or entries i 0) k) (count (suc j) (length entries - suc j))) (filter (λ i. eqb (get_or entries i 0) k) (count (suc j) (length entries - suc j))))
        ≡ cond b (entries_from entries (suc j) k ++ j ∷ []) (entries_from entries (suc j) k)
    go true = reverse_cons j (filter (λ i. eqb (get_or entries i 0) k) (count (suc j) (length entries - suc j)))
    go false = refl

-- all of them
all_from : (entries : List ℕ) (k : ℕ) → entries_from entries 0 k ≡ with_entry entries k
all_from entries k = ap (λ (n : ℕ). reverse (filter (λ i. eqb (get_or entries i 0) k) (count 0 n))) (let e : length entries - 0 ≡ length entries = omega arith in e)

pub lists_many : (lists : List (Vec ℕ)) (g : ℕ → List ℕ) (n : ℕ) → lists_in lists ≡ map g (count 0 n) → length lists ≡ n
lists_many lists g n e = sym (length-map lists (λ (l : Vec ℕ). l.items)) ∙ (ap length e ∙ (length-map (count 0 n) g ∙ length_count 0 n))

-- no list has a number yet
pub lists_none : (entries : List ℕ) (k n : ℕ) → replicate n [] ≡ map (entries_from entries (length entries)) (count k n)
lists_none entries k zero = refl
lists_none entries k (suc n) =
    ap (λ (l : List ℕ). l ∷ replicate n []) (sym (none_from entries k))
    ∙ ap (λ (ls : List (List ℕ)). entries_from entries (length entries) k ∷ ls) (lists_none entries (suc k) n)

-- one number more, whose list is there
pub lists_more : (entries : List ℕ) (j n : ℕ) (lists : List (List ℕ)) (d : List ℕ) → j < length entries → get_or entries j 0 < n → lists ≡ map (entries_from entries (suc j)) (count 0 n)
    → set lists (get_or entries j 0) (get_or lists (get_or entries j 0) d ++ j ∷ []) ≡ map (entries_from entries j) (count 0 n)
lists_more entries j n lists d l there e = ext_get_or [] (set lists u more) (map (entries_from entries j) (count 0 n)) (length-set lists u more ∙ (many ∙ sym (many_of j))) entry
  where
    u : ℕ
    u = get_or entries j 0

    more : List ℕ
    more = get_or lists u d ++ j ∷ []

    many_of : (i : ℕ) → length (map (entries_from entries i) (count 0 n)) ≡ n
    many_of i = length-map (count 0 n) (entries_from entries i) ∙ length_count 0 n

    many : length lists ≡ n
    many = ap length e ∙ many_of (suc j)

    old_at : (k : ℕ) (f : List ℕ) → k < n → get_or lists k f ≡ entries_from entries (suc j) k
    old_at k f m = ap (λ (ls : List (List ℕ)). get_or ls k f) e ∙ (counted_at (entries_from entries (suc j)) 0 n k f m ∙ ap (entries_from entries (suc j)) (zero_plus k))

    new_at : (k : ℕ) → k < n → get_or (map (entries_from entries j) (count 0 n)) k [] ≡ entries_from entries j k
    new_at k m = counted_at (entries_from entries j) 0 n k [] m ∙ ap (entries_from entries j) (zero_plus k)

    entry : (k : ℕ) → k < length (set lists u more) → get_or (set lists u more) k [] ≡ get_or (map (entries_from entries j) (count 0 n)) k []
    entry k m =
        let low : k < n = (let a = length-set lists u more in omega (arith, m, a, many)) in
        elim (cases_eq k u) [
          | inl same ↦
              ap (λ (i : ℕ). get_or (set lists u more) i []) same
              ∙ (get_or-set_same lists u more [] (omega (arith, there, many))
              ∙ (ap (λ (x : List ℕ). x ++ j ∷ []) (old_at u d there)
              ∙ (sym (more_from entries j u l ∙ ap (λ (b : Bool). cond b (entries_from entries (suc j) u ++ j ∷ []) (entries_from entries (suc j) u)) (eq-eqb u u refl))
              ∙ (ap (entries_from entries j) (sym same) ∙ sym (new_at k low)))))
          | inr other ↦
              get_or-set_other lists u k more [] other
              ∙ (old_at k [] low
              ∙ (sym (more_from entries j k l ∙ ap (λ (b : Bool). cond b (entries_from entries (suc j) k ++ j ∷ []) (entries_from entries (suc j) k)) (ne_eqb u k (λ h. other (sym h))))
              ∙ sym (new_at k low)))
        ]

-- or isn't there
pub lists_same : (entries : List ℕ) (j n : ℕ) → j < length entries → n ≤ get_or entries j 0 → map (entries_from entries (suc j)) (count 0 n) ≡ map (entries_from entries j) (count 0 n)
lists_same entries j n l past = same_counted (entries_from entries (suc j)) (entries_from entries j) n (λ k m.
    sym (more_from entries j k l
    ∙ ap (λ (b : Bool). cond b (entries_from entries (suc j) k ++ j ∷ []) (entries_from entries (suc j) k)) (ne_eqb (get_or entries j 0) k (λ h. omega (arith, h, m, past)))))

pub lists_all : (entries : List ℕ) (n : ℕ) → map (entries_from entries 0) (count 0 n) ≡ map (with_entry entries) (count 0 n)
lists_all entries n = same_counted (entries_from entries 0) (with_entry entries) n (λ k m. all_from entries k)
