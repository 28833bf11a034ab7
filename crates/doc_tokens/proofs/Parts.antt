-- Parts of a list of bytes, while bytes behind them come and go, and bytes before them go.
use Rattle.std.proofs.Common.{ℕ, zero, suc, ◌≡◌, ◌+◌, ◌-◌, ◌<◌, ◌≤◌, List, [], ◌∷◌, ◌++◌, length, take, drop, map, set, get_or, refl, sym, ap, ◌∙◌, subst, append-nil, arith, length-append, take-append-drop}
use Rattle.std.specs.Prelude.{slice_range, sum_by, IsUtf8}
use lib.Seq.{paste}
use Rattle.std.proofs.lemmas.List.{map-append, take-take, drop-take, drop-drop, drop_at, take-append-le, drop-append-le, drop_all, take_all, length-take-le}
use Rattle.std.proofs.lemmas.List.Edits.{take-paste}
use Rattle.std.proofs.lemmas.List.Sums.{sum_by-cons, sum_by-append}
use Rattle.gcx_base.specs.Name.{IsNameBytes}
use Rattle.gcx_model.specs.Tree.{Start, Chars}
use Rattle.doc_tokens.specs.declared.lent.Lent.{Lent}
use Rattle.doc_tokens.specs.declared.lent.Lent.TheVariants as lents
use Rattle.doc_tokens.specs.Parts.{lent_token, LiesWithin, AllLieWithin, moved_by}
use Rattle.doc_tokens.specs.Kept.{lent_queue, part_len, AreKept}

-- ---- parts of lists with the same front

part_by_front : (bytes : List ℕ) (n a b : ℕ) → a ≤ b → b ≤ n → slice_range bytes a b ≡ drop a (take b (take n bytes))
part_by_front bytes n a b l m =
    let parts : b ≡ a + (b - a) = omega arith in
    sym (drop-take a (b - a) bytes) ∙ ap (λ k. drop a (take k bytes)) (sym parts) ∙ ap (drop a) (sym (take-take b n bytes m))

part_same : (xs ys : List ℕ) (n a b : ℕ) → take n xs ≡ take n ys → a ≤ b → b ≤ n → slice_range xs a b ≡ slice_range ys a b
part_same xs ys n a b e l m = part_by_front xs n a b l m ∙ ap (λ zs. drop a (take b zs)) e ∙ sym (part_by_front ys n a b l m)

is_part_same : (low n : ℕ) (xs ys : List ℕ) (x : Lent) → take n xs ≡ take n ys → LiesWithin low n xs x → LiesWithin low n ys x × (lent_token ys x ≡ lent_token xs x)
is_part_same low n xs ys (lents.Start a b) e p =
    let same = part_same xs ys n a b e p.1 p.2 in
    ((p.0, p.1, p.2, subst IsNameBytes same p.3), ap Start (sym same))
is_part_same low n xs ys (lents.Text a b) e p =
    let same = part_same xs ys n a b e p.1 p.2 in
    ((p.0, p.1, p.2, subst IsUtf8 same p.3), ap Chars (sym same))
is_part_same low n xs ys lents.End e p = (tt, refl)

pub parts_same : (low n : ℕ) (xs ys : List ℕ) (lent : List Lent) → take n xs ≡ take n ys → AllLieWithin low n xs lent → AllLieWithin low n ys lent
parts_same low n xs ys [] e p = tt
parts_same low n xs ys (x ∷ lent) e p = ((is_part_same low n xs ys x e p.0).0, parts_same low n xs ys lent e p.1)

pub tokens_same : (low n : ℕ) (xs ys : List ℕ) (lent : List Lent) → take n xs ≡ take n ys → AllLieWithin low n xs lent → map (lent_token ys) lent ≡ map (lent_token xs) lent
tokens_same low n xs ys [] e p = refl
tokens_same low n xs ys (x ∷ lent) e p = (λ i. (is_part_same low n xs ys x e p.0).1 i ∷ tokens_same low n xs ys lent e p.1 i)

-- ---- more and fewer of them, in wider bounds

is_part_wider : (low low' high high' : ℕ) (bytes : List ℕ) (x : Lent) → low' ≤ low → high ≤ high' → LiesWithin low high bytes x → LiesWithin low' high' bytes x
is_part_wider low low' high high' bytes (lents.Start a b) l h p =
    let from = p.0 in let to = p.2 in (omega arith, p.1, omega arith, p.3)
is_part_wider low low' high high' bytes (lents.Text a b) l h p =
    let from = p.0 in let to = p.2 in (omega arith, p.1, omega arith, p.3)
is_part_wider low low' high high' bytes lents.End l h p = tt

pub parts_wider : (low low' high high' : ℕ) (bytes : List ℕ) (lent : List Lent) → low' ≤ low → high ≤ high' → AllLieWithin low high bytes lent → AllLieWithin low' high' bytes lent
parts_wider low low' high high' bytes [] l h p = tt
parts_wider low low' high high' bytes (x ∷ lent) l h p = (is_part_wider low low' high high' bytes x l h p.0, parts_wider low low' high high' bytes lent l h p.1)

pub parts_append : (low high : ℕ) (bytes : List ℕ) (xs ys : List Lent) → AllLieWithin low high bytes xs → AllLieWithin low high bytes ys → AllLieWithin low high bytes (xs ++ ys)
parts_append low high bytes [] ys p q = q
parts_append low high bytes (x ∷ xs) ys p q = (p.0, parts_append low high bytes xs ys p.1 q)

pub parts_drop : (low high : ℕ) (bytes : List ℕ) (n : ℕ) (xs : List Lent) → AllLieWithin low high bytes xs → AllLieWithin low high bytes (drop n xs)
parts_drop low high bytes zero xs p = p
parts_drop low high bytes (suc n) [] p = tt
parts_drop low high bytes (suc n) (x ∷ xs) p = parts_drop low high bytes n xs p.1

-- ---- parts behind bytes that go

part_moved : (bytes : List ℕ) (k a b : ℕ) → k ≤ a → a ≤ b → slice_range (drop k bytes) (a - k) (b - k) ≡ slice_range bytes a b
part_moved bytes k a b l m =
    let back : k + (a - k) ≡ a = omega arith in
    let long : (b - k) - (a - k) ≡ b - a = omega arith in
    ap (take ((b - k) - (a - k))) (drop-drop (a - k) k bytes ∙ ap (λ n. drop n bytes) back) ∙ ap (λ n. take n (drop a bytes)) long

is_part_moved : (k high : ℕ) (bytes : List ℕ) (x : Lent) → LiesWithin k high bytes x → LiesWithin 0 (high - k) (drop k bytes) (moved_by k x) × (lent_token (drop k bytes) (moved_by k x) ≡ lent_token bytes x)
is_part_moved k high bytes (lents.Start a b) p =
    let same = part_moved bytes k a b p.0 p.1 in
    let from = p.0 in let order = p.1 in let to = p.2 in
    ((omega arith, omega arith, omega arith, subst IsNameBytes (sym same) p.3), ap Start same)
is_part_moved k high bytes (lents.Text a b) p =
    let same = part_moved bytes k a b p.0 p.1 in
    let from = p.0 in let order = p.1 in let to = p.2 in
    ((omega arith, omega arith, omega arith, subst IsUtf8 (sym same) p.3), ap Chars same)
is_part_moved k high bytes lents.End p = (tt, refl)

pub parts_moved : (k high : ℕ) (bytes : List ℕ) (lent : List Lent) → AllLieWithin k high bytes lent → AllLieWithin 0 (high - k) (drop k bytes) (map (moved_by k) lent)
parts_moved k high bytes [] p = tt
parts_moved k high bytes (x ∷ lent) p = ((is_part_moved k high bytes x p.0).0, parts_moved k high bytes lent p.1)

pub tokens_moved : (k high : ℕ) (bytes : List ℕ) (lent : List Lent) → AllLieWithin k high bytes lent → map (lent_token (drop k bytes)) (map (moved_by k) lent) ≡ map (lent_token bytes) lent
tokens_moved k high bytes [] p = refl
tokens_moved k high bytes (x ∷ lent) p = (λ i. (is_part_moved k high bytes x p.0).1 i ∷ tokens_moved k high bytes lent p.1 i)

part_long : (k high : ℕ) (bytes : List ℕ) (x : Lent) → LiesWithin k high bytes x → part_len (moved_by k x) ≡ part_len x
part_long k high bytes (lents.Start a b) p =
    let from = p.0 in
    let order = p.1 in
    let same : (b - k) - (a - k) ≡ b - a = omega arith in same
part_long k high bytes (lents.Text a b) p =
    let from = p.0 in
    let order = p.1 in
    let same : (b - k) - (a - k) ≡ b - a = omega arith in same
part_long k high bytes lents.End p = refl

-- they are as long as before
pub parts_long : (k high : ℕ) (bytes : List ℕ) (lent : List Lent) → AllLieWithin k high bytes lent → sum_by part_len (map (moved_by k) lent) ≡ sum_by part_len lent
parts_long k high bytes [] p = refl
parts_long k high bytes (x ∷ lent) p =
    sum_by-cons part_len (moved_by k x) (map (moved_by k) lent)
    ∙ (λ i. part_long k high bytes x p.0 i + parts_long k high bytes lent p.1 i)
    ∙ sym (sum_by-cons part_len x lent)

-- the last m, moved down over those from a place on
pub moved_down : {X : Type 0} (xs : List X) (from to m left : ℕ) → m ≡ length (drop to xs) → left ≡ from + m → from ≤ to → to ≤ length xs → take left (paste xs from (drop to xs) m) ≡ take from xs ++ drop to xs
moved_down xs from to m left e l o w =
    ap (λ k. take k (paste xs from (drop to xs) m)) l
    ∙ take-paste xs from (drop to xs) m (omega arith) (omega arith)
    ∙ ap (λ ys. take from xs ++ ys) (take_all m (drop to xs) (omega arith))

-- what stands before and after places between which all is gone
pub before_cut : {X : Type 0} (xs : List X) (a b : ℕ) → a ≤ length xs → take a (take a xs ++ drop b xs) ≡ take a xs
before_cut xs a b l =
    let long = length-take-le a xs l in
    take-append-le a (take a xs) (drop b xs) (omega arith) ∙ take-take a a xs (omega arith)

pub after_cut : {X : Type 0} (xs : List X) (a b : ℕ) → a ≤ length xs → drop a (take a xs ++ drop b xs) ≡ drop b xs
after_cut xs a b l = drop_at (take a xs) (drop b xs) a (length-take-le a xs l)

-- one token more, in a list that is changed where it stands
pub moved_more : (f : Lent → Lent) (xs : List Lent) (i : ℕ) (d : Lent) → i < length xs → set (map f (take i xs) ++ drop i xs) i (f (get_or (map f (take i xs) ++ drop i xs) i d)) ≡ map f (take (suc i) xs) ++ drop (suc i) xs
moved_more f [] i d l = absurd (omega arith)
moved_more f (x ∷ xs) zero d l = refl
moved_more f (x ∷ xs) (suc i) d l = ap (λ ys. f x ∷ ys) (moved_more f xs i d (omega arith))

pub moved_all : (f : Lent → Lent) (xs ys : List Lent) (i : ℕ) → length xs ≤ i → ys ≡ map f (take i xs) ++ drop i xs → ys ≡ map f xs
moved_all f xs ys i l e = e ∙ (λ j. map f (take_all i xs l j) ++ drop_all i xs l j) ∙ append-nil (map f xs)

-- ---- the queue with more behind

front_same : (bytes new : List ℕ) (base start : ℕ) → base ≤ start → take start new ≡ take start bytes → take base bytes ≡ take base new
front_same bytes new base start l e = sym (take-take base start bytes l) ∙ ap (take base) (sym e) ∙ take-take base start new l

-- all parts lie before the text at hand
pub kept_parts : (bytes : List ℕ) (lent : List Lent) (base start taken whole : ℕ) → AreKept bytes lent base start taken whole → AllLieWithin 0 start bytes lent
kept_parts bytes lent base start taken whole k =
    let based = k.based in
    subst (AllLieWithin 0 start bytes) (take-append-drop whole lent)
    (parts_append 0 start bytes (take whole lent) (drop whole lent) (parts_wider 0 0 base start bytes (take whole lent) (omega arith) based k.parts) (parts_wider base 0 start start bytes (drop whole lent) (omega arith) (omega arith) k.behind))

-- bytes and tokens that may come behind these
pub record MayCome (bytes : List ℕ) (start : ℕ) (new : List ℕ) (more : List Lent) (next : ℕ) : Type 0 where
  pub same : take start new ≡ take start bytes
  pub on : start ≤ next
  pub within : next ≤ length new
  pub utf8 : IsUtf8 (drop next new)
  pub parts : AllLieWithin start next new more
  pub long : next ≡ start + sum_by part_len more

pub kept_more : (bytes new : List ℕ) (lent more : List Lent) (base start next taken whole : ℕ) → AreKept bytes lent base start taken whole → MayCome bytes start new more next → AreKept new (lent ++ more) base next taken whole
kept_more bytes new lent more base start next taken whole k c =
    let based = k.based in
    let on = c.on in
    let enough = k.enough in
    let front : take whole (lent ++ more) ≡ take whole lent = take-append-le whole lent more enough in
    record {
      based = omega arith;
      within = c.within;
      utf8 = c.utf8;
      few = k.few;
      enough = omega (arith, length-append lent more);
      parts = subst (AllLieWithin 0 base new) (sym front) (parts_same 0 base bytes new (take whole lent) (front_same bytes new base start based c.same) k.parts);
      behind = subst (AllLieWithin base next new) (sym (drop-append-le whole lent more enough))
          (parts_append base next new (drop whole lent) more (parts_wider base base start next new (drop whole lent) (omega arith) on (parts_same base start bytes new (drop whole lent) (sym c.same) k.behind)) (parts_wider start base next next new more based (omega arith) c.parts));
      full_whole = k.full_whole ∙ ap (sum_by part_len) (sym front);
      full = c.long ∙ ap (λ n. n + sum_by part_len more) k.full ∙ sym (sum_by-append part_len lent more);
      settled = k.settled;
    }

pub queue_more : (bytes new : List ℕ) (lent more : List Lent) (base start next taken whole : ℕ) → AreKept bytes lent base start taken whole → MayCome bytes start new more next
    → lent_queue new (lent ++ more) next taken whole ≡ record { run = drop next new; tokens = map (lent_token bytes) (drop taken (take whole lent)); pending = map (lent_token bytes) (drop whole lent) ++ map (lent_token new) more }
queue_more bytes new lent more base start next taken whole k c =
    let first = parts_drop 0 base bytes taken (take whole lent) k.parts in
    let tokens : map (lent_token new) (drop taken (take whole (lent ++ more))) ≡ map (lent_token bytes) (drop taken (take whole lent)) =
    ap (λ l. map (lent_token new) (drop taken l)) (take-append-le whole lent more k.enough)
    ∙ tokens_same 0 base bytes new (drop taken (take whole lent)) (front_same bytes new base start k.based c.same) first in
    let pending : map (lent_token new) (drop whole (lent ++ more)) ≡ map (lent_token bytes) (drop whole lent) ++ map (lent_token new) more =
    ap (map (lent_token new)) (drop-append-le whole lent more k.enough)
    ∙ map-append (lent_token new) (drop whole lent) more
    ∙ ap (λ l. l ++ map (lent_token new) more) (tokens_same base start bytes new (drop whole lent) (sym c.same) k.behind) in
    (λ i. record { run = drop next new; tokens = tokens i; pending = pending i })
