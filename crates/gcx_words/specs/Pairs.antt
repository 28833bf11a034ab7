-- The words of `many` behind DOC: a QUERY and an OUT in turn (this project's).
use Rattle.std.specs.Prelude.{◌%◌, ℕ, Bool, true, not, ◌&&◌, nat_eq, nat_le, List, [], ◌∷◌, length, codes}
use Rattle.std.specs.Str.{bytes_eq}
use Rattle.gcx_words.specs.declared.pairs.Pair.{Pair}

-- words in pairs; one left over makes no pair
abbrev pub paired : List (List ℕ) → List Pair
paired [] = []
paired (query ∷ []) = []
paired (query ∷ (out ∷ words)) = record { query = query; out = out } ∷ paired words

-- there are 32 words at most, none of them left over
abbrev pub are_paired : List (List ℕ) → Bool
are_paired words = nat_eq (length words % 2) 0 && nat_le (length words) 32

-- the OUT is none of these OUTs
abbrev pub differ_from : List Pair → (out : List ℕ) → Bool
differ_from [] out = true
differ_from (p ∷ ps) out = not (bytes_eq p.out out) && differ_from ps out

-- it is none of these QUERYs
abbrev pub is_no_query : List Pair → (out : List ℕ) → Bool
is_no_query [] out = true
is_no_query (p ∷ ps) out = not (bytes_eq p.query out) && is_no_query ps out

-- the OUT is a name of its own beside DOC and the QUERYs
abbrev pub is_apart : (document : List ℕ) → List Pair → (out : List ℕ) → Bool
is_apart document ps out = not (bytes_eq out (codes "-")) && (not (bytes_eq out document) && is_no_query ps out)

-- so is each of these, and they are distinct
abbrev pub each_apart : (document : List ℕ) → (all : List Pair) → List Pair → Bool
each_apart document all [] = true
each_apart document all (p ∷ ps) = is_apart document all p.out && (differ_from ps p.out && each_apart document all ps)

-- each OUT is a name of its own: not `-`, not DOC, no QUERY, and no other OUT
abbrev pub are_apart : (document : List ℕ) → List Pair → Bool
are_apart document ps = each_apart document ps ps
