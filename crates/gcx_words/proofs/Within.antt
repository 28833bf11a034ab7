-- The numbers of a command lie within their bounds.
use Rattle.std.proofs.Common.{◌≡◌, ℕ, ◌+◌, ◌≤◌, Bool, true, false, cond, List, [], ◌∷◌, length, Option, Some, None, refl, sym, subst, arith, nat_le, codes}
use Rattle.std.specs.Prelude.{option_and_then, option_map, ◌&&◌, ◌%◌, nat_eq, IfSome}
use Rattle.clap.specs.Words.{Row, Text, all_of, first_of}
use Rattle.gcx_words.specs.Rows.{any_number_at, between, flag_at, found_by, number_at}
use Rattle.gcx_words.specs.Words.{app_by, as_run, command_of, found_as, many_with, named, numbers_of, pair_of, read, run_with}
use Rattle.gcx_words.specs.Pairs.{are_apart, paired}
use Rattle.gcx_words.specs.Within.{IsWithin}
use Rattle.gcx_words.specs.declared.command.Command.{Command}
use Rattle.gcx_words.specs.declared.command.Command.TheVariants.{Run, Whole, Explain, Peak, Gen, Selfrun, Many, Check}
use Rattle.gcx_words.specs.declared.command.CommandName.{CommandName}
use Rattle.gcx_words.specs.declared.command.CommandName.TheVariants as name

-- what a function of an option answers comes of what the option has
and_then_some : {A B : Type 0} (f : A → Option B) (o : Option A) (y : B) → option_and_then f o ≡ Some y → (x : A) × (o ≡ Some x) × (f x ≡ Some y)
and_then_some f None y e = let no : ⊥ = cc in absurd no
and_then_some f (Some x) y e = (x, refl, e)

map_some : {A B : Type 0} (f : A → B) (o : Option A) (y : B) → option_map f o ≡ Some y → (x : A) × (o ≡ Some x) × (f x ≡ y)
map_some f None y e = let no : ⊥ = cc in absurd no
map_some f (Some x) y e = let same : f x ≡ y = cc in (x, refl, same)

between_some : (low high n m : ℕ) → between low high n ≡ Some m → (low ≤ m) × (m ≤ high)
between_some low high n m e = go (nat_le low n) (nat_le n high) refl refl e
  where
    go : (a b : Bool) → nat_le low n ≡ a → nat_le n high ≡ b → cond (a && b) (Some n) None ≡ Some m → (low ≤ m) × (m ≤ high)
    go true true p q e = let same : n ≡ m = cc in subst (λ (k : ℕ). (low ≤ k) × (k ≤ high)) same (grind (arith, p), grind (arith, q))
    go true false p q e = let no : ⊥ = cc in absurd no
    go false b p q e = let no : ⊥ = cc in absurd no

number_some : (low high : ℕ) (id : Text) (rows : List Row) (m : ℕ) → number_at low high id rows ≡ Some m → (low ≤ m) × (m ≤ high)
number_some low high id rows m e = let h = and_then_some (between low high) (any_number_at id rows) m e in between_some low high h.0 m h.2

run_with_within : (trace : Bool) (ahead : Option ℕ) (query document : Text) (c : Command) → ((m : ℕ) → ahead ≡ Some m → (1 ≤ m) × (m ≤ 1000)) → run_with trace ahead query document ≡ Some c → IsWithin c
run_with_within trace None query document c bound e =
    let same : Run trace 1 query document ≡ c = cc in
    subst IsWithin same (omega arith, omega arith, λ _. refl)
run_with_within true (Some k) query document c bound e = let no : ⊥ = cc in absurd no
run_with_within false (Some k) query document c bound e =
    let same : Run false k query document ≡ c = cc in
    let b = bound k refl in
    subst IsWithin same (b.0, b.1, λ t. let no : ⊥ = cc in absurd no)

as_run_within : (rows : List Row) (c : Command) → as_run rows ≡ Some c → IsWithin c
as_run_within rows c e =
    let trace = flag_at (codes "trace") rows in
    let ahead = number_at 1 1000 (codes "ahead") rows in
    let p = and_then_some (λ (p : Text × Text). run_with trace ahead p.0 p.1) (pair_of rows) c e in
    run_with_within trace ahead p.0.0 p.0.1 c (λ m is. number_some 1 1000 (codes "ahead") rows m is) p.2

numbers_of_within : (rows : List Row) (p : ℕ × ℕ) → numbers_of rows ≡ Some p → (p.0 ≤ 4294967295) × (1 ≤ p.1) × (p.1 ≤ 100000)
numbers_of_within rows p e =
    let s = and_then_some _ (number_at 0 4294967295 (codes "seed") rows) p e in
    let n = map_some (λ count. (s.0, count)) (number_at 1 100000 (codes "count") rows) p s.2 in
    let a = number_some 0 4294967295 (codes "seed") rows s.0 s.1 in
    let b = number_some 1 100000 (codes "count") rows n.0 n.1 in
    subst (λ (x : ℕ × ℕ). (x.0 ≤ 4294967295) × (1 ≤ x.1) × (x.1 ≤ 100000)) n.2 (a.1, b.0, b.1)

at_most : (m n : ℕ) → nat_le m n ≡ true → m ≤ n
at_most m n few = grind (arith, few)

-- of 32 words at most there are 16 pairs at most
paired_half : (words : List Text) → length (paired words) + length (paired words) ≤ length words
paired_half [] = omega arith
paired_half (query ∷ []) = omega arith
paired_half (query ∷ (out ∷ words)) = let h = paired_half words in omega (arith, h)

many_with_within : (document : Text) (words : List Text) (c : Command) → many_with document words ≡ Some c → IsWithin c
many_with_within document words c e = go (nat_eq (length words % 2) 0) (nat_le (length words) 32) (are_apart document (paired words)) refl refl refl e
  where
    go : (a b p : Bool) → nat_eq (length words % 2) 0 ≡ a → nat_le (length words) 32 ≡ b → are_apart document (paired words) ≡ p → cond ((a && b) && p) (Some (Many document (paired words))) None ≡ Some c → IsWithin c
    go true true true even few apart e =
        let same : Many document (paired words) ≡ c = cc in
        let half = paired_half words in
        let short = at_most (length words) 32 few in
        subst IsWithin same (omega (arith, half, short), apart)
    go true true false even few apart e = let no : ⊥ = cc in absurd no
    go true false p even few apart e = let no : ⊥ = cc in absurd no
    go false b p even few apart e = let no : ⊥ = cc in absurd no

found_within : (n : CommandName) (rows : List Row) (c : Command) → found_as n rows ≡ Some c → IsWithin c
found_within name.Run rows c e = as_run_within rows c e
found_within name.Whole rows c e = let h = map_some (λ p. Whole p.0 p.1) (pair_of rows) c e in subst IsWithin h.2 tt
found_within name.Explain rows c e = let h = map_some Explain (first_of (codes "query") rows) c e in subst IsWithin h.2 tt
found_within name.Peak rows c e = let h = map_some (λ p. Peak p.0 p.1) (pair_of rows) c e in subst IsWithin h.2 tt
found_within name.Gen rows c e =
    let h = map_some (λ p. Gen p.0 p.1) (numbers_of rows) c e in
    subst IsWithin h.2 (numbers_of_within rows h.0 h.1)
found_within name.Selfrun rows c e =
    let h = map_some (λ p. Selfrun p.0 p.1) (numbers_of rows) c e in
    subst IsWithin h.2 (numbers_of_within rows h.0 h.1)
found_within name.Many rows c e =
    let d = and_then_some (λ document. option_and_then (many_with document) (all_of (codes "pair") rows)) (first_of (codes "document") rows) c e in
    let w = and_then_some (many_with d.0) (all_of (codes "pair") rows) c d.2 in
    many_with_within d.0 w.0 c w.2
found_within name.Check rows c e =
    let p = and_then_some (λ (p : Text × Text). option_map (λ trace. Check p.0 p.1 trace) (first_of (codes "trace") rows)) (pair_of rows) c e in
    let t = map_some (λ trace. Check p.0.0 p.0.1 trace) (first_of (codes "trace") rows) c p.2 in
    subst IsWithin t.2 tt

read_within : (n : CommandName) (words : List Text) (c : Command) → read n words ≡ Some c → IsWithin c
read_within n words c e = let h = and_then_some (found_as n) (found_by (app_by n) words) c e in found_within n h.0 c h.2

-- of what is read under a name
pub if_within : (n : CommandName) (words : List Text) (o : Option Command) → o ≡ read n words → IfSome o IsWithin
if_within n words None is = tt
if_within n words (Some c) is = read_within n words c (sym is)

-- of what the words ask for
pub asked_within : (words : List Text) (c : Command) → command_of words ≡ Some c → IsWithin c
asked_within words c asked = let h = and_then_some (λ n. read n words) (named words) c asked in read_within h.0 words c h.2
