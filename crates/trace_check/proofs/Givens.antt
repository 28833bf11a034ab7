-- The matches of the variables, and roles given one behind another.
use Rattle.std.proofs.Common.{◌≡◌, ℕ, zero, suc, ◌<◌, List, [], ◌∷◌, ◌++◌, length, map, refl, sym, ◌∙◌, ap, arith}
use Rattle.std.specs.Prelude.{slice_index_or}
use Rattle.std.specs.List.{filter}
use Rattle.std.proofs.lemmas.Bool.{ne_eqb}
use Rattle.gcx_base.specs.declared.steps.Step.{Step}
use Rattle.gcx_model.specs.Core.{VarRowTree}
use Rattle.gcx_model.specs.Held.{paths_from}
use Rattle.gcx_model.specs.Paths.{hits}
use Rattle.gcx_model.specs.Tree.{Node, serial_of, Tree}
use Rattle.tree_laws.proofs.Lists.{filter_none, filter_same}
use Rattle.tree_laws.proofs.Matches.{Grown, Numbered, Numbered-low}
use Rattle.doc_tree.proofs.Steps.{hits-push}
use Rattle.doc_tree.specs.Sets.{stepped}
use Rattle.trace_check.specs.Reaching.{numbers_of}
use Rattle.trace_check.specs.Wanting.{matches_by, path_in, row_paths}
use Rattle.trace_check.proofs.Stepped.{rises}

-- a variable more
paths_push : (paths : List (List Step)) (rows : List VarRowTree) (r : VarRowTree)
    → paths_from paths (rows ++ r ∷ []) ≡ paths_from paths rows ++ (slice_index_or (paths_from paths rows) r.parent [] ++ r.step ∷ []) ∷ []
paths_push paths [] r = refl
paths_push paths (x ∷ rows) r = paths_push (paths ++ (slice_index_or paths x.parent [] ++ x.step ∷ []) ∷ []) rows r

map_push : {X Y : Type 0} (f : X → Y) (xs : List X) (x : X) → map f (xs ++ x ∷ []) ≡ map f xs ++ f x ∷ []
map_push f [] x = refl
map_push {X} {Y} f (y ∷ xs) x = ap (λ (l : List Y). f y ∷ l) (map_push f xs x)

-- a step from what a path hits
pub one_step : (C : Tree) → Grown C → (path : List Step) (s : Step) → numbers_of C (stepped s (hits 0 path)) ≡ numbers_of C (hits 0 (path ++ s ∷ []))
one_step C w path s = ap (map serial_of) (filter_same (stepped s (hits 0 path)) (hits 0 (path ++ s ∷ [])) C.nodes (λ m i. sym (hits-push 0 path s m (rises C w m i))))

-- the root alone
pub root_alone : (C : Tree) → Grown C → 0 < length C.nodes → numbers_of C (hits 0 []) ≡ 0 ∷ []
root_alone C w some = go C.nodes w.numbered some
  where
    go : (xs : List Node) → Numbered 0 xs → 0 < length xs → map serial_of (filter (hits 0 []) xs) ≡ 0 ∷ []
    go [] h l = absurd (omega (arith, l))
    go (x ∷ xs) h l =
        let first : serial_of x ≡ 0 = h.0 in
        let rest : filter (hits 0 []) xs ≡ [] = filter_none (hits 0 []) xs (λ m i. let low = Numbered-low 1 xs h.1 m i in ne_eqb (serial_of m) 0 (λ e. omega (arith, low, e))) in
        rw (first, rest) (ap (λ (n : ℕ). n ∷ []) first)

-- the matches of a variable, whether it is there or not
pub matches_of_var : (C : Tree) → Grown C → 0 < length C.nodes → (paths : List (List Step)) (x : ℕ) → slice_index_or (matches_by C paths) x (0 ∷ []) ≡ numbers_of C (hits 0 (path_in paths x))
matches_of_var C w some [] x = sym (root_alone C w some)
matches_of_var C w some (p ∷ paths) zero = refl
matches_of_var C w some (p ∷ paths) (suc x) = matches_of_var C w some paths x

pub matches_push : (C : Tree) → Grown C → (rows : List VarRowTree) (r : VarRowTree) (lists : List (List ℕ)) (found : List ℕ) → lists ≡ matches_by C (row_paths rows)
    → found ≡ numbers_of C (stepped r.step (hits 0 (path_in (row_paths rows) r.parent))) → lists ++ found ∷ [] ≡ matches_by C (row_paths (rows ++ r ∷ []))
matches_push C w rows r lists found e f =
    ap (λ (l : List (List ℕ)). l ++ found ∷ []) e
    ∙ (ap (λ (n : List ℕ). matches_by C (row_paths rows) ++ n ∷ []) (f ∙ one_step C w (path_in (row_paths rows) r.parent) r.step)
    ∙ sym (ap (matches_by C) (paths_push ([] ∷ []) rows r) ∙ map_push (λ (p : List Step). numbers_of C (hits 0 p)) (row_paths rows) (path_in (row_paths rows) r.parent ++ r.step ∷ [])))
