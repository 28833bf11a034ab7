-- The variable tree as a table that grows with each loop.
use Rattle.std.proofs.Common.{ℕ, zero, suc, ◌≡◌, ◌+◌, List, [], ◌∷◌, ◌++◌, map, length, refl, sym, ap, ◌∙◌, subst, arith}
use Rattle.std.proofs.lemmas.List.{length-append}
use Rattle.gcx_model.specs.Core.{ItemTree, Write, Copy, For, If, SignOff, BodyTree, Nil, Then}
use Rattle.gcx_model.specs.Members.{count}
use Rattle.gcx_model.specs.Cores.{Good}
use Rattle.gcx_model.specs.Variables.{Var, var0, var_of, set_var, tree_item, tree_body, var_tree, item_vars, vars}
use Rattle.var_tree.specs.Loops.{Loop, item_loops, loops}
use Rattle.var_tree.proofs.Tables.{Counts, counts, counts_left, counts_right, look, look_more, all_entries}

abbrev pub loop_var : Loop → (parent : Var) → Var
loop_var l p = var_of l.outer l.var l.parent l.step p

-- the variables of these loops too
abbrev pub grown : List Var → List Loop → List Var
grown T [] = T
grown T (l ∷ ls) = grown (T ++ loop_var l (look var0 T l.parent) ∷ []) ls

pub grown_more : (T : List Var) (ls ms : List Loop) → grown T (ls ++ ms) ≡ grown (grown T ls) ms
grown_more T [] ms = refl
grown_more T (l ∷ ls) ms = grown_more (T ++ loop_var l (look var0 T l.parent) ∷ []) ls ms

pub grown_length : (T : List Var) (ls : List Loop) → length (grown T ls) ≡ length T + length ls
grown_length T [] = omega arith
grown_length T (l ∷ ls) = grown_length (T ++ loop_var l (look var0 T l.parent) ∷ []) ls ∙ omega (arith, length-append T (loop_var l (look var0 T l.parent) ∷ []))

mutual
  item_number : (i : ItemTree) (u : ℕ) → length (item_loops i u) ≡ length (item_vars i)
  item_number (Write b) u = refl
  item_number (Copy x) u = refl
  item_number (For x y s d) u = ap suc (number d x)
  item_number (If c a b) u = omega (arith, length-append (loops a u) (loops b u), length-append (vars a) (vars b), number a u, number b u)
  item_number (SignOff o) u = refl

  -- there are as many loops as variables
  pub number : (d : BodyTree) (u : ℕ) → length (loops d u) ≡ length (vars d)
  number Nil u = refl
  number (Then i d) u = omega (arith, length-append (item_loops i u) (loops d u), length-append (item_vars i) (vars d), item_number i u, number d u)

mutual
  grown_item : (i : ItemTree) (u : ℕ) (T : List Var) → Counts (suc (length T)) (item_vars i) → tree_item i u (look var0 T) ≡ look var0 (grown T (item_loops i u))
  grown_item (Write b) u T c = refl
  grown_item (Copy x) u T c = refl
  grown_item (For x y s d) u T c =
      let v : Var = var_of u x y s (look var0 T y) in
      let one : set_var (look var0 T) x v ≡ look var0 (T ++ v ∷ []) = ap (λ n. set_var (look var0 T) n v) c.0 ∙ (λ i z. look_more var0 T v z i) in
      ap (tree_body d x) one ∙ grown_body d x (T ++ v ∷ []) (let e : suc (suc (length T)) ≡ suc (length (T ++ v ∷ [])) = omega (arith, length-append T (v ∷ [])) in subst (λ (n : ℕ). Counts n (vars d)) e c.1)
  grown_item (If c a b) u T k =
      ap (tree_body b u) (grown_body a u T (counts_left (suc (length T)) (vars a) (vars b) k))
      ∙ (grown_body b u (grown T (loops a u)) (counts_right (suc (length T)) (suc (length (grown T (loops a u)))) (vars a) (vars b) (omega (arith, grown_length T (loops a u), number a u)) k)
      ∙ ap (look var0) (sym (grown_more T (loops a u) (loops b u))))
  grown_item (SignOff o) u T c = refl

  pub grown_body : (d : BodyTree) (u : ℕ) (T : List Var) → Counts (suc (length T)) (vars d) → tree_body d u (look var0 T) ≡ look var0 (grown T (loops d u))
  grown_body Nil u T c = refl
  grown_body (Then i d) u T c =
      ap (tree_body d u) (grown_item i u T (counts_left (suc (length T)) (item_vars i) (vars d) c))
      ∙ (grown_body d u (grown T (item_loops i u)) (counts_right (suc (length T)) (suc (length (grown T (item_loops i u)))) (item_vars i) (vars d) (omega (arith, grown_length T (item_loops i u), item_number i u)) c)
      ∙ ap (look var0) (sym (grown_more T (item_loops i u) (loops d u))))

-- the table of a core
abbrev pub table : BodyTree → List Var
table core = grown [] (loops core 0)

empty_table : (y : ℕ) → var0 ≡ look var0 [] y
empty_table zero = refl
empty_table (suc k) = refl

pub tree_is : (core : BodyTree) → Good core → var_tree core ≡ look var0 (table core)
tree_is core g = ap (tree_body core 0) (λ i y. empty_table y i) ∙ grown_body core 0 [] (counts 1 (vars core) g.numbered)

pub table_length : (core : BodyTree) → length (table core) ≡ length (vars core)
table_length core = grown_length [] (loops core 0) ∙ omega (arith, number core 0)

-- what is told of each variable
pub each_var : {X : Type 0} (f : Var → X) (core : BodyTree) → Good core → map (λ x. f (var_tree core x)) (vars core) ≡ map f (table core)
each_var f core g =
    (λ i. map (λ x. f (tree_is core g i x)) (numbers i)) ∙ all_entries f var0 (table core)
  where
    numbers : vars core ≡ count 1 (length (table core))
    numbers = g.numbered ∙ ap (count 1) (sym (table_length core))
