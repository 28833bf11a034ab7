-- One item more of a body that is read from the left.
use Rattle.std.proofs.Common.{ℕ, zero, suc, ◌≡◌, ◌+◌, ◌<◌, List, [], ◌∷◌, ◌++◌, map, length, take, get_or, refl, sym, ap, ◌∙◌, arith, append_assoc, append-nil}
use Rattle.std.proofs.lemmas.List.{map_more}
use Rattle.gcx_model.specs.declared.item.Item.{Item}
use Rattle.gcx_model.specs.Core.{ItemTree, BodyTree}
use Rattle.gcx_model.specs.Cores.{Good}
use Rattle.gcx_model.specs.Variables.{Var, straight_list, fsa_list}
use Rattle.gcx_model.specs.ItemView.{body_of, item_tree}
use Rattle.var_tree.specs.Loops.{Loop, item_loops, loops}
use Rattle.var_tree.specs.declared.VarFacts.{VarFacts}
use Rattle.var_tree.specs.Facts.{Facts, facts_of, with_loops, next_facts, facts_at}
use Rattle.var_tree.proofs.Growing.{table, each_var}
use Rattle.var_tree.proofs.Kept.{kept, kept_all}

pub with_more : (known : List Facts) (ls ms : List Loop) → with_loops known (ls ++ ms) ≡ with_loops (with_loops known ls) ms
with_more known [] ms = refl
with_more known (l ∷ ls) ms = with_more (known ++ next_facts l (facts_at known l.parent) ∷ []) ls ms

loops_end : (is : List ItemTree) (i : ItemTree) (u : ℕ) → loops (body_of (is ++ i ∷ [])) u ≡ loops (body_of is) u ++ item_loops i u
loops_end [] i u = append-nil (item_loops i u)
loops_end (j ∷ is) i u = ap (λ ls. item_loops j u ++ ls) (loops_end is i u) ∙ sym (append_assoc (item_loops j u) (loops (body_of is) u) (item_loops i u))

-- the loop of a body so far
pub read_more : (known old new : List Facts) (xs : List Item) (i u : ℕ) (x : Item) → i < length xs → x ≡ get_or xs i x → known ≡ with_loops old (loops (body_of (map item_tree (take i xs))) u) →
    new ≡ with_loops known (item_loops (item_tree x) u) → new ≡ with_loops old (loops (body_of (map item_tree (take (i + 1) xs))) u)
read_more known old new xs i u x h e so_far put =
    put ∙ (ap (λ fs. with_loops fs (item_loops (item_tree x) u)) so_far
    ∙ (sym (with_more old (loops (body_of (map item_tree (take i xs))) u) (item_loops (item_tree x) u))
    ∙ ap (with_loops old) (sym (loops_end (map item_tree (take i xs)) (item_tree x) u)
    ∙ ap (λ ts. loops (body_of ts) u) (sym (map_more item_tree xs i x h ∙ ap (λ y. map item_tree (take i xs) ++ item_tree y ∷ []) (sym e))))))

pub read_two : (old now new : List Facts) (a b : BodyTree) (u : ℕ) → now ≡ with_loops old (loops a u) → new ≡ with_loops now (loops b u) → new ≡ with_loops old (loops a u ++ loops b u)
read_two old now new a b u e h = h ∙ (ap (λ fs. with_loops fs (loops b u)) e ∙ sym (with_more old (loops a u) (loops b u)))

pub known_at : (known : List VarFacts) (x k : ℕ) (d : VarFacts) → x ≡ suc k → k < length known → facts_of (get_or known k d) ≡ facts_at (map facts_of known) x
known_at known x k d e h = by known k h ∙ ap (facts_at (map facts_of known)) (sym e)
  where
    by : (fs : List VarFacts) (j : ℕ) → j < length fs → facts_of (get_or fs j d) ≡ facts_at (map facts_of fs) (suc j)
    by [] j g = absurd (omega arith)
    by (f ∷ fs) zero g = refl
    by (f ∷ fs) (suc j) g = by fs j (omega arith)

pub straight_is : (core : BodyTree) → Good core → (known : List VarFacts) → map facts_of known ≡ with_loops [] (loops core 0) → map (λ (f : VarFacts). f.straight) known ≡ straight_list core
straight_is core g known e =
    straight_of known ∙ (ap (map (λ (f : Facts). f.straight)) (e ∙ kept_all core) ∙ (straight_kept (table core) ∙ sym (each_var (λ (v : Var). v.straight) core g)))
  where
    straight_of : (fs : List VarFacts) → map (λ (f : VarFacts). f.straight) fs ≡ map (λ (f : Facts). f.straight) (map facts_of fs)
    straight_of [] = refl
    straight_of (f ∷ fs) = ap (λ bs. f.straight ∷ bs) (straight_of fs)

    straight_kept : (T : List Var) → map (λ (f : Facts). f.straight) (map kept T) ≡ map (λ (v : Var). v.straight) T
    straight_kept [] = refl
    straight_kept (v ∷ T) = ap (λ bs. v.straight ∷ bs) (straight_kept T)

pub fsa_is : (core : BodyTree) → Good core → (known : List VarFacts) → map facts_of known ≡ with_loops [] (loops core 0) → map (λ (f : VarFacts). f.fsa.0) known ≡ fsa_list core
fsa_is core g known e =
    fsa_of known ∙ (ap (map (λ (f : Facts). f.fsa)) (e ∙ kept_all core) ∙ (fsa_kept (table core) ∙ sym (each_var (λ (v : Var). v.base) core g)))
  where
    fsa_of : (fs : List VarFacts) → map (λ (f : VarFacts). f.fsa.0) fs ≡ map (λ (f : Facts). f.fsa) (map facts_of fs)
    fsa_of [] = refl
    fsa_of (f ∷ fs) = ap (λ bs. f.fsa.0 ∷ bs) (fsa_of fs)

    fsa_kept : (T : List Var) → map (λ (f : Facts). f.fsa) (map kept T) ≡ map (λ (v : Var). v.base) T
    fsa_kept [] = refl
    fsa_kept (v ∷ T) = ap (λ bs. v.base ∷ bs) (fsa_kept T)
