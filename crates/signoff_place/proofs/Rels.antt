-- The steps from its fsa to each variable are those of the variable tree.
use Rattle.std.proofs.Common.{ℕ, zero, suc, ◌≡◌, ◌+◌, ◌<◌, Bool, List, [], ◌∷◌, ◌++◌, map, length, take, get_or, refl, sym, ap, ◌∙◌, append_assoc, append-nil, arith}
use Rattle.std.proofs.lemmas.List.{map-append}
use Rattle.gcx_base.specs.declared.steps.Step.{Step}
use Rattle.gcx_model.specs.declared.plan.VarRow.{VarRow}
use Rattle.gcx_model.specs.Core.{BodyTree}
use Rattle.gcx_model.specs.Cores.{Good}
use Rattle.gcx_model.specs.PlanView.{var_row_tree}
use Rattle.gcx_model.specs.Variables.{Var, var0, var_rows, straight_list}
use Rattle.var_tree.specs.Loops.{Loop, loops}
use Rattle.var_tree.proofs.Tables.{look, look_map}
use Rattle.var_tree.proofs.Growing.{grown, loop_var, table, each_var}
use Rattle.proj_tree.proofs.Falls.{row_of, rows_are}
use Rattle.signoff_place.specs.Spread.{rel_next, with_rels}

-- ---- One row more

-- the first rows with their flags
abbrev pub rels_to : List (List Step) → List VarRow → List Bool → ℕ → List (List Step)
rels_to start rows flags i = with_rels start (map var_row_tree (take i rows)) (take i flags)

rels_step : (start : List (List Step)) (rows : List VarRow) (flags : List Bool) (i : ℕ) (d : VarRow) (e : Bool) → i < length rows → i < length flags →
    rels_to start rows flags (suc i) ≡ rels_to start rows flags i ++ rel_next (get_or flags i e) (get_or (rels_to start rows flags i) (get_or rows i d).parent.0 []) (get_or rows i d).step ∷ []
rels_step start [] flags i d e h g = absurd (omega arith)
rels_step start (r ∷ rows) [] i d e h g = absurd (omega arith)
rels_step start (r ∷ rows) (c ∷ flags) zero d e h g = refl
rels_step start (r ∷ rows) (c ∷ flags) (suc i) d e h g = rels_step (start ++ rel_next c (get_or start r.parent.0 []) r.step ∷ []) rows flags i d e (omega arith) (omega arith)

pub rels_more : (start before now : List (List Step)) (rows : List VarRow) (flags : List Bool) (i : ℕ) (x : VarRow) (flag other : Bool) (rel : List Step) → i < length rows → length flags ≡ length rows → x ≡ get_or rows i x → flag ≡ get_or flags i other →
    before ≡ rels_to start rows flags i → rel ≡ rel_next flag (get_or before x.parent.0 []) x.step → now ≡ before ++ rel ∷ [] → now ≡ rels_to start rows flags (i + 1)
rels_more start before now rows flags i x flag other rel h l e f b r n =
    n ∙ (ap (λ (s : List Step). before ++ s ∷ []) r ∙ ((λ k. b k ++ rel_next (f k) (get_or (b k) (e k).parent.0 []) (e k).step ∷ [])
    ∙ (sym (rels_step start rows flags i x other h (omega arith)) ∙ ap (rels_to start rows flags) next)))
  where
    next : suc i ≡ i + 1
    next = omega arith

-- ---- The variable tree

abbrev pub rel_of : Var → List Step
rel_of v = v.rel

abbrev pub straight_of : Var → Bool
straight_of v = v.straight

-- the variables of these loops, behind those of the table
abbrev pub added : List Var → List Loop → List Var
added T [] = []
added T (l ∷ ls) = loop_var l (look var0 T l.parent) ∷ added (T ++ loop_var l (look var0 T l.parent) ∷ []) ls

grown_added : (T : List Var) (ls : List Loop) → grown T ls ≡ T ++ added T ls
grown_added T [] = sym (append-nil T)
grown_added T (l ∷ ls) = grown_added (T ++ loop_var l (look var0 T l.parent) ∷ []) ls ∙ append_assoc T (loop_var l (look var0 T l.parent) ∷ []) (added (T ++ loop_var l (look var0 T l.parent) ∷ []) ls)

pub rel_known : (T : List Var) (x : ℕ) → get_or ([] ∷ map rel_of T) x [] ≡ rel_of (look var0 T x)
rel_known T zero = refl
rel_known T (suc k) = look_map rel_of var0 T (suc k)

with_added : (T : List Var) (ls : List Loop) → with_rels ([] ∷ map rel_of T) (map row_of ls) (map straight_of (added T ls)) ≡ [] ∷ map rel_of (grown T ls)
with_added T [] = refl
with_added T (l ∷ ls) =
    ap (λ (rs : List (List Step)). with_rels ([] ∷ rs) (map row_of ls) (map straight_of (added (T ++ loop_var l (look var0 T l.parent) ∷ []) ls)))
    (ap (λ (p : List Step). map rel_of T ++ rel_next (loop_var l (look var0 T l.parent)).straight p l.step ∷ []) (rel_known T l.parent) ∙ sym (map-append rel_of T (loop_var l (look var0 T l.parent) ∷ [])))
    ∙ with_added (T ++ loop_var l (look var0 T l.parent) ∷ []) ls

pub rels_are : (core : BodyTree) → Good core → with_rels ([] ∷ []) (var_rows core) (straight_list core) ≡ [] ∷ map rel_of (table core)
rels_are core g =
    (λ i. with_rels ([] ∷ []) (rows_are core 0 i) ((each_var straight_of core g ∙ ap (map straight_of) (grown_added [] (loops core 0))) i)) ∙ with_added [] (loops core 0)
