-- Each role of a core stands at exactly one node of its projection tree, on the role's path.
use Rattle.std.proofs.Common.{ℕ, zero, suc, ◌≡◌, ◌+◌, ◌<◌, ◌≤◌, ◌==◌, Bool, true, false, cond, ◌&&◌, List, [], ◌∷◌, ◌++◌, map, length, get_or, refl, sym, ap, ◌∙◌, subst, arith, append_assoc, append-nil, Some}
use Rattle.std.specs.List.{filter}
use Rattle.std.proofs.lemmas.List.{length-append, length-map}
use Rattle.std.proofs.lemmas.List.Elements.{filter-append}
use Rattle.std.proofs.lemmas.Bool.{eq-eqb, ne_eqb}
use Rattle.gcx_base.specs.declared.steps.Step.{Step}
use Rattle.gcx_model.specs.Core.{BodyTree, VarRowTree, RoleRowTree}
use Rattle.gcx_model.specs.Cores.{Good}
use Rattle.gcx_model.specs.Members.{count}
use Rattle.gcx_model.specs.Placed.{is_own_kind, own_number, row_at}
use Rattle.gcx_model.specs.Roles.{roles_of}
use Rattle.gcx_model.specs.Variables.{Var, var0, var_rows, path_in, vars}
use Rattle.var_tree.specs.Loops.{Loop, loops}
use Rattle.var_tree.proofs.Growing.{grown, loop_var, table, tree_is, number, table_length}
use Rattle.var_tree.proofs.Tables.{Counts, look, look_more, look_map}
use Rattle.proj_tree.specs.Projection.{NodeTree, root_node, var_nodes, step_nodes, tail_nodes, role_nodes, other_nodes, projected, above, some_step, node_paths, RolePath, with_path, with_paths, role_paths, is_of, HasRolePaths}
use Rattle.proj_tree.proofs.Falls.{row_of, rows_are}
use Rattle.proj_tree.proofs.Growth.{rows_number}
use Rattle.proj_tree.proofs.Owned.{own_vars, roles_own, counted_own}
use Rattle.proj_tree.proofs.Scope.{AllFit, roles_fit}

-- ---- The roles at nodes behind those whose paths are known

abbrev pub path_of : List (List Step) → NodeTree → List Step
path_of P n = above P n.parent ++ some_step n.step

abbrev pub new_paths : List (List Step) → List NodeTree → List (List Step)
new_paths P [] = []
new_paths P (n ∷ ns) = path_of P n ∷ new_paths (P ++ path_of P n ∷ []) ns

abbrev pub roles_at : List (List Step) → List NodeTree → List RolePath
roles_at P [] = []
roles_at P (n ∷ ns) = with_path n.role (path_of P n) ++ roles_at (P ++ path_of P n ∷ []) ns

paths_new : (P : List (List Step)) (ns : List NodeTree) → node_paths P ns ≡ P ++ new_paths P ns
paths_new P [] = sym (append-nil P)
paths_new P (n ∷ ns) = paths_new (P ++ path_of P n ∷ []) ns ∙ append_assoc P (path_of P n ∷ []) (new_paths (P ++ path_of P n ∷ []) ns)

new_length : (P : List (List Step)) (ns : List NodeTree) → length (new_paths P ns) ≡ length ns
new_length P [] = refl
new_length P (n ∷ ns) = ap suc (new_length (P ++ path_of P n ∷ []) ns)

paired : (P : List (List Step)) (ns : List NodeTree) → with_paths ns (new_paths P ns) ≡ roles_at P ns
paired P [] = refl
paired P (n ∷ ns) = ap (λ (rs : List RolePath). with_path n.role (path_of P n) ++ rs) (paired (P ++ path_of P n ∷ []) ns)

paths_are : (ns : List NodeTree) → role_paths ns ≡ roles_at [] ns
paths_are ns = ap (with_paths ns) (paths_new [] ns) ∙ paired [] ns

roles_two : (P : List (List Step)) (ns ms : List NodeTree) → roles_at P (ns ++ ms) ≡ roles_at P ns ++ roles_at (P ++ new_paths P ns) ms
roles_two P [] ms = ap (λ (Q : List (List Step)). roles_at Q ms) (sym (append-nil P))
roles_two P (n ∷ ns) ms =
    ap (λ (rs : List RolePath). with_path n.role (path_of P n) ++ rs)
    (roles_two (P ++ path_of P n ∷ []) ns ms
    ∙ ap (λ (Q : List (List Step)). roles_at (P ++ path_of P n ∷ []) ns ++ roles_at Q ms) (append_assoc P (path_of P n ∷ []) (new_paths (P ++ path_of P n ∷ []) ns)))
    ∙ sym (append_assoc (with_path n.role (path_of P n)) (roles_at (P ++ path_of P n ∷ []) ns) (roles_at (P ++ new_paths P (n ∷ ns)) ms))

-- ---- Tails

last_path : (P : List (List Step)) (p : List Step) → get_or (P ++ p ∷ []) (length P) [] ≡ p
last_path [] p = refl
last_path (q ∷ P) p = last_path P p

first_path : (Q R : List (List Step)) (x : ℕ) → x < length Q → get_or (Q ++ R) x [] ≡ get_or Q x []
first_path [] R x h = absurd (omega arith)
first_path (q ∷ Q) R zero h = refl
first_path (q ∷ Q) R (suc x) h = first_path Q R x (omega arith)

steps_at : (P : List (List Step)) (from next role : ℕ) (s : Step) (rest : List Step) → next ≡ length P →
    roles_at P (step_nodes from next role (s ∷ rest)) ≡ record { role = role; path = get_or P from [] ++ s ∷ rest } ∷ []
steps_at P from next role s [] e = refl
steps_at P from next role s (t ∷ rest) e =
    let p : List Step = get_or P from [] ++ s ∷ [] in
    let here : get_or (P ++ p ∷ []) next [] ≡ p = ap (λ (n : ℕ). get_or (P ++ p ∷ []) n []) e ∙ last_path P p in
    steps_at (P ++ p ∷ []) next (suc next) role t rest (omega (arith, length-append P (p ∷ [])))
    ∙ ap (λ (q : List Step). record { role = role; path = q } ∷ []) (ap (λ (q : List Step). q ++ t ∷ rest) here ∙ append_assoc (get_or P from []) (s ∷ []) (t ∷ rest))

tail_at : (P : List (List Step)) (from next role : ℕ) (tail : List Step) → next ≡ length P → roles_at P (tail_nodes from next role tail) ≡ record { role = role; path = get_or P from [] ++ tail } ∷ []
tail_at P from next role [] e = refl
tail_at P from next role (s ∷ rest) e = steps_at P from next role s rest e

-- ---- The roles with their paths, where F tells those of the variables

abbrev pub entry : (ℕ → List Step) → ℕ → RoleRowTree → RolePath
entry F k r = record { role = k; path = F r.var ++ r.tail }

-- those that are Own, and the others
abbrev pub owns : (ℕ → List Step) → ℕ → List RoleRowTree → List RolePath
owns F k [] = []
owns F k (r ∷ rs) = cond (is_own_kind r.kind) (entry F k r ∷ owns F (suc k) rs) (owns F (suc k) rs)

abbrev pub others : (ℕ → List Step) → ℕ → List RoleRowTree → List RolePath
others F k [] = []
others F k (r ∷ rs) = cond (is_own_kind r.kind) (others F (suc k) rs) (entry F k r ∷ others F (suc k) rs)

others_at : (F : ℕ → List Step) (Q R : List (List Step)) (next k : ℕ) (rs : List RoleRowTree) → ((x : ℕ) → x < length Q → get_or Q x [] ≡ F x) → AllFit (length Q) rs →
    next ≡ length (Q ++ R) → roles_at (Q ++ R) (other_nodes next k rs) ≡ others F k rs
others_at F Q R next k [] known fit e = refl
others_at F Q R next k (r ∷ rs) known fit e =
    roles_two (Q ++ R) (role_nodes next k r) (other_nodes (next + length (role_nodes next k r)) (suc k) rs) ∙ go (is_own_kind r.kind) (λ S n g. others_at F Q S n (suc k) rs known fit.1 g)
  where
    go : (b : Bool) → ((S : List (List Step)) (n : ℕ) → n ≡ length (Q ++ S) → roles_at (Q ++ S) (other_nodes n (suc k) rs) ≡ others F (suc k) rs) →
        roles_at (Q ++ R) (cond b [] (tail_nodes r.var next k r.tail)) ++ roles_at ((Q ++ R) ++ new_paths (Q ++ R) (cond b [] (tail_nodes r.var next k r.tail))) (other_nodes (next + length (cond b [] (tail_nodes r.var next k r.tail))) (suc k) rs)
        ≡ cond b (others F (suc k) rs) (entry F k r ∷ others F (suc k) rs)
    go true rest = ap (λ (P : List (List Step)). roles_at P (other_nodes (next + 0) (suc k) rs)) (append-nil (Q ++ R)) ∙ rest R (next + 0) (omega arith)
    go false rest =
        let ns : List NodeTree = tail_nodes r.var next k r.tail in
        let S : List (List Step) = R ++ new_paths (Q ++ R) ns in
        let one : roles_at (Q ++ R) ns ≡ entry F k r ∷ [] =
        tail_at (Q ++ R) r.var next k r.tail e ∙ ap (λ (q : List Step). record { role = k; path = q ++ r.tail } ∷ []) (first_path Q R r.var fit.0.below ∙ known r.var fit.0.below) in
        let more : (Q ++ R) ++ new_paths (Q ++ R) ns ≡ Q ++ S = append_assoc Q R (new_paths (Q ++ R) ns) in
        let two : next + length ns ≡ length (Q ++ S) = omega (arith, length-append Q R, length-append Q S, length-append R (new_paths (Q ++ R) ns), new_length (Q ++ R) ns) in
        let behind : roles_at ((Q ++ R) ++ new_paths (Q ++ R) ns) (other_nodes (next + length ns) (suc k) rs) ≡ others F (suc k) rs =
        ap (λ (P : List (List Step)). roles_at P (other_nodes (next + length ns) (suc k) rs)) more ∙ rest S (next + length ns) two in
        (λ i. one i ++ behind i)

-- ---- The variables

look_end : (T : List Var) (v : Var) → look var0 (T ++ v ∷ []) (suc (length T)) ≡ v
look_end T v = sym (look_more var0 T v (suc (length T))) ∙ ap (λ (b : Bool). cond b v (look var0 T (suc (length T)))) (eq-eqb (suc (length T)) (suc (length T)) refl)

look_kept : (T : List Var) (ls : List Loop) (y : ℕ) → y ≤ length T → look var0 (grown T ls) y ≡ look var0 T y
look_kept T [] y h = refl
look_kept T (l ∷ ls) y h =
    let v : Var = loop_var l (look var0 T l.parent) in
    look_kept (T ++ v ∷ []) ls y (omega (arith, length-append T (v ∷ [])))
    ∙ (sym (look_more var0 T v y) ∙ ap (λ (b : Bool). cond b v (look var0 T y)) (ne_eqb y (suc (length T)) (λ e. omega arith)))

look_new : (T : List Var) (v : Var) (ls : List Loop) → look var0 (grown (T ++ v ∷ []) ls) (suc (length T)) ≡ v
look_new T v ls = look_kept (T ++ v ∷ []) ls (suc (length T)) (omega (arith, length-append T (v ∷ []))) ∙ look_end T v

abbrev pub path_in_var : Var → List Step
path_in_var v = v.path

-- the paths of the variables from 0
abbrev pub known_paths : List Var → List (List Step)
known_paths T = [] ∷ map path_in_var T

path_known : (T : List Var) (x : ℕ) → get_or (known_paths T) x [] ≡ (look var0 T x).path
path_known T zero = refl
path_known T (suc k) = look_map path_in_var var0 T (suc k)

more_known : (T : List Var) (v : Var) → known_paths T ++ v.path ∷ [] ≡ known_paths (T ++ v ∷ [])
more_known T v = ap (λ (ps : List (List Step)). [] ∷ ps) (go T)
  where
    go : (T : List Var) → map path_in_var T ++ v.path ∷ [] ≡ map path_in_var (T ++ v ∷ [])
    go [] = refl
    go (w ∷ T) = ap (λ (ps : List (List Step)). w.path ∷ ps) (go T)

loop_path : (T : List Var) (l : Loop) → get_or (known_paths T) l.parent [] ++ l.step ∷ [] ≡ (loop_var l (look var0 T l.parent)).path
loop_path T l = ap (λ (p : List Step). p ++ l.step ∷ []) (path_known T l.parent)

next_known : (T : List Var) (l : Loop) → known_paths T ++ (get_or (known_paths T) l.parent [] ++ l.step ∷ []) ∷ [] ≡ known_paths (T ++ loop_var l (look var0 T l.parent) ∷ [])
next_known T l = ap (λ (p : List Step). known_paths T ++ p ∷ []) (loop_path T l) ∙ more_known T (loop_var l (look var0 T l.parent))

abbrev pub var_entry : (own : ℕ → ℕ) → (ℕ → List Step) → ℕ → RolePath
var_entry own F x = record { role = own x; path = F x }

vars_at : (own : ℕ → ℕ) (T : List Var) (ls : List Loop) →
    roles_at (known_paths T) (var_nodes own (suc (length T)) (map row_of ls)) ≡ map (var_entry own (λ x. (look var0 (grown T ls) x).path)) (count (suc (length T)) (length ls))
vars_at own T [] = refl
vars_at own T (l ∷ ls) =
    let v : Var = loop_var l (look var0 T l.parent) in
    let n : suc (length T) ≡ length (T ++ v ∷ []) = omega (arith, length-append T (v ∷ [])) in
    let path : get_or (known_paths T) l.parent [] ++ l.step ∷ [] ≡ (look var0 (grown (T ++ v ∷ []) ls) (suc (length T))).path = loop_path T l ∙ ap path_in_var (sym (look_new T v ls)) in
    let rest : roles_at (known_paths T ++ (get_or (known_paths T) l.parent [] ++ l.step ∷ []) ∷ []) (var_nodes own (suc (suc (length T))) (map row_of ls))
    ≡ map (var_entry own (λ x. (look var0 (grown (T ++ v ∷ []) ls) x).path)) (count (suc (suc (length T))) (length ls)) =
    ap (λ (P : List (List Step)). roles_at P (var_nodes own (suc (suc (length T))) (map row_of ls))) (next_known T l)
    ∙ (ap (λ (m : ℕ). roles_at (known_paths (T ++ v ∷ [])) (var_nodes own (suc m) (map row_of ls))) n
    ∙ (vars_at own (T ++ v ∷ []) ls ∙ ap (λ (m : ℕ). map (var_entry own (λ x. (look var0 (grown (T ++ v ∷ []) ls) x).path)) (count (suc m) (length ls))) (sym n))) in
    (λ i. record { role = own (suc (length T)); path = path i } ∷ rest i)

paths_at : (own : ℕ → ℕ) (x : ℕ) (T : List Var) (ls : List Loop) → known_paths T ++ new_paths (known_paths T) (var_nodes own x (map row_of ls)) ≡ known_paths (grown T ls)
paths_at own x T [] = append-nil (known_paths T)
paths_at own x T (l ∷ ls) =
    let v : Var = loop_var l (look var0 T l.parent) in
    let p : List Step = get_or (known_paths T) l.parent [] ++ l.step ∷ [] in
    sym (append_assoc (known_paths T) (p ∷ []) (new_paths (known_paths T ++ p ∷ []) (var_nodes own (suc x) (map row_of ls))))
    ∙ (ap (λ (P : List (List Step)). P ++ new_paths P (var_nodes own (suc x) (map row_of ls))) (next_known T l) ∙ paths_at own (suc x) (T ++ v ∷ []) ls)

-- ---- The nodes of the variables, in the order of their roles

module _ (F : ℕ → List Step) (f : ℕ → ℕ) where
  owns_are : (rs : List RoleRowTree) (j k n : ℕ) → Counts j (own_vars rs) → AllFit n rs → ((x : ℕ) → j ≤ x → f x ≡ own_number x k rs) → map (var_entry f F) (own_vars rs) ≡ owns F k rs
  owns_are [] j k n c fit same = refl
  owns_are (r ∷ rs) j k n c fit same = go (is_own_kind r.kind) refl c same (owns_are rs)
    where
      go : (b : Bool) → is_own_kind r.kind ≡ b → Counts j (cond b (r.var ∷ own_vars rs) (own_vars rs)) → ((x : ℕ) → j ≤ x → f x ≡ cond (b && (r.var == x)) k (own_number x (suc k) rs)) →
          ((j k n : ℕ) → Counts j (own_vars rs) → AllFit n rs → ((x : ℕ) → j ≤ x → f x ≡ own_number x k rs) → map (var_entry f F) (own_vars rs) ≡ owns F k rs) →
          map (var_entry f F) (cond b (r.var ∷ own_vars rs) (own_vars rs)) ≡ cond b (entry F k r ∷ owns F (suc k) rs) (owns F (suc k) rs)
      go true kind c same rest =
          let here : r.var ≡ j = c.0 in
          let first : f r.var ≡ k = same r.var (omega arith) ∙ ap (λ (b : Bool). cond b k (own_number r.var (suc k) rs)) (eq-eqb r.var r.var refl) in
          let path : F r.var ≡ F r.var ++ r.tail = sym (append-nil (F r.var)) ∙ ap (λ (t : List Step). F r.var ++ t) (sym (fit.0.bare kind)) in
          let more : map (var_entry f F) (own_vars rs) ≡ owns F (suc k) rs =
          rest (suc j) (suc k) n c.1 fit.1 (λ x h. same x (omega arith) ∙ ap (λ (b : Bool). cond b k (own_number x (suc k) rs)) (ne_eqb r.var x (λ e. omega arith))) in
          (λ i. record { role = first i; path = path i } ∷ more i)
      go false kind c same rest = rest j (suc k) n c fit.1 same

-- ---- One role

module _ (F : ℕ → List Step) (role : ℕ) where
  passed : (k : ℕ) (r : RoleRowTree) (ps : List RolePath) → (k ≡ role → ⊥) → filter (is_of role) (entry F k r ∷ ps) ≡ filter (is_of role) ps
  passed k r ps h = ap (λ (b : Bool). cond b (entry F k r ∷ filter (is_of role) ps) (filter (is_of role) ps)) (ne_eqb k role h)

  here_it_is : (k : ℕ) (r : RoleRowTree) (ps : List RolePath) → k ≡ role → filter (is_of role) (entry F k r ∷ ps) ≡ entry F k r ∷ filter (is_of role) ps
  here_it_is k r ps h = ap (λ (b : Bool). cond b (entry F k r ∷ filter (is_of role) ps) (filter (is_of role) ps)) (eq-eqb k role h)

  none_own : (k : ℕ) (rs : List RoleRowTree) → role < k → filter (is_of role) (owns F k rs) ≡ []
  none_own k [] h = refl
  none_own k (r ∷ rs) h = go (is_own_kind r.kind) (none_own (suc k) rs (omega arith))
    where
      go : (b : Bool) → filter (is_of role) (owns F (suc k) rs) ≡ [] → filter (is_of role) (cond b (entry F k r ∷ owns F (suc k) rs) (owns F (suc k) rs)) ≡ []
      go true e = passed k r (owns F (suc k) rs) (λ g. omega arith) ∙ e
      go false e = e

  none_other : (k : ℕ) (rs : List RoleRowTree) → role < k → filter (is_of role) (others F k rs) ≡ []
  none_other k [] h = refl
  none_other k (r ∷ rs) h = go (is_own_kind r.kind) (none_other (suc k) rs (omega arith))
    where
      go : (b : Bool) → filter (is_of role) (others F (suc k) rs) ≡ [] → filter (is_of role) (cond b (others F (suc k) rs) (entry F k r ∷ others F (suc k) rs)) ≡ []
      go true e = e
      go false e = passed k r (others F (suc k) rs) (λ g. omega arith) ∙ e

  one_of : (k j : ℕ) (rs : List RoleRowTree) (row : RoleRowTree) → role ≡ k + j → row_at rs j ≡ Some row →
      filter (is_of role) (owns F k rs) ++ filter (is_of role) (others F k rs) ≡ entry F role row ∷ []
  one_of k j [] row e at = absurd (cc)
  one_of k zero (r ∷ rs) row e at = go (is_own_kind r.kind) ∙ (λ i. entry F (number i) (same i) ∷ [])
    where
      number : k ≡ role
      number = omega arith

      same : r ≡ row
      same = cc

      go : (b : Bool) →
          filter (is_of role) (cond b (entry F k r ∷ owns F (suc k) rs) (owns F (suc k) rs)) ++ filter (is_of role) (cond b (others F (suc k) rs) (entry F k r ∷ others F (suc k) rs)) ≡ entry F k r ∷ []
      go true = (λ i. here_it_is k r (owns F (suc k) rs) number i ++ none_other (suc k) rs (omega arith) i) ∙ (λ i. entry F k r ∷ (none_own (suc k) rs (omega arith) i ++ []))
      go false = (λ i. none_own (suc k) rs (omega arith) i ++ here_it_is k r (others F (suc k) rs) number i) ∙ (λ i. entry F k r ∷ none_other (suc k) rs (omega arith) i)
  one_of k (suc j) (r ∷ rs) row e at = go (is_own_kind r.kind) ∙ one_of (suc k) j rs row (omega arith) at
    where
      go : (b : Bool) →
          filter (is_of role) (cond b (entry F k r ∷ owns F (suc k) rs) (owns F (suc k) rs)) ++ filter (is_of role) (cond b (others F (suc k) rs) (entry F k r ∷ others F (suc k) rs))
          ≡ filter (is_of role) (owns F (suc k) rs) ++ filter (is_of role) (others F (suc k) rs)
      go true = ap (λ (ps : List RolePath). ps ++ filter (is_of role) (others F (suc k) rs)) (passed k r (owns F (suc k) rs) (λ g. omega arith))
      go false = ap (λ (ps : List RolePath). filter (is_of role) (owns F (suc k) rs) ++ ps) (passed k r (others F (suc k) rs) (λ g. omega arith))

-- ---- The whole tree

module _ (core : BodyTree) (g : Good core) where
  abbrev number_of : ℕ → ℕ
  number_of x = own_number x 0 (roles_of core)

  on_path : (x : ℕ) → (look var0 (table core) x).path ≡ path_in core x
  on_path x = ap (λ (G : ℕ → Var). (G x).path) (sym (tree_is core g))

  all_paths : (λ (x : ℕ). (look var0 (table core) x).path) ≡ path_in core
  all_paths = (λ i x. on_path x i)

  counted_vars : count 1 (length (loops core 0)) ≡ vars core
  counted_vars = ap (count 1) (number core 0) ∙ sym g.numbered

  var_parts : record { role = number_of 0; path = [] } ∷ roles_at (known_paths []) (var_nodes number_of 1 (var_rows core)) ≡ owns (path_in core) 0 (roles_of core)
  var_parts =
      let root : [] ≡ path_in core 0 = on_path 0 in
      let rest : roles_at (known_paths []) (var_nodes number_of 1 (var_rows core)) ≡ map (var_entry number_of (path_in core)) (vars core) =
      ap (λ (rs : List VarRowTree). roles_at (known_paths []) (var_nodes number_of 1 rs)) (rows_are core 0)
      ∙ (vars_at number_of [] (loops core 0)
      ∙ ((λ i. map (var_entry number_of (all_paths i)) (count 1 (length (loops core 0)))) ∙ ap (map (var_entry number_of (path_in core))) counted_vars)) in
      let whole : record { role = number_of 0; path = [] } ∷ roles_at (known_paths []) (var_nodes number_of 1 (var_rows core)) ≡ map (var_entry number_of (path_in core)) (0 ∷ vars core) =
      (λ i. record { role = number_of 0; path = root i } ∷ rest i) in
      whole ∙ (ap (map (var_entry number_of (path_in core))) (sym (roles_own core))
      ∙ owns_are (path_in core) number_of (roles_of core) 0 0 (suc (length (vars core))) (counted_own core g) (roles_fit core g) (λ x h. refl))

  var_paths : known_paths [] ++ new_paths (known_paths []) (var_nodes number_of 1 (var_rows core)) ≡ known_paths (table core)
  var_paths = ap (λ (rs : List VarRowTree). known_paths [] ++ new_paths (known_paths []) (var_nodes number_of 1 rs)) (rows_are core 0) ∙ paths_at number_of 1 [] (loops core 0)

  paths_length : suc (length (vars core)) ≡ length (known_paths (table core))
  paths_length = omega (arith, length-map (table core) path_in_var, table_length core)

  other_parts : roles_at (known_paths (table core)) (other_nodes (suc (length (var_rows core))) 0 (roles_of core)) ≡ others (path_in core) 0 (roles_of core)
  other_parts =
      ap (λ (P : List (List Step)). roles_at P (other_nodes (suc (length (var_rows core))) 0 (roles_of core))) (sym (append-nil (known_paths (table core))))
      ∙ others_at (path_in core) (known_paths (table core)) [] (suc (length (var_rows core))) 0 (roles_of core) (λ x h. path_known (table core) x ∙ on_path x)
      (subst (λ (n : ℕ). AllFit n (roles_of core)) paths_length (roles_fit core g)) (ap suc (rows_number core) ∙ (paths_length ∙ ap length (sym (append-nil (known_paths (table core))))))

  both_parts : role_paths (projected core) ≡ owns (path_in core) 0 (roles_of core) ++ others (path_in core) 0 (roles_of core)
  both_parts =
      let ns : List NodeTree = root_node (number_of 0) ∷ var_nodes number_of 1 (var_rows core) in
      let ms : List NodeTree = other_nodes (suc (length (var_rows core))) 0 (roles_of core) in
      let behind : roles_at ([] ++ new_paths [] ns) ms ≡ others (path_in core) 0 (roles_of core) = ap (λ (P : List (List Step)). roles_at P ms) var_paths ∙ other_parts in
      paths_are (projected core) ∙ (roles_two [] ns ms ∙ (λ i. var_parts i ++ behind i))

  pub role_stands : HasRolePaths core (projected core)
  role_stands r row at = ap (filter (is_of r)) both_parts ∙ (filter-append (is_of r) (owns (path_in core) 0 (roles_of core)) (others (path_in core) 0 (roles_of core)) ∙ one_of (path_in core) r 0 r (roles_of core) row (omega arith) at)
