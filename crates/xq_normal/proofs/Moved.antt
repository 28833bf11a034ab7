-- Moving each If of the query as loops of single steps gives the core.
use Rattle.std.proofs.Common.{◌≡◌, ℕ, suc, ◌+◌, ◌<◌, List, [], ◌∷◌, ◌++◌, map, take, get_or, length, Option, Some, None, refl, sym, ◌∙◌, ap}
use Rattle.std.proofs.Math.Path.{fun_ext}
use Rattle.gcx_base.specs.declared.steps.Step.{Step}
use Rattle.gcx_model.specs.declared.query.Clause.{Clause}
use Rattle.gcx_model.specs.Written.{start_tag, end_tag}
use Rattle.gcx_model.specs.Query as query
use Rattle.gcx_model.specs.Query.{ExprTree, ExprTrees}
use Rattle.gcx_model.specs.Core.{Write, Copy, For, BodyTree, Nil, Then}
use Rattle.gcx_model.specs.Normal.{join, one, Names, named, start_var, normal_cond, branch, nest, normal_clauses, guarded, loops, normal_expr, normal_exprs}
use Rattle.xq_normal.specs.Raw.{raw_filtered, raw_expr, raw_exprs, moved, moved_item}
use Rattle.gcx_model.specs.declared.item.Item.{Item}
use Rattle.gcx_model.specs.ItemView.{item_tree, body_of}
use Rattle.std.proofs.lemmas.List.{map_more}
use Rattle.xq_normal.proofs.Behind.{join-nil, join_assoc, body_in, body_of-append}

pub moved-join : (a b : BodyTree) → moved (join a b) ≡ join (moved a) (moved b)
moved-join Nil b = refl
moved-join (Then i a) b = ap (λ d. join (moved_item i) d) (moved-join a b) ∙ sym (join_assoc (moved_item i) (moved a) (moved b))

moved-nest : (y : ℕ) (ss : List Step) (k : ℕ) (inner : ℕ → BodyTree) → moved (nest y ss k inner) ≡ nest y ss k (λ z. moved (inner z))
moved-nest y [] k inner = refl
moved-nest y (s ∷ ss) k inner = ap (λ d. one (For k y s d)) (moved-nest k ss (suc k) inner)

moved-clauses : (cs : List Clause) (names : Names) (k : ℕ) (inner : Names → ℕ → BodyTree) → moved (normal_clauses cs names k inner) ≡ normal_clauses cs names k (λ ns j. moved (inner ns j))
moved-clauses [] names k inner = refl
moved-clauses (c ∷ cs) names k inner =
    moved-nest (start_var names c.path.start) c.path.steps k (λ y. normal_clauses cs (named names c.var y) (k + length c.path.steps) inner)
    ∙ ap (λ (f : ℕ → BodyTree). nest (start_var names c.path.start) c.path.steps k f) (fun_ext (λ y. moved-clauses cs (named names c.var y) (k + length c.path.steps) inner))

moved-filtered : (f : Option query.QueryCondTree) (names : Names) (d : BodyTree) → moved (raw_filtered f names d) ≡ guarded f names (moved d)
moved-filtered None names d = refl
moved-filtered (Some c) names d = join-nil (branch (normal_cond c names) (moved d) Nil)

mutual
  pub moved-expr : (e : ExprTree) (names : Names) (k : ℕ) → moved (raw_expr e names k) ≡ normal_expr e names k
  moved-expr query.Empty names k = refl
  moved-expr (query.Seq es) names k = moved-exprs es names k
  moved-expr (query.Elem name es) names k =
      ap (λ d. Then (Write (start_tag name)) d) (moved-join (raw_exprs es names k) (one (Write (end_tag name))) ∙ ap (λ d. join d (one (Write (end_tag name)))) (moved-exprs es names k))
  moved-expr (query.QueryPath path) names k = moved-nest (start_var names path.start) path.steps k (λ y. one (Copy y))
  moved-expr (query.QueryFor cs f e) names k =
      moved-clauses cs names k (λ inner j. raw_filtered f inner (raw_expr e inner j))
      ∙ ap (λ (g : Names → ℕ → BodyTree). normal_clauses cs names k g)
      (fun_ext (λ ns. fun_ext (λ j. moved-filtered f ns (raw_expr e ns j) ∙ ap (λ d. guarded f ns d) (moved-expr e ns j))))
  moved-expr (query.QueryIf c a b) names k =
      join-nil (branch (normal_cond c names) (moved (raw_expr a names k)) (moved (raw_expr b names (k + loops a))))
      ∙ (ap (λ d. branch (normal_cond c names) d (moved (raw_expr b names (k + loops a)))) (moved-expr a names k)
      ∙ ap (λ d. branch (normal_cond c names) (normal_expr a names k) d) (moved-expr b names (k + loops a)))

  pub moved-exprs : (es : ExprTrees) (names : Names) (k : ℕ) → moved (raw_exprs es names k) ≡ normal_exprs es names k
  moved-exprs query.no_expr names k = refl
  moved-exprs (query.more_exprs e es) names k =
      moved-join (raw_expr e names k) (raw_exprs es names (k + loops e))
      ∙ (ap (λ d. join d (moved (raw_exprs es names (k + loops e)))) (moved-expr e names k)
      ∙ ap (λ d. join (normal_expr e names k) d) (moved-exprs es names (k + loops e)))

-- ---- Item by item

pub moved_more : (xs : List Item) (k : ℕ) (x : Item) → k < length xs → x ≡ get_or xs k x → moved (body_in (take (k + 1) xs)) ≡ join (moved (body_in (take k xs))) (moved_item (item_tree x))
moved_more xs k x h e =
    ap (λ is. moved (body_of is)) (map_more item_tree xs k x h ∙ ap (λ y. map item_tree (take k xs) ++ item_tree y ∷ []) (sym e))
    ∙ (ap moved (body_of-append (map item_tree (take k xs)) (item_tree x ∷ []))
    ∙ (moved-join (body_in (take k xs)) (one (item_tree x))
    ∙ ap (λ d. join (moved (body_in (take k xs))) d) (join-nil (moved_item (item_tree x)))))
