-- A comparison: what its rows and the list that is kept tell.
use Rattle.std.proofs.Common.{◌≡◌, ℕ, Bool, true, false, cond, not, min, ltb, List, Option, Some, None, length, option_map, refl, sym, ◌∙◌, ap, subst, inl, inr, arith}
use Rattle.std.specs.Prelude.{slice_get, slice_set}
use Rattle.std.specs.FinMap.{get}
use Rattle.std.proofs.lemmas.Bool.{false≢true}
use Rattle.std.proofs.lemmas.Bool.Decides.{nat_tests}
use Rattle.gcx_base.specs.declared.rel.Rel.TheVariants.{Eq}
use Rattle.gcx_base.specs.declared.steps.Step.{Step}
use Rattle.gcx_model.specs.Tree.{serial_of, Tree, is_closed}
use Rattle.gcx_model.specs.Members.{In}
use Rattle.gcx_model.specs.Core.{OperandTree, CondTree, Compare}
use Rattle.gcx_model.specs.CondView.{operand_tree}
use Rattle.gcx_model.specs.Roles.{cond_rows}
use Rattle.gcx_model.specs.Truth.{Env, settle, truth}
use Rattle.gcx_model.specs.declared.cond.Operand.{Operand}
use Rattle.gcx_model.specs.declared.truth.Truth.{Truth}
use Rattle.pass_laws.specs.ValueLists.{BothCome, IsFoundIn, IsListOf}
use Rattle.pass_laws.proofs.Stay.{lists_tell}
use Rattle.buf_tree.specs.Shape.{Cell}
use Rattle.buf_tree.specs.View.{View}
use Rattle.cond_eval.specs.Bindings.{Bindings}
use Rattle.cond_eval.specs.Asking.{Asked, IsBound, MayAskOver}
use Rattle.cond_eval.specs.Comparing.{IsNodeRow, KeepsMatches, comparison}
use Rattle.cond_eval.specs.Reads.{NodeAt}
use Rattle.cond_eval.proofs.Comparisons.{shut_told}
use Rattle.cond_eval.proofs.Telling.{IsPlace, in_left, in_right, keeps_left, keeps_right, node_row, side_of}
use Rattle.cond_memo.specs.Taking.{AsksPath}
use Rattle.join_index.specs.declared.equality.Side.{Side}
use Rattle.join_index.specs.declared.equality.Listed.{Listed}
use Rattle.join_index.specs.declared.equality.Equality.{Equality}
use Rattle.join_index.specs.Equalities.{inner_of, path_of_side}
use Rattle.join_index.specs.Index.{GoesAfterQuestion, IndexView, IsIndex, IsLooked, IsOuterClosed, IsReached, TellsTruthOf, outer_of, raised, same_serial, serial_bound, serial_kept, variable_of}
use Rattle.join_index.specs.Lookups.{FindsIn, FoundIs, IsOf, KeepsList, KeepsSeen, MayFindIn}
use Rattle.join_index.proofs.Finding.{kept_as}
use Rattle.join_index.proofs.Looking.{kept_looked, set_looked}
use Rattle.join_index.proofs.Listing.{IsList, at_in, changes_one, moved_one, outer_moved, set_has, set_lists}

-- ---- the two sides, whichever the outer one is

module _ (l r : Side) where
  abbrev pair : CondTree
  pair = Compare (path_of_side l) Eq (path_of_side r)

  outer_row : (b : Bool) → In (side_of (cond b l r).var.0 (cond b l r).steps) (cond_rows pair)
  outer_row true = in_left l.var.0 l.steps Eq (path_of_side r)
  outer_row false = in_right r.var.0 r.steps Eq (path_of_side l)

  inner_row : (b : Bool) → In (side_of (cond b r l).var.0 (cond b r l).steps) (cond_rows pair)
  inner_row true = in_right r.var.0 r.steps Eq (path_of_side l)
  inner_row false = in_left l.var.0 l.steps Eq (path_of_side r)

  module _ (rows : List Cell) (bound : Bindings) (P : Tree) (env : Env) (a : Asked rows bound pair P env) where
    outer_keeps : (b : Bool) → KeepsMatches P a.keep (env (cond b l r).var.0) (cond b l r).steps
    outer_keeps true = keeps_left rows bound P env l.var.0 l.steps Eq (path_of_side r) a
    outer_keeps false = keeps_right rows bound P env r.var.0 r.steps Eq (path_of_side l) a

    inner_keeps : (b : Bool) → KeepsMatches P a.keep (env (cond b r l).var.0) (cond b r l).steps
    inner_keeps true = keeps_right rows bound P env r.var.0 r.steps Eq (path_of_side l) a
    inner_keeps false = keeps_left rows bound P env l.var.0 l.steps Eq (path_of_side r) a

  comes : (P : Tree) (env : Env) (b found : Bool) → BothCome P env (cond b l r).var.0 (cond b r l).var.0 (cond b l r).steps (cond b r l).steps found
      → truth pair env P ≡ settle found (is_closed P (env (cond b r l).var.0))
  comes P env true found both = both.0
  comes P env false found both = both.1

side_var : (b : Bool) (l r : Side) → (cond b l r).var.0 ≡ cond b l.var.0 r.var.0
side_var true l r = refl
side_var false l r = refl

smaller : (m n : ℕ) → cond (ltb m n) m n ≡ min m n
smaller m n = grind (arith, nat_tests)

outer_is : (q : Equality) → (outer_of q).var.0 ≡ min q.left.var.0 q.right.var.0
outer_is q = side_var (ltb q.left.var.0 q.right.var.0) q.left q.right ∙ smaller q.left.var.0 q.right.var.0

-- ---- the list of the outer path

module _ (v : View) (bound : Bindings) (q : Equality) where
  abbrev c : CondTree
  c = Compare (path_of_side q.left) Eq (path_of_side q.right)

  abbrev b : Bool
  b = ltb q.left.var.0 q.right.var.0

  -- the node of the outer one, of the inner one
  module _ (P : Tree) (env : Env) (a : Asked v.rows bound c P env) where
    pub at_outer : (p : ℕ) → IsPlace bound (outer_of q).var.0 p → NodeAt v.rows P a.keep p (env (outer_of q).var.0)
    at_outer p is = node_row v.rows bound c (side_of (outer_of q).var.0 (outer_of q).steps) (outer_row q.left q.right b) P env a p is

    pub at_inner : (p : ℕ) → IsPlace bound (inner_of q).var.0 p → NodeAt v.rows P a.keep p (env (inner_of q).var.0)
    at_inner p is = node_row v.rows bound c (side_of (inner_of q).var.0 (inner_of q).steps) (inner_row q.left q.right b) P env a p is

    pub outer_bound : IsBound v.rows bound (outer_of q).var.0 (env (outer_of q).var.0)
    outer_bound = a.bound_to (side_of (outer_of q).var.0 (outer_of q).steps) (outer_row q.left q.right b)

    pub inner_bound : IsBound v.rows bound (inner_of q).var.0 (env (inner_of q).var.0)
    inner_bound = a.bound_to (side_of (inner_of q).var.0 (inner_of q).steps) (inner_row q.left q.right b)

pub pair_is : (p s t u : ℕ) (x : Option (ℕ × ℕ)) → Some (p, s) ≡ x → x ≡ Some (t, u) → (p ≡ t) × (s ≡ u)
pair_is p s t u x e f = let g : ◌≡◌ {A = Option (ℕ × ℕ)} (Some (p, s)) (Some (t, u)) = e ∙ f in let h : ◌≡◌ {A = ℕ × ℕ} (p, s) (t, u) = cc in (ap (λ (z : ℕ × ℕ). z.0) h, ap (λ (z : ℕ × ℕ). z.1) h)

pub is_place : (bound : Bindings) (x p s : ℕ) → Some (p, s) ≡ get bound x → IsPlace bound x p
is_place bound x p s e t u f = (pair_is p s t u (get bound x) e f).0

module _ (v : View) (bound : Bindings) (k : IndexView) (i : ℕ) (q r0 r : Equality) (p of other so : ℕ) (made found : Bool)
    (at : slice_get k.equalities i ≡ Some q)
    (outer : Some (p, of) ≡ get bound (outer_of q).var.0)
    (inner : Some (other, so) ≡ get bound (inner_of q).var.0)
    (first : KeepsList v.rows p of q r0 made)
    (seen : KeepsSeen q r0)
    (rest : r ≡ record r0 { seen = r.seen })
    (tells : FindsIn v other so r0 r found) where
  abbrev now : IndexView
  now = record { marked = k.marked; equalities = slice_set k.equalities i r; built = raised k.built (cond made 1 0) }

  lists : KeepsList v.rows p of q r made
  lists = subst (λ (z : Equality). KeepsList v.rows p of q z made) (sym rest) (kept_as v.rows p of q r0 made r.seen first)

  kept_is : serial_kept r ≡ Some of
  kept_is = ap (option_map (λ (l : Listed). l.of.0)) lists.kept ∙ ap Some lists.serial

  bound_is : Some of ≡ serial_bound bound (outer_of q).var.0
  bound_is = ap (option_map (λ (z : ℕ × ℕ). z.1)) outer

  same_outer : outer_of r ≡ outer_of q
  same_outer = outer_moved q r lists.left lists.right

  times : ◌≡◌ {A = ℕ} (cond made 1 0) (cond (same_serial (serial_kept q) (serial_kept r)) 0 1)
  times =
      ap (λ (z : Bool). cond z 1 0) lists.made_so
      ∙ (turned (same_serial (serial_kept q) (Some of)) ∙ ap (λ (z : Option ℕ). cond (same_serial (serial_kept q) z) 0 1) (sym kept_is))
    where
      turned : (z : Bool) → ◌≡◌ {A = ℕ} (cond (not z) 1 0) (cond z 0 1)
      turned true = refl
      turned false = refl

  module _ (closed : Bool) (shut : (d : Cell) → In d v.rows → d.place ≡ p → true ≡ not d.row.is_open) (told : (d : Cell) → In d v.rows → d.place ≡ other → closed ≡ not d.row.is_open) where
    module _ (P : Tree) (env : Env) (is : IsIndex k P) (count : length P.nodes ≡ v.nodes) (a : Asked v.rows bound (Compare (path_of_side q.left) Eq (path_of_side q.right)) P env) where
      abbrev x : ℕ
      x = (outer_of q).var.0

      abbrev y : ℕ
      y = (inner_of q).var.0

      at_p : NodeAt v.rows P a.keep p (env x)
      at_p = at_outer v bound q P env a p (is_place bound x p of outer)

      at_other : NodeAt v.rows P a.keep other (env y)
      at_other = at_inner v bound q P env a other (is_place bound y other so inner)

      serial : of ≡ serial_of (env x)
      serial = (pair_is p of (outer_bound v bound q P env a).place (serial_of (env x)) (get bound x) outer (outer_bound v bound q P env a).pair).1

      closed_outer : is_closed P (env x) ≡ true
      closed_outer = sym (shut_told v.rows p true shut P a.keep (env x) at_p)

      listed : IsListOf P (outer_of q).steps (serial_of (env x)) lists.list.values
      listed = elim lists.told [
        | inl e ↦ subst (λ (s : ℕ). IsListOf P (outer_of q).steps s lists.list.values) (lists.serial ∙ serial) (is.1 q (at_in k.equalities i q at) lists.list e)
        | inr f ↦ f P a.keep (env x) at_p (outer_keeps q.left q.right v.rows bound P env a (ltb q.left.var.0 q.right.var.0)) closed_outer
      ]

      is_list : IsList r P
      is_list l e =
          let same : Some lists.list ≡ Some l = sym lists.kept ∙ e in
          let f : lists.list ≡ l = cc in
          subst (λ (z : Listed). IsListOf P (outer_of r).steps z.of.0 z.values) f
          (subst (λ (s : Side). IsListOf P s.steps lists.list.of.0 lists.list.values) (sym same_outer)
          (subst (λ (s : ℕ). IsListOf P (outer_of q).steps s lists.list.values) (sym (lists.serial ∙ serial)) listed))

      inner_serial : serial_of (env y) ≡ so
      inner_serial = sym (pair_is other so (inner_bound v bound q P env a).place (serial_of (env y)) (get bound y) inner (inner_bound v bound q P env a).pair).1

      was : IsLooked q P
      was = is.2 q (at_in k.equalities i q at)

      inner_path : r0.seen.steps ≡ (inner_of q).steps
      inner_path = seen.steps ∙ was.steps

      asks : AsksPath v other r0.seen.steps P a.keep (env y)
      asks = record {
        at = at_other;
        count = count;
        kept = subst (λ (s : List Step). KeepsMatches P a.keep (env y) s) (sym inner_path) (inner_keeps q.left q.right v.rows bound P env a (ltb q.left.var.0 q.right.var.0));
      }

      looked : FoundIs P (env y) r0.seen.steps lists.list.values found × IsLooked r P
      looked = tells P a.keep (env y) asks inner_serial (kept_looked q r0 first.left first.right seen P was) lists.list (sym (ap (λ (z : Equality). z.list) rest) ∙ lists.kept)

      found_is : FoundIs P (env y) (inner_of q).steps lists.list.values found
      found_is = subst (λ (s : List Step). FoundIs P (env y) s lists.list.values found) inner_path looked.0

      both : BothCome P env x y (outer_of q).steps (inner_of q).steps found
      both = go found found_is
        where
          law : (IsFoundIn P (env y) (inner_of q).steps lists.list.values → BothCome P env x y (outer_of q).steps (inner_of q).steps true)
              × ((IsFoundIn P (env y) (inner_of q).steps lists.list.values → ⊥) → BothCome P env x y (outer_of q).steps (inner_of q).steps false)
          law = lists_tell P at_p.rows_of.grown env x y (outer_of q).steps (inner_of q).steps lists.list.values at_p.among at_other.among listed

          go : (f : Bool) → FoundIs P (env y) (inner_of q).steps lists.list.values f → BothCome P env x y (outer_of q).steps (inner_of q).steps f
          go true w = law.0 w
          go false w = law.1 w

      pub answered : settle found closed ≡ truth (Compare (path_of_side q.left) Eq (path_of_side q.right)) env P
      answered =
          ap (settle found) (shut_told v.rows other closed told P a.keep (env y) at_other)
          ∙ sym (comes q.left q.right P env (ltb q.left.var.0 q.right.var.0) found both)

      pub stands : IsIndex now P
      stands = (is.0, set_lists k.equalities i r P is.1 is_list, set_looked k.equalities i r P is.2 looked.1)

    abbrev pair_of : CondTree
    pair_of = Compare (path_of_side q.left) Eq (path_of_side q.right)

    reached : IsReached v (IsIndex k) bound pair_of (path_of_side q.left) (path_of_side q.right)
    reached P env over a = ((refl, refl, refl), subst (λ (n : ℕ). is_closed P (env n) ≡ true) (outer_is q) (closed_outer P env over.0 over.1 a))

    goes : GoesAfterQuestion bound (IsReached v (IsIndex k) bound pair_of) k now
    goes = record {
      moved = moved_one bound (IsReached v (IsIndex k) bound pair_of) k.equalities i q r at (record { left = lists.left; right = lists.right; list = inr (kept_is ∙ bound_is, reached) });
      built = ap (raised k.built) (times ∙ sym (changes_one k.equalities i q r at));
    }

    pub looks : TellsTruthOf v bound pair_of k now (settle found closed)
    looks = record {
      answers = λ P env over a. (answered P env over.0 over.1 a, (stands P env over.0 over.1 a, over.1));
      goes = goes;
      kept = λ P env over a l o reached has shut. record {
        equality = r;
        among = set_has k.equalities i q r at;
        left = ap path_of_side lists.left ∙ reached.0;
        right = ap path_of_side lists.right ∙ reached.2;
        kept = kept_is ∙ (bound_is ∙ ap (λ (s : Side). serial_bound bound s.var.0) (sym same_outer));
      };
    }

-- of the operands
pub looks_for : (v : View) (bound : Bindings) (left right : Operand) (q : Equality) → IsOf q (operand_tree left) (operand_tree right) → (k l : IndexView) (t : Truth) → TellsTruthOf v bound (Compare (path_of_side q.left) Eq (path_of_side q.right)) k l t → TellsTruthOf v bound (comparison left Eq right) k l t
looks_for v bound left right q is k l t tells =
    subst (λ (z : OperandTree). TellsTruthOf v bound (Compare z Eq (operand_tree right)) k l t) is.0
    (subst (λ (z : OperandTree). TellsTruthOf v bound (Compare (path_of_side q.left) Eq z) k l t) is.1 tells)

-- ---- where nothing is told: the outer variable is bound, and its node is open

module _ (v : View) (bound : Bindings) (left right : Operand) (q : Equality) (is : IsOf q (operand_tree left) (operand_tree right)) where
  asked_pair : (P : Tree) (env : Env) → Asked v.rows bound (comparison left Eq right) P env → Asked v.rows bound (Compare (path_of_side q.left) Eq (path_of_side q.right)) P env
  asked_pair P env a =
      subst (λ (z : OperandTree). Asked v.rows bound (Compare z Eq (path_of_side q.right)) P env) (sym is.0)
      (subst (λ (z : OperandTree). Asked v.rows bound (Compare (operand_tree left) Eq z) P env) (sym is.1) a)

  outer_closed : (P : Tree) (env : Env) → IsOuterClosed (operand_tree left) (operand_tree right) env P → is_closed P (env (outer_of q).var.0) ≡ true
  outer_closed P env c =
      subst (λ (z : ℕ). is_closed P (env z) ≡ true) (sym (outer_is q))
      (subst (λ (z : OperandTree). is_closed P (env (min (variable_of z) q.right.var.0)) ≡ true) (sym is.0)
      (subst (λ (z : OperandTree). is_closed P (env (min (variable_of (operand_tree left)) (variable_of z))) ≡ true) (sym is.1) c))

  pub open_outer : (p of : ℕ) → Some (p, of) ≡ get bound (outer_of q).var.0 → ((d : Cell) → In d v.rows → d.place ≡ p → false ≡ not d.row.is_open)
      → (P : Tree) (env : Env) → Asked v.rows bound (comparison left Eq right) P env → IsOuterClosed (operand_tree left) (operand_tree right) env P → ⊥
  open_outer p of got told P env a c =
      let pair = asked_pair P env a in
      false≢true (shut_told v.rows p false told P pair.keep (env (outer_of q).var.0) (at_outer v bound q P env pair p (is_place bound (outer_of q).var.0 p of got)) ∙ outer_closed P env c)

  pub no_outer : None ≡ get bound (outer_of q).var.0 → (P : Tree) (env : Env) → Asked v.rows bound (comparison left Eq right) P env → ⊥
  no_outer e P env a = let f : ◌≡◌ {A = Option (ℕ × ℕ)} None (Some ((outer_bound v bound q P env (asked_pair P env a)).place, serial_of (env (outer_of q).var.0))) = e ∙ (outer_bound v bound q P env (asked_pair P env a)).pair in absurd (cc)

  pub no_inner : None ≡ get bound (inner_of q).var.0 → (P : Tree) (env : Env) → Asked v.rows bound (comparison left Eq right) P env → ⊥
  no_inner e P env a = let f : ◌≡◌ {A = Option (ℕ × ℕ)} None (Some ((inner_bound v bound q P env (asked_pair P env a)).place, serial_of (env (inner_of q).var.0))) = e ∙ (inner_bound v bound q P env (asked_pair P env a)).pair in absurd (cc)

  -- the rows of both nodes
  pub outer_node : {stands : Tree → Type 0} → MayAskOver v stands bound (comparison left Eq right) → (p of : ℕ) → Some (p, of) ≡ get bound (outer_of q).var.0 → IsNodeRow v.rows p
  outer_node m p of got = let pair = asked_pair m.tree m.env m.asked in record { tree = m.tree; keep = pair.keep; node = m.env (outer_of q).var.0; at = at_outer v bound q m.tree m.env pair p (is_place bound (outer_of q).var.0 p of got) }

  pub inner_node : {stands : Tree → Type 0} → MayAskOver v stands bound (comparison left Eq right) → (p of : ℕ) → Some (p, of) ≡ get bound (inner_of q).var.0 → IsNodeRow v.rows p
  inner_node m p of got = let pair = asked_pair m.tree m.env m.asked in record { tree = m.tree; keep = pair.keep; node = m.env (inner_of q).var.0; at = at_inner v bound q m.tree m.env pair p (is_place bound (inner_of q).var.0 p of got) }

  -- the inner path, whose matches may be looked up
  pub inner_asked : (k : IndexView) → MayAskOver v (IsIndex k) bound (comparison left Eq right) → (i : ℕ) → slice_get k.equalities i ≡ Some q → (p of : ℕ) → Some (p, of) ≡ get bound (inner_of q).var.0
      → (r : Equality) → r.left ≡ q.left → r.right ≡ q.right → KeepsSeen q r → MayFindIn v p of r
  inner_asked k m i at p of got r one two seen =
      let pair = asked_pair m.tree m.env m.asked in
      let was = m.stand.0.2 q (at_in k.equalities i q at) in
      let there = inner_bound v bound q m.tree m.env pair in
      record {
        tree = m.tree;
        keep = pair.keep;
        node = m.env (inner_of q).var.0;
        asks = record {
          at = at_inner v bound q m.tree m.env pair p (is_place bound (inner_of q).var.0 p of got);
          count = m.stand.1;
          kept = subst (λ (s : List Step). KeepsMatches m.tree pair.keep (m.env (inner_of q).var.0) s) (sym (seen.steps ∙ was.steps)) (inner_keeps q.left q.right v.rows bound m.tree m.env pair (ltb q.left.var.0 q.right.var.0));
        };
        serial = sym (pair_is p of there.place (serial_of (m.env (inner_of q).var.0)) (get bound (inner_of q).var.0) got there.pair).1;
        looked = kept_looked q r one two seen m.tree was;
      }
