-- What is kept of a plan tells by role and by variable.
use Rattle.std.proofs.Common.{◌≡◌, ℕ, zero, suc, ◌+◌, ◌<◌, ◌≤◌, Bool, true, false, cond, List, [], ◌∷◌, length, map, refl, sym, ◌∙◌, ap, arith, add-zero, Some, None, Option, eqb}
use Rattle.std.specs.Prelude.{slice_index_or, replicate, set}
use Rattle.std.specs.List.{filter}
use Rattle.std.proofs.Math.ListN.{get_or-map, get_or-replicate, length-map, length-replicate, length-set}
use Rattle.std.proofs.lemmas.List.{ext_get_or, get_or-set_same, get_or-set_other}
use Rattle.std.proofs.lemmas.Bool.{eqb-true, eqb-false}
use Rattle.gcx_model.specs.Paths.{head}
use Rattle.gcx_model.specs.Members.{count}
use Rattle.gcx_model.specs.Variables.{all_child}
use Rattle.gcx_model.specs.Core.{BodyTree, OffTree, PlanTree}
use Rattle.gcx_model.specs.Cores.{Good}
use Rattle.gcx_model.specs.Placed.{offs_in, of_role, Placed}
use Rattle.gcx_model.specs.Held.{paths_from, statement_of}
use Rattle.placed_laws.proofs.Bridge.{length-count}
use Rattle.placed_laws.proofs.PlanStatements.{one_statement_law}
use Rattle.placed_laws.proofs.Told.{told}
use Rattle.placed_laws.proofs.Unique.{row_below}
use Rattle.spread_laws.specs.Tops.{is_whole_kind, top_off, top_in, tops_of, put_top, put_tops}
use Rattle.spread_laws.specs.Keeping.{TablesTell, TablesBuilt}

at_count : {Y : Type 0} (f : ℕ → Y) (d : Y) (j n k : ℕ) → ((z : ℕ) → n ≤ z → f (j + z) ≡ d) → slice_index_or (map f (count j n)) k d ≡ f (j + k)
at_count f d j zero k h = sym (h k (omega arith))
at_count f d j (suc n) zero h = ap f (sym (add-zero j))
at_count f d j (suc n) (suc k) h =
    let e : suc j + k ≡ j + suc k = omega arith in
    at_count f d (suc j) n k (λ z l. let g : suc j + z ≡ j + suc z = omega arith in ap f g ∙ h (suc z) (omega arith)) ∙ ap f e

-- by role

module _ (core : BodyTree) (good : Good core) (plan : PlanTree) (pl : Placed core plan) where
  -- a role that has a statement is one of the plan's
  stated_low : (r : ℕ) (s : OffTree) → statement_of plan r ≡ Some s → r < length plan.roles
  stated_low r s e =
      let q = (one_statement_law core good plan pl r s).0 e in
      let t = told core good plan pl s q.0 in
      let l = row_below plan.roles s.role t.row t.at in
      let f = q.1 in
      omega arith

  top_at : (r : ℕ) → slice_index_or (tops_of plan) r None ≡ top_in (statement_of plan r)
  top_at r =
      let e : 0 + r ≡ r = omega arith in
      at_count (λ (z : ℕ). top_in (statement_of plan z)) None 0 (length plan.roles) r (λ z l. beyond (0 + z) (omega arith) (statement_of plan (0 + z)) refl)
      ∙ ap (λ (z : ℕ). top_in (statement_of plan z)) e
    where
      beyond : (z : ℕ) → length plan.roles ≤ z → (o : Option OffTree) → statement_of plan z ≡ o → top_in o ≡ None
      beyond z l None e = refl
      beyond z l (Some s) e = let g = stated_low z s e in absurd (omega arith)

pub tables_tell : TablesTell
tables_tell core good plan pl = (top_at core good plan pl, λ x. get_or-map all_child (paths_from ([] ∷ []) plan.vars) x [])

-- as it is built

-- what these statements of one role make of its entry
abbrev picked : List OffTree → Option OffTree → Option OffTree
picked [] t = t
picked (o ∷ os) t = picked os (cond (is_whole_kind o.kind) (Some (top_off o)) t)

length_one : (o : OffTree) (ts : List (Option OffTree)) → length (put_top o ts) ≡ length ts
length_one o ts = go (is_whole_kind o.kind)
  where
    go : (c : Bool) → length (cond c (set ts o.role (Some (top_off o))) ts) ≡ length ts
    go true = length-set ts o.role (Some (top_off o))
    go false = refl

length_put : (os : List OffTree) (ts : List (Option OffTree)) → length (put_tops os ts) ≡ length ts
length_put [] ts = refl
length_put (o ∷ os) ts = length_put os (put_top o ts) ∙ length_one o ts

at_put : (os : List OffTree) (ts : List (Option OffTree)) (r : ℕ) → r < length ts → slice_index_or (put_tops os ts) r None ≡ picked (filter (of_role r) os) (slice_index_or ts r None)
at_put [] ts r l = refl
at_put (o ∷ os) ts r l = at_put os (put_top o ts) r (let e = length_one o ts in omega arith) ∙ here (eqb o.role r) refl
  where
    entry : (c : Bool) → o.role ≡ r → slice_index_or (cond c (set ts o.role (Some (top_off o))) ts) r None ≡ cond c (Some (top_off o)) (slice_index_or ts r None)
    entry true e = ap (λ (z : ℕ). slice_index_or (set ts z (Some (top_off o))) r None) e ∙ get_or-set_same ts r (Some (top_off o)) None l
    entry false e = refl

    passed : (c : Bool) → (o.role ≡ r → ⊥) → slice_index_or (cond c (set ts o.role (Some (top_off o))) ts) r None ≡ slice_index_or ts r None
    passed true h = get_or-set_other ts o.role r (Some (top_off o)) None (λ e. h (sym e))
    passed false h = refl

    here : (c : Bool) → eqb o.role r ≡ c → picked (filter (of_role r) os) (slice_index_or (put_top o ts) r None) ≡ picked (cond c (o ∷ filter (of_role r) os) (filter (of_role r) os)) (slice_index_or ts r None)
    here true e = ap (picked (filter (of_role r) os)) (entry (is_whole_kind o.kind) (eqb-true o.role r e))
    here false e = ap (picked (filter (of_role r) os)) (passed (is_whole_kind o.kind) (eqb-false o.role r e))

pub tables_built : TablesBuilt
tables_built core good plan pl = ext_get_or None (put_tops (offs_in plan.body) blank) (tops_of plan) (long ∙ sym wide) (λ k l. each k (omega (arith, long)))
  where
    blank : List (Option OffTree)
    blank = replicate (length plan.roles) None

    long : length (put_tops (offs_in plan.body) blank) ≡ length plan.roles
    long = length_put (offs_in plan.body) blank ∙ length-replicate (length plan.roles) None

    wide : length (tops_of plan) ≡ length plan.roles
    wide = length-map (count 0 (length plan.roles)) (λ r. top_in (statement_of plan r)) ∙ length-count 0 (length plan.roles)

    of_one : (o : OffTree) (k : ℕ) → filter (of_role k) (offs_in plan.body) ≡ o ∷ [] → picked (filter (of_role k) (offs_in plan.body)) None ≡ top_in (statement_of plan k)
    of_one o k e = ap (λ (z : List OffTree). picked z None) e ∙ sym (ap (λ (z : List OffTree). top_in (head z)) e)

    each : (k : ℕ) → k < length plan.roles → slice_index_or (put_tops (offs_in plan.body) blank) k None ≡ slice_index_or (tops_of plan) k None
    each k l =
        let one = pl.one k (let e = ap length pl.roles in omega arith) in
        at_put (offs_in plan.body) blank k (let n : length blank ≡ length plan.roles = length-replicate (length plan.roles) None in omega arith)
        ∙ (ap (picked (filter (of_role k) (offs_in plan.body))) (get_or-replicate (length plan.roles) k None None l)
        ∙ (of_one one.0 k one.1 ∙ sym (top_at core good plan pl k)))
