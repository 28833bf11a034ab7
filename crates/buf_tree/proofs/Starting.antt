-- The document node alone, in the rows that a new buffer stands for.
use Rattle.std.proofs.Common.{◌≡◌, ◌==◌, ℕ, Bool, true, false, cond, not, ◌&&◌, ◌||◌, List, [], ◌∷◌, ◌++◌, length, map, refl, sym, ◌∙◌, ap, subst, Some, None, Option, inl, inr}
use Rattle.std.specs.List.{filter}
use Rattle.std.specs.Ordering.{nat_cmp}
use Rattle.std.specs.Cmp.{nat_cmp_total}
use Rattle.std.specs.FinMap.{empty as empty_map}
use Rattle.std.specs.FinSet.{FinSet, empty, contains, len, union, retain, from_list, same_set, nat_cmp-IsAntisymmetric, contains-empty}
use Rattle.std.proofs.Math.Bool.{or-false}
use Rattle.std.proofs.lemmas.Bool.{or_from, true≢false, cases_Bool, eq-eqb}
use Rattle.gcx_base.specs.declared.ids.Role.{Role}
use Rattle.gcx_base.specs.declared.kind.Kind.TheVariants.{Document}
use Rattle.gcx_base.specs.declared.steps.Step.{Step}
use Rattle.gcx_base.specs.declared.steps.Test.{Test}
use Rattle.gcx_base.specs.declared.steps.Test.TheVariants.{Named, AnyElement, AnyText, AnyNode}
use Rattle.gcx_model.specs.Tree.{Root, serial_of, opening}
use Rattle.gcx_base.specs.Tests.{passes}
use Rattle.gcx_model.specs.Paths.{any, all, lies, hits, matches, first}
use Rattle.gcx_model.specs.Members.{count}
use Rattle.gcx_model.specs.Core.{RoleTarget, Own, First, Whole, BodyTree, OffTree, PlanTree}
use Rattle.gcx_model.specs.Cores.{Good}
use Rattle.gcx_model.specs.Placed.{Placed}
use Rattle.gcx_model.specs.Held.{path_of, statement_of, is_node, gives, given, roles_given, signed, all_signed, on_off, live, roles_live}
use Rattle.gcx_model.specs.Past.{opening_past, is_signed, roles_signed}
use Rattle.node_store.specs.Rows.{planted}
use Rattle.past_laws.proofs.Bases.{tells}
use Rattle.placed_laws.proofs.PlanStatements.{one_statement_law}
use Rattle.past_laws.proofs.PastForms.{past_opens}
use Rattle.placed_laws.proofs.Told.{given_told}
use Rattle.buf_tree.specs.View.{View}
use Rattle.buf_tree.specs.Calls.{Started, numbers, root_row}
use Rattle.spread_laws.specs.Tops.{is_kept_at}
use Rattle.spread_laws.proofs.Tops.{live_by_kept}
use Rattle.buf_tree.specs.Row.{Row}
use Rattle.buf_tree.specs.Rows.{document_row}
use Rattle.buf_tree.specs.Shape.{Store, Cell, num, cells}
use Rattle.buf_tree.specs.Spread.{SpreadView, SpreadsAs, kept_roles, is_spread_in, roles_at, seen_rows, TellsCovered}
use Rattle.buf_tree.proofs.Keeping.{cells_planted}
use Rattle.buf_tree.proofs.Spreading.{in_union, in_retain}
use Rattle.buf_tree.specs.Stands.{seen, told, StandsFor, KeepsAs, awaited_by}

no_test : (t : Test) → passes t Document ≡ false
no_test (Named n) = refl
no_test AnyElement = refl
no_test AnyText = refl
no_test AnyNode = refl

-- no step leads to the document node
no_hit : (n : ℕ) (s : Step) (rest : List Step) → hits n (s ∷ rest) Root ≡ false
no_hit n s rest = or_from _ _ (ap (λ b. (b && lies s.axis n Root) && hits 0 rest Root) (no_test s.test)) refl

none_given : (s : Step) (p tail : List Step) (k : RoleTarget) → gives opening 0 (s ∷ p) tail k Root ≡ false
none_given s p tail Own = no_hit 0 s p
none_given s p tail First = ap (λ b. any (λ j. is_node 0 (first opening (serial_of j) tail)) (cond b (Root ∷ []) [])) (no_hit 0 s p)
none_given s p tail Whole = or_from _ _ (no_hit 0 s (p ++ tail)) refl

-- where the role is given to the document node, its base is that node, which isn't signed
base_waits : (o : OffTree) (p rel tail : List Step) (k : RoleTarget) → gives opening 0 (p ++ rel) tail k Root ≡ true → all (λ m. not (gives opening (serial_of m) rel tail k Root) || signed [] o m) (matches opening 0 p) ≡ false
base_waits o [] rel tail k h = ap (λ b. (not b || false) && true) h
base_waits o (s ∷ p) rel tail k h = absurd (true≢false (sym h ∙ none_given s (p ++ rel) tail k))

module _ (core : BodyTree) (good : Good core) (plan : PlanTree) (pl : Placed core plan) where
  pub none_taken : (r : ℕ) → given plan opening Root r ≡ true → on_off (all_signed (path_of plan) opening [] Root) (statement_of plan r) ≡ false
  none_taken r h = go (statement_of plan r) refl
    where
      go : (o : Option OffTree) → statement_of plan r ≡ o → on_off (all_signed (path_of plan) opening [] Root) o ≡ false
      go None e = refl
      go (Some s) e =
          let q = (one_statement_law core good plan pl r s).0 e in
          let t = tells (opening_past plan) (past_opens core good plan pl) s q.0 in
          base_waits s (path_of plan s.base) s.rel s.tail s.kind (sym (given_told plan s t opening Root) ∙ ap (given plan opening Root) q.1 ∙ h)

  all_live : (r : ℕ) → live plan opening [] Root r ≡ given plan opening Root r
  all_live r = elim (cases_Bool (given plan opening Root r)) [
    | inl g ↦ ap (λ b. b && not (b && on_off (all_signed (path_of plan) opening [] Root) (statement_of plan r))) g ∙ ap not (none_taken r g) ∙ sym g
    | inr g ↦ ap (λ b. b && not (b && on_off (all_signed (path_of plan) opening [] Root) (statement_of plan r))) g ∙ sym g
  ]

  filter_each : {X : Type 0} (f g : X → Bool) (xs : List X) → ((x : X) → f x ≡ g x) → filter f xs ≡ filter g xs
  filter_each f g [] h = refl
  filter_each f g (x ∷ xs) h = λ t. cond (h x t) (x ∷ filter_each f g xs h t) (filter_each f g xs h t)

  filter_no : {X : Type 0} (f : X → Bool) (xs : List X) → ((x : X) → f x ≡ false) → filter f xs ≡ []
  filter_no f [] h = refl
  filter_no f (x ∷ xs) h = rw (h x) (filter_no f xs h)

  pub roles_then : roles_live plan opening [] Root ≡ roles_given plan opening Root
  roles_then = filter_each (live plan opening [] Root) (given plan opening Root) (count 0 (length plan.roles)) all_live

  signed_then : roles_signed plan [] Root ≡ []
  signed_then = filter_no (is_signed plan [] Root) (count 0 (length plan.roles)) (λ r. go (statement_of plan r))
    where
      go : (o : Option OffTree) → on_off (λ s. signed [] s Root) o ≡ false
      go None = refl
      go (Some s) = refl

  -- what is kept at it is what it is given
  kept_then : (s : Option SpreadView) → kept_roles s (opening_past plan) Root ≡ roles_given plan opening Root
  kept_then None = roles_then
  kept_then (Some s) =
      filter_each (is_kept_at (opening_past plan) Root) (live plan opening [] Root) (count 0 (length plan.roles)) (λ r. sym (live_by_kept (opening_past plan) (past_opens core good plan pl) r).0)
      ∙ roles_then

  keeps_started : (v : View) (gs : List Role) (p : ℕ) → v.kept ≡ record { place = p; row = root_row gs } ∷ [] → numbers gs ≡ roles_given plan opening Root → KeepsAs v (opening_past plan)
  keeps_started v gs p kept e rows =
      ap (map (λ (c : Cell). c.row.roles)) kept ∙ (λ t. from_list {R = nat_cmp} ((e ∙ sym (kept_then v.spread)) t) ∷ [])

  pub stands_started : (v : View) (gs : List Role) (p : ℕ) → Started v gs → v.kept ≡ record { place = p; row = root_row gs } ∷ [] → numbers gs ≡ roles_given plan opening Root → SpreadsAs v.spread plan → StandsFor v (opening_past plan)
  stands_started v gs p c kept e s = record {
    is_past = past_opens core good plan pl;
    spread = s;
    rows = rows;
    kept = keeps_started v gs p kept e rows;
    waiting = ap (map awaited_by) c.waiting;
    nodes = c.nodes;
  }
    where
      same : seen (record { place = c.row.0; row = root_row gs }) ≡ told (opening_past plan) Root
      same = λ t. record {
        serial = 0;
        level = 0;
        parent = None;
        kind = Document;
        is_open = true;
        roles = from_list {R = nat_cmp} ((e ∙ sym roles_then) t);
        signed = from_list {R = nat_cmp} (sym signed_then t);
        covered = false;
      }

      rows : map seen v.rows ≡ map (told (opening_past plan)) (Root ∷ [])
      rows = ap (map seen) c.row.1 ∙ (λ t. same t ∷ [])

-- ---- the row of the document node alone

pub planted_alone : (m m' : Store) (p : ℕ) (row : Row) (gs : List Role) (roles : FinSet nat_cmp) → m ≡ empty_map → m' ≡ planted m p row → row ≡ document_row roles → roles ≡ from_list (numbers gs) → cells m' ≡ record { place = p; row = root_row gs } ∷ []
planted_alone m m' p row gs roles none now is given =
    cells_planted m m' p row none now (ap (λ (r : Row). r.serial) is) ∙ (λ t. record { place = p; row = (is ∙ ap document_row given) t } ∷ [])

-- roles of no row above
none_above : (sp : ℕ → Bool) (r : FinSet nat_cmp) → union r (retain empty sp) ≡ r
none_above sp r = same_set nat_cmp_total nat_cmp-IsAntisymmetric (union r (retain empty sp)) r (λ k. in_union r (retain empty sp) k ∙ ap (λ b. contains r k || b) (none k) ∙ or-false (contains r k))
  where
    none : (k : ℕ) → contains (retain (empty {R = nat_cmp}) sp) k ≡ false
    none k = in_retain (empty {R = nat_cmp}) sp k ∙ ap (λ b. b && sp k) (contains-empty nat_cmp k)

pub alone_seen : (s : Option SpreadView) (c : Cell) → c.row.covered ≡ false → seen_rows s (c ∷ []) ≡ c ∷ []
alone_seen s c bare = λ t. record { place = c.place; row = record c.row { roles = none_above (is_spread_in s) c.row.roles t; covered = sym bare t } } ∷ []

pub alone_covers : (s : Option SpreadView) (c : Cell) → c.row.covered ≡ false → num c ≡ 0 → TellsCovered s (c ∷ [])
alone_covers s c bare zero d (inl e) =
    sym (ap (λ (z : Cell). z.row.covered) e) ∙ bare
    ∙ sym (ap (λ b. not b && not (len (retain (roles_at (seen_rows s (c ∷ [])) d.row.parent) (is_spread_in s)) == 0)) (eq-eqb (num d) 0 (sym (ap num e) ∙ zero)))
alone_covers s c bare zero d (inr i) = absurd i

-- the rows kept are those seen, and each tells that it has no roles from above, whichever are spread
pub started_rows : (s : Option SpreadView) (ks : List Cell) (p : ℕ) (gs : List Role) → ks ≡ record { place = p; row = root_row gs } ∷ []
    → (seen_rows s ks ≡ record { place = p; row = root_row gs } ∷ []) × TellsCovered s ks
started_rows s ks p gs e =
    let c : Cell = record { place = p; row = root_row gs } in
    (ap (seen_rows s) e ∙ alone_seen s c refl, subst (λ (zs : List Cell). TellsCovered s zs) (sym e) (alone_covers s c refl refl))
