-- What is kept at a new node where nothing is signed at an open one.
use Rattle.std.proofs.Common.{◌≡◌, ℕ, ◌<◌, Bool, true, false, cond, not, ◌&&◌, List, [], ◌∷◌, ◌++◌, length, refl, sym, ◌∙◌, ap, subst, inl, inr, arith, append_assoc, Some}
use Rattle.std.proofs.Math.Bool.{and-true}
use Rattle.std.proofs.lemmas.Bool.{and_parts, and_from, eqb-true, eq-eqb, false_from_ne_true}
use Rattle.gcx_base.specs.declared.steps.Step.{Step}
use Rattle.gcx_model.specs.Tree.{Node, Root, Under, serial_of, above, Tree, TreeToken, grow}
use Rattle.gcx_model.specs.Paths.{reach, hits, head}
use Rattle.gcx_model.specs.Members.{In, count}
use Rattle.gcx_model.specs.Nodes.{Grown}
use Rattle.gcx_model.specs.Core.{RoleTarget, Own, First, Whole, OffTree, RoleRowTree}
use Rattle.gcx_model.specs.Placed.{offs_in, of_role, row_at}
use Rattle.gcx_model.specs.Held.{path_of, statement_of, given_row, on_row, given, signed, taken, roles_taken, live}
use Rattle.gcx_model.specs.Past.{Past, past_fed, IsPast, Opens, open_nodes}
use Rattle.base_laws.proofs.Bools.{same_bools}
use Rattle.base_laws.proofs.Numbers.{count_high}
use Rattle.tree_laws.proofs.Lists.{In-filter, In-kept, any_in, any_from, filter_same}
use Rattle.tree_laws.proofs.Chains.{above_in, hits_above}
use Rattle.tree_laws.proofs.Matches.{Grown-grow, Matches-in, Matches-from}
use Rattle.placed_laws.proofs.Frames.{hits-append}
use Rattle.past_laws.proofs.Ahead.{new_node, new_unsigned}
use Rattle.past_laws.proofs.Bases.{is_grown, tells}
use Rattle.spread_laws.specs.Tops.{is_whole_kind, is_top, is_kept_at, gives_newly, is_newly_given}
use Rattle.spread_laws.specs.Keeping.{KeptNewly}
use Rattle.spread_laws.proofs.Tops.{led, is_led, kept_by}

root_above : (n : Node) → In Root (above n)
root_above Root = inl refl
root_above (Under p s k) = inr (root_above p)

-- a node to which two paths lead, the one behind the other, and one on the way, to which the first one leads
abbrev Way : Node → (first second : List Step) → Node → Type 0
Way a p q m = (j : Node) × In j (above m) × (hits (serial_of a) p j ≡ true) × (hits (serial_of j) q m ≡ true)

module _ (P : Tree) (w : Grown P) where
  on_way : (a m : Node) (p q : List Step) → In m P.nodes → In a (above m) → hits (serial_of a) (p ++ q) m ≡ true → Way a p q m
  on_way a m [] q k i h = (a, i, eq-eqb (serial_of a) (serial_of a) refl, h)
  on_way a m (s ∷ p) q k i h =
      let r = any_in (λ (j : Node). reach (serial_of a) s j && hits (serial_of j) (p ++ q) m) (above m) h in
      let b = and_parts (reach (serial_of a) s r.0) (hits (serial_of r.0) (p ++ q) m) r.2 in
      let y = on_way r.0 m p q k r.1 b.1 in
      let up : In r.0 (above y.0) = hits_above P w r.0 p y.0 (above_in P w m r.0 k r.1) (above_in P w m y.0 k y.1) y.2 in
      (y.0, y.1, any_from (λ (j : Node). reach (serial_of a) s j && hits (serial_of j) p y.0) r.0 (above y.0) up (and_from _ _ b.0 y.2), y.3)

module _ (past : Past) (is : IsPast past) (t : TreeToken) (n : Node) (new : Opens past.tree t n) where
  abbrev Q : Tree
  Q = grow t past.tree

  wide : Grown (grow t past.tree)
  wide = Grown-grow t past.tree (is_grown past is)

  -- of a statement that isn't signed at an open node the new node is a top where the statement's whole path leads to it
  module _ (s : OffTree) (i : In s (offs_in past.plan.body)) (none : (b : Node) → In b (open_nodes past.tree) → signed past.acts s b ≡ false) where
    abbrev whole_path : List Step
    whole_path = path_of past.plan s.base ++ (s.rel ++ s.tail)

    top_hit : is_top (past_fed t past) s n ≡ true → hits 0 whole_path n ≡ true
    top_hit h =
        let b = led (past_fed t past) s n h in
        let q = Matches-in Q 0 (path_of past.plan s.base) b.0 b.1 in
        hits-append Q wide 0 (path_of past.plan s.base) (s.rel ++ s.tail) b.0 n q.0 new.0 q.1 b.3

    hit_top : hits 0 whole_path n ≡ true → is_top (past_fed t past) s n ≡ true
    hit_top h =
        let b = on_way Q wide Root n (path_of past.plan s.base) (s.rel ++ s.tail) new.0 (root_above n) h in
        let unsigned : signed past.acts s b.0 ≡ false = elim (subst (λ (z : List Node). In b.0 z) (new_node past.tree t n new).2 b.1) [
          | inl e ↦ subst (λ (z : Node). signed past.acts s z ≡ false) e ((new_unsigned past is t n new).0 s)
          | inr k ↦ none b.0 k
        ] in
        is_led (past_fed t past) s n (b.0, Matches-from Q 0 (path_of past.plan s.base) b.0 (above_in Q wide n b.0 new.0 b.1) b.2, unsigned, b.3)

    top_is : is_top (past_fed t past) s n ≡ hits 0 whole_path n
    top_is = same_bools (is_top (past_fed t past) s n) (hits 0 whole_path n) top_hit hit_top

  module _ (unsigned : (s : OffTree) (b : Node) → In s (offs_in past.plan.body) → s.kind ≡ Whole → In b (open_nodes past.tree) → signed past.acts s b ≡ false)
      (untaken : roles_taken past.plan (grow t past.tree) past.acts n ≡ []) (r : ℕ) (j : In r (count 0 (length past.plan.roles))) where
    not_taken : taken past.plan (grow t past.tree) past.acts n r ≡ false
    not_taken = false_from_ne_true (taken past.plan Q past.acts n r) (λ e. subst (λ (z : List ℕ). In r z) untaken (In-kept (taken past.plan Q past.acts n) r (count 0 (length past.plan.roles)) j e))

    -- another role is live where it is given
    plain : (row : RoleRowTree) → row_at past.plan.roles r ≡ Some row → live past.plan (grow t past.tree) past.acts n r ≡ given_row (path_of past.plan) (grow t past.tree) n row
    plain row at = ap (λ (z : Bool). given past.plan Q n r && not z) not_taken ∙ (and-true (given past.plan Q n r) ∙ ap (on_row (given_row (path_of past.plan) Q n)) at)

    by_statement : (s : OffTree) → In s (offs_in past.plan.body) → s.role ≡ r → statement_of past.plan r ≡ Some s → is_kept_at (past_fed t past) n r ≡ is_newly_given past.plan (grow t past.tree) n r
    by_statement s i e st =
        let told = tells past is s i in
        let at : row_at past.plan.roles r ≡ Some told.row = subst (λ (z : ℕ). row_at past.plan.roles z ≡ Some told.row) e told.at in
        ap (kept_by (past_fed t past) n r) st
        ∙ (go told.row at s.kind refl (ap (λ (z : List Step). z ++ told.row.tail) told.path ∙ (ap (λ (z : List Step). (path_of past.plan s.base ++ s.rel) ++ z) told.tail ∙ append_assoc (path_of past.plan s.base) s.rel s.tail))
        ∙ (ap (λ (k : RoleTarget). cond (is_whole_kind k) (hits 0 (path_of past.plan told.row.var ++ told.row.tail) n) (given_row (path_of past.plan) Q n told.row)) (sym told.kind) ∙ sym (ap (on_row (gives_newly (path_of past.plan) Q n)) at)))
      where
        go : (row : RoleRowTree) → row_at past.plan.roles r ≡ Some row → (k : RoleTarget) → s.kind ≡ k → path_of past.plan row.var ++ row.tail ≡ path_of past.plan s.base ++ (s.rel ++ s.tail)
            → cond (is_whole_kind k) (is_top (past_fed t past) s n) (live past.plan (grow t past.tree) past.acts n r)
            ≡ cond (is_whole_kind k) (hits 0 (path_of past.plan row.var ++ row.tail) n) (given_row (path_of past.plan) (grow t past.tree) n row)
        go row at Own f p = plain row at
        go row at First f p = plain row at
        go row at Whole f p = top_is s i (λ b k. unsigned s b i f k) ∙ sym (ap (λ (z : List Step). hits 0 z n) p)

    kept_new : is_kept_at (past_fed t past) n r ≡ is_newly_given past.plan (grow t past.tree) n r
    kept_new =
        let high = count_high 0 (length past.plan.roles) r j in
        let few : r < length past.plan.roles = omega arith in
        let one = is.placed.one r (subst (λ (z : List RoleRowTree). r < length z) is.placed.roles few) in
        let f = In-filter (of_role r) one.0 (offs_in past.plan.body) (subst (λ (z : List OffTree). In one.0 z) (sym one.1) (inl refl)) in
        by_statement one.0 f.0 (eqb-true _ _ f.1) (ap head one.1)

pub kept_newly : KeptNewly
kept_newly past is t n new unsigned untaken =
    filter_same (is_kept_at (past_fed t past) n) (is_newly_given past.plan (grow t past.tree) n) (count 0 (length past.plan.roles)) (λ r j. kept_new past is t n new unsigned untaken r j)
