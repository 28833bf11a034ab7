-- The line of a token, told over the whole tree.
use Rattle.std.proofs.Common.{◌≡◌, ℕ, List, [], ◌∷◌, ◌++◌, length, get_or, Option, Some, None, refl, sym, ◌∙◌, ap, subst, inl}
use Rattle.std.proofs.lemmas.List.{get_or-map}
use Rattle.gcx_base.specs.declared.kind.Kind.TheVariants.{Element, Text}
use Rattle.gcx_model.specs.Core.{PlanTree, RoleRowTree}
use Rattle.gcx_model.specs.Demand.{Line, Opened, feed_line, line_kind, opened_line}
use Rattle.gcx_model.specs.Held.{given, given_row, on_row, path_of, roles_given}
use Rattle.gcx_model.specs.Members.{In, count}
use Rattle.gcx_model.specs.Placed.{row_at}
use Rattle.gcx_model.specs.Tree.{Node, Root, Under, serial_of, kind_of, Tree, TreeToken, Start, Chars, End, opening, grow, grow_all, grow_at}
use Rattle.placed_laws.proofs.Stays.{gives_same}
use Rattle.tree_laws.proofs.Fed.{nodes_stay}
use Rattle.tree_laws.proofs.Lists.{filter_same, In-right}
use Rattle.tree_laws.proofs.Matches.{Grown, Grown-grow, Grown-opening}
use Rattle.doc_tree.specs.Rows.{node_at}
use Rattle.trace_check.specs.Telling.{fed_told, line_in}
use Rattle.trace_check.specs.Timing.{fed_at}
use Rattle.trace_check.specs.Wanting.{given_all}
use Rattle.trace_check.specs.declared.course.Course.{Course}
use Rattle.trace_check.specs.declared.timed.Fed.{Fed}
use Rattle.trace_check.specs.declared.timed.Fed.TheVariants as fed
use Rattle.trace_check.proofs.Numbers.{in_tree, node_by}

-- what a node was given stays
given_on : (us : List TreeToken) (plan : PlanTree) (P : Tree) → Grown P → (n : Node) (r : ℕ) → In n P.nodes → given plan P n r ≡ given plan (grow_all us P) n r
given_on [] plan P w n r i = refl
given_on (t ∷ us) plan P w n r i = sym (once (row_at plan.roles r)) ∙ given_on us plan (grow t P) (Grown-grow t P w) n r (nodes_stay (t ∷ []) P n i)
  where
    once : (row : Option RoleRowTree) → on_row (given_row (path_of plan) (grow t P) n) row ≡ on_row (given_row (path_of plan) P n) row
    once None = refl
    once (Some row) = gives_same t P w 0 (path_of plan row.var) row.tail row.kind n i

-- the roles given to a node are those of the whole tree
given_later : (us : List TreeToken) (plan : PlanTree) (P : Tree) → Grown P → (n : Node) → In n P.nodes → roles_given plan P n ≡ roles_given plan (grow_all us P) n
given_later us plan P w n i = filter_same (given plan P n) (given plan (grow_all us P) n) (count 0 (length plan.roles)) (λ r k. given_on us plan P w n r i)

-- the line of a node is that of its number
pub line_by : (plan : PlanTree) (c : Course) → Grown c.timed.tree → (n : Node) → In n c.timed.tree.nodes → opened_line plan c.timed.tree n ≡ line_in plan c (serial_of n)
line_by plan c w n i =
    let here : node_at c.timed.tree.nodes (serial_of n) ≡ n = node_by c.timed.tree w n i in
    let roles : get_or (given_all plan c.timed.tree) (serial_of n) [] ≡ roles_given plan c.timed.tree n
    = get_or-map (roles_given plan c.timed.tree) c.timed.tree.nodes (serial_of n) Root [] (in_tree c.timed.tree w n i) ∙ ap (roles_given plan c.timed.tree) here in
    ap (λ (g : List ℕ). Opened (serial_of n) (line_kind (kind_of n)) g) (sym roles)
    ∙ ap (λ (m : Node). Opened (serial_of n) (line_kind (kind_of m)) (get_or (given_all plan c.timed.tree) (serial_of n) [])) (sym here)

-- a node's line is that of the whole tree, which more tokens made
opened_later : (plan : PlanTree) (c : Course) → Grown c.timed.tree → (us : List TreeToken) (Q : Tree) → Grown Q → c.timed.tree ≡ grow_all us Q → (n : Node) → In n Q.nodes → opened_line plan Q n ≡ line_in plan c (serial_of n)
opened_later plan c w us Q v on n i =
    ap (λ (g : List ℕ). Opened (serial_of n) (line_kind (kind_of n)) g) (given_later us plan Q v n i ∙ ap (λ (P : Tree). roles_given plan P n) (sym on))
    ∙ line_by plan c w n (subst (λ (P : Tree). In n P.nodes) (sym on) (nodes_stay us Q n i))

-- the line of the document node
pub line_first : (plan : PlanTree) (c : Course) → Grown c.timed.tree → (us : List TreeToken) → c.timed.tree ≡ grow_all us opening → opened_line plan opening Root ≡ line_in plan c 0
line_first plan c w us on = opened_later plan c w us opening Grown-opening on Root (inl refl)

module _ (plan : PlanTree) (c : Course) (w : Grown c.timed.tree) (P : Tree) (v : Grown P) (t : TreeToken) (us : List TreeToken) (on : c.timed.tree ≡ grow_all us (grow t P)) where
  opened : (n : Node) → In n (grow t P).nodes → opened_line plan (grow t P) n ∷ [] ≡ line_in plan c (serial_of n) ∷ []
  opened n i = ap (λ (l : Line). l ∷ []) (opened_later plan c w us (grow t P) (Grown-grow t P v) on n i)

  pub line_fed : (f : Fed) → fed_at P.at t ≡ f ∷ [] → feed_line plan t P.at P (grow t P) ≡ fed_told plan c (length P.nodes) f
  line_fed f e = go P.at t refl refl e
    where
      one : (a b : Fed) → a ∷ [] ≡ b ∷ [] → a ≡ b
      one a b h = cc

      no_fed : (b : Fed) → ◌≡◌ {A = List Fed} [] (b ∷ []) → ⊥
      no_fed b h = cc

      go : (o : Option Node) (s : TreeToken) → P.at ≡ o → t ≡ s → fed_at o s ≡ f ∷ [] → feed_line plan s o P (grow t P) ≡ fed_told plan c (length P.nodes) f
      go None s at is e = absurd (no_fed f e)
      go (Some p) (Start name) at is e =
          let new : Node = Under p (length P.nodes) (Element name) in
          let nodes : (grow t P).nodes ≡ P.nodes ++ new ∷ []
          = ap (λ (o : Option Node). (grow_at o t P).nodes) at ∙ ap (λ (x : TreeToken). (grow_at (Some p) x P).nodes) is in
          opened new (subst (λ (l : List Node). In new l) (sym nodes) (In-right new P.nodes (new ∷ []) (inl refl))) ∙ ap (fed_told plan c (length P.nodes)) (one fed.Opened f e)
      go (Some p) (Chars b) at is e =
          let new : Node = Under p (length P.nodes) (Text b) in
          let nodes : (grow t P).nodes ≡ P.nodes ++ new ∷ []
          = ap (λ (o : Option Node). (grow_at o t P).nodes) at ∙ ap (λ (x : TreeToken). (grow_at (Some p) x P).nodes) is in
          opened new (subst (λ (l : List Node). In new l) (sym nodes) (In-right new P.nodes (new ∷ []) (inl refl))) ∙ ap (fed_told plan c (length P.nodes)) (one fed.Opened f e)
      go (Some p) End at is e = ap (fed_told plan c (length P.nodes)) (one (fed.Closed (serial_of p)) f e)
