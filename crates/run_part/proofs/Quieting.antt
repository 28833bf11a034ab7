-- Tokens behind which no action is possible that wasn't before.
use Rattle.std.proofs.Common.{◌≡◌, ⊎_elim, ℕ, ◌==◌, ◌||◌, ◌&&◌, true, false, not, List, [], ◌∷◌, ◌++◌, length, map, refl, sym, ◌∙◌, ap, subst, inl, arith, Some, eq-eqb, eqb-true}
use Rattle.std.specs.Prelude.{nat_eq}
use Rattle.std.proofs.lemmas.Bool.{false≢true, true≢false, and_parts, cases_Bool, or_parts}
use Rattle.gcx_base.specs.declared.ids.Role.{Role}
use Rattle.gcx_model.specs.Tree.{Node, serial_of, within, Tree, TreeToken as Said, End, opening, grow, is_open_at}
use Rattle.gcx_model.specs.Paths.{any}
use Rattle.gcx_model.specs.Members.{In, count}
use Rattle.gcx_model.specs.Run.{Action}
use Rattle.gcx_model.specs.Held.{live, roles_live, roles_given, is_live, is_held}
use Rattle.gcx_model.specs.Growth.{Leads, more, may_come}
use Rattle.tree_laws.proofs.Growing.{grows}
use Rattle.gcx_model.specs.Points.{actions}
use Rattle.gcx_model.specs.Past.{Past, IsPast, open_nodes, past_fed}
use Rattle.move_laws.specs.Quiet.{by_opening, by_closing}
use Rattle.move_laws.proofs.Unmoved.{quiet_token}
use Rattle.tree_laws.proofs.Lists.{In-filter, any_in, any_from, filter_none}
use Rattle.tree_laws.proofs.Freeze.{within_self}
use Rattle.past_laws.proofs.Changes.{live_by_feed}
use Rattle.past_laws.proofs.RowFacts.{open_behind}
use Rattle.past_laws.proofs.Ahead.{open_nodes_are}
use Rattle.buf_tree.specs.Rows.{shut_row}
use Rattle.buf_tree.specs.Shape.{Cell, num, with_at}
use Rattle.buf_tree.specs.Purge.{is_gone}
use Rattle.buf_tree.specs.View.{View}
use Rattle.buf_tree.specs.Stands.{Seen, StandsFor}
use Rattle.buf_tree.specs.Calls.{numbers}
use Rattle.projector.specs.Calls.{tally_of}
use Rattle.projector.specs.Projector.{ClosedOne, Changes, DoesBy}
use Rattle.projector.specs.declared.projector.Fed.{Fed}
use Rattle.projector.specs.declared.projector.Fed.TheVariants as outcomes
use Rattle.run_part.proofs.RowsHeld.{held_row, row_node}
use Rattle.run_part.specs.Actors.{is_quiet}
use Rattle.run_part.proofs.Feeding.{shut_comes}

some_of : {X : Type 0} (xs : List X) → not (nat_eq (length xs) 0) ≡ true → (x : X) × In x xs
some_of [] h = absurd (false≢true h)
some_of (x ∷ xs) h = (x, inl refl)

none_of : {X : Type 0} (xs : List X) → nat_eq (length xs) 0 ≡ true → xs ≡ []
none_of [] h = refl
none_of (x ∷ xs) h = let e = eqb-true (length (x ∷ xs)) 0 h in absurd (omega arith)

-- A node that was held before the end of the innermost open one, and isn't behind it, is that one, and no role is live there.
module _ (past : Past) (is : IsPast past) (p : Node) (at : past.tree.at ≡ Some p) (may : may_come End past.tree ≡ true) where
  abbrev P : Tree
  P = past.tree

  abbrev Q : Tree
  Q = grow End past.tree

  same_nodes : Q.nodes ≡ P.nodes
  same_nodes = (open_behind P p at).2

  same_live : (n : Node) → In n P.nodes → (r : ℕ) → live past.plan Q past.acts n r ≡ live past.plan P past.acts n r
  same_live n i r = (live_by_feed past is End n i).0 r

  module _ (n : Node) (i : In n P.nodes) (was : is_held past.plan P past.acts n ≡ true) (now : is_held past.plan Q past.acts n ≡ false) where
    shut : is_open_at Q.at (serial_of n) ≡ false
    shut = (or_parts (is_open_at Q.at (serial_of n)) (any (λ (m : Node). within (serial_of n) m && is_live past.plan Q past.acts m) Q.nodes) now).0

    none_live : any (λ (m : Node). within (serial_of n) m && is_live past.plan Q past.acts m) Q.nodes ≡ false
    none_live = (or_parts (is_open_at Q.at (serial_of n)) (any (λ (m : Node). within (serial_of n) m && is_live past.plan Q past.acts m) Q.nodes) now).1

    dead : (m : Node) → In m P.nodes → within (serial_of n) m ≡ true → (r : ℕ) → In r (count 0 (length past.plan.roles)) → live past.plan P past.acts m r ≡ false
    dead m j w r k = ⊎_elim (λ (t : live past.plan P past.acts m r ≡ true). absurd (true≢false (sym (lives t) ∙ none_live))) (λ f. f) (cases_Bool (live past.plan P past.acts m r))
      where
        lives : live past.plan P past.acts m r ≡ true → any (λ (m : Node). within (serial_of n) m && is_live past.plan Q past.acts m) Q.nodes ≡ true
        lives t =
            let l : is_live past.plan Q past.acts m ≡ true = any_from (live past.plan Q past.acts m) r (count 0 (length past.plan.roles)) k (same_live m j r ∙ t) in
            any_from (λ (m : Node). within (serial_of n) m && is_live past.plan Q past.acts m) m Q.nodes (subst (λ (z : List Node). In m z) (sym same_nodes) j) (ap (λ z. z && is_live past.plan Q past.acts m) w ∙ l)

    -- it was open
    was_open : is_open_at P.at (serial_of n) ≡ true
    was_open = ⊎_elim (λ t. t) (λ f. absurd (none f)) (cases_Bool (is_open_at P.at (serial_of n)))
      where
        none : is_open_at P.at (serial_of n) ≡ false → ⊥
        none f =
            let h : any (λ (m : Node). within (serial_of n) m && is_live past.plan P past.acts m) P.nodes ≡ true = ap (λ z. z || any (λ (m : Node). within (serial_of n) m && is_live past.plan P past.acts m) P.nodes) (sym f) ∙ was in
            let m = any_in (λ (m : Node). within (serial_of n) m && is_live past.plan P past.acts m) P.nodes h in
            let q = and_parts (within (serial_of n) m.0) (is_live past.plan P past.acts m.0) m.2 in
            let r = any_in (live past.plan P past.acts m.0) (count 0 (length past.plan.roles)) q.1 in
            true≢false (sym r.2 ∙ dead m.0 m.1 q.0 r.0 r.1)

    that_one : n ≡ p
    that_one =
        let o : In n (open_nodes P) = (open_nodes_are P is.grown n i).0 was_open in
        ⊎_elim (λ e. sym e) (λ j. absurd (true≢false (sym (still j) ∙ shut))) (subst (λ (z : List Node). In n z) (open_behind P p at).3 o)
      where
        still : In n (open_nodes Q) → is_open_at Q.at (serial_of n) ≡ true
        still j =
            let g : Leads opening Q = more is.grown (grows End P may) in
            (open_nodes_are Q g n (subst (λ (z : List Node). In n z) (sym same_nodes) i)).1 j

    pub none_there : roles_live past.plan P past.acts p ≡ []
    none_there = filter_none (live past.plan P past.acts p) (count 0 (length past.plan.roles)) (λ r k. subst (λ (z : Node). live past.plan P past.acts z r ≡ false) that_one (dead n i (within_self (serial_of n) n (eq-eqb (serial_of n) (serial_of n) refl)) r k))

-- so of a buffer whose departures begin with this end, one departure tells that no role was live there
pub left_dead : (v w : View) (past : Past) (s : ℕ) → StandsFor v past → StandsFor w (past_fed End past) → may_come End past.tree ≡ true → v.gone ≡ [] → ClosedOne v w s → not (nat_eq (length w.gone) 0) ≡ true
    → (p : Node) → past.tree.at ≡ Some p → roles_live past.plan past.tree past.acts p ≡ []
left_dead v w past s h g may empty c some p at =
    let l = c.closed.leaves.purged.leaves in
    let left = c.closed.leaves.left in
    let gone : w.gone ≡ left = c.closed.leaves.gone ∙ ap (λ z. z ++ left) empty in
    let k = some_of left (ap (λ (z : List ℕ). not (nat_eq (length z) 0)) (sym gone) ∙ some) in
    let x = l.known k.0 k.1 in
    let d = shut_comes v.rows c.place x.0 x.1 in
    let r = row_node v past h d.0 d.1 in
    let num_is : serial_of r.0 ≡ k.0 = ap (λ (z : Seen). z.serial) (sym r.2) ∙ (d.3 ∙ x.2) in
    let same : (grow End past.tree).nodes ≡ past.tree.nodes = (open_behind past.tree p at).2 in
    let now : is_held past.plan (grow End past.tree) past.acts r.0 ≡ false = ⊎_elim (λ t. absurd (stays r.0 (subst (λ (z : List Node). In r.0 z) (sym same) r.1) k.0 k.1 num_is t)) (λ f. f) (cases_Bool (is_held past.plan (grow End past.tree) past.acts r.0)) in
    none_there past h.is_past p at may r.0 r.1 r.3 now
  where
    stays : (n : Node) → In n (grow End past.tree).nodes → (k : ℕ) → In k c.closed.leaves.left → serial_of n ≡ k → is_held past.plan (grow End past.tree) past.acts n ≡ true → ⊥
    stays n i k j e t =
        let r = held_row w (past_fed End past) g n i t in
        let q : num r.0 ≡ k = r.2 ∙ e in
        let f = In-filter (λ (z : Cell). not (is_gone c.closed.leaves.left z)) r.0 (map (with_at shut_row c.place) v.rows) (subst (λ (z : List Cell). In r.0 z) c.closed.leaves.purged.leaves.rows r.1) in
        let is : is_gone c.closed.leaves.left r.0 ≡ true = any_from (λ z. num r.0 == z) k c.closed.leaves.left j (eq-eqb (num r.0) k q) in
        false≢true (ap not (sym is) ∙ f.1)

-- Behind a token that is quiet the run has the same actions.
pub quiet_fed : (stood : Past → Type 0) (past : Past) (v w : View) (t : Said) (f : Fed) → StandsFor v past → StandsFor w (past_fed t past) → may_come t past.tree ≡ true → v.gone ≡ [] → past.acts ≡ actions past.plan past.tree
    → Changes stood v w t f → DoesBy f t past → is_quiet (tally_of f) w ≡ true → actions past.plan (grow t past.tree) ≡ actions past.plan past.tree
quiet_fed stood past v w t (outcomes.Opened s given) h g may empty all c d q =
    let is = h.is_past in
    let none : roles_given past.plan (grow t past.tree) d.0 ≡ [] = none_mapped given (roles_given past.plan (grow t past.tree) d.0) d.3 (none_of given q) in
    (quiet_token is.core is.good past.plan is.placed past.tree is.grown t may (by_opening d.0 d.1 (inl none))).0
  where
    none_mapped : (given : List Role) (roles : List ℕ) → numbers given ≡ roles → given ≡ [] → roles ≡ []
    none_mapped given roles e z = sym e ∙ ap numbers z
quiet_fed stood past v w t (outcomes.Closed s) h g may empty all c d q =
    let is = h.is_past in
    let g' : StandsFor w (past_fed End past) = subst (λ (z : Said). StandsFor w (past_fed z past)) d.1 g in
    let may' : may_come End past.tree ≡ true = ap (λ (z : Said). may_come z past.tree) (sym d.1) ∙ may in
    let none : roles_live past.plan past.tree past.acts d.0 ≡ [] = left_dead v w past s.0 h g' may' empty c.1 q d.0 d.2 in
    let none' : roles_live past.plan past.tree (actions past.plan past.tree) d.0 ≡ [] = subst (λ (A : List Action). roles_live past.plan past.tree A d.0 ≡ []) all none in
    (quiet_token is.core is.good past.plan is.placed past.tree is.grown t may (by_closing d.0 d.1 d.2 none')).0
