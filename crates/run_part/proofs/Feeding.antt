-- What a token makes of the actors and of the counts.
use Rattle.std.proofs.Common.{◌≡◌, ⊎_elim, ℕ, ◌+◌, ◌≤◌, Bool, true, false, not, cond, ◌==◌, max, List, [], ◌∷◌, length, map, refl, sym, ◌∙◌, ap, subst, inl, inr, arith, Some, None, Option}
use Rattle.std.proofs.lemmas.List.{length-map, length-append}
use Rattle.gcx_base.specs.declared.ids.Role.{Role}
use Rattle.gcx_base.specs.declared.kind.Kind.{Kind}
use Rattle.gcx_model.specs.Tree.{Node, Tree, TreeToken as Said, End, opening, grow}
use Rattle.gcx_model.specs.Members.{In}
use Rattle.gcx_model.specs.Core.{PlanTree}
use Rattle.gcx_model.specs.Run.{Action}
use Rattle.gcx_model.specs.Held.{held, roles_given, roles_taken, sum_given, sum_taken}
use Rattle.gcx_model.specs.Growth.{Leads, more, stays, may_come}
use Rattle.gcx_model.specs.Points.{so_far, fed as feeds}
use Rattle.gcx_model.specs.Past.{Past, IsPast, past_fed, Opens, token_for}
use Rattle.base_laws.proofs.Lists.{filter_few}
use Rattle.tree_laws.proofs.Lists.{In-append, In-filter}
use Rattle.tree_laws.proofs.Growing.{grows}
use Rattle.move_laws.proofs.Keeping.{so_far_stays, taken_are_there}
use Rattle.past_laws.proofs.RowFacts.{open_behind}
use Rattle.run_laws.proofs.Summing.{sums_by_feed}
use Rattle.buf_tree.specs.Rows.{shut_row}
use Rattle.buf_tree.specs.Shape.{Cell, num, with_at}
use Rattle.buf_tree.specs.Purge.{is_gone}
use Rattle.buf_tree.specs.View.{View, capped}
use Rattle.buf_tree.specs.Calls.{numbers, new_row, with_new, most_new}
use Rattle.buf_tree.specs.Stands.{StandsFor}
use Rattle.buf_tree.proofs.Counts.{capped_twice}
use Rattle.projector.specs.Calls.{tally_of}
use Rattle.projector.specs.Projector.{Projects, Places, Changes, DoesBy}
use Rattle.projector.specs.declared.projector.Fed.{Fed}
use Rattle.projector.specs.declared.projector.Fed.TheVariants as outcomes
use Rattle.projector.specs.declared.projector.Projector.{Projector}
use Rattle.pull_eval.specs.Acting.{Beside}
use Rattle.pull_eval.specs.declared.position.Position.{Position}
use Rattle.run_part.specs.Actors.{ActorsStand, past_at, Counted, counted}
use Rattle.run_part.specs.declared.actors.Tallied.{Tallied}
use Rattle.run_part.proofs.Coming.{Comes, position_on}
use Rattle.run_part.proofs.RowsHeld.{rows_count}
use Rattle.run_part.proofs.Taking.{told_all, beside_told}

-- ---- rows and numbers of a view behind a token

-- the rows that were there keep their places
new_comes : (v : View) (q : ℕ) (kind : Kind) (given ahead : List Role) (k : ℕ) → v.nodes ≡ k → (at : Option ℕ) → Comes v.rows (with_new at (new_row v q kind given ahead) v.rows) k
new_comes v q kind given ahead k e None c i = inl (c, i, refl, refl)
new_comes v q kind given ahead k e (Some p) c i =
    ⊎_elim (λ a. inl (c, a, refl, refl)) (λ b. inr (one b)) (In-append c v.rows (record { place = p; row = new_row v q kind given ahead } ∷ []) i)
  where
    one : In c (record { place = p; row = new_row v q kind given ahead } ∷ []) → k ≤ num c
    one (inl s) = let h : v.nodes ≡ num c = ap num s in omega arith
    one (inr s) = absurd s

pub shut_comes : (xs : List Cell) (p : ℕ) (c : Cell) → In c (map (with_at shut_row p) xs) → (d : Cell) × In d xs × (d.place ≡ c.place) × (num d ≡ num c)
shut_comes [] p c i = absurd i
shut_comes (x ∷ xs) p c (inl e) = (x, inl refl, go (x.place == p) ∙ ap (λ (z : Cell). z.place) e, same (x.place == p) ∙ ap num e)
  where
    go : (b : Bool) → x.place ≡ (cond b (record { place = x.place; row = shut_row x.row }) x).place
    go true = refl
    go false = refl

    same : (b : Bool) → num x ≡ num (cond b (record { place = x.place; row = shut_row x.row }) x)
    same true = refl
    same false = refl
shut_comes (x ∷ xs) p c (inr i) = let h = shut_comes xs p c i in (h.0, inr h.1, h.2, h.3)

module _ (v w : View) (k : ℕ) (nodes : v.nodes ≡ k) (stood : Past → Type 0) (t : Said) where
  pub comes : (f : Fed) → Changes stood v w t f → Comes v.rows w.rows k
  comes (outcomes.Opened s given) c =
      let e : w.rows ≡ with_new c.at (new_row v c.parent c.kind given c.opened.ahead) v.rows = ap (λ (z : View). z.rows) c.opened.cleared ∙ c.opened.opened.rows in
      subst (λ (z : List Cell). Comes v.rows z k) (sym e) (new_comes v c.parent c.kind given c.opened.ahead k nodes c.at)
  comes (outcomes.Closed s) c = λ j i.
      let l = c.1.closed.leaves.purged.leaves in
      let q = In-filter (λ (z : Cell). not (is_gone c.1.closed.leaves.left z)) j (map (with_at shut_row c.1.place) v.rows) (subst (λ (z : List Cell). In j z) l.rows i) in
      inl (shut_comes v.rows c.1.place j q.0)

  -- the greatest number of rows
  pub most_fed : (f : Fed) → Changes stood v w t f → length v.rows ≤ v.most → w.most ≡ max v.most (length w.rows)
  most_fed (outcomes.Opened s given) c l =
      let a : w.most ≡ most_new c.at v = ap (λ (z : View). z.most) c.opened.cleared ∙ c.opened.opened.most in
      let b : w.rows ≡ with_new c.at (new_row v c.parent c.kind given c.opened.ahead) v.rows = ap (λ (z : View). z.rows) c.opened.cleared ∙ c.opened.opened.rows in
      a ∙ (go c.at ∙ ap (λ (z : List Cell). max v.most (length z)) (sym b))
    where
      go : (at : Option ℕ) → most_new at v ≡ max v.most (length (with_new at (new_row v c.parent c.kind given c.opened.ahead) v.rows))
      go None = omega arith
      go (Some p) = let e = length-append v.rows (record { place = p; row = new_row v c.parent c.kind given c.opened.ahead } ∷ []) in omega arith
  most_fed (outcomes.Closed s) c l =
      let a = c.1.closed.most in
      let r = c.1.closed.leaves.purged.leaves.rows in
      let f = filter_few (λ (z : Cell). not (is_gone c.1.closed.leaves.left z)) (map (with_at shut_row c.1.place) v.rows) in
      let m = length-map v.rows (with_at shut_row c.1.place) in
      let e = ap length r in
      omega arith

-- ---- the sums

module _ (plan : PlanTree) (P : Tree) (k fed : ℕ) (is : IsPast (past_at plan P k fed)) (t : Said) (may : may_come t P ≡ true) where
  opened_sums : (n : Node) → Opens P t n
      → (sum_given plan (grow t P) ≡ sum_given plan P + length (roles_given plan (grow t P) n))
      × (sum_taken plan (grow t P) (so_far plan P k) ≡ sum_taken plan P (so_far plan P k) + length (roles_taken plan (grow t P) (so_far plan P k) n))
  opened_sums n o = (sums_by_feed (past_at plan P k fed) is t may).0 n o

  closed_sums : (n : Node) → t ≡ End → P.at ≡ Some n → (sum_given plan (grow t P) ≡ sum_given plan P) × (sum_taken plan (grow t P) (so_far plan P k) ≡ sum_taken plan P (so_far plan P k))
  closed_sums n e at =
      let h = (open_behind P n at).2 in
      (sums_by_feed (past_at plan P k fed) is t may).1 (ap (λ (z : Said). (grow z P).nodes) e ∙ h)

  pub given_fed : (f : Fed) → DoesBy f t (past_at plan P k fed) → (n : Tallied) (rows : ℕ) → n.given ≡ capped (sum_given plan P) → (counted n (tally_of f) rows).given ≡ capped (sum_given plan (grow t P))
  given_fed (outcomes.Opened s given) d n rows e =
      let h = (opened_sums d.0 d.1).0 in
      let l : length given ≡ length (roles_given plan (grow t P) d.0) = sym (length-map given (λ (r : Role). r.0)) ∙ ap length d.3 in
      let c = capped_twice (sum_given plan P) (length given) in
      ap (λ z. capped (z + length given)) e ∙ (c ∙ ap capped (ap (λ z. sum_given plan P + z) l ∙ sym h))
  given_fed (outcomes.Closed s) d n rows e =
      let h = (closed_sums d.0 d.1 d.2).0 in
      let c = capped_twice (sum_given plan P) 0 in
      ap (λ z. capped (z + 0)) e ∙ (c ∙ ap capped (omega (arith, h)))

  pub taken_fed : (v w : View) (stood : Past → Type 0) (f : Fed) → Changes stood v w t f → StandsFor v (past_at plan P k fed) → stood (past_at plan P k fed) → DoesBy f t (past_at plan P k fed)
      → v.taken ≡ capped (sum_taken plan P (so_far plan P k)) → w.taken ≡ capped (sum_taken plan (grow t P) (so_far plan P k))
  taken_fed v w stood (outcomes.Opened s given) c h st d m =
      let A = so_far plan P k in
      let ahead = c.opened.ahead in
      let may' : may_come (token_for c.kind) P ≡ true = ap (λ (z : Said). may_come z P) c.token ∙ may in
      let opens' : Opens P (token_for c.kind) d.0 = subst (λ (z : Said). Opens P z d.0) (sym c.token) d.1 in
      let roles : numbers ahead ≡ roles_taken plan (grow t P) A d.0 = c.opened.taken (past_at plan P k fed) d.0 h st may' opens' ∙ ap (λ (z : Said). roles_taken plan (grow z P) A d.0) c.token in
      let l : length ahead ≡ length (roles_taken plan (grow t P) A d.0) = sym (length-map ahead (λ (r : Role). r.0)) ∙ ap length roles in
      let e : w.taken ≡ capped (v.taken + length ahead) = ap (λ (z : View). z.taken) c.opened.cleared ∙ c.opened.opened.taken in
      e ∙ (ap (λ z. capped (z + length ahead)) m ∙ (capped_twice (sum_taken plan P A) (length ahead) ∙ ap capped (ap (λ z. sum_taken plan P A + z) l ∙ sym (opened_sums d.0 d.1).1)))
  taken_fed v w stood (outcomes.Closed s) c h st d m = c.1.closed.taken ∙ (m ∙ ap capped (sym (closed_sums d.0 d.1 d.2).1))

-- ---- the actors

-- behind a token they stand for the longer tree with the same actions
pub stands_fed : (plan : PlanTree) (before : Tree → Type 0) (p q : Projector) (m : Position) (v w : View) (P : Tree) (k : ℕ) (t : Said) (f : Fed) (s : ActorsStand plan before p m v P k) → may_come t P ≡ true
    → ((T : Tree) → Leads opening P → Leads P T → before T) → Projects q (past_fed t (past_at plan P k s.fed)) → StandsFor w (past_fed t (past_at plan P k s.fed)) → Places q w
    → Changes (Projects p) v w t f → DoesBy f t (past_at plan P k s.fed) → ActorsStand plan before q m (told_all w) (grow t P) k
stands_fed plan before p q m v w P k t f s may on pr st keeps c d =
    let is = s.beside.buffer.is_past in
    let l : Leads opening P = is.grown in
    let g : Leads P (grow t P) = more stays (grows t P may) in
    let there = taken_are_there plan P k s.beside.state in
    let same : so_far plan P k ≡ so_far plan (grow t P) k = sym (so_far_stays plan P (grow t P) k l g there) in
    let j = length (so_far plan P k) in
    let e : past_fed t (past_at plan P k s.fed) ≡ past_at plan (grow t P) k j = ap (λ (A : List Action). record { plan = plan; tree = grow t P; acts = A; fed = j }) same in
    let st' : StandsFor w (past_at plan (grow t P) k j) = subst (λ (x : Past). StandsFor w x) e st in
    let n : v.nodes ≡ length P.nodes = s.beside.buffer.nodes in
    let taken : w.taken ≡ capped (sum_taken plan (grow t P) (so_far plan P k)) = taken_fed plan P k s.fed is t may v w (Projects p) f c s.beside.buffer s.projects d s.beside.taken in
    let b : Beside m w (past_at plan (grow t P) k j) k = record {
      state = feeds s.beside.state (grows t P may);
      acts = refl;
      buffer = st';
      taken = taken ∙ ap (λ (A : List Action). capped (sum_taken plan (grow t P) A)) same;
      position = position_on P (grow t P) l g v.rows w.rows (comes v w (length P.nodes) n (Projects p) t f c) is.core is.good plan is.placed k s.beside.state m there s.beside.position;
    } in
    record {
      fed = j;
      projects = subst (λ (x : Past). Projects q x) e pr;
      keeps = keeps;
      gone = refl;
      beside = beside_told m w (past_at plan (grow t P) k j) k b;
      stand = on (grow t P) l g;
    }

-- and the counts are those of it
pub counts_fed : (plan : PlanTree) (before : Tree → Type 0) (p : Projector) (m : Position) (v w : View) (P : Tree) (k : ℕ) (t : Said) (f : Fed) (s : ActorsStand plan before p m v P k) → may_come t P ≡ true
    → StandsFor w (past_fed t (past_at plan P k s.fed)) → Changes (Projects p) v w t f → DoesBy f t (past_at plan P k s.fed) → (n : Tallied) (rows : ℕ) → rows ≡ length w.rows
    → Counted plan t P k v (told_all w) n (counted n (tally_of f) rows)
counts_fed plan before p m v w P k t f s may st c d n rows e =
    let held_is : length w.rows ≡ length (held plan (grow t P) (so_far plan P k)) = rows_count w (past_fed t (past_at plan P k s.fed)) st in
    record {
      given = given_fed plan P k s.fed s.beside.buffer.is_past t may f d n rows;
      peak = ap (max n.peak) (e ∙ held_is);
      most = λ l. most_fed v w (length P.nodes) s.beside.buffer.nodes (Projects p) t f c l ∙ ap (max v.most) held_is;
      rows = held_is;
    }
