-- What waits, as actions in advance.
use Rattle.std.proofs.Common.{◌≡◌, ℕ, zero, suc, Bool, true, false, cond, not, List, [], ◌∷◌, ◌++◌, map, take, drop, refl, sym, ◌∙◌, ap, subst, inl, inr, arith}
use Rattle.std.specs.List.{filter, flat_map}
use Rattle.std.proofs.lemmas.List.{append-nil}
use Rattle.std.proofs.lemmas.List.Elements.{filter-append}
use Rattle.std.proofs.lemmas.Bool.{and_parts}
use Rattle.gcx_model.specs.Tree.{Node, serial_of, is_open_at}
use Rattle.gcx_model.specs.Paths.{matches}
use Rattle.gcx_model.specs.Members.{In}
use Rattle.gcx_model.specs.Core.{OffTree}
use Rattle.gcx_model.specs.ItemView.{off_tree}
use Rattle.gcx_model.specs.Run.{Action, Wrote, Offed}
use Rattle.gcx_model.specs.Placed.{offs_in, is_own}
use Rattle.gcx_model.specs.Growth.{level}
use Rattle.gcx_model.specs.Held.{path_of}
use Rattle.gcx_model.specs.Past.{Past, IsPast, is_ahead, Awaited, awaited, waiting_offs}
use Rattle.base_laws.proofs.Members.{in_drop}
use Rattle.base_laws.proofs.Lists.{cons_tail, cons_head, nil_cons}
use Rattle.tree_laws.proofs.Matches.{Matches-in}
use Rattle.past_laws.proofs.Ahead.{open_nodes_are}
use Rattle.past_laws.proofs.Awaited.{waiting_law}
use Rattle.buf_tree.specs.declared.ahead.Ahead.{Ahead}
use Rattle.buf_tree.specs.Stands.{awaited_by}
use Rattle.projector.specs.Signing.{AreDue, carried}

take_drop : {X : Type 0} (k : ℕ) (xs : List X) → take k xs ++ drop k xs ≡ xs
take_drop zero xs = refl
take_drop (suc k) [] = refl
take_drop (suc k) (x ∷ xs) = ap (λ z. x ∷ z) (take_drop k xs)

module _ (past : Past) (is : IsPast past) where
  abbrev bare : Past
  bare = record { plan = past.plan; tree = past.tree; acts = []; fed = 0 }

  is_bare : IsPast bare
  is_bare = record { core = is.core; good = is.good; placed = is.placed; grown = is.grown; stated = λ o m i. absurd i; within = omega arith }

  awaits : (o : OffTree) (m : Node) → In m past.tree.nodes → awaited past.tree (Offed o (serial_of m)) ≡ cond (is_ahead past.tree (Offed o (serial_of m))) (record { level = level m; off = o } ∷ []) []
  awaits o m i = sym (append-nil _) ∙ (waiting_law bare is_bare).2 o m i

  -- what waits for these actions is at open nodes; and carrying it out makes those of them that are in advance
  abbrev Waits : List Ahead → List Action → Type 0
  Waits ws A = (ns : List Node) × AreDue past.plan past.tree ws ns × (carried ws ns ≡ filter (is_ahead past.tree) A)

  abbrev Stated : List Action → Type 0
  Stated A = (o : OffTree) (m : ℕ) → In (Offed o m) A → In o (offs_in past.plan.body) × ((n : Node) × In n (matches past.tree 0 (path_of past.plan o.base)) × (serial_of n ≡ m))

  one : (w : Ahead) (ws : List Ahead) (A : List Action) (o : OffTree) (n : Node) → In o (offs_in past.plan.body) → In n (matches past.tree 0 (path_of past.plan o.base)) → is_ahead past.tree (Offed o (serial_of n)) ≡ true
      → awaited_by w ≡ record { level = level n; off = o } → Waits ws A → Waits (w ∷ ws) (Offed o (serial_of n) ∷ A)
  one w ws A o n s b h e r =
      let f : off_tree w.off ≡ o = ap (λ (z : Awaited). z.off) e in
      let i = (Matches-in past.tree 0 (path_of past.plan o.base) n b).0 in (
        n ∷ r.0,
        (
          record {
            stated = subst (λ (z : OffTree). In z (offs_in past.plan.body)) (sym f) s;
            is_open = (open_nodes_are past.tree is.grown n i).0 (and_parts (is_open_at past.tree.at (serial_of n)) (not (is_own o)) h).0;
            same = sym (ap (λ (z : Awaited). z.level) e);
            base = subst (λ (z : OffTree). In n (matches past.tree 0 (path_of past.plan z.base))) (sym f) b;
          },
          r.1,
        ),
        (λ t. Offed (f t) (serial_of n) ∷ r.2 t) ∙ sym (ap (λ c. cond c (Offed o (serial_of n) ∷ filter (is_ahead past.tree) A) (filter (is_ahead past.tree) A)) h),
      )

  -- a statement more, at this node
  more : (A : List Action) → ((vs : List Ahead) → map awaited_by vs ≡ flat_map (awaited past.tree) A → Waits vs A) → (o : OffTree) (n : Node) → In o (offs_in past.plan.body) → In n (matches past.tree 0 (path_of past.plan o.base))
      → (c : Bool) → is_ahead past.tree (Offed o (serial_of n)) ≡ c → (ws : List Ahead)
      → map awaited_by ws ≡ cond c (record { level = level n; off = o } ∷ []) [] ++ flat_map (awaited past.tree) A → Waits ws (Offed o (serial_of n) ∷ A)
  more A rest o n i b false h ws e =
      let r = rest ws e in
      (r.0, r.1, r.2 ∙ sym (ap (λ c. cond c (Offed o (serial_of n) ∷ filter (is_ahead past.tree) A) (filter (is_ahead past.tree) A)) h))
  more A rest o n i b true h [] e = absurd (nil_cons _ _ e)
  more A rest o n i b true h (v ∷ vs) e = one v vs A o n i b h (cons_head _ _ _ _ e) (rest vs (cons_tail _ _ _ _ e))

  waits : (A : List Action) → Stated A → (ws : List Ahead) → map awaited_by ws ≡ flat_map (awaited past.tree) A → Waits ws A
  waits [] s [] e = ([], tt, refl)
  waits [] s (w ∷ ws) e = absurd (nil_cons _ _ (sym e))
  waits (Wrote b ∷ A) s ws e = waits A (λ o m i. s o m (inr i)) ws e
  waits (Offed o m ∷ A) s ws e =
      let q = s o m (inl refl) in
      subst (λ (z : ℕ). Waits ws (Offed o z ∷ A)) q.1.2
      (more A (waits A (λ p k j. s p k (inr j))) o q.1.0 q.0 q.1.1 (is_ahead past.tree (Offed o (serial_of q.1.0))) refl ws
      (e ∙ ap (λ z. awaited past.tree (Offed o z) ++ flat_map (awaited past.tree) A) (sym q.1.2)
      ∙ ap (λ z. z ++ flat_map (awaited past.tree) A) (awaits o q.1.0 (Matches-in past.tree 0 (path_of past.plan o.base) q.1.0 q.1.1).0)))

  -- so the matcher hears of all that is in advance
  pub all_heard : (ws : List Ahead) → map awaited_by ws ≡ waiting_offs past
      → (ns : List Node) × AreDue past.plan past.tree ws ns × (filter (is_ahead past.tree) (take past.fed past.acts) ++ carried ws ns ≡ filter (is_ahead past.tree) past.acts)
  all_heard ws e =
      let r = waits (drop past.fed past.acts) (λ o m i. is.stated o m (in_drop past.fed (Offed o m) past.acts i)) ws e in (
        r.0,
        r.1,
        ap (λ z. filter (is_ahead past.tree) (take past.fed past.acts) ++ z) r.2
            ∙ (sym (filter-append (is_ahead past.tree) (take past.fed past.acts) (drop past.fed past.acts)) ∙ ap (filter (is_ahead past.tree)) (take_drop past.fed past.acts)),
      )
