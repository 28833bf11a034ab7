-- A changed cell.
use Rattle.std.proofs.Common.{◌≡◌, Bool, true, false, cond, List, [], ◌∷◌, Option, Some, None, refl, sym, ap, ◌∙◌, rules}
use Rattle.std.specs.Prelude.{IsSome, IfSome}
use Rattle.raw_nodes.specs.Nodes.{paid_node}
use Rattle.raw_nodes.specs.Edits.{to_next, to_first, to_last, to_row, right_put, join_put}
use Rattle.raw_nodes.specs.declared.arena.Link.{Link}
use Rattle.raw_nodes.specs.declared.node.Node.{Node}
use denote.RawPtr.{Ptr}
use Rattle.raw_nodes.specs.Spots.{Spot, same_ptr, found, written, updated}

module _ {X : Type 0} where
  -- a write of the changed value changes it
  pub written_updated : (f : X → X) (ss : List (Spot X)) (p : Ptr) (x : X) → found ss p ≡ Some x → written ss p (f x) ≡ updated f ss p
  written_updated f [] p x e = refl
  written_updated f (s ∷ ss) p x e = go (same_ptr s.at p) e (written_updated f ss p x)
    where
      go : (b : Bool) → cond b (Some s.held) (found ss p) ≡ Some x → (found ss p ≡ Some x → written ss p (f x) ≡ updated f ss p)
          → cond b (record { at = s.at; held = f x } ∷ ss) (s ∷ written ss p (f x)) ≡ cond b (record { at = s.at; held = f s.held } ∷ ss) (s ∷ updated f ss p)
      go true e rest = let same : x ≡ s.held = sym (search e) in λ i. let one : Spot X = record { at = s.at; held = f (same i) } in one ∷ ss
      go false e rest = ap (λ ts. s ∷ ts) (rest e)

  -- a write of what is there
  pub written_same : (ss : List (Spot X)) (p : Ptr) (x : X) → found ss p ≡ Some x → written ss p x ≡ ss
  written_same [] p x e = refl
  written_same (s ∷ ss) p x e = go (same_ptr s.at p) e (written_same ss p x)
    where
      go : (b : Bool) → cond b (Some s.held) (found ss p) ≡ Some x → (found ss p ≡ Some x → written ss p x ≡ ss) → cond b (record { at = s.at; held = x } ∷ ss) (s ∷ written ss p x) ≡ s ∷ ss
      go true e rest = let same : x ≡ s.held = sym (search e) in λ i. let one : Spot X = record { at = s.at; held = same i } in one ∷ ss
      go false e rest = ap (λ ts. s ∷ ts) (rest e)

  -- a cell that is found is found after a change
  pub found_updated : (f : X → X) (ss : List (Spot X)) (p q : Ptr) → IsSome (found ss q) → IsSome (found (updated f ss p) q)
  found_updated f [] p q some = some
  found_updated f (s ∷ ss) p q some = go (same_ptr s.at p) some (found_updated f ss p q)
    where
      step : (b : Bool) (x y : X) (o v : Option X) → IsSome (cond b (Some x) o) → (IsSome o → IsSome v) → IsSome (cond b (Some y) v)
      step true x y o v some rest = search rules
      step false x y o v some rest = rest some

      go : (a : Bool) → IsSome (cond (same_ptr s.at q) (Some s.held) (found ss q)) → (IsSome (found ss q) → IsSome (found (updated f ss p) q))
          → IsSome (found (cond a (record { at = s.at; held = f s.held } ∷ ss) (s ∷ updated f ss p)) q)
      go true some rest = step (same_ptr s.at q) s.held (f s.held) (found ss q) (found ss q) some (λ h. h)
      go false some rest = step (same_ptr s.at q) s.held s.held (found ss q) (found (updated f ss p) q) some rest

module _ {T : Type 0} where
  pub paid_same : (n : Node T) (x : T) → n.payload ≡ Some x → paid_node n x ≡ n
  paid_same n x paid = λ i. record { number = n.number; parent = n.parent; first = n.first; last = n.last; prev = n.prev; next = n.next; payload = sym paid i }

  pub still_there : (cells : List (Spot (Node T))) (parent left right l : Option Link) → IfSome l (λ k. IsSome (found cells k.ptr)) → IfSome l (λ k. IsSome (found (right_put parent left right cells) k.ptr))
  still_there cells parent (Some k) right None there = tt
  still_there cells parent (Some k) right (Some l) there = found_updated (to_next right) cells k.ptr l.ptr there
  still_there cells (Some q) None right None there = tt
  still_there cells (Some q) None right (Some l) there = found_updated (to_first right) cells q.ptr l.ptr there
  still_there cells None None right l there = there

  -- a last child is put below a row, in three steps
  module _ (were : List (Spot (Node T))) (up link : Link) (last above added : Option Link) (x : T) (up_is : above ≡ Some up) (link_is : added ≡ Some link) where
    module _ (rowed : List (Spot (Node T))) (row : rowed ≡ updated (to_row above last x) were link.ptr) where
      pub row_put : rowed ≡ updated (to_row (Some up) last x) were link.ptr
      row_put = row ∙ ap (λ l. updated (to_row l last x) were link.ptr) up_is

      module _ (led : List (Spot (Node T))) (lead : led ≡ updated (to_last added) rowed up.ptr) where
        pub last_put : led ≡ updated (to_last (Some link)) (updated (to_row (Some up) last x) were link.ptr) up.ptr
        last_put = lead ∙ ap (λ l. updated (to_last l) rowed up.ptr) link_is ∙ ap (λ cells. updated (to_last (Some link)) cells up.ptr) row_put

        pub child_put : (now : List (Spot (Node T))) → now ≡ join_put above last added led
            → now ≡ join_put (Some up) last (Some link) (updated (to_last (Some link)) (updated (to_row (Some up) last x) were link.ptr) up.ptr)
        child_put now joins = joins ∙ (λ i. join_put (up_is i) last (link_is i) led) ∙ ap (join_put (Some up) last (Some link)) last_put
