-- The statements that wait for the next token.
use Rattle.std.proofs.Common.{◌≡◌, ℕ, ◌≤◌, Bool, true, false, cond, not, ◌&&◌, ◌||◌, [], ◌∷◌, ◌++◌, length, map, refl, ◌∙◌, ap, inl, inr, arith, Some, None, Option, eqb}
use Rattle.std.specs.Prelude.{drop}
use Rattle.std.specs.List.{filter, flat_map}
use Rattle.std.proofs.lemmas.List.{append-nil, drop-append-le, drop_all}
use Rattle.std.proofs.lemmas.Grind.{flat_map-append}
use Rattle.std.proofs.lemmas.Bool.{or_cases, eqb-true, false_from_ne_true}
use Rattle.gcx_model.specs.Tree.{Node, Root, Under, serial_of, above, within, Tree, grow, is_open_at}
use Rattle.gcx_model.specs.Members.{In}
use Rattle.gcx_model.specs.Nodes.{Grown}
use Rattle.gcx_model.specs.Core.{OffTree}
use Rattle.gcx_model.specs.Run.{Action, Wrote, Offed}
use Rattle.gcx_model.specs.Placed.{is_own}
use Rattle.gcx_model.specs.Growth.{level}
use Rattle.gcx_model.specs.Past.{Past, IsPast, past_acted, is_ahead, open_from, Awaited, awaited, waiting_offs}
use Rattle.past_laws.specs.Pasts.{WaitingLaw}
use Rattle.tree_laws.proofs.Matches.{Numbered-same}
use Rattle.past_laws.proofs.Bases.{is_grown}

-- an ancestor has no greater number
pub within_low : (P : Tree) → Grown P → (k : ℕ) (n : Node) → In n P.nodes → within k n ≡ true → k ≤ serial_of n
within_low P w k Root i h = let e = eqb-true 0 k h in omega arith
within_low P w k (Under p s d) i h = elim (or_cases (eqb s k) (within k p) h) [
  | inl e ↦ (let f = eqb-true s k e in omega arith)
  | inr e ↦ (let f = within_low P w k p (w.upward p s d i) e in let g = w.below p s d i in omega arith)
]

abbrev pub is_at : Node → Node → Bool
is_at m n = eqb (serial_of n) (serial_of m)

-- of the nodes above p, itself included, at most one is m
one_above : (P : Tree) → Grown P → (m p : Node) → In m P.nodes → In p P.nodes → filter (is_at m) (above p) ≡ cond (within (serial_of m) p) (m ∷ []) []
one_above P w m Root i j = go (eqb 0 (serial_of m)) refl
  where
    go : (c : Bool) → eqb 0 (serial_of m) ≡ c → cond c (Root ∷ []) [] ≡ cond c (m ∷ []) []
    go true e = ap (λ (z : Node). z ∷ []) (Numbered-same 0 P.nodes w.numbered Root m j i (eqb-true 0 (serial_of m) e))
    go false e = refl
one_above P w m (Under p s d) i j = go (eqb s (serial_of m)) refl (one_above P w m p i (w.upward p s d j))
  where
    go : (c : Bool) → eqb s (serial_of m) ≡ c → filter (is_at m) (above p) ≡ cond (within (serial_of m) p) (m ∷ []) []
        → cond c (Under p s d ∷ filter (is_at m) (above p)) (filter (is_at m) (above p)) ≡ cond (c || within (serial_of m) p) (m ∷ []) []
    go true e ih =
        let f = eqb-true s (serial_of m) e in
        let g = w.below p s d j in
        let none : within (serial_of m) p ≡ false = false_from_ne_true (within (serial_of m) p) (λ h. let l = within_low P w (serial_of m) p (w.upward p s d j) h in absurd (omega arith)) in
        ap (λ z. Under p s d ∷ z) (ih ∙ ap (λ c. cond c (m ∷ []) []) none) ∙ ap (λ (z : Node). z ∷ []) (Numbered-same 0 P.nodes w.numbered (Under p s d) m j i f)
    go false e ih = ih

one_open : (P : Tree) → Grown P → (m : Node) → In m P.nodes → (at : Option Node) → P.at ≡ at → filter (is_at m) (open_from at) ≡ cond (is_open_at at (serial_of m)) (m ∷ []) []
one_open P w m i None e = refl
one_open P w m i (Some p) e = one_above P w m p i (w.at_in p e)

abbrev awaits : OffTree → Node → Awaited
awaits s n = record { level = level n; off = s }

awaited_is : (P : Tree) → Grown P → (s : OffTree) (m : Node) → In m P.nodes → awaited P (Offed s (serial_of m)) ≡ cond (is_ahead P (Offed s (serial_of m))) (awaits s m ∷ []) []
awaited_is P w s m i = ap (λ ns. cond (is_own s) [] (map (awaits s) ns)) (one_open P w m i P.at refl) ∙ go (is_own s) (is_open_at P.at (serial_of m))
  where
    go : (c d : Bool) → cond c [] (map (awaits s) (cond d (m ∷ []) [])) ≡ cond (d && not c) (awaits s m ∷ []) []
    go true true = refl
    go true false = refl
    go false true = refl
    go false false = refl

-- an action more
waits_more : (past : Past) → IsPast past → (a : Action) → waiting_offs (past_acted a past) ≡ waiting_offs past ++ awaited past.tree a
waits_more past is a =
    ap (flat_map (awaited past.tree)) (drop-append-le past.fed past.acts (a ∷ []) is.within)
    ∙ (flat_map-append (awaited past.tree) (drop past.fed past.acts) (a ∷ []) ∙ ap (λ z. waiting_offs past ++ z) (append-nil (awaited past.tree a)))

pub waiting_law : WaitingLaw
waiting_law past is = (
  (λ t. ap (flat_map (awaited (grow t past.tree))) (drop_all (length past.acts) past.acts (omega arith))),
  (λ b. waits_more past is (Wrote b) ∙ append-nil (waiting_offs past)),
  (λ s m i. waits_more past is (Offed s (serial_of m)) ∙ ap (λ z. waiting_offs past ++ z) (awaited_is past.tree (is_grown past is) s m i)),
)
