-- Tokens told one after another.
use Rattle.std.proofs.Common.{◌≡◌, ℕ, zero, suc, ◌+◌, ◌<◌, List, [], ◌∷◌, ◌++◌, length, get_or, take, drop, refl, sym, ◌∙◌, ap, subst, arith, append_assoc}
use Rattle.std.proofs.lemmas.List.{take_more}
use Rattle.gcx_model.specs.Core.{PlanTree}
use Rattle.gcx_model.specs.Demand.{Line, feed_line}
use Rattle.gcx_model.specs.Run.{Action}
use Rattle.gcx_model.specs.Tree.{Tree, TreeToken, opening, grow, grow_all}
use Rattle.tree_laws.proofs.Growing.{grow_all-append}
use Rattle.time_laws.specs.Leaving.{acts_told, count_offs, is_closed_and_freed, left_where, next_due, tokens_told}
use Rattle.time_laws.specs.Times.{Clock, TimedAction, due, tree_at}
use Rattle.trace_check.specs.Telling.{Puts}
use Rattle.trace_check.proofs.Told.{Leaves, leaves_on, puts_then}

-- the tree with one token more
pub tree_more : (ts : List TreeToken) (i : ℕ) (d : TreeToken) → i < length ts → tree_at ts (suc i) ≡ grow (get_or ts i d) (tree_at ts i)
tree_more ts i d l =
    let more : take (suc i) ts ≡ take i ts ++ get_or ts i d ∷ [] = ap (λ (k : ℕ). take k ts) (let e : suc i ≡ i + 1 = omega arith in e) ∙ take_more ts i d l in
    ap (λ (us : List TreeToken). grow_all us opening) more ∙ grow_all-append (take i ts) (get_or ts i d ∷ []) opening

drop_token : (ts : List TreeToken) (i : ℕ) (d : TreeToken) → i < length ts → drop i ts ≡ get_or ts i d ∷ drop (suc i) ts
drop_token [] i d l = absurd (omega (arith, l))
drop_token (t ∷ ts) zero d l = refl
drop_token (t ∷ ts) (suc i) d l = drop_token ts i d (omega (arith, l))

module _ (plan : PlanTree) (c : Clock) (C : Tree) (T : List TimedAction) (all : List Action) (ts : List TreeToken) (from : List ℕ) (whole : List Line) where
  -- The tokens behind the first i are still to tell.
  abbrev pub AreLeft : (i : ℕ) → (text : List ℕ) → Type 0
  AreLeft i text = Leaves from whole text (tokens_told plan c C T all (drop i ts) (tree_at ts i) i)

  -- one more is told
  pub token_on : (i : ℕ) (d : TreeToken) (text one two three : List ℕ) (F O A : List Line) → i < length ts
      → F ≡ feed_line plan (get_or ts i d) (tree_at ts i).at (tree_at ts i) (grow (get_or ts i d) (tree_at ts i))
      → O ≡ left_where C (is_closed_and_freed c C all (suc i) (count_offs (due i T)))
      → A ≡ acts_told c C all (suc i) (count_offs (due i T)) (next_due T i)
      → Puts text one F → Puts one two O → Puts two three A → AreLeft i text → AreLeft (suc i) three
  token_on i d text one two three F O A l f o a p q r left =
      let t : TreeToken = get_or ts i d in
      let P : Tree = tree_at ts i in
      let rest : List Line = tokens_told plan c C T all (drop (suc i) ts) (grow t P) (suc i) in
      let lines : tokens_told plan c C T all (drop i ts) P i ≡ (F ++ (O ++ A)) ++ rest
      = ap (λ (us : List TreeToken). tokens_told plan c C T all us P i) (drop_token ts i d l)
      ∙ (ap (λ (x : List Line). x ++ (left_where C (is_closed_and_freed c C all (suc i) (count_offs (due i T))) ++ (acts_told c C all (suc i) (count_offs (due i T)) (next_due T i) ++ rest))) (sym f)
      ∙ (ap (λ (x : List Line). F ++ (x ++ (acts_told c C all (suc i) (count_offs (due i T)) (next_due T i) ++ rest))) (sym o)
      ∙ (ap (λ (x : List Line). F ++ (O ++ (x ++ rest))) (sym a)
      ∙ (ap (λ (x : List Line). F ++ x) (sym (append_assoc O A rest)) ∙ sym (append_assoc F (O ++ A) rest))))) in
      let puts : Puts text three (F ++ (O ++ A)) = puts_then text one three F (O ++ A) p (puts_then one two three O A q r) in
      subst (λ (Q : Tree). Leaves from whole three (tokens_told plan c C T all (drop (suc i) ts) Q (suc i))) (sym (tree_more ts i d l))
      (leaves_on from whole text three (F ++ (O ++ A)) rest (subst (λ (x : List Line). Leaves from whole text x) lines left) puts)
