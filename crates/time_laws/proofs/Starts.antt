-- The lines before any token.
use Rattle.std.proofs.Common.{◌≡◌, ℕ, suc, ◌+◌, ◌≤◌, Bool, false, cond, ◌&&◌, List, [], ◌∷◌, ◌++◌, map, refl, sym, ◌∙◌, ap, subst, inl, arith, leb, eqb}
use Rattle.std.specs.Prelude.{reverse}
use Rattle.std.proofs.lemmas.Bool.{leb-true}
use Rattle.gcx_model.specs.Tree.{Node, Root, serial_of, End, opening, grow}
use Rattle.gcx_model.specs.Core.{PlanTree}
use Rattle.gcx_model.specs.Run.{Action, Wrote, Offed}
use Rattle.gcx_model.specs.Points.{actions}
use Rattle.gcx_model.specs.Demand.{Left, action_line, act_lines, opened_line}
use Rattle.time_laws.specs.Times.{Clock, is_there}
use Rattle.time_laws.specs.Leaving.{count_offs, freed_of, acts_told}
use Rattle.time_laws.specs.Laws.{TraceBeforeTokens}
use Rattle.tree_laws.proofs.Lists.{In, In-filter}
use Rattle.time_laws.proofs.Runs.{run_by_times}

-- the document node isn't closed yet, so it doesn't leave
acts_first : (plan : PlanTree) (all : List Action) (c : Clock) → leb (c.closed 0) 0 ≡ false → (k : ℕ) (A xs : List Action) → act_lines plan opening A xs ≡ acts_told c (grow End opening) all 0 k xs
acts_first plan all c h k A [] = refl
acts_first plan all c h k A (Wrote b ∷ xs) = ap (λ z. action_line (Wrote b) ∷ z) (acts_first plan all c h (count_offs (Wrote b ∷ []) + k) (A ++ Wrote b ∷ []) xs)
acts_first plan all c h k A (Offed o m ∷ xs) =
    let rest = acts_told c (grow End opening) all 0 (count_offs (Offed o m ∷ []) + k) xs in
    ap (λ z. action_line (Offed o m) ∷ z) (acts_first plan all c h (count_offs (Offed o m ∷ []) + k) (A ++ Offed o m ∷ []) xs)
    ∙ ap (λ z. action_line (Offed o m) ∷ (z ++ rest)) (sym (none_left (leb (c.closed 0) 0) (eqb (freed_of (grow End opening) all Root) (suc k)) h))
  where
    none_left : (x y : Bool) → x ≡ false → map Left (map serial_of (reverse (cond (x && y) (Root ∷ []) []))) ≡ []
    none_left x y e = rw e refl

pub trace_before_tokens : TraceBeforeTokens
trace_before_tokens plan all c ck =
    let late : leb (c.closed 0) 0 ≡ false = sym (ck.closed 0 (omega arith) Root (inl refl) first) in
    ap (λ z. opened_line plan opening Root ∷ (z ++ [])) (acts_first plan all c late 0 [] (actions plan opening)
    ∙ ap (λ z. acts_told c (grow End opening) all 0 0 z) (run_by_times c (End ∷ []) (grow End opening) 1 ck plan 0 (omega arith)))
  where
    first : c.opened 0 ≤ 0
    first = leb-true (c.opened 0) 0 (In-filter (is_there c 0) Root (Root ∷ []) (subst (λ (z : List Node). In Root z) (ck.nodes 0 (omega arith)) (inl refl))).1
