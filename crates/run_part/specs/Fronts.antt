-- Fronts of tokens, and what a run writes over more of them (this project's).
use Rattle.std.proofs.Common.{◌≡◌, ◌≤◌, ◌∙◌, ◌&&◌, ◌++◌, ◌∷◌, [], ℕ, List, true, length, take, drop, refl, sym, ap, subst, arith}
use Rattle.std.specs.Prelude.{flat_map}
use Rattle.std.proofs.lemmas.Bool.{and_parts}
use Rattle.std.proofs.lemmas.List.{take-append-drop, take_all}
use Rattle.std.proofs.lemmas.Grind.{flat_map-append}
use Rattle.gcx_model.specs.Core.{PlanTree}
use Rattle.gcx_model.specs.Growth.{Leads, may_all, may_come}
use Rattle.gcx_model.specs.Points.{actions, so_far}
use Rattle.gcx_model.specs.Run.{bytes_of}
use Rattle.gcx_model.specs.Seen.{seen_tree}
use Rattle.gcx_model.specs.Tree.{Tree, TreeToken as Said, grow, grow_all, opening}
use Rattle.move_laws.proofs.Keeping.{so_far_stays}
use Rattle.tree_laws.proofs.Growing.{grow_all-append, leads}
use Rattle.run_part.specs.Actors.{all_of, bytes_at}

-- ---- a front of tokens, and those behind it

pub may_parts : (ts us : List Said) (P : Tree) → may_all (ts ++ us) P ≡ true → (may_all ts P ≡ true) × (may_all us (grow_all ts P) ≡ true)
may_parts [] us P c = (refl, c)
may_parts (t ∷ ts) us P c =
    let p = and_parts (may_come t P) (may_all (ts ++ us) (grow t P)) c in
    let q = may_parts ts us (grow t P) p.1 in
    (ap (λ z. z && may_all ts (grow t P)) p.0 ∙ q.0, q.1)

-- tokens lead to more
pub more_leads : (ts us : List Said) → may_all (ts ++ us) opening ≡ true → Leads opening (seen_tree ts) × Leads (seen_tree ts) (seen_tree (ts ++ us))
more_leads ts us may =
    let p = may_parts ts us opening may in
    (leads ts opening p.0, subst (λ (T : Tree). Leads (seen_tree ts) T) (sym (grow_all-append ts us opening)) (leads us (seen_tree ts) p.1))

-- ---- what is written

module _ (plan : PlanTree) where
  -- all actions are the first of them and the others
  pub all_is : (P : Tree) → so_far plan P (all_of plan P) ≡ actions plan P
  all_is P = take_all (length (actions plan P)) (actions plan P) (omega arith)

  -- tokens alone write nothing
  pub bytes_stay : (P Q : Tree) (k : ℕ) → Leads opening P → Leads P Q → k ≤ all_of plan P → bytes_at plan Q k ≡ bytes_at plan P k
  bytes_stay P Q k l m h = ap (flat_map bytes_of) (so_far_stays plan P Q k l m h)

  -- more actions write more
  pub bytes_more : (P : Tree) (k : ℕ) → (rest : List ℕ) × (bytes_at plan P (all_of plan P) ≡ bytes_at plan P k ++ rest)
  bytes_more P k =
      (flat_map bytes_of (drop k (actions plan P)), ap (flat_map bytes_of) (all_is P ∙ sym (take-append-drop k (actions plan P))) ∙ flat_map-append bytes_of (take k (actions plan P)) (drop k (actions plan P)))

  -- what is written behind some actions is a front of what the run writes over each tree that comes
  pub bytes_front : (P Q : Tree) (k : ℕ) → Leads opening P → Leads P Q → k ≤ all_of plan P → (rest : List ℕ) × (bytes_at plan Q (all_of plan Q) ≡ bytes_at plan P k ++ rest)
  bytes_front P Q k l m h = let r = bytes_more Q k in (r.0, r.1 ∙ ap (λ z. z ++ r.0) (bytes_stay P Q k l m h))
