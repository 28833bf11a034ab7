-- How the counts go on.
use Rattle.std.proofs.Common.{◌≡◌, ℕ, ◌+◌, ◌<◌, ◌≤◌, true, max, List, [], ◌∷◌, ◌++◌, length, drop, refl, sym, ◌∙◌, ap, subst, arith, append_assoc}
use Rattle.std.proofs.lemmas.List.{append-nil, length-append, take-append-drop}
use Rattle.gcx_model.specs.Tree.{Tree, TreeToken as Said, opening, grow, grow_all}
use Rattle.gcx_model.specs.Core.{BodyTree, PlanTree}
use Rattle.gcx_model.specs.Run.{Action}
use Rattle.gcx_model.specs.Cores.{Good}
use Rattle.gcx_model.specs.Placed.{Placed}
use Rattle.gcx_model.specs.Held.{held, sum_given}
use Rattle.gcx_model.specs.Growth.{Leads, may_all}
use Rattle.gcx_model.specs.Points.{actions, so_far}
use Rattle.gcx_model.specs.Demand.{peak_of}
use Rattle.gcx_model.specs.Seen.{seen_tree}
use Rattle.tree_laws.proofs.Growing.{grow_all-append, leads}
use Rattle.move_laws.proofs.Keeping.{so_far_stays}
use Rattle.tree_laws.proofs.Matches.{added, grow_nodes}
use Rattle.run_laws.proofs.Counts.{peak_step, held_counts, peak_within}
use Rattle.buf_tree.specs.View.{View, capped}
use Rattle.run_part.specs.Actors.{Counted, all_of}
use Rattle.run_part.specs.declared.actors.Tallied.{Tallied}
use Rattle.run_part.specs.Counts.{CountsOf, Peaks}
use Rattle.run_part.specs.Fronts.{may_parts}
use Rattle.run_part.proofs.Writing.{all_is}

-- the actions of a tree stay the first ones
stay : (plan : PlanTree) (ts us : List Said) → may_all ts opening ≡ true → may_all us (seen_tree ts) ≡ true → so_far plan (seen_tree (ts ++ us)) (all_of plan (seen_tree ts)) ≡ actions plan (seen_tree ts)
stay plan ts us a b =
    let l = leads ts opening a in
    let m : Leads (seen_tree ts) (seen_tree (ts ++ us)) = subst (λ (T : Tree). Leads (seen_tree ts) T) (sym (grow_all-append ts us opening)) (leads us (seen_tree ts) b) in
    so_far_stays plan (seen_tree ts) (seen_tree (ts ++ us)) (all_of plan (seen_tree ts)) l m (omega arith) ∙ all_is plan (seen_tree ts)

module _ (core : BodyTree) (good : Good core) (plan : PlanTree) (placed : Placed core plan) where
  -- a greatest number with one token more of a group, behind which so many are held
  peaks_on : (ts us : List Said) (t : Said) → may_all ((ts ++ us) ++ t ∷ []) opening ≡ true → (ahead : ℕ) → length us < ahead → (x y h : ℕ) → y ≡ max x h
      → h ≡ length (held plan (grow t (seen_tree (ts ++ us))) (so_far plan (seen_tree (ts ++ us)) (all_of plan (seen_tree ts)))) → Peaks (peak_of plan (ts ++ us)) ahead x → Peaks (peak_of plan ((ts ++ us) ++ t ∷ [])) ahead y
  peaks_on ts us t may ahead few x y h e is p =
      let parts = may_parts (ts ++ us) (t ∷ []) opening may in
      let whole : may_all (ts ++ (us ++ t ∷ [])) opening ≡ true = ap (λ (z : List Said). may_all z opening) (sym (append_assoc ts us (t ∷ []))) ∙ may in
      let two = may_parts ts (us ++ t ∷ []) opening whole in
      let least = (peak_within core good plan placed (ts ++ us) parts.0).0 t (all_of plan (seen_tree ts)) in
      let mono = (peak_step plan (ts ++ us)).1 (t ∷ []) in
      let low = p.least in
      let near = p.near in
      let most = (peak_within core good plan placed ts two.0).1 (us ++ t ∷ []) two.1 in
      let tree : grow_all (us ++ t ∷ []) (seen_tree ts) ≡ grow t (seen_tree (ts ++ us)) = grow_all-append us (t ∷ []) (seen_tree ts) ∙ ap (grow t) (sym (grow_all-append ts us opening)) in
      let one = may_parts ts us opening parts.0 in
      let acts : so_far plan (seen_tree (ts ++ us)) (all_of plan (seen_tree ts)) ≡ actions plan (seen_tree ts) = stay plan ts us one.0 one.1 in
      let n : length (us ++ t ∷ []) ≡ length us + 1 = length-append us (t ∷ []) in
      let same : length (held plan (grow_all (us ++ t ∷ []) (seen_tree ts)) (actions plan (seen_tree ts))) ≡ h
      = ap (λ (T : Tree). length (held plan T (actions plan (seen_tree ts)))) tree ∙ (ap (λ (A : List Action). length (held plan (grow t (seen_tree (ts ++ us))) A)) (sym acts) ∙ sym is) in
      let peaks : peak_of plan (ts ++ (us ++ t ∷ [])) ≡ peak_of plan ((ts ++ us) ++ t ∷ []) = ap (peak_of plan) (sym (append_assoc ts us (t ∷ []))) in
      record { least = omega arith; near = omega arith }

  -- the counts with one token more of a group
  pub counts_on : (ts us : List Said) (t : Said) → may_all ((ts ++ us) ++ t ∷ []) opening ≡ true → (ahead : ℕ) → length us < ahead → (v w : View) (n m : Tallied) → CountsOf plan (ts ++ us) ahead v n
      → Counted plan t (seen_tree (ts ++ us)) (all_of plan (seen_tree ts)) v w n m → CountsOf plan ((ts ++ us) ++ t ∷ []) ahead w m
  counts_on ts us t may ahead few v w n m c d =
      let P = seen_tree (ts ++ us) in
      let A = so_far plan P (all_of plan (seen_tree ts)) in
      let tree : seen_tree ((ts ++ us) ++ t ∷ []) ≡ grow t P = grow_all-append (ts ++ us) (t ∷ []) opening in
      let fits = (held_counts core good plan placed (grow t P) A).0 in
      let nodes = ap length (grow_nodes t P) ∙ length-append P.nodes (added t P) in
      let before = c.among in
      let peak = d.peak in
      let most = d.most c.store_now in
      let rows = d.rows in
      let long : length (seen_tree ((ts ++ us) ++ t ∷ [])).nodes ≡ length (grow t P).nodes = ap (λ (T : Tree). length T.nodes) tree in
      record {
        given = d.given c.given ∙ ap (λ (T : Tree). capped (sum_given plan T)) (sym tree);
        peak = peaks_on ts us t may ahead few n.peak m.peak (length (held plan (grow t P) A)) d.peak refl c.peak;
        among = omega arith;
        store_now = omega arith;
      }

  -- actions leave the counts as they are
  pub counts_acted : (ts : List Said) (ahead : ℕ) (k : ℕ) (v w : View) (n : Tallied) → length v.rows ≡ length (held plan (seen_tree ts) (so_far plan (seen_tree ts) k)) → length w.rows ≡ length (held plan (seen_tree ts) (so_far plan (seen_tree ts) (all_of plan (seen_tree ts))))
      → w.most ≡ v.most → CountsOf plan ts ahead v n → CountsOf plan ts ahead w n
  counts_acted ts ahead k v w n a b e c =
      let P = seen_tree ts in
      let parts : so_far plan P k ++ drop k (actions plan P) ≡ so_far plan P (all_of plan P) = take-append-drop k (actions plan P) ∙ sym (all_is plan P) in
      let less = (held_counts core good plan placed P (so_far plan P k)).3 (drop k (actions plan P)) in
      let same = ap (λ (A : List Action). length (held plan P A)) parts in
      let now = c.store_now in
      record {
        given = c.given;
        peak = c.peak;
        among = c.among;
        store_now = omega arith;
      }

  -- behind all actions no more rows are seen than were counted
  pub rows_counted : (ts : List Said) → may_all ts opening ≡ true → (ahead : ℕ) (v : View) (n : Tallied) → length v.rows ≡ length (held plan (seen_tree ts) (so_far plan (seen_tree ts) (all_of plan (seen_tree ts)))) → CountsOf plan ts ahead v n
      → length v.rows ≤ n.peak
  rows_counted ts may ahead v n rows c =
      let within = (peak_within core good plan placed ts may).1 [] refl in
      let whole = ap (peak_of plan) (append-nil ts) in
      let all = ap (λ (A : List Action). length (held plan (seen_tree ts) A)) (all_is plan (seen_tree ts)) in
      let least = c.peak.least in
      omega arith

  -- the counts before any token
  pub counts_opened : (ahead : ℕ) → 1 ≤ ahead → (v : View) (n : Tallied) → n.given ≡ capped (sum_given plan opening) → n.peak ≡ 1 → 1 ≤ v.most → length v.rows ≡ length (held plan opening []) → CountsOf plan [] ahead v n
  counts_opened ahead one v n g p m r =
      let fits = (held_counts core good plan placed opening []).0 in
      let some : 1 ≤ length (held plan opening []) = root_held in
      let peak : peak_of plan [] ≡ length (held plan opening []) = omega arith in
      record { given = g; peak = record { least = omega arith; near = omega arith }; among = omega arith; store_now = omega arith }
    where
      root_held : 1 ≤ length (held plan opening [])
      root_held = omega arith
